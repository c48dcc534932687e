use Rattle.std.proofs.Common.{rules, ◌≡◌, ap}
use Rattle.line_keys.specs.CustomBindings.{custom_of}
use Rattle.line_keys.specs.InputStates.{custom_in, input_of}
use Rattle.line_editor.proofs.RunLemmas.{not_begun_by, same_reads, runs_by}
use Rattle.line_editor.proofs.line_run.run.Goals as goal

pub returns-in_default : goal.returns-in_default
returns-in_default g c = not_begun_by _ _ _ _ _ _ _ _ _ _ _ _ c.unread.ensures

pub returns : goal.returns
returns g c =
    let means = g.D.Decides.decides in
    let input_state = c.in-Ok-new.input_state in
    let same : custom_in input_state means ≡ custom_of c.args.bindings.now means = ap (λ b. custom_of b.now means) c.in-Ok-new.ensures.1 in
    let reads = same_reads (custom_in input_state means) (custom_of c.args.bindings.now means) (input_of input_state) _ _ _ _ _ _ _ _ _ _ same c.read_line-read.ensures in
    runs_by _ _ c.args.history.now _ _ c.of_parts-state.result c.read_line-read.new.self _ _ c.of_parts-state.ensures c.new-ctx.ensures.history c.new-ctx.ensures.place
    (custom_of c.args.bindings.now means) (input_of input_state) _ c.in-Ok-new.ensures.0 _ _ _ _ _ _ (search rules) (search rules) _ _ _ reads _ c.ran.ensures.out c.ran.ensures.helper c.ran.ensures.outcome c.ran.ensures.line
