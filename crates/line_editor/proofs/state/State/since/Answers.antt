use Rattle.std.proofs.Common.{◌≡◌, true, sym, ap, ◌∙◌}
use Rattle.line_editor.specs.Characters.{begins_apart_at}
use Rattle.line_editor.proofs.SinceLemmas.{since_noted}
use Rattle.line_editor.proofs.state.State.since.Goals as goal

pub returns-then-begins_apart_at : goal.returns-then-begins_apart_at
returns-then-begins_apart_at g c =
    let s = c.args.self.now in
    let text = s.recorded.line.text in
    let from = c.args.from in
    let apart : begins_apart_at text from ≡ true =
    ap (λ t. begins_apart_at t from) (sym c.as_str.ensures.value) ∙ sym c.begins_apart_at.ensures.value ∙ c.if-begins_apart_at.true in
    since_noted s.config.now.partial_redraw (begins_apart_at text from) from _ _ c.new.result
    (sym c.partial_redraw.ensures ∙ c.if-partial_redraw.true) apart c.new.ensures c.requires.noted
