use Rattle.std.proofs.Common.{◌∙◌}
use Rattle.line_editor.specs.Drawing.{line_spans}
use Rattle.line_editor.specs.States.{value_of, setting_of}
use Rattle.line_editor.proofs.SharedLemmas.{plain_kept}
use Rattle.line_editor.proofs.SinceLemmas.{no_line_spans}
use Rattle.line_editor.proofs.state.State.kept_upto.Goals as goal

pub returns-then-not-self : goal.returns-then-not-self
returns-then-not-self g c =
    let s = c.args.self.now in
    let before = c.args.since.now in
    c.from.ensures
    ∙ plain_kept before.from before.styles (line_spans (setting_of s) (value_of s)) (c.is_plain.ensures c.if-is_plain.true)
    (no_line_spans (setting_of s) (value_of s) c.if-not-self.true)
