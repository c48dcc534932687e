use Rattle.std.proofs.Common.{◌≡◌, ap, subst, ◌∙◌}
use Rattle.line_editor.specs.Drawing.{line_spans}
use Rattle.line_editor.specs.SharedStyles.{noted_styles, told_styles}
use Rattle.line_editor.proofs.SharedLemmas.{shared_styles}
use Rattle.line_editor.specs.States.{value_of, setting_of}
use Rattle.line_editor.proofs.state.State.kept_in_styles.Goals as goal

pub returns : goal.returns
returns g c =
    let s = c.args.self.now in
    c.kept_upto.ensures
    ∙ ap (shared_styles c.args.since.now.styles)
    (subst (λ n. noted_styles n c.line_spans.result ≡ told_styles n (line_spans (setting_of s) (value_of s))) c.from.ensures c.line_spans.ensures)
