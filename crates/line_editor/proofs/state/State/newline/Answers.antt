use Rattle.line_editor.specs.Accepting.{bare}
use Rattle.line_editor.specs.Inserting.{insert_char}
use Rattle.line_editor.proofs.DoesLemmas.{does_both, does_cut_by}
use Rattle.line_editor.proofs.state.State.newline.Goals as goal

pub returns-in_err-bare_line : goal.returns-in_err-bare_line
returns-in_err-bare_line g c = record { does = does_cut_by bare (insert_char 10 1) _ _ _ _ c.from_residual.ensures.1 c.in_err-bare_line.ensures.does }

pub returns : goal.returns
returns g c = record { does = does_both bare (insert_char 10 1) _ _ _ _ _ c.in_ok-bare_line.ensures.does c.edit_insert.ensures.does }
