use Rattle.line_editor.specs.Completing.{word_updated}
use Rattle.line_editor.specs.Drawing.{refresh_effect}
use Rattle.line_editor.proofs.DoesLemmas.{does_both, does_cut_by}
use Rattle.line_editor.proofs.state.State.complete_word.Goals as goal

pub returns-in_err-update_word : goal.returns-in_err-update_word
returns-in_err-update_word g c = record { does = does_cut_by (word_updated c.args.start c.args.text.now) refresh_effect _ _ _ _ c.from_residual.ensures.1 c.in_err-update_word.ensures.does }

pub returns : goal.returns
returns g c = record { does = does_both (word_updated c.args.start c.args.text.now) refresh_effect _ _ _ _ _ c.in_ok-update_word.ensures.does c.refresh.ensures.does }
