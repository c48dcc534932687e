use Rattle.line_editor.specs.Drawing.{refresh_effect}
use Rattle.line_editor.specs.Searching.{hit_undo_effect, place_effect}
use Rattle.line_editor.specs.Values.{then_do}
use Rattle.line_editor.proofs.DoesLemmas.{does_both, does_cut_by}
use Rattle.line_editor.proofs.state.State.give_up.Goals as goal

pub returns-in_err-take_hit_back-clause-does : goal.returns-in_err-take_hit_back-clause-does
returns-in_err-take_hit_back-clause-does g c =
    does_cut_by (hit_undo_effect c.args.modal.now.put) (then_do (place_effect c.args.modal.now.place) refresh_effect) _ _ _ _ c.from_residual.ensures.1 c.in_err-take_hit_back.ensures.does

pub returns-clause-does : goal.returns-clause-does
returns-clause-does g c =
    does_both (hit_undo_effect c.args.modal.now.put) (then_do (place_effect c.args.modal.now.place) refresh_effect) _ _ _ _ _ c.in_ok-take_hit_back.ensures.does
    (does_both (place_effect c.args.modal.now.place) refresh_effect _ _ _ _ _ c.put_cursor.ensures.does c.refresh.ensures.does)
