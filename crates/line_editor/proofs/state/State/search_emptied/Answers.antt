use Rattle.line_editor.specs.Modal.{modal_of}
use Rattle.line_editor.specs.Searching.{hit_undo_effect, place_effect, search_drawn, modal_with_empty_query}
use Rattle.line_editor.specs.Values.{then_do}
use Rattle.line_editor.proofs.DoesLemmas.{does_both, does_cut_by}
use Rattle.line_editor.proofs.state.State.search_emptied.Goals as goal

pub returns-in_err-take_hit_back-clause-does : goal.returns-in_err-take_hit_back-clause-does
returns-in_err-take_hit_back-clause-does g c =
    let q = modal_of c.args.modal.now in
    does_cut_by (hit_undo_effect q.put) (then_do (place_effect q.place) (search_drawn (modal_with_empty_query q))) _ _ _ _ c.from_residual.ensures.1 c.in_err-take_hit_back.ensures.does

pub returns-clause-does : goal.returns-clause-does
returns-clause-does g c =
    let q = modal_of c.args.modal.now in
    does_both (hit_undo_effect q.put) (then_do (place_effect q.place) (search_drawn (modal_with_empty_query q))) _ _ _ _ _ c.in_ok-take_hit_back.ensures.does
    (does_both (place_effect q.place) (search_drawn (modal_with_empty_query q)) _ _ _ _ _ c.put_cursor.ensures.does c.show_search.ensures.does)
