use Rattle.line_editor.specs.Candidates.{cycle_back, ask_and_turn_effect}
use Rattle.line_editor.specs.Modal.{modal_of}
use Rattle.line_editor.proofs.DoesLemmas.{does_both, does_cut_by}
use Rattle.line_editor.proofs.state.State.turn_on.Goals as goal

pub returns-in_err-take_candidate_back-clause-does : goal.returns-in_err-take_candidate_back-clause-does
returns-in_err-take_candidate_back-clause-does g c =
    let x = modal_of c.args.modal.now in
    does_cut_by (cycle_back x) (ask_and_turn_effect c.args.dir x) _ _ _ _ c.from_residual.ensures.1 c.in_err-take_candidate_back.ensures

pub returns-clause-does : goal.returns-clause-does
returns-clause-does g c =
    let x = modal_of c.args.modal.now in
    does_both (cycle_back x) (ask_and_turn_effect c.args.dir x) _ _ _ _ _ c.in_ok-take_candidate_back.ensures c.ask_and_turn.ensures.does
