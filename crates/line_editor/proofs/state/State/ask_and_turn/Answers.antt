use Rattle.std.proofs.Common.{map}
use Rattle.line_help.specs.Completion.{Completion}
use Rattle.line_editor.specs.Candidates.{turn_effect, cycle_at}
use Rattle.line_editor.specs.Modal.{modal_of}
use Rattle.line_editor.proofs.CandidateLemmas.{asking_made, asking_refused}
use Rattle.line_editor.proofs.state.State.ask_and_turn.Goals as goal
use Rattle.std.specs.Prelude.{length}

pub returns-in_err-start-clause-does : goal.returns-in_err-start-clause-does
returns-in_err-start-clause-does g c =
    asking_refused (λ (found : Completion). turn_effect (cycle_at c.args.dir (modal_of c.args.modal.now).candidate (length found.candidates)) found) _ _ _ c.from_residual.ensures.1 c.in_err-start.ensures.helps.fault

pub returns-clause-does : goal.returns-clause-does
returns-clause-does g c =
    let found : Completion = record { start = c.in_ok-start.start; candidates = map g.H.Candidate.Candidate.offers c.in_ok-start.candidates.items } in
    asking_made (λ (found : Completion). turn_effect (cycle_at c.args.dir (modal_of c.args.modal.now).candidate (length found.candidates)) found) found _ _ _ c.in_ok-start.ensures.found c.in_ok-start.ensures.helps.works (rw c.deref.ensures.value at c.turn_next.ensures.does)
