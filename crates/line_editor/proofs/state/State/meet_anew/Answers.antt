use Rattle.line_editor.specs.Drawing.{refresh_effect}
use Rattle.line_editor.specs.ModalCommands.{meeting_at_rest}
use Rattle.line_editor.specs.Modal.{modal_of, modal_at_rest}
use Rattle.line_editor.proofs.CandidateLemmas.{met_then, met_cut}
use Rattle.line_editor.proofs.state.State.meet_anew.Goals as goal

pub returns-in_err-refresh : goal.returns-in_err-refresh
returns-in_err-refresh g c = met_cut refresh_effect (meeting_at_rest c.args.wish (modal_at_rest (modal_of c.args.modal.now)) c.args.cmd.now) c.args.cmd.now _ _ _ _ _ c.from_residual.ensures.1 c.in_err-refresh.ensures.does

pub returns : goal.returns
returns g c = met_then refresh_effect (meeting_at_rest c.args.wish (modal_at_rest (modal_of c.args.modal.now)) c.args.cmd.now) c.args.cmd.now _ _ _ _ _ _ c.in_ok-refresh.ensures.does c.met_resting.ensures
