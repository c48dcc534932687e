use Rattle.line_keys.specs.InputStates.{custom_in}
use Rattle.line_keys.proofs.Asking.{waits_first}
use Rattle.line_editor.proofs.CommandedLemmas.{turn_refused, turn_unmade, turn_commanded}
use Rattle.line_editor.proofs.state.State.turn.Goals as goal

pub returns-in_err-cmd-clause-turn : goal.returns-in_err-cmd-clause-turn
returns-in_err-cmd-clause-turn g c =
    turn_refused (custom_in c.args.input_state.now g.D.Decides.decides) _ _ _ _ _ _ _ _ _ _ c.from_residual.ensures.1 c.in_err-cmd.ensures.phrase

pub returns-in_err-meet-clause-turn : goal.returns-in_err-meet-clause-turn
returns-in_err-meet-clause-turn g c =
    turn_unmade (custom_in c.args.input_state.now g.D.Decides.decides) _ _ _ _ _ _ _ _ _ _ _ _ _ c.from_residual-in_err-meet.ensures.1
    c.in_ok-cmd.ensures.phrase c.in_err-meet.ensures

pub returns-clause-turn : goal.returns-clause-turn
returns-clause-turn g c =
    turn_commanded (custom_in c.args.input_state.now g.D.Decides.decides) _ _ _ _ _ _ _ _ _ _ _ _ _ _ _ _
    c.in_ok-cmd.ensures.phrase c.in_ok-cmd.ensures.falls c.in_ok-meet.ensures c.reset_for.ensures c.execute.ensures

pub returns-in_err-cmd-clause-asks : goal.returns-in_err-cmd-clause-asks
returns-in_err-cmd-clause-asks g c = waits_first _ _ _ _ c.in_err-cmd.ensures.asks

pub returns-in_err-meet-clause-asks : goal.returns-in_err-meet-clause-asks
returns-in_err-meet-clause-asks g c = waits_first _ _ _ _ c.in_ok-cmd.ensures.asks

pub returns-clause-asks : goal.returns-clause-asks
returns-clause-asks g c = waits_first _ _ _ _ c.in_ok-cmd.ensures.asks
