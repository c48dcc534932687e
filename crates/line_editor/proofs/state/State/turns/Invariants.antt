use Rattle.std.proofs.Common.{◌≡◌}
use Rattle.line_keys.specs.InputStates.{input_of, custom_in}
use Rattle.line_editor.specs.Modal.{modal_of}
use Rattle.line_editor.proofs.CarriesLemmas.{Carries}
use Rattle.line_editor.proofs.state.State.turns.Given as goal

abbrev pub invariant-turns : goal.invariant-turns
invariant-turns g l =
    Carries (custom_in l.fn.input_state g.D.Decides.decides) l.fn.self (input_of l.fn.input_state) l.fn.kill_ring (modal_of l.fn.modal) (g.R.RawReader.feed l.fn.rdr)
    l.self (input_of l.input_state) l.kill_ring (modal_of l.modal) (g.R.RawReader.feed l.rdr)
    × (l.input_state.custom_bindings ≡ l.fn.input_state.custom_bindings)

abbrev pub decreases-turns : goal.decreases-turns
decreases-turns g l = (g.R.RawReader.feed l.rdr).bound
