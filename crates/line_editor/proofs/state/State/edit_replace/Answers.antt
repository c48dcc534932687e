use Rattle.line_editor.specs.Killing.{kill_effect}
use Rattle.line_editor.proofs.DoesLemmas.{does_both, does_cut_by}
use Rattle.line_editor.proofs.state.State.edit_replace.Goals as goal
use Rattle.std.specs.Option.{option_map_or}
use Rattle.line_editor.specs.Inserting.{insert_text}
use Rattle.line_editor.specs.Values.{no_effect}

pub returns-in_err-edit_kill-clause-does : goal.returns-in_err-edit_kill-clause-does
returns-in_err-edit_kill-clause-does g c =
    does_cut_by (kill_effect c.args.movement.now) (option_map_or insert_text c.args.text.now no_effect) _ _ _ _ c.from_residual.ensures.1 c.in_err-edit_kill.ensures.does

pub returns-clause-does : goal.returns-clause-does
returns-clause-does g c =
    does_both (kill_effect c.args.movement.now) (option_map_or insert_text c.args.text.now no_effect) _ _ _ _ _ c.in_ok-edit_kill.ensures.does c.insert_some.ensures.does
