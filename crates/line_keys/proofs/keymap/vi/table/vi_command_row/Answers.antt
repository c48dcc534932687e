use Rattle.std.proofs.Common.{true, ◌++◌}
use Rattle.line_keys.specs.ViTables.{vi_move_rows, vi_edit_rows, vi_turn_rows, vi_reading_rows, action_of}
use Rattle.line_keys.proofs.RowActions.{in_first, in_rest}
use Rattle.line_keys.proofs.keymap.vi.table.vi_command_row.Goals as goal

pub returns-in-Some : goal.returns-in-Some
unfolding action_of
returns-in-Some c =
    in_first c.args.n true c.args.key vi_move_rows (vi_edit_rows c.args.modal ++ (vi_turn_rows c.args.modal ++ vi_reading_rows)) _ c.in-Some.ensures

pub returns-in-Some-vi_edit_row : goal.returns-in-Some-vi_edit_row
unfolding action_of
returns-in-Some-vi_edit_row c =
    let rest = vi_turn_rows c.args.modal ++ vi_reading_rows in
    in_rest c.args.n true c.args.key vi_move_rows (vi_edit_rows c.args.modal ++ rest) _ c.in_default.ensures
    (in_first c.args.n true c.args.key (vi_edit_rows c.args.modal) rest _ c.in-Some-vi_edit_row.ensures)

pub returns-in-Some-vi_turn_row : goal.returns-in-Some-vi_turn_row
unfolding action_of
returns-in-Some-vi_turn_row c =
    let rest = vi_turn_rows c.args.modal ++ vi_reading_rows in
    in_rest c.args.n true c.args.key vi_move_rows (vi_edit_rows c.args.modal ++ rest) _ c.in_default.ensures
    (in_rest c.args.n true c.args.key (vi_edit_rows c.args.modal) rest _ c.in_default-vi_edit_row.ensures
    (in_first c.args.n true c.args.key (vi_turn_rows c.args.modal) vi_reading_rows _ c.in-Some-vi_turn_row.ensures))

pub returns-in-None : goal.returns-in-None
unfolding action_of
returns-in-None c =
    let rest = vi_turn_rows c.args.modal ++ vi_reading_rows in
    in_rest c.args.n true c.args.key vi_move_rows (vi_edit_rows c.args.modal ++ rest) _ c.in_default.ensures
    (in_rest c.args.n true c.args.key (vi_edit_rows c.args.modal) rest _ c.in_default-vi_edit_row.ensures
    (in_rest c.args.n true c.args.key (vi_turn_rows c.args.modal) vi_reading_rows _ c.in-None.ensures (c.vi_reading_row.ensures c.args.n)))
