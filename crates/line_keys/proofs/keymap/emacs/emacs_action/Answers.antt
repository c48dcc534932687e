use Rattle.std.proofs.Common.{◌++◌}
use Rattle.line_keys.specs.Emacs.{typed_rows, emacs_command_rows, emacs_reading_rows, emacs_action}
use Rattle.line_keys.proofs.RowActions.{in_first, in_rest}
use Rattle.line_keys.proofs.keymap.emacs.emacs_action.Goals as goal

pub returns-in-Some : goal.returns-in-Some
unfolding emacs_action
returns-in-Some g c =
    let rows = emacs_command_rows (g.W.Refresher.display.shown c.args.wrt.now) in
    in_first c.args.count.n c.args.count.positive c.args.key typed_rows (rows ++ emacs_reading_rows) _ c.in-Some.ensures

pub returns-in-Some-emacs_row : goal.returns-in-Some-emacs_row
unfolding emacs_action
returns-in-Some-emacs_row g c =
    let rows = emacs_command_rows (g.W.Refresher.display.shown c.args.wrt.now) in
    in_rest c.args.count.n c.args.count.positive c.args.key typed_rows (rows ++ emacs_reading_rows) _ c.in_default.ensures
    (in_first c.args.count.n c.args.count.positive c.args.key rows emacs_reading_rows _ c.in-Some-emacs_row.ensures)

pub returns-in-None : goal.returns-in-None
unfolding emacs_action
returns-in-None g c =
    let rows = emacs_command_rows (g.W.Refresher.display.shown c.args.wrt.now) in
    in_rest c.args.count.n c.args.count.positive c.args.key typed_rows (rows ++ emacs_reading_rows) _ c.in_default.ensures
    (in_rest c.args.count.n c.args.count.positive c.args.key rows emacs_reading_rows _ c.in-None.ensures (c.reading_row.ensures c.args.count.n))
