use Rattle.line_keys.specs.Common.{common_action, common_command_rows, common_reading_rows}
use Rattle.line_keys.proofs.RowActions.{in_first, in_rest}
use Rattle.line_keys.proofs.keymap.common.common_action.Goals as goal

pub returns-in-Some : goal.returns-in-Some
unfolding common_action
returns-in-Some g c =
    in_first c.args.count.n c.args.count.positive c.args.key (common_command_rows c.args.mode (g.W.Refresher.display.shown c.args.wrt.now)) common_reading_rows _ c.in-Some.ensures

pub returns-in-None : goal.returns-in-None
unfolding common_action
returns-in-None g c =
    in_rest c.args.count.n c.args.count.positive c.args.key (common_command_rows c.args.mode (g.W.Refresher.display.shown c.args.wrt.now)) common_reading_rows _ c.in-None.ensures
    (c.reading_row.ensures c.args.count.n c.args.count.positive)
