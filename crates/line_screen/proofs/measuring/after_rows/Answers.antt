use Rattle.std.proofs.Common.{◌≤◌, length, lit<, arith}
use Rattle.std.proofs.lemmas.List.{length_push, drop_all}
use Rattle.std.proofs.lemmas.Iterator.Consumers.{YieldsList-turn, YieldsList-end}
use Rattle.std.proofs.lemmas.Iterator.Splits.{YieldsList-from_str_split}
use Rattle.line_screen.specs.Drawing.{next_items, split_rows}
use Rattle.line_screen.specs.Measure.{widths_by}
use Rattle.line_screen.proofs.Saturating.{reached_start, reached_on, reached_end}
use Rattle.line_screen.proofs.RowsLeft.{left_takes, left_ends}
use Rattle.line_screen.proofs.measuring.after_rows.Goals as goal

pub loop-row-init : goal.loop-row-init
loop-row-init c = reached_start c.requires.inside (omega arith)

pub loop-row-preserved : goal.loop-row-preserved
loop-row-preserved c =
    let wide = widths_by c.args.grid.mode c.args.grid.tab c.args.grid.columns in
    let text = c.args.text.now in
    let turn = YieldsList-turn (YieldsList-from_str_split 10 text (lit< tt) (cc) (cc) (cc)) c.loop-row.yielded _ c.loop-row.yielded_by _ _ c.in-Some.row c.in-Some.is c.next.ensures.steps in
    reached_on (next_items wide c.loop-row.is_first c.in-Some.row.now) c.loop-row.invariant
    (left_takes wide text c.loop-row.is_first (length c.loop-row.yielded) _ c.in-Some.row.now turn.0 turn.1
    (length_push c.loop-row.yielded c.in-Some.row)) c.after_next_row-at.ensures

pub returns : goal.returns
returns c =
    let wide = widths_by c.args.grid.mode c.args.grid.tab c.args.grid.columns in
    let text = c.args.text.now in
    let last = YieldsList-end (YieldsList-from_str_split 10 text (lit< tt) (cc) (cc) (cc)) c.loop-row.yielded _ c.loop-row.yielded_by _ _ c.in-None.is c.next.ensures.steps in
    let all : length (split_rows text) ≤ length c.loop-row.yielded = omega (arith, last.1) in
    reached_end c.loop-row.invariant (left_ends wide text c.loop-row.is_first (length c.loop-row.yielded)
    (drop_all (length c.loop-row.yielded) (split_rows text) all))
