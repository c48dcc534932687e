use Rattle.std.proofs.Common.{◌≤◌, length, lit<, arith}
use Rattle.std.proofs.lemmas.List.{length_push, drop_all}
use Rattle.std.proofs.lemmas.Iterator.Consumers.{YieldsList-turn, YieldsList-end}
use Rattle.std.proofs.lemmas.Iterator.Splits.{YieldsList-from_str_split}
use Rattle.line_screen.specs.Drawing.{next_items, split_rows}
use Rattle.line_screen.specs.Measure.{widths_by}
use Rattle.line_screen.proofs.Runs.{so_far_start, so_far_on, so_far_done, so_far_cut}
use Rattle.line_screen.proofs.RowsLeft.{left_takes, left_ends}
use Rattle.line_screen.proofs.drawing.text.send_rows.Goals as goal

pub loop-row-init : goal.loop-row-init
loop-row-init g c = so_far_start c.requires.inside

pub loop-row-preserved : goal.loop-row-preserved
loop-row-preserved g c =
    let wide = widths_by c.args.grid.mode c.args.grid.tab c.args.grid.columns in
    let text = c.args.text.now in
    let turn = YieldsList-turn (YieldsList-from_str_split 10 text (lit< tt) (cc) (cc) (cc)) c.loop-row.yielded _ c.loop-row.yielded_by _ _ c.in-Some.row c.in-Some.is c.next.ensures.steps in
    so_far_on (next_items wide c.loop-row.is_first c.in-Some.row.now) c.loop-row.invariant
    (left_takes wide text c.loop-row.is_first (length c.loop-row.yielded) _ c.in-Some.row.now turn.0 turn.1
    (length_push c.loop-row.yielded c.in-Some.row)) c.in_ok-col.ensures

pub returns-in_err-col : goal.returns-in_err-col
returns-in_err-col g c =
    let wide = widths_by c.args.grid.mode c.args.grid.tab c.args.grid.columns in
    let text = c.args.text.now in
    let turn = YieldsList-turn (YieldsList-from_str_split 10 text (lit< tt) (cc) (cc) (cc)) c.loop-row.yielded _ c.loop-row.yielded_by _ _ c.in-Some.row c.in-Some.is c.next.ensures.steps in
    so_far_cut _ (next_items wide c.loop-row.is_first c.in-Some.row.now) _ c.loop-row.invariant
    (left_takes wide text c.loop-row.is_first (length c.loop-row.yielded) _ c.in-Some.row.now turn.0 turn.1 (length_push c.loop-row.yielded c.in-Some.row))
    c.in_err-col.ensures c.from_residual.ensures.1

pub returns : goal.returns
returns g c =
    let wide = widths_by c.args.grid.mode c.args.grid.tab c.args.grid.columns in
    let text = c.args.text.now in
    let last = YieldsList-end (YieldsList-from_str_split 10 text (lit< tt) (cc) (cc) (cc)) c.loop-row.yielded _ c.loop-row.yielded_by _ _ c.in-None.is c.next.ensures.steps in
    let all : length (split_rows text) ≤ length c.loop-row.yielded = omega (arith, last.1) in
    so_far_done c.loop-row.invariant (left_ends wide text c.loop-row.is_first (length c.loop-row.yielded)
    (drop_all (length c.loop-row.yielded) (split_rows text) all))
