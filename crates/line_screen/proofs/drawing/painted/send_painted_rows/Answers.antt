-- A text row by row.
use Rattle.std.proofs.Common.{◌≤◌, length, lit<, arith, refl}
use Rattle.std.proofs.lemmas.List.{length_push, drop_all}
use Rattle.std.proofs.lemmas.Iterator.Consumers.{YieldsList-turn, YieldsList-end}
use Rattle.std.proofs.lemmas.Iterator.Splits.{YieldsList-from_str_split}
use Rattle.line_screen.specs.Colours.{spans_in, brush_paints}
use Rattle.line_screen.specs.Drawing.{split_rows}
use Rattle.line_screen.specs.Measure.{widths_by}
use Rattle.line_screen.proofs.Runs.{so_far_start, so_far_on, so_far_done, so_far_cut}
use Rattle.line_screen.proofs.PaintCode.{rows_take, rows_end}
use Rattle.line_screen.proofs.drawing.painted.send_painted_rows.Goals as goal
use Rattle.line_screen.proofs.Parts.{next_painted}

pub loop-row-init : goal.loop-row-init
loop-row-init g c = so_far_start c.requires.inside

pub loop-row-preserved : goal.loop-row-preserved
loop-row-preserved g c =
    let wide = widths_by c.args.grid.mode c.args.grid.tab c.args.grid.columns in
    let text = c.args.text.now in
    let spans = spans_in (brush_paints g.H.Highlighter.marks c.args.brush.now) c.loop-row.left in
    let turn = YieldsList-turn (YieldsList-from_str_split 10 text (lit< tt) (cc) (cc) (cc)) c.loop-row.yielded _ c.loop-row.yielded_by _ _ c.in-Some.row c.in-Some.is c.next.ensures.steps in
    so_far_on (next_painted wide c.loop-row.is_first spans c.in-Some.row.now) c.loop-row.invariant
    (rows_take wide text c.loop-row.is_first spans _ (length c.loop-row.yielded) _ c.in-Some.row.now turn.0 turn.1
    (length_push c.loop-row.yielded c.in-Some.row) c.behind_row-left.ensures) c.in_ok-col.ensures

pub returns-in_err-col : goal.returns-in_err-col
returns-in_err-col g c =
    let wide = widths_by c.args.grid.mode c.args.grid.tab c.args.grid.columns in
    let text = c.args.text.now in
    let spans = spans_in (brush_paints g.H.Highlighter.marks c.args.brush.now) c.loop-row.left in
    let turn = YieldsList-turn (YieldsList-from_str_split 10 text (lit< tt) (cc) (cc) (cc)) c.loop-row.yielded _ c.loop-row.yielded_by _ _ c.in-Some.row c.in-Some.is c.next.ensures.steps in
    so_far_cut _ (next_painted wide c.loop-row.is_first spans c.in-Some.row.now) _ c.loop-row.invariant
    (rows_take wide text c.loop-row.is_first spans _ (length c.loop-row.yielded) _ c.in-Some.row.now turn.0 turn.1
    (length_push c.loop-row.yielded c.in-Some.row) refl) c.in_err-col.ensures c.from_residual.ensures.1

pub returns : goal.returns
returns g c =
    let wide = widths_by c.args.grid.mode c.args.grid.tab c.args.grid.columns in
    let text = c.args.text.now in
    let last = YieldsList-end (YieldsList-from_str_split 10 text (lit< tt) (cc) (cc) (cc)) c.loop-row.yielded _ c.loop-row.yielded_by _ _ c.in-None.is c.next.ensures.steps in
    let all : length (split_rows text) ≤ length c.loop-row.yielded = omega (arith, last.1) in
    so_far_done c.loop-row.invariant
    (rows_end wide text c.loop-row.is_first (spans_in (brush_paints g.H.Highlighter.marks c.args.brush.now) c.loop-row.left) (length c.loop-row.yielded) (drop_all (length c.loop-row.yielded) (split_rows text) all))
