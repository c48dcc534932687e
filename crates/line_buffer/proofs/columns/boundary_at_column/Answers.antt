use Rattle.std.proofs.Common.{◌+◌, ◌<◌, min, length, sym, ap, ◌∙◌, arith}
use Rattle.std.proofs.lemmas.Str.{IsCharBoundary-start}
use Rattle.line_buffer.proofs.ColumnLemmas.{counted, enough, walks_row_init, walks_row_at, walks_row_piece, walks_row_hit, walks_row_turn, walks_row_end, front_of, boundary_in_front, counted_in_front}
use Rattle.line_buffer.proofs.columns.boundary_at_column.Goals as goal

pub loop-start-init : goal.loop-start-init
loop-start-init c =
    rw (c.into_iter-start-iterator.ensures.into_iter_gives, c.rev-start-items.ensures.source, c.grapheme_indices.ensures.left)
    (walks_row_init c.args.mode 18446744073709551615 enough c.args.first c.args.column c.args.row.now c.columns-width.result c.utf8.row c.columns-width.ensures)

pub overflow_add-end : goal.overflow_add-end
overflow_add-end c =
    omega (arith, (walks_row_piece _ 18446744073709551615 enough _ _ c.args.row.now _ _ (c.in-Some.start, c.in-Some.cluster.now) c.in-Some.ensures.steps _ c.loop-start.invariant).end.0)

pub range-requires-clause-end_boundary : goal.range-requires-clause-end_boundary
range-requires-clause-end_boundary c = (walks_row_piece _ 18446744073709551615 enough _ _ c.args.row.now _ _ (c.in-Some.start, c.in-Some.cluster.now) c.in-Some.ensures.steps _ c.loop-start.invariant).end

pub returns-then-first-min-clause-value : goal.returns-then-first-min-clause-value
returns-then-first-min-clause-value c =
    walks_row_hit _ 18446744073709551615 enough c.args.first c.args.column c.args.row.now _ _ (c.in-Some.start, c.in-Some.cluster.now) c.in-Some.ensures.steps _ c.loop-start.invariant (omega arith)

pub returns-then-first-min-clause-boundary : goal.returns-then-first-min-clause-boundary
returns-then-first-min-clause-boundary c = (walks_row_piece _ 18446744073709551615 enough _ _ c.args.row.now _ _ (c.in-Some.start, c.in-Some.cluster.now) c.in-Some.ensures.steps _ c.loop-start.invariant).end

pub columns_up_to-width-requires-clause-boundary : goal.columns_up_to-width-requires-clause-boundary
columns_up_to-width-requires-clause-boundary c =
    let piece = walks_row_piece _ 18446744073709551615 enough _ _ c.args.row.now _ _ (c.in-Some.start, c.in-Some.cluster.now) c.in-Some.ensures.steps _ c.loop-start.invariant in
    boundary_in_front c.args.row.now _ c.in-Some.start (c.in-Some.start + length c.in-Some.cluster.now) c.utf8.row c.range.utf8
    (front_of c.args.row.now _ _ c.range.ensures.value) (omega arith) piece.end.0 piece.start

pub columns_up_to-width-requires-clause-whole : goal.columns_up_to-width-requires-clause-whole
columns_up_to-width-requires-clause-whole c =
    walks_row_at _ 18446744073709551615 enough _ _ c.args.row.now _ _ (c.in-Some.start, c.in-Some.cluster.now) c.in-Some.ensures.steps _ c.loop-start.invariant
    ∙ ap (counted 18446744073709551615 c.args.mode) (sym (front_of c.args.row.now _ _ c.range.ensures.value))

pub loop-start-preserved : goal.loop-start-preserved
loop-start-preserved c =
    let past : c.args.column < c.args.first + min c.loop-start.width 65535 = omega arith in
    walks_row_turn _ 18446744073709551615 enough c.args.first c.args.column c.args.row.now _ _ (c.in-Some.start, c.in-Some.cluster.now) c.in-Some.ensures.steps _ c.loop-start.invariant _ past
    (c.columns_up_to-width.ensures ∙ counted_in_front 18446744073709551615 _ c.args.row.now c.range.result.now c.in-Some.start (c.in-Some.start + length c.in-Some.cluster.now) (front_of c.args.row.now _ _ c.range.ensures.value) (omega arith))

pub returns-clause-value : goal.returns-clause-value
returns-clause-value c = walks_row_end _ 18446744073709551615 enough c.args.first c.args.column c.args.row.now _ _ c.loop-start.invariant c.in-None.ensures.steps.0

pub returns-clause-boundary : goal.returns-clause-boundary
returns-clause-boundary c = IsCharBoundary-start c.args.row.now c.utf8.row
