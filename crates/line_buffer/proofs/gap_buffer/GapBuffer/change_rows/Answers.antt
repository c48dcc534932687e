use Rattle.std.proofs.Common.{rules, refl, arith}
use Rattle.line_buffer.proofs.LeftLemmas.{edits_refused}
use Rattle.line_buffer.proofs.RowStepLemmas.{rows_told_init, row_stops, rows_told_all, rows_told_more}
use Rattle.line_buffer.proofs.gap_buffer.GapBuffer.change_rows.Goals as goal

pub rows-init : goal.rows-init
rows-init g c = rows_told_init _ _ _ _ _ _ _ c.requires.order c.gap-gap.ensures.boundary c.requires.end

pub returns-in_err-changed : goal.returns-in_err-changed
returns-in_err-changed g c =
    edits_refused _ _ c.from_residual.ensures.1 (row_stops _ _ _ _ _ _ _ _ _ _ _ c.rows.invariant _ c.row_end_before-end.ensures.value _ _ c.in_err-changed.ensures.edits.refused c.in_err-changed.ensures.edits.kept)

pub returns-then-is_last : goal.returns-then-is_last
returns-then-is_last g c =
    let all =
    rows_told_all _ g.C.DeleteListener.refuses _ _ _ _ _ _ _ _ _ c.rows.invariant _ c.row_end_before-end.ensures.value _ _ _ c.in_ok-changed.ensures.edits.told c.in_ok-changed.ensures.edits.replays c.in_ok-changed.ensures.edits.line c.in_ok-changed.ensures.answer c.if-is_last.true in
    record { answer = refl; told = all.0; line = all.1; left = tt; settings = search rules }

pub overflow_add-last : goal.overflow_add-last
overflow_add-last g c =
    let more =
    rows_told_more _ g.C.DeleteListener.refuses _ _ _ _ _ _ _ _ _ c.rows.invariant _ c.row_end_before-end.ensures.value _ _ _ c.in_ok-changed.ensures.edits.told c.in_ok-changed.ensures.edits.replays c.in_ok-changed.ensures.edits.line c.in_ok-changed.ensures.answer
    (omega (arith, c.if-is_last.false, c.row_end_before-end.ensures.before)) c.after-text.ensures.utf8 c.in_ok-changed.ensures.bound c.in_ok-changed.ensures.rest in
    omega (arith, more.end.0, c.len-longest.type_inv, c.len-longest.ensures)

pub advance-requires-clause-boundary : goal.advance-requires-clause-boundary
advance-requires-clause-boundary g c =
    let more =
    rows_told_more _ g.C.DeleteListener.refuses _ _ _ _ _ _ _ _ _ c.rows.invariant _ c.row_end_before-end.ensures.value _ _ _ c.in_ok-changed.ensures.edits.told c.in_ok-changed.ensures.edits.replays c.in_ok-changed.ensures.edits.line c.in_ok-changed.ensures.answer
    (omega (arith, c.if-is_last.false, c.row_end_before-end.ensures.before)) c.after-text.ensures.utf8 c.in_ok-changed.ensures.bound c.in_ok-changed.ensures.rest in
    more.start

pub overflow_add-changed : goal.overflow_add-changed
overflow_add-changed g c =
    let more =
    rows_told_more _ g.C.DeleteListener.refuses _ _ _ _ _ _ _ _ _ c.rows.invariant _ c.row_end_before-end.ensures.value _ _ _ c.in_ok-changed.ensures.edits.told c.in_ok-changed.ensures.edits.replays c.in_ok-changed.ensures.edits.line c.in_ok-changed.ensures.answer
    (omega (arith, c.if-is_last.false, c.row_end_before-end.ensures.before)) c.after-text.ensures.utf8 c.in_ok-changed.ensures.bound c.in_ok-changed.ensures.rest in
    omega (arith, more.start.0, c.len-longest.type_inv, c.len-longest.ensures)

pub rows-preserved : goal.rows-preserved
rows-preserved g c =
    let more =
    rows_told_more _ g.C.DeleteListener.refuses _ _ _ _ _ _ _ _ _ c.rows.invariant _ c.row_end_before-end.ensures.value _ _ _ c.in_ok-changed.ensures.edits.told c.in_ok-changed.ensures.edits.replays c.in_ok-changed.ensures.edits.line c.in_ok-changed.ensures.answer
    (omega (arith, c.if-is_last.false, c.row_end_before-end.ensures.before)) c.after-text.ensures.utf8 c.in_ok-changed.ensures.bound c.in_ok-changed.ensures.rest in
    rw c.advance.ensures more
