use Rattle.std.proofs.Common.{◌≡◌, ◌-◌, ◌+◌, ◌<◌, ap, arith}
use Rattle.std.proofs.lemmas.Str.{IsCharBoundary-before_ascii}
use Rattle.line_buffer.proofs.RowWalkLemmas.{walks_up_init, walks_up_turn}
use Rattle.line_buffer.proofs.rows.nth_start_above.Goals as goal
use Rattle.line_buffer.proofs.ChainLemmas.{search_ended, search_spent}
use Rattle.line_buffer.proofs.RowStartLemmas.{rows_over}

pub loop-init : goal.loop-init
loop-init c = let all : c.args.n - 0 ≡ c.args.n = omega arith in walks_up_init c.args.text.now c.args.n _ _ all c.last_row_start-start.ensures.value

pub range-requires-clause-end_boundary : goal.range-requires-clause-end_boundary
range-requires-clause-end_boundary c =
    let some : 0 < c.loop.start = omega arith in
    let line = c.loop.invariant.newline some in
    IsCharBoundary-before_ascii c.args.text.now (c.loop.start - 1) line.0 (omega (arith, line.1))

pub loop-preserved : goal.loop-preserved
loop-preserved c =
    let one : c.args.n - c.loop.counter ≡ (c.args.n - (c.loop.counter + 1)) + 1 = omega arith in
    walks_up_turn _ _ _ _ _ _ c.range.result.now _ c.loop.invariant c.utf8.text one c.if-start-eq0.false c.range.ensures.value c.last_row_start-start-in-loop.ensures.value

pub returns-after-loop-clause-value : goal.returns-after-loop-clause-value
returns-after-loop-clause-value c =
    let spent : c.args.n - c.loop.counter ≡ 0 = omega arith in
    search_spent _ _ _ _ c.loop.invariant.answer spent

pub returns-then-start-eq0-clause-value : goal.returns-then-start-eq0-clause-value
returns-then-start-eq0-clause-value c = search_ended _ _ _ _ c.loop.invariant.answer (ap (rows_over c.args.text.now) c.if-start-eq0.true)
