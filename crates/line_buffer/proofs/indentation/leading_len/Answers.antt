use Rattle.std.proofs.Common.{sym, ◌∙◌, arith}
use Rattle.std.proofs.lemmas.List.{nil_from_length}
use Rattle.line_buffer.proofs.IndentLemmas.{walks_more, walks_spent, walks_stopped, walks_ended}
use Rattle.line_buffer.proofs.indentation.leading_len.Goals as goal
use Rattle.line_buffer.proofs.indentation.leading_len.Goals.{then-missing-eq0-via-then-missing-eq0, then-missing-eq0-via-else-missing-eq0+then-not-is_whitespace}

pub loop-i-preserved : goal.loop-i-preserved
loop-i-preserved c =
    walks_more _ _ _ _ _ c.loop-i.invariant _ _ c.in-Some.c _ c.in-Some.ensures.steps (sym c.is_whitespace.ensures ∙ c.if-not-is_whitespace.false) (omega (arith, c.if-missing-eq0.false))

pub returns-then-missing-eq0-clause-value : goal.returns-then-missing-eq0-clause-value
returns-then-missing-eq0-clause-value c =
    elim c.then-missing-eq0.branch [
      | then-missing-eq0-via-then-missing-eq0 w ↦ walks_spent _ _ _ _ _ c.loop-i.invariant _ c.in-Some.ensures.steps.0 w.if-missing-eq0.true
      | then-missing-eq0-via-else-missing-eq0+then-not-is_whitespace w ↦ walks_stopped _ _ _ _ _ c.loop-i.invariant _ c.in-Some.c _ c.in-Some.ensures.steps.0 c.in-Some.ensures.steps.1 (sym w.is_whitespace.ensures ∙ w.if-not-is_whitespace.true)
    ]

pub returns-clause-value : goal.returns-clause-value
returns-clause-value c = walks_ended _ _ _ _ _ c.loop-i.invariant (nil_from_length _ c.in-None.ensures.steps.0)
