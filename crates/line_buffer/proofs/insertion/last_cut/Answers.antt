use Rattle.std.proofs.Common.{◌≤◌, sym, ◌∙◌, arith}
use Rattle.line_buffer.proofs.InsertionLemmas.{not_cut, is_cut}
use Rattle.line_buffer.proofs.insertion.last_cut.Goals as goal

pub overflow_sub-end : goal.overflow_sub-end
overflow_sub-end c = (not_cut c.args.text.now c.loop-end.end _ c.is_char_boundary.ensures.test c.loop-end-test.true c.utf8.text (omega arith)).0

pub loop-end-smaller : goal.loop-end-smaller
loop-end-smaller c = let h : 1 ≤ c.loop-end.end = (not_cut c.args.text.now c.loop-end.end _ c.is_char_boundary.ensures.test c.loop-end-test.true c.utf8.text (omega arith)).0 in omega arith

pub loop-end-preserved : goal.loop-end-preserved
loop-end-preserved c = record {
  same = (not_cut c.args.text.now c.loop-end.end _ c.is_char_boundary.ensures.test c.loop-end-test.true c.utf8.text (omega arith)).1 ∙ c.loop-end.invariant.same;
  bound = omega arith;
}

pub returns-clause-value : goal.returns-clause-value
returns-clause-value c = sym (is_cut c.args.text.now c.loop-end.end _ c.is_char_boundary.ensures.test c.loop-end-test.false) ∙ c.loop-end.invariant.same
