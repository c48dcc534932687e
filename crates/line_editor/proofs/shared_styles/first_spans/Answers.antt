use Rattle.std.proofs.Common.{arith}
use Rattle.line_editor.proofs.SharedLemmas.{one_collected, many_collected, enough_collected, all_collected}
use Rattle.line_editor.proofs.shared_styles.first_spans.Goals as goal

pub loop-count-preserved : goal.loop-count-preserved
loop-count-preserved g c =
    let l = c.loop-count in
    one_collected c.args.upto _ l.first l.count l.left _ l.invariant c.in-Some.span _ c.saturating_sub-left.result c.in-Some.ensures (omega arith) (omega (arith, c.loop-count-test.true))

pub returns-after-loop-count : goal.returns-after-loop-count
returns-after-loop-count g c =
    let l = c.loop-count in
    many_collected c.args.upto _ l.first l.count l.left _ l.invariant (omega (arith, c.loop-count-test.false))

pub returns-else-left-gt0 : goal.returns-else-left-gt0
returns-else-left-gt0 g c =
    let l = c.loop-count in
    enough_collected c.args.upto _ l.first l.count l.left _ l.invariant (omega (arith, c.if-left-gt0.false))

pub returns-in_default : goal.returns-in_default
returns-in_default g c =
    let l = c.loop-count in
    all_collected c.args.upto _ l.first l.count l.left _ l.invariant c.in_default.ensures (omega (arith, c.loop-count-test.true))
