use Rattle.std.proofs.Common.{rules, ◌≡◌, ◌≤◌, ◌-◌, nat_eq, length, slice_index_or, arith}
use Rattle.std.proofs.lemmas.Bool.{eqb-true, eq-eqb}
use Rattle.keyline_call.specs.Slots.{IsSlot}
use Rattle.keyline_call.proofs.SlotLemmas.{begins_more, is_there, no_ring, ring_if, slots_count}
use Rattle.keyline_call.proofs.ring.is_ring.Goals as goal

pub returns-then-ends-gt-KILL_RING_SIZE : goal.returns-then-ends-gt-KILL_RING_SIZE
returns-then-ends-gt-KILL_RING_SIZE c =
    no_ring c.args.texts.now c.args.ends.now c.args.place (λ has. omega (arith, c.if-ends-gt-KILL_RING_SIZE.true, has.1.few, slots_count has.0.slots c.args.texts.now c.args.ends.now has.1.laid_out))

pub returns-then-place-saturating_sub : goal.returns-then-place-saturating_sub
returns-then-place-saturating_sub c =
    no_ring c.args.texts.now c.args.ends.now c.args.place
    (λ has. omega (arith, c.if-place-saturating_sub.true, c.saturating_sub.ensures, has.1.inside, slots_count has.0.slots c.args.texts.now c.args.ends.now has.1.laid_out))

pub returns-in_default : goal.returns-in_default
returns-in_default c =
    let l = c.loop-end in
    no_ring c.args.texts.now c.args.ends.now c.args.place
    (λ has. let there = is_there c.args.texts.now c.args.ends.now c.args.place l.end-index l.start has c.loop-end-test.true l.invariant.start_is in c.in_default.ensures there.0 there.1)

pub loop-end-preserved : goal.loop-end-preserved
loop-end-preserved c =
    let l = c.loop-end in
    let slot : IsSlot c.args.texts.now l.start (slice_index_or c.args.ends.now l.end-index 0) c.in-Some._text.now = search rules in
    begins_more c.args.texts.now c.args.ends.now l.start l.end-index c.in-Some._text.now c.loop-end-test.true slot l.invariant

pub returns : goal.returns
returns c =
    let l = c.loop-end in
    let all : l.end-index ≡ length c.args.ends.now = search rules in
    let place : c.args.place ≤ length c.args.ends.now - 1 = search rules in
    ring_if c.args.texts.now c.args.ends.now c.args.place l.start l.end-index (nat_eq l.start (length c.args.texts.now)) l.invariant all c.if-ends-gt-KILL_RING_SIZE.false place
    (eqb-true l.start (length c.args.texts.now)) (eq-eqb l.start (length c.args.texts.now))
