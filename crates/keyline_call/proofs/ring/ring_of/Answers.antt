use Rattle.std.proofs.Common.{rules, ◌≡◌, ◌≤◌, ◌∙◌, ◌+◌, ◌-◌, ◌∷◌, List, ℕ, length, map, take, slice_index_or, refl, sym, ap, subst, arith, suc}
use Rattle.std.proofs.lemmas.List.{length-map}
use Rattle.std.specs.Prelude.{option_copied, string_bytes}
use Rattle.keyline.specs.declared.session.TheConstants.{KILL_RING_SIZE}
use Rattle.keyline_call.specs.Slots.{AreLaidOut, IsSlot, SlotMeans}
use Rattle.keyline_call.proofs.SlotLemmas.{is_there, laid_to, one_more, ring_stands, slot_given, slot_more, slots_count, slots_end, texts_more}
use Rattle.keyline_call.proofs.ring.ring_of.Goals as goal

pub unwrap-text-requires : goal.unwrap-text-requires
unwrap-text-requires c =
    let l = c.loop-end in
    slot_given c.args.texts.now l.start (slice_index_or c.args.ends.now l.end-index 0) option_copied refl c.slot_text.result c.slot_text.ensures
    (is_there c.args.texts.now c.args.ends.now c.args.place l.end-index l.start c.requires c.loop-end-test.true l.invariant.start_is)

pub loop-end-preserved : goal.loop-end-preserved
loop-end-preserved c =
    let l = c.loop-end in
    let texts = c.args.texts.now in
    let ends = c.args.ends.now in
    let end = slice_index_or ends l.end-index 0 in
    let text = c.unwrap-text.result.now in
    let new = c.push.new.self.items in
    let slot : IsSlot texts l.start end text = subst (SlotMeans texts l.start end) (ap option_copied c.unwrap-text.ensures) c.slot_text.ensures in
    let next : suc l.end-index ≡ l.end-index + 1 = omega arith in
    let all = slot_more string_bytes l.slots.items new c.in_ok-from_str.field-0 text c.in_ok-push.ensures.items c.in_ok-from_str.ensures.ok in
    record {
      laid_out = subst (λ (x : List (List ℕ)). AreLaidOut x (take end texts) (take (l.end-index + 1) ends)) (sym all)
          (laid_to texts ends (map string_bytes l.slots.items) l.start l.end-index text c.loop-end-test.true slot.in_order slot.inside slot.slot_is l.invariant.laid_out);
      count = one_more l.slots.items new c.in_ok-from_str.field-0 l.end-index c.in_ok-push.ensures.items l.invariant.count;
      utf8 = texts_more (map string_bytes l.slots.items) (map string_bytes new) text all l.invariant.utf8 slot.utf8;
      start_is = ap (λ n. slice_index_or (0 ∷ ends) n 0) next;
      inside = slot.inside;
    }

pub from_slots-requires-clause-few : goal.from_slots-requires-clause-few
from_slots-requires-clause-few c =
    let l = c.loop-end in
    let all : l.end-index ≡ length c.args.ends.now = search rules in
    omega (arith, all, l.invariant.count, c.requires.1.few, slots_count c.requires.0.slots c.args.texts.now c.args.ends.now c.requires.1.laid_out)

pub from_slots-requires-clause-inside : goal.from_slots-requires-clause-inside
from_slots-requires-clause-inside c =
    let l = c.loop-end in
    let all : l.end-index ≡ length c.args.ends.now = search rules in
    omega (arith, all, l.invariant.count, c.requires.1.inside, slots_count c.requires.0.slots c.args.texts.now c.args.ends.now c.requires.1.laid_out)

pub returns : goal.returns
returns c =
    let l = c.loop-end in
    let texts = c.args.texts.now in
    let ends = c.args.ends.now in
    let ring = c.requires.0 in
    let slots = map string_bytes l.slots.items in
    let kept = slots_count ring.slots texts ends c.requires.1.laid_out in
    let all : l.end-index ≡ length ends = search rules in
    let few : length ends ≤ KILL_RING_SIZE = omega (arith, c.requires.1.few, kept) in
    let place : c.args.place ≤ length ends - 1 = omega (arith, c.requires.1.inside, kept) in
    let end : l.start ≡ length texts = l.invariant.start_is ∙ (ap (λ n. slice_index_or (0 ∷ ends) n 0) all ∙ slots_end ring.slots texts ends c.requires.1.laid_out) in
    let count : length slots ≡ l.end-index = length-map l.slots.items string_bytes ∙ l.invariant.count in
    ring_stands texts ends c.args.place l.start l.end-index slots c.from_slots.result l.invariant.laid_out end all count l.invariant.utf8 few place c.from_slots.ensures
