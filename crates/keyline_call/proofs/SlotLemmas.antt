-- Texts that are laid out one after the other, and the slots of a ring.
use Rattle.std.proofs.Common.{◌≡◌, ◌∙◌, ℕ, zero, suc, ◌+◌, List, [], ◌∷◌, ◌++◌, length, map, ap, sym, subst, arith, ◌↔◌, Bool, true, false, true≢false, IsTrue, ◌-◌, ◌<◌, ◌≤◌, take, drop, get_or, refl, slice_index_or, append_assoc}
use Rattle.std.proofs.lemmas.List.{length-append, map-append, take_more, append-nil, length-take-le, drop_at, take_at}
use Rattle.std.proofs.lemmas.List.Elements.{All-append}
use Rattle.std.specs.List.{All, flat_map, slice_range}
use Rattle.std.specs.Str.{IsUtf8}
use Rattle.std.specs.Prelude.{Option, Some, None, IsSome}
use Rattle.std.proofs.Math.Seq.{take-add, take-length}
use Rattle.std.proofs.lemmas.Grind.{flat_map-append}
use Rattle.line_record.specs.Ring.{Ring, ring_of}
use Rattle.keyline.specs.declared.session.TheConstants.{KILL_RING_SIZE}
use Rattle.keyline_call.specs.Slots.{AreLaidOut, HasRing, IsSlot, SlotMeans, IsRingOf, ends_behind}

pub one_is : (text : List ℕ) → IsUtf8 text → All IsUtf8 (text ∷ [])
one_is text is zero d inside = is
one_is text is (suc k) d inside = absurd (omega (arith, inside))

-- a slot more
pub slot_more : {X : Type 0} (bytes : X → List ℕ) (slots new : List X) (one : X) (text : List ℕ) → new ≡ slots ++ one ∷ [] → bytes one ≡ text → map bytes new ≡ map bytes slots ++ text ∷ []
slot_more bytes slots new one text is text_is = ap (map bytes) is ∙ (map-append bytes slots (one ∷ []) ∙ ap (λ t. map bytes slots ++ t ∷ []) text_is)

pub one_more : {X : Type 0} (slots new : List X) (one : X) (i : ℕ) → new ≡ slots ++ one ∷ [] → length slots ≡ i → length new ≡ i + 1
one_more slots new one i is count = ap (λ (x : List _). length x) is ∙ omega (arith, length-append slots (one ∷ []), count)

pub texts_more : (slots new : List (List ℕ)) (text : List ℕ) → new ≡ slots ++ text ∷ [] → All IsUtf8 slots → IsUtf8 text → All IsUtf8 new
texts_more slots new text is all one = subst (All IsUtf8) (sym is) (All-append IsUtf8 slots (text ∷ []) all (one_is text one))

abbrev own : List ℕ → List ℕ
own text = text

-- one text more ends where all of them do
ends_more : (start : ℕ) (slots : List (List ℕ)) (text : List ℕ) → ends_behind start (slots ++ text ∷ []) ≡ ends_behind start slots ++ (start + length (flat_map own (slots ++ text ∷ []))) ∷ []
ends_more start [] text = ap (λ (x : List ℕ). (start + length x) ∷ []) (sym (append-nil text))
ends_more start (slot ∷ slots) text =
    ap (λ (x : List ℕ). (start + length slot) ∷ x)
    (ends_more (start + length slot) slots text
    ∙ ap (λ (x : ℕ). ends_behind (start + length slot) slots ++ x ∷ [])
    (omega (arith, length-append slot (flat_map own (slots ++ text ∷ [])))))

more : (slots : List (List ℕ)) (text texts ends : List ℕ) → AreLaidOut slots texts ends → AreLaidOut (slots ++ text ∷ []) (texts ++ text) (ends ++ length (texts ++ text) ∷ [])
more slots text texts ends h =
    let all : texts ++ text ≡ flat_map own (slots ++ text ∷ []) =
    ap (λ (x : List ℕ). x ++ text) h.texts_are ∙ sym (flat_map-append own slots (text ∷ []) ∙ ap (λ (x : List ℕ). flat_map own slots ++ x) (append-nil text)) in
    record {
      texts_are = all;
      ends_are = ap (λ (x : List ℕ). x ++ length (texts ++ text) ∷ []) h.ends_are
          ∙ (ap (λ (x : List ℕ). ends_behind 0 slots ++ length x ∷ []) all
          ∙ sym (ends_more 0 slots text ∙ ap (λ (x : ℕ). ends_behind 0 slots ++ x ∷ []) (omega arith)));
    }

-- the one of them that ends next
pub laid_to : (texts ends : List ℕ) (slots : List (List ℕ)) (start i : ℕ) (text : List ℕ) → i < length ends → start ≤ slice_index_or ends i 0 → slice_index_or ends i 0 ≤ length texts
    → text ≡ slice_range texts start (slice_index_or ends i 0) → AreLaidOut slots (take start texts) (take i ends)
    → AreLaidOut (slots ++ text ∷ []) (take (slice_index_or ends i 0) texts) (take (i + 1) ends)
laid_to texts ends slots start i text inside from to is h =
    let end = slice_index_or ends i 0 in
    let at : start + (end - start) ≡ end = omega (arith, from) in
    let all : take start texts ++ text ≡ take end texts =
    ap (λ (x : List ℕ). take start texts ++ x) is ∙ (sym (take-add start (end - start) texts) ∙ ap (λ n. take n texts) at) in
    let ended : take i ends ++ length (take start texts ++ text) ∷ [] ≡ take (i + 1) ends =
    ap (λ (x : List ℕ). take i ends ++ length x ∷ []) all ∙ (ap (λ n. take i ends ++ n ∷ []) (length-take-le end texts to) ∙ sym (take_more ends i 0 inside)) in
    subst (λ (x : List ℕ). AreLaidOut (slots ++ text ∷ []) x (take (i + 1) ends)) all
    (subst (λ (x : List ℕ). AreLaidOut (slots ++ text ∷ []) (take start texts ++ text) x) ended (more slots text (take start texts) (take i ends) h))

-- the next one of them
pub laid_more : {X : Type 0} (bytes : X → List ℕ) (all : List X) (i : ℕ) (one : X) (texts ends : List ℕ) → i < length all → one ≡ get_or all i one
    → AreLaidOut (map bytes (take i all)) texts ends → AreLaidOut (map bytes (take (i + 1) all)) (texts ++ bytes one) (ends ++ length (texts ++ bytes one) ∷ [])
laid_more bytes all i one texts ends inside is h =
    subst (λ (x : List (List ℕ)). AreLaidOut x (texts ++ bytes one) (ends ++ length (texts ++ bytes one) ∷ []))
    (sym (ap (map bytes) (take_more all i one inside ∙ ap (λ x. take i all ++ x ∷ []) (sym is)) ∙ map-append bytes (take i all) (one ∷ [])))
    (more (map bytes (take i all)) (bytes one) texts ends h)

-- ---- slots that a ring has

-- where it stands
record StandsAt (texts : List ℕ) (from to : ℕ) (slot : List ℕ) : Type 0 where
  on : from ≤ to
  inside : to ≤ length texts
  slot_is : slice_range texts from to ≡ slot

slot_behind : (before : List ℕ) (slots : List (List ℕ)) (i : ℕ) → i < length slots
    → StandsAt (before ++ flat_map own slots) (slice_index_or (length before ∷ ends_behind (length before) slots) i 0) (slice_index_or (ends_behind (length before) slots) i 0) (slice_index_or slots i [])
slot_behind before [] i inside = absurd (omega (arith, inside))
slot_behind before (slot ∷ slots) zero inside =
    let rest = flat_map own slots in
    let count : length before + length slot - length before ≡ length slot = omega arith in
    record {
      on = omega arith;
      inside = omega (arith, length-append before (slot ++ rest), length-append slot rest);
      slot_is = ap (λ n. take n (drop (length before) (before ++ (slot ++ rest)))) count ∙ (ap (take (length slot)) (drop_at before (slot ++ rest) (length before) refl) ∙ take_at slot rest (length slot) refl);
    }
slot_behind before (slot ∷ slots) (suc i) inside =
    let rest = flat_map own slots in
    subst (λ (x : List ℕ). StandsAt x (slice_index_or ((length before + length slot) ∷ ends_behind (length before + length slot) slots) i 0) (slice_index_or (ends_behind (length before + length slot) slots) i 0) (slice_index_or slots i []))
    (append_assoc before slot rest)
    (subst (λ (n : ℕ). StandsAt ((before ++ slot) ++ rest) (slice_index_or (n ∷ ends_behind n slots) i 0) (slice_index_or (ends_behind n slots) i 0) (slice_index_or slots i [])) (length-append before slot)
    (slot_behind (before ++ slot) slots i (omega (arith, inside))))

ends_at : (start : ℕ) (slots : List (List ℕ)) → slice_index_or (start ∷ ends_behind start slots) (length slots) 0 ≡ start + length (flat_map own slots)
ends_at start [] = omega arith
ends_at start (slot ∷ slots) = ends_at (start + length slot) slots ∙ omega (arith, length-append slot (flat_map own slots))

ends_count : (start : ℕ) (slots : List (List ℕ)) → length (ends_behind start slots) ≡ length slots
ends_count start [] = refl
ends_count start (slot ∷ slots) = ap suc (ends_count (start + length slot) slots)

pub slots_count : (slots : List (List ℕ)) (texts ends : List ℕ) → AreLaidOut slots texts ends → length ends ≡ length slots
slots_count slots texts ends h = ap (λ (x : List ℕ). length x) h.ends_are ∙ ends_count 0 slots

-- each of them, and where the last one ends
slot_stands : (slots : List (List ℕ)) (texts ends : List ℕ) (i : ℕ) → AreLaidOut slots texts ends → i < length ends → StandsAt texts (slice_index_or (0 ∷ ends) i 0) (slice_index_or ends i 0) (slice_index_or slots i [])
slot_stands slots texts ends i h inside = let count = slots_count slots texts ends h in rw (h.texts_are, h.ends_are) (slot_behind [] slots i (omega (arith, inside, count)))

pub slots_end : (slots : List (List ℕ)) (texts ends : List ℕ) → AreLaidOut slots texts ends → slice_index_or (0 ∷ ends) (length ends) 0 ≡ length texts
slots_end slots texts ends h = rw (h.texts_are, h.ends_are, ends_count 0 slots) (ends_at 0 slots ∙ omega arith)

-- a slot that a ring has at a place is there
pub is_there : (texts ends : List ℕ) (place i start : ℕ) → HasRing texts ends place → i < length ends → start ≡ slice_index_or (0 ∷ ends) i 0 → (slot : List ℕ) × IsSlot texts start (slice_index_or ends i 0) slot
is_there texts ends place i start (ring, h) inside is =
    let s = slot_stands ring.slots texts ends i h.laid_out inside in
    let utf8 = h.utf8 i [] (omega (arith, inside, slots_count ring.slots texts ends h.laid_out)) in
    rw is (slice_index_or ring.slots i [], record { in_order = s.on; inside = s.inside; slot_is = sym s.slot_is; utf8 = utf8 })

-- so a text that is looked for where one stands is given
pub slot_given : {X : Type 0} (texts : List ℕ) (from to : ℕ) (copied : Option X → Option (List ℕ)) → copied None ≡ None → (o : Option X) → SlotMeans texts from to (copied o) → (slot : List ℕ) × IsSlot texts from to slot → IsSome o
slot_given texts from to copied none (Some x) means slot = refl
slot_given texts from to copied none None means slot = absurd (subst (SlotMeans texts from to) none means slot.0 slot.1)

-- the ring of all of them
pub ring_stands : (texts ends : List ℕ) (place start i : ℕ) (slots : List (List ℕ)) (ring : Ring) → AreLaidOut slots (take start texts) (take i ends) → start ≡ length texts → i ≡ length ends
    → length slots ≡ i → All IsUtf8 slots → length ends ≤ KILL_RING_SIZE → place ≤ length ends - 1 → ring ≡ ring_of slots KILL_RING_SIZE place → IsRingOf texts ends place ring
ring_stands texts ends place start i slots ring h all_texts all_ends count utf8 few inside is =
    subst (IsRingOf texts ends place) (sym is) (record {
      laid_out = subst (AreLaidOut slots texts) (ap (λ n. take n ends) all_ends ∙ take-length ends)
          (subst (λ (x : List ℕ). AreLaidOut slots x (take i ends)) (ap (λ n. take n texts) all_texts ∙ take-length texts) h);
      ring_is = refl;
      few = omega (arith, count, all_ends, few);
      inside = omega (arith, count, all_ends, inside);
      utf8 = utf8;
    })

-- ---- the slots that stand in texts, from the first one on

pub record Begins (texts ends : List ℕ) (start i : ℕ) : Type 0 where
  pub slots : List (List ℕ)
  pub laid_out : AreLaidOut slots (take start texts) (take i ends)
  pub count : length slots ≡ i
  pub utf8 : All IsUtf8 slots
  pub start_is : start ≡ slice_index_or (0 ∷ ends) i 0

pub begins : (texts ends : List ℕ) → Begins texts ends 0 0
begins texts ends = record {
  slots = [];
  laid_out = record { texts_are = refl; ends_are = refl };
  count = refl;
  utf8 = λ k d inside. absurd (omega (arith, inside));
  start_is = refl;
}

pub begins_more : (texts ends : List ℕ) (start i : ℕ) (text : List ℕ) → i < length ends → IsSlot texts start (slice_index_or ends i 0) text → Begins texts ends start i
    → Begins texts ends (slice_index_or ends i 0) (i + 1)
begins_more texts ends start i text inside slot h =
    let next : suc i ≡ i + 1 = omega arith in
    record {
      slots = h.slots ++ text ∷ [];
      laid_out = laid_to texts ends h.slots start i text inside slot.in_order slot.inside slot.slot_is h.laid_out;
      count = omega (arith, length-append h.slots (text ∷ []), h.count);
      utf8 = All-append IsUtf8 h.slots (text ∷ []) h.utf8 (one_is text slot.utf8);
      start_is = ap (λ n. slice_index_or (0 ∷ ends) n 0) next;
    }

pub no_ring : (texts ends : List ℕ) (place : ℕ) → (HasRing texts ends place → ⊥) → IsTrue false ↔ HasRing texts ends place
no_ring texts ends place none = (λ is. absurd (true≢false (sym is)), λ has. absurd (none has))

-- there is a ring if they end where the texts end
pub ring_if : (texts ends : List ℕ) (place start i : ℕ) (b : Bool) → Begins texts ends start i → i ≡ length ends → length ends ≤ KILL_RING_SIZE → place ≤ length ends - 1
    → (IsTrue b → start ≡ length texts) → (start ≡ length texts → IsTrue b) → IsTrue b ↔ HasRing texts ends place
ring_if texts ends place start i b h all few inside whole is_whole = (
  λ is. (ring_of h.slots KILL_RING_SIZE place, ring_stands texts ends place start i h.slots (ring_of h.slots KILL_RING_SIZE place) h.laid_out (whole is) all h.count h.utf8 few inside refl),
  λ has. is_whole (h.start_is ∙ (ap (λ n. slice_index_or (0 ∷ ends) n 0) all ∙ slots_end has.0.slots texts ends has.1.laid_out)),
)
