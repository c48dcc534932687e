-- Texts put in slots.
use Rattle.std.proofs.Common.{◌≡◌, ◌≢◌, ℕ, suc, ◌<◌, ◌≤◌, ◌==◌, false, List, [], ◌∷◌, ◌++◌, length, take, drop, map, max, refl, sym, ap, subst, ◌∙◌, arith, slice_set, slice_index_or, if◌then◌else◌}
use Rattle.std.proofs.lemmas.List.{map-set, length-map, length-set, length_push, get_or-set_same, get_or_push, take-set, take_at, take_all, drop-set-lt, drop_all}
use Rattle.std.proofs.lemmas.Bool.Decides.{nat_tests}
use native.Mathlib.Decide.{dec_le}
use Rattle.line_buffer.specs.declared.types.Mode.{Mode}
use Rattle.line_record.specs.Ring.{Ring, slot_after, slots_with_text, ring_with_kill, ring_with_kill_after}
use Rattle.line_record.specs.declared.kill_ring.Action.{Action, TheVariants.Kill}

-- a kill that isn't joined to the one before it
abbrev pub ring_with_new_kill : List ℕ → Ring → Ring
ring_with_new_kill text r =
    let next = slot_after (length r.slots) r.size r.place in
    record r { slots = slots_with_text next text r.slots; place = next; last = Kill }

pub killed_anew : (a : Action) (r : Ring) (text : List ℕ) (mode : Mode) → a ≢ Kill → ring_with_kill_after a text mode r ≡ ring_with_new_kill text r
killed_anew Kill r text mode h = absurd (h refl)
killed_anew _ r text mode h = refl

pub not_zero : (n : ℕ) → 0 < n → (n == 0) ≡ false
not_zero n h = grind (arith, nat_tests)

pub has_size : (text : List ℕ) (mode : Mode) (r : Ring) → 0 < r.size → ring_with_kill text mode r ≡ ring_with_kill_after r.last text mode r
has_size text mode r h = ap (λ b. if b then record r { last = Kill } else ring_with_kill_after r.last text mode r) (not_zero r.size h)

pub put_there : (i : ℕ) (text : List ℕ) (slots : List (List ℕ)) → i < length slots → slice_set slots i text ≡ slots_with_text i text slots
put_there i text slots h = grind (arith, nat_tests)

put_last : (i : ℕ) (text : List ℕ) (slots : List (List ℕ)) → length slots ≤ i → slots ++ (text ∷ []) ≡ slots_with_text i text slots
put_last i text slots h = grind (arith, nat_tests)

-- a text put into a slot that exists, or after the last one
pub record PutIn (i : ℕ) (text : List ℕ) (slots after : List (List ℕ)) : Type 0 where
  pub count : length after ≡ max (suc i) (length slots)
  pub here : slice_index_or after i [] ≡ text
  pub front : take i after ≡ take i slots
  pub behind : drop (suc i) after ≡ drop (suc i) slots

pub put_in : (i : ℕ) (text : List ℕ) (slots : List (List ℕ)) → i ≤ length slots → PutIn i text slots (slots_with_text i text slots)
put_in i text slots h = elim (dec_le (suc i) (length slots)) [
  | yes less ↦ subst (PutIn i text slots) (put_there i text slots less) (record {
    count = omega (arith, less, length-set slots i text);
    here = get_or-set_same slots i text [] less;
    front = take-set slots i text;
    behind = drop-set-lt (suc i) slots i text (omega arith);
  })
  | no more ↦
      let last : length slots ≡ i = omega (arith, h, more) in
      subst (PutIn i text slots) (put_last i text slots (omega (arith, last))) (record {
        count = omega (arith, last, length_push slots text);
        here = get_or_push slots text [] i last;
        front = take_at slots (text ∷ []) i last ∙ sym (take_all i slots (omega (arith, last)));
        behind = drop_all (suc i) (slots ++ (text ∷ [])) (omega (arith, last, length_push slots text)) ∙ sym (drop_all (suc i) slots (omega (arith, last)));
      })
]

pub put_mapped : {A : Type 0} (f : A → List ℕ) (slots : List A) (i : ℕ) (y : A) (text : List ℕ) → f y ≡ text → i < length slots
    → map f (slice_set slots i y) ≡ slots_with_text i text (map f slots)
put_mapped f slots i y text e h =
    map-set f slots i y ∙ ap (slice_set (map f slots) i) e ∙ put_there i text (map f slots) (omega (arith, length-map slots f))
