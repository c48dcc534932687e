-- A ring that is never turned holds the last runs of kills.
use Rattle.std.proofs.Common.{◌≡◌, ◌≢◌, ℕ, zero, suc, ◌+◌, ◌-◌, ◌<◌, ◌≤◌, ◌==◌, ◌⊎◌, inl, inr, Bool, true, false, List, [], ◌∷◌, ◌++◌, length, take, drop, reverse, Some, refl, sym, ap, ap₂, subst, ◌∙◌, arith, append_assoc, slice_get, slice_set, slice_index_or, if◌then◌else◌, drop-cons}
use Rattle.std.proofs.lemmas.List.{reverse-append, length-append, length-reverse, length-set, length-drop, length-take-le, get_or-set_same, take-set, drop-set-lt, take_at, take_all, drop_all, take-take, append-nil}
use Rattle.std.proofs.lemmas.List.Folds.{fold_along}
use Rattle.std.proofs.lemmas.Option.{slice_get-get_or}
use Rattle.std.proofs.lemmas.Bool.Decides.{nat_tests, eqb_tells}
use native.Mathlib.Decide.{dec_le}
use Rattle.line_buffer.specs.Event.{ChangeEvent, ChangeEvent.StartKilling, ChangeEvent.StopKilling, ChangeEvent.Delete}
use Rattle.line_buffer.specs.declared.types.Mode.{Mode}
use Rattle.line_record.specs.declared.kill_ring.Action.{Action, TheVariants.Kill}
use Rattle.line_record.specs.Ring.{RingCall, Kills, no_kills, run_with, kill_taken, kills_after, ring_after, Ring, new_ring, joined_text, slot_after, slots_with_text, ring_with_kill, ring_with_kill_after, mode_of, ring_after_yank, ring_step}
use Rattle.line_record.specs.Ring.RingCall.{Taken, Heard, Ended, Lent}
use Rattle.line_record.specs.Laws.{RingHoldsTheLastRuns}
use Rattle.line_record.proofs.RingLemmas.{put_in, ring_with_new_kill, has_size, not_zero}
use Rattle.line_record.proofs.StepLemmas.{reverse_more}

-- the texts before a slot, the nearest first, and round to the one after it
abbrev older : List (List ℕ) → ℕ → List (List ℕ)
older slots place = reverse (take place slots) ++ reverse (drop (suc place) slots)

-- the texts from the current slot back, and round to the one after it, are the first of the runs
record Filled (size : ℕ) (runs slots : List (List ℕ)) (place : ℕ) : Type 0 where
  inside : place < length slots
  few : length slots ≤ size
  full : suc place < length slots → length slots ≡ size
  runs_are : slice_index_or slots place [] ∷ older slots place ≡ take size runs

abbrev is_kill : Action → Bool
is_kill Kill = true
is_kill _ = false

record Holds (size : ℕ) (k : Kills) (r : Ring) : Type 0 where
  sized : r.size ≡ size
  killing : r.killing ≡ k.killing
  running : is_kill r.last ≡ k.running
  slots : ((k.runs ≡ []) × (r.slots ≡ []) × (k.running ≡ false)) ⊎ Filled size k.runs r.slots r.place

-- a kill that joins
joined : (n : ℕ) (text : List ℕ) (mode : Mode) (runs slots : List (List ℕ)) (place : ℕ) → Filled (suc n) runs slots place
    → Filled (suc n) (run_with true text mode runs) (slice_set slots place (joined_text mode text (slice_index_or slots place []))) place
joined n text mode [] slots place f = cc f.runs_are
joined n text mode (run ∷ runs) slots place f =
    let longer : List ℕ = joined_text mode text (slice_index_or slots place []) in
    let here = get_or-set_same slots place longer [] f.inside in
    record {
      inside = simp length-set f.inside;
      few = simp length-set f.few;
      full = simp length-set f.full;
      runs_are = cc (here, take-set slots place longer, drop-set-lt (suc place) slots place longer (omega arith), f.runs_are);
    }

-- the texts in all slots, from the one before a place back and round to that place, before a kill that takes this place
record Next (n : ℕ) (runs slots : List (List ℕ)) (next : ℕ) : Type 0 where
  inside : next ≤ length slots
  low : next ≤ n
  few : length slots ≤ suc n
  full : next < length slots → length slots ≡ suc n
  all : reverse (take next slots) ++ reverse (drop next slots) ≡ take (suc n) runs

-- the oldest of them goes, if no slot is free
all_but_oldest : (n : ℕ) (runs slots : List (List ℕ)) (next : ℕ) → Next n runs slots next
    → older slots next ≡ take n (reverse (take next slots) ++ reverse (drop next slots))
all_but_oldest n runs slots next h =
    let newer = reverse (take next slots) in
    let rest = drop (suc next) slots in
    let front : length newer ≡ next = length-reverse (take next slots) ∙ length-take-le next slots h.inside in
    let count : length (older slots next) ≡ next + (length slots - suc next) =
    length-append newer (reverse rest) ∙ ap₂ (λ i j. i + j) front (length-reverse rest ∙ length-drop (suc next) slots) in
    elim (dec_le (suc next) (length slots)) [
      | yes less ↦
          let oldest = slice_index_or slots next [] in
          let whole : newer ++ reverse (drop next slots) ≡ older slots next ++ (oldest ∷ []) =
          ap (λ xs. newer ++ reverse xs) (drop-cons slots next [] less) ∙ ap (λ xs. newer ++ xs) (reverse-append (oldest ∷ []) rest)
          ∙ sym (append_assoc newer (reverse rest) (oldest ∷ [])) in
          sym (ap (take n) whole ∙ take_at (older slots next) (oldest ∷ []) n (omega (arith, count, h.full less)))
      | no more ↦
          let last : length slots ≤ next = omega (arith, more) in
          let none : drop next slots ≡ rest = drop_all next slots last ∙ sym (drop_all (suc next) slots (omega (arith, last))) in
          sym (ap (λ xs. take n (newer ++ reverse xs)) none ∙ take_all n (older slots next) (omega (arith, count, last, h.low)))
    ]

-- a kill that joins none
put_next : (n : ℕ) (text : List ℕ) (runs slots : List (List ℕ)) (next : ℕ) → Next n runs slots next
    → Filled (suc n) (text ∷ runs) (slots_with_text next text slots) next
put_next n text runs slots next h =
    let p = put_in next text slots h.inside in
    let kept : older slots next ≡ take n runs = all_but_oldest n runs slots next h ∙ ap (take n) h.all ∙ take-take n (suc n) runs (omega arith) in
    record {
      inside = omega (arith, p.count);
      few = omega (arith, p.count, h.low, h.few);
      full = λ more. omega (arith, more, p.count, h.full, h.low);
      runs_are = cc (p.here, p.front, p.behind, kept);
    }

-- all texts, by the current slot
all_read : (n : ℕ) (runs slots : List (List ℕ)) (place : ℕ) → Filled (suc n) runs slots place
    → reverse (take (suc place) slots) ++ reverse (drop (suc place) slots) ≡ take (suc n) runs
all_read n runs slots place f = ap (λ xs. xs ++ reverse (drop (suc place) slots)) (reverse_more slots place [] f.inside) ∙ f.runs_are

after_last : (count size place : ℕ) → place + 1 ≡ size → 0 ≡ slot_after count size place
after_last count size place e = grind (arith, nat_tests)

after_other : (count size place : ℕ) → place < count → place + 1 ≢ size → suc place ≡ slot_after count size place
after_other count size place less e = grind (arith, nat_tests)

next_slot : (n : ℕ) (runs slots : List (List ℕ)) (place : ℕ) → Filled (suc n) runs slots place → Next n runs slots (slot_after (length slots) (suc n) place)
next_slot n runs slots place f = elim (eqb_tells (place + 1) (suc n)) [
  | inl last ↦
      let whole : length slots ≡ suc place = omega (arith, last.1, f.inside, f.few) in
      subst (Next n runs slots) (after_last (length slots) (suc n) place last.1) (record {
        inside = omega arith;
        low = omega arith;
        few = f.few;
        full = λ some. omega (arith, whole, last.1);
        all = sym (append-nil (reverse slots)) ∙ sym (ap₂ (λ xs ys. reverse xs ++ reverse ys) (take_all (suc place) slots (omega (arith, whole)))
            (drop_all (suc place) slots (omega (arith, whole)))) ∙ all_read n runs slots place f;
      })
  | inr more ↦
      let low : suc place ≤ n = omega (arith, f.inside, f.few, more.1) in
      subst (Next n runs slots) (after_other (length slots) (suc n) place f.inside more.1)
      (record { inside = omega (arith, f.inside); low = low; few = f.few; full = f.full; all = all_read n runs slots place f })
]

kill_anew : (n : ℕ) (text : List ℕ) (mode : Mode) (k : Kills) (r : Ring) → Holds (suc n) k r → k.running ≡ false → Holds (suc n) (kill_taken text mode k) (ring_with_new_kill text r)
kill_anew n text mode k r h stopped =
    let next : ℕ = slot_after (length r.slots) r.size r.place in
    let free : Next n k.runs r.slots next = elim h.slots [
      | inl none ↦ rw (none.0, none.1) (record { inside = omega arith; low = omega arith; few = omega arith; full = λ some. omega (arith, some); all = refl })
      | inr f ↦ rw h.sized (next_slot n k.runs r.slots r.place f)
    ] in
    record { sized = h.sized; killing = h.killing; running = refl; slots = inr (rw stopped (put_next n text k.runs r.slots next free)) }

kill_joined : (n : ℕ) (text : List ℕ) (mode : Mode) (k : Kills) (r : Ring) → Holds (suc n) k r → r.last ≡ Kill
    → Holds (suc n) (kill_taken text mode k) (ring_with_kill_after Kill text mode r)
kill_joined n text mode k r h last =
    let kill : is_kill r.last ≡ true = ap is_kill last in
    let going : k.running ≡ true = sym h.running ∙ kill in
    let f : Filled (suc n) k.runs r.slots r.place = elim h.slots [ inl none ↦ cc (going, none.2) | inr f ↦ f ] in
    record { sized = h.sized; killing = h.killing; running = kill; slots = inr (rw going (joined n text mode k.runs r.slots r.place f)) }

kill_holds : (n : ℕ) (text : List ℕ) (mode : Mode) (k : Kills) (r : Ring) → Holds (suc n) k r → Holds (suc n) (kill_taken text mode k) (ring_with_kill text mode r)
kill_holds n text mode k r h = subst (Holds (suc n) (kill_taken text mode k)) (sym (has_size text mode r (omega (arith, h.sized)))) (by_last r.last refl)
  where
    by_last : (a : Action) → r.last ≡ a → Holds (suc n) (kill_taken text mode k) (ring_with_kill_after a text mode r)
    by_last Kill e = kill_joined n text mode k r h e
    by_last _ e = kill_anew n text mode k r h (sym h.running ∙ ap is_kill e)

delete_holds : (n : ℕ) (b : Bool) (text : List ℕ) (mode : Mode) (k : Kills) (r : Ring) → Holds (suc n) k r
    → Holds (suc n) (if b then kill_taken text mode k else k) (if b then ring_with_kill text mode r else r)
delete_holds n true text mode k r h = kill_holds n text mode k r h
delete_holds n false text mode k r h = h

heard_holds : (n : ℕ) (e : ChangeEvent) (k : Kills) (r : Ring) → Holds (suc n) k r → Holds (suc n) (kills_after k (Heard e)) (ring_step e r)
heard_holds n StartKilling k r h = record { sized = h.sized; killing = refl; running = h.running; slots = h.slots }
heard_holds n StopKilling k r h = record { sized = h.sized; killing = refl; running = h.running; slots = h.slots }
heard_holds n (Delete at text direction) k r h =
    subst (λ b. Holds (suc n) (kills_after k (Heard (Delete at text direction))) (if b then ring_with_kill text (mode_of direction) r else r)) (sym h.killing)
    (delete_holds n k.killing text (mode_of direction) k r h)
heard_holds n _ k r h = h

-- a run of kills ends
lent_holds : (n : ℕ) (k : Kills) (r : Ring) → Holds (suc n) k r → Holds (suc n) (record k { running = false }) (ring_after_yank r)
lent_holds n k r h = elim h.slots [
  | inl none ↦
      let empty : (length r.slots == 0) ≡ true = ap (λ xs. length xs == 0) none.1 in
      rw empty (record { sized = h.sized; killing = h.killing; running = h.running ∙ none.2; slots = inl (none.0, none.1, refl) })
  | inr f ↦ rw (not_zero (length r.slots) (omega (arith, f.inside))) (record { sized = h.sized; killing = h.killing; running = refl; slots = inr f })
]

call_holds : (n : ℕ) (k : Kills) (r : Ring) (call : RingCall) → Holds (suc n) k r → Holds (suc n) (kills_after k call) (ring_after r call)
call_holds n k r (Taken text mode) h = kill_holds n text mode k r h
call_holds n k r (Heard e) h = heard_holds n e k r h
call_holds n k r Ended h =
    record { sized = h.sized; killing = h.killing; running = refl; slots = elim h.slots [ inl none ↦ inl (none.0, none.1, refl) | inr f ↦ inr f ] }
call_holds n k r Lent h = lent_holds n k r h

newest_read : (n : ℕ) (x : List ℕ) (xs runs : List (List ℕ)) → x ∷ xs ≡ take (suc n) runs → Some x ≡ slice_get runs 0
newest_read n x xs [] e = cc
newest_read n x xs (y ∷ runs) e = cc

-- what is held, read from the current slot back
read : (n : ℕ) (k : Kills) (r : Ring) → Holds (suc n) k r
    → (reverse (take (suc r.place) r.slots) ++ reverse (drop (suc r.place) r.slots) ≡ take (suc n) k.runs) × (slice_get r.slots r.place ≡ slice_get k.runs 0)
read n k r h = elim h.slots [
  | inl none ↦ rw (none.0, none.1) (refl, refl)
  | inr f ↦ (all_read n k.runs r.slots r.place f, slice_get-get_or r.slots r.place [] f.inside ∙ newest_read n _ _ k.runs f.runs_are)
]

pub ring_holds_the_last_runs : RingHoldsTheLastRuns
ring_holds_the_last_runs zero calls some = absurd (omega (arith, some))
ring_holds_the_last_runs (suc n) calls some =
    let start : Holds (suc n) no_kills (new_ring (suc n)) = record { sized = refl; killing = refl; running = refl; slots = inl (refl, refl, refl) } in
    read n _ _ (fold_along kills_after ring_after (Holds (suc n)) (call_holds n) no_kills (new_ring (suc n)) calls start)
