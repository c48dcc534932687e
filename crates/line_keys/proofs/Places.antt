-- The place of an event's entry: what stands there, and what an edit there makes of the map.
use Rattle.std.proofs.Common.{◌≡◌, ℕ, zero, suc, ◌<◌, ◌≤◌, Bool, true, false, cond, List, [], ◌∷◌, ◌++◌, Option, Some, None, length, get_or, set, refl, sym, ◌∙◌, ap, subst, arith, ltb, length-set, true≢false}
use Rattle.std.specs.Prelude.{IsSome, position, remove, find as first_passing, AllPairs, IsFalse, option_map}
use Rattle.std.specs.List.{AllByRecursion, position_or_len, slice_get}
use Rattle.std.specs.Option.{option_or}
use Rattle.std.specs.Cmp.{decided}
use Rattle.std.proofs.lemmas.List.Folds.{find_at, find-set, find_past, find-append}
use Rattle.std.proofs.lemmas.List.Quantifiers.{position-Some, all_pairs_push, all_pairs_remove}
use Rattle.std.proofs.lemmas.List.Sums.{position_or_len_is}
use Rattle.std.proofs.lemmas.Option.{slice_get-get_or, slice_get_past}
use Rattle.std.proofs.lemmas.Bool.Decides.{nat_tests}
use Rattle.line_keys.specs.declared.events.Event.{Event}
use Rattle.line_keys.specs.Events.{same_event, find, has_event, map_with, IsNormal, IsMap}
use Rattle.line_keys.proofs.SameEventsLemmas.{same_event-decides}

-- ---- lists and tests of any kind

passed_over : {B : Type 0} (b : Bool) (x : B) (rest : Option B) → cond b (Some x) rest ≡ None → (b ≡ false) × (rest ≡ None)
passed_over true x rest e = (cc, cc)
passed_over false x rest e = (refl, e)

past : (n len : ℕ) (b : Bool) → ltb n len ≡ b → cond b (Some n) None ≡ None → len ≤ n
past n len true e h = cc
past n len false e h = grind (arith, nat_tests)

module _ {B : Type 0} (p : B → Bool) where
  -- where one passes, it is found at its place
  first_at : (xs : List B) (i : ℕ) (d : B) → position p xs ≡ Some i → first_passing p xs ≡ Some (get_or xs i d)
  first_at xs i d at =
      let w = position-Some p xs i d at in
      let here : position_or_len p xs ≡ i = position_or_len_is p xs i d (omega arith) w.2 (λ _. w.1) in
      find_at p xs ∙ ap (slice_get xs) here ∙ slice_get-get_or xs i d w.0

  nothing_passes : (xs : List B) → position p xs ≡ None → first_passing p xs ≡ None
  nothing_passes xs at =
      find_at p xs ∙ slice_get_past xs (position_or_len p xs) (past (position_or_len p xs) (length xs) (ltb (position_or_len p xs) (length xs)) refl at)

  each_fails : (xs : List B) → first_passing p xs ≡ None → (k : ℕ) (d : B) → k < length xs → p (get_or xs k d) ≡ false
  each_fails [] none k d h = absurd (omega arith)
  each_fails (x ∷ xs) none zero d h = (passed_over (p x) x (first_passing p xs) none).0
  each_fails (x ∷ xs) none (suc k) d h = each_fails xs (passed_over (p x) x (first_passing p xs) none).1 k d (omega arith)

  -- an element that fails is not missed
  find-remove : (xs : List B) (i : ℕ) (d : B) → i < length xs → p (get_or xs i d) ≡ false → first_passing p (remove xs i) ≡ first_passing p xs
  find-remove [] i d h f = absurd (omega arith)
  find-remove (x ∷ xs) zero d h f = rw f refl
  find-remove (x ∷ xs) (suc i) d h f = ap (cond (p x) (Some x)) (find-remove xs i d (omega arith) f)

  -- where all others fail, nothing is left
  find-nothing : (xs : List B) (d : B) → ((k : ℕ) → k < length xs → p (get_or xs k d) ≡ false) → first_passing p xs ≡ None
  find-nothing [] d f = refl
  find-nothing (x ∷ xs) d f =
      let here : p x ≡ false = f 0 (omega arith) in
      rw here (find-nothing xs d (λ k h. f (suc k) (omega arith)))

  find-removed : (xs : List B) (i : ℕ) (d : B) → i < length xs → ((k : ℕ) → k < i → p (get_or xs k d) ≡ false)
      → ((k : ℕ) → i < k → k < length xs → p (get_or xs k d) ≡ false) → first_passing p (remove xs i) ≡ None
  find-removed [] i d h before after = absurd (omega arith)
  find-removed (x ∷ xs) zero d h before after = find-nothing xs d (λ k l. after (suc k) (omega arith) (omega arith))
  find-removed (x ∷ xs) (suc i) d h before after =
      let here : p x ≡ false = before 0 (omega arith) in
      rw here (find-removed xs i d (omega arith) (λ k l. before (suc k) (omega arith)) (λ k l m. after (suc k) (omega arith) (omega arith)))

or_nothing : {B : Type 0} (found : Option B) → option_or found None ≡ found
or_nothing None = refl
or_nothing (Some x) = refl

-- ---- entries and events

abbrev AreDistinct : {H : Type 0} → List (Event × H) → Type 0
AreDistinct entries = AllPairs (λ a b. IsFalse (same_event a.0 b.0)) entries

abbrev AreNormal : {H : Type 0} → List (Event × H) → Type 0
AreNormal entries = AllByRecursion (λ b. IsNormal b.0) entries

-- what has the event e hasn't the event o
other : (e o x : Event) → x ≡ e → same_event e o ≡ false → same_event x o ≡ false
other e o x at is = subst (λ (y : Event). same_event y o ≡ false) (sym at) is

same_event-symm : (x y : Event) → same_event x y ≡ same_event y x
same_event-symm = (decided same_event same_event-decides).symm

-- a map that has this at the event, and at the others what the old one has
decided_at : {H : Type 0} (e : Event) (value : Option H) (old new : Event → Option H) → new e ≡ value → ((o : Event) → same_event e o ≡ false → new o ≡ old o)
    → (o : Event) → new o ≡ map_with e value old o
decided_at {H} e value old new at kept o = by (same_event e o) refl
  where
    by : (same : Bool) → same_event e o ≡ same → new o ≡ cond same value (old o)
    by true is = subst (λ (x : Event). new x ≡ value) ((same_event-decides e o).0 is) at
    by false is = kept o is

module _ {H : Type 0} (e : Event) (entries : List (Event × H)) where
  pub place_below : (i : ℕ) (d : Event × H) → position (has_event e) entries ≡ Some i → i < length entries
  place_below i d at = (position-Some (has_event e) entries i d at).0

  here : (i : ℕ) (d : Event × H) → position (has_event e) entries ≡ Some i → (get_or entries i d).0 ≡ e
  here i d at = (same_event-decides (get_or entries i d).0 e).0 (position-Some (has_event e) entries i d at).1

  pub found_at : (i : ℕ) (d b : Event × H) → position (has_event e) entries ≡ Some i → b ≡ get_or entries i d → Some b.1 ≡ find e entries
  found_at i d b at is = ap (λ (x : Event × H). Some x.1) is ∙ sym (ap (option_map (λ (x : Event × H). x.1)) (first_at (has_event e) entries i d at))

  -- the entry there has the event
  pub entry_at : (i : ℕ) (d b : Event × H) → position (has_event e) entries ≡ Some i → b ≡ get_or entries i d → b.0 ≡ e
  entry_at i d b at is = ap (λ (x : Event × H). x.0) is ∙ here i d at

  pub found_nowhere : position (has_event e) entries ≡ None → None ≡ find e entries
  found_nowhere at = sym (ap (option_map (λ (x : Event × H). x.1)) (nothing_passes (has_event e) entries at))

  -- another handler at the entry's place
  pub bound_at_place : (i : ℕ) (d b : Event × H) → position (has_event e) entries ≡ Some i → b.0 ≡ (get_or entries i d).0
      → (o : Event) → find o (set entries i b) ≡ map_with e (Some b.1) (λ x. find x entries) o
  bound_at_place i d b at kept =
      let w = position-Some (has_event e) entries i d at in
      let first : position_or_len (has_event e) entries ≡ i = position_or_len_is (has_event e) entries i d (omega arith) w.2 (λ _. w.1) in
      let passes : has_event e b ≡ true = (same_event-decides b.0 e).1 (kept ∙ here i d at) in
      decided_at e (Some b.1) (λ x. find x entries) (λ x. find x (set entries i b))
      (ap (option_map (λ (x : Event × H). x.1)) (find-set (has_event e) entries i b (sym first) w.0 passes))
      (λ o is. ap (option_map (λ (x : Event × H). x.1))
      (find_past (has_event o) entries i b d (other e o (get_or entries i d).0 (here i d at) is) (other e o b.0 (kept ∙ here i d at) is)))

  -- a new entry after the others
  pub bound_behind : (b : Event × H) → position (has_event e) entries ≡ None → b.0 ≡ e
      → (o : Event) → find o (entries ++ b ∷ []) ≡ map_with e (Some b.1) (λ x. find x entries) o
  bound_behind b at new =
      let passes : has_event e b ≡ true = (same_event-decides b.0 e).1 new in
      let found : first_passing (has_event e) (entries ++ b ∷ []) ≡ Some b =
      find-append (has_event e) entries (b ∷ []) ∙ rw (nothing_passes (has_event e) entries at, passes) refl in
      decided_at e (Some b.1) (λ x. find x entries) (λ x. find x (entries ++ b ∷ [])) (ap (option_map (λ (x : Event × H). x.1)) found)
      (λ o is. ap (option_map (λ (x : Event × H). x.1)) (find-append (has_event o) entries (b ∷ [])
      ∙ rw (other e o b.0 new is) (or_nothing (first_passing (has_event o) entries))))

  -- the entry taken out
  pub unbound_at_place : (i : ℕ) (d : Event × H) → position (has_event e) entries ≡ Some i → AreDistinct entries
      → (o : Event) → find o (remove entries i) ≡ map_with e None (λ x. find x entries) o
  unbound_at_place i d at distinct =
      let w = position-Some (has_event e) entries i d at in
      let apart : (k : ℕ) → i < k → k < length entries → has_event e (get_or entries k d) ≡ false =
      λ k l m. same_event-symm (get_or entries k d).0 e ∙ subst (λ (x : Event). same_event x (get_or entries k d).0 ≡ false) (here i d at) (distinct i k d l m) in
      decided_at e None (λ x. find x entries) (λ x. find x (remove entries i))
      (ap (option_map (λ (x : Event × H). x.1)) (find-removed (has_event e) entries i d w.0 w.2 apart))
      (λ o is. ap (option_map (λ (x : Event × H). x.1)) (find-remove (has_event o) entries i d w.0 (other e o (get_or entries i d).0 (here i d at) is)))

  pub nothing_unbound : position (has_event e) entries ≡ None → (o : Event) → find o entries ≡ map_with e None (λ x. find x entries) o
  nothing_unbound at = decided_at e None (λ x. find x entries) (λ x. find x entries) (sym (found_nowhere at)) (λ o is. refl)

-- ---- no two entries have one event, after each edit

event_kept : {H : Type 0} (entries : List (Event × H)) (i : ℕ) (d b : Event × H) → b.0 ≡ (get_or entries i d).0
    → (k : ℕ) (c : Event × H) → (get_or (set entries i b) k c).0 ≡ (get_or entries k c).0
event_kept (x ∷ entries) zero d b kept zero c = kept
event_kept (x ∷ entries) (suc i) d b kept (suc k) c = event_kept entries i d b kept k c
event_kept entries i d b kept k c = refl

distinct_set : {H : Type 0} (entries : List (Event × H)) (i : ℕ) (d b : Event × H) → b.0 ≡ (get_or entries i d).0 → AreDistinct entries → AreDistinct (set entries i b)
distinct_set {H} entries i d b kept distinct j k c l m =
    let first = event_kept entries i d b kept j c in
    let second = event_kept entries i d b kept k c in
    let unchanged : same_event (get_or (set entries i b) j c).0 (get_or (set entries i b) k c).0 ≡ same_event (get_or entries j c).0 (get_or entries k c).0 =
    λ t. same_event (first t) (second t) in
    unchanged ∙ distinct j k c l (omega (arith, length-set {A = Event × H}))

-- ---- each bound event is in its normal form, after each edit

normal_set : {H : Type 0} (entries : List (Event × H)) (i : ℕ) (d b : Event × H) → i < length entries → b.0 ≡ (get_or entries i d).0 → AreNormal entries → AreNormal (set entries i b)
normal_set [] i d b h kept normal = normal
normal_set (x ∷ entries) zero d b h kept normal = (subst (λ (e : Event). IsNormal e) (sym kept) normal.0, normal.1)
normal_set (x ∷ entries) (suc i) d b h kept normal = (normal.0, normal_set entries i d b (omega arith) kept normal.1)

normal_push : {H : Type 0} (entries : List (Event × H)) (b : Event × H) → IsNormal b.0 → AreNormal entries → AreNormal (entries ++ b ∷ [])
normal_push [] b is normal = (is, tt)
normal_push (x ∷ entries) b is normal = (normal.0, normal_push entries b is normal.1)

normal_remove : {H : Type 0} (entries : List (Event × H)) (i : ℕ) → AreNormal entries → AreNormal (remove entries i)
normal_remove [] zero normal = normal
normal_remove [] (suc i) normal = normal
normal_remove (x ∷ entries) zero normal = normal.1
normal_remove (x ∷ entries) (suc i) normal = (normal.0, normal_remove entries i normal.1)

pub map_set : {H : Type 0} (entries : List (Event × H)) (i : ℕ) (d b : Event × H) → i < length entries → b.0 ≡ (get_or entries i d).0 → IsMap entries → IsMap (set entries i b)
map_set entries i d b h kept is = record { distinct = distinct_set entries i d b kept is.distinct; normal = normal_set entries i d b h kept is.normal }

pub map_push : {H : Type 0} (entries : List (Event × H)) (b : Event × H) → IsNormal b.0 → position (has_event b.0) entries ≡ None → IsMap entries → IsMap (entries ++ b ∷ [])
map_push entries b normal at is = record {
  distinct = all_pairs_push (λ x y. IsFalse (same_event x.0 y.0)) entries b is.distinct (each_fails (has_event b.0) entries (nothing_passes (has_event b.0) entries at));
  normal = normal_push entries b normal is.normal;
}

pub map_remove : {H : Type 0} (entries : List (Event × H)) (i : ℕ) → i < length entries → IsMap entries → IsMap (remove entries i)
map_remove entries i h is = record {
  distinct = all_pairs_remove (λ x y. IsFalse (same_event x.0 y.0)) entries i h is.distinct;
  normal = normal_remove entries i is.normal;
}

-- only an event in its normal form is bound to something
found_normal : {H : Type 0} (e : Event) (entries : List (Event × H)) → AreNormal entries → IsSome (find e entries) → IsNormal e
found_normal e [] normal some = absurd (true≢false (sym some))
found_normal {H} e (x ∷ entries) normal some = by (has_event e x) refl (found_normal e entries normal.1) some
  where
    by : (same : Bool) → has_event e x ≡ same → (IsSome (find e entries) → IsNormal e)
        → IsSome (option_map (λ (y : Event × H). y.1) (cond same (Some x) (first_passing (has_event e) entries))) → IsNormal e
    by true is later found = subst (λ (o : Event). IsNormal o) ((same_event-decides x.0 e).0 is) normal.0
    by false is later found = later found

pub normal_if_found : {H : Type 0} (e : Event) (entries : List (Event × H)) → IsMap entries → IsSome (find e entries) → IsNormal e
normal_if_found e entries is some = found_normal e entries is.normal some
