-- The record as its items and the number of those done.
use Rattle.std.proofs.Common.{◌≡◌, ℕ, zero, suc, ◌-◌, ◌<◌, ◌≤◌, Bool, false, List, [], ◌∷◌, ◌++◌, length, take, drop, reverse, refl, sym, ap, ap₂, subst, ◌∙◌, arith, get_or, append_assoc, Some, None, Option, unwrap_or, slice_get, is_some, min}
use Rattle.std.proofs.Math.Seq.{take-length}
use Rattle.std.proofs.lemmas.Bool.Decides.{nat_tests}
use Rattle.std.proofs.lemmas.Option.{same_Some}
use Rattle.std.proofs.lemmas.List.{take-take, take_at, drop_at, take_min, drop_all, length-reverse, length-drop, length-take-le, reverse-append, reverse-reverse}
use Rattle.line_record.specs.Change.{Change}
use Rattle.line_record.specs.Items.{Item, Items, items_with_texts, DoneStand, changes_of_all, group_of, EndedBy, Item.Open}
use Rattle.line_record.specs.Log.{record_of, oldest_mark, IsRecord, mark_within}
use Rattle.line_record.proofs.EndLemmas.{EndedAs, gather, gather_is, closing, unmarked, mark_none}
use Rattle.line_record.proofs.StepLemmas.{first_items, reverse_more}
use Rattle.line_record.proofs.UndoLemmas.{both, kept_reverse}

pub count_done : (items : List Item) (n : ℕ) → n ≤ length items → length (reverse (take n items)) ≡ n
count_done items n h = length-reverse (take n items) ∙ length-take-le n items h

-- marks
mark_bound_step : (o : Option ℕ) (n i : ℕ) → ((k : ℕ) → o ≡ Some k → k < n) → Some (unwrap_or o n) ≡ Some i → i < suc n
mark_bound_step None n i h e = omega (arith, same_Some n i e)
mark_bound_step (Some k) n i h e = omega (arith, same_Some k i e, h k refl)

mark_bound : (items : List Item) (i : ℕ) → oldest_mark items ≡ Some i → i < length items
mark_bound [] i e = cc
mark_bound (Open ∷ items) i e = mark_bound_step (oldest_mark items) (length items) i (mark_bound items) e
mark_bound (x ∷ items) i e = omega (arith, mark_bound items i e)

within_bound : (o : Option ℕ) (n : ℕ) → ((k : ℕ) → o ≡ Some k → k < n) → mark_within o n ≡ o
within_bound o n h = grind (arith, nat_tests, h)

within_opened : (o : Option ℕ) (n : ℕ) → ((k : ℕ) → o ≡ Some k → k < n) → mark_within (Some (unwrap_or o n)) n ≡ o
within_opened o n h = grind (arith, nat_tests, h)

pub within_rest : (x : Item) (rest : List Item) → mark_within (oldest_mark (x ∷ rest)) (length rest) ≡ oldest_mark rest
within_rest Open rest = within_opened (oldest_mark rest) (length rest) (mark_bound rest)
within_rest x rest = within_bound (oldest_mark rest) (length rest) (mark_bound rest)

within_within : (o : Option ℕ) (n m : ℕ) → m ≤ n → mark_within (mark_within o n) m ≡ mark_within o m
within_within o n m le = grind (arith, nat_tests)

within_drop : (k : ℕ) (items : List Item) → mark_within (oldest_mark items) (length (drop k items)) ≡ oldest_mark (drop k items)
within_drop zero items = within_bound (oldest_mark items) (length items) (mark_bound items)
within_drop (suc k) [] = refl
within_drop (suc k) (x ∷ items) =
    let le : length (drop k items) ≤ length items = omega (arith, length-drop k items) in
    sym (within_within (oldest_mark (x ∷ items)) (length items) (length (drop k items)) le)
    ∙ ap (λ o. mark_within o (length (drop k items))) (within_rest x items) ∙ within_drop k items

pub undone_marked : (items : List Item) (n last : ℕ) (mark : Option ℕ) → n ≡ suc last → IsRecord items n mark → IsRecord items last (mark_within mark last)
undone_marked items n last mark is h =
    let inside : last < length items = omega (arith, is, h.inside) in
    let rest = reverse (take last items) in
    let count : length rest ≡ last = count_done items last (omega (arith, inside)) in
    record {
      inside = omega (arith, inside);
      marked = ap (λ m. mark_within m last) (h.marked ∙ ap oldest_mark (ap (λ k. reverse (take k items)) is ∙ reverse_more items last Open inside))
          ∙ ap (mark_within (oldest_mark (get_or items last Open ∷ rest))) (sym count)
          ∙ within_rest (get_or items last Open) rest;
    }

-- where all are done
pub all_done : (items : List Item) (n : ℕ) (done : List Item) → n ≡ length items → reverse items ≡ done → record_of items n ≡ both done []
all_done items n done is same =
    ap₂ both (ap (λ k. reverse (take k items)) is ∙ ap reverse (take-length items) ∙ same) (drop_all n items (omega (arith, is)))

pub all_marked : (items : List Item) (n : ℕ) (done : List Item) (mark : Option ℕ) → n ≡ length items → reverse items ≡ done → mark ≡ oldest_mark done → IsRecord items n mark
all_marked items n done mark is same m = record {
  inside = omega (arith, is);
  marked = m ∙ ap oldest_mark (sym same) ∙ sym (ap oldest_mark (ap (λ k. reverse (take k items)) is ∙ ap reverse (take-length items)));
}

-- the first items, kept as a record
pub record Kept (items : List Item) (d n kept : ℕ) (mark : Option ℕ) (s : Items) : Type 0 where
  pub is : IsRecord (take kept items) kept (mark_within mark kept)
  pub value : record_of (take kept items) kept ≡ first_items n s

first_kept : (items : List Item) (d n kept : ℕ) → kept ≡ min n d → d ≤ length items → take kept items ≡ take n (take d items)
first_kept items d n kept is h =
    sym (take-take kept d items (omega (arith, is))) ∙ ap (λ k. take k (take d items)) (is ∙ ap (min n) (sym (length-take-le d items h))) ∙ take_min n (take d items)

pub kept_first : (items : List Item) (d n kept : ℕ) (mark : Option ℕ) (s : Items) → record_of items d ≡ s → kept ≡ min n d → IsRecord items d mark → Kept items d n kept mark s
kept_first items d n kept mark s view is h =
    let some : kept ≤ d = omega (arith, is) in
    let same : take kept items ≡ take n (take d items) = first_kept items d n kept is h.inside in
    let count : length (take kept items) ≡ kept = length-take-le kept items (omega (arith, some, h.inside)) in
    let again : take kept (take kept items) ≡ take kept items = take-take kept kept items (omega arith) in
    let done = reverse (take d items) in
    let left : reverse (take kept items) ≡ drop (length done - n) done = ap reverse same ∙ kept_reverse (take d items) n in
    let long : length (drop (length done - n) done) ≡ kept = ap length (sym left) ∙ length-reverse (take kept items) ∙ count in
    record {
      is = record {
        inside = omega (arith, count);
        marked = ap (λ m. mark_within m kept) h.marked ∙ ap (mark_within (oldest_mark done)) (sym long) ∙ within_drop (length done - n) done
            ∙ ap oldest_mark (sym left ∙ ap reverse (sym again));
      };
      value = ap₂ both (ap reverse again ∙ left) (drop_all kept (take kept items) (omega (arith, count)))
          ∙ ap (first_items n) view;
    }

-- the marks are closed
record Split (items : List Item) (i : ℕ) : Type 0 where
  newer : List Item
  older : List Item
  whole : items ≡ newer ++ (Open ∷ older)
  count : length older ≡ i
  free : oldest_mark older ≡ None

split_open : (o : Option ℕ) (items : List Item) (i : ℕ) → oldest_mark items ≡ o → ((k : ℕ) → oldest_mark items ≡ Some k → Split items k) → Some (unwrap_or o (length items)) ≡ Some i → Split (Open ∷ items) i
split_open None items i is h e = record { newer = []; older = items; whole = refl; count = same_Some (length items) i e; free = is }
split_open (Some k) items i is h e =
    let s = h k is in
    record { newer = Open ∷ s.newer; older = s.older; whole = ap (λ xs. Open ∷ xs) s.whole; count = s.count ∙ same_Some k i e; free = s.free }

mark_split : (items : List Item) (i : ℕ) → oldest_mark items ≡ Some i → Split items i
mark_split [] i e = cc
mark_split (Open ∷ items) i e = split_open (oldest_mark items) items i refl (mark_split items) e
mark_split (x ∷ items) i e =
    let s = mark_split items i e in
    record { newer = x ∷ s.newer; older = s.older; whole = ap (λ xs. x ∷ xs) s.whole; count = s.count; free = s.free }

pub mark_below : (items : List Item) (n i : ℕ) → IsRecord items n (Some i) → i < n
mark_below items n i h = omega (arith, mark_bound (reverse (take n items)) i (sym h.marked), count_done items n h.inside)

group_unmarked : (group : List Change) (older : List Item) → oldest_mark older ≡ None → oldest_mark (group_of group older) ≡ None
group_unmarked [] older h = h
group_unmarked (c ∷ cs) older h = h

pub closed_marks : (items new : List Item) (n i : ℕ) (closed : Bool) → IsRecord items n (Some i)
    → closed ≡ is_some (slice_get (changes_of_all (drop i (take n items))) 0)
    → reverse new ≡ group_of (changes_of_all (drop i (take n items))) (reverse (take i items))
    → ((text : List ℕ) → EndedBy closed (reverse (take n items)) (reverse new) text) × (oldest_mark (reverse new) ≡ None)
closed_marks items new n i closed h answer left =
    let below : i < n = mark_below items n i h in
    let s = mark_split (reverse (take n items)) i (sym h.marked) in
    let first : take n items ≡ reverse s.older ++ (Open ∷ reverse s.newer) =
    sym (reverse-reverse (take n items)) ∙ ap reverse s.whole ∙ reverse-append s.newer (Open ∷ s.older) ∙ ap (λ xs. xs ++ reverse s.newer) (reverse-append (Open ∷ []) s.older)
    ∙ append_assoc (reverse s.older) (Open ∷ []) (reverse s.newer) in
    let count : length (reverse s.older) ≡ i = length-reverse s.older ∙ s.count in
    let back : drop i (take n items) ≡ Open ∷ reverse s.newer = ap (drop i) first ∙ drop_at (reverse s.older) (Open ∷ reverse s.newer) i count in
    let front : take i items ≡ reverse s.older = sym (take-take i n items (omega (arith, below))) ∙ ap (take i) first ∙ take_at (reverse s.older) (Open ∷ reverse s.newer) i count in
    let group : changes_of_all (drop i (take n items)) ≡ gather s.newer = ap changes_of_all back ∙ gather_is s.newer in
    let after : reverse new ≡ group_of (gather s.newer) s.older = left ∙ ap₂ group_of group (ap reverse front ∙ reverse-reverse s.older) in
    let ended : (text : List ℕ) → EndedAs (reverse (take n items)) (gather s.newer) (group_of (gather s.newer) s.older) text =
    λ text. subst (λ xs. EndedAs xs (gather s.newer) (group_of (gather s.newer) s.older) text) (sym s.whole)
    (closing s.newer s.older text (mark_none s.older s.free)) in (
      λ text. record {
        answer = answer ∙ ap (λ g. is_some (slice_get g 0)) group ∙ (ended text).closes;
        held = ap (λ xs. items_with_texts xs text) after ∙ (ended text).held;
        stand = λ k. subst (λ xs. DoneStand xs text) (sym after) ((ended text).stand k);
      },
      ap oldest_mark after ∙ group_unmarked (gather s.newer) s.older s.free,
    )

pub no_marks : (items new : List Item) (n : ℕ) → IsRecord items n None → new ≡ take n items → (text : List ℕ) → EndedBy false (reverse (take n items)) (reverse new) text
no_marks items new n h same text =
    let e = unmarked (reverse (take n items)) text (mark_none (reverse (take n items)) (sym h.marked)) in
    subst (λ xs. EndedBy false (reverse (take n items)) (reverse xs) text) (sym same) (record { answer = e.closes; held = e.held; stand = e.stand })
