-- What the steps over a log hold where some are cut off, put in, closed and read.
use Rattle.std.proofs.Common.{◌≡◌, ℕ, suc, ◌+◌, ◌-◌, ◌<◌, ◌≤◌, Bool, true, false, List, [], ◌∷◌, ◌++◌, length, take, drop, reverse, refl, sym, ap, subst, ◌∙◌, arith, get_or, Some, None, Option, ◌==◌, not, ◌&&◌, add-one}
use Rattle.std.proofs.Math.Seq.{take-add}
use Rattle.std.specs.Prelude.{slice_range, is_some, slice_get, option_map, ⊤, unwrap_or, slice_set, min}
use Rattle.std.proofs.lemmas.Bool.Decides.{nat_tests}
use Rattle.std.proofs.lemmas.Option.{slice_get-get_or}
use Rattle.std.proofs.lemmas.List.{take-take, take_min, take_at, drop_at, take-map, drop-map, get_or-map, get_or-take, get_or-drop, length-map, length-append, length-take, length-drop, length-take-le, reverse-append, take_more, take_more_set, drop-drop}
use Rattle.line_record.specs.declared.steps.Step.{Step}
use Rattle.line_record.specs.Change.{Change, Change.Inserted}
use Rattle.line_buffer.specs.Event.{ChangeEvent}
use Rattle.line_record.specs.Held.{join_of, text_inserted_by}
use Rattle.line_record.specs.Log.{join_at, Adjoin, items_in, AreSteps, item_from, item_inserted, is_open}
use Rattle.line_record.specs.Items.{Item, changes_of, changes_of_all, group_of, join_of_items, Item.Open, Item.Lone}
use Rattle.line_record.proofs.EndLemmas.{changes_of-item_from, group_pushed}
use Rattle.line_record.proofs.LogLemmas.{joined_at_is}
use Rattle.line_record.proofs.StoredLemmas.{before_last, inserted_last}
use Rattle.line_record.proofs.StepLemmas.{reverse_more}
use Rattle.line_record.proofs.SpanLemmas.{take_lower, slice_same, adjoin_le, adjoin_cut, adjoin_drop, adjoin_at, SpansAre, place_inside, spans_cut, span_pushed, place_of_span}

abbrev first_of : Step → ℕ
first_of s = s.first

abbrev last_of : Step → ℕ
last_of s = s.last

abbrev Any : List Change → Step → Type 0
Any edits s = ⊤

abbrev pub item_in : List Change → Step → Item
item_in edits s = item_from s.closed (slice_range edits s.first s.last)

item_kept : (s : Step) (xs ys : List Change) → s.first ≤ s.last → take s.last xs ≡ take s.last ys → Any xs s → item_in ys s ≡ item_in xs s
item_kept s xs ys le e h = ap (item_from s.closed) (sym (slice_same s.first s.last xs ys le e))

any_kept : (s : Step) (xs ys : List Change) → s.first ≤ s.last → take s.last xs ≡ take s.last ys → Any xs s → Any ys s
any_kept s xs ys le e a = a

-- steps over changes, and the items that they are
abbrev pub StepsAre : List Change → List Step → List Item → Type 0
StepsAre edits steps items = SpansAre first_of last_of Any item_in edits steps (length edits) items

module _ (edits after : List Change) (steps : List Step) (n place : ℕ) (h : AreSteps edits steps) (is : place ≡ place_of_span first_of steps n (length edits)) where
  pub step_place_inside : place ≤ length edits
  step_place_inside = place_inside first_of last_of Any item_in any_kept item_kept edits after steps n place h is

  -- cut off
  pub steps_cut : (left : List Step) → after ≡ take place edits → left ≡ take n steps → StepsAre after left (take n (items_in edits steps))
  steps_cut = spans_cut first_of last_of Any item_in any_kept item_kept edits after steps n place h is

  -- one more
  pub step_pushed : (s : Step) (new : List Step) (item : Item) → s.first ≡ place → take place edits ≡ take place after → s.first ≤ s.last → s.last ≡ length after → item_in after s ≡ item → new ≡ take n steps ++ (s ∷ [])
      → StepsAre after new (take n (items_in edits steps) ++ (item ∷ []))
  step_pushed s new item at same order end = span_pushed first_of last_of Any item_in any_kept item_kept edits after steps n place h is s new item at same order tt end

no_slice : {A : Type 0} (xs : List A) (i : ℕ) → slice_range xs i i ≡ []
no_slice xs i =
    let n : i - i ≡ 0 = omega arith in
    ap (λ k. take k (drop i xs)) n

-- an open mark
pub mark_pushed : (edits after : List Change) (steps new : List Step) (n place : ℕ) → AreSteps edits steps → place ≡ place_of_span first_of steps n (length edits) → after ≡ take place edits
    → new ≡ take n steps ++ ((record { closed = false; first = place; last = place }) ∷ []) → StepsAre after new (take n (items_in edits steps) ++ (Open ∷ []))
mark_pushed edits after steps new n place h is cut =
    step_pushed edits after steps n place h is (record { closed = false; first = place; last = place }) new Open refl (sym (ap (take place) cut ∙ take-take place place edits (omega arith))) (omega arith)
    (sym (ap length cut ∙ length-take-le place edits (step_place_inside edits after steps n place h is))) (ap (item_from false) (no_slice after place))

one_slice : {A : Type 0} (xs : List A) (front : List A) (x : A) (i j : ℕ) → xs ≡ front ++ (x ∷ []) → length front ≡ i → j ≡ suc i → slice_range xs i j ≡ x ∷ []
one_slice xs front x i j is count next =
    let n : j - i ≡ 1 = omega (arith, next) in
    ap (λ k. take k (drop i xs)) n ∙ ap (take 1) (ap (drop i) is ∙ drop_at front (x ∷ []) i count)

-- a lone change
pub lone_pushed : (edits after : List Change) (steps new : List Step) (n place last : ℕ) (e : Change) → AreSteps edits steps → place ≡ place_of_span first_of steps n (length edits) → after ≡ take place edits ++ (e ∷ [])
    → last ≡ length after → new ≡ take n steps ++ ((record { closed = false; first = place; last = last }) ∷ []) → StepsAre after new (take n (items_in edits steps) ++ (Lone e ∷ []))
lone_pushed edits after steps new n place last e h is put end =
    let count : length (take place edits) ≡ place = length-take-le place edits (step_place_inside edits after steps n place h is) in
    let long : last ≡ suc place = omega (arith, end, ap length put, length-append (take place edits) (e ∷ []), count) in
    step_pushed edits after steps n place h is (record { closed = false; first = place; last = last }) new (Lone e) refl
    (sym (ap (take place) put ∙ take_at (take place edits) (e ∷ []) place count)) (omega (arith, long)) end
    (ap (item_from false) (one_slice after (take place edits) e place last put count long))

-- the step of an index
pub record StepAt (edits : List Change) (steps : List Step) (items : List Item) (n : ℕ) (s : Step) : Type 0 where
  pub order : s.first ≤ s.last
  pub inside : s.last ≤ length edits
  pub place : s.first ≡ place_of_span first_of steps n (length edits)
  pub next : s.last ≡ place_of_span first_of steps (suc n) (length edits)
  pub item : get_or items n Open ≡ item_in edits s
  pub changes : changes_of (get_or items n Open) ≡ slice_range edits s.first s.last
  pub within : n < length steps

pub step_at : (edits : List Change) (steps : List Step) (items : List Item) (n : ℕ) (s : Step) → AreSteps edits steps → items_in edits steps ≡ items → n < length items → s ≡ get_or steps n s
    → StepAt edits steps items n s
step_at edits steps items n s h view inside is =
    let within : n < length steps = omega (arith, inside, ap length view, length-map steps (item_in edits)) in
    let r = adjoin_at first_of last_of Any n edits steps 0 (length edits) s h within in
    let item : get_or items n Open ≡ item_in edits s =
    ap (λ xs. get_or xs n Open) (sym view) ∙ get_or-map (item_in edits) steps n s Open within ∙ ap (item_in edits) (sym is) in
    record {
      order = subst (λ t. t.first ≤ t.last) (sym is) r.order;
      inside = subst (λ t. t.last ≤ length edits) (sym is) r.inside;
      place = sym (r.place ∙ ap first_of (sym is));
      next = sym (r.next ∙ ap last_of (sym is));
      item = item;
      changes = ap changes_of item ∙ changes_of-item_from s.closed (slice_range edits s.first s.last);
      within = within;
    }

slice_split : {A : Type 0} (xs : List A) (i j k : ℕ) → i ≤ j → j ≤ k → slice_range xs i j ++ slice_range xs j k ≡ slice_range xs i k
slice_split xs i j k le more =
    let a : (j - i) + (k - j) ≡ k - i = omega arith in
    let b : i + (j - i) ≡ j = omega arith in
    sym (ap (λ n. take n (drop i xs)) (sym a) ∙ take-add (j - i) (k - j) (drop i xs)
    ∙ ap (λ ys. slice_range xs i j ++ take (k - j) ys) (drop-drop (j - i) i xs ∙ ap (λ n. drop n xs) b))

-- the changes of steps that adjoin
pub gathered_spans : (edits : List Change) (steps : List Step) (from to : ℕ) → Adjoin first_of last_of Any edits from steps to → changes_of_all (items_in edits steps) ≡ slice_range edits from to
gathered_spans edits [] from to h = sym (ap (slice_range edits from) (sym h) ∙ no_slice edits from)
gathered_spans edits (s ∷ steps) from to h =
    ap (λ cs. cs ++ changes_of_all (items_in edits steps)) (changes_of-item_from s.closed (slice_range edits s.first s.last) ∙ ap (λ k. slice_range edits k s.last) h.0)
    ∙ ap (λ cs. slice_range edits from s.last ++ cs) (gathered_spans edits steps s.last to h.3)
    ∙ slice_split edits from s.last to h.1 (adjoin_le first_of last_of Any edits steps s.last to h.3)

pub slice_length : {A : Type 0} (xs : List A) (i j : ℕ) → j ≤ length xs → length (slice_range xs i j) ≡ j - i
slice_length xs i j le = length-take-le (j - i) (drop i xs) (omega (arith, le, length-drop i xs))

is_open-item_from : (closed : Bool) (cs : List Change) → is_open (item_from closed cs) ≡ (length cs == 0)
is_open-item_from closed cs = grind (arith, nat_tests)

same_zero : (i j : ℕ) → i ≤ j → (i == j) ≡ (j - i == 0)
same_zero i j le = grind (arith, nat_tests)

pub marks : (edits : List Change) (steps : List Step) (items : List Item) (n : ℕ) (s : Step) → StepAt edits steps items n s → (s.first == s.last) ≡ is_open (get_or items n Open)
marks edits steps items n s h =
    same_zero s.first s.last h.order ∙ ap (λ k. k == 0) (sym (slice_length edits s.first s.last h.inside))
    ∙ sym (ap is_open h.item ∙ is_open-item_from s.closed (slice_range edits s.first s.last))

-- the text that a step's newest change put in
pub step_inserted : (edits : List Change) (steps : List Step) (items : List Item) (n : ℕ) (s : Step) (d : Change) → StepAt edits steps items n s → s.first < s.last
    → item_inserted (get_or items n Open) ≡ text_inserted_by (get_or edits (s.last - 1) d)
step_inserted edits steps items n s d h some =
    let cs = slice_range edits s.first s.last in
    let count : length cs ≡ s.last - s.first = slice_length edits s.first s.last h.inside in
    let at : s.first + (length cs - 1) ≡ s.last - 1 = omega (arith, count, some) in
    ap item_inserted h.item ∙ ap (λ xs. item_inserted (item_from s.closed xs)) (before_last cs d (omega (arith, count, some)))
    ∙ inserted_last s.closed (take (length cs - 1) cs) (get_or cs (length cs - 1) d)
    ∙ ap text_inserted_by (get_or-take (s.last - s.first) (drop s.first edits) (length cs - 1) d (omega (arith, count, some)) ∙ get_or-drop s.first edits (length cs - 1) d ∙ ap (λ k. get_or edits k d) at)

-- the newest of some items
newest_item : (items : List Item) (n : ℕ) → n < length items → reverse (take (n + 1) items) ≡ get_or items n Open ∷ reverse (take n items)
newest_item items n h = ap (λ k. reverse (take k items)) (add-one n) ∙ reverse_more items n Open h

not_lone : (e : ChangeEvent) (closed : Bool) (cs : List Change) (items : List Item) → (not closed && (length cs == 1)) ≡ false → join_of_items e (item_from closed cs ∷ items) ≡ None
not_lone e closed cs items h = grind (arith, nat_tests)

is_lone : (closed : Bool) (cs : List Change) (d : Change) → (not closed && (length cs == 1)) ≡ true → item_from closed cs ≡ Lone (get_or cs 0 d)
is_lone closed cs d h = grind (arith, nat_tests)

lone_count : (closed : Bool) (n : ℕ) → (not closed && (n == 1)) ≡ true → n ≡ 1
lone_count closed n h = grind (arith, nat_tests)

lone_from : (closed : Bool) (n : ℕ) (j : Change) → (not closed && (n == 1)) ≡ true → item_from closed (j ∷ []) ≡ Lone j
lone_from closed n j h = grind (arith, nat_tests)

pub joins_none : (e : ChangeEvent) (edits : List Change) (steps : List Step) (items : List Item) (n : ℕ) (s : Step) → StepAt edits steps items n s → n < length items
    → (not s.closed && (s.last - s.first == 1)) ≡ false → join_of_items e (reverse (take (n + 1) items)) ≡ None
joins_none e edits steps items n s h inside lone =
    ap (join_of_items e) (newest_item items n inside)
    ∙ ap (λ x. join_of_items e (x ∷ reverse (take n items))) h.item
    ∙ not_lone e s.closed (slice_range edits s.first s.last) (reverse (take n items)) (ap (λ k. not s.closed && (k == 1)) (slice_length edits s.first s.last h.inside) ∙ lone)

-- a lone step is joined as its change is
joins_lone : (e : ChangeEvent) (edits : List Change) (steps : List Step) (items : List Item) (n : ℕ) (s : Step) (d : Change) → StepAt edits steps items n s → n < length items
    → (not s.closed && (s.last - s.first == 1)) ≡ true
    → join_of_items e (reverse (take (n + 1) items)) ≡ option_map (λ j. Lone j ∷ reverse (take n items)) (join_of e (get_or edits s.first d))
joins_lone e edits steps items n s d h inside lone =
    let cs = slice_range edits s.first s.last in
    let count : length cs ≡ s.last - s.first = slice_length edits s.first s.last h.inside in
    let here : (not s.closed && (length cs == 1)) ≡ true = ap (λ k. not s.closed && (k == 1)) count ∙ lone in
    let one : s.last - s.first ≡ 1 = lone_count s.closed (s.last - s.first) lone in
    let at : s.first + 0 ≡ s.first = omega arith in
    let read : get_or cs 0 d ≡ get_or edits s.first d =
    get_or-take (s.last - s.first) (drop s.first edits) 0 d (omega (arith, one)) ∙ get_or-drop s.first edits 0 d ∙ ap (λ k. get_or edits k d) at in
    ap (join_of_items e) (newest_item items n inside)
    ∙ ap (λ x. join_of_items e (x ∷ reverse (take n items))) (h.item ∙ is_lone s.closed cs d here ∙ ap Lone read)

no_join : (J : Option (List Change)) (f : Change → List Change) (g : Change → List Item) (o : Option Change) → J ≡ option_map f o → false ≡ is_some J → (J ≡ None) × (option_map g o ≡ None)
no_join J f g None e h = (e, refl)
no_join J f g (Some j) e h = cc

a_join : (J : Option (List Change)) (f : Change → List Change) (g : Change → List Item) (o : Option Change) → J ≡ option_map f o → true ≡ is_some J
    → (j : Change) × (J ≡ Some (f j)) × (option_map g o ≡ Some (g j))
a_join J f g None e h = cc
a_join J f g (Some j) e h = (j, e, refl)

-- a change that isn't joined leaves the changes
pub left_alone : (e : ChangeEvent) (edits after : List Change) (steps : List Step) (items : List Item) (n : ℕ) (s : Step) → StepAt edits steps items n s → n < length items
    → (not s.closed && (s.last - s.first == 1)) ≡ true → false ≡ is_some (join_at e s.first edits) → after ≡ unwrap_or (join_at e s.first edits) edits
    → (after ≡ edits) × (join_of_items e (reverse (take (n + 1) items)) ≡ None)
left_alone e edits after steps items n s h inside lone answer value =
    let d = Inserted 0 [] in
    let one : s.last - s.first ≡ 1 = lone_count s.closed (s.last - s.first) lone in
    let j = no_join (join_at e s.first edits) (λ j. take s.first edits ++ (j ∷ [])) (λ j. Lone j ∷ reverse (take n items)) (join_of e (get_or edits s.first d))
    (joined_at_is e s.first edits d (omega (arith, one, h.inside))) answer in
    (value ∙ ap (λ o. unwrap_or o edits) j.0, joins_lone e edits steps items n s d h inside lone ∙ j.1)

pub record JoinedOn (e : ChangeEvent) (edits after : List Change) (steps left : List Step) (items : List Item) (n : ℕ) : Type 0 where
  pub are : AreSteps after left
  pub joined : join_of_items e (reverse (take (n + 1) items)) ≡ Some (reverse (items_in after left))

pub joined_on : (e : ChangeEvent) (edits after : List Change) (steps left : List Step) (items : List Item) (n : ℕ) (s : Step) → AreSteps edits steps → items_in edits steps ≡ items → StepAt edits steps items n s
    → s ≡ get_or steps n s → n < length items → (not s.closed && (s.last - s.first == 1)) ≡ true → true ≡ is_some (join_at e s.first edits)
    → after ≡ unwrap_or (join_at e s.first edits) edits → left ≡ take (n + 1) steps → JoinedOn e edits after steps left items n
joined_on e edits after steps left items n s are view h is inside lone answer value cut =
    let d = Inserted 0 [] in
    let one : s.last - s.first ≡ 1 = lone_count s.closed (s.last - s.first) lone in
    let long : s.last ≡ suc s.first = omega (arith, one) in
    let j = a_join (join_at e s.first edits) (λ j. take s.first edits ++ (j ∷ [])) (λ j. Lone j ∷ reverse (take n items)) (join_of e (get_or edits s.first d))
    (joined_at_is e s.first edits d (omega (arith, one, h.inside))) answer in
    let put : after ≡ take s.first edits ++ (j.0 ∷ []) = value ∙ ap (λ o. unwrap_or o edits) j.1 in
    let count : length (take s.first edits) ≡ s.first = length-take-le s.first edits (omega (arith, h.inside, h.order)) in
    let pushed : left ≡ take n steps ++ (s ∷ []) = cut ∙ take_more steps n s h.within ∙ ap (λ t. take n steps ++ (t ∷ [])) (sym is) in
    let p = step_pushed edits after steps n s.first are h.place s left (Lone j.0) refl (sym (ap (take s.first) put ∙ take_at (take s.first edits) (j.0 ∷ []) s.first count)) h.order
    (long ∙ sym (ap length put ∙ length-append (take s.first edits) (j.0 ∷ []) ∙ ap (λ k. k + 1) count ∙ add-one s.first))
    (ap (item_from s.closed) (one_slice after (take s.first edits) j.0 s.first s.last put count long) ∙ lone_from s.closed (s.last - s.first) j.0 lone) pushed in
    record {
      are = p.are;
      joined = joins_lone e edits steps items n s d h inside lone ∙ j.2
          ∙ sym (ap Some (ap reverse (p.items ∙ ap (λ xs. take n xs ++ (Lone j.0 ∷ [])) view) ∙ reverse-append (take n items) (Lone j.0 ∷ [])));
    }

-- the steps from an index on as one
pub record ClosedFrom (edits : List Change) (steps : List Step) (items : List Item) (n index : ℕ) (a b : Step) : Type 0 where
  pub first : StepAt edits steps items index a
  pub group : changes_of_all (drop index (take n items)) ≡ slice_range edits a.first b.last
  pub order : a.first ≤ b.last
  pub inside : b.last ≤ length edits

pub closed_from : (edits : List Change) (steps : List Step) (items : List Item) (n index : ℕ) (a b : Step) → AreSteps edits steps → items_in edits steps ≡ items
    → index < n → n ≤ length items
    → a ≡ get_or steps index a → b ≡ get_or steps (n - 1) b → ClosedFrom edits steps items n index a b
closed_from edits steps items n index a b are view order inside at_a at_b =
    let hb = step_at edits steps items (n - 1) b are view (omega (arith, order, inside)) at_b in
    let next : suc (n - 1) ≡ n = omega (arith, order) in
    let end : b.last ≡ place_of_span first_of steps n (length edits) = hb.next ∙ ap (λ k. place_of_span first_of steps k (length edits)) next in
    let front : Adjoin first_of last_of Any edits 0 (take n steps) b.last =
    subst (λ m. Adjoin first_of last_of Any edits 0 (take n steps) m) (sym end) (adjoin_cut first_of last_of Any n edits steps 0 (length edits) are) in
    let few : index < length (take n steps) = omega (arith, order, next, hb.within, length-take n steps) in
    let r = adjoin_at first_of last_of Any index edits (take n steps) 0 b.last a front few in
    let place : place_of_span first_of (take n steps) index b.last ≡ a.first =
    r.place ∙ ap first_of (get_or-take n steps index a order ∙ sym at_a) in
    let back : Adjoin first_of last_of Any edits a.first (drop index (take n steps)) b.last =
    subst (λ m. Adjoin first_of last_of Any edits m (drop index (take n steps)) b.last) place (adjoin_drop first_of last_of Any index edits (take n steps) 0 b.last front) in
    record {
      first = step_at edits steps items index a are view (omega (arith, order, inside)) at_a;
      group = ap (λ xs. changes_of_all (drop index (take n xs))) (sym view) ∙ ap (λ xs. changes_of_all (drop index xs)) (take-map (item_in edits) n steps)
          ∙ ap changes_of_all (drop-map (item_in edits) index (take n steps)) ∙ gathered_spans edits (drop index (take n steps)) a.first b.last back;
      order = adjoin_le first_of last_of Any edits (drop index (take n steps)) a.first b.last back;
      inside = hb.inside;
    }

-- the number of their changes
pub changes_counted : (edits : List Change) (steps : List Step) (items : List Item) (first end n : ℕ) (a b : Step) → AreSteps edits steps → items_in edits steps ≡ items → n ≡ min end (length items)
    → first < n → a ≡ get_or steps first a → b ≡ get_or steps (n - 1) b → (a.first ≤ b.last) × (b.last - a.first ≡ length (changes_of_all (drop first (take end items))))
changes_counted edits steps items first end n a b are view is order at_a at_b =
    let c = closed_from edits steps items n first a b are view order (omega (arith, is)) at_a at_b in
    let same : take n items ≡ take end items = ap (λ k. take k items) is ∙ take_min end items in
    (c.order, sym (ap (λ xs. length (changes_of_all (drop first xs))) (sym same) ∙ ap length c.group ∙ slice_length edits a.first b.last c.inside))

-- what stands after those from an index on were closed
pub record Grouped (closed : Bool) (after : List Change) (new : List Step) (items : List Item) (n index : ℕ) : Type 0 where
  pub are : AreSteps after new
  pub answer : closed ≡ is_some (slice_get (changes_of_all (drop index (take n items))) 0)
  pub grouped : reverse (items_in after new) ≡ group_of (changes_of_all (drop index (take n items))) (reverse (take index items))

-- the group put in their place
pub group_pushed_on : (edits after : List Change) (steps new : List Step) (items : List Item) (n index : ℕ) (a b : Step) → AreSteps edits steps
    → items_in edits steps ≡ items
    → ClosedFrom edits steps items n index a b → (a.first ≡ b.last → ⊥) → after ≡ take b.last edits
    → new ≡ take (index + 1) (slice_set steps index (record { closed = true; first = a.first; last = b.last })) → Grouped true after new items n index
group_pushed_on edits after steps new items n index a b are view h other cut pushed =
    let s : Step = record { closed = true; first = a.first; last = b.last } in
    let same : take b.last edits ≡ take b.last after = sym (ap (take b.last) cut ∙ take-take b.last b.last edits (omega arith)) in
    let cs = slice_range edits a.first b.last in
    let some : is_some (slice_get cs 0) ≡ true =
    ap is_some (slice_get-get_or cs 0 (Inserted 0 []) (omega (arith, other, h.order, slice_length edits a.first b.last h.inside))) in
    let p = step_pushed edits after steps index a.first are h.first.place s new (item_from true cs) refl
    (take_lower a.first b.last edits after h.order same) h.order
    (sym (ap length cut ∙ length-take-le b.last edits h.inside)) (ap (item_from true) (sym (slice_same a.first b.last edits after h.order same)))
    (pushed ∙ take_more_set steps index s h.first.within) in
    record {
      are = p.are;
      answer = sym (ap (λ g. is_some (slice_get g 0)) h.group ∙ some);
      grouped = ap reverse (p.items ∙ ap (λ xs. take index xs ++ (item_from true cs ∷ [])) view) ∙ reverse-append (take index items) (item_from true cs ∷ [])
          ∙ group_pushed cs (reverse (take index items)) some ∙ sym (ap (λ g. group_of g (reverse (take index items))) h.group);
    }

pub group_gone : (edits after : List Change) (steps left : List Step) (items : List Item) (n index : ℕ) (a b : Step) → AreSteps edits steps
    → items_in edits steps ≡ items
    → ClosedFrom edits steps items n index a b → a.first ≡ b.last → after ≡ take b.last edits → left ≡ take index steps → Grouped false after left items n index
group_gone edits after steps left items n index a b are view h same cut kept =
    let p = steps_cut edits after steps index a.first are h.first.place left (cut ∙ ap (λ k. take k edits) (sym same)) kept in
    let none : changes_of_all (drop index (take n items)) ≡ [] = h.group ∙ ap (slice_range edits a.first) (sym same) ∙ no_slice edits a.first in
    record {
      are = p.are;
      answer = sym (ap (λ g. is_some (slice_get g 0)) none);
      grouped = ap reverse (p.items ∙ ap (take index) view) ∙ sym (ap (λ g. group_of g (reverse (take index items))) none);
    }

pub lone_inside : (edits : List Change) (steps : List Step) (items : List Item) (n : ℕ) (s : Step) → StepAt edits steps items n s → (not s.closed && (s.last - s.first == 1)) ≡ true → s.first < length edits
lone_inside edits steps items n s h lone =
    let one : s.last - s.first ≡ 1 = lone_count s.closed (s.last - s.first) lone in
    omega (arith, one, h.inside)

pub less : (i j : ℕ) → i ≤ j → (i ≡ j → ⊥) → i < j
less i j le ne = omega (arith, le, ne)
