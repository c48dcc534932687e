-- What undoing and making anew do to the record of texts.
use Rattle.std.proofs.Common.{◌≡◌, ℕ, zero, suc, ◌+◌, ◌-◌, ◌<◌, ◌≤◌, ◌||◌, Bool, false, List, [], ◌∷◌, ◌++◌, length, take, drop, reverse, refl, sym, ap, subst, ◌∙◌, arith, append_assoc, Some, None, Ok, Err, Result, IsErrAnd, IsUtf8, ap₂}
use Rattle.std.proofs.lemmas.List.{append-nil, take-append-drop, reverse-append, length-append, length-drop, length-reverse, length-take-le, take_all, drop_at, drop-drop, drop_all, drop-append-le, reverse-reverse}
use Rattle.std.proofs.Math.Bool.{or-false}
use Rattle.std.proofs.Math.Seq.{take-add, take-nil, drop-nil, drop-append-add}
use Rattle.std.proofs.lemmas.Grind.{flat_map-append}
use Rattle.std.proofs.lemmas.List.Folds.{list_any-append}
use Rattle.std.specs.Prelude.{option_map, slice_get}
use Rattle.std.specs.List.{list_any}
use Rattle.line_buffer.specs.Line.{Line}
use Rattle.line_record.specs.Change.{Change, place_of, old_text_of, new_text_of, text_after_undo, text_after_redo, redo_place, StandsIn, all_taken_back, all_made_anew, AllStandIn, AllFitIn, newest_of}
use Rattle.line_record.specs.Held.{HeldItem, is_step, line_before_item, line_back, has_step, ahead_back, line_ahead, record_ahead, Undone}
use Rattle.line_record.specs.Items.{Item, Items, changes_of, before_item, after_item, item_with_text, items_with_texts, ahead_with_texts, DoneStand, UndoneFit, ItemsStand, record_on, ahead_on, line_after_undo, line_after_redo, lines_back, lines_ahead, nearest_changes, undo_some, is_step_item, UndoesItems, last_changes, CutUndo, changes_of_all}
use Rattle.line_record.specs.Items.Item.{Open, Group}
use Rattle.line_record.proofs.Exchange.{exchanged}
use Rattle.line_record.proofs.StepLemmas.{lines_back_text, lines_ahead_text, lines_back_but_place}
use Rattle.line_record.proofs.StoredLemmas.{text_of-holding}

lines_back-append : (cs ds : List Change) (l : Line) → lines_back (cs ++ ds) l ≡ lines_back cs (lines_back ds l)
lines_back-append [] ds l = refl
lines_back-append (c ∷ cs) ds l = ap (line_after_undo c) (lines_back-append cs ds l)

-- one item more
last_changes-next : (n : ℕ) (x : Item) (items : List Item) → last_changes (suc n) (x ∷ items) ≡ last_changes n items ++ changes_of x
last_changes-next n x items =
    ap changes_of_all (reverse-append (x ∷ []) (take n items)) ∙ flat_map-append changes_of (reverse (take n items)) (x ∷ [])
    ∙ ap (λ cs. last_changes n items ++ cs) (append-nil (changes_of x))

-- ---- the changes of some items, as the code counts them

-- the first items, counted from the other end
pub kept_reverse : (xs : List Item) (n : ℕ) → reverse (take n xs) ≡ drop (length (reverse xs) - n) (reverse xs)
kept_reverse xs n =
    let newer = reverse (drop n xs) in
    let older = reverse (take n xs) in
    let split : reverse xs ≡ newer ++ older = ap reverse (sym (take-append-drop n xs)) ∙ reverse-append (take n xs) (drop n xs) in
    let count : length newer ≡ length (reverse xs) - n = length-reverse (drop n xs) ∙ length-drop n xs ∙ ap (λ k. k - n) (sym (length-reverse xs)) in
    sym (ap (drop (length (reverse xs) - n)) split ∙ drop_at newer older (length (reverse xs) - n) count)

-- the last of the items that are done, among all items
pub last_changes_of : (items : List Item) (done n first : ℕ) → done ≤ length items → first ≡ done - n → last_changes n (reverse (take done items)) ≡ changes_of_all (drop first (take done items))
last_changes_of items done n first inside is =
    let steps = take done items in
    let from : length steps - n ≡ first = omega (arith, is, length-take-le done items inside) in
    ap changes_of_all (kept_reverse (reverse steps) n) ∙ ap (λ xs. changes_of_all (drop (length xs - n) xs)) (reverse-reverse steps)
    ∙ ap (λ k. changes_of_all (drop k steps)) from

-- the nearest item that is undone, among all items
pub some_ahead : (items : List Item) (done end : ℕ) → end ≤ done + 1 → 0 < length (changes_of_all (drop done (take end items))) → 0 < length (nearest_changes (drop done items))
some_ahead [] done end le some =
    let none = rw (take-nil end, drop-nil done) at some in
    omega (arith, none)
some_ahead (x ∷ items) zero zero le some = absurd (omega (arith, some))
some_ahead (x ∷ items) zero (suc zero) le some = omega (arith, some, ap length (append-nil (changes_of x)))
some_ahead (x ∷ items) zero (suc (suc end)) le some = absurd (omega (arith, le))
some_ahead (x ∷ items) (suc done) zero le some = absurd (omega (arith, some))
some_ahead (x ∷ items) (suc done) (suc end) le some = some_ahead items done end (omega (arith, le)) some

-- changes that were undone can be redone
pub record TakenBack (cs : List Change) (text : List ℕ) : Type 0 where
  pub utf8 : IsUtf8 (all_taken_back cs text)
  pub fit : AllFitIn cs (all_taken_back cs text)
  pub back : all_made_anew cs (all_taken_back cs text) ≡ text

pub was_taken_back : (cs : List Change) (text : List ℕ) → AllStandIn cs text → IsUtf8 text → TakenBack cs text
was_taken_back [] text h u = record { utf8 = u; fit = tt; back = refl }
was_taken_back (c ∷ cs) text h u =
    let below = was_taken_back cs text h.1 u in
    let x = exchanged (place_of c) (new_text_of c) (old_text_of c) (all_taken_back cs text) h.0 below.utf8 in
    record {
      utf8 = x.utf8;
      fit = (x.stand, subst (AllFitIn cs) (sym x.back) below.fit);
      back = ap (all_made_anew cs) x.back ∙ below.back;
    }

-- changes that were redone can be undone
record MadeAnew (cs : List Change) (text : List ℕ) : Type 0 where
  stand : AllStandIn cs (all_made_anew cs text)
  back : all_taken_back cs (all_made_anew cs text) ≡ text

was_made_anew : (cs : List Change) (text : List ℕ) → AllFitIn cs text → IsUtf8 text → MadeAnew cs text
was_made_anew [] text h u = record { stand = tt; back = refl }
was_made_anew (c ∷ cs) text h u =
    let x = exchanged (place_of c) (old_text_of c) (new_text_of c) text h.0 u in
    let above = was_made_anew cs (text_after_redo c text) h.1 x.utf8 in
    record {
      stand = (subst (StandsIn c) (sym above.back) x.stand, above.stand);
      back = ap (text_after_undo c) above.back ∙ x.back;
    }

item_back : (x : Item) (l : Line) → lines_back (changes_of x) l ≡ line_before_item (item_with_text x (before_item x l.text)) l
item_back (Group c cs) l = ap (line_after_undo c) (lines_back_but_place cs l 0)
item_back _ l = refl

group_ahead : (c : Change) (cs : List Change) (l : Line) → lines_ahead (c ∷ cs) l ≡ record l { text = all_made_anew (c ∷ cs) l.text; place = redo_place (newest_of c cs) }
group_ahead c [] l = refl
group_ahead c (d ∷ cs) l = group_ahead d cs (line_after_redo c l)

item_ahead : (x : Item) (l : Line) → lines_ahead (changes_of x) l ≡ line_ahead (record { held = item_with_text x l.text; text = after_item x l.text } ∷ []) l
item_ahead (Group c cs) l = group_ahead c cs l
item_ahead _ l = refl

is_step-holding : (x : Item) (text : List ℕ) → is_step_item x ≡ is_step (item_with_text x text)
is_step-holding Open text = refl
is_step-holding _ text = refl

-- ---- the loop of an undo

abbrev pub both : List Item → List Item → Items
both done undone = record { done = done; undone = undone }

-- what it has done after some items
pub record Undoing (end counter : ℕ) (first now : Items) (before after : Line) (undone : Bool) : Type 0 where
  pub bound : counter ≤ end
  pub answer : undone ≡ list_any is_step_item (take counter first.done)
  pub items : now ≡ both (drop counter first.done) (reverse (take counter first.done) ++ first.undone)
  pub line : after ≡ lines_back (last_changes counter first.done) before
  pub stand : DoneStand now.done after.text

module _ (end counter : ℕ) (first : Items) (before after later : Line) (undone : Bool) where
  abbrev So_far : List Item → List Item → Type 0
  So_far done undone_items = Undoing end counter first (both done undone_items) before after undone

  -- one item more
  pub undo_turn : (done undone_items : List Item) (next : Items) (b : Bool) → So_far done undone_items → counter < end → Some b ≡ option_map is_step_item (slice_get done 0)
      → next ≡ undo_some 1 done undone_items → later ≡ lines_back (nearest_changes done) after → Undoing end (counter + 1) first next before later (undone || b)
  undo_turn [] undone_items next b u less is items line = cc
  undo_turn (x ∷ done) undone_items next b u less is items line =
      let newer = take counter first.done in
      let rest : drop counter first.done ≡ x ∷ done = sym (ap (λ (s : Items). s.done) u.items) in
      let taken : take (counter + 1) first.done ≡ newer ++ x ∷ [] = take-add counter 1 first.done ∙ ap (λ xs. newer ++ take 1 xs) rest in
      let turned : reverse (take (counter + 1) first.done) ≡ x ∷ reverse newer = ap reverse taken ∙ reverse-append newer (x ∷ []) in
      let same : b ≡ is_step_item x || false = (let e : b ≡ is_step_item x = cc in e) ∙ sym (or-false (is_step_item x)) in
      record {
        bound = omega (arith, less);
        answer = ap₂ (λ a c. a || c) u.answer same ∙ sym (ap (list_any is_step_item) taken ∙ list_any-append is_step_item newer (x ∷ []));
        items = items ∙ ap₂ both (ap (drop 1) (sym rest) ∙ drop-drop 1 counter first.done) (ap (λ (s : Items). x ∷ s.undone) u.items ∙ ap (λ xs. xs ++ first.undone) (sym turned));
        line = line ∙ ap (lines_back (changes_of x)) u.line ∙ sym (lines_back-append (changes_of x) (last_changes counter first.done) before)
            ∙ ap (λ xs. lines_back (changes_of_all xs) before) (sym turned);
        stand = subst (λ (s : Items × Line). DoneStand s.0.done s.1.text) (sym (ap₂ (λ (s : Items) (l : Line). (s, l)) items line))
            (subst (DoneStand done) (sym (lines_back_text (changes_of x) after)) u.stand.1);
      }

  -- no item is left
  pub nothing_left : {E : Type 0} (done undone_items : List Item) (next : Items) → So_far done undone_items → None ≡ option_map is_step_item (slice_get done 0)
      → next ≡ undo_some 1 done undone_items → later ≡ lines_back (nearest_changes done) after → UndoesItems {E = E} end first next before later (Ok undone)
  nothing_left [] undone_items next u is items line =
      let rest : [] ≡ drop counter first.done = ap (λ (s : Items). s.done) u.items in
      let short : length first.done ≤ counter = omega (arith, ap length rest, length-drop counter first.done) in
      let taken : take counter first.done ≡ take end first.done = take_all counter first.done short ∙ sym (take_all end first.done (omega (arith, short, u.bound))) in
      record {
        answer = u.answer ∙ ap (list_any is_step_item) taken;
        items = items ∙ ap₂ both (sym (drop_all end first.done (omega (arith, short, u.bound)))) (ap (λ (s : Items). s.undone) u.items ∙ ap (λ xs. reverse xs ++ first.undone) taken);
        back = record { line = line ∙ u.line ∙ ap (λ xs. lines_back (changes_of_all (reverse xs)) before) taken; part = tt };
      }
  nothing_left (x ∷ done) undone_items next u is items line = cc

  -- the next item failed in part
  part_left : (done undone_items : List Item) → So_far done undone_items → counter < end → CutUndo (nearest_changes done) after later → CutUndo (last_changes end first.done) before later
  part_left [] undone_items u less p = absurd (omega (arith, p.some, p.inside))
  part_left (x ∷ done) undone_items u less p =
      let cs = changes_of x in
      let older = last_changes counter first.done in
      let m = end - counter - 1 in
      let newer = last_changes m done in
      let taken : take end first.done ≡ take counter first.done ++ x ∷ take m done =
      ap (λ k. take k first.done) (let k : end ≡ counter + suc m = omega (arith, less) in k) ∙ take-add counter (suc m) first.done
      ∙ ap (λ (s : Items). take counter first.done ++ take (suc m) s.done) (sym u.items) in
      let split : last_changes end first.done ≡ newer ++ (cs ++ older) =
      ap (λ xs. changes_of_all (reverse xs)) taken ∙ ap changes_of_all (reverse-append (take counter first.done) (x ∷ take m done))
      ∙ flat_map-append changes_of (reverse (x ∷ take m done)) (reverse (take counter first.done)) ∙ ap (λ ds. ds ++ older) (last_changes-next m x done) ∙ append_assoc newer cs older in
      let behind : drop (length newer + p.left) (last_changes end first.done) ≡ drop p.left cs ++ older =
      ap (drop (length newer + p.left)) split ∙ drop-append-add newer (cs ++ older) p.left ∙ drop-append-le p.left cs older p.inside in
      record {
        left = length newer + p.left;
        some = omega (arith, p.some);
        inside = omega (arith, p.inside, ap length split, length-append newer (cs ++ older), length-append cs older);
        line = p.line ∙ ap (lines_back (drop p.left cs)) u.line ∙ sym (lines_back-append (drop p.left cs) older before) ∙ ap (λ ds. lines_back ds before) (sym behind);
      }

  pub undoes_in_part : {E : Type 0} (now next : Items) (e : E) (result : Result Bool E) → IsErrAnd result (λ x. x ≡ e)
      → Undoing end counter first now before after undone → counter < end → CutUndo (nearest_changes now.done) after later → UndoesItems end first next before later result
  undoes_in_part now next e (Ok b) is u less part = absurd is
  undoes_in_part now next e (Err x) is u less part = record { answer = tt; items = tt; back = record { line = tt; part = part_left now.done now.undone u less part } }

pub ran_out : {E : Type 0} {end counter : ℕ} {first now : Items} {before after : Line} {undone : Bool} → Undoing end counter first now before after undone → end ≤ counter
    → UndoesItems {E = E} end first now before after (Ok undone)
ran_out {E} {end} {counter} {first} {now} {before} {after} {undone} u over =
    subst (λ n. UndoesItems {E = E} n first now before after (Ok undone)) (let n : counter ≡ end = omega (arith, u.bound, over) in n)
    (record { answer = u.answer; items = u.items; back = record { line = u.line; part = tt } })

-- ---- an undo by its definition

-- record and line are those that are asked for
pub record Leads (last : Items) (after line : Line) (held : List HeldItem) (ahead : List Undone) : Type 0 where
  pub line_is : after ≡ line
  pub held_is : record_on last after.text ≡ held
  pub ahead_is : ahead_on last after.text ≡ ahead
  pub stand : ItemsStand last after.text

abbrev pub UndoneAs : ℕ → Items → Items → Line → Line → Bool → Type 0
UndoneAs n first last before after undone =
    let held = record_on first before.text in (undone ≡ has_step n held) × Leads last after (line_back n held before) (drop n held) (ahead_back n held before.text (ahead_on first before.text))

leads_same : (first last : Items) (before after : Line) → last ≡ first → after ≡ before → ItemsStand first before.text → Leads last after before (record_on first before.text) (ahead_on first before.text)
leads_same first last before after items line h =
    subst (λ (x : Items × Line). Leads x.0 x.1 before (record_on first before.text) (ahead_on first before.text)) (sym (ap₂ (λ (s : Items) (l : Line). (s, l)) items line))
    (record { line_is = refl; held_is = refl; ahead_is = refl; stand = h })

undone_by : (n : ℕ) (done undone_items : List Item) (last : Items) (before after : Line) (undone : Bool)
    → undone ≡ list_any is_step_item (take n done) → last ≡ both (drop n done) (reverse (take n done) ++ undone_items) → after ≡ lines_back (last_changes n done) before
    → ItemsStand (both done undone_items) before.text → IsUtf8 before.text → UndoneAs n (both done undone_items) last before after undone
undone_by zero done undone_items last before after undone answer items line h u = (answer, leads_same _ last before after items line h)
undone_by (suc n) [] undone_items last before after undone answer items line h u = (answer, leads_same _ last before after items line h)
undone_by (suc n) (x ∷ done) undone_items last before after undone answer items line h u =
    let below : Line = lines_back (changes_of x) before in
    let t : List ℕ = before_item x before.text in
    let k : HeldItem = item_with_text x t in
    let e : below.text ≡ t = lines_back_text (changes_of x) before in
    let was = was_taken_back (changes_of x) before.text h.0.0 u in
    let fit : UndoneFit (x ∷ undone_items) below.text = (subst (AllFitIn (changes_of x)) (sym e) was.fit, subst (UndoneFit undone_items) (sym was.back ∙ sym (ap (after_item x) e)) h.1) in
    let turned : reverse (take (suc n) (x ∷ done)) ++ undone_items ≡ reverse (take n done) ++ x ∷ undone_items =
    ap (λ xs. xs ++ undone_items) (reverse-append (x ∷ []) (take n done)) ∙ append_assoc (reverse (take n done)) (x ∷ []) undone_items in
    let back : lines_back (last_changes (suc n) (x ∷ done)) before ≡ lines_back (last_changes n done) below =
    ap (λ cs. lines_back cs before) (last_changes-next n x done) ∙ lines_back-append (last_changes n done) (changes_of x) before in
    let rest = undone_by n done (x ∷ undone_items) last below after (list_any is_step_item (take n done)) refl (items ∙ ap (both (drop n done)) turned) (line ∙ back)
    (subst (DoneStand done) (sym e) h.0.1, fit) (subst IsUtf8 (sym e) was.utf8) in (
      answer ∙ ap₂ (λ a b. a || b) (is_step-holding x t) (rest.0 ∙ ap (λ s. has_step n (items_with_texts done s)) e),
      record {
        line_is = rest.1.line_is ∙ ap (λ s. line_back n (items_with_texts done s) below) e ∙ ap (line_back n (items_with_texts done t)) (item_back x before);
        held_is = rest.1.held_is ∙ ap (λ s. drop n (items_with_texts done s)) e;
        ahead_is = rest.1.ahead_is
            ∙ ap (λ s. ahead_back n (items_with_texts done s) s (record { held = item_with_text x s; text = after_item x s } ∷ ahead_with_texts undone_items (after_item x s))) e
            ∙ ap (λ s. ahead_back n (items_with_texts done t) t (record { held = k; text = s } ∷ ahead_with_texts undone_items s)) was.back
            ∙ ap (λ s. ahead_back n (items_with_texts done t) s (record { held = k; text = before.text } ∷ ahead_with_texts undone_items before.text)) (sym (text_of-holding x t));
        stand = rest.1.stand;
      },
    )

pub undone_as : {E : Type 0} (n : ℕ) (first last : Items) (before after : Line) (undone : Bool) → UndoesItems {E = E} n first last before after (Ok undone) → ItemsStand first before.text → IsUtf8 before.text
    → UndoneAs n first last before after undone
undone_as n first last before after undone f h u = undone_by n first.done first.undone last before after undone f.answer f.items f.back.line h u

-- a redo by its definition
abbrev pub RedoneAs : Items → Items → Line → Line → Type 0
RedoneAs first last before after =
    let ahead = ahead_on first before.text in Leads last after (line_ahead ahead before) (record_ahead ahead (record_on first before.text)) (drop 1 ahead)

-- the nearest item undone moves back
abbrev pub redo_one : List Item → List Item → Items
redo_one done undone = record { done = take 1 undone ++ done; undone = drop 1 undone }

redone_on : (done undone_items : List Item) (last : Items) (before after : Line) → last ≡ redo_one done undone_items → after ≡ lines_ahead (nearest_changes undone_items) before
    → ItemsStand (both done undone_items) before.text → IsUtf8 before.text → RedoneAs (both done undone_items) last before after
redone_on done [] last before after items line h u = leads_same _ last before after items line h
redone_on done (x ∷ undone_items) last before after items line h u =
    let e : after.text ≡ after_item x before.text = ap (λ (l : Line). l.text) line ∙ lines_ahead_text (changes_of x) before in
    let made = was_made_anew (changes_of x) before.text h.1.0 u in
    record {
      line_is = line ∙ item_ahead x before;
      held_is = ap (λ s. record_on s after.text) items ∙ ap (λ s. item_with_text x (before_item x s) ∷ items_with_texts done (before_item x s)) e
          ∙ ap (λ s. item_with_text x s ∷ items_with_texts done s) made.back;
      ahead_is = ap (λ s. ahead_on s after.text) items ∙ ap (ahead_with_texts undone_items) e;
      stand = subst (λ s. ItemsStand s after.text) (sym items)
          (subst (λ s. (AllStandIn (changes_of x) s × DoneStand done (before_item x s)) × UndoneFit undone_items s) (sym e) ((made.stand, subst (DoneStand done) (sym made.back) h.0), h.1.1));
    }

pub redone_as : (first last : Items) (before after : Line) → last ≡ redo_one first.done first.undone → after ≡ lines_ahead (nearest_changes first.undone) before → ItemsStand first before.text
    → IsUtf8 before.text → RedoneAs first last before after
redone_as first last before after items line h u = redone_on first.done first.undone last before after items line h u
