-- Groups that are closed.
use Rattle.std.proofs.Common.{◌≡◌, ℕ, Bool, true, false, List, [], ◌∷◌, ◌++◌, reverse, refl, sym, ap, subst, ◌∙◌, None, is_some, slice_get, arith}
use Rattle.std.proofs.Math.Bool.{or-true}
use Rattle.std.proofs.lemmas.List.{append-nil, reverse-append, length-append}
use Rattle.std.proofs.lemmas.List.Folds.{list_any-append}
use Rattle.std.proofs.lemmas.Grind.{flat_map-append}
use Rattle.std.proofs.lemmas.Option.{slice_get-get_or}
use Rattle.std.specs.List.{list_any}
use Rattle.line_record.specs.Change.{Change, newest_of, all_taken_back, AllStandIn, undo_place, text_after_undo, StandsIn}
use Rattle.line_record.specs.Held.{HeldItem, has_mark, closes, record_after_close, HeldItem.Stepped}
use Rattle.line_record.specs.Items.{Item, changes_of, before_item, items_with_texts, DoneStand, changes_of_all, group_of, Item.Open, Item.Lone, Item.Group}
use Rattle.line_record.specs.Log.{oldest_mark, is_open, item_from}
use Rattle.line_record.proofs.RecordLaws.{no_mark}
use Rattle.line_record.proofs.StepLemmas.{newest_of-append}

abbrev pub has_open : List Item → Bool
has_open items = list_any is_open items

-- the changes of items, the newest item first, in the order in which they were made
abbrev pub gather : List Item → List Change
gather [] = []
gather (x ∷ items) = gather items ++ changes_of x

pub gather_is : (items : List Item) → changes_of_all (reverse items) ≡ gather items
gather_is [] = refl
gather_is (x ∷ items) =
    ap changes_of_all (reverse-append (x ∷ []) items) ∙ flat_map-append changes_of (reverse items) (x ∷ []) ∙ cc (gather_is items, append-nil (changes_of x))

all_taken_back-append : (cs ds : List Change) (text : List ℕ) → all_taken_back (cs ++ ds) text ≡ all_taken_back cs (all_taken_back ds text)
all_taken_back-append [] ds text = refl
all_taken_back-append (c ∷ cs) ds text = ap (text_after_undo c) (all_taken_back-append cs ds text)

AllStandIn-append : (cs ds : List Change) (text : List ℕ) → AllStandIn cs (all_taken_back ds text) → AllStandIn ds text → AllStandIn (cs ++ ds) text
AllStandIn-append [] ds text h k = k
AllStandIn-append (c ∷ cs) ds text h k = (subst (StandsIn c) (sym (all_taken_back-append cs ds text)) h.0, AllStandIn-append cs ds text h.1 k)

-- what closing a group leaves of these texts, whose changes stand
pub record Closed (texts : List HeldItem) (Stands : Type 0) (group : List Change) (after : List Item) (text : List ℕ) : Type 0 where
  pub held : items_with_texts after text ≡ record_after_close texts
  pub closes : is_some (slice_get group 0) ≡ closes texts
  pub stand : Stands → DoneStand after text

abbrev pub EndedAs : List Item → List Change → List Item → List ℕ → Type 0
EndedAs items group after text = Closed (items_with_texts items text) (DoneStand items text) group after text

mark_same : (items : List Item) (text : List ℕ) → has_mark (items_with_texts items text) ≡ has_open items
mark_same [] text = refl
mark_same (Open ∷ items) text = refl
mark_same (x ∷ items) text = mark_same items (before_item x text)

pub unmarked : (items : List Item) (text : List ℕ) → has_open items ≡ false → EndedAs items [] items text
unmarked items text h =
    let same = no_mark (items_with_texts items text) (mark_same items text ∙ h) in
    record { held = sym same.0; closes = sym same.1; stand = λ k. k }

-- one more step of the group, on the changes that were gathered below it
closing_step : (c : Change) (cs group : List Change) (joinable : Bool) (rest older : List Item) (text : List ℕ) → has_mark (items_with_texts rest (all_taken_back (c ∷ cs) text)) ≡ true
    → EndedAs rest group (group_of group older) (all_taken_back (c ∷ cs) text)
    → items_with_texts (group_of (group ++ (c ∷ cs)) older) text
    ≡ record_after_close (Stepped (all_taken_back (c ∷ cs) text) (undo_place c) (newest_of c cs) joinable ∷ items_with_texts rest (all_taken_back (c ∷ cs) text))
closing_step c cs [] joinable rest older text m e =
    let none : closes (items_with_texts rest (all_taken_back (c ∷ cs) text)) ≡ false = sym e.closes in
    rw (none, m, ← e.held)
closing_step c cs (g ∷ gs) joinable rest older text m e =
    let some : closes (items_with_texts rest (all_taken_back (c ∷ cs) text)) ≡ true = sym e.closes in
    rw (some, ← e.held, all_taken_back-append gs (c ∷ cs) text, newest_of-append g c gs cs)

closing_stand : (c : Change) (cs group : List Change) (rest older : List Item) (text : List ℕ) → EndedAs rest group (group_of group older) (all_taken_back (c ∷ cs) text)
    → AllStandIn (c ∷ cs) text → DoneStand rest (all_taken_back (c ∷ cs) text) → DoneStand (group_of (group ++ (c ∷ cs)) older) text
closing_stand c cs [] rest older text e h k = (h, e.stand k)
closing_stand c cs (g ∷ gs) rest older text e h k =
    let i = e.stand k in
    (AllStandIn-append (g ∷ gs) (c ∷ cs) text i.0 h, subst (DoneStand older) (sym (all_taken_back-append (g ∷ gs) (c ∷ cs) text)) i.1)

closing_more : (c : Change) (cs : List Change) (joinable : Bool) (newer older : List Item) (text : List ℕ) → let t = all_taken_back (c ∷ cs) text in
    EndedAs (newer ++ (Open ∷ older)) (gather newer) (group_of (gather newer) older) t
    → Closed (Stepped t (undo_place c) (newest_of c cs) joinable ∷ items_with_texts (newer ++ (Open ∷ older)) t)
    (AllStandIn (c ∷ cs) text × DoneStand (newer ++ (Open ∷ older)) t)
    (gather newer ++ (c ∷ cs)) (group_of (gather newer ++ (c ∷ cs)) older) text
closing_more c cs joinable newer older text e =
    let rest = newer ++ (Open ∷ older) in
    let marked : has_mark (items_with_texts rest (all_taken_back (c ∷ cs) text)) ≡ true =
    mark_same rest (all_taken_back (c ∷ cs) text) ∙ list_any-append is_open newer (Open ∷ older) ∙ or-true (has_open newer) in
    record {
      held = closing_step c cs (gather newer) joinable rest older text marked e;
      closes = ap is_some (slice_get-get_or (gather newer ++ (c ∷ cs)) 0 c (omega (arith, length-append (gather newer) (c ∷ cs)))) ∙ sym marked;
      stand = λ k. closing_stand c cs (gather newer) rest older text e k.0 k.1;
    }

pub closing : (newer older : List Item) (text : List ℕ) → has_open older ≡ false → EndedAs (newer ++ (Open ∷ older)) (gather newer) (group_of (gather newer) older) text
closing [] older text h =
    let e = unmarked older text h in
    record { held = e.held; closes = e.closes; stand = λ k. k.1 }
closing (Open ∷ newer) older text h =
    let e = closing newer older text h in
    rw (append-nil (gather newer)) (record { held = e.held; closes = e.closes; stand = λ k. e.stand k.1 })
closing (Lone c ∷ newer) older text h = closing_more c [] true newer older text (closing newer older (before_item (Lone c) text) h)
closing (Group c cs ∷ newer) older text h = closing_more c cs false newer older text (closing newer older (before_item (Group c cs) text) h)

pub changes_of-item_from : (closed : Bool) (cs : List Change) → changes_of (item_from closed cs) ≡ cs
changes_of-item_from closed cs = grind arith

-- the group after what was there
pub group_pushed : (cs : List Change) (older : List Item) → is_some (slice_get cs 0) ≡ true → item_from true cs ∷ older ≡ group_of cs older
group_pushed cs older h = grind arith

-- no mark stands if none is the oldest
pub mark_none : (items : List Item) → oldest_mark items ≡ None → has_open items ≡ false
mark_none [] e = refl
mark_none (Open ∷ items) e = cc
mark_none (x ∷ items) e = mark_none items e
