-- The record's value: the changes done and undone, each side nearest first, and the texts that they
-- stand for on a line's text. Also the effect of undo and redo on the record and its line.
use Rattle.std.specs.Prelude.{◌≡◌, ◌<◌, ◌≤◌, ℕ, Bool, true, false, List, [], ◌∷◌, ◌++◌, drop, length, Option, None, is_some, option_map, unwrap_or, slice_get, IsUtf8, take, reverse, flat_map, Result, IfOk, OnOk, OnErr}
use Rattle.line_buffer.specs.Event.{ChangeEvent, Replays}
use Rattle.line_buffer.specs.Event.ChangeEvent.{StartKilling, StopKilling}
use Rattle.line_buffer.specs.Line.{Line}
use Rattle.line_record.specs.Change.{Change, undo_place, redo_place, text_after_undo, text_after_redo, all_taken_back, AllStandIn, all_made_anew, AllFitIn, newest_of, AllAlong, FitsIn}
use Rattle.line_record.specs.Held.{HeldItem, Undone, step_of, change_of, join_of, record_after_event, record_after_close, closes}
use Rattle.line_record.specs.Held.HeldItem.{Opened, Stepped}
use Rattle.std.specs.Coded.{Unit-prop, ×_prop}
use Rattle.std.proofs.Props.{props}
use Rattle.std.specs.List.{list_any, fold}
use Rattle.std.specs.Option.{option_map_or}

-- an open mark, a change to which others may be joined, or a closed group with its oldest change
-- and the newer ones in order
pub data Item : Type 0 where
  Open : Item
  Lone : (change : Change) → Item
  Group : (oldest : Change) (newer : List Change) → Item

pub record Items : Type 0 where
  pub done : List Item
  pub undone : List Item

abbrev pub no_items : Items
no_items = record { done = []; undone = [] }

abbrev pub changes_of : Item → List Change
changes_of Open = []
changes_of (Lone c) = c ∷ []
changes_of (Group c cs) = c ∷ cs

abbrev pub before_item : Item → List ℕ → List ℕ
before_item x text = all_taken_back (changes_of x) text

abbrev pub after_item : Item → List ℕ → List ℕ
after_item x text = all_made_anew (changes_of x) text

-- the line after the undo of a change, the cursor at the change's place
abbrev pub line_after_undo : Change → Line → Line
line_after_undo c l = record l { text = text_after_undo c l.text; place = undo_place c }

abbrev pub line_after_redo : Change → Line → Line
line_after_redo c l = record l { text = text_after_redo c l.text; place = redo_place c }

-- the line after the undo of several changes, the newest first
abbrev pub lines_back : List Change → Line → Line
lines_back [] l = l
lines_back (c ∷ cs) l = line_after_undo c (lines_back cs l)

-- the line after the redo of several changes, the oldest first
abbrev pub lines_ahead : List Change → Line → Line
lines_ahead cs l = fold (λ m c. line_after_redo c m) l cs

-- an item, with the text before it
abbrev pub item_with_text : Item → List ℕ → HeldItem
item_with_text Open text = Opened text
item_with_text (Lone c) text = step_of c text
item_with_text (Group c cs) text = Stepped text (undo_place c) (newest_of c cs) false

abbrev pub items_with_texts : List Item → List ℕ → List HeldItem
items_with_texts [] text = []
items_with_texts (x ∷ items) text = item_with_text x (before_item x text) ∷ items_with_texts items
    (before_item x text)

abbrev pub ahead_with_texts : List Item → List ℕ → List Undone
ahead_with_texts [] text = []
ahead_with_texts (x ∷ items) text =
    record { held = item_with_text x text; text = after_item x text }
    ∷ ahead_with_texts items (after_item x text)

abbrev pub DoneStand : List Item → List ℕ → Type 0
DoneStand items text = AllAlong (λ x. AllStandIn (changes_of x)) before_item items text

abbrev pub UndoneFit : List Item → List ℕ → Type 0
UndoneFit items text = AllAlong (λ x. AllFitIn (changes_of x)) after_item items text

-- the changes done can be undone on the text, and those undone can be redone on it
abbrev pub ItemsStand : Items → List ℕ → Type 0
ItemsStand s text = DoneStand s.done text × UndoneFit s.undone text

-- the record of texts, on the line's text
abbrev pub record_on : Items → List ℕ → List HeldItem
record_on s text = items_with_texts s.done text

-- what can be redone, on the line's text
abbrev pub ahead_on : Items → List ℕ → List Undone
ahead_on s text = ahead_with_texts s.undone text

-- the changes of several items, the oldest item first
abbrev pub changes_of_all : List Item → List Change
changes_of_all items = flat_map changes_of items

-- changes as a closed group after older items
abbrev pub group_of : List Change → List Item → List Item
group_of [] older = older
group_of (c ∷ cs) older = Group c cs ∷ older

-- closing the marks leaves other items, which hold the requested texts
pub record EndedBy (closed : Bool) (items after : List Item) (text : List ℕ) : Type 0 where
  pub answer : closed ≡ closes (items_with_texts items text)
  pub held : items_with_texts after text ≡ record_after_close (items_with_texts items text)
  pub stand : DoneStand items text → DoneStand after text

-- the nearest n items done move to the undone
abbrev pub undo_some : ℕ → List Item → List Item → Items
undo_some n done undone = record { done = drop n done; undone = reverse (take n done) ++ undone }

abbrev pub is_step_item : Item → Bool
is_step_item Open = false
is_step_item x = true

-- the changes of the nearest item, if there is one
abbrev pub nearest_changes : List Item → List Change
nearest_changes items = option_map_or changes_of (slice_get items 0) []

-- the items with an event's change joined to the nearest one, if the two can be joined
abbrev pub join_of_items : ChangeEvent → List Item → Option (List Item)
join_of_items e (Lone d ∷ items) = option_map (λ j. Lone j ∷ items) (join_of e d)
join_of_items e items = None

-- an event's change noted after the items done, if it isn't empty
abbrev pub items_with_event : ChangeEvent → List Item → List Item
items_with_event e items =
    option_map_or (λ c. unwrap_or (join_of_items e items) (Lone c ∷ items)) (change_of e) items

-- a recorded event: the undone changes can't be redone any more
abbrev pub items_after_event : ChangeEvent → Items → Items
items_after_event e s = record { done = items_with_event e s.done; undone = [] }

-- recording a change that isn't empty may fail, and the record stays as it was
abbrev pub record_refuses : Items → ChangeEvent → Items → Type 0
record_refuses s e t = (t ≡ s) × (is_some (change_of e) ≡ true)

abbrev pub ahead_after : List Undone → ChangeEvent → List Undone
ahead_after ahead StartKilling = ahead
ahead_after ahead StopKilling = ahead
ahead_after ahead e = []

-- the effect of an event on the record: if its changes can be undone and redone, they still can be
-- after it, and the record of texts follows
pub record RecordsEvent (e : ChangeEvent) (before after : List ℕ) (s t : Items) : Type 0 where
  pub stand : ItemsStand t after
  pub held : record_on t after ≡ record_after_event e before (record_on s before)
  pub ahead : ahead_on t after ≡ ahead_after (ahead_on s before) e

pub record RecordsEventIn (s : Items) (e : ChangeEvent) (t : Items) : Type 0 where
  pub on : (before after : List ℕ) → ItemsStand s before → IsUtf8 before → Replays e before after
      → RecordsEvent e before after s t

AllStandIn-prop : (cs : List Change) (text : List ℕ) → IsProp (AllStandIn cs text)
AllStandIn-prop [] text = Unit-prop
AllStandIn-prop (c ∷ cs) text = ×_prop (Prim.hlevel props) (AllStandIn-prop cs text)

AllAlong-prop : {A : Type 0} (P : A → List ℕ → Type 0) (lead : A → List ℕ → List ℕ)
    → ((x : A) (text : List ℕ) → IsProp (P x text)) → (xs : List A) (text : List ℕ)
    → IsProp (AllAlong P lead xs text)
AllAlong-prop P lead p [] text = Unit-prop
AllAlong-prop P lead p (x ∷ xs) text = ×_prop (p x text) (AllAlong-prop P lead p xs (lead x text))

AllFitIn-prop : (cs : List Change) (text : List ℕ) → IsProp (AllFitIn cs text)
AllFitIn-prop cs text = AllAlong-prop FitsIn text_after_redo (λ c t. Prim.hlevel props) cs text

pub ItemsStand-prop : (s : Items) (text : List ℕ) → IsProp (ItemsStand s text)
ItemsStand-prop s text = ×_prop
    (AllAlong-prop _ before_item (λ x. AllStandIn-prop (changes_of x)) s.done text)
    (AllAlong-prop _ after_item (λ x. AllFitIn-prop (changes_of x)) s.undone text)

-- the newest of several changes were undone; at least one, the first, was not
pub record CutUndo (changes : List Change) (before after : Line) : Type 0 where
  pub left : ℕ
  pub some : 0 < left
  pub inside : left ≤ length changes
  pub line : after ≡ lines_back (drop left changes) before

-- the oldest of several changes were redone; at least one, the last, was not
pub record AnewInPart (changes : List Change) (before after : Line) : Type 0 where
  pub made : ℕ
  pub inside : made < length changes
  pub line : after ≡ lines_ahead (take made changes) before

-- changes are undone, the newest first, all or some
pub record TakesBack {A E : Type 0} (changes : List Change) (before after : Line)
    (result : Result A E) : Type 0 where
  pub line : OnOk result (after ≡ lines_back changes before)
  pub part : OnErr result (CutUndo changes before after)

-- changes are redone, the oldest first, all or some
pub record MakesAnew {A E : Type 0} (changes : List Change) (before after : Line)
    (result : Result A E) : Type 0 where
  pub line : OnOk result (after ≡ lines_ahead changes before)
  pub part : OnErr result (AnewInPart changes before after)

-- the changes of the last n items, in the order in which they were made
abbrev pub last_changes : ℕ → List Item → List Change
last_changes n items = changes_of_all (reverse (take n items))

-- n items are undone, and the answer is whether a change is among them
pub record UndoesItems {E : Type 0} (n : ℕ) (old new : Items) (before after : Line)
    (result : Result Bool E) : Type 0 where
  pub answer : IfOk result (λ b. b ≡ list_any is_step_item (take n old.done))
  pub items : OnOk result (new ≡ undo_some n old.done old.undone)
  pub back : TakesBack (last_changes n old.done) before after result

-- the nearest undone item is redone, if there is one, and the answer is whether it is a change
pub record RedoesItem {E : Type 0} (old new : Items) (before after : Line)
    (result : Result (Option Bool) E) : Type 0 where
  pub answer : IfOk result (λ o. o ≡ option_map is_step_item (slice_get old.undone 0))
  pub items : OnOk result
      (new ≡ record { done = take 1 old.undone ++ old.done; undone = drop 1 old.undone })
  pub anew : MakesAnew (nearest_changes old.undone) before after result
