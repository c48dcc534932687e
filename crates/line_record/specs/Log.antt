-- The meaning of a log: of its entries, and of the steps over it.
use Rattle.std.specs.Prelude.{◌≤◌, ℕ, zero, suc, Bool, if◌then◌else◌, List, [], ◌∷◌, ◌++◌, map, take, length, slice_range, encode_utf8, Option, None, option_map, IsUtf8, ◌≡◌, unwrap_or, true, false, nat_lt, reverse, drop, Some, ⊤}
use Rattle.line_buffer.specs.Event.{ChangeEvent}
use Rattle.line_buffer.specs.Event.ChangeEvent.{Delete, InsertChar, InsertStr, Replace}
use Rattle.line_record.specs.Change.{Change, newest_of}
use Rattle.line_record.specs.Change.Change.{Inserted, Deleted, Replaced}
use Rattle.line_record.specs.Held.{join_of, text_inserted_by}
use Rattle.line_record.specs.declared.entry.LoggedChange.{LoggedChange}
use Rattle.line_record.specs.declared.entry.Kind.{Kind}
use Rattle.line_record.specs.declared.entry.Kind.TheVariants.{Insertion, Deletion, Replacement}
use Rattle.line_record.specs.Items.{Item, Items}
use Rattle.line_record.specs.Items.Item.{Open, Lone, Group}
use Rattle.line_record.specs.declared.steps.Step.{Step}
use Rattle.line_record.specs.declared.report.Report.{Report}
use Rattle.line_record.specs.declared.report.Report.TheVariants as told

module _ {A S : Type 0} (first last : S → ℕ) (Fits : List A → S → Type 0) where
  -- spans adjoin, in their order, from a place of the list to another
  abbrev pub Adjoin : List A → ℕ → List S → ℕ → Type 0
  Adjoin all from [] to = from ≡ to
  Adjoin all from (s ∷ spans) to =
      (first s ≡ from) × (from ≤ last s) × Fits all s × Adjoin all (last s) spans to

-- a change by its kind, its old text and its new text
abbrev pub edit_from : Kind → ℕ → List ℕ → List ℕ → Change
edit_from Insertion at removed added = Inserted at added
edit_from Deletion at removed added = Deleted at removed
edit_from Replacement at removed added = Replaced at removed added

abbrev pub edit_in : List ℕ → LoggedChange → Change
edit_in text x =
    edit_from x.kind x.at (slice_range text x.start x.middle) (slice_range text x.middle x.end)

abbrev pub edits_in : List ℕ → List LoggedChange → List Change
edits_in text entries = map (edit_in text) entries

-- the old text comes before the new one, and each is on character boundaries
pub record Spelt (text : List ℕ) (x : LoggedChange) : Type 0 where
  pub removed : x.start ≤ x.middle
  pub added : x.middle ≤ x.end
  pub inside : x.end ≤ length text
  pub before : IsUtf8 (take x.start text)
  pub between : IsUtf8 (take x.middle text)
  pub after : IsUtf8 (take x.end text)

-- the entries' spans adjoin in their order and cover the text
abbrev pub IsLog : List ℕ → List LoggedChange → Type 0
IsLog text entries = Adjoin (λ x. x.start) (λ x. x.end) Spelt text 0 entries (length text)

-- the change that an event reports, even an empty one
abbrev pub change_told : ChangeEvent → Change
change_told (InsertChar at c) = Inserted at (encode_utf8 c)
change_told (InsertStr at text) = Inserted at text
change_told (Delete at text direction) = Deleted at text
change_told (Replace at before after) = Replaced at before after
change_told mark = Inserted 0 []

-- a change with more text: the old text before or after its own, the new text after its own
abbrev pub old_text_with : Bool → List ℕ → List ℕ → List ℕ
old_text_with before removed text = if before then removed ++ text else text ++ removed

abbrev pub change_with_text : ℕ → Bool → List ℕ → List ℕ → Change → Change
change_with_text at before removed added (Inserted place text) = Inserted at (text ++ added)
change_with_text at before removed added (Deleted place text) = Deleted at
    (old_text_with before removed text)
change_with_text at before removed added (Replaced place was is) =
    Replaced at (old_text_with before removed was) (is ++ added)

-- the changes up to that of an index, to which an event's change is joined, if possible
abbrev pub join_at : ChangeEvent → ℕ → List Change → Option (List Change)
join_at e n [] = None
join_at e zero (d ∷ edits) = option_map (λ j. j ∷ []) (join_of e d)
join_at e (suc n) (d ∷ edits) = option_map (λ es. d ∷ es) (join_at e n edits)

-- a step without changes is an open mark, and a closed step of one change is a group
abbrev pub item_from : Bool → List Change → Item
item_from closed [] = Open
item_from false (c ∷ []) = Lone c
item_from true (c ∷ []) = Group c []
item_from closed (c ∷ (d ∷ cs)) = Group c (d ∷ cs)

-- the reported event
abbrev pub event_of : Report → ChangeEvent
event_of (told.Char at c) = InsertChar at c
event_of (told.Text at text) = InsertStr at text.now
event_of (told.Deletion at text direction) = Delete at text.now direction
event_of (told.Replacement at removed added) = Replace at removed.now added.now

-- the text that an item inserted last
abbrev pub item_inserted : Item → Option (List ℕ)
item_inserted Open = None
item_inserted (Lone c) = text_inserted_by c
item_inserted (Group c cs) = text_inserted_by (newest_of c cs)

abbrev pub is_open : Item → Bool
is_open Open = true
is_open x = false

abbrev pub items_in : List Change → List Step → List Item
items_in edits steps = map (λ s. item_from s.closed (slice_range edits s.first s.last)) steps

-- the steps' changes adjoin in their order and are all changes
abbrev pub AreSteps : List Change → List Step → Type 0
AreSteps edits steps =
    Adjoin (λ s. s.first) (λ s. s.last) (λ edits s. ⊤) edits 0 steps (length edits)

-- items with a joined change, nearest first, replace the old ones, which stay if none was joined
abbrev pub JoinedIn : Option (List Item) → List Item → List Item → Type 0
JoinedIn None old new = new ≡ old
JoinedIn (Some items) old new = reverse new ≡ items

-- the record with the first n items done
abbrev pub record_of : List Item → ℕ → Items
record_of items n = record { done = reverse (take n items); undone = drop n items }

-- the number of items before the oldest open mark, of items in the order nearest first
abbrev pub oldest_mark : List Item → Option ℕ
oldest_mark [] = None
oldest_mark (Open ∷ items) = Some (unwrap_or (oldest_mark items) (length items))
oldest_mark (x ∷ items) = oldest_mark items

-- no more items are done than exist, and the mark is their oldest one
pub record IsRecord (items : List Item) (n : ℕ) (mark : Option ℕ) : Type 0 where
  pub inside : n ≤ length items
  pub marked : mark ≡ oldest_mark (reverse (take n items))

-- the oldest mark among the first n items
abbrev pub mark_within : Option ℕ → ℕ → Option ℕ
mark_within None n = None
mark_within (Some i) n = if nat_lt i n then Some i else None
