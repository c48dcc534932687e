-- The record of texts: steps and open marks, the newest first, and the effect of each call on it.
use Rattle.std.specs.Prelude.{ℕ, zero, suc, ◌+◌, ◌==◌, ◌&&◌, not, Bool, true, false, if◌then◌else◌, List, [], ◌∷◌, ◌++◌, take, length, encode_utf8, Option, Some, None, option_map, unwrap_or}
use Rattle.std.specs.List.{fold, list_any}
use Rattle.std.specs.Option.{option_map_or}
use Rattle.unicode_segmentation.specs.Grapheme.{graphemes}
use Rattle.unicode_segmentation.specs.Segments.{is_alphanumeric}
use Rattle.line_buffer.specs.Event.{ChangeEvent}
use Rattle.line_buffer.specs.Event.ChangeEvent.{Delete, InsertChar, InsertStr, Replace}
use Rattle.line_buffer.specs.Line.{Line}
use Rattle.line_buffer.specs.Words.{is_alphanumeric_cluster}
use Rattle.line_record.specs.Change.{Change, undo_place, redo_place}
use Rattle.line_record.specs.Change.Change.{Inserted, Deleted, Replaced}

-- an open mark keeps the text at which it was set. A step keeps the text before it, the place that
-- an undo restores, its newest change, and whether a change may be joined to that one
pub data HeldItem : Type 0 where
  Opened : (text : List ℕ) → HeldItem
  Stepped : (text : List ℕ) (place : ℕ) (newest : Change) (joinable : Bool) → HeldItem

abbrev pub text_of : HeldItem → List ℕ
text_of (Opened text) = text
text_of (Stepped text place newest joinable) = text

-- one cluster of alphanumeric characters
abbrev pub is_one_alphanumeric : List ℕ → Bool
is_one_alphanumeric text = (length (graphemes true text) == 1) && is_alphanumeric_cluster text

-- the change that an event reports, if it isn't empty
abbrev pub change_of : ChangeEvent → Option Change
change_of (Delete at text direction) = if length text == 0 then None else Some (Deleted at text)
change_of (InsertChar at c) = Some (Inserted at (encode_utf8 c))
change_of (InsertStr at text) = if length text == 0 then None else Some (Inserted at text)
change_of (Replace at before after) =
    if (length before == 0) && (length after == 0) then None else Some (Replaced at before after)
change_of mark = None

-- the change of an event and the change right before it as one, if they can be joined: an
-- alphanumeric character typed right after an insertion, an alphanumeric cluster deleted right
-- after a deletion or right before it, a replacement right after another
abbrev pub join_of : ChangeEvent → Change → Option Change
join_of (InsertChar at c) (Inserted place text) =
    if is_alphanumeric c && (at == place + length text)
    then Some (Inserted place (text ++ encode_utf8 c)) else None
join_of (Delete at text direction) (Deleted place deleted) =
    if not (is_one_alphanumeric text) then None
    else if at == place then Some (Deleted place (deleted ++ text))
    else if at + length text == place then Some (Deleted at (text ++ deleted))
    else None
join_of (Replace at before after) (Replaced place was is) =
    if at == place + length is then Some (Replaced place (was ++ before) (is ++ after)) else None
join_of e d = None

-- a step of one change
abbrev pub step_of : Change → List ℕ → HeldItem
step_of c text = Stepped text (undo_place c) c true

-- a joined change adds no step and keeps the step's text
abbrev pub join_of_steps : ChangeEvent → List HeldItem → Option (List HeldItem)
join_of_steps e (Stepped text place d true ∷ held) =
    option_map (λ j. step_of j text ∷ held) (join_of e d)
join_of_steps e held = None

-- the record after an event on the text
abbrev pub record_after_event : ChangeEvent → List ℕ → List HeldItem → List HeldItem
record_after_event e text held =
    option_map_or (λ c. unwrap_or (join_of_steps e held) (step_of c text ∷ held)) (change_of e) held

abbrev pub is_step : HeldItem → Bool
is_step (Opened text) = false
is_step (Stepped text place newest joinable) = true

-- some mark is open
abbrev pub has_mark : List HeldItem → Bool
has_mark held = list_any (λ h. not (is_step h)) held

-- a step is newer than the oldest open mark
abbrev pub closes : List HeldItem → Bool
closes [] = false
closes (Opened text ∷ held) = closes held
closes (Stepped text place newest joinable ∷ held) = has_mark held

-- a newer change added to the step that closes a group
abbrev pub group_with_change : Change → List HeldItem → List HeldItem
group_with_change c (Stepped text place newest joinable ∷ held) = Stepped text place c false ∷ held
group_with_change c held = held

-- the marks are closed: they go, and the steps newer than the oldest of them become one, to which
-- nothing is joined
abbrev pub record_after_close : List HeldItem → List HeldItem
record_after_close [] = []
record_after_close (Opened text ∷ held) = record_after_close held
record_after_close (Stepped text place newest joinable ∷ held) =
    if closes held then group_with_change newest (record_after_close held)
    else if has_mark held then Stepped text place newest false ∷ record_after_close held
    else Stepped text place newest joinable ∷ held

-- undo by some items: the text of the last of them, and the place of the last step among them
abbrev pub line_before_item : HeldItem → Line → Line
line_before_item (Opened text) l = record l { text = text }
line_before_item (Stepped text place newest joinable) l = record l { text = text; place = place }

abbrev pub line_back : ℕ → List HeldItem → Line → Line
line_back n held l = fold (λ m h. line_before_item h m) l (take n held)

abbrev pub text_back : ℕ → List HeldItem → List ℕ → List ℕ
text_back n held text = fold (λ t h. text_of h) text (take n held)

abbrev pub has_step : ℕ → List HeldItem → Bool
has_step n held = list_any is_step (take n held)

-- an undone item: as it was held, and the text after its redo
pub record Undone : Type 0 where
  pub held : HeldItem
  pub text : List ℕ

abbrev pub ahead_back : ℕ → List HeldItem → List ℕ → List Undone → List Undone
ahead_back zero held text ahead = ahead
ahead_back (suc n) [] text ahead = ahead
ahead_back (suc n) (h ∷ held) text ahead =
    ahead_back n held (text_of h) (record { held = h; text = text } ∷ ahead)

-- the redo of an item: a step's cursor goes after its newest change, a mark leaves it
abbrev pub place_ahead : HeldItem → ℕ → ℕ
place_ahead (Opened text) place = place
place_ahead (Stepped text before newest joinable) place = redo_place newest

abbrev pub line_ahead : List Undone → Line → Line
line_ahead [] l = l
line_ahead (u ∷ ahead) l = record l { text = u.text; place = place_ahead u.held l.place }

abbrev pub record_ahead : List Undone → List HeldItem → List HeldItem
record_ahead [] held = held
record_ahead (u ∷ ahead) held = u.held ∷ held

-- the text that was inserted last, if the newest item inserted one
abbrev pub text_inserted_by : Change → Option (List ℕ)
text_inserted_by (Inserted at text) = Some text
text_inserted_by (Deleted at text) = None
text_inserted_by (Replaced at before after) = Some after

abbrev pub last_inserted : List HeldItem → Option (List ℕ)
last_inserted (Stepped text place newest joinable ∷ held) = text_inserted_by newest
last_inserted held = None
