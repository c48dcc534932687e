-- The record of texts, computed at some runs of events.
use Rattle.std.proofs.Common.{◌≡◌, ℕ, true, false, List, [], ◌∷◌, None, refl, codes}
use Rattle.unicode_segmentation.proofs.Computing.{unicode_segmentation}
use Rattle.line_buffer.specs.Event.{ChangeEvent, ChangeEvent.Delete, ChangeEvent.InsertChar, ChangeEvent.InsertStr, ChangeEvent.Replace}
use Rattle.line_buffer.specs.Line.{Line}
use Rattle.line_buffer.specs.declared.types.Direction.TheVariants.{Forward, Backward}
use Rattle.line_record.specs.Change.Change.{Inserted, Deleted, Replaced}
use Rattle.line_record.specs.Held.{HeldItem, line_back, ahead_back, line_ahead, record_after_close, closes, last_inserted, HeldItem.Opened, HeldItem.Stepped}
use Rattle.line_record.specs.RecordCourse.{record_after_events}

abbrev at : List ℕ → ℕ → Line
at text place = record { text = text; place = place; growth = true; limit = 0 }

-- a, b, a space and c, typed one by one
abbrev four_typed : List ChangeEvent
four_typed = InsertChar 0 97 ∷ (InsertChar 1 98 ∷ (InsertChar 2 32 ∷ (InsertChar 3 99 ∷ [])))

abbrev two_steps : List HeldItem
two_steps = Stepped (codes "ab") 2 (Inserted 2 (codes " c")) true ∷ (Stepped [] 0 (Inserted 0 (codes "ab")) true ∷ [])

typed_words_are_steps : record_after_events four_typed [] [] ≡ two_steps
unfolding unicode_segmentation record_after_events
typed_words_are_steps = refl

-- one undo leaves ab, two or more leave nothing
undos :
    (line_back 1 two_steps (at (codes "ab c") 4) ≡ at (codes "ab") 2)
    × (line_back 2 two_steps (at (codes "ab c") 4) ≡ at [] 0)
    × (line_back 9 two_steps (at (codes "ab c") 4) ≡ at [] 0)
undos = (refl, refl, refl)

-- a redo makes the older step; it goes to a deletion's place and behind a replacement, and leaves the cursor at a mark
redos :
    (line_ahead (ahead_back 9 two_steps (codes "ab c") []) (at [] 0) ≡ at (codes "ab") 2)
    × (line_ahead (ahead_back 1 (Stepped (codes "abc") 3 (Deleted 1 (codes "bc")) true ∷ []) (codes "a") []) (at (codes "abc") 3) ≡ at (codes "a") 1)
    × (line_ahead (ahead_back 1 (Stepped (codes "ab") 2 (Replaced 0 (codes "ab") (codes "xyz")) true ∷ []) (codes "xyz") []) (at (codes "ab") 0) ≡ at (codes "xyz") 3)
    × (line_ahead (ahead_back 1 (Opened (codes "ab") ∷ []) (codes "ab") []) (at (codes "ab") 1) ≡ at (codes "ab") 1)
redos = (refl, refl, refl, refl)

an_empty_group_is_taken_off : record_after_close (Opened (codes "ab c") ∷ two_steps) ≡ two_steps
an_empty_group_is_taken_off = refl

an_empty_group_closes_nothing : closes (Opened (codes "ab c") ∷ two_steps) ≡ false
an_empty_group_closes_nothing = refl

-- x, then a mark, y, another mark, z: the groups close as one step
groups_inside_groups_close_as_one : record_after_close (Stepped (codes "xy") 2 (Inserted 2 (codes "z")) true
    ∷ (Opened (codes "xy") ∷ (Stepped (codes "x") 1 (Inserted 1 (codes "y")) true ∷ (Opened (codes "x") ∷ (Stepped [] 0 (Inserted 0 (codes "x")) true ∷ [])))))
    ≡ Stepped (codes "x") 1 (Inserted 2 (codes "z")) false ∷ (Stepped [] 0 (Inserted 0 (codes "x")) true ∷ [])
groups_inside_groups_close_as_one = refl

-- backspaces are one step, and so are deletions on, but not with two clusters; replacements in a row are one; a pasted letter joins nothing, and empty texts are no steps
steps_joined :
    (record_after_events (Delete 1 (codes "b") Backward ∷ (Delete 0 (codes "a") Backward ∷ [])) (codes "ab") [] ≡ Stepped (codes "ab") 2 (Deleted 0 (codes "ab")) true ∷ [])
    × (record_after_events (Delete 1 (codes "b") Forward ∷ (Delete 1 (codes "c") Forward ∷ [])) (codes "abcd") [] ≡ Stepped (codes "abcd") 3 (Deleted 1 (codes "bc")) true ∷ [])
    × (record_after_events (Delete 2 (codes "c") Backward ∷ (Delete 0 (codes "ab") Backward ∷ [])) (codes "abc") [] ≡ Stepped (codes "ab") 2 (Deleted 0 (codes "ab")) true ∷ (Stepped (codes "abc") 3 (Deleted 2 (codes "c")) true ∷ []))
    × (record_after_events (Replace 0 (codes "a") (codes "xy") ∷ (Replace 2 (codes "b") (codes "z") ∷ [])) (codes "ab") [] ≡ Stepped (codes "ab") 2 (Replaced 0 (codes "ab") (codes "xyz")) true ∷ [])
    × (record_after_events (InsertChar 0 97 ∷ (InsertStr 1 (codes "b") ∷ (InsertChar 2 99 ∷ []))) [] [] ≡ Stepped (codes "a") 1 (Inserted 1 (codes "bc")) true ∷ (Stepped [] 0 (Inserted 0 (codes "a")) true ∷ []))
    × (record_after_events (InsertStr 0 [] ∷ (Delete 0 [] Forward ∷ (Replace 0 [] [] ∷ []))) (codes "ab") [] ≡ [])
unfolding unicode_segmentation record_after_events
steps_joined = (refl, refl, refl, refl, refl, refl)

a_mark_inserts_nothing : last_inserted (Opened [] ∷ two_steps) ≡ None
a_mark_inserts_nothing = refl
