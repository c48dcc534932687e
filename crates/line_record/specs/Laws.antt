-- Laws of the record and of the kill ring.
use Rattle.std.specs.Prelude.{◌≡◌, ℕ, ◌<◌, ◌≢◌, Bool, true, false, List, [], ◌∷◌, length, take, Some, slice_get, is_some, ◌||◌, IsUtf8, IsCharBoundary, suc, drop, reverse, ◌++◌}
use Rattle.std.specs.List.{AllByRecursion, fold}
use Rattle.line_buffer.specs.Line.{Line}
use Rattle.line_buffer.specs.Insertions.{yank}
use Rattle.line_buffer.specs.Range.{range_of, kill_events, kill}
use Rattle.line_buffer.specs.declared.types.Movement.{Movement}
use Rattle.line_buffer.specs.declared.types.Movement.TheVariants.{EndOfLine, BeginningOfLine, EndOfBuffer, BeginningOfBuffer, BackwardWord, ForwardWord, ViCharSearch}
use Rattle.line_record.specs.declared.kill_ring.Action.TheVariants.{Kill}
use Rattle.line_record.specs.Held.{HeldItem, Undone, text_back, record_after_close, closes, has_mark, line_back, line_ahead, ahead_back, record_ahead}
use Rattle.line_record.specs.Held.HeldItem.{Opened}
use Rattle.line_record.specs.Items.{Item, Items, ItemsStand, record_on, after_item}
use Rattle.line_record.specs.RecordCourse.{RecordCall, RecordCourse, new_course, after_call, IsAmong}
use Rattle.line_record.specs.RecordCourse.RecordCall.{Told, Begun, Ended, TakenBack}
use Rattle.line_record.specs.Ring.{RingCall, no_kills, Ring, IsRing, new_ring, ring_all, kills_after, ring_after}

-- whatever is done to a line with a new record, an undo leaves a text that the line had before
abbrev pub UndoLeavesAnEarlierText : Type 0
UndoLeavesAnEarlierText = (calls : List RecordCall) (text : List ℕ) (n : ℕ) →
    let c = fold after_call (new_course text) calls in
    IsAmong (text_back n c.held c.text) c.seen

-- undoing everything restores the text that the line had when its record was new; so a record
-- without items is on that text
abbrev pub UndoOfAllGivesTheFirstText : Type 0
UndoOfAllGivesTheFirstText = (calls : List RecordCall) (text : List ℕ) →
    let c = fold after_call (new_course text) calls in
    text_back (length c.held) c.held c.text ≡ text

-- the text after all items, made on a text
abbrev pub text_after_all : List Item → List ℕ → List ℕ
text_after_all [] text = text
text_after_all (x ∷ items) text = after_item x (text_after_all items text)

-- the recorded changes, made on the text before the first of them, lead to the line's text
abbrev pub RecordGivesTheText : Type 0
RecordGivesTheText = (s : Items) (text : List ℕ) → ItemsStand s text → IsUtf8 text →
    text_after_all s.done (text_back (length (record_on s text)) (record_on s text) text) ≡ text

-- a group in which nothing was recorded leaves the record as it was
abbrev pub EmptyGroupLeavesNothing : Type 0
EmptyGroupLeavesNothing = (text : List ℕ) (held : List HeldItem) → has_mark held ≡ false →
    (record_after_close (Opened text ∷ held) ≡ held) × (closes (Opened text ∷ held) ≡ false)

-- calls that leave a group open: events, and marks set inside it
abbrev pub stays_open : RecordCall → Bool
stays_open (Told e) = true
stays_open Begun = true
stays_open call = false

-- a group that isn't nested and recorded something is undone as one: text and record are those from
-- before the group
abbrev pub UndoTakesTheGroupBack : Type 0
UndoTakesTheGroupBack = (c : RecordCourse) (calls : List RecordCall) → has_mark c.held ≡ false →
    AllByRecursion (λ call. stays_open call ≡ true) calls →
    let inside = fold after_call (after_call c Begun) calls in
    let undone = after_call (after_call inside Ended) (TakenBack 1) in
    closes inside.held ≡ true → (undone.text ≡ c.text) × (undone.held ≡ c.held)

-- redoing what was undone last restores the text and the record from before
abbrev pub RedoGivesTheTextBack : Type 0
RedoGivesTheTextBack = (h : HeldItem) (held : List HeldItem) (ahead : List Undone) (l : Line) →
    let undone = ahead_back 1 (h ∷ held) l.text ahead in
    ((line_ahead undone (line_back 1 (h ∷ held) l)).text ≡ l.text)
    × (record_ahead undone held ≡ h ∷ held)

-- kills from the cursor or up to it
abbrev pub is_directed : Movement → Bool
is_directed EndOfLine = true
is_directed BeginningOfLine = true
is_directed EndOfBuffer = true
is_directed BeginningOfBuffer = true
is_directed (BackwardWord n word) = true
is_directed (ForwardWord n at word) = true
is_directed (ViCharSearch n search) = true
is_directed movement = false

-- a line and a ring after a kill
abbrev pub after_kill : Line × Ring → Movement → Line × Ring
after_kill s m = ((kill m s.0).line, ring_all (kill_events m s.0) s.1)

-- one of the kills deletes something
abbrev pub some_taken : List Movement → Line → Bool
some_taken [] l = false
some_taken (m ∷ movements) l = is_some (range_of m l) || some_taken movements (kill m l).line

-- a run of such kills, and then one yank, restore the text
abbrev pub KillsComeBack : Type 0
KillsComeBack = (movements : List Movement) (l : Line) (r : Ring) →
    AllByRecursion (λ m. is_directed m ≡ true) movements → some_taken movements l ≡ true →
    IsUtf8 l.text → IsCharBoundary l.text l.place → l.growth ≡ true →
    IsRing (length r.slots) r.size r.place r.last → 0 < r.size → r.last ≢ Kill →
    let killed = fold after_kill (l, r) movements in
    (text : List ℕ) × (slice_get killed.1.slots killed.1.place ≡ Some text)
    × ((yank text 1 killed.0).line.text ≡ l.text)

-- a new ring that is never turned holds the last runs of kills, as many as it has slots, from its
-- current slot back and round to the slot after it, and lends the newest
abbrev pub RingHoldsTheLastRuns : Type 0
RingHoldsTheLastRuns = (size : ℕ) (calls : List RingCall) → 0 < size →
    let r = fold ring_after (new_ring size) calls in
    let runs = (fold kills_after no_kills calls).runs in
    let texts = reverse (take (suc r.place) r.slots) ++ reverse (drop (suc r.place) r.slots) in
    (texts ≡ take size runs) × (slice_get r.slots r.place ≡ slice_get runs 0)
