-- A kill ring: slots of killed texts, the place of the slot that a yank returns, and the last
-- action. And the kills that were reported to it: a list of runs, the newest first, without slots.
use Rattle.std.specs.Prelude.{◌≡◌, ℕ, ◌+◌, ◌-◌, ◌==◌, ◌<◌, ◌≤◌, Bool, true, false, List, [], ◌∷◌, ◌++◌, length, if◌then◌else◌, nat_lt, Option, Some, None, is_some, slice_set, slice_index_or}
use Rattle.std.specs.List.{fold}
use Rattle.line_buffer.specs.Event.{ChangeEvent}
use Rattle.line_buffer.specs.Event.ChangeEvent.{StartKilling, StopKilling, Delete}
use Rattle.line_buffer.specs.declared.types.Direction.{Direction}
use Rattle.line_buffer.specs.declared.types.Direction.TheVariants.{Forward, Backward}
use Rattle.line_buffer.specs.declared.types.Mode.{Mode}
use Rattle.line_buffer.specs.declared.types.Mode.TheVariants.{Append, Prepend}
use Rattle.line_record.specs.declared.kill_ring.Action.{Action}
use Rattle.line_record.specs.declared.kill_ring.Action.TheVariants.{Other, Kill, Yank}

pub record Ring : Type 0 where
  pub slots : List (List ℕ)
  pub size : ℕ
  pub place : ℕ
  pub last : Action
  pub killing : Bool

-- no more slots than the size, the place at one of them, and a text to join to after a kill
pub record IsRing (count size place : ℕ) (last : Action) : Type 0 where
  pub few : count ≤ size
  pub inside : 0 < count → place < count
  pub start : count ≡ 0 → place ≡ 0
  pub some : last ≡ Kill → 0 < size → 0 < count

-- a ring that holds these texts, with that slot current and without a preceding kill
abbrev pub ring_of : List (List ℕ) → ℕ → ℕ → Ring
ring_of slots size place =
    record { slots = slots; size = size; place = place; last = Other; killing = false }

abbrev pub new_ring : ℕ → Ring
new_ring size = ring_of [] size 0

-- a text joined to the text in a slot
abbrev pub joined_text : Mode → List ℕ → List ℕ → List ℕ
joined_text Append text slot = slot ++ text
joined_text Prepend text slot = text ++ slot

-- the slot after a place; after the last one the first
abbrev pub slot_after : ℕ → ℕ → ℕ → ℕ
slot_after count size place = if count == 0 then 0 else if place + 1 == size then 0 else place + 1

-- a text stored in a slot, or after the last one
abbrev pub slots_with_text : ℕ → List ℕ → List (List ℕ) → List (List ℕ)
slots_with_text place text slots =
    if nat_lt place (length slots) then slice_set slots place text else slots ++ text ∷ []

abbrev pub ring_with_kill_after : Action → List ℕ → Mode → Ring → Ring
ring_with_kill_after Kill text mode r =
    let joined = joined_text mode text (slice_index_or r.slots r.place []) in
    record r { slots = slice_set r.slots r.place joined }
ring_with_kill_after last text mode r =
    let next = slot_after (length r.slots) r.size r.place in
    record r { slots = slots_with_text next text r.slots; place = next; last = Kill }

-- a kill after a kill is joined to the text of its slot, any other takes the next slot; a ring
-- without slots keeps nothing
abbrev pub ring_with_kill : List ℕ → Mode → Ring → Ring
ring_with_kill text mode r =
    if r.size == 0 then record r { last = Kill } else ring_with_kill_after r.last text mode r

-- the current slot was lent
abbrev pub ring_after_yank : Ring → Ring
ring_after_yank r =
    if length r.slots == 0 then r
    else record r { last = Yank (length (slice_index_or r.slots r.place [])) }

-- one slot back; before the first one the last
abbrev pub slot_before : ℕ → ℕ → ℕ
slot_before count place = if place == 0 then count - 1 else place - 1

-- the length of the yanked text, and the text that replaces it
abbrev pub yank_exchange_after : Action → Ring → Option (ℕ × List ℕ)
yank_exchange_after (Yank count) r =
    if length r.slots == 0 then None
    else Some (count, slice_index_or r.slots (slot_before (length r.slots) r.place) [])
yank_exchange_after last r = None

abbrev pub yank_exchange : Ring → Option (ℕ × List ℕ)
yank_exchange r = yank_exchange_after r.last r

-- a ring turns only after a yank
abbrev pub ring_after_turn : Ring → Ring
ring_after_turn r =
    if is_some (yank_exchange r)
    then ring_after_yank (record r { place = slot_before (length r.slots) r.place }) else r

abbrev pub mode_of : Direction → Mode
mode_of Forward = Append
mode_of Backward = Prepend

-- deletions are kills between the two marks of killing
abbrev pub ring_step : ChangeEvent → Ring → Ring
ring_step StartKilling r = record r { killing = true }
ring_step StopKilling r = record r { killing = false }
ring_step (Delete at text direction) r =
    if r.killing then ring_with_kill text (mode_of direction) r else r
ring_step e r = r

-- a ring that has slots keeps texts deleted between the two marks
abbrev pub Keeps : ChangeEvent → Ring → Type 0
Keeps (Delete at text direction) r = (r.killing ≡ true) × (0 < r.size)
Keeps e r = ⊥

-- it fails only on what it would keep, and stays as it was
abbrev pub ring_refuses : Ring → ChangeEvent → Ring → Type 0
ring_refuses r e q = (q ≡ r) × Keeps e r

abbrev pub ring_all : List ChangeEvent → Ring → Ring
ring_all events r = fold (λ s e. ring_step e s) r events

-- the calls of a ring, except the one that turns it
pub data RingCall : Type 0 where
  Taken : (text : List ℕ) (mode : Mode) → RingCall
  Heard : (event : ChangeEvent) → RingCall
  Ended : RingCall
  Lent : RingCall

-- the texts of all runs of kills, whether the newest run continues, and whether deletions are kills
pub record Kills : Type 0 where
  pub runs : List (List ℕ)
  pub running : Bool
  pub killing : Bool

abbrev pub no_kills : Kills
no_kills = record { runs = []; running = false; killing = false }

-- a kill is joined to the run that continues, or begins one
abbrev pub run_with : Bool → List ℕ → Mode → List (List ℕ) → List (List ℕ)
run_with true text mode (run ∷ runs) = joined_text mode text run ∷ runs
run_with running text mode runs = text ∷ runs

abbrev pub kill_taken : List ℕ → Mode → Kills → Kills
kill_taken text mode k = record k { runs = run_with k.running text mode k.runs; running = true }

abbrev pub kills_after : Kills → RingCall → Kills
kills_after k (Taken text mode) = kill_taken text mode k
kills_after k (Heard StartKilling) = record k { killing = true }
kills_after k (Heard StopKilling) = record k { killing = false }
kills_after k (Heard (Delete at text direction)) =
    if k.killing then kill_taken text (mode_of direction) k else k
kills_after k (Heard e) = k
kills_after k call = record k { running = false }

-- the effect of the same call on a ring
abbrev pub ring_after : Ring → RingCall → Ring
ring_after r (Taken text mode) = ring_with_kill text mode r
ring_after r (Heard e) = ring_step e r
ring_after r Ended = record r { last = Other }
ring_after r Lent = ring_after_yank r
