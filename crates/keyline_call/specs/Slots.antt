-- A kill ring as one text for all slots, with the place at which each slot ends.
use Rattle.std.specs.Prelude.{◌≡◌, ◌≤◌, ◌+◌, ◌-◌, ℕ, List, [], ◌∷◌, Option, Some, None, length}
use Rattle.std.specs.List.{All, flat_map, slice_range}
use Rattle.std.specs.Str.{IsUtf8}
use Rattle.line_record.specs.Ring.{Ring, ring_of}
use Rattle.keyline.specs.declared.session.TheConstants.{KILL_RING_SIZE}
use Rattle.keyline_call.specs.declared.ring.Slots.{Slots}

-- where each of these texts ends, if the first one begins after so many bytes
abbrev pub ends_behind : ℕ → List (List ℕ) → List ℕ
ends_behind start [] = []
ends_behind start (text ∷ texts) =
    let end = start + length text in end ∷ ends_behind end texts

-- these texts follow each other, and end there
pub record AreLaidOut (slots : List (List ℕ)) (texts ends : List ℕ) : Type 0 where
  pub texts_are : texts ≡ flat_map (λ text. text) slots
  pub ends_are : ends ≡ ends_behind 0 slots

-- the slots of a ring
pub record AreSlots (ring : Ring) (slots : Slots) : Type 0 where
  pub laid_out : AreLaidOut ring.slots slots.texts.items slots.ends.items
  pub place_is : slots.place ≡ ring.place

-- a slot is there
pub record IsSlot (texts : List ℕ) (from to : ℕ) (slot : List ℕ) : Type 0 where
  pub in_order : from ≤ to
  pub inside : to ≤ length texts
  pub slot_is : slot ≡ slice_range texts from to
  pub utf8 : IsUtf8 slot

-- it is that slot, or there is none
abbrev pub SlotMeans : List ℕ → ℕ → ℕ → Option (List ℕ) → Type 0
SlotMeans texts from to (Some slot) = IsSlot texts from to slot
SlotMeans texts from to None = (slot : List ℕ) → IsSlot texts from to slot → ⊥

-- it is the ring of these texts, with that slot current; 0 if there is none
pub record IsRingOf (texts ends : List ℕ) (place : ℕ) (ring : Ring) : Type 0 where
  pub laid_out : AreLaidOut ring.slots texts ends
  pub ring_is : ring ≡ ring_of ring.slots KILL_RING_SIZE place
  pub few : length ring.slots ≤ KILL_RING_SIZE
  pub inside : place ≤ length ring.slots - 1
  pub utf8 : All IsUtf8 ring.slots

abbrev pub HasRing : List ℕ → List ℕ → ℕ → Type 0
HasRing texts ends place = (ring : Ring) × IsRingOf texts ends place ring
