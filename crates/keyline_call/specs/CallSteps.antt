-- The result of a call for a line: how it ended, the lengths in its step, and the texts in the
-- buffers.
use Rattle.std.specs.Prelude.{◌≡◌, ◌≢◌, ◌⊎◌, ◌<◌, ◌-◌, ℕ, List, [], Option, Some, None, Result, Err, drop, length, string_bytes}
use Rattle.std.specs.Result.{IfOk, result_unwrap_or}
use Rattle.line_buffer.specs.Line.{Line}
use Rattle.line_config.specs.declared.memory.VecSink.{VecSink}
use Rattle.line_help.specs.HistoryText.{text_to_save}
use Rattle.line_keys.specs.KeyFeeds.{answer_map}
use Rattle.keyline_call.specs.Buffers.{BufferTexts, GivesTexts, buffer_texts, texts_wanted, with_lengths}
use Rattle.keyline_call.specs.Slots.{AreSlots}
use Rattle.keyline_call.specs.Statuses.{status_of_ending}
use Rattle.keyline_call.specs.declared.export.KeylineStep.{KeylineStep}
use Rattle.keyline_call.specs.declared.export.KeylineWants.{KeylineWants}
use Rattle.keyline_call.specs.declared.line.Left.{Left}
use Rattle.keyline_call.specs.declared.ring.Slots.{Slots}
use Rattle.keyline_call.specs.declared.status.CallStatus.{CallStatus}
use Rattle.keyline_call.specs.declared.status.CallStatus.TheVariants.{More, Argument, Memory, Asked}

abbrev pub accepted_text : Left → List ℕ
accepted_text left = result_unwrap_or (answer_map string_bytes left.outcome) []

-- a line that is still open, and the cursor's place in it
abbrev pub open_text : Option Line → List ℕ
open_text (Some line) = line.text
open_text None = []

abbrev pub open_place : Option Line → ℕ
open_place (Some line) = line.place
open_place None = 0

-- its texts: only its new display bytes, and the line as it stands
abbrev pub texts_open : (VecSink → List ℕ) → ℕ → Left → BufferTexts
texts_open held sent left =
    buffer_texts (drop sent (held left.display)) (open_text left.open_line) [] [] []

-- what is reported beside their lengths, for so many key bytes
abbrev pub with_open : (VecSink → List ℕ) → ℕ → Left → KeylineStep → KeylineStep
with_open held keys left step = record step {
  sent = length (held left.display);
  keys = keys - left.rest;
  cursor = open_place left.open_line;
}

-- the texts of a line that has ended, with only its new display bytes
abbrev pub texts_left : (VecSink → List ℕ) → ℕ → Left → Slots → BufferTexts
texts_left held sent left slots = buffer_texts (drop sent (held left.display)) (accepted_text left)
    (text_to_save left.history) slots.texts.items slots.ends.items

-- what is reported beside their lengths, for so many key bytes
abbrev pub with_end : (VecSink → List ℕ) → ℕ → Left → Slots → KeylineStep → KeylineStep
with_end held keys left slots step = record step {
  sent = length (held left.display);
  keys = keys - left.rest;
  place = slots.place;
}

-- memory is taken for the history's text if an entry is new, and for the ring's slots
abbrev pub TakesMemory : Left → Type 0
TakesMemory left = (left.history.unsaved ≢ 0) ⊎ (left.ring.slots ≢ [])

module _ (held : VecSink → List ℕ) (sent keys : ℕ) (wants : KeylineWants) (left : Left)
    (old new : BufferTexts) (step step' : KeylineStep) where
  abbrev pub NothingDone : Type 0
  NothingDone = (step' ≡ step) × (new ≡ old)

  -- for a line that is still open its lengths and the cursor's place are reported, and its texts
  -- are returned or one doesn't fit
  pub record TellsOpen (Puts : BufferTexts → Type 0) : Type 0 where
    pub step_is : step' ≡ with_lengths (texts_open held sent left) (with_open held keys left step)
    pub texts : Puts (texts_wanted wants (texts_open held sent left))

  -- or more was sent than there is
  abbrev pub GivesOpen : {A : Type 0} → Result A CallStatus → Type 0
  GivesOpen (Err Argument) = (length (held left.display) < sent) × NothingDone
  GivesOpen result = TellsOpen (λ given. GivesTexts given old new result)

  -- for a line that has ended all lengths are reported, and its texts are returned or one doesn't
  -- fit
  pub record TellsEnd (Puts : BufferTexts → Type 0) : Type 0 where
    pub slots : Slots
    pub are_slots : AreSlots left.ring slots
    pub step_is : step' ≡ with_lengths (texts_left held sent left slots)
        (with_end held keys left slots step)
    pub texts : Puts (texts_wanted wants (texts_left held sent left slots))

  -- or memory runs out for that, or more was sent than there is
  abbrev pub GivesEnd : {A : Type 0} → Result A CallStatus → Type 0
  GivesEnd (Err Memory) = TakesMemory left × NothingDone
  GivesEnd (Err Argument) = (length (held left.display) < sent) × NothingDone
  GivesEnd result = TellsEnd (λ given. GivesTexts given old new result)

  -- by how it ended
  abbrev pub GivesBy : CallStatus → Result CallStatus CallStatus → Type 0
  GivesBy Memory result = (result ≡ Err Memory) × NothingDone
  GivesBy More result = GivesOpen result
  GivesBy Asked result = GivesOpen result
  GivesBy status result = GivesEnd result

  -- the relation of what is returned for a line
  abbrev pub Gives : Result CallStatus CallStatus → Type 0
  Gives result = IfOk result (λ status. status ≡ status_of_ending left.outcome)
      × GivesBy (status_of_ending left.outcome) result
