-- Texts copied into the caller's buffers, and what is reported of them.
use Rattle.std.specs.Prelude.{◌≡◌, ◌⊎◌, ◌≤◌, ◌<◌, ℕ, Bool, true, false, if◌then◌else◌, List, [], ◌++◌, Result, Ok, Err, drop, length}
use Rattle.keyline_call.specs.declared.export.KeylineStep.{KeylineStep}
use Rattle.keyline_call.specs.declared.export.KeylineWants.{KeylineWants}
use Rattle.keyline_call.specs.declared.export.Buffers.{Buffers}
use Rattle.keyline_call.specs.declared.export.Texts.{Texts}
use Rattle.keyline_call.specs.declared.status.CallStatus.{CallStatus}
use Rattle.keyline_call.specs.declared.status.CallStatus.TheVariants.{Room}

-- the content of each buffer
pub record BufferTexts : Type 0 where
  pub display : List ℕ
  pub line : List ℕ
  pub history : List ℕ
  pub kills : List ℕ
  pub ends : List ℕ

abbrev pub buffer_texts : List ℕ → List ℕ → List ℕ → List ℕ → List ℕ → BufferTexts
buffer_texts display line history kills ends =
    record { display = display; line = line; history = history; kills = kills; ends = ends }

abbrev pub texts_in : Buffers → BufferTexts
texts_in buffers = buffer_texts buffers.display.now buffers.line.now buffers.history.now
    buffers.kills.now
    buffers.ends.now

abbrev pub texts_of : Texts → BufferTexts
texts_of texts = buffer_texts texts.display.now texts.line.now texts.history.now texts.kills.now
    texts.ends.now

-- the texts to copy: those that the caller wants
abbrev pub if_wanted : {T : Type 0} → Bool → List T → List T
if_wanted wants text = if wants then text else []

abbrev pub texts_wanted : KeylineWants → BufferTexts → BufferTexts
texts_wanted wants given = buffer_texts (if_wanted wants.display given.display)
    (if_wanted wants.line given.line) (if_wanted wants.history given.history)
    (if_wanted wants.kills given.kills) (if_wanted wants.ends given.ends)

-- these are the same buffers, whatever their content is now
abbrev pub SameBuffers : Buffers → Buffers → Type 0
SameBuffers old new = new ≡ record {
  display = record old.display { now = new.display.now };
  line = record old.line { now = new.line.now };
  history = record old.history { now = new.history.now };
  kills = record old.kills { now = new.kills.now };
  ends = record old.ends { now = new.ends.now };
}

-- the text is at the front of the buffer, and the rest of the buffer stays
pub record IsPut {T : Type 0} (given old new : List T) : Type 0 where
  pub fits : length given ≤ length old
  pub room_is : new ≡ given ++ drop (length given) old

-- each text is in its buffer
pub record ArePut (given old new : BufferTexts) : Type 0 where
  pub display : IsPut given.display old.display new.display
  pub line : IsPut given.line old.line new.line
  pub history_is : IsPut given.history old.history new.history
  pub kills : IsPut given.kills old.kills new.kills
  pub ends : IsPut given.ends old.ends new.ends

-- each text fits
pub record HaveRoom (given old : BufferTexts) : Type 0 where
  pub display : length given.display ≤ length old.display
  pub line : length given.line ≤ length old.line
  pub history_is : length given.history ≤ length old.history
  pub kills : length given.kills ≤ length old.kills
  pub ends : length given.ends ≤ length old.ends

-- one doesn't fit
abbrev pub LackRoom : BufferTexts → BufferTexts → Type 0
LackRoom given old = (length old.display < length given.display)
    ⊎ ((length old.line < length given.line)
    ⊎ ((length old.history < length given.history)
    ⊎ ((length old.kills < length given.kills) ⊎ (length old.ends < length given.ends))))

abbrev pub FitsBuffers : BufferTexts → BufferTexts → Bool → Type 0
FitsBuffers given old true = HaveRoom given old
FitsBuffers given old false = LackRoom given old

-- each text is copied into its buffer; or one doesn't fit, and all buffers are as they were
abbrev pub GivesTexts : {A : Type 0} → BufferTexts → BufferTexts → BufferTexts
    → Result A CallStatus → Type 0
GivesTexts given old new (Ok done) = ArePut given old new
GivesTexts given old new (Err Room) = LackRoom given old × (new ≡ old)
GivesTexts given old new (Err why) = ⊥

-- the step reports their lengths
abbrev pub with_lengths : BufferTexts → KeylineStep → KeylineStep
with_lengths given step = record step {
  display = length given.display;
  line = length given.line;
  history = length given.history;
  kills = length given.kills;
  slots = length given.ends;
}
