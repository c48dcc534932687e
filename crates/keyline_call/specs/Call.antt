-- The call from C, and its result.
use Rattle.std.specs.Prelude.{◌≡◌, ◌⊎◌, ℕ, List, Result, Ok, Err, IsErrAnd, length}
use Rattle.line_config.specs.declared.memory.VecSink.{VecSink}
use Rattle.keyline_call.specs.Lines.{IsRefused, ReadsKeys}
use Rattle.keyline_call.specs.Buffers.{BufferTexts}
use Rattle.keyline_call.specs.Statuses.{code_of}
use Rattle.keyline_call.specs.CallSteps.{Gives}
use Rattle.keyline_call.specs.declared.export.KeylineOptions.{KeylineOptions}
use Rattle.keyline_call.specs.declared.export.KeylineStep.{KeylineStep}
use Rattle.keyline_call.specs.declared.export.KeylineWants.{KeylineWants}
use Rattle.keyline_call.specs.declared.line.Left.{Left}
use Rattle.keyline_call.specs.declared.status.CallStatus.{CallStatus}

-- nothing is reported except what was sent before
abbrev pub untold : ℕ → KeylineStep
untold sent = record {
  status = 0;
  display = 0;
  sent = sent;
  line = 0;
  keys = 0;
  history = 0;
  kills = 0;
  slots = 0;
  place = 0;
  cursor = 0;
}

abbrev pub status_in : Result CallStatus CallStatus → CallStatus
status_in (Ok status) = status
status_in (Err status) = status

module _ (held : VecSink → List ℕ) (options : KeylineOptions)
    (keys prompt words asks history kills ends : List ℕ) (wants : KeylineWants)
    (old new : BufferTexts)
  where
    -- the line of these keys was read, and its texts are returned
    pub record GivesLine (step step' : KeylineStep)
        (result : Result CallStatus CallStatus) : Type 0 where
      pub left : Left
      pub reads : ReadsKeys options prompt words history kills ends held keys asks left
      pub gives : Gives held options.sent (length keys) wants left old new step step' result

    -- or it wasn't, because an argument is invalid or memory ran out, and nothing is done
    abbrev pub AnswersCall : KeylineStep → KeylineStep → Result CallStatus CallStatus → Type 0
    AnswersCall step step' result = GivesLine step step' result
        ⊎ (IsErrAnd result (IsRefused options prompt words history kills ends)
        × (step' ≡ step) × (new ≡ old))

    -- the relation of the call: the step's number says how it ended
    pub record Calls (step : KeylineStep) : Type 0 where
      pub result : Result CallStatus CallStatus
      pub told : KeylineStep
      pub answers : AnswersCall (untold options.sent) told result
      pub step_is : step ≡ record told { status = code_of (status_in result) }
