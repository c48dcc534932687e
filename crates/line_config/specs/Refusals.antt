-- The errors: their texts, which of them are faults, and which calls have only one.
use Rattle.std.specs.Prelude.{◌≡◌, ℕ, List, Bool, true, false, IsFalse, MatchResult, Result, Ok, Err, codes, ⊤}
use Rattle.line_config.specs.declared.errors.ReadlineError.{ReadlineError}
use Rattle.line_config.specs.declared.errors.ReadlineError.TheVariants.{Eof, Interrupted, NotUtf8, PasteOutOfPlace, Reader, Display, Lines, HistoryText, Helper, Handler, Memory}

-- an error's message, which its Display writes
abbrev pub refusal_text : ReadlineError → List ℕ
refusal_text Eof = codes "EOF"
refusal_text Interrupted = codes "Interrupted"
refusal_text NotUtf8 = codes "input is not UTF-8"
refusal_text PasteOutOfPlace = codes "paste out of place"
refusal_text Reader = codes "input failed"
refusal_text Display = codes "display failed"
refusal_text Lines = codes "line output failed"
refusal_text HistoryText = codes "history text failed"
refusal_text Helper = codes "helper failed"
refusal_text Handler = codes "handler failed"
refusal_text Memory = codes "out of memory"

-- whether an error is a fault: one that no input gives. A reader's failure isn't a fault, since it
-- comes after the bytes of the input.
abbrev pub is_fault : ReadlineError → Bool
is_fault Eof = false
is_fault Interrupted = false
is_fault NotUtf8 = false
is_fault PasteOutOfPlace = false
is_fault Reader = false
is_fault why = true

-- this result comes from the input alone: no fault occurred
abbrev pub Met : {X : Type 0} → Result X ReadlineError → Type 0
Met (Ok x) = ⊤
Met (Err refusal) = IsFalse (is_fault refusal)

-- a call returns an answer with this property, or memory ran out
abbrev pub OrMemory : {X : Type 0} → Result X ReadlineError → (X → Type 0) → Type 0
OrMemory result P = MatchResult result P (λ e. e ≡ Memory)
