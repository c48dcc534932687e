-- How a call ends: its number, and the status of a line's ending.
use Rattle.std.specs.Prelude.{ℕ, Bool, true, false, Result, Ok, Err}
use Rattle.line_config.specs.declared.errors.ReadlineError.{ReadlineError}
use Rattle.line_config.specs.declared.errors.ReadlineError.TheVariants as Refusal
use Rattle.keyline_call.specs.declared.status.CallStatus.{CallStatus}
use Rattle.keyline_call.specs.declared.status.CallStatus.TheVariants.{Line, More, End, Interrupted, NotUtf8, PasteOutOfPlace, Argument, Room, Memory, Asked}

-- as `keyline.h` numbers them
abbrev pub code_of : CallStatus → ℕ
code_of Line = 0
code_of More = 1
code_of End = 2
code_of Interrupted = 3
code_of NotUtf8 = 4
code_of PasteOutOfPlace = 5
code_of Argument = 6
code_of Room = 7
code_of Memory = 8
code_of Asked = 9

-- whether the line continues
abbrev pub is_open : CallStatus → Bool
is_open More = true
is_open Asked = true
is_open status = false

-- a line's ending: if the source fails, more keys are wanted; if a binding does, it is that of a
-- key of the caller's own; and since devices are in memory, any other failure is a failed
-- allocation
abbrev pub status_of_ending : {T : Type 0} → Result T ReadlineError → CallStatus
status_of_ending (Ok text) = Line
status_of_ending (Err Refusal.Reader) = More
status_of_ending (Err Refusal.Handler) = Asked
status_of_ending (Err Refusal.Eof) = End
status_of_ending (Err Refusal.Interrupted) = Interrupted
status_of_ending (Err Refusal.NotUtf8) = NotUtf8
status_of_ending (Err Refusal.PasteOutOfPlace) = PasteOutOfPlace
status_of_ending (Err why) = Memory
