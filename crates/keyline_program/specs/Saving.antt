-- What the program ends with once it has saved its history.
use Rattle.std.specs.Prelude.{◌≡◌, ◌⊎◌, Option, Some, None, Result, Ok, Err}
use Rattle.keyline.specs.declared.ending.Ending.{Ending}
use Rattle.keyline.specs.declared.ending.Ending.TheVariants.{Eof, Interrupted, NotUtf8, PasteOutOfPlace, HistoryText}

-- a history that isn't saved is a fault, unless another one came before it
abbrev pub ending_unsaved : Ending → Ending
ending_unsaved Eof = HistoryText
ending_unsaved Interrupted = HistoryText
ending_unsaved NotUtf8 = HistoryText
ending_unsaved PasteOutOfPlace = HistoryText
ending_unsaved ending = ending

abbrev pub ending_after : {A E : Type 0} → Result A E → Ending → Ending
ending_after (Ok saved) ending = ending
ending_after (Err error) ending = ending_unsaved ending

-- nothing is saved without a file, and a file may not take its text
abbrev pub EndsSaved : {P : Type 0} → Option P → Ending → Ending → Type 0
EndsSaved None old new = new ≡ old
EndsSaved (Some path) old new = (new ≡ old) ⊎ (new ≡ ending_unsaved old)
