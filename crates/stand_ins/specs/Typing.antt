-- What a test types, as the remaining input of a reader.
use Rattle.std.specs.Prelude.{Bool, true, false, List, [], ◌∷◌, Option, Some, None, if◌then◌else◌}
use Rattle.line_config.specs.declared.errors.ReadlineError.{ReadlineError}
use Rattle.line_config.specs.declared.errors.ReadlineError.TheVariants.{Eof, NotUtf8, PasteOutOfPlace, Reader, Memory}
use Rattle.line_keys.specs.KeyFeeds.{Coming, Pressed, Pasted, CutOff, Ends, Refused, LastItem}
use Rattle.line_keys.specs.KeyFeeds as coming
use Rattle.stand_ins.specs.declared.readers.Typed.{Typed}
use Rattle.stand_ins.specs.declared.readers.Typed.TheVariants.{Key, Paste}
use Rattle.stand_ins.specs.declared.readers.After.{After}
use Rattle.stand_ins.specs.declared.readers.After.TheVariants.{End, Bad, Failed}

abbrev pub last_item : After → LastItem
last_item End = coming.End
last_item Bad = coming.Bad
last_item Failed = coming.Failed

abbrev pub keys_then : List Typed → Coming → Coming
keys_then [] tail = tail
keys_then (Key k ∷ rest) tail = Pressed [] k (keys_then rest tail)
keys_then (Paste t ∷ rest) tail = Pasted [] t (keys_then rest tail)

abbrev pub coming_after : List Typed → Bool → After → Coming
coming_after typed cut last =
    keys_then typed (if cut then CutOff [] (last_item last) [] else Ends [] (last_item last) [])

abbrev pub coming_unless : Option ReadlineError → Coming → Coming
coming_unless None c = c
coming_unless (Some why) c = Refused [] why

abbrev pub refusal_after : After → ReadlineError
refusal_after End = Eof
refusal_after Bad = NotUtf8
refusal_after Failed = Reader

abbrev pub key_list_refusal : ReadlineError → Option ReadlineError → Option ReadlineError
key_list_refusal Eof before = before
key_list_refusal why before = Some why

-- a kept error is one of a reader, and not the end of the input
abbrev pub is_key_list_refusal : Option ReadlineError → Bool
is_key_list_refusal None = true
is_key_list_refusal (Some NotUtf8) = true
is_key_list_refusal (Some PasteOutOfPlace) = true
is_key_list_refusal (Some Reader) = true
is_key_list_refusal (Some Memory) = true
is_key_list_refusal (Some why) = false
