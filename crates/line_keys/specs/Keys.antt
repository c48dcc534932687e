-- Keys: their comparison, the key of a character, and the normal form of a key in bindings.
use Rattle.std.specs.Prelude.{ℕ, ◌+◌, Bool, not, ◌||◌, ◌&&◌, nat_lt, ◌==◌, Option, Some, None, if◌then◌else◌}
use Rattle.std.specs.Int.RustNames.{bit_and, bit_or}
use Rattle.std.specs.Char.{is_control, is_ascii_control, is_ascii_lowercase, is_ascii_uppercase, to_ascii_uppercase}
use Rattle.bitflags.specs.Sets.{without}
use Rattle.line_keys.specs.declared.flags.Modifiers.{Modifiers}
use Rattle.line_keys.specs.declared.key.KeyCode.{KeyCode}
use Rattle.line_keys.specs.declared.key.KeyCode.TheVariants.{Char, Backspace, BackTab, Tab, Enter, Esc, Null}
use Rattle.line_keys.specs.declared.key.KeyEvent.{KeyEvent}
use Rattle.line_keys.specs.contracts.key.KeyEventPartialEq.TheImpl as key_eq

abbrev pub same_key : KeyEvent → KeyEvent → Bool
same_key = (key_eq.ghosts).eq

-- the modifiers with these bits: 8 is Ctrl, 4 is Alt, 2 is Shift
abbrev pub modifiers_of : ℕ → Modifiers
modifiers_of bits = record { 0 = bits }

abbrev pub none : Modifiers
none = modifiers_of 0

abbrev pub ctrl : Modifiers
ctrl = modifiers_of 8

abbrev pub alt : Modifiers
alt = modifiers_of 4

abbrev pub ctrl_alt : Modifiers
ctrl_alt = modifiers_of 12

abbrev pub shift : Modifiers
shift = modifiers_of 2

abbrev pub has : Modifiers → Modifiers → Bool
has some m = bit_and m.0 some.0 == some.0

abbrev pub and_also : Modifiers → Modifiers → Modifiers
and_also some m = modifiers_of (bit_or m.0 some.0)

abbrev pub less_shift : Modifiers → Modifiers
less_shift m = modifiers_of (without 8 m.0 2)

abbrev pub key_with : KeyCode → Modifiers → KeyEvent
key_with code mods = record { 0 = code; 1 = mods }

abbrev pub char_in : KeyCode → Option ℕ
char_in (Char c) = Some c
char_in code = None

-- the character of a key that has these modifiers and no others
abbrev pub char_with : Modifiers → KeyEvent → Option ℕ
char_with m k = if k.1.0 == m.0 then char_in k.0 else None

-- a Tab; with Shift it is another key
abbrev pub tab_key : Modifiers → KeyEvent
tab_key m = if has shift m then key_with BackTab (less_shift m) else key_with Tab m

-- the key that sends a character: U+0000 is Ctrl with @, and so on to U+001F, Ctrl with _
abbrev pub key_of : ℕ → Modifiers → KeyEvent
key_of c m =
    if not (is_control c) then key_with (Char c) (less_shift m)
    else if (c == 0x08) || (c == 0x7F) then key_with Backspace m
    else if c == 0x09 then tab_key m
    else if c == 0x0D then key_with Enter m
    else if c == 0x1B then key_with Esc m
    else if nat_lt c 0x20 then key_with (Char (c + 0x40)) (and_also ctrl m)
    else if c == 0x9B then key_with Esc (and_also shift m)
    else key_with Null m

abbrev pub normal_code : KeyCode → Modifiers → KeyEvent
normal_code (Char c) m =
    if is_ascii_control c then key_of c m
    else if is_ascii_lowercase c && has ctrl m then key_with (Char (to_ascii_uppercase c)) m
    else if is_ascii_uppercase c then key_with (Char c) (less_shift m)
    else key_with (Char c) m
normal_code Tab m = tab_key m
normal_code code m = key_with code m

-- the normal form of a key
abbrev pub normal : KeyEvent → KeyEvent
normal k = normal_code k.0 k.1
