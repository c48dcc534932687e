-- Printable ASCII, plain lines, and characters typed at their end.
use Rattle.std.specs.Prelude.{ℕ, ◌==◌, nat_lt, nat_le, ◌&&◌, ◌||◌, Bool, List, length, if◌then◌else◌}
use Rattle.std.specs.List.{list_all}

-- the printable characters of ASCII
abbrev pub is_printable : ℕ → Bool
is_printable c = nat_le 0x20 c && nat_lt c 0x7F

-- or a newline
abbrev pub is_plain_byte : ℕ → Bool
is_plain_byte byte = (byte == 10) || is_printable byte

abbrev pub is_plain : List ℕ → Bool
is_plain text = list_all is_plain_byte text

-- the cursor at the end of a plain text
abbrev pub at_plain_end : List ℕ → ℕ → Bool
at_plain_end text place = (place == length text) && is_plain text

-- or a tab
abbrev pub is_simple_byte : ℕ → Bool
is_simple_byte byte = (byte == 9) || is_plain_byte byte

abbrev pub is_simple : List ℕ → Bool
is_simple text = list_all is_simple_byte text

-- the cursor at the end of a text of clusters of one byte each: a plain one, or one with tabs if
-- these are drawn
abbrev pub at_simple_end : Bool → List ℕ → ℕ → Bool
at_simple_end tabs text place =
    (place == length text) && (if tabs then is_simple text else is_plain text)

-- a printable character typed there: its byte alone can show it
abbrev pub is_typed_at_end : Bool → ℕ → List ℕ → ℕ → Bool
is_typed_at_end tabs c text place = is_printable c && at_simple_end tabs text place
