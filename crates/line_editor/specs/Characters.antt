-- Characters that are clusters of their own next to each other (UAX #29).
use Rattle.std.specs.Prelude.{ℕ, ◌==◌, ◌&&◌, ◌||◌, nat_le, Bool, true, List, [], ◌∷◌, take, drop, length, Option, Some, None, chars}
use Rattle.std.specs.Int.{is_in_range}
use Rattle.std.specs.List.{last_or}
use Rattle.std.specs.Str.{is_utf8}
use Rattle.line_buffer.specs.Printable.{is_printable}

-- None of these is a mark, a joiner, a part of a flag or a consonant that a mark before it takes
-- in. These take one column: printable ASCII, Latin, Greek, Cyrillic and Armenian
abbrev pub is_narrow : ℕ → Bool
is_narrow c = is_printable c || (is_in_range 0xA1 0xAC c || (is_in_range 0xAE 0x2FF c
    || (is_in_range 0x370 0x482 c || is_in_range 0x48A 0x58F c)))

-- these take two columns: kana, Chinese, Korean, their punctuation, and full-width letters
abbrev pub is_wide : ℕ → Bool
is_wide c =
    is_in_range 0x3001 0x3029 c || (is_in_range 0x3041 0x3096 c || (is_in_range 0x309B 0x30FF c
    || (is_in_range 0x3400 0xA48C c || (is_in_range 0xAC00 0xD7A3 c || (is_in_range 0xF900 0xFAFF c
    || (is_in_range 0xFF01 0xFF60 c
    || (is_in_range 0x20000 0x2FFFD c || is_in_range 0x30000 0x3FFFD c)))))))

-- pictographs, without the tones of skin
abbrev pub is_pictograph : ℕ → Bool
is_pictograph c = is_in_range 0x1F300 0x1F3FA c || (is_in_range 0x1F400 0x1F64F c
    || (is_in_range 0x1F680 0x1F6FF c || is_in_range 0x1F900 0x1F9FF c))

abbrev pub is_apart : ℕ → Bool
is_apart c = is_narrow c || (is_wide c || is_pictograph c)

-- a newline, or one of them
abbrev pub ends_apart : Option ℕ → Bool
ends_apart None = true
ends_apart (Some last) = (last == 0x0A) || is_apart last

-- a character after a text is a cluster of its own, and leaves the text's clusters as they are.
-- False means that this isn't known
abbrev pub stands_apart : List ℕ → ℕ → Bool
stands_apart text c = is_utf8 text && (is_apart c && ends_apart (last_or None (chars text)))

-- characters after a text leave its clusters as they are: there are none, or a newline or a
-- character apart comes first
abbrev pub starts_apart : List ℕ → List ℕ → Bool
starts_apart text [] = true
starts_apart text (c ∷ cs) = (c == 0x0A) || stands_apart text c

-- the clusters of a text and those of the rest after it are the clusters of both. False means that
-- this isn't known
abbrev pub begins_apart : List ℕ → List ℕ → Bool
begins_apart text rest = is_utf8 rest && (is_utf8 text && starts_apart text (chars rest))

-- the same for the two parts of a text at one of its places
abbrev pub begins_apart_at : List ℕ → ℕ → Bool
begins_apart_at text at = nat_le at (length text) && begins_apart (take at text) (drop at text)
