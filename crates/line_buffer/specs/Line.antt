-- A line: its text in UTF-8 bytes, the cursor's place, and whether it may grow past its limit.
use Rattle.std.specs.Prelude.{ℕ, ◌+◌, Bool, List, [], length, take, drop, Option, unwrap_or}
use Rattle.std.specs.List.{replace_range, insert_slice}

pub record Line : Type 0 where
  pub text : List ℕ
  pub place : ℕ
  pub growth : Bool
  pub limit : ℕ

abbrev pub text_before : Line → List ℕ
text_before l = take l.place l.text

abbrev pub text_after : Line → List ℕ
text_after l = drop l.place l.text

-- the cursor at the place that a motion found; it stays if there is none
abbrev pub with_cursor_at : Option ℕ → Line → Line
with_cursor_at found l = record l { place = unwrap_or found l.place }

-- new text in place of a range, the cursor after it
abbrev pub with_replacement : ℕ → ℕ → List ℕ → Line → Line
with_replacement from upto added l =
    record l { text = replace_range l.text from upto added; place = from + length added }

-- a range deleted, the cursor at its start
abbrev pub without_range : ℕ → ℕ → Line → Line
without_range from upto l = record l { text = replace_range l.text from upto []; place = from }

-- a text inserted, the cursor's place kept
abbrev pub with_text_at : ℕ → List ℕ → Line → Line
with_text_at at added l = record l { text = insert_slice l.text at added }
