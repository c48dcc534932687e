-- The spans of a helper with fixed answers.
use Rattle.std.specs.Prelude.{ℕ, zero, suc, ◌-◌, ◌==◌, nat_eq, List, [], ◌∷◌, length, if◌then◌else◌}
use Rattle.std.specs.List.{starts_with}
use Rattle.line_help.specs.declared.helpers.style.Mark.{Mark}
use Rattle.line_help.specs.declared.helpers.style.Part.{Part}
use Rattle.line_help.specs.declared.helpers.style.Part.TheVariants.{Prompt, Line, Hint, Message}
use Rattle.line_help.specs.declared.helpers.style.Span.{Span}
use Rattle.line_help.specs.declared.helpers.style.Style.{Style}
use Rattle.line_help.specs.Paints.{plain}
use Rattle.session_rows.specs.declared.words.styles.Styles.{Styles}

-- so many bytes after those that are plain
abbrev pub behind_plain : ℕ → ℕ → Style → Span × Span
behind_plain start len style = (record { len = start; style = plain }, record { len = len; style = style })

-- of a line some bytes have a style, and of any other text all
abbrev pub spans_of : Styles → Part → List ℕ → Span × Span
spans_of s (Prompt own) text = behind_plain 0 (length text) s.prompt
spans_of s (Line pos) text = behind_plain s.start s.len s.line
spans_of s Hint text = behind_plain 0 (length text) s.hint
spans_of s Message text = behind_plain 0 (length text) s.message

-- the two spans from a mark on, whose state is the number of those before it
abbrev pub both_from : Span × Span → Mark → List Span
both_from spans from = if from.state == 0 then spans.0 ∷ (spans.1 ∷ [])
    else if from.state == 1 then (spans.1 ∷ []) else []

-- how a text begins: with the keyword, or with a plain byte
abbrev pub first_word : List ℕ → Style → List ℕ → Span
first_word keyword style text =
    if starts_with nat_eq text keyword then record { len = length keyword; style = style }
    else record { len = 1; style = plain }

-- the keywords and the other bytes of a text from a place on
abbrev pub words_from : List ℕ → Style → ℕ → List ℕ → List Span
words_from keyword style place [] = []
words_from keyword style (suc place) (c ∷ text) = words_from keyword style place text
words_from keyword style zero (c ∷ text) =
    first_word keyword style (c ∷ text)
    ∷ words_from keyword style ((first_word keyword style (c ∷ text)).len - 1) text

-- a line with a keyword has its spans by it
abbrev pub text_with_styles : Styles → Part → List ℕ → Mark → List Span
text_with_styles s (Line pos) text from =
    if length s.keyword.now == 0 then both_from (spans_of s (Line pos) text) from
    else words_from s.keyword.now s.line from.at text
text_with_styles s part text from = both_from (spans_of s part text) from
