-- The styles that the front of a line has in two drawings.
use Rattle.std.specs.Prelude.{ℕ, ◌==◌, Bool, false, List, [], ◌∷◌, ◌++◌, take, replicate, Option, unwrap_or}
use Rattle.line_help.specs.Paints.{plain, span_styles}
use Rattle.line_help.specs.contracts.helpers.style.StylePartialEq.TheImpl as style_eq
use Rattle.line_help.specs.declared.helpers.style.Span.{Span}
use Rattle.line_help.specs.declared.helpers.style.Style.{Style}

-- the styles of the first `n` bytes; those after the last span have none
abbrev pub styles_to : ℕ → List Span → List Style
styles_to n spans = take n (span_styles spans ++ replicate n plain)

-- ---- how far two drawings surely agree

-- at most so many spans of a line are compared
abbrev pub most_spans : ℕ
most_spans = 64

-- the plain bytes after a line's last span, for the styles of its first `n` bytes
abbrev pub plain_rest : ℕ → Span
plain_rest n = record { len = n; style = plain }

-- the styles of the bytes before a place, as far as the spans that are compared tell them
abbrev pub told_styles : ℕ → List Span → List Style
told_styles n spans = take n (span_styles (take most_spans (spans ++ plain_rest n ∷ [])))

-- the same by what is noted of a line: spans, or nothing if it has no styles
abbrev pub noted_styles : ℕ → Option (List Span) → List Style
noted_styles n noted = take n (span_styles (unwrap_or noted (plain_rest n ∷ [])))

abbrev pub same_style : Style → Style → Bool
same_style = (style_eq.ghosts).eq

-- whether so many bytes are all of the first span
abbrev pub is_used : ℕ → List Span → Bool
is_used used [] = false
is_used used (s ∷ rest) = used == s.len
