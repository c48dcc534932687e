-- Styles of drawn texts: the spans of a text, one after another.
use Rattle.std.specs.Prelude.{◌≡◌, ℕ, ◌==◌, ◌&&◌, nat_lt, Bool, true, false, if◌then◌else◌, List, [], ◌∷◌, drop, length, Option, Some, None, is_some, option_map, flat_map, replicate}
use Rattle.std.specs.List.{position_or_len}
use Rattle.std.specs.Option.{option_map_or}
use Rattle.line_keys.specs.declared.command.CmdKind.{CmdKind}
use Rattle.line_help.specs.declared.helpers.style.Colour.TheVariants.{Terminal, Basic}
use Rattle.line_help.specs.declared.helpers.style.Hue.TheVariants.{Blue, Red}
use Rattle.line_help.specs.declared.helpers.style.Mark.{Mark}
use Rattle.line_help.specs.declared.helpers.style.Part.{Part}
use Rattle.line_help.specs.declared.helpers.style.Part.TheVariants.{Prompt, Line, Hint, Message}
use Rattle.line_help.specs.declared.helpers.style.Span.{Span}
use Rattle.line_help.specs.declared.helpers.style.Style.{Style}
use Rattle.line_help.specs.Brackets.{bracket_to_match}
use Rattle.line_help.specs.Highlights.{kept_bracket, match_to_show}

-- what a highlighter does: whether it marks something in a line, depending on the line, the place
-- and the reason for the drawing; and the spans of a text in a part of a drawing, after a mark
pub record Marks : Type 0 where
  pub marked : List ℕ → ℕ → CmdKind → Bool
  pub paints : Part → List ℕ → Mark → List Span

abbrev pub no_marks : Marks
no_marks = record { marked = λ line pos kind. false; paints = λ part text from. [] }

abbrev pub first_mark : Mark
first_mark = record { at = 0; state = 0 }

-- the first of the spans after a mark, and the mark after it; none if there are no more
abbrev pub IsNextSpan : (Mark → List Span) → Mark → Option (Span × Mark) → Type 0
IsNextSpan spans from None = spans from ≡ []
IsNextSpan spans from (Some next) = spans from ≡ next.0 ∷ spans next.1

-- ---- styles

-- the style of each byte that spans cover
abbrev pub span_styles : List Span → List Style
span_styles spans = flat_map (λ span. replicate span.len span.style) spans

-- the terminal's colours, and nothing else
abbrev pub plain : Style
plain = record {
  text = Terminal;
  background = Terminal;
  bold = false;
  faint = false;
  italic = false;
  underline = false;
  reverse = false;
}

-- the styles of a bracket's match, of a hint and of a message's first row
abbrev pub match_style : Style
match_style = record plain { text = Basic Blue; bold = true }

abbrev pub hint_style : Style
hint_style = record plain { faint = true }

abbrev pub message_style : Style
message_style = record plain { text = Basic Red }

-- ---- the match of the bracket at the cursor

-- the place of the match that is to be shown
abbrev pub match_place : List ℕ → ℕ → Option ℕ
match_place text pos =
    option_map (λ found. found.1) (match_to_show text (bracket_to_match text pos))

-- by the mark's state: at 0 a plain span before the match, and the match; at 1 the match
abbrev pub paints_match : Part → List ℕ → Mark → List Span
paints_match (Line pos) text from =
    let found : List Span = record { len = 1; style = match_style } ∷ [] in
    if from.state == 0 then option_map_or (λ place. record { len = place; style = plain } ∷ found)
    (match_place text pos) [] else if from.state == 1 then found else []
paints_match part text from = []

-- ---- the standard highlighter

-- one span over the first bytes of a text, if there are any
abbrev pub first_bytes : Style → ℕ → Mark → List Span
first_bytes style len from = if from.state == 0 && nat_lt 0 len
    then record { len = len; style = style } ∷ [] else []

-- a line's match is bold and blue, a hint faint, a message's first row red, and a prompt plain
abbrev pub standard_paints : Part → List ℕ → Mark → List Span
standard_paints Hint text from = first_bytes hint_style (length text) from
standard_paints Message text from =
    first_bytes message_style (position_or_len (λ byte. byte == 10) text) from
standard_paints part text from = paints_match part text from

abbrev pub standard_marks : Marks
standard_marks = record {
  marked = λ line pos kind. is_some (kept_bracket line pos kind);
  paints = standard_paints;
}

-- ---- a prompt with styles

-- the spans of the line's own prompt, and a highlighter for everything else
pub record Prompted (H : Type 0) : Type 0 where
  pub spans : List Span
  pub others : H

-- the mark's state is the number of the prompt's spans before it
abbrev pub prompt_paints : List Span → Marks → Part → List ℕ → Mark → List Span
prompt_paints spans others (Prompt true) text from = drop from.state spans
prompt_paints spans others part text from = others.paints part text from

abbrev pub prompt_marks : List Span → Marks → Marks
prompt_marks spans others = record others { paints = prompt_paints spans others }
