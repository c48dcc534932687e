-- What steps show, without a screen.
use Rattle.std.specs.Prelude.{◌≡◌, ⊤, ℕ, ◌+◌, Bool, true, false, List, [], ◌∷◌, ◌++◌, length, Option, Some, None, encode_utf8}
use Rattle.std.specs.List.{list_all}
use Rattle.line_buffer.specs.Printable.{is_printable, is_plain, at_plain_end, is_typed_at_end}
use Rattle.line_editor.specs.Characters.{stands_apart, begins_apart}
use Rattle.line_editor.specs.RenderCalls.{Marks}
use Rattle.line_editor.specs.Redraws.{Redraw, info_text}
use Rattle.line_editor.specs.Redraws.Redraw.{Drawn, Moved, Typed, Appended, Taken, Erased, PutIn, TakenOut, DrawnFrom, Bared, ToEnd, Beeped, Cleared, Rewritten}
use Rattle.line_editor.specs.SharedStyles.{styles_to}
use Rattle.line_editor.specs.Values.{Value, Setting, EditStep, shown_marks}
use Rattle.line_editor.specs.Values.EditStep.{Draws}
use Rattle.line_help.specs.Paints.{first_mark}
use Rattle.line_help.specs.declared.helpers.style.Part.TheVariants.{Prompt as OfPrompt, Line as OfLine, Hint as OfHint}
use Rattle.line_help.specs.declared.helpers.style.Span.{Span}

-- ---- the styles of a drawing

-- the spans of prompt, line, and the hint or message after it
pub record PartSpans : Type 0 where
  pub prompt : List Span
  pub line : List Span
  pub info : List Span

-- what a highlighter gives for these texts, if any; `given`: the prompt is the session's own
abbrev pub drawn_spans : Option Marks → Bool → List ℕ → List ℕ → ℕ → List ℕ → PartSpans
drawn_spans None given prompt text place info = record { prompt = []; line = []; info = [] }
drawn_spans (Some m) given prompt text place info = record {
  prompt = m.paints (OfPrompt given) prompt first_mark;
  line = m.paints (OfLine place) text first_mark;
  info = m.paints OfHint info first_mark;
}

-- ---- what is to be seen

-- the prompt, line, place and information of the last drawing, and their styles; `given`: the
-- prompt is the session's own; `ended`: the cursor was moved to the drawing's end. An empty text
-- counts as information
pub record Sight : Type 0 where
  pub prompt : List ℕ
  pub line : List ℕ
  pub place : ℕ
  pub info : Option (List ℕ)
  pub given : Bool
  pub ended : Bool
  pub spans : PartSpans

abbrev pub sight_with : Option Marks → Bool → List ℕ → List ℕ → ℕ → Option (List ℕ) → Sight
sight_with marks given prompt text place info = record {
  prompt = prompt;
  line = text;
  place = place;
  info = info;
  given = given;
  ended = false;
  spans = drawn_spans marks given prompt text place (info_text info);
}

abbrev pub sight_as : Option Marks → List ℕ → List ℕ → ℕ → Option (List ℕ) → Sight
sight_as marks prompt text place info = sight_with marks true prompt text place info

abbrev pub no_sight : Sight
no_sight = sight_with None false [] [] 0 None

-- drawn by a highlighter with these marks, if there is one
abbrev pub sight_drawn : Sight → Option Marks → Redraw → Sight
sight_drawn x marks (Drawn prompt given text place info) =
    sight_with marks given prompt text place info
sight_drawn x marks (Moved text place) = record x { place = place; ended = false }
sight_drawn x marks (Typed prompt c text place) = sight_as marks prompt text place None
sight_drawn x marks (Appended prompt c text place) = sight_as marks prompt text place None
sight_drawn x marks (Taken prompt count partial text place) = sight_as marks prompt text place None
sight_drawn x marks (Erased prompt c text place) = sight_as marks prompt text place None
sight_drawn x marks (PutIn prompt c text place) = sight_as marks prompt text place None
sight_drawn x marks (TakenOut prompt count text place) = sight_as marks prompt text place None
sight_drawn x marks (DrawnFrom prompt from text place info) = sight_as marks prompt text place info
sight_drawn x marks (Rewritten prompt from upto text place) = sight_as marks prompt text place None
sight_drawn x marks (Bared prompt text place) = x
sight_drawn x marks ToEnd = record x { ended = true }
sight_drawn x marks Beeped = x
sight_drawn x marks Cleared = no_sight

-- the other steps draw nothing
abbrev pub sight : Sight → EditStep → Sight
sight x (Draws v marks redraw) = sight_drawn x (shown_marks v marks) redraw
sight x step = x

-- a line is drawn in part behind the session's own prompt, which is shown. What is shown has a line
-- without styles, and a drawing of this text has the same styles as it
pub record InPart (own : List ℕ) (x : Sight) (marks : Option Marks) (prompt text : List ℕ)
    (place : ℕ) : Type 0 where
  pub given : x.given ≡ true
  pub own_is : prompt ≡ own
  pub prompt_is : prompt ≡ x.prompt
  pub unstyled : x.spans.line ≡ []
  pub still : (drawn_spans marks true prompt text place []).line ≡ []
  pub same_prompt : (drawn_spans marks true prompt text place []).prompt ≡ x.spans.prompt
  pub same : x.info ≡ None → drawn_spans marks true prompt text place [] ≡ x.spans

pub record TypedFits (x : Sight) (c : ℕ) (text : List ℕ) (place : ℕ) : Type 0 where
  pub typed : is_typed_at_end true c x.line x.place ≡ true
  pub text_is : text ≡ x.line ++ c ∷ []
  pub behind : place ≡ x.place + 1

-- a character apart from the line at whose end it is typed
pub record AppendedFits (x : Sight) (c : ℕ) (text : List ℕ) (place : ℕ) : Type 0 where
  pub at : x.place ≡ length x.line
  pub apart : stands_apart x.line c ≡ true
  pub text_is : text ≡ x.line ++ encode_utf8 c
  pub behind : place ≡ length (x.line ++ encode_utf8 c)

pub record TakenFits (x : Sight) (count : ℕ) (text : List ℕ) (place : ℕ) : Type 0 where
  pub killed : List ℕ
  pub whole : x.line ≡ text ++ killed
  pub count_is : count ≡ length killed
  pub end : at_plain_end text place ≡ true
  pub printable : list_all is_printable killed ≡ true

-- a character apart from what is left of the line, deleted at its end
pub record ErasedFits (x : Sight) (c : ℕ) (text : List ℕ) (place : ℕ) : Type 0 where
  pub whole : x.line ≡ text ++ encode_utf8 c
  pub apart : stands_apart text c ≡ true
  pub end : place ≡ length text

-- characters of a plain line from a place on, and printable ones in their stead
pub record Replaces (x : Sight) (from : ℕ) (gone letters text : List ℕ) : Type 0 where
  pub before : List ℕ
  pub rest : List ℕ
  pub whole : x.line ≡ before ++ (gone ++ rest)
  pub text_is : text ≡ before ++ (letters ++ rest)
  pub from_is : from ≡ length before
  pub plain : is_plain x.line ≡ true
  pub gone_printable : list_all is_printable gone ≡ true
  pub printable : list_all is_printable letters ≡ true

-- the text before a place stays, with its clusters and their styles
pub record DrawnFromFits (x : Sight) (marks : Option Marks) (prompt : List ℕ) (from : ℕ)
    (text : List ℕ) (place : ℕ) (info : Option (List ℕ)) : Type 0 where
  pub before : List ℕ
  pub gone : List ℕ
  pub rest : List ℕ
  pub whole : x.line ≡ before ++ gone
  pub text_is : text ≡ before ++ rest
  pub from_is : from ≡ length before
  pub gone_apart : begins_apart before gone ≡ true
  pub rest_apart : begins_apart before rest ≡ true
  pub prompt_is : prompt ≡ x.prompt
  pub same_styles : styles_to from (drawn_spans marks true prompt text place (info_text info)).line
      ≡ styles_to from x.spans.line
  pub prompt_styles : (drawn_spans marks true prompt text place (info_text info)).prompt
      ≡ x.spans.prompt

-- when each redraw is allowed; `own` is the session's prompt
abbrev pub FitsDrawn : List ℕ → Sight → Option Marks → Redraw → Type 0
FitsDrawn own x marks (Drawn prompt given text place info) = given ≡ true → prompt ≡ own
FitsDrawn own x marks (Moved text place) = text ≡ x.line
FitsDrawn own x marks (Typed prompt c text place) =
    InPart own x marks prompt text place × (x.ended ≡ false) × TypedFits x c text place
FitsDrawn own x marks (Appended prompt c text place) =
    InPart own x marks prompt text place × (x.ended ≡ false) × AppendedFits x c text place
FitsDrawn own x marks (Taken prompt count partial text place) =
    InPart own x marks prompt text place × TakenFits x count text place
FitsDrawn own x marks (Erased prompt c text place) =
    InPart own x marks prompt text place × ErasedFits x c text place
FitsDrawn own x marks (PutIn prompt c text place) = InPart own x marks prompt text place
    × (x.ended ≡ false) × Replaces x x.place [] (c ∷ []) text × (place ≡ x.place + 1)
FitsDrawn own x marks (TakenOut prompt count text place) = InPart own x marks prompt text place
    × ((killed : List ℕ) × Replaces x place killed [] text × (count ≡ length killed))
FitsDrawn own x marks (DrawnFrom prompt from text place info) =
    (x.given ≡ true) × (prompt ≡ own) × DrawnFromFits x marks prompt from text place info
FitsDrawn own x marks (Rewritten prompt from upto text place) = InPart own x marks prompt text place
    × ((gone letters : List ℕ) × Replaces x from gone letters text
    × (length letters ≡ length gone) × (upto ≡ from + length letters))
FitsDrawn own x marks (Bared prompt text place) = x.given ≡ true
FitsDrawn own x marks redraw = ⊤

abbrev pub Fits : List ℕ → Sight → EditStep → Type 0
Fits own x (Draws v marks redraw) = FitsDrawn own x (shown_marks v marks) redraw
Fits own x step = ⊤

abbrev pub sight_all : Sight → List EditStep → Sight
sight_all x [] = x
sight_all x (r ∷ rs) = sight_all (sight x r) rs

abbrev pub FitsAll : List ℕ → Sight → List EditStep → Type 0
FitsAll own x [] = ⊤
FitsAll own x (r ∷ rs) = Fits own x r × FitsAll own (sight x r) rs

-- allowed steps that lead from one to the other
pub record Turns (own : List ℕ) (x : Sight) (rs : List EditStep) (y : Sight) : Type 0 where
  pub fits : FitsAll own x rs
  pub leads : sight_all x rs ≡ y

-- ---- the information shown, as a fold of the steps

abbrev pub info_after : List EditStep → Option (List ℕ) → Option (List ℕ)
info_after [] info = info
info_after (r ∷ rs) info = info_after rs (sight (record no_sight { info = info }) r).info

-- what is to be shown of a value with some information
abbrev pub sight_of : Setting → Value → Option (List ℕ) → Sight
sight_of s v info = sight_as (shown_marks v s.marks) s.prompt v.line.text v.line.place info

-- the same with the cursor at the drawing's end
abbrev pub ended_sight : Sight → Sight
ended_sight x = record x { ended = true }
