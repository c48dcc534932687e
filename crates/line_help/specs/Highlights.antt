-- Highlighted texts: texts with control sequences between their characters.
use Rattle.std.specs.Prelude.{◌≡◌, ℕ, ◌+◌, ◌&&◌, nat_le, nat_lt, Bool, true, if◌then◌else◌, List, [], ◌∷◌, ◌++◌, length, take, drop, codes, Option, Some, None, is_some, option_map, Result, IfOk}
use Rattle.std.specs.Int.{is_in_range}
use Rattle.std.specs.List.{list_all}
use Rattle.line_config.specs.declared.errors.HookFault.{HookFault}
use Rattle.line_config.specs.declared.settings.CompletionType.{CompletionType}
use Rattle.line_keys.specs.declared.command.CmdKind.{CmdKind}
use Rattle.line_keys.specs.declared.command.CmdKind.TheVariants.{ForcedRefresh}
use Rattle.line_help.specs.Brackets.{bracket_to_match, match_place, partner}
use Rattle.line_keys.specs.Replies.{Reply, Replies, gives_at_once}

-- the control sequence that sets how the following text is drawn (SGR): ESC [, parameters, m
abbrev pub style_sequence : List ℕ → List ℕ
style_sequence parameters = 27 ∷ (91 ∷ (parameters ++ (109 ∷ [])))

-- the part of the display in which a text is shown: the line, with the cursor's place in it; the
-- prompt, and whether it is the line's own; the hint; or a candidate, with the completion type
pub data DisplayPart : Type 0 where
  OfLine : (place : ℕ) → DisplayPart
  OfPrompt : (own : Bool) → DisplayPart
  OfHint : DisplayPart
  OfCandidate : (completion : CompletionType) → DisplayPart

-- the shown text is the text with such sequences inserted: parameters are digits, : and ;
pub data Styled : List ℕ → List ℕ → Type 0 where
  nothing : Styled [] []
  byte : (b : ℕ) (text shown : List ℕ) → Styled text shown → Styled (b ∷ text) (b ∷ shown)
  style : (parameters text shown : List ℕ) → list_all (is_in_range 48 59) parameters ≡ true
      → Styled text shown → Styled text (style_sequence parameters ++ shown)

-- a call returns the text as it is shown, which is the text with styles inserted
pub record Highlights {A : Type 0} (bytes : A → List ℕ) (text : List ℕ) (shown : Reply (List ℕ))
    (result : Result A HookFault) : Type 0 where
  pub reply : Replies shown bytes result
  pub styled : IfOk result (λ answer. Styled text (bytes answer))

-- the line with the byte at a place in bold and blue, and plain after it
abbrev pub with_bold_byte : List ℕ → Option (ℕ × ℕ) → List ℕ
with_bold_byte line None = line
with_bold_byte line (Some found) =
    take found.1 line ++ (style_sequence (codes "1;34")
    ++ (found.0 ∷ (style_sequence (codes "0") ++ drop (found.1 + 1) line)))

-- the match to show of this bracket, if the line has two bytes or more and reaches its place
abbrev pub match_to_show : List ℕ → Option (ℕ × ℕ) → Option (ℕ × ℕ)
match_to_show line None = None
match_to_show line (Some bracket) =
    if nat_le 2 (length line) && nat_lt bracket.1 (length line)
    then option_map (λ place. (partner bracket.0, place)) (match_place line bracket.1 bracket.0)
    else None

-- a line with its bracket's match in bold and blue, which takes memory; other texts as they are
abbrev pub part_with_match : Option (ℕ × ℕ) → DisplayPart → List ℕ → Reply (List ℕ)
part_with_match bracket (OfLine place) text = record {
  answer = Some (with_bold_byte text (match_to_show text bracket));
  takes = is_some (match_to_show text bracket);
}
part_with_match bracket part text = gives_at_once text

-- the bracket kept for the next drawing: none for the last drawing of a line
abbrev pub kept_bracket : List ℕ → ℕ → CmdKind → Option (ℕ × ℕ)
kept_bracket line pos ForcedRefresh = None
kept_bracket line pos kind = bracket_to_match line pos
