-- The laws of the edits.
use Rattle.std.proofs.Common.{◌≡◌, Bool, true, [], ◌∷◌, ◌++◌, Option, None, Some, refl, sym, ap, ◌∙◌, IsTrue, is_some, option_map, option_to_list, if◌then◌else◌}
use Rattle.line_buffer.specs.declared.range.TextSpan.{TextSpan}
use Rattle.line_buffer.specs.declared.types.Movement.{Movement, TheVariants.WholeLine, TheVariants.BeginningOfLine, TheVariants.EndOfLine}
use Rattle.line_buffer.specs.Event.ChangeEvent.{StartKilling, StopKilling}
use Rattle.line_buffer.specs.Laws.{leaves_rows_whole, deleted_texts, KillsWhatIsCopied}
use Rattle.line_buffer.specs.Line.{Line}
use Rattle.line_buffer.specs.Range.{range_of, copied_range, span_text, deletion_events, goes_by_clusters}

same_range : (movement : Movement) (l : Line) → IsTrue (leaves_rows_whole movement) → copied_range movement l ≡ range_of movement l
same_range WholeLine l h = cc
same_range BeginningOfLine l h = cc
same_range EndOfLine l h = cc
same_range _ l h = refl

still_some : (o : Option TextSpan) (l : Line) → is_some o ≡ is_some (option_map (λ span. span_text span l) o)
still_some None l = refl
still_some (Some span) l = refl

told_text : (o : Option TextSpan) (plain : Bool) (l : Line)
    → deleted_texts (if plain then deletion_events o l else StartKilling ∷ (deletion_events o l ++ (StopKilling ∷ []))) ≡ option_to_list (option_map (λ span. span_text span l) o)
told_text None true l = refl
told_text (Some span) true l = refl
told_text _ _ l = refl

pub kills_what_is_copied : KillsWhatIsCopied
kills_what_is_copied movement l h =
    let same = sym (same_range movement l h) in (
      still_some (range_of movement l) l ∙ ap (λ o. is_some (option_map (λ span. span_text span l) o)) same,
      told_text (range_of movement l) (goes_by_clusters movement) l ∙ ap (λ o. option_to_list (option_map (λ span. span_text span l) o)) same,
    )
