-- The search for the first cluster of a word, and what is told where its letters are changed.
use Rattle.std.proofs.Common.{◌≡◌, ℕ, Bool, true, false, List, [], ◌∷◌, Some, sym, ap, ◌∙◌, cond, find, slice_range}
use Rattle.line_buffer.specs.declared.types.WordAction.{WordAction}
use Rattle.line_buffer.specs.LetterCase.{word_to_edit, word_in_case, recase, edit_word}
use Rattle.line_buffer.specs.Line.{Line}
use Rattle.line_buffer.specs.Event.{replacement}

module _ {X : Type 0} (p : X → Bool) (all old new : List X) (x : X) (found : find p all ≡ find p old) (came : old ≡ x ∷ new) where
  here : (b : Bool) → p x ≡ b → find p all ≡ cond b (Some x) (find p new)
  here b e = found ∙ ap (find p) came ∙ ap (λ b. cond b (Some x) (find p new)) e

  pub found_here : p x ≡ true → find p all ≡ Some x
  found_here e = here true e

  pub found_later : p x ≡ false → find p all ≡ find p new
  found_later e = here false e

-- the event of the change, as the code has the word
pub recase_event : (action : WordAction) (l m : Line) (start end : ℕ) (edited : List ℕ) → word_to_edit l ≡ Some (start, end) → m ≡ l → edited ≡ word_in_case action (slice_range m.text start end)
    → (edit_word action l).events ≡ replacement start end edited m.text ∷ []
recase_event action l m start end edited found same made =
    ap (λ o. (recase action o l).events) found
    ∙ ap (λ (x : Line). replacement start end (word_in_case action (slice_range x.text start end)) x.text ∷ []) (sym same)
    ∙ ap (λ x. replacement start end x m.text ∷ []) (sym made)
