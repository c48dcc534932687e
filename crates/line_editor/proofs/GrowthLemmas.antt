-- Whether a line may grow stays, whatever is done to it.
use Rattle.std.proofs.Common.{◌≡◌, ℕ, zero, suc, ◌==◌, Bool, List, [], ◌∷◌, length, Option, Some, None, refl, ◌∙◌, if◌then◌else◌}
use Rattle.std.specs.Prelude.{encode_utf8}
use Rattle.std.specs.List.{repeat}
use Rattle.line_buffer.specs.Event.{ChangeEvent, line_after_event, line_after_events}
use Rattle.line_buffer.specs.Insertions.{Insertion, insertion_by, insertion_of, insert, no_insertion, yank, has_room}
use Rattle.line_buffer.specs.LetterCase.{recase}
use Rattle.line_buffer.specs.Line.{Line}
use Rattle.line_buffer.specs.Range.{deletion_line}
use Rattle.line_buffer.specs.declared.range.TextSpan.{TextSpan}
use Rattle.line_buffer.specs.declared.types.WordAction.{WordAction}
use Rattle.line_record.specs.Held.{HeldItem, line_back, line_before_item, HeldItem.Opened, HeldItem.Stepped}
use Rattle.line_edits.specs.Edits.{by}
use Rattle.line_edits.proofs.StepLemmas.{overwrite_steps_to}
use Rattle.line_edits.specs.WriteSteps.{Written}
use Rattle.std.proofs.lemmas.Bool.{cond_both}

pub either_line : (g b : Bool) (l m : Line) → l.growth ≡ g → m.growth ≡ g → (if b then l else m).growth ≡ g
either_line g b l m h k = cond_both b l m (λ x. x.growth ≡ g) (λ t. h) (λ t. k)

either_put : (g b : Bool) (x y : Insertion) → x.line.growth ≡ g → y.line.growth ≡ g → (if b then x else y).line.growth ≡ g
either_put g b x y h k = cond_both b x y (λ i. i.line.growth ≡ g) (λ t. h) (λ t. k)

put_grows : (told : ChangeEvent) (added : List ℕ) (l : Line) → (insertion_by told added l).line.growth ≡ l.growth
put_grows told added l = either_put l.growth (has_room (length added) l) _ _ refl refl

of_grows : (text : List ℕ) (n : ℕ) (l : Line) → (insertion_of text n l).line.growth ≡ l.growth
of_grows text n l = put_grows _ (repeat n text) l

pub insert_grows : (c n : ℕ) (l : Line) → (insert c n l).line.growth ≡ l.growth
insert_grows c n l = either_put l.growth (n == 1) _ _ (put_grows _ (encode_utf8 c) l) (of_grows (encode_utf8 c) n l)

pub yank_grows : (text : List ℕ) (n : ℕ) (l : Line) → (yank text n l).line.growth ≡ l.growth
yank_grows text n l = either_put l.growth (length text == 0) (no_insertion l) (insertion_of text n l) refl (of_grows text n l)

pub deletion_grows : (o : Option TextSpan) (l : Line) → (deletion_line o l).growth ≡ l.growth
deletion_grows None l = refl
deletion_grows (Some span) l = refl

pub carried_grows : (events : List ChangeEvent) (l : Line) → (line_after_events events l).growth ≡ l.growth
unfolding line_after_events
carried_grows [] l = refl
carried_grows (e ∷ events) l = carried_grows events (line_after_event e l)

pub recase_grows : (action : WordAction) (o : Option (ℕ × ℕ)) (l : Line) → (recase action o l).line.growth ≡ l.growth
recase_grows action None l = refl
recase_grows action (Some word) l = refl

pub over_grows : (c : ℕ) (o : Option ℕ) (w : Written) → (by (overwrite_steps_to c o) w).line.growth ≡ w.line.growth
over_grows c None w = refl
over_grows c (Some end) w = refl

undone_grows : (h : HeldItem) (l : Line) → (line_before_item h l).growth ≡ l.growth
undone_grows (Opened text) l = refl
undone_grows (Stepped text place newest joinable) l = refl

pub back_grows : (n : ℕ) (held : List HeldItem) (l : Line) → (line_back n held l).growth ≡ l.growth
back_grows zero held l = refl
back_grows (suc n) [] l = refl
back_grows (suc n) (h ∷ held) l = back_grows n held (line_before_item h l) ∙ undone_grows h l
