use Rattle.std.proofs.Common.{◌==◌, ◌||◌, slice_get, sym, ap, ◌∙◌}
use Rattle.std.specs.Prelude.{chars}
use Rattle.line_editor.specs.Characters.{stands_apart}
use Rattle.line_editor.proofs.CharacterRanges.{begins_with_none, begins_with, is_newline, no_newline}
use Rattle.line_editor.proofs.characters.begins_apart.Goals as goal

pub returns-in-None : goal.returns-in-None
returns-in-None c = begins_with_none c.args.text.now c.args.rest.now c.utf8.text c.utf8.rest (c.in-None.ensures.steps.2 ∙ ap (λ xs. slice_get (chars xs) 0) c.chars.ensures.rest)

pub returns-then-first-eq10 : goal.returns-then-first-eq10
returns-then-first-eq10 c =
    begins_with c.args.text.now c.args.rest.now c.in-Some.first (c.in-Some.first == 0x0A) c.utf8.text c.utf8.rest (c.in-Some.ensures.steps.2 ∙ ap (λ xs. slice_get (chars xs) 0) c.chars.ensures.rest)
    (let is = is_newline c.in-Some.first c.if-first-eq10.true in sym is ∙ ap (λ b. b || stands_apart c.args.text.now c.in-Some.first) is)

pub returns-else-first-eq10 : goal.returns-else-first-eq10
returns-else-first-eq10 c =
    begins_with c.args.text.now c.args.rest.now c.in-Some.first c.stands_apart.result c.utf8.text c.utf8.rest (c.in-Some.ensures.steps.2 ∙ ap (λ xs. slice_get (chars xs) 0) c.chars.ensures.rest)
    (c.stands_apart.ensures ∙ ap (λ b. b || stands_apart c.args.text.now c.in-Some.first) (no_newline c.in-Some.first c.if-first-eq10.false))
