use Rattle.std.proofs.Common.{◌≤◌, ◌+◌, ◌≡◌, sym, ap, ◌∙◌, subst, take, drop, length, chars, IsUtf8, IsCharBoundary, slice_range}
use Rattle.std.specs.List.{list_all}
use Rattle.std.proofs.lemmas.Str.{IsCharBoundary-start}
use Rattle.line_buffer.specs.Width.{is_flag_letter, columns_of}
use Rattle.line_buffer.proofs.PartingLemmas.{first}
use Rattle.line_buffer.specs.declared.layout.GraphemeClusterMode.{GraphemeClusterMode}
use Rattle.line_buffer.proofs.ColumnLemmas.{front_of, parts_text_init, parts_text_turn, parts_text_before, parts_text_smaller, parts_text_boundary, parts_text_balance, alike}
use Rattle.line_buffer.proofs.columns.last_part.Goals as goal

pub loop-c-init : goal.loop-c-init
loop-c-init c =
    let later = c.range_from-rest.ensures.value in
    parts_text_init c.args.text.now c.chars-front.result.rest.now c.args.end _ _ (subst IsUtf8 (sym c.chars-front.ensures.rest) c.range.utf8)
    (c.chars-front.ensures.rest ∙ front_of c.args.text.now c.range.result.now c.args.end c.range.ensures.value)
    (c.first_char-next.ensures ∙ ap (λ t. first (chars t)) later)
    (c.are_flag_letters-flags.ensures ∙ ap (λ t. list_all is_flag_letter (chars t)) later)

pub returns-then-parts-clause-before : goal.returns-then-parts-clause-before
returns-then-parts-clause-before c =
    subst (λ t. length t ≤ c.args.end) (sym c.as_str.ensures)
    (parts_text_before c.args.text.now c.args.end _ _ _ _ _ c.in-Some.c c.parts.ensures.scalar c.loop-c.invariant c.in-Some.ensures.steps)

pub returns-then-parts-clause-boundary : goal.returns-then-parts-clause-boundary
returns-then-parts-clause-boundary c =
    subst (λ t. IsCharBoundary c.args.text.now (length t)) (sym c.as_str.ensures)
    (parts_text_boundary c.args.text.now c.args.end _ _ _ _ _ c.in-Some.c c.parts.ensures.scalar c.loop-c.invariant c.in-Some.ensures.steps c.utf8.text c.requires)

pub returns-then-parts-clause-balance : goal.returns-then-parts-clause-balance
returns-then-parts-clause-balance c =
    subst (λ t. (mode : GraphemeClusterMode) → columns_of mode (chars c.args.text.now) + columns_of mode (chars (slice_range c.args.text.now (length t) c.args.end)) ≡ columns_of mode (chars (take c.args.end c.args.text.now)) + columns_of mode (chars (drop (length t) c.args.text.now)))
    (sym c.as_str.ensures)
    (parts_text_balance c.args.text.now c.args.end _ _ _ _ _ c.in-Some.c c.parts.ensures.scalar c.loop-c.invariant c.in-Some.ensures.steps c.requires c.utf8.text
    (alike c.args.text.now c.args.end _ _ _ _ _ c.in-Some.c c.parts.ensures.scalar c.loop-c.invariant c.in-Some.ensures.steps (sym c.if-parts.ensures.value)))

pub loop-c-smaller : goal.loop-c-smaller
loop-c-smaller c = parts_text_smaller c.args.text.now c.args.end _ _ _ _ _ c.in-Some.c c.parts.ensures.scalar c.loop-c.invariant c.in-Some.ensures.steps

pub loop-c-preserved : goal.loop-c-preserved
loop-c-preserved c = parts_text_turn c.args.text.now c.args.end _ _ _ _ _ c.in-Some.c c.parts.ensures.scalar c.loop-c.invariant c.in-Some.ensures.steps c.is_flag_letter-flags.result c.is_flag_letter-flags.ensures

pub returns-clause-boundary : goal.returns-clause-boundary
returns-clause-boundary c = IsCharBoundary-start c.args.text.now c.utf8.text
