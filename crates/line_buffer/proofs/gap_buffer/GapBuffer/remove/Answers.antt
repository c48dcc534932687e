use Rattle.std.proofs.Common.{◌≡◌, ◌-◌, ◌≤◌, ◌++◌, [], length, drop, string_bytes, ap, ◌∙◌, subst, arith}
use Rattle.std.specs.List.{replace_range}
use Rattle.line_buffer.specs.declared.types.Direction.TheVariants.{Forward}
use Rattle.line_buffer.specs.Event.{deletion, line_after_event}
use Rattle.line_buffer.proofs.GapLemmas.{remove_at_seam, swaps_deletion, gapped, gap_removed}
use Rattle.line_buffer.proofs.gap_buffer.GapBuffer.remove.Goals as goal

pub returns-clause-replays : goal.returns-clause-replays
returns-clause-replays g c =
    let before = string_bytes c.self.inside.before in
    let after = c.self.inside.after.now in
    let rest = c.range_from-self-inside.result.now in
    swaps_deletion _ _ _ _ c.requires.order c.gap-at.ensures.boundary c.requires.end
    (subst (λ v. c.gap-at.result ≡ v.1 → v.1 ≤ c.args.upto → before ++ rest ≡ replace_range v.0.text v.1 c.args.upto []) c.self.view_is
    (λ is le. ap (λ t. before ++ t) (c.range_from-self-inside.ensures.value ∙ ap (λ n. drop (c.args.upto - n) after) is) ∙ remove_at_seam before after c.args.upto le)
    c.gap-at.ensures.value c.requires.order)

pub returns-clause-value : goal.returns-clause-value
returns-clause-value g c =
    let before = string_bytes c.self.inside.before in
    let after = c.self.inside.after.now in
    let rest = c.range_from-self-inside.result.now in
    subst
    (λ v. c.gap-at.result ≡ v.1 → v.1 ≤ c.args.upto → c.args.upto ≤ length v.0.text
    → gapped (before ++ rest) (c.self.inside.pos - c.min.result) c.self.inside.can_growth c.self.inside.limit (length before)
    ≡ (line_after_event (deletion v.1 c.args.upto Forward v.0.text) v.0, v.1))
    c.self.view_is
    (λ is le within. gap_removed before after rest c.args.upto c.self.inside.pos _ c.self.inside.limit c.self.inside.can_growth le within
    (c.range_from-self-inside.ensures.value ∙ ap (λ n. drop (c.args.upto - n) after) is) (omega (arith, c.min.ensures, c.saturating_sub.ensures, is)))
    c.gap-at.ensures.value c.requires.order c.requires.end.0
