use Rattle.std.proofs.Common.{◌≡◌, ◌+◌, ◌++◌, length, string_bytes, ap, ◌∙◌, subst, arith, rules}
use Rattle.std.specs.List.{insert_slice}
use Rattle.line_buffer.specs.Event.{line_after_event, InsertStr}
use Rattle.line_buffer.proofs.GapLemmas.{insert_at_seam, gapped, gap_inserted, place_moved, place_kept}
use Rattle.line_buffer.proofs.ReplayLemmas.{swaps_insertion}
use Rattle.line_buffer.proofs.gap_buffer.GapBuffer.insert.Goals as goal

pub returns-then-at-self-clause-replays : goal.returns-then-at-self-clause-replays
returns-then-at-self-clause-replays g c =
    let done : string_bytes c.push_str.new.self ≡ string_bytes c.self.inside.before ++ c.args.text.now = search rules in
    swaps_insertion _ _ _ _ c.gap-at.ensures.boundary c.utf8.text
    (subst (λ v. string_bytes c.push_str.new.self ++ c.self.inside.after.now ≡ insert_slice v.0.text v.1 c.args.text.now) c.self.view_is
    (ap (λ t. t ++ c.self.inside.after.now) done ∙ insert_at_seam (string_bytes c.self.inside.before) c.self.inside.after.now c.args.text.now))

pub returns-else-at-self-clause-replays : goal.returns-else-at-self-clause-replays
returns-else-at-self-clause-replays g c =
    let done : string_bytes c.push_str.new.self ≡ string_bytes c.self.inside.before ++ c.args.text.now = search rules in
    swaps_insertion _ _ _ _ c.gap-at.ensures.boundary c.utf8.text
    (subst (λ v. string_bytes c.push_str.new.self ++ c.self.inside.after.now ≡ insert_slice v.0.text v.1 c.args.text.now) c.self.view_is
    (ap (λ t. t ++ c.self.inside.after.now) done ∙ insert_at_seam (string_bytes c.self.inside.before) c.self.inside.after.now c.args.text.now))

pub returns-then-at-self-clause-value : goal.returns-then-at-self-clause-value
returns-then-at-self-clause-value g c =
    let before = string_bytes c.self.inside.before in
    let text = c.args.text.now in
    let done : string_bytes c.push_str.new.self ≡ before ++ text = search rules in
    subst
    (λ v. c.gap-at.result ≡ v.1
    → gapped (string_bytes c.push_str.new.self ++ c.self.inside.after.now) (c.self.inside.pos + length text) c.self.inside.can_growth c.self.inside.limit (length (string_bytes c.push_str.new.self))
    ≡ (line_after_event (InsertStr v.1 text) v.0, v.1 + length text))
    c.self.view_is
    (λ at. gap_inserted before c.self.inside.after.now text _ c.self.inside.pos _ c.self.inside.limit c.self.inside.can_growth done (place_moved (length before) c.self.inside.pos text (omega arith)))
    c.gap-at.ensures.value

pub returns-else-at-self-clause-value : goal.returns-else-at-self-clause-value
returns-else-at-self-clause-value g c =
    let before = string_bytes c.self.inside.before in
    let text = c.args.text.now in
    let done : string_bytes c.push_str.new.self ≡ before ++ text = search rules in
    subst
    (λ v. c.gap-at.result ≡ v.1
    → gapped (string_bytes c.push_str.new.self ++ c.self.inside.after.now) c.self.inside.pos c.self.inside.can_growth c.self.inside.limit (length (string_bytes c.push_str.new.self))
    ≡ (line_after_event (InsertStr v.1 text) v.0, v.1 + length text))
    c.self.view_is
    (λ at. gap_inserted before c.self.inside.after.now text _ c.self.inside.pos _ c.self.inside.limit c.self.inside.can_growth done (place_kept (length before) c.self.inside.pos text (omega arith)))
    c.gap-at.ensures.value
