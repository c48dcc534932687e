use Rattle.std.proofs.Common.{rules, sym, subst, ◌≡◌, ◌+◌, ◌∙◌, ap, ◌++◌, take, length, List, ℕ, IsUtf8, IsCharBoundary}
use Rattle.line_buffer.specs.Line.{Line}
use Rattle.line_record.proofs.GapLemmas.{Seam, seam_exchanged, seam_moved, text_around_gap}
use Rattle.line_record.proofs.gap_line.GapLineEditedLine.exchange.Goals as goal
use Rattle.line_buffer.specs.Event.{StandsAt}

pub invariant_of-self-in_err-reserve : goal.invariant_of-self-in_err-reserve
invariant_of-self-in_err-reserve c =
    let text = text_around_gap c.self.inside.before.items c.self.inside.after.items in
    let same = seam_moved c.in-Some.upto text c.reserve.new.self.items c.move_gap.new.after.items (c.in_err-reserve.ensures.items ∙ c.in_ok-move_gap.ensures.before) c.in_ok-move_gap.ensures.after in
    subst (λ (t : List ℕ). IsUtf8 t × IsCharBoundary t c.self.inside.pos) (sym same) c.self.invariant

pub invariant_of-self-2 : goal.invariant_of-self-2
invariant_of-self-2 c =
    let text = text_around_gap c.self.inside.before.items c.self.inside.after.items in
    let upto : c.in-Some.upto ≡ c.args.at + length c.args.from.now = search rules in
    let kept : c.truncate.new.self.items ≡ take c.args.at (take c.in-Some.upto text) =
    c.truncate.ensures.items ∙ ap (take c.args.at) (c.in_ok-reserve.ensures.items ∙ c.in_ok-move_gap.ensures.before) in
    let front : c.extend_from_slice.new.self.items ≡ take c.args.at (take c.in-Some.upto text) ++ c.args.to.now = search rules in
    let stands : StandsAt c.args.at c.args.from.now c.args.to.now text = subst (λ (l : Line). StandsAt c.args.at c.args.from.now c.args.to.now l.text) (sym c.self.view_is) c.requires in
    let long : length c.extend_from_slice.new.self.items ≡ c.len-self-inside.result = search rules in
    let s : Seam c.extend_from_slice.new.self.items c.move_gap.new.after.items =
    seam_exchanged c.args.at c.in-Some.upto c.args.from.now c.args.to.now text c.extend_from_slice.new.self.items c.move_gap.new.after.items
    upto front c.in_ok-move_gap.ensures.after stands c.self.invariant.0 in
    (s.utf8, subst (IsCharBoundary (text_around_gap c.extend_from_slice.new.self.items c.move_gap.new.after.items)) long s.place)
