use Rattle.std.proofs.lemmas.List.Edits.{length-between}
use Rattle.std.specs.List.{replace_range}
use Rattle.std.proofs.Common.{length, sym, ap, subst, ◌∙◌, refl, arith, IsCharBoundary, slice_range}
use Rattle.line_buffer.specs.Line.{with_replacement}
use Rattle.line_buffer.specs.Event.{replacement}
use Rattle.line_buffer.proofs.CutLemmas.{before_replaced}
use Rattle.line_buffer.proofs.LeftLemmas.{edits_refused, stopped_first, stopped_for_memory, stopped_after_one, carried_replacement}
use Rattle.line_buffer.proofs.ReplayLemmas.{refused_as}
use Rattle.line_buffer.proofs.TranspositionLemmas.{behind_both}
use Rattle.line_buffer.proofs.line_buffer.LineBuffer.swap.Goals as goal

pub replace-requires-2-clause-start : goal.replace-requires-2-clause-start
replace-requires-2-clause-start g c =
    subst (λ l. IsCharBoundary l.text c.args.first.start) (sym c.in_ok-replace.ensures.line)
    (before_replaced _ _ _ _ _ (omega arith) c.as_str-text.ensures.utf8 c.as_str.utf8 c.requires.first_start c.requires.second_start c.requires.second_end)

pub replace-requires-2-clause-end : goal.replace-requires-2-clause-end
replace-requires-2-clause-end g c =
    subst (λ l. IsCharBoundary l.text c.args.first.end) (sym c.in_ok-replace.ensures.line)
    (before_replaced _ _ _ _ _ c.requires.apart c.as_str-text.ensures.utf8 c.as_str.utf8 c.requires.first_end c.requires.second_start c.requires.second_end)

pub set_pos-requires : goal.set_pos-requires
set_pos-requires g c =
    subst (λ l. IsCharBoundary l.text c.args.second.end) (sym (c.in_ok-replace-2.ensures.line))
    (subst (λ l. IsCharBoundary (replace_range l.text c.args.first.start c.args.first.end c.as_str-2.result.now) c.args.second.end) (sym c.in_ok-replace.ensures.line)
    (behind_both c.args.self.now.text c.as_str.result.now c.as_str-2.result.now _ _ _ _ c.as_str-text.ensures.utf8 c.requires.second_end c.requires.first c.requires.apart c.requires.second
    (ap length (c.as_str.ensures.value ∙ c.in_ok-earlier.ensures) ∙ length-between _ _ _ c.requires.first_end.0)
    (ap length (c.as_str-2.ensures.value ∙ c.in_ok-later.ensures) ∙ length-between _ _ _ c.requires.second_end.0)))

pub returns-in_err-earlier : goal.returns-in_err-earlier
returns-in_err-earlier g c = edits_refused _ _ c.from_residual.ensures.1 (stopped_for_memory _ _ _ _ _ _ _ _ refl tt refl)

pub returns-in_err-later : goal.returns-in_err-later
returns-in_err-later g c = edits_refused _ _ c.from_residual-in_err-later.ensures.1 (stopped_for_memory _ _ _ _ _ _ _ _ refl tt refl)

pub returns-in_err-replace : goal.returns-in_err-replace
returns-in_err-replace g c =
    edits_refused _ _ c.from_residual-in_err-replace.ensures.1 (stopped_first _ _ _ _ _ _ _ _ _ refl tt
    (refused_as g.C.DeleteListener.refuses (ap (λ x. replacement c.args.second.start c.args.second.end x c.args.self.now.text) (c.as_str.ensures.value ∙ c.in_ok-earlier.ensures)) c.in_err-replace.ensures.refused) c.in_err-replace.ensures.kept)

pub returns-in_err-replace-2 : goal.returns-in_err-replace-2
returns-in_err-replace-2 g c =
    let l = c.args.self.now in
    let e = c.as_str.ensures.value ∙ c.in_ok-earlier.ensures in
    edits_refused _ _ c.from_residual-in_err-replace-2.ensures.1 (stopped_after_one _ (rw e at c.in_ok-replace.ensures.told) (rw e at c.in_ok-replace.ensures.replays)
    (c.in_ok-replace.ensures.line ∙ ap (λ x. with_replacement c.args.second.start c.args.second.end x l) e
    ∙ sym (carried_replacement l c.args.second.start c.args.second.end (slice_range l.text c.args.first.start c.args.first.end) c.requires.second c.requires.second_end.0))
    (stopped_first _ _ _ _ _ _ _ _ _ refl tt
    (refused_as g.C.DeleteListener.refuses (ap (λ x. replacement c.args.first.start c.args.first.end x c.replace.new.self.text) (c.as_str-2.ensures.value ∙ c.in_ok-later.ensures)
    ∙ ap (λ x. replacement c.args.first.start c.args.first.end (slice_range l.text c.args.second.start c.args.second.end) x)
    (ap (λ l. l.text) c.in_ok-replace.ensures.line ∙ ap (replace_range l.text c.args.second.start c.args.second.end) e)) c.in_err-replace-2.ensures.refused)
    c.in_err-replace-2.ensures.kept))
