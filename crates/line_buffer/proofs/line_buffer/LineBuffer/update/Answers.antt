use Rattle.std.proofs.Common.{◌≡◌, refl, sym, ap, subst, ◌∙◌, inr, IsCharBoundary}
use Rattle.std.specs.List.{insert_slice}
use Rattle.std.proofs.lemmas.List.{append-nil}
use Rattle.std.proofs.lemmas.Str.{IsCharBoundary-start}
use Rattle.line_buffer.specs.Event.{InsertStr}
use Rattle.line_buffer.proofs.LeftLemmas.{edits_refused, stopped_first, stopped_after_one, carried_deletion_of_all}
use Rattle.line_buffer.proofs.ReplayLemmas.{refused_as}
use Rattle.line_buffer.proofs.line_buffer.LineBuffer.update.Goals as goal

pub insert_str-requires-clause-cursor : goal.insert_str-requires-clause-cursor
insert_str-requires-clause-cursor g c =
    subst (λ l. IsCharBoundary (insert_slice l.text 0 c.kept-kept.result.now) l.place) (sym c.in_ok-delete_all.ensures.line)
    (subst (λ t. IsCharBoundary t 0) (sym (append-nil c.kept-kept.result.now)) (IsCharBoundary-start _ c.kept-kept.ensures.utf8))

pub set_pos-requires : goal.set_pos-requires
set_pos-requires g c =
    let same : c.insert_str.new.self.text ≡ c.kept-kept.result.now =
    ap (λ l. l.text) c.in_ok-insert_str.ensures.edits.line ∙ ap (λ l. insert_slice l.text 0 c.kept-kept.result.now) c.in_ok-delete_all.ensures.line
    ∙ append-nil c.kept-kept.result.now in
    subst (λ t. IsCharBoundary t c.min.result) (sym same) (subst (IsCharBoundary c.kept-kept.result.now) (sym c.min.ensures) (c.kept-kept.ensures.cursor c.args.pos c.requires))

pub returns-in_err-delete_all : goal.returns-in_err-delete_all
returns-in_err-delete_all g c =
    edits_refused _ _ c.from_residual.ensures.1 (stopped_first _ _ _ _ _ _ _ _ _ refl tt (inr c.in_err-delete_all.ensures.refused) c.in_err-delete_all.ensures.kept)

pub returns-in_err-insert_str : goal.returns-in_err-insert_str
returns-in_err-insert_str g c =
    edits_refused _ _ c.from_residual-in_err-insert_str.ensures.1 (stopped_after_one _ c.in_ok-delete_all.ensures.told c.in_ok-delete_all.ensures.replays
    (c.in_ok-delete_all.ensures.line ∙ sym (carried_deletion_of_all c.args.self.now c.pos-place.ensures.boundary.0))
    (stopped_first _ _ _ _ _ _ _ _ _ refl tt (refused_as g.C.DeleteListener.refuses (ap (InsertStr 0) c.kept-kept.ensures.value) c.in_err-insert_str.ensures.edits.refused) c.in_err-insert_str.ensures.edits.kept))
