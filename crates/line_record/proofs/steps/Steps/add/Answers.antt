use Rattle.std.proofs.Common.{take, ap, ◌∙◌, sym, ◌≡◌, ◌++◌, ◌∷◌, [], false, Some, ℕ, List, option_map}
use Rattle.line_record.specs.Items.Item.{Lone}
use Rattle.line_record.specs.Change.{place_of, old_text_of, new_text_of}
use Rattle.line_record.specs.Log.{edit_from, change_told, event_of, items_in}
use Rattle.line_record.specs.declared.steps.Step.{Step}
use Rattle.line_record.proofs.StepsLemmas.{lone_pushed, StepsAre}
use Rattle.line_record.proofs.SpanLemmas.{place_is}
use Rattle.line_record.proofs.steps.Steps.add.Goals as goal

pushed : (c : goal.In_ok-push) → StepsAre c.record.new.self c.push.new.self.items
    (take c.args.n (items_in c.self.inside.log c.self.inside.steps.items) ++ (Lone (edit_from c.kind.result c.at.result c.removed.result.now c.added-added.result.now) ∷ []))
pushed c =
    let is = place_is (λ (s : Step). s.first) c.self.inside.log _ c.self.inside.steps.items c.args.n _ _ c.place-first.ensures (c.deref.ensures.value ∙ c.reserve.ensures.items) c.len.ensures in
    let s : Step = record { closed = false; first = c.place-first.result; last = c.len-2.result } in
    lone_pushed c.self.inside.log c.record.new.self c.self.inside.steps.items c.push.new.self.items c.args.n _ c.len-2.result _ c.self.invariant is c.in_ok-record.ensures.ok c.len-2.ensures
    (c.in_ok-push.ensures.items ∙ ap (λ ss. ss ++ (s ∷ [])) (c.truncate.ensures.items ∙ ap (take c.args.n) c.reserve.ensures.items))

pub invariant_of-self-2 : goal.invariant_of-self-2
invariant_of-self-2 c = (pushed c).are

pub returns-clause-ok : goal.returns-clause-ok
returns-clause-ok c =
    let e = event_of c.args.report in
    let same : edit_from c.kind.result c.at.result c.removed.result.now c.added-added.result.now ≡ edit_from c.kind.result (place_of (change_told e)) (old_text_of (change_told e)) (new_text_of (change_told e)) =
    ap (λ (k : ℕ). edit_from c.kind.result k c.removed.result.now c.added-added.result.now) c.at.ensures
    ∙ ap (λ (t : List ℕ). edit_from c.kind.result (place_of (change_told e)) t c.added-added.result.now) c.removed.ensures
    ∙ ap (λ (t : List ℕ). edit_from c.kind.result (place_of (change_told e)) (old_text_of (change_told e)) t) c.added-added.ensures in
    ap (option_map (λ d. take c.args.n c.args.self.now ++ (Lone d ∷ []))) (c.kind.ensures c.requires)
    ∙ sym (ap Some ((pushed c).items ∙ ap (λ xs. take c.args.n xs ++ (Lone (edit_from c.kind.result c.at.result c.removed.result.now c.added-added.result.now) ∷ [])) c.self.view_is
    ∙ ap (λ d. take c.args.n c.args.self.now ++ (Lone d ∷ [])) same))
