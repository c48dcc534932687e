use Rattle.std.proofs.Common.{rules, ◌≡◌, ◌+◌, ℕ, List, [], ◌∷◌, ◌++◌, length, map, take, sym, subst}
use Rattle.std.specs.Prelude.{string_bytes}
use Rattle.keyline_call.specs.Slots.{AreLaidOut}
use Rattle.keyline_call.proofs.SlotLemmas.{laid_more}
use Rattle.keyline_call.proofs.ring.slots_of.Goals as goal

pub loop-text-preserved : goal.loop-text-preserved
loop-text-preserved c =
    let l = c.loop-text in
    let slots = map string_bytes (take (l.text-index + 1) c.texts-slots.result.now) in
    let all = c.extend_from_slice.new.self.items in
    let texts : all ≡ l.texts.items ++ string_bytes c.text-item.result = search rules in
    let ends : c.push.new.self.items ≡ l.ends.items ++ length all ∷ [] = search rules in
    subst (λ (x : List ℕ). AreLaidOut slots all x) (sym ends)
    (subst (λ (x : List ℕ). AreLaidOut slots x (l.ends.items ++ length x ∷ [])) (sym texts)
    (laid_more string_bytes c.texts-slots.result.now l.text-index c.text-item.result l.texts.items l.ends.items c.loop-text-test.true c.text-item.is l.invariant))
