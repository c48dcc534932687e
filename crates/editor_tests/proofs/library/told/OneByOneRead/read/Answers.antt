-- The first byte of the buffer is the one given, and the others are left.
use Rattle.std.proofs.Common.{◌≡◌, ℕ, ◌<◌, List, [], ◌∷◌, ◌++◌, length, take, slice_set, refl, sym, ap, ◌∙◌, arith}
use Rattle.editor_tests.proofs.library.told.OneByOneRead.read.Goals as goal

first_set : (buf : List ℕ) (x : ℕ) → 0 < length buf → take 1 (slice_set buf 0 x) ≡ x ∷ []
first_set [] x some = absurd (search arith)
first_set (b ∷ buf) x some = refl

given : (all rest buf : List ℕ) (x : ℕ) → 0 < length buf → all ≡ x ∷ rest
    → (all ≡ take 1 (slice_set buf 0 x) ++ rest) × (◌≡◌ {A = ℕ} 1 0 → 0 < length (slice_set buf 0 x) → rest ≡ [])
given all rest buf x some is = (is ∙ ap (λ first. first ++ rest) (sym (first_set buf x some)), λ none room. absurd (search (none, arith)))

pub returns-clause-bytes : goal.returns-clause-bytes
returns-clause-bytes c = given _ _ _ _ (search (arith, c.if-is_empty.ensures)) c.in-Some.ensures.cases.0
