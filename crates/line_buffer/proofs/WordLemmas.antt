-- The edges of words in a list of clusters, taken apart from its front and from its back.
use Rattle.std.proofs.Common.{◌≡◌, ℕ, suc, ◌-◌, ◌<◌, List, [], ◌∷◌, ◌++◌, Option, None, Some, sym, ap, ◌∙◌, arith, slice_get, option_to_list}
use Rattle.std.proofs.lemmas.List.{append-nil, append_assoc}
use Rattle.line_buffer.specs.declared.types.At.{At}
use Rattle.line_buffer.specs.declared.words.ClusterKind.{ClusterKind}
use Rattle.line_buffer.specs.Words.{edges_of, edge_between}

-- one cluster more at the end
pub edges_of-snoc : (at : At) (xs : List (ℕ × ClusterKind)) (x y : ℕ × ClusterKind) → edges_of at (xs ++ x ∷ (y ∷ [])) ≡ edges_of at (xs ++ x ∷ []) ++ option_to_list (edge_between at x y)
edges_of-snoc at [] x y = append-nil (option_to_list (edge_between at x y))
edges_of-snoc at (w ∷ []) x y =
    ap (λ zs. option_to_list (edge_between at w x) ++ zs) (edges_of-snoc at [] x y)
    ∙ sym (append_assoc (option_to_list (edge_between at w x)) (edges_of at (x ∷ [])) (option_to_list (edge_between at x y)))
edges_of-snoc at (w ∷ (v ∷ xs)) x y =
    ap (λ zs. option_to_list (edge_between at w v) ++ zs) (edges_of-snoc at (v ∷ xs) x y)
    ∙ sym (append_assoc (option_to_list (edge_between at w v)) (edges_of at ((v ∷ xs) ++ x ∷ [])) (option_to_list (edge_between at x y)))

-- a turn of a search for the n-th place: what was to be found in `all` is found at its first place, or in the rest
module _ (v : Option ℕ) (all rest : List ℕ) (o : Option ℕ) (split : all ≡ option_to_list o ++ rest) (missing : ℕ) (before : v ≡ slice_get all (missing - 1)) where
  before_split : v ≡ slice_get (option_to_list o ++ rest) (missing - 1)
  before_split = before ∙ ap (λ xs. slice_get xs (missing - 1)) split

  pub turn_missed : o ≡ None → v ≡ slice_get rest (missing - 1)
  turn_missed e = before_split ∙ ap (λ t. slice_get (option_to_list t ++ rest) (missing - 1)) e

  pub turn_found : (place : ℕ) → o ≡ Some place → missing - 1 ≡ 0 → Some place ≡ v
  turn_found place e z = sym (before_split ∙ ap (λ t. slice_get (option_to_list t ++ rest) (missing - 1)) e ∙ ap (slice_get (place ∷ rest)) z)

  pub turn_passed : (place : ℕ) → o ≡ Some place → 0 < missing - 1 → v ≡ slice_get rest (missing - 1 - 1)
  turn_passed place e z =
      let next : missing - 1 ≡ suc (missing - 1 - 1) = omega (arith, z) in
      before_split ∙ ap (λ t. slice_get (option_to_list t ++ rest) (missing - 1)) e ∙ ap (slice_get (place ∷ rest)) next
