-- One more key brought into its normal form.
use Rattle.std.proofs.Common.{◌≡◌, ℕ, zero, suc, ◌+◌, ◌<◌, List, [], ◌∷◌, ◌++◌, length, map, take, drop, get_or, set, refl, ap, arith, length-append, length-drop, length-take}
use Rattle.std.proofs.lemmas.List.{length-map}
use Rattle.std.proofs.lemmas.List.Edits.{map_over_more}
use Rattle.line_keys.specs.declared.key.KeyEvent.{KeyEvent}
use Rattle.line_keys.specs.Keys.{normal}

read_again : {X : Type 0} (ys : List X) (i : ℕ) (d e : X) → i < length ys → get_or ys i d ≡ get_or ys i e
read_again [] i d e h = absurd (omega arith)
read_again (y ∷ ys) zero d e h = refl
read_again (y ∷ ys) (suc i) d e h = read_again ys i d e (omega arith)

within : (f : KeyEvent → KeyEvent) (xs ys : List KeyEvent) (i : ℕ) → i < length ys → ys ≡ map f (take i xs) ++ drop i xs → i < length xs
within f xs ys i h e = omega (arith, simp (length-append, length-map, length-take, length-drop) at (ap length e))

pub one_more_normal : (xs ys : List KeyEvent) (i : ℕ) (d r : KeyEvent) → i < length ys → ys ≡ map normal (take i xs) ++ drop i xs
    → r ≡ normal (get_or ys i d) → set ys i r ≡ map normal (take (i + 1) xs) ++ drop (i + 1) xs
one_more_normal xs ys i d r h e made =
    rw made (map_over_more normal xs ys i (get_or ys i d) (within normal xs ys i h e) e (read_again ys i d (get_or ys i d) h))
