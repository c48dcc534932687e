-- Two parts of a text exchanged, the later one first.
use Rattle.std.proofs.Common.{◌≡◌, ℕ, ◌+◌, ◌-◌, ◌≤◌, List, [], ◌∷◌, ◌++◌, length, take, drop, sym, ap, ◌∙◌, arith, append_assoc, length-append, true, not, nat_lt, ◌==◌, IsUtf8, IsCharBoundary}
use Rattle.std.specs.List.{replace_range}
use Rattle.std.proofs.lemmas.List.{length-take-le, length-drop, drop-append-le}
use Rattle.std.proofs.lemmas.Bool.{and_from}
use Rattle.std.proofs.lemmas.Bool.Decides.{nat_tests}
use Rattle.std.proofs.lemmas.Str.{IsUtf8-drop}
use Rattle.line_buffer.specs.Event.{replacement}
use Rattle.line_buffer.specs.Line.{Line}
use Rattle.line_buffer.specs.Transpositions.{clusters_around, between_clusters, clusters_at, later_first, transposes_chars, transpose_chars}
use Rattle.line_buffer.proofs.CutLemmas.{at_seam}
use Rattle.std.proofs.lemmas.Bool.{cond-true}

-- after the first cluster, with another at hand
pub transposes : (l : Line) (pos : ℕ) → pos ≡ l.place → (pos ≡ 0 → ⊥) → true ≡ nat_lt 1 (clusters_around l) → transposes_chars l ≡ true
transposes l pos at behind two = and_from (not (l.place == 0)) (nat_lt 1 (clusters_around l)) (grind (arith, nat_tests)) (sym two)

-- the event of the exchange, as the code has its parts
pub exchange_event : (l m : Line) (parts : ℕ × ℕ × ℕ) (swapped : List ℕ) → transposes_chars l ≡ true → parts ≡ clusters_at (between_clusters l) → m ≡ l → swapped ≡ later_first parts m.text
    → (transpose_chars l).events ≡ replacement parts.0 parts.2 swapped m.text ∷ []
exchange_event l m parts swapped holds is same made =
    let at = clusters_at (between_clusters l) in
    cond-true (transposes_chars l) (replacement at.0 at.2 (later_first at l.text) l.text ∷ []) [] holds
    ∙ ap (λ (p : ℕ × ℕ × ℕ). replacement p.0 p.2 (later_first p l.text) l.text ∷ []) (sym is)
    ∙ ap (λ (x : Line). replacement parts.0 parts.2 (later_first parts x.text) x.text ∷ []) (sym same)
    ∙ ap (λ x. replacement parts.0 parts.2 x m.text ∷ []) (sym made)

-- after both parts there is still the same text
pub behind_both : (text x y : List ℕ) (a b c d : ℕ) → IsUtf8 text → IsCharBoundary text d → a ≤ b → b ≤ c → c ≤ d → length x ≡ b - a → length y ≡ d - c
    → IsCharBoundary (replace_range (replace_range text c d x) a b y) d
behind_both text x y a b c d u e ab bc cd lx ly =
    at_seam _ ((take a m ++ y) ++ drop b front) (drop d text) d parts long (IsUtf8-drop text d u e)
  where
    front : List ℕ
    front = take c text ++ x

    m : List ℕ
    m = front ++ drop d text

    size : length front ≡ c + length x
    size = length-append (take c text) x ∙ ap (λ n. n + length x) (length-take-le c text (omega (arith, cd, e.0)))

    whole : a ≤ length m
    whole = omega (arith, size, length-append front (drop d text), ab, bc)

    parts : (take a m ++ y) ++ drop b m ≡ ((take a m ++ y) ++ drop b front) ++ drop d text
    parts = ap (λ xs. (take a m ++ y) ++ xs) (drop-append-le b front (drop d text) (omega (arith, size, bc))) ∙ sym (append_assoc (take a m ++ y) (drop b front) (drop d text))

    long : length ((take a m ++ y) ++ drop b front) ≡ d
    long = omega (arith, length-append (take a m ++ y) (drop b front), length-append (take a m) y, length-take-le a m whole, length-drop b front, size, lx, ly, ab, bc, cd)
