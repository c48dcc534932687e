-- The tokens of a text from a place on are the one that begins there, and those after it.
use Rattle.std.proofs.Common.{◌≡◌, ℕ, zero, suc, ◌+◌, ◌-◌, ◌<◌, ◌≤◌, List, [], ◌∷◌, length, drop, refl, ap, sym, subst, arith}
use Rattle.line_help.specs.declared.helpers.style.Span.{Span}
use Rattle.sql_console.specs.Tokens.{first_token, tokens_from}

behind : (len c : ℕ) (text : List ℕ) → 1 ≤ len → tokens_from (len - 1) text ≡ tokens_from len (c ∷ text)
behind zero c text some = absurd (omega arith)
behind (suc len) c text some = let less : suc len - 1 ≡ len = omega arith in ap (λ n. tokens_from n text) less

further : (place len c : ℕ) (text : List ℕ) → tokens_from (suc place + len) (c ∷ text) ≡ tokens_from (place + len) text
further place len c text =
    let more : suc place + len ≡ suc (place + len) = omega arith in ap (λ n. tokens_from n (c ∷ text)) more

tokens_at : (place : ℕ) (text : List ℕ) → place < length text → 1 ≤ (first_token (drop place text)).len
    → tokens_from place text ≡ first_token (drop place text) ∷ tokens_from (place + (first_token (drop place text)).len) text
tokens_at place [] within some = absurd (omega arith)
tokens_at zero (c ∷ text) within some =
    let none : 0 + (first_token (c ∷ text)).len ≡ (first_token (c ∷ text)).len = omega arith in
    rw none (ap (λ rest. first_token (c ∷ text) ∷ rest) (behind (first_token (c ∷ text)).len c text some))
tokens_at (suc place) (c ∷ text) within some =
    rw (further place (first_token (drop place text)).len c text) (tokens_at place text (omega arith) some)

pub tokens_past : (place : ℕ) (text : List ℕ) → length text ≤ place → tokens_from place text ≡ []
tokens_past place [] past = refl
tokens_past zero (c ∷ text) past = absurd (omega arith)
tokens_past (suc place) (c ∷ text) past = tokens_past place text (omega arith)

pub tokens_next : (place : ℕ) (text : List ℕ) (span : Span) → span ≡ first_token (drop place text)
    → place < length text → 1 ≤ span.len → tokens_from place text ≡ span ∷ tokens_from (place + span.len) text
tokens_next place text span value within some =
    let P : Span → Type 0 = λ s. 1 ≤ s.len in
    let Q : Span → Type 0 = λ s. tokens_from place text ≡ s ∷ tokens_from (place + s.len) text in
    subst Q (sym value) (tokens_at place text within (subst P value some))
