-- The spans of a text from a place on are the one that begins there, and those after it.
use Rattle.std.proofs.Common.{◌≡◌, ℕ, zero, suc, ◌+◌, ◌-◌, ◌<◌, ◌≤◌, List, [], ◌∷◌, length, drop, refl, ap, sym, subst, arith}
use Rattle.line_help.specs.declared.helpers.style.Span.{Span}
use Rattle.line_help.specs.declared.helpers.style.Style.{Style}
use Rattle.session_rows.specs.Styles.{first_word, words_from}

behind : (w : List ℕ) (s : Style) (len c : ℕ) (text : List ℕ) → 1 ≤ len
    → words_from w s (len - 1) text ≡ words_from w s len (c ∷ text)
behind w s zero c text some = absurd (omega arith)
behind w s (suc len) c text some =
    let less : suc len - 1 ≡ len = omega arith in ap (λ n. words_from w s n text) less

further : (w : List ℕ) (s : Style) (place len c : ℕ) (text : List ℕ)
    → words_from w s (suc place + len) (c ∷ text) ≡ words_from w s (place + len) text
further w s place len c text =
    let more : suc place + len ≡ suc (place + len) = omega arith in ap (λ n. words_from w s n (c ∷ text)) more

words_at : (w : List ℕ) (s : Style) (place : ℕ) (text : List ℕ) → place < length text
    → 1 ≤ (first_word w s (drop place text)).len
    → words_from w s place text
    ≡ first_word w s (drop place text) ∷ words_from w s (place + (first_word w s (drop place text)).len) text
words_at w s place [] within some = absurd (omega arith)
words_at w s zero (c ∷ text) within some =
    let len = (first_word w s (c ∷ text)).len in
    let none : 0 + len ≡ len = omega arith in
    rw none (ap (λ rest. first_word w s (c ∷ text) ∷ rest) (behind w s len c text some))
words_at w s (suc place) (c ∷ text) within some =
    rw (further w s place (first_word w s (drop place text)).len c text) (words_at w s place text (omega arith) some)

pub words_past : (w : List ℕ) (s : Style) (place : ℕ) (text : List ℕ) → length text ≤ place
    → words_from w s place text ≡ []
words_past w s place [] past = refl
words_past w s zero (c ∷ text) past = absurd (omega arith)
words_past w s (suc place) (c ∷ text) past = words_past w s place text (omega arith)

pub words_next : (w : List ℕ) (s : Style) (place : ℕ) (text : List ℕ) (span : Span)
    → span ≡ first_word w s (drop place text) → place < length text → 1 ≤ span.len
    → words_from w s place text ≡ span ∷ words_from w s (place + span.len) text
words_next w s place text span value within some =
    let P : Span → Type 0 = λ x. 1 ≤ x.len in
    let Q : Span → Type 0 = λ x. words_from w s place text ≡ x ∷ words_from w s (place + x.len) text in
    subst Q (sym value) (words_at w s place text within (subst P value some))
