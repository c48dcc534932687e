-- Words, one after the other: those that begin as a text does, and those of rows.
use Rattle.std.proofs.Common.{◌≡◌, ◌∙◌, ℕ, zero, suc, ◌+◌, ◌<◌, true, false, List, [], ◌∷◌, ◌++◌, length, take, get_or, map, drop, refl, sym, ap, ap₂, nat_eq, arith, None, Some}
use Rattle.std.proofs.lemmas.Bool.{cond_both}
use Rattle.std.specs.Char.{is_whitespace}
use Rattle.std.specs.List.{starts_with}
use Rattle.std.proofs.lemmas.List.{take_more, map-append, append-nil}
use Rattle.std.proofs.lemmas.List.Elements.{filter-append}
use Rattle.std.proofs.lemmas.Simd.{map-map}
use Rattle.line_help.specs.Completion.{text_offered, word_start, words_for, words_reply}

-- one word more
words_more : {X : Type 0} (bytes : X → List ℕ) (beginning : List ℕ) (words : List X) (i : ℕ) (word : X) → i < length words → word ≡ get_or words i word
    → words_for beginning (map bytes (take (i + 1) words)) ≡ words_for beginning (map bytes (take i words)) ++ words_for beginning (bytes word ∷ [])
words_more bytes beginning words i word inside is =
    ap (λ ws. words_for beginning (map bytes ws)) (take_more words i word inside ∙ ap (λ w. take i words ++ w ∷ []) (sym is))
    ∙ (ap (words_for beginning) (map-append bytes (take i words) (word ∷ []))
    ∙ filter-append (λ w. starts_with nat_eq w beginning) (map bytes (take i words)) (bytes word ∷ []))

pub word_taken : {X : Type 0} (bytes : X → List ℕ) (beginning : List ℕ) (words found : List X) (i : ℕ) (word copy : X) → i < length words → word ≡ get_or words i word
    → starts_with nat_eq (bytes word) beginning ≡ true → bytes copy ≡ bytes word → map bytes found ≡ words_for beginning (map bytes (take i words))
    → map bytes (found ++ copy ∷ []) ≡ words_for beginning (map bytes (take (i + 1) words))
word_taken bytes beginning words found i word copy inside is begins same so_far =
    map-append bytes found (copy ∷ [])
    ∙ (ap (λ ws. ws ++ bytes copy ∷ []) so_far
    ∙ (ap (λ w. words_for beginning (map bytes (take i words)) ++ w ∷ []) same
    ∙ sym (words_more bytes beginning words i word inside is ∙ rw begins refl)))

pub word_passed : {X : Type 0} (bytes : X → List ℕ) (beginning : List ℕ) (words found : List X) (i : ℕ) (word : X) → i < length words → word ≡ get_or words i word
    → starts_with nat_eq (bytes word) beginning ≡ false → map bytes found ≡ words_for beginning (map bytes (take i words))
    → map bytes found ≡ words_for beginning (map bytes (take (i + 1) words))
word_passed bytes beginning words found i word inside is begins so_far =
    so_far ∙ sym (words_more bytes beginning words i word inside is ∙ rw begins (append-nil (words_for beginning (map bytes (take i words)))))

-- a word that begins so is among those that do
pub word_found : {X : Type 0} (bytes : X → List ℕ) (beginning : List ℕ) (words : List X) (i : ℕ) (word : X) → i < length words → word ≡ get_or words i word
    → starts_with nat_eq (bytes word) beginning ≡ true → 0 < length (words_for beginning (map bytes words))
word_found bytes beginning [] i word inside is begins = absurd (omega arith)
word_found bytes beginning (x ∷ xs) zero word inside is begins =
    let same : starts_with nat_eq (bytes x) beginning ≡ true = ap (λ w. starts_with nat_eq (bytes w) beginning) (sym is) ∙ begins in
    rw same (omega arith)
word_found bytes beginning (x ∷ xs) (suc i) word inside is begins =
    let rest = words_for beginning (map bytes xs) in
    cond_both (starts_with nat_eq (bytes x) beginning) (bytes x ∷ rest) rest (λ ws. 0 < length ws) (λ e. omega arith) (λ e. word_found bytes beginning xs i word (omega arith) is begins)

pub completed : {X : Type 0} (bytes : X → List ℕ) (words : List (List ℕ)) (text : List ℕ) (start : ℕ) (found : List X) → start ≡ word_start None is_whitespace text
    → map bytes found ≡ words_for (drop start text) words
    → (words_reply text_offered words text).answer ≡ Some (record { start = start; candidates = map (λ w. text_offered (bytes w)) found })
completed bytes words text start found at is =
    let both : map (λ w. text_offered (bytes w)) found ≡ map text_offered (words_for (drop (word_start None is_whitespace text) text) words) =
    sym (map-map text_offered bytes found) ∙ ap (map text_offered) (is ∙ ap (λ n. words_for (drop n text) words) at) in
    ap₂ (λ n ws. Some (record { start = n; candidates = ws })) (sym at) (sym both)
