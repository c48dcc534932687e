-- Validation by brackets: the two steps at which a closing bracket doesn't fit, and a text with a bracket.
use Rattle.std.proofs.Common.{◌≡◌, ℕ, suc, ◌+◌, ◌<◌, ◌≤◌, true, false, not, List, [], ◌∷◌, ◌++◌, length, drop, reverse, refl, sym, ap, ◌∙◌, ◌≢◌, Some, slice_index_or, arith}
use Rattle.std.specs.Prelude.{◌==◌, ◌||◌, Result, Ok, Err, IsErrAnd, IfErr}
use Rattle.std.specs.List.{list_any, position_or_len}
use Rattle.std.proofs.lemmas.List.Folds.{list_any_at}
use Rattle.std.proofs.lemmas.List.Sums.{prefix_len-le-length}
use Rattle.std.proofs.lemmas.List.{drop_more, drop-drop, length-drop, reverse-append, nil_from_length}
use Rattle.std.proofs.lemmas.Bool.{cond_both, ne_eqb, not-true, or_parts}
use Rattle.line_config.specs.declared.errors.HookFault.{HookFault, TheVariants.Memory}
use Rattle.line_help.specs.Brackets.{is_opening, is_closing, is_bracket, partner}
use Rattle.line_help.specs.Validation.{HasNoBracket, verdict_from, bracket_verdict, not_closed, message_of_unpaired}
use Rattle.line_help.specs.declared.helpers.validate.ValidationResult.TheVariants.{Invalid}

pub not_closed_found : (input bytes items older message : List ℕ) (opening other i : ℕ) → bytes ≡ input → verdict_from [] bytes ≡ verdict_from (reverse items) (drop i bytes) → i < length bytes
    → items ≡ older ++ (opening ∷ []) → false ≡ is_opening (slice_index_or bytes i 0) → true ≡ is_closing (slice_index_or bytes i 0) → other ≡ partner opening → other ≢ slice_index_or bytes i 0
    → message ≡ not_closed opening → Invalid (Some message) ≡ bracket_verdict input
not_closed_found input bytes items older message opening other i same so_far within held not_opening closing is_partner differ told =
    let not_closing : (partner opening == slice_index_or bytes i 0) ≡ false = ne_eqb (partner opening) (slice_index_or bytes i 0) (λ e. differ (is_partner ∙ e)) in
    let step : verdict_from (reverse items) (drop i bytes) ≡ Invalid (Some (not_closed opening)) =
    rw (held, drop_more bytes i 0 within, reverse-append older (opening ∷ []), ← not_opening, ← closing, not_closing) refl in
    ap (λ text. Invalid (Some text)) told ∙ sym (ap (λ text. verdict_from [] text) (sym same) ∙ so_far ∙ step)

pub unpaired_found : (input bytes items message : List ℕ) (i : ℕ) → bytes ≡ input → verdict_from [] bytes ≡ verdict_from (reverse items) (drop i bytes) → i < length bytes
    → length items ≡ 0 → false ≡ is_opening (slice_index_or bytes i 0) → true ≡ is_closing (slice_index_or bytes i 0)
    → message ≡ message_of_unpaired (slice_index_or bytes i 0) → Invalid (Some message) ≡ bracket_verdict input
unpaired_found input bytes items message i same so_far within none not_opening closing told =
    let step : verdict_from (reverse items) (drop i bytes) ≡ Invalid (Some (message_of_unpaired (slice_index_or bytes i 0))) =
    rw (nil_from_length items none, drop_more bytes i 0 within, ← not_opening, ← closing) refl in
    ap (λ text. Invalid (Some text)) told ∙ sym (ap (λ text. verdict_from [] text) (sym same) ∙ so_far ∙ step)

-- ---- bytes that are no brackets

-- what precedes the first bracket is passed
others_passed : (unclosed text : List ℕ) → verdict_from unclosed text ≡ verdict_from unclosed (drop (position_or_len is_bracket text) text)
others_passed unclosed [] = refl
others_passed unclosed (byte ∷ text) =
    let n = position_or_len is_bracket text in
    let more : suc n ≡ 1 + n = omega arith in
    cond_both (not (is_bracket byte)) (1 + n) 0 (λ k. verdict_from unclosed (byte ∷ text) ≡ verdict_from unclosed (drop k (byte ∷ text)))
    (λ e.
    let none = or_parts (is_opening byte) (is_closing byte) (not-true (is_bracket byte) e) in
    rw (none.0, none.1) (others_passed unclosed text ∙ ap (λ k. verdict_from unclosed (drop k (byte ∷ text))) more))
    (λ _. refl)

pub bracket_next : (text : List ℕ) (from place : ℕ) → place ≡ from + position_or_len is_bracket (drop from text) → HasNoBracket text from place
bracket_next text from place is unclosed =
    let n = position_or_len is_bracket (drop from text) in
    others_passed unclosed (drop from text) ∙ ap (verdict_from unclosed) (drop-drop n from text ∙ ap (λ i. drop i text) (sym is))

pub bracket_within : (text : List ℕ) (from place : ℕ) → from ≤ length text → place ≡ from + position_or_len is_bracket (drop from text) → place ≤ length text
bracket_within text from place l is =
    omega (arith, is, prefix_len-le-length (λ byte. not (is_bracket byte)) (drop from text), length-drop from text)

-- memory ran out for it
pub wants_for : {A X : Type 0} (result : Result A HookFault) → IsErrAnd result (λ e. e ≡ Memory) → X → IfErr result (λ e. (e ≡ Memory) × X)
wants_for (Ok x) is h = tt
wants_for (Err e) is h = (is, h)

pub opening_stands : (input bytes : List ℕ) (i : ℕ) → bytes ≡ input → i < length bytes → true ≡ is_opening (slice_index_or bytes i 0) → list_any is_bracket input ≡ true
opening_stands input bytes i same within opens =
    ap (list_any is_bracket) (sym same) ∙ list_any_at is_bracket bytes i 0 within (ap (λ b. b || is_closing (slice_index_or bytes i 0)) (sym opens))

pub closing_stands : (input bytes : List ℕ) (i : ℕ) → bytes ≡ input → i < length bytes → false ≡ is_opening (slice_index_or bytes i 0) → true ≡ is_closing (slice_index_or bytes i 0) → list_any is_bracket input ≡ true
closing_stands input bytes i same within not_opening closes =
    ap (list_any is_bracket) (sym same) ∙ list_any_at is_bracket bytes i 0 within (ap (λ b. b || is_closing (slice_index_or bytes i 0)) (sym not_opening) ∙ sym closes)
