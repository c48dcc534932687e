-- Messages on brackets: at which bracket a text becomes invalid, and which open bracket is the innermost there.
use Rattle.std.proofs.Common.{◌≡◌, ◌≢◌, ◌⊎◌, inl, inr, ℕ, true, false, List, [], ◌∷◌, ◌++◌, map, refl, sym, ap, ◌∙◌, append_assoc, Some, None}
use Rattle.std.proofs.lemmas.Bool.{eq-eqb}
use Rattle.line_help.specs.Brackets.{all_kinds, is_opening, is_closing, partner, Balanced, empty, other, pair}
use Rattle.line_help.specs.Validation.{verdict_from, mismatch, closes_innermost, message_of_unpaired, not_closed, NamesWhatFails, MessageNames}
use Rattle.line_help.specs.declared.helpers.validate.ValidationResult.TheVariants.{Invalid, Valid}
use Rattle.line_help.proofs.BalanceLemmas.{kind_of_opening, Moves, opens, closes, passes, verdict_on, goes_on, fails, step, AllOpening, opening_on, Closed, closed_on, closings_valid, valid_balanced}

-- a closing bracket fails at one of the brackets that were open from the start
abbrev FailsAtOpen : List ℕ → List ℕ → ℕ → List ℕ → Type 0
FailsAtOpen [] before closing message = ⊥
FailsAtOpen (opening ∷ others) before closing message = (Balanced all_kinds before × (partner opening ≢ closing) × (message ≡ not_closed opening))
    ⊎ ((inner : List ℕ) × (rest : List ℕ) × (before ≡ inner ++ (partner opening ∷ rest)) × Balanced all_kinds inner × FailsAtOpen others rest closing message)

-- it fails at one that was opened since
abbrev FailsInside : List ℕ → List ℕ → ℕ → List ℕ → Type 0
FailsInside unclosed before closing message = (front : List ℕ) × (opening : ℕ) × (inner : List ℕ) × (more : List ℕ) × (before ≡ front ++ (opening ∷ inner)) × (is_opening opening ≡ true)
    × Balanced all_kinds inner × (partner opening ≢ closing) × (message ≡ not_closed opening) × (verdict_from unclosed (front ++ more) ≡ Valid None)

abbrev Told : List ℕ → List ℕ → ℕ → List ℕ → Type 0
Told unclosed before closing message = (Closed unclosed before × (message ≡ message_of_unpaired closing)) ⊎ (FailsInside unclosed before closing message ⊎ FailsAtOpen unclosed before closing message)

abbrev Fails : List ℕ → List ℕ → List ℕ → Type 0
Fails unclosed text message = (before : List ℕ) × (closing : ℕ) × (after : List ℕ) × (text ≡ before ++ (closing ∷ after)) × (is_closing closing ≡ true) × Told unclosed before closing message

open_behind_other : (unclosed : List ℕ) (b : ℕ) (before : List ℕ) (closing : ℕ) (message : List ℕ) → is_opening b ≡ false → is_closing b ≡ false
    → FailsAtOpen unclosed before closing message → FailsAtOpen unclosed (b ∷ before) closing message
open_behind_other [] b before closing message h i f = f
open_behind_other (opening ∷ others) b before closing message h i (inl f) = inl (other b before h i f.0, f.1, f.2)
open_behind_other (opening ∷ others) b before closing message h i (inr f) = inr (b ∷ f.0, f.1, ap (λ t. b ∷ t) f.2, other b f.0 h i f.3, f.4)

open_behind_pair : (unclosed : List ℕ) (b : ℕ) (inner rest : List ℕ) (closing : ℕ) (message : List ℕ) → is_opening b ≡ true → Balanced all_kinds inner
    → FailsAtOpen unclosed rest closing message → FailsAtOpen unclosed (b ∷ (inner ++ (partner b ∷ rest))) closing message
open_behind_pair [] b inner rest closing message h balanced f = f
open_behind_pair (opening ∷ others) b inner rest closing message h balanced (inl f) = inl (pair b (partner b) inner rest (kind_of_opening b h).of_a_kind balanced f.0, f.1, f.2)
open_behind_pair (opening ∷ others) b inner rest closing message h balanced (inr f) =
    let e : b ∷ (inner ++ (partner b ∷ rest)) ≡ (b ∷ (inner ++ (partner b ∷ f.0))) ++ (partner opening ∷ f.1) = rw (f.2, append_assoc) refl in
    inr (b ∷ (inner ++ (partner b ∷ f.0)), f.1, e, pair b (partner b) inner f.0 (kind_of_opening b h).of_a_kind balanced f.3, f.4)

told_on : {b : ℕ} {unclosed left : List ℕ} → Moves b unclosed left → (before : List ℕ) (closing : ℕ) (message : List ℕ) → AllOpening unclosed
    → Told left before closing message → Told unclosed (b ∷ before) closing message
told_on moves before closing message all (inl f) = inl (closed_on moves before f.0, f.1)
told_on {b = b} moves before closing message all (inr (inl f)) =
    inr (inl (b ∷ f.0, f.1, f.2, f.3, ap (λ t. b ∷ t) f.4, f.5, f.6, f.7, f.8, verdict_on moves (f.0 ++ f.3) ∙ f.9))
told_on {b = b} (opens unclosed h) before closing message all (inr (inr (inl f))) =
    inr (inl ([], b, before, map partner unclosed, refl, h, f.0, f.1, f.2, closings_valid unclosed all))
told_on {b = b} (opens unclosed h) before closing message all (inr (inr (inr f))) =
    inr (inr (rw f.2 (open_behind_pair unclosed b f.0 f.1 closing message h f.3 f.4)))
told_on (closes opening others h i j) before closing message all (inr (inr f)) = inr (inr (inr ([], before, ap (λ c. c ∷ before) (sym j), empty, f)))
told_on {b = b} (passes unclosed h i) before closing message all (inr (inr f)) = inr (inr (open_behind_other unclosed b before closing message h i f))

told_here : (unclosed : List ℕ) (b : ℕ) (message : List ℕ) → closes_innermost b unclosed ≡ false → mismatch b unclosed ≡ Invalid (Some message) → Told unclosed [] b message
told_here [] b message j e = inl (empty, cc)
told_here (opening ∷ others) b message j e =
    let differ : partner opening ≢ b = λ same. let both : true ≡ false = sym (eq-eqb (partner opening) b same) ∙ j in absurd cc in
    inr (inr (inl (empty, differ, cc)))

invalid_fails : (unclosed text message : List ℕ) → verdict_from unclosed text ≡ Invalid (Some message) → AllOpening unclosed → Fails unclosed text message
invalid_fails unclosed (b ∷ text) message e all = elim (step unclosed b) [
  | goes_on left moves ↦ (
      let f = invalid_fails left text message (sym (verdict_on moves text) ∙ e) (opening_on moves all) in
      (b ∷ f.0, f.1, f.2, ap (λ t. b ∷ t) f.3, f.4, told_on moves f.0 f.1 message all f.5))
  | fails said i j k is ↦ ([], b, text, refl, i, told_here unclosed b message j (k ∙ sym (is text) ∙ e))
]
invalid_fails [] [] message e all = absurd cc
invalid_fails (opening ∷ others) [] message e all = absurd cc

named : (before : List ℕ) (closing : ℕ) (message : List ℕ) → Told [] before closing message → NamesWhatFails before closing message
named before closing message (inl f) = inl f
named before closing message (inr (inl f)) = inr (f.0, f.1, f.2, f.3, f.4, f.5, f.6, f.7, f.8, valid_balanced (f.0 ++ f.3) f.9)
named before closing message (inr (inr f)) = absurd f

pub message_law : MessageNames
message_law text message h =
    let f : Fails [] text message = invalid_fails [] text message h tt in
    (f.0, f.1, f.2, f.3, f.4, named f.0 f.1 message f.5)
