-- Verdicts on brackets, and the texts in which they are balanced.
use Rattle.std.proofs.Common.{◌≡◌, ◌⊎◌, inl, inr, ℕ, Bool, true, false, List, [], ◌∷◌, ◌++◌, map, refl, sym, ap, ◌∙◌, append_assoc, Some, None, subst}
use Rattle.std.specs.Prelude.{◌==◌, ◌||◌, ◌&&◌}
use Rattle.std.proofs.lemmas.Bool.{and_parts, eq-eqb, eqb-true}
use Rattle.std.specs.List.{list_any}
use Rattle.std.proofs.lemmas.List.{append-nil}
use Rattle.line_help.specs.Brackets.{all_kinds, is_opening, is_closing, partner, Balanced, empty, other, pair}
use Rattle.line_help.specs.Validation.{verdict_from, mismatch, closes_innermost, bracket_verdict, message_of_unpaired, not_closed, ValidIsBalanced, IncompleteIsBegun, InvalidIsLost}
use Rattle.line_help.specs.declared.helpers.validate.ValidationResult.{ValidationResult, TheVariants.Incomplete, TheVariants.Invalid, TheVariants.Valid}

-- whether two bytes are brackets of one kind
abbrev pub are_kind : List (ℕ × ℕ) → ℕ → ℕ → Bool
are_kind kinds opening closing = list_any (λ kind. (opening == kind.0) && (closing == kind.1)) kinds

-- what is known of the two brackets of a kind
pub record Kind (opening closing : ℕ) : Type 0 where
  pub opens_it : is_opening opening ≡ true
  pub closes_it : is_closing closing ≡ true
  pub not_opening : is_opening closing ≡ false
  pub are_partners : partner opening ≡ closing
  pub partners_back : partner closing ≡ opening
  pub of_a_kind : are_kind all_kinds opening closing ≡ true

-- the kind of which a test of kinds holds
kind_in : (test : ℕ × ℕ → Bool) (one two three : Bool) → test (40, 41) ≡ one → test (91, 93) ≡ two → test (123, 125) ≡ three
    → (one || (two || (three || false))) ≡ true → (kind : ℕ × ℕ) × (test kind ≡ true) × Kind kind.0 kind.1
kind_in test true two three e f g h =
    ((40, 41), e, record { opens_it = refl; closes_it = refl; not_opening = refl; are_partners = refl; partners_back = refl; of_a_kind = refl })
kind_in test false true three e f g h =
    ((91, 93), f, record { opens_it = refl; closes_it = refl; not_opening = refl; are_partners = refl; partners_back = refl; of_a_kind = refl })
kind_in test false false true e f g h =
    ((123, 125), g, record { opens_it = refl; closes_it = refl; not_opening = refl; are_partners = refl; partners_back = refl; of_a_kind = refl })
kind_in test false false false e f g h = absurd cc

same_kind : {a b c d : ℕ} → a ≡ c → b ≡ d → Kind c d → Kind a b
same_kind e f kind = rw (e, f) kind

kind_of_pair : (opening closing : ℕ) → are_kind all_kinds opening closing ≡ true → Kind opening closing
kind_of_pair opening closing h =
    let found = kind_in (λ kind. (opening == kind.0) && (closing == kind.1)) _ _ _ refl refl refl h in
    let tests = and_parts (opening == found.0.0) (closing == found.0.1) found.1 in
    same_kind (eqb-true opening found.0.0 tests.0) (eqb-true closing found.0.1 tests.1) found.2

pub kind_of_opening : (opening : ℕ) → is_opening opening ≡ true → Kind opening (partner opening)
kind_of_opening opening h =
    let found = kind_in (λ kind. opening == kind.0) _ _ _ refl refl refl h in
    let e = eqb-true opening found.0.0 found.1 in
    same_kind e (ap (λ b. partner b) e ∙ found.2.are_partners) found.2

pub kind_of_closing : (closing : ℕ) → is_closing closing ≡ true → Kind (partner closing) closing
kind_of_closing closing h =
    let found = kind_in (λ kind. closing == kind.1) _ _ _ refl refl refl h in
    let e = eqb-true closing found.0.1 found.1 in
    same_kind (ap (λ b. partner b) e ∙ found.2.partners_back) e found.2

pub brackets_differ : (opening closing : ℕ) → Kind opening closing → opening ≡ closing → ⊥
brackets_differ opening closing kind e = let f : is_opening opening ≡ is_opening closing = ap (λ b. is_opening b) e in absurd cc

-- a byte after which these brackets are open: it opens one, closes the innermost one, or is no bracket
pub data Moves (b : ℕ) : List ℕ → List ℕ → Type 0 where
  opens : (unclosed : List ℕ) → is_opening b ≡ true → Moves b unclosed (b ∷ unclosed)
  closes : (opening : ℕ) (others : List ℕ) → is_opening b ≡ false → is_closing b ≡ true → partner opening ≡ b → Moves b (opening ∷ others) others
  passes : (unclosed : List ℕ) → is_opening b ≡ false → is_closing b ≡ false → Moves b unclosed unclosed

pub verdict_on : {b : ℕ} {unclosed left : List ℕ} → Moves b unclosed left → (text : List ℕ) → verdict_from unclosed (b ∷ text) ≡ verdict_from left text
verdict_on (opens unclosed h) text = rw h refl
verdict_on {b = b} (closes opening others h i j) text = rw (h, i, eq-eqb (partner opening) b j) refl
verdict_on (passes unclosed h i) text = rw (h, i) refl

-- what a byte does: it moves on, or ends the text's verdict
pub data Step (unclosed : List ℕ) (b : ℕ) : Type 0 where
  goes_on : (left : List ℕ) → Moves b unclosed left → Step unclosed b
  fails : (message : List ℕ) → is_closing b ≡ true → closes_innermost b unclosed ≡ false → mismatch b unclosed ≡ Invalid (Some message)
      → ((text : List ℕ) → verdict_from unclosed (b ∷ text) ≡ Invalid (Some message)) → Step unclosed b

step_by : (unclosed : List ℕ) (b : ℕ) (p q r : Bool) → is_opening b ≡ p → is_closing b ≡ q → closes_innermost b unclosed ≡ r → Step unclosed b
step_by unclosed b true q r h i j = goes_on (b ∷ unclosed) (opens unclosed h)
step_by unclosed b false false r h i j = goes_on unclosed (passes unclosed h i)
step_by [] b false true true h i j = absurd cc
step_by [] b false true false h i j = fails (message_of_unpaired b) i j refl (λ text. rw (h, i) refl)
step_by (opening ∷ others) b false true true h i j = goes_on others (closes opening others h i (eqb-true (partner opening) b j))
step_by (opening ∷ others) b false true false h i j = fails (not_closed opening) i j refl (λ text. rw (h, i, j) refl)

pub step : (unclosed : List ℕ) (b : ℕ) → Step unclosed b
step unclosed b = step_by unclosed b _ _ _ refl refl refl

abbrev pub AllOpening : List ℕ → Type 0
AllOpening [] = Unit {0}
AllOpening (opening ∷ others) = (is_opening opening ≡ true) × AllOpening others

pub opening_on : {b : ℕ} {unclosed left : List ℕ} → Moves b unclosed left → AllOpening unclosed → AllOpening left
opening_on (opens unclosed h) all = (h, all)
opening_on (closes opening others h i j) all = all.1
opening_on (passes unclosed h i) all = all

-- a text that closes these brackets, innermost first, and in which all others are balanced
abbrev pub Closed : List ℕ → List ℕ → Type 0
Closed [] text = Balanced all_kinds text
Closed (opening ∷ others) text = (inner : List ℕ) × (rest : List ℕ) × (text ≡ inner ++ (partner opening ∷ rest)) × Balanced all_kinds inner × Closed others rest

closed_behind_pair : (unclosed : List ℕ) (o : ℕ) (inner rest : List ℕ) → is_opening o ≡ true → Balanced all_kinds inner → Closed unclosed rest → Closed unclosed (o ∷ (inner ++ (partner o ∷ rest)))
closed_behind_pair [] o inner rest h balanced closed = pair o (partner o) inner rest (kind_of_opening o h).of_a_kind balanced closed
closed_behind_pair (opening ∷ others) o inner rest h balanced closed =
    let e : o ∷ (inner ++ (partner o ∷ rest)) ≡ (o ∷ (inner ++ (partner o ∷ closed.0))) ++ (partner opening ∷ closed.1) = rw (closed.2, append_assoc) refl in
    (o ∷ (inner ++ (partner o ∷ closed.0)), closed.1, e, pair o (partner o) inner closed.0 (kind_of_opening o h).of_a_kind balanced closed.3, closed.4)

pub closed_on : {b : ℕ} {unclosed left : List ℕ} → Moves b unclosed left → (text : List ℕ) → Closed left text → Closed unclosed (b ∷ text)
closed_on {b = b} (opens unclosed h) text closed = rw closed.2 (closed_behind_pair unclosed b closed.0 closed.1 h closed.3 closed.4)
closed_on (closes opening others h i j) text closed = ([], text, ap (λ c. c ∷ text) (sym j), empty, closed)
closed_on {b = b} (passes [] h i) text closed = other b text h i closed
closed_on {b = b} (passes (opening ∷ others) h i) text closed = (b ∷ closed.0, closed.1, ap (λ t. b ∷ t) closed.2, other b closed.0 h i closed.3, closed.4)

valid_closes : (unclosed text : List ℕ) → verdict_from unclosed text ≡ Valid None → AllOpening unclosed → Closed unclosed text
valid_closes unclosed (b ∷ text) valid all = elim (step unclosed b) [
  | goes_on left moves ↦ closed_on moves text (valid_closes left text (sym (verdict_on moves text) ∙ valid) (opening_on moves all))
  | fails message i j k is ↦ let e : Valid None ≡ Invalid (Some message) = sym valid ∙ is text in absurd cc
]
valid_closes [] [] valid all = empty
valid_closes (opening ∷ others) [] valid all = absurd cc

-- a balanced text changes nothing
balanced_passes : {text : List ℕ} → Balanced all_kinds text → (unclosed more : List ℕ) → verdict_from unclosed (text ++ more) ≡ verdict_from unclosed more
balanced_passes empty unclosed more = refl
balanced_passes (other b text h i balanced) unclosed more = verdict_on {b = b} (passes unclosed h i) (text ++ more) ∙ balanced_passes balanced unclosed more
balanced_passes (pair o c inner text k inside behind) unclosed more =
    let kind = kind_of_pair o c k in
    verdict_on {b = o} (opens unclosed kind.opens_it) ((inner ++ (c ∷ text)) ++ more)
    ∙ ap (verdict_from (o ∷ unclosed)) (append_assoc inner (c ∷ text) more)
    ∙ balanced_passes inside (o ∷ unclosed) (c ∷ (text ++ more))
    ∙ verdict_on {b = c} (closes o unclosed kind.not_opening kind.closes_it kind.are_partners) (text ++ more)
    ∙ balanced_passes behind unclosed more

balanced_valid : (text : List ℕ) → Balanced all_kinds text → bracket_verdict text ≡ Valid None
balanced_valid text balanced = ap (λ t. verdict_from [] t) (sym (append-nil text)) ∙ balanced_passes balanced [] []

pub valid_balanced : (text : List ℕ) → bracket_verdict text ≡ Valid None → Balanced all_kinds text
valid_balanced text valid = valid_closes [] text valid tt

pub valid_law : ValidIsBalanced
valid_law text = (valid_balanced text, balanced_valid text)

-- closing all open brackets makes an incomplete text valid
pub closings_valid : (unclosed : List ℕ) → AllOpening unclosed → verdict_from unclosed (map partner unclosed) ≡ Valid None
closings_valid [] all = refl
closings_valid (opening ∷ others) all =
    let kind = kind_of_opening opening all.0 in
    verdict_on {b = partner opening} (closes opening others kind.not_opening kind.closes_it refl) (map partner others) ∙ closings_valid others all.1

incomplete_goes_on : (unclosed text : List ℕ) → verdict_from unclosed text ≡ Incomplete → AllOpening unclosed → (more : List ℕ) × (verdict_from unclosed (text ++ more) ≡ Valid None)
incomplete_goes_on unclosed [] e all = (map partner unclosed, closings_valid unclosed all)
incomplete_goes_on unclosed (b ∷ text) e all = elim (step unclosed b) [
  | goes_on left moves ↦ (
      let found = incomplete_goes_on left text (sym (verdict_on moves text) ∙ e) (opening_on moves all) in
      (found.0, verdict_on moves (text ++ found.0) ∙ found.1))
  | fails message i j k is ↦ let f : Incomplete ≡ Invalid (Some message) = sym e ∙ is text in absurd cc
]

-- nothing after an invalid text changes that
invalid_stays : (unclosed text message more : List ℕ) → verdict_from unclosed text ≡ Invalid (Some message) → verdict_from unclosed (text ++ more) ≡ Invalid (Some message)
invalid_stays unclosed (b ∷ text) message more e = elim (step unclosed b) [
  | goes_on left moves ↦ verdict_on moves (text ++ more) ∙ invalid_stays left text message more (sym (verdict_on moves text) ∙ e)
  | fails said i j k is ↦ is (text ++ more) ∙ sym (is text) ∙ e
]
invalid_stays [] [] message more e = absurd cc
invalid_stays (opening ∷ others) [] message more e = absurd cc

-- there are three verdicts
abbrev IsOneOfThree : ValidationResult → Type 0
IsOneOfThree verdict = (verdict ≡ Valid None) ⊎ ((verdict ≡ Incomplete) ⊎ ((message : List ℕ) × (verdict ≡ Invalid (Some message))))

one_of_verdicts : (unclosed text : List ℕ) → IsOneOfThree (verdict_from unclosed text)
one_of_verdicts unclosed (b ∷ text) = elim (step unclosed b) [
  | goes_on left moves ↦ subst IsOneOfThree (sym (verdict_on moves text)) (one_of_verdicts left text)
  | fails message i j k is ↦ inr (inr (message, is text))
]
one_of_verdicts [] [] = inl refl
one_of_verdicts (opening ∷ others) [] = inr (inl refl)

begun : (text : List ℕ) → bracket_verdict text ≡ Incomplete → (¬ Balanced all_kinds text) × ((more : List ℕ) × Balanced all_kinds (text ++ more))
begun text h =
    let found = incomplete_goes_on [] text h tt in
    (λ balanced. let e : Incomplete ≡ Valid None = sym h ∙ balanced_valid text balanced in absurd cc, (found.0, valid_balanced (text ++ found.0) found.1))

never_balanced : (text message more : List ℕ) → bracket_verdict text ≡ Invalid (Some message) → ¬ Balanced all_kinds (text ++ more)
never_balanced text message more h balanced =
    let e : Invalid (Some message) ≡ Valid None = sym (invalid_stays [] text message more h) ∙ balanced_valid (text ++ more) balanced in absurd cc

only_begun : (text : List ℕ) → IsOneOfThree (bracket_verdict text) → ¬ Balanced all_kinds text → (more : List ℕ) → Balanced all_kinds (text ++ more) → bracket_verdict text ≡ Incomplete
only_begun text (inl h) not_yet more later = absurd (not_yet (valid_balanced text h))
only_begun text (inr (inl h)) not_yet more later = h
only_begun text (inr (inr h)) not_yet more later = absurd (never_balanced text h.0 more h.1 later)

only_lost : (text : List ℕ) → IsOneOfThree (bracket_verdict text) → ((more : List ℕ) → ¬ Balanced all_kinds (text ++ more)) → (message : List ℕ) × (bracket_verdict text ≡ Invalid (Some message))
only_lost text (inl h) lost = absurd (lost [] (rw append-nil (valid_balanced text h)))
only_lost text (inr (inl h)) lost = absurd (lost (begun text h).1.0 (begun text h).1.1)
only_lost text (inr (inr h)) lost = h

pub incomplete_law : IncompleteIsBegun
incomplete_law text = (begun text, λ h. only_begun text (one_of_verdicts [] text) h.0 h.1.0 h.1.1)

pub invalid_law : InvalidIsLost
invalid_law text = (λ h more. never_balanced text h.0 more h.1, only_lost text (one_of_verdicts [] text))
