-- Validation: whether a text is a complete line.
use Rattle.std.specs.Prelude.{ℕ, drop, ◌==◌, Bool, true, false, if◌then◌else◌, List, [], ◌∷◌, ◌++◌, Some, None, codes, encode_utf8, ◌≡◌, ◌≢◌, ◌↔◌, ◌⊎◌}
use Rattle.std.specs.List.{list_any}
use Rattle.line_keys.specs.Replies.{Reply}
use Rattle.line_help.specs.Brackets.{is_bracket, is_opening, is_closing, partner, all_kinds, Balanced}
use Rattle.line_help.specs.declared.helpers.validate.ValidationResult.{ValidationResult}
use Rattle.line_help.specs.declared.helpers.validate.ValidationResult.TheVariants.{Incomplete, Invalid, Valid}

abbrev pub is_valid : ValidationResult → Bool
is_valid (Valid message) = true
is_valid result = false

abbrev pub has_message : ValidationResult → Bool
has_message (Invalid (Some message)) = true
has_message (Valid (Some message)) = true
has_message result = false

-- the messages: a closing bracket of another kind meets an open one; a closing one meets none
abbrev pub not_closed : ℕ → List ℕ
not_closed opening =
    codes "Mismatched brackets: '" ++ (encode_utf8 opening ++ codes "' is not properly closed")

abbrev pub message_of_unpaired : ℕ → List ℕ
message_of_unpaired closing = codes "Mismatched brackets: '" ++
    (encode_utf8 closing ++ codes "' is unpaired")

-- the verdict on a closing bracket that doesn't close the innermost one of these open ones
abbrev pub mismatch : ℕ → List ℕ → ValidationResult
mismatch closing [] = Invalid (Some (message_of_unpaired closing))
mismatch closing (opening ∷ others) = Invalid (Some (not_closed opening))

abbrev pub closes_innermost : ℕ → List ℕ → Bool
closes_innermost closing [] = false
closes_innermost closing (opening ∷ others) = partner opening == closing

-- the verdict on a text, with these brackets open before it, the innermost first
abbrev pub verdict_from : List ℕ → List ℕ → ValidationResult
verdict_from unclosed (byte ∷ text) = if is_opening byte then verdict_from (byte ∷ unclosed) text
    else if is_closing byte then (if closes_innermost byte unclosed
    then verdict_from (drop 1 unclosed) text else mismatch byte unclosed)
    else verdict_from unclosed text
verdict_from [] [] = Valid None
verdict_from (opening ∷ others) [] = Incomplete

-- no bracket is between these places: whatever is open, the verdicts from both on are the same
abbrev pub HasNoBracket : List ℕ → ℕ → ℕ → Type 0
HasNoBracket text from upto = (unclosed : List ℕ)
    → verdict_from unclosed (drop from text) ≡ verdict_from unclosed (drop upto text)

abbrev pub bracket_verdict : List ℕ → ValidationResult
bracket_verdict text = verdict_from [] text

-- the reply of the validator by brackets: only a text with brackets takes memory
abbrev pub bracket_reply : List ℕ → Reply ValidationResult
bracket_reply text =
    record { answer = Some (bracket_verdict text); takes = list_any is_bracket text }

-- a text is valid if and only if its brackets are balanced
abbrev pub ValidIsBalanced : Type 0
ValidIsBalanced = (text : List ℕ) → (bracket_verdict text ≡ Valid None) ↔ Balanced all_kinds text

-- it is incomplete if and only if they aren't, and some text after it would balance them
abbrev pub IncompleteIsBegun : Type 0
IncompleteIsBegun = (text : List ℕ) → (bracket_verdict text ≡ Incomplete)
    ↔ ((¬ Balanced all_kinds text) × ((more : List ℕ) × Balanced all_kinds (text ++ more)))

-- it is invalid, with a message, if and only if no text after it would balance them
abbrev pub InvalidIsLost : Type 0
InvalidIsLost =
    (text : List ℕ) → ((message : List ℕ) × (bracket_verdict text ≡ Invalid (Some message)))
    ↔ ((more : List ℕ) → ¬ Balanced all_kinds (text ++ more))

-- a message names the first bracket after which nothing can balance the text. It is a closing one.
-- Either all before it is balanced, so it is unpaired; or the innermost open bracket is of another
-- kind, so that one isn't closed
abbrev pub NamesWhatFails : List ℕ → ℕ → List ℕ → Type 0
NamesWhatFails before closing message =
    (Balanced all_kinds before × (message ≡ message_of_unpaired closing))
    ⊎ ((front : List ℕ) × (opening : ℕ) × (inner : List ℕ) × (more : List ℕ)
    × (before ≡ front ++ (opening ∷ inner)) × (is_opening opening ≡ true)
    × Balanced all_kinds inner × (partner opening ≢ closing) × (message ≡ not_closed opening)
    × Balanced all_kinds (front ++ more))

abbrev pub MessageNames : Type 0
MessageNames = (text message : List ℕ) → bracket_verdict text ≡ Invalid (Some message)
    → (before : List ℕ) × (closing : ℕ) × (after : List ℕ) × (text ≡ before ++ (closing ∷ after))
    × (is_closing closing ≡ true) × NamesWhatFails before closing message
