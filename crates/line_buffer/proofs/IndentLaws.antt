-- What is told of rows, row by row.
use Rattle.std.proofs.Common.{◌≡◌, ℕ, suc, ◌+◌, ◌≤◌, Bool, true, false, List, [], ◌∷◌, ◌++◌, length, take, drop, map, refl, sym, ap, ◌∙◌, arith, append_assoc, append-nil, length-append, take-append-drop, IsUtf8, chars, take_while, encode_utf8, encode_utf8_all}
use Rattle.std.proofs.Math.Seq.{take-append_seam, drop-append-add}
use Rattle.std.specs.Char.{is_whitespace}
use Rattle.std.specs.List.{prefix_len, join_with_byte}
use Rattle.std.proofs.lemmas.List.{length-drop, drop-append-le}
use Rattle.std.proofs.lemmas.Str.{encodes-chars}
use Rattle.line_buffer.specs.Indent.{front_whitespace, row_event, row_len, row_events}
use Rattle.line_buffer.specs.Laws.{row_after_indent, RowsGetTheirMargin}
use Rattle.line_buffer.specs.Event.{text_after_event, text_after_events}

encoded-append : (xs ys : List ℕ) → encode_utf8_all (xs ++ ys) ≡ encode_utf8_all xs ++ encode_utf8_all ys
encoded-append [] ys = refl
encoded-append (x ∷ xs) ys = ap (λ bs. encode_utf8 x ++ bs) (encoded-append xs ys) ∙ sym (append_assoc (encode_utf8 x) (encode_utf8_all xs) (encode_utf8_all ys))

-- a prefix of a text's characters is no longer than the text
beginning_short : (row front back : List ℕ) → IsUtf8 row → chars row ≡ front ++ back → length (encode_utf8_all front) ≤ length row
beginning_short row front back u e =
    let whole : row ≡ encode_utf8_all front ++ encode_utf8_all back = sym (encodes-chars row u) ∙ ap encode_utf8_all e ∙ encoded-append front back in
    omega (arith, ap length whole, length-append (encode_utf8_all front) (encode_utf8_all back))

leading_short : (count : ℕ) (row : List ℕ) → IsUtf8 row → length (front_whitespace count row) ≤ length row
leading_short count row u =
    let n = prefix_len is_whitespace (chars row) in
    let white = take_while is_whitespace (chars row) in
    beginning_short row (take count white) (drop count white ++ drop n (chars row)) u
    (sym (take-append-drop n (chars row)) ∙ ap (λ cs. cs ++ drop n (chars row)) (sym (take-append-drop count white))
    ∙ append_assoc (take count white) (drop count white) (drop n (chars row)))

-- one row that stands in a text
one_row : (margin : List ℕ) (dedent : Bool) (before rest row : List ℕ) → IsUtf8 row
    → text_after_event (row_event margin dedent (length before) row) (before ++ (row ++ rest)) ≡ before ++ (row_after_indent margin dedent row ++ rest)
one_row margin true before rest row u =
    let lead = length (front_whitespace (length margin) row) in
    ap (λ xs. (xs ++ []) ++ drop (length before + lead) (before ++ (row ++ rest))) (take-append_seam before (row ++ rest))
    ∙ ap (λ xs. xs ++ drop (length before + lead) (before ++ (row ++ rest))) (append-nil before)
    ∙ ap (λ xs. before ++ xs) (drop-append-add before (row ++ rest) lead ∙ drop-append-le lead row rest (leading_short (length margin) row u))
one_row margin false before rest row u =
    ap (λ xs. (xs ++ margin) ++ drop (length before + 0) (before ++ (row ++ rest))) (take-append_seam before (row ++ rest))
    ∙ ap (λ xs. (before ++ margin) ++ xs) (drop-append-add before (row ++ rest) 0)
    ∙ append_assoc before margin (row ++ rest) ∙ ap (λ xs. before ++ xs) (sym (append_assoc margin row rest))

moved_len : (margin : List ℕ) (dedent : Bool) (row : List ℕ) → row_len margin dedent row ≡ length (row_after_indent margin dedent row)
moved_len margin true row = sym (length-drop (length (front_whitespace (length margin) row)) row)
moved_len margin false row = let long = length-append margin row in omega (arith, long)

pub rows_get_their_margin : RowsGetTheirMargin
unfolding row_events text_after_events
rows_get_their_margin margin dedent before after [] u = refl
rows_get_their_margin margin dedent before after (row ∷ []) u = one_row margin dedent before after row (u 0 row (omega arith))
rows_get_their_margin margin dedent before after (row ∷ (next ∷ rows)) u =
    let moved = row_after_indent margin dedent row in
    let later = join_with_byte 10 (next ∷ rows) in
    let later_moved = join_with_byte 10 (map (row_after_indent margin dedent) (next ∷ rows)) in
    let onward = before ++ (moved ++ 10 ∷ []) in
    let behind : (xs : List ℕ) → before ++ (moved ++ 10 ∷ xs) ≡ onward ++ xs =
    λ xs. ap (λ ys. before ++ ys) (sym (append_assoc moved (10 ∷ []) xs)) ∙ sym (append_assoc before (moved ++ 10 ∷ []) xs) in
    let place : length before + row_len margin dedent row + 1 ≡ length onward =
    omega (arith, moved_len margin dedent row, length-append before (moved ++ 10 ∷ []), length-append moved (10 ∷ [])) in
    ap (λ xs. text_after_events (row_events margin dedent (length before + row_len margin dedent row + 1) (next ∷ rows)) (text_after_event (row_event margin dedent (length before) row) (before ++ xs)))
    (append_assoc row (10 ∷ later) after)
    ∙ ap (text_after_events (row_events margin dedent (length before + row_len margin dedent row + 1) (next ∷ rows)))
    (one_row margin dedent before (10 ∷ (later ++ after)) row (u 0 row (omega arith)) ∙ behind (later ++ after))
    ∙ ap (λ n. text_after_events (row_events margin dedent n (next ∷ rows)) (onward ++ (later ++ after))) place
    ∙ rows_get_their_margin margin dedent onward after (next ∷ rows) (λ k d l. u (suc k) d (omega (arith, l)))
    ∙ sym (behind (later_moved ++ after))
    ∙ ap (λ xs. before ++ xs) (sym (append_assoc moved (10 ∷ later_moved) after))
