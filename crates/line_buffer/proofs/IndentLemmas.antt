-- The whitespace at the front of a row.
use Rattle.std.proofs.Common.{◌≡◌, ℕ, zero, suc, ◌+◌, ◌-◌, ◌<◌, ◌≤◌, true, false, List, [], ◌∷◌, ◌++◌, length, take, drop, refl, sym, ap, ◌∙◌, arith, append_assoc, ◌==◌, All, IsUtf8, take_while, chars, encode_utf8, encode_utf8_all}
use Rattle.std.specs.Char.{is_whitespace}
use Rattle.std.specs.List.{prefix_len}
use Rattle.std.proofs.lemmas.Bool.{not-true}
use Rattle.std.proofs.lemmas.List.{append-nil, length-drop, length-take, get_or-take, drop-drop, length-append}
use Rattle.std.proofs.lemmas.List.Splits.{slice_split_none, slice_split_at}
use Rattle.std.proofs.lemmas.List.Sums.{prefix_len_passes, prefix_len_stops}
use Rattle.std.proofs.lemmas.Str.{chars_past_char, chars-nil, IsUtf8-past_char}
use Rattle.std.proofs.Math.Seq.{take-nil, take-add, take-append_seam, drop-append_seam}
use Rattle.line_buffer.specs.Indent.{front_whitespace, rows_of}
use Rattle.line_buffer.specs.Rows.{is_in_row}
use Rattle.line_buffer.proofs.RowStartLemmas.{is_newline, split_at_newline}

leading_empty : (n : ℕ) (bs : List ℕ) → bs ≡ [] → front_whitespace n bs ≡ []
leading_empty n bs e = ap (front_whitespace n) e ∙ ap (λ cs. encode_utf8_all (take n (take_while is_whitespace cs))) chars-nil ∙ ap encode_utf8_all (take-nil n)

take_while_more : (c : ℕ) (cs : List ℕ) → is_whitespace c ≡ true → take_while is_whitespace (c ∷ cs) ≡ c ∷ take_while is_whitespace cs
take_while_more c cs e = rw e (ap (λ k. take k (c ∷ cs)) (let k : 1 + prefix_len is_whitespace cs ≡ suc (prefix_len is_whitespace cs) = omega arith in k))

leading_more : (n c : ℕ) (bs rest : List ℕ) → IsUtf8 bs → bs ≡ encode_utf8 c ++ rest → is_whitespace c ≡ true → 0 < n → front_whitespace n bs ≡ encode_utf8 c ++ front_whitespace (n - 1) rest
leading_more zero c bs rest u e w some = absurd (omega arith)
leading_more (suc n) c bs rest u e w some =
    ap (λ cs. encode_utf8_all (take (suc n) (take_while is_whitespace cs))) (chars_past_char bs rest c u e)
    ∙ ap (λ cs. encode_utf8_all (take (suc n) cs)) (take_while_more c (chars rest) w)
    ∙ ap (λ k. encode_utf8 c ++ front_whitespace k rest) (let k : n ≡ suc n - 1 = omega arith in k)

leading_none : (n c : ℕ) (bs rest : List ℕ) → IsUtf8 bs → bs ≡ encode_utf8 c ++ rest → is_whitespace c ≡ false → front_whitespace n bs ≡ []
leading_none n c bs rest u e w =
    ap (λ cs. encode_utf8_all (take n (take_while is_whitespace cs))) (chars_past_char bs rest c u e) ∙ rw w (ap encode_utf8_all (take-nil n))

-- the walk over a row stands at a place, with the rest of the row and so many characters still to take
pub record Walks (row : List ℕ) (count at : ℕ) (rest : List ℕ) (missing : ℕ) : Type 0 where
  pub utf8 : IsUtf8 rest
  pub inside : at ≤ length row
  pub behind : drop at row ≡ rest
  pub so_far : front_whitespace count row ≡ take at row ++ front_whitespace missing rest

module _ (row : List ℕ) (count at : ℕ) (rest : List ℕ) (missing : ℕ) (w : Walks row count at rest missing) where
  pub walks_more : (i onward c : ℕ) (later : List ℕ) → (i ≡ at) × (rest ≡ encode_utf8 c ++ later) × (onward ≡ at + length (encode_utf8 c)) → is_whitespace c ≡ true → 0 < missing
      → Walks row count onward later (missing - 1)
  walks_more i onward c later h white some = record {
    utf8 = IsUtf8-past_char rest later c w.utf8 h.1;
    inside = omega (arith, h.2, w.inside, long, longer);
    behind = ap (λ k. drop k row) h.2 ∙ passed;
    so_far = w.so_far ∙ ap (λ xs. take at row ++ xs) (leading_more missing c rest later w.utf8 h.1 white some) ∙ sym (append_assoc (take at row) (encode_utf8 c) (front_whitespace (missing - 1) later))
        ∙ ap (λ xs. xs ++ front_whitespace (missing - 1) later) (sym taken) ∙ ap (λ k. take k row ++ front_whitespace (missing - 1) later) (sym h.2);
  }
    where
      whole : drop at row ≡ encode_utf8 c ++ later
      whole = w.behind ∙ h.1

      long : length (drop at row) ≡ length (encode_utf8 c ++ later)
      long = ap length whole

      longer : length row - at ≡ length (encode_utf8 c) + length later
      longer = sym (length-drop at row) ∙ long ∙ length-append (encode_utf8 c) later

      passed : drop (at + length (encode_utf8 c)) row ≡ later
      passed = sym (drop-drop (length (encode_utf8 c)) at row) ∙ ap (drop (length (encode_utf8 c))) whole ∙ drop-append_seam (encode_utf8 c) later

      taken : take (at + length (encode_utf8 c)) row ≡ take at row ++ encode_utf8 c
      taken = take-add at (length (encode_utf8 c)) row ∙ ap (λ xs. take at row ++ take (length (encode_utf8 c)) xs) whole ∙ ap (λ xs. take at row ++ xs) (take-append_seam (encode_utf8 c) later)

  ended : front_whitespace missing rest ≡ [] → take at row ≡ front_whitespace count row
  ended e = sym (w.so_far ∙ ap (λ xs. take at row ++ xs) e ∙ append-nil (take at row))

  pub walks_spent : (i : ℕ) → i ≡ at → missing ≡ 0 → take i row ≡ front_whitespace count row
  walks_spent i e none = ap (λ k. take k row) e ∙ ended (ap (λ n. front_whitespace n rest) none)

  pub walks_stopped : (i c : ℕ) (later : List ℕ) → i ≡ at → rest ≡ encode_utf8 c ++ later → is_whitespace c ≡ false → take i row ≡ front_whitespace count row
  walks_stopped i c later e came white = ap (λ k. take k row) e ∙ ended (leading_none missing c rest later w.utf8 came white)

  pub walks_ended : rest ≡ [] → take (length row) row ≡ front_whitespace count row
  walks_ended none = ap (λ k. take k row) same ∙ ended (leading_empty missing rest none)
    where
      same : length row ≡ at
      same = omega (arith, ap length (w.behind ∙ none), length-drop at row, w.inside)

-- the rows of a text, the first one taken off
pub rows_last : (xs : List ℕ) → prefix_len is_in_row xs ≡ length xs → rows_of xs ≡ xs ∷ []
rows_last xs e = slice_split_none (λ byte. byte == 10) xs (λ k d l. not-true _ (prefix_len_passes is_in_row xs k d (omega (arith, l, e))))

pub rows_more : (xs : List ℕ) → prefix_len is_in_row xs < length xs → rows_of xs ≡ take (prefix_len is_in_row xs) xs ∷ rows_of (drop (prefix_len is_in_row xs + 1) xs)
rows_more xs h =
    let n : ℕ = prefix_len is_in_row xs in
    let in_row : All (λ byte. (byte == 10) ≡ false) (take n xs) =
    λ k d l. let low : k < n = omega (arith, l, length-take n xs) in
    ap (λ byte. byte == 10) (get_or-take n xs k d low) ∙ not-true _ (prefix_len_passes is_in_row xs k d low) in
    ap rows_of (split_at_newline xs n h (is_newline _ (prefix_len_stops is_in_row xs 0 h)))
    ∙ slice_split_at (λ byte. byte == 10) (take n xs) 10 (drop (n + 1) xs) in_row refl
