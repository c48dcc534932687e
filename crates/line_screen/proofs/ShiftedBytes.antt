-- The bytes of letters that move in their rows, row by row.
use Rattle.std.proofs.Common.{◌≡◌, ℕ, zero, suc, ◌+◌, ◌-◌, ◌<◌, ◌≤◌, Bool, true, false, List, [], ◌∷◌, ◌++◌, length, get_or, take, drop, inl, inr, Some, None, refl, sym, ap, ◌∙◌, arith, append_assoc, append-nil, length-append, length-drop}
use Rattle.std.specs.List.{slice_get}
use Rattle.std.proofs.lemmas.Bool.{ne_eqb, eq-eqb, le-leb, lt-leb, cases_lt}
use Rattle.std.proofs.lemmas.List.{drop-append-le, take-append-drop, length-take-le}
use Rattle.line_screen.specs.Drawing.{row_break, take_cells_out, col_move, put_in, pushed_on, put_and_pushed, insertion_bytes, pulled_back}
use Rattle.line_screen.proofs.Parts.{begin_inserting, end_inserting, refilled}

-- ---- letters that move on

-- letters behind a row's first cell, which don't fill the row
pushed_inside : (inserting : Bool) (columns col n : ℕ) (xs : List ℕ) → 0 < col → col + n ≡ columns → length xs < n → pushed_on inserting columns col xs ≡ []
pushed_inside inserting columns col n [] low is short = refl
pushed_inside inserting columns col zero (c ∷ cs) low is short = absurd (omega arith)
pushed_inside inserting columns col (suc m) (c ∷ cs) low is short =
    rw (ne_eqb col 0 (λ s. omega arith), ne_eqb (col + 1) columns (λ s. omega arith))
    (pushed_inside inserting columns (col + 1) m cs (omega arith) (omega arith) (omega arith))

-- letters that fill it
pushed_out : (inserting : Bool) (columns col : ℕ) (row next : List ℕ) → 0 < col → 0 < length row → col + length row ≡ columns
    → pushed_on inserting columns col (row ++ next) ≡ row_break ++ pushed_on inserting columns 0 next
pushed_out inserting columns col [] next low some is = absurd (omega arith)
pushed_out inserting columns col (c ∷ []) next low some is =
    rw (ne_eqb col 0 (λ s. omega arith), eq-eqb (col + 1) columns (omega arith)) refl
pushed_out inserting columns col (c ∷ d ∷ cs) next low some is =
    rw (ne_eqb col 0 (λ s. omega arith), ne_eqb (col + 1) columns (λ s. omega arith))
    (pushed_out inserting columns (col + 1) (d ∷ cs) next (omega arith) (omega arith) (omega arith))

-- a full row, and the last one
full_row : (inserting : Bool) (columns : ℕ) (row next : List ℕ) → 0 < columns → length row ≡ columns
    → pushed_on inserting columns 0 (row ++ next) ≡ put_in inserting (get_or row 0 0 ∷ []) ++ (row_break ++ pushed_on inserting columns 0 next)
full_row inserting columns [] next some is = absurd (omega arith)
full_row inserting columns (c ∷ []) next some is =
    rw (eq-eqb (0 + 1) columns (omega arith)) (append_assoc (put_in inserting (c ∷ [])) row_break (pushed_on inserting columns 0 next))
full_row inserting columns (c ∷ d ∷ cs) next some is =
    let first = put_in inserting (c ∷ []) in
    rw (ne_eqb (0 + 1) columns (λ s. omega arith))
    (ap (λ bs. bs ++ pushed_on inserting columns 1 (d ∷ (cs ++ next))) (append-nil first)
    ∙ ap (λ bs. first ++ bs) (pushed_out inserting columns 1 (d ∷ cs) next (omega arith) (omega arith) (omega arith)))

pub pushed_row : (inserting : Bool) (columns : ℕ) (row next : List ℕ) {before : List ℕ} → before ≡ row ++ next → 0 < columns → length row ≡ columns
    → pushed_on inserting columns 0 before ≡ put_in inserting (get_or row 0 0 ∷ []) ++ (row_break ++ pushed_on inserting columns 0 next)
pushed_row inserting columns row next is some full = ap (pushed_on inserting columns 0) is ∙ full_row inserting columns row next some full

pub pushed_last : (inserting : Bool) (columns c : ℕ) (xs : List ℕ) → length xs < columns → Some c ≡ slice_get xs 0
    → pushed_on inserting columns 0 xs ≡ put_in inserting (c ∷ [])
pushed_last inserting columns c [] short first = absurd (cc)
pushed_last inserting columns c (x ∷ xs) short first =
    let same : x ≡ c = cc in
    let one = put_in inserting (x ∷ []) in
    rw (ne_eqb (0 + 1) columns (λ s. omega arith))
    (ap (λ bs. (one ++ []) ++ bs) (pushed_inside inserting columns 1 (columns - 1) xs (omega arith) (omega arith) (omega arith))
    ∙ append-nil (one ++ []) ∙ append-nil one ∙ ap (λ y. put_in inserting (y ∷ [])) same)

pub pushed_none : (inserting : Bool) (columns : ℕ) (xs : List ℕ) → None ≡ slice_get xs 0 → pushed_on inserting columns 0 xs ≡ []
pushed_none inserting columns [] none = refl
pushed_none inserting columns (x ∷ xs) none = absurd (cc)

-- a character before letters that end in its row
pub inserted_short : (inserting : Bool) (columns col : ℕ) (character rest : List ℕ) → col < columns → length rest < columns - col - 1
    → put_and_pushed inserting columns col character rest ≡ put_in inserting character
inserted_short inserting columns col character rest inside short =
    let first = put_in inserting character in
    rw (ne_eqb (col + 1) columns (λ s. omega arith), pushed_inside inserting columns (col + 1) (columns - col - 1) rest (omega arith) (omega arith) (omega arith))
    (append-nil (first ++ []) ∙ append-nil first)

-- and before letters that go on in other rows
inserted_row : (inserting : Bool) (columns col : ℕ) (character row next : List ℕ) → col < columns → length row ≡ columns - col - 1
    → put_and_pushed inserting columns col character (row ++ next) ≡ put_in inserting character ++ (row_break ++ pushed_on inserting columns 0 next)
inserted_row inserting columns col character [] next inside is =
    rw (eq-eqb (col + 1) columns (omega arith)) (append_assoc (put_in inserting character) row_break (pushed_on inserting columns 0 next))
inserted_row inserting columns col character (c ∷ cs) next inside is =
    rw (ne_eqb (col + 1) columns (λ s. omega arith), pushed_out inserting columns (col + 1) (c ∷ cs) next (omega arith) (omega arith) (omega arith))
    (ap (λ bs. bs ++ (row_break ++ pushed_on inserting columns 0 next)) (append-nil (put_in inserting character)))

pub inserted_on : (inserting : Bool) (columns col n : ℕ) (character rest : List ℕ) → col < columns → n ≡ columns - col - 1 → n ≤ length rest
    → put_and_pushed inserting columns col character rest ≡ put_in inserting character ++ (row_break ++ pushed_on inserting columns 0 (drop n rest))
inserted_on inserting columns col n character rest inside is long =
    ap (put_and_pushed inserting columns col character) (sym (take-append-drop n rest))
    ∙ inserted_row inserting columns col character (take n rest) (drop n rest) inside (length-take-le n rest long ∙ is)

-- insert mode is begun for them, or not
pub not_inserting : (columns col : ℕ) (character rest : List ℕ) → length rest + col < columns + columns → insertion_bytes columns col character rest ≡ put_and_pushed false columns col character rest
not_inserting columns col character rest short = rw (lt-leb (columns + columns) (col + length rest) (omega arith)) refl

pub inserting_them : (columns col : ℕ) (character rest : List ℕ) → columns + columns ≤ length rest + col
    → insertion_bytes columns col character rest ≡ begin_inserting ++ (put_and_pushed true columns col character rest ++ end_inserting)
inserting_them columns col character rest long = rw (le-leb (columns + columns) (col + length rest) (omega arith)) refl

-- ---- letters that move back

-- nothing comes from the next row, or something
refilled_none : (columns count start : ℕ) (row : List ℕ) → length row ≤ columns - start - count → refilled columns count start row ≡ []
refilled_none columns count start row none = rw (le-leb (length row) (columns - start - count) none) refl

pub refilled_some : (columns count start : ℕ) (row : List ℕ) → columns - start - count < length row
    → refilled columns count start row ≡ take_cells_out count ++ (col_move start (columns - count) ++ drop (columns - start - count) row)
refilled_some columns count start row some = rw (lt-leb (length row) (columns - start - count) some) refl

-- letters of the next row, of which `n` fill this one
abbrev drawn_back : ℕ → ℕ → ℕ → List ℕ → List ℕ
drawn_back columns count zero xs = row_break ++ pulled_back columns count 0 0 xs
drawn_back columns count (suc n) [] = take_cells_out count
drawn_back columns count (suc n) (c ∷ cs) = c ∷ drawn_back columns count n cs

drawn_last : (columns count n : ℕ) (xs : List ℕ) → length xs < n → drawn_back columns count n xs ≡ xs ++ take_cells_out count
drawn_last columns count zero xs short = absurd (omega arith)
drawn_last columns count (suc n) [] short = refl
drawn_last columns count (suc n) (c ∷ cs) short = ap (λ bs. c ∷ bs) (drawn_last columns count n cs (omega arith))

drawn_row : (columns count n : ℕ) (row next : List ℕ) → length row ≡ n
    → drawn_back columns count n (row ++ next) ≡ row ++ (row_break ++ pulled_back columns count 0 0 next)
drawn_row columns count zero [] next is = refl
drawn_row columns count zero (c ∷ cs) next is = absurd (omega arith)
drawn_row columns count (suc n) [] next is = absurd (omega arith)
drawn_row columns count (suc n) (c ∷ cs) next is = ap (λ bs. c ∷ bs) (drawn_row columns count n cs next (omega arith))

-- the letters behind the first one that comes from the next row
pulled_behind : (columns count start col n : ℕ) (xs : List ℕ) → columns < col + count → 0 < n → col + n ≡ columns
    → pulled_back columns count start col xs ≡ drawn_back columns count n xs
pulled_behind columns count start col zero xs past some is = absurd (omega arith)
pulled_behind columns count start col (suc n) [] past some is = refl
pulled_behind columns count start col (suc zero) (c ∷ cs) past some is =
    rw (ne_eqb (col + count) columns (λ s. omega arith), le-leb columns (col + count) (omega arith), eq-eqb (col + 1) columns (omega arith)) refl
pulled_behind columns count start col (suc (suc n)) (c ∷ cs) past some is =
    rw (ne_eqb (col + count) columns (λ s. omega arith), le-leb columns (col + count) (omega arith), ne_eqb (col + 1) columns (λ s. omega arith))
    (ap (λ bs. c ∷ bs) (pulled_behind columns count start (col + 1) (suc n) cs (omega arith) (omega arith) (omega arith)))

-- the first one, and the letters behind it
pulled_first : (columns count start col c : ℕ) (cs : List ℕ) → 0 < count → col + count ≡ columns
    → pulled_back columns count start col (c ∷ cs) ≡ take_cells_out count ++ (col_move start col ++ drawn_back columns count count (c ∷ cs))
pulled_first columns zero start col c cs some is = absurd (omega arith)
pulled_first columns (suc zero) start col c cs some is =
    rw (eq-eqb (col + suc zero) columns is, le-leb columns (col + suc zero) (omega arith))
    (ap (λ bs. take_cells_out 1 ++ bs) (append_assoc (col_move start col) (c ∷ []) (row_break ++ pulled_back columns 1 0 0 cs)))
pulled_first columns (suc (suc n)) start col c cs some is =
    let count : ℕ = suc (suc n) in
    let out = take_cells_out count in
    let way = col_move start col in
    let behind = pulled_back columns count start (col + 1) cs in
    rw (eq-eqb (col + suc (suc n)) columns is, le-leb columns (col + suc (suc n)) (omega arith), ne_eqb (col + 1) columns (λ s. omega arith))
    (append_assoc (out ++ way) (c ∷ []) behind ∙ append_assoc out way (c ∷ behind)
    ∙ ap (λ bs. out ++ (way ++ c ∷ bs)) (pulled_behind columns count start (col + 1) (suc n) cs (omega arith) (omega arith) (omega arith)))

-- the letters that stay in the row, so many at the most
pulled_kept : (columns count start col k : ℕ) (xs : List ℕ) → 0 < count → col + k + count ≡ columns → length xs ≤ k
    → pulled_back columns count start col xs ≡ take_cells_out count
pulled_kept columns count start col k [] some is short = refl
pulled_kept columns count start col zero (c ∷ cs) some is short = absurd (omega arith)
pulled_kept columns count start col (suc k) (c ∷ cs) some is short =
    rw (ne_eqb (col + count) columns (λ s. omega arith), lt-leb columns (col + count) (omega arith), ne_eqb (col + 1) columns (λ s. omega arith))
    (pulled_kept columns count start (col + 1) k cs some (omega arith) (omega arith))

-- and others behind them
pulled_over : (columns count start col k : ℕ) (xs : List ℕ) → 0 < count → col + k + count ≡ columns → k < length xs
    → pulled_back columns count start col xs ≡ take_cells_out count ++ (col_move start (columns - count) ++ drawn_back columns count count (drop k xs))
pulled_over columns count start col k [] some is long = absurd (omega arith)
pulled_over columns count start col zero (c ∷ cs) some is long =
    let here : col ≡ columns - count = omega arith in
    pulled_first columns count start col c cs some (omega arith)
    ∙ ap (λ n. take_cells_out count ++ (col_move start n ++ drawn_back columns count count (c ∷ cs))) here
pulled_over columns count start col (suc k) (c ∷ cs) some is long =
    rw (ne_eqb (col + count) columns (λ s. omega arith), lt-leb columns (col + count) (omega arith), ne_eqb (col + 1) columns (λ s. omega arith))
    (pulled_over columns count start (col + 1) k cs some (omega arith) (omega arith))

-- a row with others behind it: what fills its end, and what comes then
refilled_then : (columns count start : ℕ) (row behind : List ℕ) → columns - start - count < length row
    → take_cells_out count ++ (col_move start (columns - count) ++ (drop (columns - start - count) row ++ behind)) ≡ refilled columns count start row ++ behind
refilled_then columns count start row behind some =
    let out = take_cells_out count in
    let way = col_move start (columns - count) in
    let end = drop (columns - start - count) row in
    ap (λ bs. out ++ bs) (sym (append_assoc way end behind)) ∙ sym (append_assoc out (way ++ end) behind)
    ∙ ap (λ bs. bs ++ behind) (sym (refilled_some columns count start row some))

-- a full row
pub pulled_row : (columns count start : ℕ) (row next : List ℕ) {before : List ℕ} → before ≡ row ++ next → 0 < count → start + count ≤ columns
    → length row ≡ columns - start
    → pulled_back columns count start start before ≡ refilled columns count start row ++ (row_break ++ pulled_back columns count 0 0 next)
pulled_row columns count start row next is some room full =
    let kept = columns - start - count in
    let behind = row_break ++ pulled_back columns count 0 0 next in
    let low : kept ≤ length row = omega arith in
    let over : kept < length row = omega arith in
    let left : length (drop kept row) ≡ count = length-drop kept row ∙ omega arith in
    ap (pulled_back columns count start start) is
    ∙ pulled_over columns count start start kept (row ++ next) some (omega arith) (omega (arith, length-append row next))
    ∙ ap (λ xs. take_cells_out count ++ (col_move start (columns - count) ++ drawn_back columns count count xs)) (drop-append-le kept row next low)
    ∙ ap (λ bs. take_cells_out count ++ (col_move start (columns - count) ++ bs)) (drawn_row columns count count (drop kept row) next left)
    ∙ refilled_then columns count start row behind over

-- the last row
pub pulled_last : (columns count start : ℕ) (rest : List ℕ) → 0 < count → start + count ≤ columns → length rest < columns - start
    → pulled_back columns count start start rest ≡ refilled columns count start rest ++ take_cells_out count
pulled_last columns count start rest some room short =
    let kept = columns - start - count in
    elim (cases_lt kept (length rest)) [
      | inl over ↦
          pulled_over columns count start start kept rest some (omega arith) over
          ∙ ap (λ bs. take_cells_out count ++ (col_move start (columns - count) ++ bs)) (drawn_last columns count count (drop kept rest) (omega (arith, length-drop kept rest)))
          ∙ refilled_then columns count start rest (take_cells_out count) over
      | inr none ↦
          pulled_kept columns count start start kept rest some (omega arith) none
          ∙ sym (ap (λ bs. bs ++ take_cells_out count) (refilled_none columns count start rest none))
    ]
