-- Where a text may be cut, and texts of several copies.
use Rattle.std.proofs.Common.{◌≡◌, ℕ, zero, suc, ◌+◌, ◌-◌, ◌*◌, ◌^◌, ◌<◌, ◌≤◌, Bool, true, false, List, [], ◌∷◌, length, refl, sym, ap, ◌∙◌, subst, arith, IsTrue, ◌↔◌, IsUtf8, IsCharBoundary, if◌then◌else◌, Some, ◌==◌, encode_utf8, eqb-true}
use Rattle.std.specs.List.{repeat}
use Rattle.std.proofs.lemmas.List.{length-append, append-nil, get_or_past}
use Rattle.std.proofs.lemmas.Bool.Decides.{nat_tests}
use Rattle.std.proofs.lemmas.Str.{IsCharBoundary-start}
use Rattle.line_buffer.specs.Event.{ChangeEvent, InsertStr, ChangeEvent.InsertChar}
use Rattle.line_buffer.specs.Insertions.{has_room, with_text_at_cursor, no_insertion, insertion_by, insertion_of, insert, Insertion, yank}
use Rattle.line_buffer.specs.Line.{Line}
use Rattle.std.specs.Fmt.Cut.{floor_char_boundary}
use Rattle.std.specs.Fmt.{is_char_start}
use Rattle.std.specs.Prelude.{slice_index}

inside : (text : List ℕ) (n : ℕ) → n ≤ length text → (IsCharBoundary text n → ⊥) → is_char_start (slice_index text n) ≡ false
inside text n le never = grind (arith, nat_tests)

pub not_inside : (text : List ℕ) (n : ℕ) → IsCharBoundary text n → is_char_start (slice_index text n) ≡ true
not_inside text n b = grind (arith, nat_tests, get_or_past text n 0)

last_cut_here : (text : List ℕ) (n : ℕ) → IsCharBoundary text n → floor_char_boundary text n ≡ n
unfolding floor_char_boundary
last_cut_here text zero b = refl
last_cut_here text (suc n) b = rw (not_inside text (suc n) b) refl

last_cut_back : (text : List ℕ) (n : ℕ) → IsUtf8 text → n ≤ length text → (IsCharBoundary text n → ⊥) → (1 ≤ n) × (floor_char_boundary text (n - 1) ≡ floor_char_boundary text n)
unfolding floor_char_boundary
last_cut_back text zero u le never = absurd (never (IsCharBoundary-start text u))
last_cut_back text (suc n) u le never = (omega arith, (let e : suc n - 1 ≡ n = omega arith in ap (floor_char_boundary text) e) ∙ (rw (inside text (suc n) le never) refl))

-- a turn of the search for a cut, and its end
pub not_cut : (text : List ℕ) (n : ℕ) (r : Bool) → (IsTrue r ↔ IsCharBoundary text n) → r ≡ false → IsUtf8 text → n ≤ length text → (1 ≤ n) × (floor_char_boundary text (n - 1) ≡ floor_char_boundary text n)
not_cut text n r test is u le = last_cut_back text n u le (λ b. cc ((subst (λ v. IsTrue v ↔ IsCharBoundary text n) is test).1 b))

pub is_cut : (text : List ℕ) (n : ℕ) (r : Bool) → (IsTrue r ↔ IsCharBoundary text n) → r ≡ true → floor_char_boundary text n ≡ n
is_cut text n r test is = last_cut_here text n ((subst (λ v. IsTrue v ↔ IsCharBoundary text n) is test).0 refl)

length-repeat : (n : ℕ) (xs : List ℕ) → length (repeat n xs) ≡ n * length xs
length-repeat zero xs = omega arith
length-repeat (suc n) xs = length-append xs (repeat n xs) ∙ ap (λ k. length xs + k) (length-repeat n xs) ∙ (let e : length xs + n * length xs ≡ suc n * length xs = grind arith in e)

-- more bytes than any number of them
pub too_long : (l : Line) (count m : ℕ) → l.limit < 2 ^ 64 → (m < 2 ^ 64 → ⊥) → m ≡ count → l.growth ≡ has_room count l
too_long l count m small large e = let far : l.limit < count = grind (arith, small, large, e) in grind (arith, nat_tests, far)

-- the bytes of n copies, counted by the code
pub copies_length : (xs : List ℕ) (n m : ℕ) → m ≡ n → length xs * m ≡ length (repeat n xs)
copies_length xs n m e = let long = length-repeat n xs in grind (arith, e, long)

-- ---- what holds of an edit that inserts nothing, and of one that inserts a text, holds of an insertion

abbrev pub inserted : ChangeEvent → List ℕ → Line → Insertion
inserted told added l = record { answer = Some (l.place == length l.text); events = told ∷ []; line = with_text_at_cursor added l }

insertion_cases : (P : Insertion → Type 0) (told : ChangeEvent) (added : List ℕ) (l : Line) → P (no_insertion l) → P (inserted told added l) → P (insertion_by told added l)
insertion_cases P told added l none some = elim (has_room (length added) l) as (λ b. P (if b then inserted told added l else no_insertion l)) [ true ↦ some | false ↦ none ]

pub insert_cases : (P : Insertion → Type 0) (c n : ℕ) (l : Line) → P (no_insertion l) → (n ≡ 1 → P (inserted (InsertChar l.place c) (encode_utf8 c) l))
    → P (inserted (InsertStr l.place (repeat n (encode_utf8 c))) (repeat n (encode_utf8 c)) l) → P (insert c n l)
insert_cases P c n l none one many = by (n == 1) refl
  where
    by : (b : Bool) → (n == 1) ≡ b → P (if b then insertion_by (InsertChar l.place c) (encode_utf8 c) l else insertion_of (encode_utf8 c) n l)
    by true e = insertion_cases P (InsertChar l.place c) (encode_utf8 c) l none (one (eqb-true n 1 e))
    by false e = insertion_cases P (InsertStr l.place (repeat n (encode_utf8 c))) (repeat n (encode_utf8 c)) l none many

pub yank_cases : (P : Insertion → Type 0) (text : List ℕ) (n : ℕ) (l : Line) → P (no_insertion l) → P (inserted (InsertStr l.place (repeat n text)) (repeat n text) l) → P (yank text n l)
yank_cases P text n l none some =
    elim (length text == 0) as (λ b. P (if b then no_insertion l else insertion_of text n l)) [ true ↦ none | false ↦ insertion_cases P (InsertStr l.place (repeat n text)) (repeat n text) l none some ]

-- one copy is the text itself
pub one_insertion : (text : List ℕ) (n : ℕ) (l : Line) → n ≡ 1 → insertion_by (InsertStr l.place text) text l ≡ insertion_of text n l
one_insertion text n l e =
    ap (λ added. insertion_by (InsertStr l.place added) added l) (let same : text ≡ repeat n text = rw e (sym (append-nil text)) in same)

-- what is told if there is space
pub told_where_room : (told : ChangeEvent) (added : List ℕ) (l : Line) → true ≡ has_room (length added) l → (insertion_by told added l).events ≡ told ∷ []
told_where_room told added l e = ap (λ b. (if b then inserted told added l else no_insertion l).events) (sym e)

pub told_of_one : (c n size : ℕ) (l : Line) → n ≡ 1 → size ≡ length (encode_utf8 c) → true ≡ has_room size l → (insert c n l).events ≡ InsertChar l.place c ∷ []
told_of_one c n size l one len e =
    ap (λ k. (insert c k l).events) one ∙ told_where_room (InsertChar l.place c) (encode_utf8 c) l (e ∙ ap (λ k. has_room k l) len)
