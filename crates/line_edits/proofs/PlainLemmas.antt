-- What edits leave plain.
use Rattle.std.proofs.Common.{◌≡◌, ℕ, zero, suc, ◌+◌, ◌==◌, ◌&&◌, ◌||◌, ◌<◌, ◌≤◌, not, Bool, true, false, List, [], ◌∷◌, ◌++◌, take, drop, refl, sym, ap, subst, ◌∙◌, encode_utf8, arith, length, append-nil, is_none, Result, Ok, Err, OnOk, is_ok, slice_range}
use Rattle.std.specs.List.{replace_range, repeat}
use Rattle.std.proofs.lemmas.Bool.{and_parts, and_from, or_right, ne_eqb}
use Rattle.std.proofs.lemmas.Bool.Decides.{nat_tests}
use Rattle.std.proofs.lemmas.List.{take-append-drop}
use Rattle.std.proofs.lemmas.List.Folds.{list_all-append, drop_split}
use Rattle.std.proofs.lemmas.Str.{encode_ascii, char_from_byte, length-encode, len_utf8_bounds}
use Rattle.line_buffer.specs.Insertions.{insert as insertion, yank as yanked_in}
use Rattle.line_buffer.specs.Event.{line_after_event, line_after_events}
use Rattle.line_buffer.specs.Line.{Line}
use Rattle.line_buffer.specs.Indent.{rows_covered, rows_of, front_whitespace, row_event, row_len, row_events, spaces, indent as indented_in}
use Rattle.line_buffer.specs.Rows.{row_start, row_end}
use Rattle.line_buffer.specs.Printable.{is_plain, is_plain_byte}
use Rattle.line_buffer.proofs.InsertionLemmas.{insert_cases, yank_cases}
use Rattle.line_buffer.specs.declared.types.Movement.{Movement}

swapped : (a b c : Bool) → ((a && b) && c) ≡ ((a && c) && b)
swapped a b c = grind (arith, nat_tests)

absorbed : (a b : Bool) → (a && (b || a)) ≡ a
absorbed a b = grind (arith, nat_tests)

with_true : (a : Bool) → a ≡ (a && true)
with_true a = grind (arith, nat_tests)

same_answer : (a b : Bool) → (a ≡ true → b ≡ true) → (b ≡ true → a ≡ true) → a ≡ b
same_answer a b f g = grind (arith, nat_tests)

-- ---- a text by its parts

parted_is : (n : ℕ) (text : List ℕ) → is_plain text ≡ (is_plain (take n text) && is_plain (drop n text))
parted_is n text = ap is_plain (sym (take-append-drop n text)) ∙ list_all-append is_plain_byte (take n text) (drop n text)

replaced_is : (from upto : ℕ) (text added : List ℕ) → is_plain (replace_range text from upto added) ≡ ((is_plain (take from text) && is_plain added) && is_plain (drop upto text))
replaced_is from upto text added =
    list_all-append is_plain_byte (take from text ++ added) (drop upto text) ∙ ap (λ b. b && is_plain (drop upto text)) (list_all-append is_plain_byte (take from text) added)

replaced_plain : (from upto : ℕ) (text added : List ℕ) → is_plain text ≡ true → is_plain added ≡ true → is_plain (replace_range text from upto added) ≡ true
replaced_plain from upto text added h g =
    let front = and_parts (is_plain (take from text)) (is_plain (drop from text)) (sym (parted_is from text) ∙ h) in
    let rest = and_parts (is_plain (take upto text)) (is_plain (drop upto text)) (sym (parted_is upto text) ∙ h) in
    replaced_is from upto text added ∙ and_from _ _ (and_from _ _ front.0 g) rest.1

repeated_is : (n : ℕ) (text : List ℕ) → is_plain (repeat n text) ≡ ((n == 0) || is_plain text)
repeated_is zero text = refl
repeated_is (suc n) text =
    list_all-append is_plain_byte text (repeat n text) ∙ ap (λ b. is_plain text && b) (repeated_is n text) ∙ absorbed (is_plain text) (n == 0)
    ∙ sym (ap (λ b. b || is_plain text) (ne_eqb (suc n) 0 (λ e. absurd (omega (arith, e)))))

-- ---- a character

byte_low : (byte : ℕ) → is_plain_byte byte ≡ true → byte < 128
byte_low byte h = grind (arith, nat_tests)

spelled_plain : (c : ℕ) (bytes : List ℕ) → bytes ≡ encode_utf8 c → 0 < length bytes → is_plain bytes ≡ true → is_plain_byte c ≡ true
spelled_plain c [] is some h = absurd (omega (arith, some))
spelled_plain c (byte ∷ bytes) is some h =
    let first = (and_parts (is_plain_byte byte) (is_plain bytes) h).0 in
    subst (λ b. is_plain_byte b ≡ true) (sym (char_from_byte (byte ∷ bytes) [] c (is ∙ sym (append-nil (encode_utf8 c))) (byte_low byte first) some)) first

pub char_is_plain : (c : ℕ) → is_plain (encode_utf8 c) ≡ is_plain_byte c
char_is_plain c =
    same_answer _ _ (spelled_plain c (encode_utf8 c) refl (omega (arith, length-encode c, (len_utf8_bounds c).0)))
    (λ h. ap is_plain (encode_ascii c (byte_low c h)) ∙ and_from (is_plain_byte c) true h refl)

-- ---- what is deleted

by_deleted : (front deleted rest : Bool) → (front && rest) ≡ ((front && (deleted && rest)) || (not deleted && (front && rest)))
by_deleted front deleted rest = grind (arith, nat_tests)

spanned_is : (from upto : ℕ) (text : List ℕ) → from ≤ upto → is_plain text ≡ (is_plain (take from text) && (is_plain (slice_range text from upto) && is_plain (drop upto text)))
spanned_is from upto text order =
    parted_is from text
    ∙ ap (λ b. is_plain (take from text) && b) (ap is_plain (drop_split text from upto order) ∙ list_all-append is_plain_byte (slice_range text from upto) (drop upto text))

-- a plain range leaves a text that isn't plain as it is
pub without_is : (from upto : ℕ) (text : List ℕ) → from ≤ upto → is_plain (replace_range text from upto [])
    ≡ (is_plain text || (not (is_plain (slice_range text from upto)) && (is_plain (take from text) && is_plain (drop upto text))))
without_is from upto text order =
    let front = is_plain (take from text) in
    let deleted = is_plain (slice_range text from upto) in
    let rest = is_plain (drop upto text) in
    replaced_is from upto text [] ∙ ap (λ b. b && rest) (sym (with_true front)) ∙ by_deleted front deleted rest
    ∙ sym (ap (λ b. b || (not deleted && (front && rest))) (spanned_is from upto text order))

-- ---- what is put in

pub inserted_is : (at : ℕ) (text added : List ℕ) → is_plain (replace_range text at at added) ≡ (is_plain text && is_plain added)
inserted_is at text added =
    replaced_is at at text added ∙ swapped (is_plain (take at text)) (is_plain added) (is_plain (drop at text)) ∙ ap (λ b. b && is_plain added) (sym (parted_is at text))

pub typed_is : (c n : ℕ) (l : Line) → is_plain (insertion c n l).line.text ≡ (is_plain l.text && (is_none (insertion c n l).answer || ((n == 0) || is_plain (encode_utf8 c))))
typed_is c n l =
    insert_cases (λ x. is_plain x.line.text ≡ (is_plain l.text && (is_none x.answer || ((n == 0) || is_plain (encode_utf8 c))))) c n l (with_true (is_plain l.text))
    (λ one. inserted_is l.place l.text (encode_utf8 c) ∙ ap (λ m. is_plain l.text && ((m == 0) || is_plain (encode_utf8 c))) (sym one))
    (inserted_is l.place l.text (repeat n (encode_utf8 c)) ∙ ap (λ b. is_plain l.text && b) (repeated_is n (encode_utf8 c)))

pub yanked_is : (text : List ℕ) (n : ℕ) (l : Line) → is_plain (yanked_in text n l).line.text ≡ (is_plain l.text && (is_none (yanked_in text n l).answer || ((n == 0) || is_plain text)))
yanked_is text n l =
    yank_cases (λ x. is_plain x.line.text ≡ (is_plain l.text && (is_none x.answer || ((n == 0) || is_plain text)))) text n l (with_true (is_plain l.text))
    (inserted_is l.place l.text (repeat n text) ∙ ap (λ b. is_plain l.text && b) (repeated_is n text))

-- ---- rows moved in or out

moved_plain : (amount : ℕ) (dedent : Bool) (at : ℕ) (row : List ℕ) (l : Line) → is_plain l.text ≡ true → is_plain (line_after_event (row_event (spaces amount) dedent at row) l).text ≡ true
moved_plain amount true at row l h = replaced_plain at (at + length (front_whitespace (length (spaces amount)) row)) l.text [] h refl
moved_plain amount false at row l h = replaced_plain at (at + 0) l.text (spaces amount) h (repeated_is amount (32 ∷ []) ∙ or_right (amount == 0) true refl)

rows_plain : (amount : ℕ) (dedent : Bool) (at : ℕ) (rows : List (List ℕ)) (l : Line) → is_plain l.text ≡ true → is_plain (line_after_events (row_events (spaces amount) dedent at rows) l).text ≡ true
unfolding line_after_events row_events
rows_plain amount dedent at [] l h = h
rows_plain amount dedent at (row ∷ rows) l h =
    rows_plain amount dedent (at + row_len (spaces amount) dedent row + 1) rows (line_after_event (row_event (spaces amount) dedent at row) l) (moved_plain amount dedent at row l h)

pub indented_plain : (movement : Movement) (amount : ℕ) (dedent : Bool) (l : Line) → is_plain l.text ≡ true → is_plain (indented_in movement amount dedent l).line.text ≡ true
indented_plain movement amount dedent l h =
    let first = row_start l.text (rows_covered movement l).0 in
    rows_plain amount dedent first (rows_of (slice_range l.text first (row_end l.text (rows_covered movement l).1))) l h

-- ---- a call that was answered leaves the line that it makes

pub answered_plain : {A E : Type 0} (result : Result A E) (made after : Line) → OnOk result (after ≡ made) → is_ok result ≡ true → is_plain made.text ≡ true → is_plain after.text ≡ true
answered_plain (Ok a) made after ok answered g = ap (λ l. is_plain l.text) ok ∙ g
answered_plain (Err e) made after ok answered g = absurd (cc)
