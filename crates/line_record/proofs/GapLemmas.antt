-- Two lists of bytes, the second from the text's end: bytes passed from one to the other, and a text exchanged at their seam.
use Rattle.std.proofs.Common.{◌≡◌, ℕ, ◌+◌, ◌-◌, ◌<◌, ◌≤◌, List, [], ◌∷◌, ◌++◌, length, take, drop, reverse, refl, sym, ap, subst, ◌∙◌, arith, append_assoc, length-append, Bool, false, Result, Ok, Err, IsErrAnd, IsUtf8, IsCharBoundary}
use Rattle.std.proofs.Math.Seq.{take-append_seam, drop-append_seam}
use Rattle.std.proofs.lemmas.List.{append-nil, drop_all, take_all, take_at, take-append-drop, take-take, length-drop, length-reverse, reverse-append}
use Rattle.std.proofs.lemmas.Str.{IsUtf8-drop, IsCharBoundary-at_seam}
use borrow.Rule.Slice.PartMut.{post_of}
use Rattle.line_buffer.specs.Line.{Line}
use Rattle.line_record.specs.Change.{Change, text_with_exchange}
use Rattle.line_record.specs.Items.{Items, line_after_undo, line_after_redo, lines_back, lines_ahead, UndoesItems, last_changes}
use Rattle.line_record.proofs.Exchange.{exchanged}
use Rattle.line_buffer.specs.Event.{StandsAt}

-- the bytes before a gap, and those after it in reverse
abbrev pub text_around_gap : List ℕ → List ℕ → List ℕ
text_around_gap before after = before ++ reverse after

-- only the text and the cursor
abbrev pub without_limits : Line → Line
without_limits l = record l { growth = false; limit = 0 }

-- a line with another one's text and cursor
abbrev pub with_text_of : Line → Line → Line
with_text_of l m = record l { text = m.text; place = m.place }

-- a list whose second part was turned round, as a vector sees it
pub turned : (xs ys new d e : List ℕ) (s len : ℕ) → d ≡ e → e ≡ xs ++ ys → s ≡ length xs → new ≡ reverse (take (length d - s) (drop s d)) → len ≡ length e
    → take len ((take s d ++ (new ++ post_of s (length d - s) d)) ++ drop (length (take s d ++ (new ++ post_of s (length d - s) d))) e) ≡ xs ++ reverse ys
turned xs ys new d e s len same held place round all =
    let is : d ≡ xs ++ ys = same ∙ held in
    let front : take s d ≡ xs = ap (take s) is ∙ ap (λ k. take k (xs ++ ys)) place ∙ take-append_seam xs ys in
    let back : drop s d ≡ ys = ap (drop s) is ∙ ap (λ k. drop k (xs ++ ys)) place ∙ drop-append_seam xs ys in
    let long : length ys ≤ length d - s = omega (arith, ap (λ l. length l) back, length-drop s d) in
    let part : new ≡ reverse ys = round ∙ ap (λ l. reverse (take (length d - s) l)) back ∙ ap reverse (take_all (length d - s) ys long) in
    let post : post_of s (length d - s) d ≡ [] = drop_all (length d - s) (drop s d) (omega (arith, length-drop s d)) in
    let whole : take s d ++ (new ++ post_of s (length d - s) d) ≡ xs ++ reverse ys = rw (front, part, post, append-nil) refl in
    let size : length (xs ++ reverse ys) ≡ len = omega (arith, all, ap (λ l. length l) held, length-append xs (reverse ys), length-append xs ys, length-reverse ys) in
    ap (λ w. take len (w ++ drop (length w) e)) whole ∙ take_at (xs ++ reverse ys) (drop (length (xs ++ reverse ys)) e) len size

pub last_part : (xs d : List ℕ) (size count : ℕ) → d ≡ xs → size ≡ length xs → take (length d - (size - count)) (drop (size - count) d) ≡ drop (length xs - count) xs
last_part xs d size count is long =
    take_all (length d - (size - count)) (drop (size - count) d) (omega (arith, length-drop (size - count) d)) ∙ ap (drop (size - count)) is ∙ ap (λ n. drop (n - count) xs) long

-- the seam after it
pub moved_on : (xs ys : List ℕ) (to size : ℕ) → size ≡ length xs → size ≤ to → to ≤ length (text_around_gap xs ys)
    → (xs ++ reverse (drop (length ys - (to - size)) ys) ≡ take to (text_around_gap xs ys)) × (reverse (take (length ys - (to - size)) ys) ≡ drop to (text_around_gap xs ys))
moved_on xs ys to size is more inside =
    let n = length ys - (to - size) in
    let kept = take n ys in
    let passed = drop n ys in
    let parts : kept ++ passed ≡ ys = take-append-drop n ys in
    let turned : reverse ys ≡ reverse passed ++ reverse kept = ap reverse (sym parts) ∙ reverse-append kept passed in
    let whole : text_around_gap xs ys ≡ (xs ++ reverse passed) ++ reverse kept = ap (λ l. xs ++ l) turned ∙ sym (append_assoc xs (reverse passed) (reverse kept)) in
    let long : length (xs ++ reverse passed) ≡ to =
    omega (arith, is, more, inside, length-append xs (reverse passed), length-reverse passed, length-drop n ys, length-append xs (reverse ys), length-reverse ys) in (
      sym (ap (take to) whole ∙ ap (λ k. take k ((xs ++ reverse passed) ++ reverse kept)) (sym long) ∙ take-append_seam (xs ++ reverse passed) (reverse kept)),
      sym (ap (drop to) whole ∙ ap (λ k. drop k ((xs ++ reverse passed) ++ reverse kept)) (sym long) ∙ drop-append_seam (xs ++ reverse passed) (reverse kept)),
    )

-- a text before the seam exchanged for another
pub record Seam (front after : List ℕ) : Type 0 where
  pub utf8 : IsUtf8 (text_around_gap front after)
  pub place : IsCharBoundary (text_around_gap front after) (length front)

pub seam_exchanged : (at upto : ℕ) (from to text front after : List ℕ) → upto ≡ at + length from → front ≡ take at (take upto text) ++ to → reverse after ≡ drop upto text
    → StandsAt at from to text → IsUtf8 text → Seam front after
seam_exchanged at upto from to text front after is before behind s u =
    let first : take at (take upto text) ≡ take at text = take-take at upto text (omega (arith, is)) in
    let whole : text_around_gap front after ≡ text_with_exchange at from to text =
    ap (λ l. l ++ reverse after) (before ∙ ap (λ l. l ++ to) first) ∙ ap (λ l. (take at text ++ to) ++ l) (behind ∙ ap (λ k. drop k text) is) in
    let rest : IsUtf8 (reverse after) = subst IsUtf8 (sym (behind ∙ ap (λ k. drop k text) is)) (IsUtf8-drop text (at + length from) u s.end) in
    record {
      utf8 = subst IsUtf8 (sym whole) (exchanged at from to text s u).utf8;
      place = IsCharBoundary-at_seam (text_around_gap front after) front (reverse after) refl rest;
    }

-- the seam moved alone
pub seam_moved : (upto : ℕ) (text front after : List ℕ) → front ≡ take upto text → reverse after ≡ drop upto text → text_around_gap front after ≡ text
seam_moved upto text front after before behind =
    ap (λ l. l ++ reverse after) before ∙ ap (λ l. take upto text ++ l) behind ∙ take-append-drop upto text

-- a line that takes over what was made of its text and cursor alone
back_over : (cs : List Change) (l m : Line) → lines_back cs (with_text_of l m) ≡ with_text_of l (lines_back cs m)
back_over [] l m = refl
back_over (c ∷ cs) l m = ap (line_after_undo c) (back_over cs l m)

ahead_over : (cs : List Change) (l m : Line) → lines_ahead cs (with_text_of l m) ≡ with_text_of l (lines_ahead cs m)
ahead_over [] l m = refl
ahead_over (c ∷ cs) l m = ahead_over cs l (line_after_redo c m)

pub back_apart : (cs : List Change) (l : Line) → with_text_of l (lines_back cs (without_limits l)) ≡ lines_back cs l
back_apart cs l = sym (back_over cs l (without_limits l))

pub ahead_apart : (cs : List Change) (l : Line) → with_text_of l (lines_ahead cs (without_limits l)) ≡ lines_ahead cs l
ahead_apart cs l = sym (ahead_over cs l (without_limits l))

-- a failure that leaves the line as it was: none of the changes is undone
pub nothing_undone : {E : Type 0} (n : ℕ) (old new : Items) (before after : Line) (e : E) (result : Result Bool E) → IsErrAnd result (λ x. x ≡ e) → 0 < length (last_changes n old.done) → after ≡ before
    → UndoesItems n old new before after result
nothing_undone n old new before after e (Ok b) is some kept = absurd is
nothing_undone n old new before after e (Err x) is some kept =
    let cs = last_changes n old.done in
    let all : length cs ≤ length cs = omega arith in
    record {
      answer = tt;
      items = tt;
      back = record {
        line = tt;
        part = record { left = length cs; some = some; inside = all; line = kept ∙ sym (ap (λ ds. lines_back ds before) (drop_all (length cs) cs all)) };
      };
    }
