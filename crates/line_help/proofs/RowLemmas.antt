-- Rows of a text: a row up to its newline, the last row, a row that a failure cuts off.
use Rattle.std.proofs.Common.{◌≡◌, ◌≢◌, ℕ, suc, ◌+◌, ◌-◌, ◌<◌, ◌≤◌, le_trans, inl, inr, IsTrue, Bool, true, false, List, [], ◌∷◌, ◌++◌, length, take, refl, sym, ap, ◌∙◌, append_assoc, get_or, Option, Some, None, arith}
use Rattle.std.specs.Prelude.{if◌then◌else◌, ◌&&◌, ◌==◌, not, unwrap_or, Ok, Err}
use Rattle.std.specs.List.{list_any, position_or_len}
use Rattle.std.specs.Str.{is_utf8}
use Rattle.std.proofs.lemmas.List.{append-nil, get_or-take, length-take-le, nil_from_length, take_more}
use Rattle.std.proofs.lemmas.List.Sums.{fails_before_first, passes_at_first, position_or_len_is, prefix_len-le-length}
use Rattle.std.proofs.lemmas.List.Folds.{list_any-append, list_any_none}
use Rattle.std.proofs.lemmas.Bool.{and_right, cond_both, eq-eqb, eqb-true, false_from_ne_true, ne_eqb, or_from, or_parts}
use Rattle.memchr.specs.Find.{IsFirstByte, is_byte}
use Rattle.line_config.specs.Feed.{Feed, GivesBytes, device_failed, front_of}
use Rattle.line_config.specs.declared.device.Last.{Last, TheVariants.End, TheVariants.Failed}
use Rattle.line_config.specs.declared.errors.ReadlineError.{ReadlineError, TheVariants.Memory, TheVariants.Reader}
use Rattle.line_help.specs.HistoryText.{TakesPiece, text_rows, without_return, behind_row, EndIsMet, LosesRow, ReadsTextByte, ReadsGood, ReadsRow}

-- no newline stands among these bytes
abbrev pub has_newline : List ℕ → Bool
has_newline bytes = list_any (λ b. b == 10) bytes

-- ---- what stands before the first newline

pub newline_at : (xs : List ℕ) (found : Option ℕ) → IsFirstByte (is_byte 10) xs found → unwrap_or found (length xs) ≡ position_or_len (λ b. b == 10) xs
newline_at xs None nowhere =
    sym (position_or_len_is (λ b. b == 10) xs (length xs) 0 (omega arith) (λ k below. false_from_ne_true _ (nowhere k (omega arith) below)) (λ below. absurd (omega arith)))
newline_at xs (Some k) first =
    sym (position_or_len_is (λ b. b == 10) xs k 0 (omega (arith, first.0.high)) (λ j below. false_from_ne_true _ (first.0.before j (omega arith) below)) (λ below. first.1))

pub front_free : (p : ℕ → Bool) (xs : List ℕ) → list_any p (take (position_or_len p xs) xs) ≡ false
front_free p xs =
    let n = position_or_len p xs in
    let few : length (take n xs) ≡ n = length-take-le n xs (prefix_len-le-length (λ x. not (p x)) xs) in
    list_any_none p (take n xs) (λ k d low. let lt : k < n = omega arith in ap p (get_or-take n xs k d lt) ∙ fails_before_first p xs k d lt)

pub no_piece : (feed : Feed) (row : List ℕ) → TakesPiece feed feed row row
no_piece feed row = record {
  piece = [];
  given = record { gives = λ told. (told, refl); last = refl; failed = refl; falls = omega arith };
  row = sym (append-nil row);
  inside = refl;
}

-- the newline behind the first row of some bytes
up_to : (xs : List ℕ) (count : ℕ) → count ≡ position_or_len (λ b. b == 10) xs → count < length xs → take (count + 1) xs ≡ take count xs ++ (10 ∷ [])
up_to xs count e inside =
    let ten = passes_at_first (λ b. b == 10) xs 0 (rw e at inside) in
    let here : get_or xs count 0 ≡ 10 = ap (λ k. get_or xs k 0) e ∙ eqb-true (get_or xs (position_or_len (λ b. b == 10) xs) 0) 10 ten in
    take_more xs count 0 inside ∙ ap (λ b. take count xs ++ (b ∷ [])) here

pub last_return : (xs : List ℕ) → 0 < length xs → get_or xs (length xs - 1) 0 ≡ 13 → without_return xs ≡ take (length xs - 1) xs
last_return [] some e = absurd (omega arith)
last_return (b ∷ []) some e = rw (eq-eqb b 13 e) refl
last_return (b ∷ (c ∷ bs)) some e =
    let m : suc (length bs) - 1 ≡ length bs = omega arith in
    let n : suc (suc (length bs)) - 1 ≡ suc (length bs) = omega arith in
    let f = rw n at e in
    let g = last_return (c ∷ bs) (omega arith) (rw m f) in
    rw n (ap (λ t. b ∷ t) (rw m at g))

pub last_other : (xs : List ℕ) (d : ℕ) → 0 < length xs → get_or xs (length xs - 1) d ≢ 13 → without_return xs ≡ xs
last_other [] d some e = absurd (omega arith)
last_other (b ∷ []) d some e = rw (ne_eqb b 13 e) refl
last_other (b ∷ (c ∷ bs)) d some e =
    let m : suc (length bs) - 1 ≡ length bs = omega arith in
    let n : suc (suc (length bs)) - 1 ≡ suc (length bs) = omega arith in
    let f = rw n at e in
    ap (λ t. b ∷ t) (last_other (c ∷ bs) d (omega arith) (rw m f))

pub no_return : (xs : List ℕ) → length xs ≡ 0 → without_return xs ≡ xs
no_return xs none = rw (nil_from_length xs none) refl

pub ruleset row_steps = (last_return, no_return, newline_at)

one_byte : (return : Bool) (b : ℕ) (rows : List (List ℕ)) → (if return && true then [] ∷ rows else (b ∷ []) ∷ rows) ≡ (if return then [] else b ∷ []) ∷ rows
one_byte true b rows = refl
one_byte false b rows = refl

pub cut_row : (last : Last) (xs rest : List ℕ) → has_newline xs ≡ false → text_rows last (xs ++ 10 ∷ rest) ≡ without_return xs ∷ text_rows last rest
cut_row last [] rest none = refl
cut_row last (b ∷ []) rest none = rw (or_parts (b == 10) false none).0 (one_byte (b == 13) b (text_rows last rest))
cut_row last (b ∷ (c ∷ xs)) rest none =
    let here = or_parts (b == 10) (has_newline (c ∷ xs)) none in
    rw (here.0, cut_row last (c ∷ xs) rest here.1, (or_parts (c == 10) (has_newline xs) here.1).0, and_right (b == 13) false refl) refl

pub last_row : (b : ℕ) (xs : List ℕ) → has_newline (b ∷ xs) ≡ false → text_rows End (b ∷ xs) ≡ (b ∷ xs) ∷ []
last_row b [] none = rw ((or_parts (b == 10) false none).0, and_right (b == 13) false refl) refl
last_row b (c ∷ xs) none =
    let here = or_parts (b == 10) (has_newline (c ∷ xs)) none in
    rw (here.0, last_row c xs here.1, (or_parts (c == 10) (has_newline xs) here.1).0, and_right (b == 13) false refl) refl

pub cut_off : (xs : List ℕ) → has_newline xs ≡ false → text_rows Failed xs ≡ []
cut_off [] none = refl
cut_off (b ∷ xs) none =
    let here = or_parts (b == 10) (has_newline xs) none in
    rw (here.0, cut_off xs here.1) (cond_both _ _ _ (λ rows. rows ≡ []) (λ _. refl) (λ _. refl))

nothing_behind : (xs ys : List ℕ) → [] ≡ xs ++ ys → ys ≡ []
nothing_behind [] ys e = sym e
nothing_behind (x ∷ xs) ys e = cc

-- good rows read after this are good rows read from the text's start
abbrev pub GoodUpTo : List ℕ → List ℕ → Type 0
GoodUpTo text coming = (later : List ℕ) → ReadsGood coming later → ReadsGood text later

pub more_free : (xs ys : List ℕ) → has_newline xs ≡ false → has_newline ys ≡ false → has_newline (xs ++ ys) ≡ false
more_free xs ys one two = list_any-append (λ b. b == 10) xs ys ∙ or_from (has_newline xs) (has_newline ys) one two

pub none_read : (coming : List ℕ) → ReadsGood coming coming
none_read coming = record { read = []; split = refl; good = refl }

pub last_reads : (xs : List ℕ) → has_newline xs ≡ false → GoodUpTo xs []
last_reads xs none later r = record { read = xs; split = rw (nothing_behind r.read later r.split, append-nil) refl; good = rw (cut_off xs none) refl }

pub at_end : (row : List ℕ) (empty : Bool) → has_newline row ≡ false → empty ≡ (length row == 0) → text_rows End row ≡ (if not empty then row ∷ [] else [])
at_end [] empty none h = rw h refl
at_end (b ∷ row) empty none h = let f : (suc (length row) == 0) ≡ false = ne_eqb (suc (length row)) 0 (omega arith) in rw (h, f) (last_row b row none)

-- ---- what stands behind a row, and what of a row was read

pub behind_cut : (xs rest : List ℕ) → has_newline xs ≡ false → behind_row (xs ++ 10 ∷ rest) ≡ rest
behind_cut [] rest none = refl
behind_cut (b ∷ xs) rest none = let here = or_parts (b == 10) (has_newline xs) none in rw here.0 (behind_cut xs rest here.1)

pub behind_none : (xs : List ℕ) → has_newline xs ≡ false → behind_row xs ≡ []
behind_none [] none = refl
behind_none (b ∷ xs) none = let here = or_parts (b == 10) (has_newline xs) none in rw here.0 (behind_none xs here.1)

pub part_lost : (xs coming : List ℕ) → has_newline xs ≡ false → LosesRow (xs ++ coming) coming
part_lost xs coming none = record { lost = xs; split = refl; row = behind_none xs none }

pub row_lost : (xs coming : List ℕ) → has_newline xs ≡ false → LosesRow (xs ++ (10 ∷ coming)) coming
row_lost xs coming none = record { lost = xs ++ (10 ∷ []); split = sym (append_assoc xs (10 ∷ []) coming); row = behind_cut xs [] none }

-- a row that stands whole in what a source has, and what comes behind its newline
pub record StandsWhole (here onward row : List ℕ) : Type 0 where
  pub rows : (last : Last) → text_rows last here ≡ row ∷ text_rows last onward
  pub behind : onward ≡ behind_row here
  pub good : is_utf8 row ≡ true → GoodUpTo here onward
  pub lost : LosesRow here onward

whole_row : (xs here onward row : List ℕ) → has_newline xs ≡ false → here ≡ xs ++ (10 ∷ onward) → row ≡ without_return xs → StandsWhole here onward row
whole_row xs here onward row none cut is = record {
  rows = λ last. ap (text_rows last) cut ∙ cut_row last xs onward none ∙ ap (λ r. r ∷ text_rows last onward) (sym is);
  behind = sym (ap behind_row cut ∙ behind_cut xs onward none);
  good = λ utf8 later r. record {
    read = xs ++ (10 ∷ r.read);
    split = cut ∙ ap (λ bytes. xs ++ (10 ∷ bytes)) r.split ∙ sym (append_assoc xs (10 ∷ r.read) later);
    good = rw (cut_row Failed xs r.read none, (rw is at utf8)) r.good;
  };
  lost = rw cut (row_lost xs onward none);
}

pub stands_whole : (ready here onward row : List ℕ) (count : ℕ) → count ≡ position_or_len (λ b. b == 10) ready → count < length ready
    → here ≡ take (count + 1) ready ++ onward → row ≡ without_return (take count ready) → StandsWhole here onward row
stands_whole ready here onward row count e inside split is =
    let xs = take count ready in
    let none : has_newline xs ≡ false = ap (λ k. has_newline (take k ready)) e ∙ front_free (λ b. b == 10) ready in
    whole_row xs here onward row none
    (split ∙ ap (λ bytes. bytes ++ onward) (up_to ready count e inside) ∙ append_assoc xs (10 ∷ []) onward) is

-- a source that gives bytes has not met the end
pub still_met : (met : Bool) (old new : Feed) (bytes : List ℕ) → EndIsMet met old → GivesBytes old new bytes → EndIsMet met new
still_met met old new bytes ended given is = (
  given.failed ∙ (ended is).0,
  λ told.
      let gives = given.gives told in
      let end = (ended is).1 gives.0 in
      (nothing_behind bytes new.coming (sym end.0 ∙ gives.1), given.last ∙ end.1),
)

pub not_met : (met : Bool) (feed : Feed) → met ≡ false → EndIsMet met feed
not_met met feed e is = absurd (let k : false ≡ true = sym e ∙ is in cc)

-- ---- a row that is read: its bytes so far, and what remains

pub record RowSoFar (old here : Feed) (xs : List ℕ) : Type 0 where
  pub told : IsTrue here.told → IsTrue old.told
  pub split : IsTrue here.told → old.coming ≡ xs ++ here.coming
  pub last : here.last ≡ old.last
  pub bound : here.bound ≤ old.bound
  pub used : 0 < length xs → here.bound < old.bound
  pub inside : has_newline xs ≡ false

refused_front : (bytes : List ℕ) (last : Last) → Err device_failed ≡ front_of bytes last → (bytes ≡ []) × (last ≡ Failed)
refused_front (b ∷ bytes) last is = absurd cc
refused_front [] End is = absurd cc
refused_front [] Failed is = (refl, refl)

some_byte : (xs : List ℕ) (empty : Bool) → empty ≡ (length xs == 0) → not empty ≡ true → 0 < length xs
some_byte [] empty e is = absurd (let k : false ≡ true = rw e at is in cc)
some_byte (x ∷ xs) empty e is = omega arith

module _ (old here new : Feed) (xs : List ℕ) (so : RowSoFar old here xs) where
  pub row_ends : (bytes : List ℕ) (met : Bool) → met ≡ false → bytes ≡ without_return xs → ReadsTextByte here new (Ok (Some 10)) → ReadsRow old new bytes met (Ok true)
  row_ends bytes met unmet is byte =
      let w : IsTrue new.told → StandsWhole old.coming new.coming bytes = λ told.
      whole_row xs old.coming new.coming bytes so.inside (so.split (byte.gives.told told) ∙ ap (λ rest. xs ++ rest) (byte.gives.read told)) is in
      record {
        row = λ told. (w told).rows old.last;
        behind = λ told whole. (w told).behind;
        end = λ told none. absurd cc;
        cut = λ told none. absurd cc;
        lost = λ told. (w told).lost;
        good = λ told whole utf8. (w told).good utf8;
        memory = λ told none. absurd cc;
        ended = not_met met new unmet;
        fault = tt;
        failure = byte.gives.failure;
        told = λ told. so.told (byte.gives.told told);
        last = byte.gives.last ∙ so.last;
        falls = λ whole. omega (arith, byte.gives.falls, so.bound);
        keeps = le_trans byte.gives.keeps so.bound;
      }

  pub text_ends : (empty : Bool) → empty ≡ (length xs == 0) → ReadsTextByte here new (Ok None) → ReadsRow old new xs true (Ok (not empty))
  text_ends empty e byte =
      let none : IsTrue new.told → (here.coming ≡ []) × (here.last ≡ End) = λ told. byte.gives.end told refl in
      let last : IsTrue new.told → old.last ≡ End = λ told. sym so.last ∙ (none told).1 in
      let after : IsTrue new.told → new.coming ≡ [] = λ told. sym (byte.gives.read told) ∙ (none told).0 in
      let all : IsTrue new.told → old.coming ≡ xs = λ told. so.split (byte.gives.told told) ∙ ap (λ rest. xs ++ rest) (none told).0 ∙ append-nil xs in
      record {
        row = λ told. rw (last told, all told, after told) (at_end xs empty so.inside e);
        behind = λ told some. rw (all told, after told) (sym (behind_none xs so.inside));
        end = λ told some. (last told, after told);
        cut = λ told some. absurd cc;
        lost = λ told. rw (so.split (byte.gives.told told), (none told).0, after told) (part_lost xs [] so.inside);
        good = λ told some utf8 later r. rw (all told) (last_reads xs so.inside later (rw (after told) at r));
        memory = λ told some. absurd cc;
        ended = λ met. (byte.gives.failure, λ told. (after told, byte.gives.last ∙ (none told).1));
        fault = tt;
        failure = byte.gives.failure;
        told = λ told. so.told (byte.gives.told told);
        last = byte.gives.last ∙ so.last;
        falls = λ some. omega (arith, byte.gives.keeps, so.used (some_byte xs empty e (cc)));
        keeps = le_trans byte.gives.keeps so.bound;
      }

  -- the source fails
  pub row_cut : (e : ReadlineError) (met : Bool) → met ≡ false → ReadsTextByte here new (Err e) → ReadsRow old new xs met (Err Reader)
  row_cut e met unmet byte =
      let front : IsTrue new.told → (here.coming ≡ []) × (here.last ≡ Failed) = λ told. refused_front here.coming here.last (byte.gives.front told) in
      let last : IsTrue new.told → old.last ≡ Failed = λ told. sym so.last ∙ (front told).1 in
      let after : IsTrue new.told → new.coming ≡ [] = λ told. byte.gives.fault told ∙ (front told).0 in
      let all : IsTrue new.told → old.coming ≡ xs = λ told. so.split (byte.gives.told told) ∙ ap (λ rest. xs ++ rest) (front told).0 ∙ append-nil xs in
      record {
        row = λ told. tt;
        behind = λ told is. absurd cc;
        end = λ told is. absurd cc;
        cut = λ told is. (last told, after told, rw (last told, all told) (cut_off xs so.inside));
        lost = λ told. rw (so.split (byte.gives.told told), (front told).0, after told) (part_lost xs [] so.inside);
        good = λ told is. absurd cc;
        memory = λ told is. absurd cc;
        ended = not_met met new unmet;
        fault = inr refl;
        failure = byte.gives.failure;
        told = λ told. so.told (byte.gives.told told);
        last = byte.gives.last ∙ so.last;
        falls = λ is. absurd cc;
        keeps = le_trans byte.gives.keeps so.bound;
      }

  -- a byte other than a newline, and the bytes behind it that were buffered
  module _ (b : ℕ) (other : b ≢ 10) (byte : ReadsTextByte here new (Ok (Some b))) (later : Feed) (ys : List ℕ) (piece : TakesPiece new later (xs ++ (b ∷ [])) ys) where
    all_read : ys ≡ xs ++ (b ∷ piece.piece)
    all_read = piece.row ∙ append_assoc xs (b ∷ []) piece.piece

    split_on : IsTrue later.told → old.coming ≡ ys ++ later.coming
    split_on told =
        let given = piece.given.gives told in
        so.split (byte.gives.told given.0) ∙ ap (λ rest. xs ++ rest) (byte.gives.read given.0 ∙ ap (λ rest. b ∷ rest) given.1)
        ∙ sym (ap (λ bytes. bytes ++ later.coming) all_read ∙ append_assoc xs (b ∷ piece.piece) later.coming)

    free : has_newline ys ≡ false
    free = rw all_read (more_free xs (b ∷ piece.piece) so.inside (or_from (b == 10) (has_newline piece.piece) (ne_eqb b 10 other) piece.inside))

    pub row_goes_on : RowSoFar old later ys
    row_goes_on = record {
      told = λ told. so.told (byte.gives.told (piece.given.gives told).0);
      split = split_on;
      last = piece.given.last ∙ byte.gives.last ∙ so.last;
      bound = omega (arith, piece.given.falls, byte.gives.falls, so.bound);
      used = λ some. omega (arith, piece.given.falls, byte.gives.falls, so.bound);
      inside = free;
    }

    -- memory runs out
    pub row_unkept : (bytes : List ℕ) (met : Bool) → met ≡ false → ReadsRow old later bytes met (Err Memory)
    row_unkept bytes met unmet = record {
      row = λ told. tt;
      behind = λ told is. absurd cc;
      end = λ told is. absurd cc;
      cut = λ told is. absurd cc;
      lost = λ told. rw (split_on told) (part_lost ys later.coming free);
      good = λ told is. absurd cc;
      memory = λ told is. record { read = ys; split = split_on told; good = rw (cut_off ys free) refl };
      ended = not_met met later unmet;
      fault = inl refl;
      failure = piece.given.failed ∙ byte.gives.failure;
      told = λ told. so.told (byte.gives.told (piece.given.gives told).0);
      last = piece.given.last ∙ byte.gives.last ∙ so.last;
      falls = λ is. absurd cc;
      keeps = omega (arith, piece.given.falls, byte.gives.falls, so.bound);
    }
