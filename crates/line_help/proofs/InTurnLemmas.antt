-- Lines that are added one after the other to a list of entries.
use Rattle.std.proofs.Common.{◌≡◌, ℕ, zero, suc, ◌-◌, ◌≤◌, ◌<◌, Bool, true, false, List, [], ◌∷◌, ◌++◌, length, drop, refl, sym, ◌∙◌, ap, arith}
use Rattle.std.specs.Prelude.{◌==◌, ◌||◌, ◌&&◌}
use Rattle.std.proofs.lemmas.Bool.{and_parts, and_right, cond_both, eqb-false, or_from, or_parts}
use Rattle.std.proofs.lemmas.List.{append-nil, append_assoc, nil_from_length}
use Rattle.std.proofs.lemmas.Slice.Eq.{bytes_eq-Decides}
use Rattle.line_help.specs.History.{Settings, Filed, entries_after, begins_with_space, history_with_line, history_with_lines, ignores_line, newest, newest_is}
use Rattle.line_help.proofs.NewestLemmas.{all_new, length-newest, newest_behind, newest_all_behind}

abbrev pub added_all : Settings → List (List ℕ) → List (List ℕ) → List (List ℕ)
added_all s entries [] = entries
added_all s entries (line ∷ lines) = added_all s (entries_after s entries line) lines

-- each of them would be taken after the one before it
abbrev pub InTurn : Settings → List (List ℕ) → List (List ℕ) → Type 0
InTurn s before [] = Unit {0}
InTurn s before (line ∷ lines) = (ignores_line s before line ≡ false) × InTurn s (line ∷ []) lines

-- the list that a history has after these lines, and its settings
pub filed_kept : (h : Filed) (lines : List (List ℕ)) → (history_with_lines h lines).kept ≡ record { entries = added_all h.kept.settings h.kept.entries lines; settings = h.kept.settings }
filed_kept h [] = refl
filed_kept h (line ∷ lines) = filed_kept (history_with_line h line) lines

pub added_in_parts : (s : Settings) (entries xs ys : List (List ℕ)) → added_all s entries (xs ++ ys) ≡ added_all s (added_all s entries xs) ys
added_in_parts s entries [] ys = refl
added_in_parts s entries (x ∷ xs) ys = added_in_parts s (entries_after s entries x) xs ys

pub added_when : (s : Settings) (entries : List (List ℕ)) (line : List ℕ) → ignores_line s entries line ≡ false → entries_after s entries line ≡ newest s.max_len (entries ++ line ∷ [])
added_when s entries line e = rw e refl

-- older entries don't matter
newest_alone : (line last : List ℕ) (entries lines : List (List ℕ)) → newest_is line (entries ++ last ∷ lines) ≡ newest_is line (last ∷ lines)
newest_alone line last [] lines = refl
newest_alone line last (x ∷ []) lines = refl
newest_alone line last (x ∷ (y ∷ entries)) lines = newest_alone line last (y ∷ entries) lines

newest_of_drop : (line : List ℕ) (k : ℕ) (entries : List (List ℕ)) → k < length entries → newest_is line (drop k entries) ≡ newest_is line entries
newest_of_drop line zero entries some = refl
newest_of_drop line (suc k) [] some = absurd (omega arith)
newest_of_drop line (suc k) (x ∷ []) some = absurd (omega arith)
newest_of_drop line (suc k) (x ∷ (y ∷ entries)) some = newest_of_drop line k (y ∷ entries) (omega arith)

newest_of_newest : (line : List ℕ) (n : ℕ) (entries : List (List ℕ)) → 0 < n → newest_is line (newest n entries) ≡ newest_is line entries
newest_of_newest line n [] some = ap (λ xs. newest_is line xs) (all_new n [] (omega arith))
newest_of_newest line n (x ∷ entries) some = newest_of_drop line (length (x ∷ entries) - n) (x ∷ entries) (omega arith)

same_newest : (s : Settings) (xs ys : List (List ℕ)) (line : List ℕ) → newest_is line xs ≡ newest_is line ys → ignores_line s xs line ≡ ignores_line s ys line
same_newest s xs ys line e =
    ap (λ b. ((s.max_len == 0 || length line == 0) || (s.ignore_space && begins_with_space line)) || (s.ignore_dups && b)) e

some_room : (s : Settings) (entries : List (List ℕ)) (line : List ℕ) → ignores_line s entries line ≡ false → 0 < s.max_len
some_room s entries line e =
    let some = eqb-false s.max_len 0 (or_parts (s.max_len == 0) (length line == 0) (or_parts _ (s.ignore_space && begins_with_space line) (or_parts _ _ e).0).0).0 in
    omega arith

-- a line that is taken after another is taken first, too
taken_first : (s : Settings) (entries : List (List ℕ)) (line : List ℕ) → ignores_line s entries line ≡ false → ignores_line s [] line ≡ false
taken_first s entries line e =
    let others = (s.max_len == 0 || length line == 0) || (s.ignore_space && begins_with_space line) in
    or_from others (s.ignore_dups && false) (or_parts others (s.ignore_dups && newest_is line entries) e).0 (and_right s.ignore_dups false refl)

pub in_turn_alone : (s : Settings) (entries : List (List ℕ)) (last : List ℕ) (lines : List (List ℕ)) → InTurn s (last ∷ []) lines → InTurn s (entries ++ last ∷ []) lines
in_turn_alone s entries last [] t = tt
in_turn_alone s entries last (line ∷ lines) t = (same_newest s (entries ++ last ∷ []) (last ∷ []) line (newest_alone line last entries []) ∙ t.0, t.1)

in_turn_first : (s : Settings) (entries lines : List (List ℕ)) → InTurn s entries lines → InTurn s [] lines
in_turn_first s entries [] t = tt
in_turn_first s entries (line ∷ lines) t = (taken_first s entries line t.0, t.1)

in_turn_rest : (s : Settings) (k : ℕ) (lines : List (List ℕ)) → InTurn s [] lines → InTurn s [] (drop k lines)
in_turn_rest s zero lines t = t
in_turn_rest s (suc k) [] t = tt
in_turn_rest s (suc k) (line ∷ lines) t = in_turn_rest s k lines (in_turn_first s (line ∷ []) lines t.1)

in_turn_with : (s : Settings) (before lines : List (List ℕ)) (line : List ℕ) → InTurn s before lines → ignores_line s (before ++ lines) line ≡ false → InTurn s before (lines ++ line ∷ [])
in_turn_with s before [] line t e = (sym (same_newest s (before ++ []) before line (ap (λ xs. newest_is line xs) (append-nil before))) ∙ e, tt)
in_turn_with s before (x ∷ lines) line t e =
    (t.0, in_turn_with s (x ∷ []) lines line t.1 (sym (same_newest s (before ++ x ∷ lines) (x ∷ lines) line (newest_alone line x before lines)) ∙ e))

-- they all stand after what was there, as far as there is space
pub taken_in_turn : (s : Settings) (entries lines : List (List ℕ)) → InTurn s entries lines → added_all s (newest s.max_len entries) lines ≡ newest s.max_len (entries ++ lines)
taken_in_turn s entries [] t = sym (ap (λ xs. newest s.max_len xs) (append-nil entries))
taken_in_turn s entries (line ∷ lines) t =
    let same = same_newest s (newest s.max_len entries) entries line (newest_of_newest line s.max_len entries (some_room s entries line t.0)) in
    ap (λ xs. added_all s xs lines) (added_when s (newest s.max_len entries) line (same ∙ t.0) ∙ newest_behind s.max_len entries (line ∷ []))
    ∙ taken_in_turn s (entries ++ line ∷ []) lines (in_turn_alone s entries line lines t.1)
    ∙ ap (λ xs. newest s.max_len xs) (append_assoc entries (line ∷ []) lines)

ends_with : (line : List ℕ) (entries : List (List ℕ)) → newest_is line entries ≡ true → (front : List (List ℕ)) × (entries ≡ front ++ line ∷ [])
ends_with line [] e = cc
ends_with line (x ∷ []) e = ([], ap (λ y. y ∷ []) ((bytes_eq-Decides x line).0 e))
ends_with line (x ∷ (y ∷ entries)) e = let r = ends_with line (y ∷ entries) e in (x ∷ r.0, ap (λ xs. x ∷ xs) r.1)

-- a line that would be taken first is ignored after entries of which the newest is the line
ignored_repeats : (s : Settings) (entries : List (List ℕ)) (line : List ℕ) → ignores_line s entries line ≡ true → ignores_line s [] line ≡ false → newest_is line entries ≡ true
ignored_repeats s entries line e f =
    let others = (s.max_len == 0 || length line == 0) || (s.ignore_space && begins_with_space line) in
    (and_parts s.ignore_dups (newest_is line entries) (rw (or_parts others (s.ignore_dups && false) f).0 at e)).1

-- as many as there is space for take the place of all that was there
pub overwritten : (s : Settings) (entries lines : List (List ℕ)) → length entries ≤ s.max_len → InTurn s [] lines → length lines ≡ s.max_len → added_all s entries lines ≡ lines
overwritten s entries [] fits t e = nil_from_length entries (omega arith)
overwritten s entries (line ∷ lines) fits t e = by_case (ignores_line s entries line) refl where
  by_case : (b : Bool) → ignores_line s entries line ≡ b → added_all s (entries_after s entries line) lines ≡ line ∷ lines
  by_case false f =
      ap (λ xs. added_all s xs (line ∷ lines)) (sym (all_new s.max_len entries fits))
      ∙ taken_in_turn s entries (line ∷ lines) (f, t.1)
      ∙ newest_all_behind s.max_len entries (line ∷ lines) e
  by_case true f =
      let r = ends_with line entries (ignored_repeats s entries line f t.0) in
      let stays : entries_after s entries line ≡ entries = rw f refl in
      let behind : InTurn s entries lines = rw r.1 (in_turn_alone s r.0 line lines t.1) in
      ap (λ xs. added_all s xs lines) (stays ∙ sym (all_new s.max_len entries fits))
      ∙ taken_in_turn s entries lines behind
      ∙ ap (λ xs. newest s.max_len (xs ++ lines)) r.1
      ∙ ap (λ xs. newest s.max_len xs) (append_assoc r.0 (line ∷ []) lines)
      ∙ newest_all_behind s.max_len r.0 (line ∷ lines) e

-- what adding makes of such a list is such a list
pub stays_in_turn : (s : Settings) (entries : List (List ℕ)) (line : List ℕ) → InTurn s [] entries → InTurn s [] (entries_after s entries line)
stays_in_turn s entries line t = cond_both (ignores_line s entries line) entries (newest s.max_len (entries ++ line ∷ [])) (InTurn s []) (λ e. t)
    (λ e. in_turn_rest s (length (entries ++ line ∷ []) - s.max_len) (entries ++ line ∷ []) (in_turn_with s [] entries line t e))

pub stays_small : (s : Settings) (entries : List (List ℕ)) (line : List ℕ) → length entries ≤ s.max_len → length (entries_after s entries line) ≤ s.max_len
stays_small s entries line fits =
    let l = length-newest s.max_len (entries ++ line ∷ []) in
    cond_both (ignores_line s entries line) entries (newest s.max_len (entries ++ line ∷ [])) (λ xs. length xs ≤ s.max_len) (λ e. fits) (λ e. omega arith)

pub all_in_turn : (s : Settings) (entries lines : List (List ℕ)) → InTurn s [] entries → InTurn s [] (added_all s entries lines)
all_in_turn s entries [] t = t
all_in_turn s entries (line ∷ lines) t = all_in_turn s (entries_after s entries line) lines (stays_in_turn s entries line t)

pub all_small : (s : Settings) (entries lines : List (List ℕ)) → length entries ≤ s.max_len → length (added_all s entries lines) ≤ s.max_len
all_small s entries [] fits = fits
all_small s entries (line ∷ lines) fits = all_small s (entries_after s entries line) lines (stays_small s entries line fits)

-- such a list, added to nothing, gives itself
pub gives_itself : (s : Settings) (entries : List (List ℕ)) → InTurn s [] entries → length entries ≤ s.max_len → added_all s [] entries ≡ entries
gives_itself s entries t fits =
    ap (λ xs. added_all s xs entries) (sym (all_new s.max_len [] (omega arith)))
    ∙ taken_in_turn s [] entries t
    ∙ all_new s.max_len entries fits
