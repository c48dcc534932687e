-- A history and its text stand together after each step.
use Rattle.std.proofs.Common.{◌≡◌, ℕ, zero, suc, ◌+◌, ◌-◌, ◌≤◌, ◌<◌, ◌⊎◌, inl, inr, Bool, true, false, List, [], ◌∷◌, ◌++◌, length, drop, min, refl, sym, ◌∙◌, ap, subst, arith}
use Rattle.std.specs.Prelude.{◌==◌}
use Rattle.std.specs.List.{fold}
use Rattle.std.proofs.Math.Nat.{min-eq_left, min-eq_right}
use Rattle.std.proofs.lemmas.Bool.Decides.{Decides-eqb}
use Rattle.std.proofs.lemmas.Grind.{flat_map-append}
use Rattle.std.proofs.lemmas.List.{append-nil, append_assoc, length-append}
use Rattle.line_help.specs.HistoryCourse.{WrittenHistory, HistoryStep, Adds, Saves, Appends, Loads, after_step, CanStep, CanMake, CanComeBack, history_from_text, history_made_of, TextKeepsUp}
use Rattle.line_help.specs.History.{Settings, Filed, entries_after, all_saved, history_with_line, ignores_line, newest, nothing_filed}
use Rattle.line_help.specs.HistoryText.{header, row_of, rows_text, saved_text}
use Rattle.line_help.proofs.InTurnLemmas.{InTurn, added_all, added_in_parts, added_when, all_in_turn, all_small, filed_kept, gives_itself, overwritten, stays_in_turn, stays_small}
use Rattle.line_help.proofs.NewestLemmas.{all_new, length-newest, newest_twice, newest_with, none_new}
use Rattle.line_help.proofs.ReloadLemmas.{can_both, saved_back}

abbrev filed_of : Settings → List (List ℕ) → ℕ → Filed
filed_of s entries unsaved = record { kept = record { entries = entries; settings = s }; unsaved = unsaved }

-- the entries that were written, and after them those that are new, give the history
record RowsGiveHistory (s : Settings) (now : WrittenHistory) : Type 0 where
  entries : List (List ℕ)
  unsaved : ℕ
  rows : List (List ℕ)
  is : now.history ≡ filed_of s entries unsaved
  text : now.text ≡ saved_text rows
  back : CanComeBack rows
  turn : InTurn s [] entries
  fits : length entries ≤ s.max_len
  few : unsaved ≤ length entries
  gives : added_all s [] (rows ++ newest unsaved entries) ≡ entries

which : (a b : ℕ) → (a ≤ b) ⊎ (b < a)
which a b = grind arith

-- if nothing is new after the rows, they give the history
none_behind : (s : Settings) (rows entries : List (List ℕ)) → added_all s [] (rows ++ newest 0 entries) ≡ added_all s [] rows
none_behind s rows entries = ap (λ xs. added_all s [] (rows ++ xs)) (none_new entries) ∙ ap (λ xs. added_all s [] xs) (append-nil rows)

after_writing : (s : Settings) (now : WrittenHistory) (text : List ℕ) (rows : List (List ℕ)) (r : RowsGiveHistory s now) → text ≡ saved_text rows → CanComeBack rows → added_all s [] rows ≡ r.entries
    → RowsGiveHistory s (record { text = text; history = all_saved now.history })
after_writing s now text rows r of back gives = record {
  entries = r.entries;
  unsaved = 0;
  rows = rows;
  is = ap (λ h. all_saved h) r.is;
  text = of;
  back = back;
  turn = r.turn;
  fits = r.fits;
  few = omega arith;
  gives = none_behind s rows r.entries ∙ gives;
}

all_written : (s : Settings) (now : WrittenHistory) (r : RowsGiveHistory s now) → now.history.unsaved ≡ 0 → added_all s [] r.rows ≡ r.entries
all_written s now r e =
    let none : r.unsaved ≡ 0 = sym (ap (λ h. h.unsaved) r.is) ∙ e in
    sym (none_behind s r.rows r.entries) ∙ ap (λ n. added_all s [] (r.rows ++ newest n r.entries)) (sym none) ∙ r.gives

back_of_rest : (k : ℕ) (xs : List (List ℕ)) → CanComeBack xs → CanComeBack (drop k xs)
back_of_rest zero xs can = can
back_of_rest (suc k) [] can = tt
back_of_rest (suc k) (x ∷ xs) can = back_of_rest k xs can.1

rows_behind : (text : List ℕ) (rows more : List (List ℕ)) → text ≡ saved_text rows → text ++ rows_text more ≡ saved_text (rows ++ more)
rows_behind text rows more is = ap (λ t. t ++ rows_text more) is ∙ ap (λ t. header ++ (10 ∷ t)) (sym (flat_map-append row_of rows more))

made_is : (s : Settings) (rows : List (List ℕ)) → history_made_of s rows ≡ filed_of s (added_all s [] rows) 0
made_is s rows = let kept = filed_kept (nothing_filed s) rows in rw kept refl

loaded_is : (s : Settings) (text : List ℕ) (rows : List (List ℕ)) → text ≡ saved_text rows → CanComeBack rows → history_from_text s text ≡ filed_of s (added_all s [] rows) 0
loaded_is s text rows is back = ap (λ t. history_from_text s t) is ∙ saved_back s rows back ∙ made_is s rows

after_one : (s : Settings) (now : WrittenHistory) (step : HistoryStep) → CanStep step now → RowsGiveHistory s now → RowsGiveHistory s (after_step s step now)
after_one s now (Adds line) can r = by_case (ignores_line s r.entries line) refl where
  -- a line that becomes an entry is new, with those before it or as the first of all that are left
  on : ignores_line s r.entries line ≡ false → r.unsaved + 1 ≤ length (entries_after s r.entries line)
      → added_all s [] (r.rows ++ newest (r.unsaved + 1) (entries_after s r.entries line)) ≡ entries_after s r.entries line
  on e le =
      let small = stays_small s r.entries line r.fits in
      ap (λ xs. added_all s [] (r.rows ++ newest (r.unsaved + 1) xs)) (added_when s r.entries line e)
      ∙ ap (λ xs. added_all s [] (r.rows ++ xs)) (newest_twice (r.unsaved + 1) s.max_len (r.entries ++ line ∷ []) (omega arith) ∙ newest_with r.unsaved r.entries line)
      ∙ ap (λ xs. added_all s [] xs) (sym (append_assoc r.rows (newest r.unsaved r.entries) (line ∷ [])))
      ∙ added_in_parts s [] (r.rows ++ newest r.unsaved r.entries) (line ∷ [])
      ∙ ap (λ xs. entries_after s xs line) r.gives

  over : ignores_line s r.entries line ≡ false → length (entries_after s r.entries line) < r.unsaved + 1
      → added_all s [] (r.rows ++ newest (length (entries_after s r.entries line)) (entries_after s r.entries line)) ≡ entries_after s r.entries line
  over e lt =
      let after = entries_after s r.entries line in
      let l : length after ≡ length (r.entries ++ line ∷ []) - (length (r.entries ++ line ∷ []) - s.max_len) =
      ap (λ xs. length xs) (added_when s r.entries line e) ∙ length-newest s.max_len (r.entries ++ line ∷ []) in
      let m = length-append r.entries (line ∷ []) in
      let few = r.few in
      ap (λ xs. added_all s [] (r.rows ++ xs)) (all_new (length after) after (omega arith))
      ∙ added_in_parts s [] r.rows after
      ∙ overwritten s (added_all s [] r.rows) after (all_small s [] r.rows (omega arith)) (stays_in_turn s r.entries line r.turn) (omega arith)

  by_case : (b : Bool) → ignores_line s r.entries line ≡ b → RowsGiveHistory s (after_step s (Adds line) now)
  by_case true e =
      let same : now.history ≡ history_with_line now.history line = r.is ∙ sym (ap (λ h. history_with_line h line) r.is ∙ rw e refl) in
      subst (λ h. RowsGiveHistory s (record { text = now.text; history = h })) same r
  by_case false e =
      let after = entries_after s r.entries line in
      record {
        entries = after;
        unsaved = min (r.unsaved + 1) (length after);
        rows = r.rows;
        is = ap (λ h. history_with_line h line) r.is ∙ rw e refl;
        text = r.text;
        back = r.back;
        turn = stays_in_turn s r.entries line r.turn;
        fits = stays_small s r.entries line r.fits;
        few = omega arith;
        gives = elim (which (r.unsaved + 1) (length after)) [
          | inl le ↦ rw (min-eq_left le) (on e le)
          | inr lt ↦ let le : length after ≤ r.unsaved + 1 = omega arith in rw (min-eq_right le) (over e lt)
        ];
      }
after_one s now Saves can r = by_case (now.history.unsaved == 0) refl where
  by_case : (b : Bool) → (now.history.unsaved == 0) ≡ b → RowsGiveHistory s (after_step s Saves now)
  by_case true e = rw e (after_writing s now now.text r.rows r r.text r.back (all_written s now r ((Decides-eqb now.history.unsaved 0).0 e)))
  by_case false e = rw e (after_writing s now (saved_text now.history.kept.entries) now.history.kept.entries r refl can
      (ap (λ h. added_all s [] h.kept.entries) r.is ∙ gives_itself s r.entries r.turn r.fits))
after_one s now Appends can r = by_case (now.history.unsaved == 0) refl where
  new : List (List ℕ)
  new = newest now.history.unsaved now.history.kept.entries

  same : new ≡ newest r.unsaved r.entries
  same = ap (λ h. newest h.unsaved h.kept.entries) r.is

  by_case : (b : Bool) → (now.history.unsaved == 0) ≡ b → RowsGiveHistory s (after_step s Appends now)
  by_case true e =
      rw (e, append-nil now.text)
      (after_writing s now now.text r.rows r r.text r.back (all_written s now r ((Decides-eqb now.history.unsaved 0).0 e)))
  by_case false e =
      rw e (after_writing s now (now.text ++ rows_text new) (r.rows ++ new) r (rows_behind now.text r.rows new r.text)
      (can_both r.rows new r.back (back_of_rest (length now.history.kept.entries - now.history.unsaved) now.history.kept.entries can))
      (ap (λ xs. added_all s [] (r.rows ++ xs)) same ∙ r.gives))
after_one s now Loads can r = record {
  entries = added_all s [] r.rows;
  unsaved = 0;
  rows = r.rows;
  is = loaded_is s now.text r.rows r.text r.back;
  text = r.text;
  back = r.back;
  turn = all_in_turn s [] r.rows tt;
  fits = all_small s [] r.rows (omega arith);
  few = omega arith;
  gives = none_behind s r.rows (added_all s [] r.rows);
}

-- what steps make of a history and its text
abbrev after_steps : Settings → List HistoryStep → WrittenHistory → WrittenHistory
after_steps s steps now = fold (λ n step. after_step s step n) now steps

after_all : (s : Settings) (steps : List HistoryStep) (now : WrittenHistory) → CanMake s steps now → RowsGiveHistory s now → RowsGiveHistory s (after_steps s steps now)
after_all s [] now can r = r
after_all s (step ∷ steps) now can r = after_all s steps (after_step s step now) can.1 (after_one s now step can.0 r)

comes_back : (s : Settings) (now : WrittenHistory) → RowsGiveHistory s now → now.history.unsaved ≡ 0 → history_from_text s now.text ≡ now.history
comes_back s now r e =
    loaded_is s now.text r.rows r.text r.back ∙ ap (λ xs. filed_of s xs 0) (all_written s now r e)
    ∙ ap (λ n. filed_of s r.entries n) (sym e ∙ ap (λ h. h.unsaved) r.is) ∙ sym r.is

-- a history made of these lines, with all of it saved
abbrev just_saved : Settings → List (List ℕ) → WrittenHistory
just_saved s lines = let made = history_made_of s lines in record { text = saved_text made.kept.entries; history = made }

stands_first : (s : Settings) (lines : List (List ℕ)) → CanComeBack (just_saved s lines).history.kept.entries → RowsGiveHistory s (just_saved s lines)
stands_first s lines can =
    let entries = added_all s [] lines in
    let e : (history_made_of s lines).kept.entries ≡ entries = ap (λ h. h.kept.entries) (made_is s lines) in
    let turn = all_in_turn s [] lines tt in
    let fits = all_small s [] lines (omega arith) in
    record {
      entries = entries;
      unsaved = 0;
      rows = entries;
      is = made_is s lines;
      text = ap (λ xs. saved_text xs) e;
      back = rw e at can;
      turn = turn;
      fits = fits;
      few = omega arith;
      gives = none_behind s entries entries ∙ gives_itself s entries turn fits;
    }

pub text_keeps_up_holds : TextKeepsUp
text_keeps_up_holds s lines steps back can e = comes_back s (after_steps s steps (just_saved s lines)) (after_all s steps (just_saved s lines) can (stands_first s lines back)) e
