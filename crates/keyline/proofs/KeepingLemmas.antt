-- Entries that are kept as they come.
use Rattle.std.proofs.Common.{◌≡◌, ◌≤◌, Bool, true, false, ℕ, zero, suc, List, [], ◌∷◌, ◌++◌, refl, sym, subst, ap, ◌∙◌, Option, Result, Ok, Err, arith, append-nil, append_assoc}
use Rattle.std.specs.Prelude.{◌==◌, ◌||◌, ◌&&◌, not, length, if◌then◌else◌}
use Rattle.std.proofs.lemmas.Bool.{and_parts}
use Rattle.std.proofs.lemmas.Grind.{flat_map-append}
use Rattle.line_config.specs.declared.errors.ReadlineError.{ReadlineError}
use Rattle.line_config.specs.declared.errors.ReadlineError.TheVariants.{Eof, Interrupted, NotUtf8, PasteOutOfPlace, Reader, Display, Lines, HistoryText, Helper, Handler, Memory}
use Rattle.line_help.specs.History.{Filed, Kept, begins_with_space, entries_after, history_with_line, history_with_lines, ignores_line, newest, newest_is, takes, takes_all}
use Rattle.line_help.specs.HistoryText.{row_of, rows_text}
use Rattle.line_help.proofs.InTurnLemmas.{added_when}
use Rattle.line_help.proofs.NewestLemmas.{newest_all_behind, newest_twice}
use Rattle.keyline.specs.Keeping.{AddsEntry, KeepsNewest, KeepsRows, history_ended, is_added, is_ended}
use Rattle.keyline.specs.SessionEffects.{SavesIf}
use Rattle.keyline.specs.Sessions.{history_with_if}

not_false : (b : Bool) → not b ≡ false → b ≡ true
not_false true e = refl
not_false false e = absurd (cc)

not_true : (b : Bool) → not b ≡ true → b ≡ false
not_true true e = absurd (cc)
not_true false e = refl

-- an ignored line leaves the history as it is
ignored_stays : (h : Filed) (line : List ℕ) → takes h line ≡ false → history_with_line h line ≡ h
ignored_stays h line not_taken = rw (not_false (ignores_line h.kept.settings h.kept.entries line) not_taken) refl

-- ---- a line

entry_by : (adds ended : Bool) (text : List ℕ) (old new : Filed) → new ≡ (if ended then history_with_if adds (text ∷ []) old else old)
    → AddsEntry ((adds && takes old text) && ended) old new
entry_by false true text old new is = is
entry_by false false text old new is = is
entry_by true false text old new is = elim (takes old text) as (λ b. AddsEntry (b && false) old new) [
  | true ↦ is
  | false ↦ is
]
entry_by true true text old new is =
    (elim (takes old text) as (λ b. takes old text ≡ b → AddsEntry (b && true) old new) [
      | true ↦ λ taken. (text, taken, is)
      | false ↦ λ ignored. is ∙ ignored_stays old text ignored
    ]) refl

-- what the end of a line leaves of the history is told by the flag
pub adds_entry : (adds : Bool) (outcome closed : Result (List ℕ) ReadlineError) (old new : Filed) → new ≡ history_ended adds outcome closed old
    → AddsEntry (is_added adds old outcome && is_ended closed) old new
adds_entry adds (Ok text) (Ok u) old new is = entry_by adds true text old new is
adds_entry adds (Ok text) (Err Display) old new is = entry_by adds false text old new is
adds_entry adds (Ok text) (Err Memory) old new is = entry_by adds false text old new is
adds_entry adds (Ok text) (Err Eof) old new is = entry_by adds true text old new is
adds_entry adds (Ok text) (Err Interrupted) old new is = entry_by adds true text old new is
adds_entry adds (Ok text) (Err NotUtf8) old new is = entry_by adds true text old new is
adds_entry adds (Ok text) (Err PasteOutOfPlace) old new is = entry_by adds true text old new is
adds_entry adds (Ok text) (Err Reader) old new is = entry_by adds true text old new is
adds_entry adds (Ok text) (Err Lines) old new is = entry_by adds true text old new is
adds_entry adds (Ok text) (Err HistoryText) old new is = entry_by adds true text old new is
adds_entry adds (Ok text) (Err Helper) old new is = entry_by adds true text old new is
adds_entry adds (Ok text) (Err Handler) old new is = entry_by adds true text old new is
adds_entry adds (Err e) (Ok u) old new is = is
adds_entry adds (Err e) (Err Display) old new is = is
adds_entry adds (Err e) (Err Memory) old new is = is
adds_entry adds (Err e) (Err Eof) old new is = is
adds_entry adds (Err e) (Err Interrupted) old new is = is
adds_entry adds (Err e) (Err NotUtf8) old new is = is
adds_entry adds (Err e) (Err PasteOutOfPlace) old new is = is
adds_entry adds (Err e) (Err Reader) old new is = is
adds_entry adds (Err e) (Err Lines) old new is = is
adds_entry adds (Err e) (Err HistoryText) old new is = is
adds_entry adds (Err e) (Err Helper) old new is = is
adds_entry adds (Err e) (Err Handler) old new is = is

-- a flag that is set if both are
pub flag_both : {added self a e : Bool} → added ≡ a → added ≡ true → self ≡ e → self ≡ (a && e)
flag_both {added} {self} {a} {e} added_is taken self_is = self_is ∙ sym (ap (λ b. b && e) (sym added_is ∙ taken))

pub flag_none : {added self a : Bool} (e : Bool) → added ≡ a → added ≡ false → self ≡ false → self ≡ (a && e)
flag_none {added} {self} {a} e added_is not_taken self_is = self_is ∙ sym (ap (λ b. b && e) (sym added_is ∙ not_taken))

pub adds_entry_by : (adds : Bool) (outcome closed : Result (List ℕ) ReadlineError) (flag : Bool) (old new : Filed) → new ≡ history_ended adds outcome closed old
    → flag ≡ (is_added adds old outcome && is_ended closed) → AddsEntry flag old new
adds_entry_by adds outcome closed flag old new is flag_is = subst (λ b. AddsEntry b old new) (sym flag_is) (adds_entry adds outcome closed old new is)

-- ---- its row

some_kept : (n : ℕ) (a b c : Bool) → (((n == 0) || a) || b) || c ≡ false → 1 ≤ n
some_kept zero a b c e = absurd (cc)
some_kept (suc n) a b c e = omega arith

-- a line that became an entry is the newest one
newest_is_it : (h : Filed) (line : List ℕ) → takes h line ≡ true → newest 1 (history_with_line h line).kept.entries ≡ line ∷ []
newest_is_it h line taken =
    let s = h.kept.settings in
    let entries = h.kept.entries in
    let not_ignored : ignores_line s entries line ≡ false = not_true (ignores_line s entries line) taken in
    let some = some_kept s.max_len (length line == 0) (s.ignore_space && begins_with_space line) (s.ignore_dups && newest_is line entries) not_ignored in
    ap (λ xs. newest 1 xs) (added_when s entries line not_ignored)
    ∙ (newest_twice 1 s.max_len (entries ++ line ∷ []) some ∙ newest_all_behind 1 entries (line ∷ []) refl)

-- ---- line after line

in_turn : (h : Filed) (xs ys : List (List ℕ)) → history_with_lines h (xs ++ ys) ≡ history_with_lines (history_with_lines h xs) ys
in_turn h [] ys = refl
in_turn h (x ∷ xs) ys = in_turn (history_with_line h x) xs ys

takes_more : (h : Filed) (lines : List (List ℕ)) (line : List ℕ) → takes_all h lines ≡ true → takes (history_with_lines h lines) line ≡ true
    → takes_all h (lines ++ line ∷ []) ≡ true
takes_more h [] line all taken = rw taken refl
takes_more h (x ∷ lines) line all taken =
    let parts = and_parts (takes h x) (takes_all (history_with_line h x) lines) all in
    rw (parts.0, takes_more (history_with_line h x) lines line parts.1 taken) refl

still_works : (before after : Bool) → (before ≡ true → after ≡ true) → after ≡ false → before ≡ false
still_works true after for_good works = absurd (let failed = for_good refl in cc)
still_works false after for_good works = refl

-- a history's entries after a line, and whether it takes the line, by its entries
abbrev kept_after : Kept → List ℕ → Kept
kept_after k line = record k { entries = entries_after k.settings k.entries line }

takes_by : (h h' : Filed) (line : List ℕ) → h.kept ≡ h'.kept → takes h line ≡ true → takes h' line ≡ true
takes_by h h' line same taken = subst (λ (k : Kept). not (ignores_line k.settings k.entries line) ≡ true) same taken

module _ {K : Type 0} (held : K → List ℕ) (failed : K → Bool) where
  pub keeps_none : (h : Filed) (k : K) → KeepsRows held failed h h k k
  keeps_none h k = record { added = []; all_taken = refl; entries_are = refl; sends = λ works. sym (append-nil (held k)) }

  -- how many entries are new doesn't matter
  pub keeps_by : (first before after : Filed) (k k' : K) → after.kept ≡ before.kept → KeepsRows held failed first before k k' → KeepsRows held failed first after k k'
  keeps_by first before after k k' same kept =
      record { added = kept.added; all_taken = kept.all_taken; entries_are = same ∙ kept.entries_are; sends = kept.sends }

  pub keeps_more : (added : Bool) (first before after : Filed) (k k' k'' : K) → KeepsRows held failed first before k k' → AddsEntry added before after
      → KeepsNewest held failed added after k' k'' → KeepsRows held failed first after k k''
  keeps_more false first before after k k' k'' kept same stays = rw (same, stays) kept
  keeps_more true first before after k k' k'' kept (line, taken, is) newest_row =
      let lines = kept.added in
      let at : before.kept ≡ (history_with_lines first lines).kept = kept.entries_are in
      let row : rows_text (newest 1 after.kept.entries) ≡ rows_text (line ∷ []) =
      ap (λ (h : Filed). rows_text (newest 1 h.kept.entries)) is ∙ ap rows_text (newest_is_it before line taken) in
      record {
        added = lines ++ line ∷ [];
        all_taken = takes_more first lines line kept.all_taken (takes_by before (history_with_lines first lines) line at taken);
        entries_are = ap (λ (h : Filed). h.kept) is ∙ (ap (λ (kept : Kept). kept_after kept line) at ∙ ap (λ (h : Filed). h.kept) (sym (in_turn first lines (line ∷ []))));
        sends = λ works.
            newest_row.1 works
            ∙ (ap (λ bytes. bytes ++ rows_text (newest 1 after.kept.entries)) (kept.sends (still_works (failed k') (failed k'') newest_row.0 works))
            ∙ (append_assoc (held k) (rows_text lines) _
            ∙ ap (λ bytes. held k ++ bytes) (ap (λ bytes. rows_text lines ++ bytes) row ∙ sym (flat_map-append row_of lines (line ∷ [])))));
      }

-- saving leaves the entries as they were
pub saved_kept : {T : Type 0} (held : T → List ℕ) (failed : T → Bool) (asked : Bool) (before after : Filed) (text text' : T) (saved : Bool)
    → SavesIf held failed asked before after text text' saved → after.kept ≡ before.kept
saved_kept held failed false before after text text' saved saves = ap (λ (h : Filed). h.kept) saves.1
saved_kept held failed true before after text text' true saves = ap (λ (h : Filed). h.kept) saves.saved
saved_kept held failed true before after text text' false saves = ap (λ (h : Filed). h.kept) saves.kept
