-- Loading: one row after the other.
use Rattle.std.proofs.Common.{◌≡◌, ◌≢◌, ℕ, ◌<◌, Bool, true, false, List, [], ◌∷◌, ◌++◌, length, refl, sym, ◌∙◌, ap, ap₂, append_assoc, subst}
use Rattle.std.specs.Prelude.{Result, if◌then◌else◌, ◌&&◌, not, IsUtf8, IfErr, Ok, Err, IsOk, bytes_eq}
use Rattle.std.proofs.Math.Bool.{and-true, and_assoc}
use Rattle.std.proofs.lemmas.Bool.{false_from_ne_true, true_from_ne_false}
use Rattle.std.proofs.lemmas.List.{nil_from_length}
use Rattle.std.proofs.lemmas.List.Folds.{list_any-append}
use Rattle.std.specs.Result.{is_ok, MatchResult, OnOk}
use Rattle.std.specs.Str.{is_utf8, chars}
use Rattle.std.proofs.lemmas.Str.{IsUtf8-from_is_utf8, is_utf8-from_IsUtf8, IsUtf8-nil}
use Rattle.std.proofs.lemmas.Slice.Eq.{bytes_eq-Decides}
use lib.Utf8.{encode}
use Rattle.line_config.specs.declared.device.Last.{Last, TheVariants.End, TheVariants.Failed}
use Rattle.line_config.specs.declared.errors.ReadlineError.{ReadlineError, TheVariants.HistoryText, TheVariants.Memory}
use Rattle.line_help.specs.History.{Filed, all_saved, history_with_line, history_with_lines, takes_all, ignores_line}
use Rattle.line_help.specs.HistoryText.{LosesRow, behind_row, behind_rows, text_rows, entries_of, entry_of, good_rows, has_bad_row, header, load_answer, load_leaves, rows_answer, texts_of, LoadsSome, rest_after_load}
use Rattle.line_help.proofs.RowLemmas.{GoodUpTo}

-- bytes that were read as a text are one; bytes that failed as a text are none
pub read_utf8 : {X E : Type 0} (P : X → Type 0) (Q : E → Type 0) (bytes : List ℕ) (read : Result X E) → MatchResult read P Q → IsOk read
    → ((x : X) → P x → IsUtf8 bytes) → is_utf8 bytes ≡ true
read_utf8 P Q bytes (Ok x) p e makes = is_utf8-from_IsUtf8 bytes (makes x p)
read_utf8 P Q bytes (Err y) p e makes = absurd (let k : false ≡ true = e in cc)

pub unread_utf8 : {X E : Type 0} (P : X → Type 0) (Q : E → Type 0) (bytes : List ℕ) (read : Result X E) → MatchResult read P Q → is_ok read ≡ false
    → ((y : E) → Q y → ¬ (IsUtf8 bytes)) → is_utf8 bytes ≡ false
unread_utf8 P Q bytes (Err y) p e makes = false_from_ne_true (is_utf8 bytes) (λ is. makes y p (IsUtf8-from_is_utf8 bytes is))
unread_utf8 P Q bytes (Ok x) p e makes = absurd (let k : true ≡ false = e in cc)

pub empty_is_utf8 : (row : List ℕ) → length row ≡ 0 → is_utf8 row ≡ true
empty_is_utf8 row e = rw (nil_from_length row e) (is_utf8-from_IsUtf8 [] IsUtf8-nil)

-- the rest of the rows, after the entry of the first
left_step : (h : Filed) (escapes : Bool) (row : List ℕ) (rows : List (List ℕ))
    → history_with_lines h (entries_of escapes (row ∷ rows)) ≡ history_with_lines (history_with_lines h (entries_of escapes (row ∷ []))) (entries_of escapes rows)
left_step h escapes [] rows = refl
left_step h escapes (b ∷ bs) rows = refl

takes_step : (h : Filed) (escapes : Bool) (row : List ℕ) (rows : List (List ℕ))
    → takes_all h (entries_of escapes (row ∷ rows)) ≡ (takes_all h (entries_of escapes (row ∷ [])) && takes_all (history_with_lines h (entries_of escapes (row ∷ []))) (entries_of escapes rows))
takes_step h escapes [] rows = refl
takes_step h escapes (b ∷ bs) rows =
    ap (λ taken. taken && takes_all (history_with_line h (entry_of escapes (b ∷ bs))) (entries_of escapes rows))
    (sym (and-true (not (ignores_line h.kept.settings h.kept.entries (entry_of escapes (b ∷ bs))))))

-- a row that isn't UTF-8 comes before what else is answered
answer_parts : (last : Last) (rows : List (List ℕ)) (whole : Bool)
    → rows_answer last rows whole ≡ (if has_bad_row rows then Err HistoryText else rows_answer last [] whole)
answer_parts End rows whole = refl
answer_parts Failed rows whole = refl

outcome_more : (last : Last) (row : List ℕ) (rows : List (List ℕ)) (whole : Bool) → is_utf8 row ≡ true → rows_answer last (row ∷ rows) whole ≡ rows_answer last rows whole
outcome_more last row rows whole e = answer_parts last (row ∷ rows) whole ∙ rw e (sym (answer_parts last rows whole))

answer_more : (last : Last) (whole : Bool) (h : Filed) (escapes : Bool) (row : List ℕ) (rows : List (List ℕ)) → is_utf8 row ≡ true
    → rows_answer last (row ∷ rows) (whole && takes_all h (entries_of escapes (good_rows (row ∷ rows))))
    ≡ rows_answer last rows ((whole && takes_all h (entries_of escapes (row ∷ []))) && takes_all (history_with_lines h (entries_of escapes (row ∷ []))) (entries_of escapes (good_rows rows)))
answer_more last whole h escapes row rows e =
    outcome_more last row rows (whole && takes_all h (entries_of escapes (good_rows (row ∷ rows)))) e
    ∙ rw (e, takes_step h escapes row (good_rows rows), and_assoc) refl

pub good_text : (row : List ℕ) (result : Result Bool ReadlineError) → is_utf8 row ≡ true → OnOk result (is_utf8 row ≡ true)
good_text row (Ok b) utf8 = utf8
good_text row (Err why) utf8 = tt

-- why a row isn't taken: it isn't UTF-8, or else memory ran out
abbrev pub row_fault : List ℕ → ReadlineError
row_fault row = if is_utf8 row then Memory else HistoryText

pub good_fault : (row : List ℕ) (result : Result Bool ReadlineError) → is_utf8 row ≡ true → 0 < length row → IfErr result (λ e. e ≡ Memory) → IfErr result (λ e. (e ≡ row_fault row) × (0 < length row))
good_fault row (Ok b) utf8 some e = tt
good_fault row (Err why) utf8 some e = (rw utf8 e, some)

-- a row for which memory runs out is UTF-8
pub memory_row : (row : List ℕ) → row_fault row ≡ Memory → is_utf8 row ≡ true
memory_row row e = true_from_ne_false (is_utf8 row) (λ bad. let f : HistoryText ≡ Memory = rw bad at e in absurd cc)

pub header_is_utf8 : is_utf8 header ≡ true
unfolding is_utf8 chars encode
header_is_utf8 = refl

pub header_row : (row : List ℕ) → bytes_eq row header ≡ true → is_utf8 row ≡ true
header_row row e = rw ((bytes_eq-Decides row header).0 e) header_is_utf8

-- the history after the first row
abbrev after_first : Filed → List ℕ → Filed
after_first h row = history_with_lines h (texts_of (row ∷ []))

texts_step : (h : Filed) (row : List ℕ) (rows : List (List ℕ)) (escapes : Bool) → bytes_eq row header ≡ escapes
    → history_with_lines h (if escapes then entries_of true rows else entries_of false (row ∷ rows)) ≡ history_with_lines (history_with_lines h (if escapes then entries_of true [] else entries_of false (row ∷ []))) (entries_of escapes rows)
texts_step h row rows true e = refl
texts_step h row rows false e = left_step h false row rows

takes_behind : (h : Filed) (row : List ℕ) (rows : List (List ℕ)) (escapes : Bool)
    → (escapes && takes_all h (if escapes then entries_of true rows else entries_of false (row ∷ rows))) ≡ (escapes && takes_all (history_with_lines h (if escapes then entries_of true [] else entries_of false (row ∷ []))) (entries_of escapes rows))
takes_behind h row rows true = refl
takes_behind h row rows false = refl

pub loaded_answer : (last : Last) (h : Filed) (row : List ℕ) (rows : List (List ℕ)) → is_utf8 row ≡ true
    → load_answer last (row ∷ rows) h ≡ rows_answer last rows (bytes_eq row header && takes_all (after_first h row) (entries_of (bytes_eq row header) (good_rows rows)))
loaded_answer last h row rows e =
    outcome_more last row rows (bytes_eq row header && takes_all h (texts_of (good_rows (row ∷ rows)))) e
    ∙ rw e (ap (rows_answer last rows) (takes_behind h row (good_rows rows) (bytes_eq row header)))

-- the history behind the last row
abbrev history_left_at : Last → Filed → Filed
history_left_at End filed = all_saved filed
history_left_at Failed filed = filed

-- a row that isn't UTF-8, or a failure of the source, keeps what is new
left_by : (bad : Bool) (last : Last) (whole : Bool) (h : Filed)
    → (if is_ok (if bad then Err HistoryText else rows_answer last [] whole) then all_saved h else h) ≡ (if bad then h else history_left_at last h)
left_by true last whole h = refl
left_by false End whole h = refl
left_by false Failed whole h = refl

pub loaded_leaves : (last : Last) (h : Filed) (row : List ℕ) (rows : List (List ℕ)) → is_utf8 row ≡ true
    → load_leaves last (row ∷ rows) h ≡ (if has_bad_row rows then history_with_lines (after_first h row) (entries_of (bytes_eq row header) (good_rows rows))
    else history_left_at last (history_with_lines (after_first h row) (entries_of (bytes_eq row header) (good_rows rows))))
loaded_leaves last h row rows e =
    let after = history_with_lines h (texts_of (good_rows (row ∷ rows))) in
    let whole = bytes_eq row header && takes_all h (texts_of (good_rows (row ∷ rows))) in
    ap (λ a. if is_ok a then all_saved after else after) (answer_parts last (row ∷ rows) whole)
    ∙ left_by (has_bad_row (row ∷ rows)) last whole after
    ∙ rw e (ap (λ f. if has_bad_row rows then f else history_left_at last f) (texts_step h row (good_rows rows) (bytes_eq row header) refl))

-- ---- what was loaded, and what is left

entries_append : (escapes : Bool) (xs ys : List (List ℕ)) → entries_of escapes (xs ++ ys) ≡ entries_of escapes xs ++ entries_of escapes ys
entries_append escapes [] ys = refl
entries_append escapes ([] ∷ xs) ys = entries_append escapes xs ys
entries_append escapes ((b ∷ bs) ∷ xs) ys = ap (λ es. entry_of escapes (b ∷ bs) ∷ es) (entries_append escapes xs ys)

all_in_turn : (h : Filed) (xs ys : List (List ℕ)) → history_with_lines h (xs ++ ys) ≡ history_with_lines (history_with_lines h xs) ys
all_in_turn h [] ys = refl
all_in_turn h (x ∷ xs) ys = all_in_turn (history_with_line h x) xs ys

one_behind : (xs : List (List ℕ)) (row text : List ℕ) → behind_rows (length (xs ++ (row ∷ []))) text ≡ behind_row (behind_rows (length xs) text)
one_behind [] row text = refl
one_behind (x ∷ xs) row text = one_behind xs row (behind_row text)

-- these rows were loaded, and this is left to read
pub record Reached (escapes : Bool) (last : Last) (text coming : List ℕ) (before now : Filed) : Type 0 where
  pub loaded : List (List ℕ)
  pub split : text_rows last text ≡ loaded ++ text_rows last coming
  pub good : has_bad_row loaded ≡ false
  pub added : now ≡ history_with_lines before (entries_of escapes loaded)
  pub left : behind_rows (length loaded) text ≡ coming

-- the load ends there, and of the next row something may have been read
pub loads_some : (escapes : Bool) (last : Last) (text coming later : List ℕ) (before now : Filed) → Reached escapes last text coming before now → LosesRow coming later
    → LoadsSome (entries_of escapes) last text later before now
loads_some escapes last text coming later before now r l = record {
  loaded = r.loaded;
  later = text_rows last coming;
  split = r.split;
  good = r.good;
  added = r.added;
  left = subst (λ t. LosesRow t later) (sym r.left) l;
}

pub loads_none : (last : Last) (text later : List ℕ) (before : Filed) → LosesRow text later → LoadsSome texts_of last text later before before
loads_none last text later before l = record { loaded = []; later = text_rows last text; split = refl; good = refl; added = refl; left = l }

pub loads_behind_first : (last : Last) (text coming later row : List ℕ) (before middle after : Filed) (escapes : Bool) → is_utf8 row ≡ true → escapes ≡ bytes_eq row header
    → text_rows last text ≡ row ∷ text_rows last coming → coming ≡ behind_row text → middle ≡ after_first before row
    → LoadsSome (entries_of escapes) last coming later middle after → LoadsSome texts_of last text later before after
loads_behind_first last text coming later row before middle after escapes e b rows is m r = record {
  loaded = row ∷ r.loaded;
  later = r.later;
  split = rows ∙ ap (λ rs. row ∷ rs) r.split;
  good = rw e r.good;
  added =
      r.added
      ∙ ap₂ (λ f x. history_with_lines f (entries_of x r.loaded)) m b
      ∙ sym (texts_step before row r.loaded (bytes_eq row header) refl);
  left = subst (λ t. LosesRow (behind_rows (length r.loaded) t) later) is r.left;
}

-- what a load leaves behind a row that it takes
pub left_more_text : (last : Last) (text coming row : List ℕ) → is_utf8 row ≡ true → text_rows last text ≡ row ∷ text_rows last coming → coming ≡ behind_row text
    → rest_after_load last text ≡ rest_after_load last coming
left_more_text last text coming row e rows is = rw (rows, e, is) refl

-- where the rows up to there were loaded, the rest of a load says what the whole does
pub record Underway (escapes whole : Bool) (last : Last) (text coming : List ℕ) (before now : Filed) : Type 0 where
  pub good : GoodUpTo text coming
  pub part : Reached escapes last text coming before now
  pub left : rest_after_load last coming ≡ rest_after_load last text
  pub history : history_with_lines now (entries_of escapes (good_rows (text_rows last coming))) ≡ history_with_lines before (entries_of escapes (good_rows (text_rows last text)))
  pub answer :
      rows_answer last (text_rows last coming) (whole && takes_all now (entries_of escapes (good_rows (text_rows last coming))))
      ≡ rows_answer last (text_rows last text) (takes_all before (entries_of escapes (good_rows (text_rows last text))))

pub one_row_on : (escapes whole added : Bool) (last : Last) (text here onward row : List ℕ) (before now after : Filed) → is_utf8 row ≡ true
    → text_rows last here ≡ row ∷ text_rows last onward → onward ≡ behind_row here → GoodUpTo here onward
    → after ≡ history_with_lines now (entries_of escapes (row ∷ [])) → added ≡ takes_all now (entries_of escapes (row ∷ []))
    → Underway escapes whole last text here before now → Underway escapes (whole && added) last text onward before after
one_row_on escapes whole added last text here onward row before now after utf8 r is good made took so = record {
  good = λ later g. so.good later (good later g);
  part = record {
    loaded = so.part.loaded ++ (row ∷ []);
    split = so.part.split ∙ ap (λ rs. so.part.loaded ++ rs) r ∙ sym (append_assoc so.part.loaded (row ∷ []) (text_rows last onward));
    good = rw (list_any-append (λ r. not (is_utf8 r)) so.part.loaded (row ∷ []), so.part.good, utf8) refl;
    added =
        made
        ∙ ap (λ f. history_with_lines f (entries_of escapes (row ∷ []))) so.part.added
        ∙ sym (rw (entries_append escapes so.part.loaded (row ∷ [])) (all_in_turn before (entries_of escapes so.part.loaded) (entries_of escapes (row ∷ []))));
    left = one_behind so.part.loaded row text ∙ ap behind_row so.part.left ∙ sym is;
  };
  left = sym (left_more_text last here onward row utf8 r is) ∙ so.left;
  history = rw made (sym (left_step now escapes row (good_rows (text_rows last onward))) ∙ (rw (r, utf8) at so.history));
  answer = rw (made, took) (sym (answer_more last whole now escapes row (text_rows last onward) utf8) ∙ (rw r at so.answer));
}

-- a row that isn't UTF-8 ends the load as the whole text says
pub record EndsLoad (escapes : Bool) (last : Last) (text coming : List ℕ) (before now : Filed) (result : Result Bool ReadlineError) : Type 0 where
  pub answer : result ≡ rows_answer last (text_rows last text) (takes_all before (entries_of escapes (good_rows (text_rows last text))))
  pub history : now ≡ history_with_lines before (entries_of escapes (good_rows (text_rows last text)))
  pub left : coming ≡ rest_after_load last text

pub bad_row_ends : (escapes whole : Bool) (last : Last) (text here onward row : List ℕ) (before now : Filed) (result : Result Bool ReadlineError)
    → text_rows last here ≡ row ∷ text_rows last onward → onward ≡ behind_row here → result ≡ Err (row_fault row) → result ≢ Err Memory
    → Underway escapes whole last text here before now → EndsLoad escapes last text onward before now result
bad_row_ends escapes whole last text here onward row before now result r is e f so =
    let bad : is_utf8 row ≡ false = false_from_ne_true (is_utf8 row) (λ good. f (rw good at e)) in
    record {
      answer = (rw bad at e) ∙ (rw (r, answer_parts last (row ∷ text_rows last onward), bad) at so.answer);
      history = rw (r, bad) at so.history;
      left = is ∙ (rw (r, bad) at so.left);
    }

pub ruleset load_steps = (loaded_answer, loaded_leaves)
