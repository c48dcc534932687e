-- A saved text is read back as it was.
use Rattle.std.proofs.Common.{◌≡◌, ◌≢◌, ℕ, suc, ◌<◌, Bool, true, false, List, [], ◌∷◌, ◌++◌, map, length, refl, sym, ◌∙◌, ap, get_or, arith, Some, inl, inr, append_assoc}
use Rattle.std.specs.Prelude.{if◌then◌else◌, ◌==◌, ◌&&◌, unwrap_or, IsUtf8}
use Rattle.std.specs.Str.{is_utf8, chars}
use Rattle.std.proofs.lemmas.Bool.{and_parts, cond_both, ne_eqb, eqb-false, eqb-true, false_from_ne_true, or_left, or_right}
use Rattle.std.proofs.lemmas.Grind.{flat_map-append}
use lib.Utf8.{encode, encodes, scalar, scalars}
use Rattle.std.proofs.lemmas.Bool.Decides.{eqb_tells}
use Rattle.std.proofs.lemmas.Str.{IsUtf8-append, IsUtf8-encode, IsUtf8-from_is_utf8, IsUtf8-nil, is_utf8-from_IsUtf8}
use Rattle.line_config.specs.declared.device.Last.TheVariants.{End}
use Rattle.line_help.specs.History.{Settings, Filed, begins_with_space, newest_is, history_with_line, history_with_lines, nothing_filed, all_saved, newest}
use Rattle.line_help.specs.HistoryText.{escaped_entry, escaped_byte, unescaped_row, entry_of, entries_of, row_of, rows_text, text_rows, saved_text, header, without_return, good_rows, has_bad_row, load_leaves, text_to_append}
use Rattle.line_help.specs.HistoryCourse.{CanComeBack, history_from_text, history_made_of, Reload, ReloadAppended}
use Rattle.line_help.proofs.EscapeLemmas.{plain_byte, no_byte}
use Rattle.line_help.proofs.LoadLemmas.{loaded_leaves, header_is_utf8}
use Rattle.line_help.proofs.RowLemmas.{cut_row, has_newline}

plain_escaped : (b : ℕ) → (b == 10) ≡ false → b ≢ 92 → escaped_byte b ≡ b ∷ []
plain_escaped b h k = rw (h, ne_eqb b 92 k) refl

-- what holds of each text that a byte is saved as
by_kind : (P : List ℕ → Type 0) (b : ℕ) → (b ≡ 10 → P (92 ∷ 110 ∷ [])) → (b ≡ 92 → P (92 ∷ 92 ∷ [])) → (b ≢ 92 → P (b ∷ [])) → P (escaped_byte b)
by_kind P b newline backslash plain =
    cond_both (b == 10) (92 ∷ 110 ∷ []) (if b == 92 then 92 ∷ 92 ∷ [] else b ∷ []) P (λ e. newline (eqb-true b 10 e))
    (λ h. cond_both (b == 92) (92 ∷ 92 ∷ []) (b ∷ []) P (λ e. backslash (eqb-true b 92 e)) (λ k. plain (eqb-false b 92 k)))

read_back : (text : List ℕ) → unescaped_row (escaped_entry text) ≡ Some text
read_back [] = refl
read_back (b ∷ bs) =
    by_kind (λ front. unescaped_row (front ++ escaped_entry bs) ≡ Some (b ∷ bs)) b (λ e. rw (e, read_back bs) refl) (λ e. rw (e, read_back bs) refl)
    (λ k. plain_byte b (escaped_entry bs) k ∙ rw (read_back bs) refl)

one_row : (text : List ℕ) → has_newline (escaped_entry text) ≡ false
one_row [] = refl
one_row (b ∷ bs) =
    cond_both (b == 10) (92 ∷ 110 ∷ []) (if b == 92 then 92 ∷ 92 ∷ [] else b ∷ []) (λ front. has_newline (front ++ escaped_entry bs) ≡ false) (λ _. one_row bs)
    (λ h. cond_both (b == 92) (92 ∷ 92 ∷ []) (b ∷ []) (λ front. has_newline (front ++ escaped_entry bs) ≡ false) (λ _. one_row bs) (λ _. rw h (one_row bs)))

escaped_some : (b : ℕ) (bs : List ℕ) → 0 < length (escaped_entry (b ∷ bs))
escaped_some b bs = by_kind (λ front. 0 < length (front ++ escaped_entry bs)) b (λ _. omega arith) (λ _. omega arith) (λ _. omega arith)

abbrev ends_in_return : List ℕ → Bool
ends_in_return [] = false
ends_in_return (b ∷ []) = b == 13
ends_in_return (b ∷ (c ∷ bs)) = ends_in_return (c ∷ bs)

no_return_at_end : (row : List ℕ) → without_return row ≡ row → ends_in_return row ≡ false
no_return_at_end [] e = refl
no_return_at_end (b ∷ []) e = false_from_ne_true (b == 13) (λ r. let f : [] ≡ b ∷ [] = rw r at e in absurd cc)
no_return_at_end (b ∷ (c ∷ bs)) e = let rest : without_return (c ∷ bs) ≡ c ∷ bs = cc in no_return_at_end (c ∷ bs) rest

ends_behind : (b : ℕ) (bs : List ℕ) → 0 < length bs → ends_in_return (b ∷ bs) ≡ ends_in_return bs
ends_behind b [] some = absurd (omega arith)
ends_behind b (c ∷ bs) some = refl

same_end : (text : List ℕ) → ends_in_return (escaped_entry text) ≡ ends_in_return text
same_end [] = refl
same_end (b ∷ []) = by_kind (λ front. ends_in_return (front ++ []) ≡ (b == 13)) b (λ e. rw e refl) (λ e. rw e refl) (λ _. refl)
same_end (b ∷ (c ∷ bs)) =
    let rest = escaped_entry (c ∷ bs) in
    let on = λ (x : ℕ). ends_behind x rest (escaped_some c bs) ∙ same_end (c ∷ bs) in
    by_kind (λ front. ends_in_return (front ++ rest) ≡ ends_in_return (c ∷ bs)) b (λ _. on 110) (λ _. on 92) (λ _. on b)

without_same : (row : List ℕ) → ends_in_return row ≡ false → without_return row ≡ row
without_same [] e = refl
without_same (b ∷ []) e = rw e refl
without_same (b ∷ (c ∷ bs)) e = ap (λ t. b ∷ t) (without_same (c ∷ bs) e)

rows_back : (entries : List (List ℕ)) → CanComeBack entries → text_rows End (rows_text entries) ≡ map escaped_entry entries
rows_back [] can = refl
rows_back (entry ∷ entries) can =
    ap (λ t. text_rows End t) (append_assoc (escaped_entry entry) (10 ∷ []) (rows_text entries))
    ∙ cut_row End (escaped_entry entry) (rows_text entries) (one_row entry)
    ∙ ap (λ r. r ∷ text_rows End (rows_text entries)) (without_same (escaped_entry entry) (same_end entry ∙ no_return_at_end entry can.0.1))
    ∙ ap (λ rs. escaped_entry entry ∷ rs) (rows_back entries can.1)

-- what is escaped is UTF-8 where the text is
plain_text : (xs : List ℕ) → ((k : ℕ) → k < length xs → get_or xs k 0 ≢ 10) → ((k : ℕ) → k < length xs → get_or xs k 0 ≢ 92) → escaped_entry xs ≡ xs
plain_text [] p q = refl
plain_text (x ∷ xs) p q =
    rw (plain_escaped x (ne_eqb x 10 (p 0 (omega arith))) (q 0 (omega arith)))
    (ap (λ t. x ∷ t) (plain_text xs (λ k h. p (suc k) (omega arith)) (λ k h. q (suc k) (omega arith))))

newline_utf8 : IsUtf8 (escaped_entry (encode 10))
unfolding is_utf8 chars encode
newline_utf8 = IsUtf8-from_is_utf8 (92 ∷ 110 ∷ []) refl

backslash_utf8 : IsUtf8 (escaped_entry (encode 92))
unfolding is_utf8 chars encode
backslash_utf8 = IsUtf8-from_is_utf8 (92 ∷ 92 ∷ []) refl

char_escaped : (c : ℕ) → scalar c ≡ true → IsUtf8 (escaped_entry (encode c))
char_escaped c s = elim (eqb_tells c 10) [
  | inl h ↦ rw h.1 newline_utf8
  | inr h ↦ elim (eqb_tells c 92) [
    | inl k ↦ rw k.1 backslash_utf8
    | inr k ↦ rw (plain_text (encode c) (λ i l. no_byte c 10 i h.1 (omega arith) l) (λ i l. no_byte c 92 i k.1 (omega arith) l)) (IsUtf8-encode c s)
  ]
]

chars_escaped : (cs : List ℕ) → scalars cs ≡ true → IsUtf8 (escaped_entry (encodes cs))
chars_escaped [] e = IsUtf8-nil
chars_escaped (c ∷ cs) e =
    let p = and_parts (scalar c) (scalars cs) e in
    rw (flat_map-append escaped_byte (encode c) (encodes cs))
    (IsUtf8-append (escaped_entry (encode c)) (escaped_entry (encodes cs)) (char_escaped c p.0) (chars_escaped cs p.1))

escaped_utf8 : (text : List ℕ) → is_utf8 text ≡ true → is_utf8 (escaped_entry text) ≡ true
escaped_utf8 text e =
    let u = IsUtf8-from_is_utf8 text e in
    is_utf8-from_IsUtf8 (escaped_entry text) (rw u.1.1 at (chars_escaped u.0 u.1.0))

all_good : (entries : List (List ℕ)) → CanComeBack entries → good_rows (map escaped_entry entries) ≡ map escaped_entry entries
all_good [] can = refl
all_good (entry ∷ entries) can = rw (escaped_utf8 entry can.0.0) (ap (λ rs. escaped_entry entry ∷ rs) (all_good entries can.1))

none_bad : (entries : List (List ℕ)) → CanComeBack entries → has_bad_row (map escaped_entry entries) ≡ false
none_bad [] can = refl
none_bad (entry ∷ entries) can = rw (escaped_utf8 entry can.0.0) (none_bad entries can.1)

empty_ignored : (h : Filed) → history_with_line h [] ≡ h
empty_ignored h =
    let s = h.kept.settings in
    rw (or_left _ (s.ignore_dups && newest_is [] h.kept.entries) (or_left _ (s.ignore_space && begins_with_space []) (or_right (s.max_len == 0) true refl))) refl

entry_step : (row : List ℕ) (rows : List (List ℕ)) → 0 < length row → entries_of true (row ∷ rows) ≡ entry_of true row ∷ entries_of true rows
entry_step [] rows some = absurd (omega arith)
entry_step (b ∷ bs) rows some = refl

added_back : (h : Filed) (entries : List (List ℕ)) → history_with_lines h (entries_of true (map escaped_entry entries)) ≡ history_with_lines h entries
added_back h [] = refl
added_back h ([] ∷ entries) = added_back h entries ∙ ap (λ f. history_with_lines f entries) (sym (empty_ignored h))
added_back h ((b ∷ bs) ∷ entries) =
    ap (λ ls. history_with_lines h ls) (entry_step (escaped_entry (b ∷ bs)) (map escaped_entry entries) (escaped_some b bs)
    ∙ ap (λ o. unwrap_or o (escaped_entry (b ∷ bs)) ∷ entries_of true (map escaped_entry entries)) (read_back (b ∷ bs)))
    ∙ added_back (history_with_line h (b ∷ bs)) entries

pub saved_back : (settings : Settings) (entries : List (List ℕ)) → CanComeBack entries → history_from_text settings (saved_text entries) ≡ history_made_of settings entries
saved_back settings entries can =
    let rows : text_rows End (saved_text entries) ≡ header ∷ map escaped_entry entries = cut_row End header (rows_text entries) refl ∙ ap (λ rs. header ∷ rs) (rows_back entries can) in
    ap (λ rs. load_leaves End rs (nothing_filed settings)) rows
    ∙ loaded_leaves End (nothing_filed settings) header (map escaped_entry entries) header_is_utf8
    ∙ rw (none_bad entries can, all_good entries can) (ap (λ f. all_saved f) (added_back (nothing_filed settings) entries))

text_is : (none : Bool) (text : List ℕ) → (if none then [] else text) ≢ [] → (if none then [] else text) ≡ text
text_is true text some = absurd (some refl)
text_is false text some = refl

pub can_both : (xs ys : List (List ℕ)) → CanComeBack xs → CanComeBack ys → CanComeBack (xs ++ ys)
can_both [] ys p q = q
can_both (x ∷ xs) ys p q = (p.0, can_both xs ys p.1 q)

pub reload_holds : Reload
reload_holds settings filed some can = ap (λ t. history_from_text settings t) (text_is (filed.unsaved == 0) (saved_text filed.kept.entries) some) ∙ saved_back settings filed.kept.entries can

pub reload_appended_holds : ReloadAppended
reload_appended_holds settings saved later some more can new =
    let entries = newest later.unsaved later.kept.entries in
    ap (λ t. history_from_text settings (t ++ text_to_append later)) (text_is (saved.unsaved == 0) (saved_text saved.kept.entries) some)
    ∙ ap (λ t. history_from_text settings (saved_text saved.kept.entries ++ t)) (text_is (later.unsaved == 0) (rows_text entries) more)
    ∙ ap (λ t. history_from_text settings (header ++ (10 ∷ t))) (sym (flat_map-append row_of saved.kept.entries entries))
    ∙ saved_back settings (saved.kept.entries ++ entries) (can_both saved.kept.entries entries can new)
