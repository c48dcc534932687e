-- The items of a text, and of the text with a rest that begins apart from it.
use Rattle.std.proofs.Common.{◌≡◌, ℕ, ◌==◌, ⊎_elim, Bool, true, false, not, ◌&&◌, ◌||◌, List, [], ◌∷◌, ◌++◌, map, cond, Option, Some, None, refl, sym, ap, ap₂, ◌∙◌, subst, arith, append_assoc, append-nil, if◌then◌else◌, eqb-true, ◌+◌}
use Rattle.std.specs.Prelude.{chars, encode_utf8, encode_utf8_all, IsUtf8}
use Rattle.std.specs.Char.{IsScalar}
use lib.Utf8.{encode}
use Rattle.std.specs.List.{list_all, flat_map, last_or, onto_first}
use Rattle.std.specs.Str.{all_scalars, is_utf8}
use Rattle.std.proofs.lemmas.Bool.{and_parts, and_from, or_cases, not-true}
use Rattle.std.proofs.lemmas.Bool.Decides.{nat_tests}
use Rattle.std.proofs.lemmas.List.{map-append}
use Rattle.std.proofs.lemmas.Grind.{flat_map-append}
use Rattle.std.proofs.lemmas.List.Splits.{slice_split-cons_yes, slice_split-cons_no}
use Rattle.std.proofs.lemmas.Simd.{map-map}
use Rattle.std.proofs.lemmas.Str.{IsUtf8-nil, IsUtf8-append, IsUtf8-encode, IsUtf8-from_is_utf8, chars-nil, chars-append, chars-encodes, encodes-chars, scalars-chars}
use Rattle.unicode_segmentation.specs.Grapheme.{graphemes, is_grapheme_break}
use Rattle.unicode_segmentation.specs.Segments.{cut, segments, prepend}
use Rattle.unicode_segmentation.proofs.TextLemmas.{chars-encode_utf8}
use Rattle.line_buffer.proofs.JoinLemmas.{next_alone, cut-some, cut-join}
use Rattle.line_buffer.proofs.ListedRanges.{apart}
use Rattle.line_editor.specs.Characters.{is_apart, ends_apart, stands_apart, starts_apart, begins_apart}
use Rattle.line_screen.specs.Display.{is_printable}
use Rattle.line_screen.specs.Drawing.{DrawnItem, Widths, drawn_item, row_items, join_rows, split_rows, text_items, DrawnItem.NewRow, DrawnItem.Letter}
use Rattle.line_screen.proofs.ApartLemmas.{breaks, cut_from, clusters_apart, apart_scalar}
use Rattle.line_screen.proofs.Draws.{list_all_since}
use Rattle.line_screen.proofs.EncodedChars.{encode_one}
use Rattle.line_screen.proofs.Items.{letter_row}
use Rattle.line_screen.proofs.Singles.{is_single, printable_single, clusters_single}

-- ---- the clusters of a row

-- the last character of a row, if there is one
abbrev parts_from : Option ℕ → Bool
parts_from None = true
parts_from (Some last) = is_apart last

cut_parted : (before cs : List ℕ) (c : ℕ) (ds : List ℕ) → is_apart c ≡ true → parts_from (last_or None cs) ≡ true
    → cut (is_grapheme_break true) before (cs ++ c ∷ ds) [] ≡ cut (is_grapheme_break true) before cs [] ++ cut (is_grapheme_break true) [] (c ∷ ds) []
unfolding cut is_grapheme_break
cut_parted before [] c ds h k = cut_from c h before ds
cut_parted before (d ∷ []) c ds h k =
    ap₂ (λ b rest. if b then (d ∷ []) ∷ rest else prepend (d ∷ []) rest) (sym (breaks before d c (ds ++ []) k h)) (cut_from c h (d ∷ before) ds)
cut_parted before (d ∷ (e ∷ es)) c ds h k =
    ap₂ (λ b rest. if b then (d ∷ []) ∷ rest else prepend (d ∷ []) rest) (next_alone (d ∷ before) e ((es ++ c ∷ ds) ++ []) (es ++ [])) (cut_parted (d ∷ before) (e ∷ es) c ds h k)
    ∙ cut-join (is_grapheme_break true (d ∷ before) ((e ∷ es) ++ [])) d (cut (is_grapheme_break true) (d ∷ before) (e ∷ es) []) (cut (is_grapheme_break true) [] (c ∷ ds) []) (cut-some (d ∷ before) e es)

chars_with : (row : List ℕ) (c : ℕ) → IsUtf8 row → IsScalar c → chars (row ++ encode_utf8 c) ≡ chars row ++ c ∷ []
chars_with row c text scalar = chars-append row (encode_utf8 c) text ∙ ap (λ cs. chars row ++ cs) (chars-encode_utf8 c (IsUtf8-encode c scalar))

clusters_parted : (row : List ℕ) (c : ℕ) (ds : List ℕ) → IsUtf8 row → all_scalars (c ∷ ds) ≡ true → is_apart c ≡ true → parts_from (last_or None (chars row)) ≡ true
    → graphemes true (row ++ encode_utf8_all (c ∷ ds)) ≡ graphemes true row ++ graphemes true (encode_utf8_all (c ∷ ds))
unfolding segments
clusters_parted row c ds text s h k =
    let clusters = λ (cs : List ℕ). map encode_utf8_all (cut (is_grapheme_break true) [] cs []) in
    let after = chars-encodes (c ∷ ds) s in
    ap clusters (chars-append row (encode_utf8_all (c ∷ ds)) text ∙ ap (λ cs. chars row ++ cs) after)
    ∙ ap (map encode_utf8_all) (cut_parted [] (chars row) c ds h k)
    ∙ map-append encode_utf8_all (cut (is_grapheme_break true) [] (chars row) []) (cut (is_grapheme_break true) [] (c ∷ ds) [])
    ∙ ap (λ cs. clusters (chars row) ++ clusters cs) (sym after)

last_of : (o : Option ℕ) (xs : List ℕ) (x : ℕ) → Some x ≡ last_or o (xs ++ x ∷ [])
last_of o [] x = refl
last_of o (y ∷ xs) x = last_of (Some y) xs x

-- ---- the rows of a text

prepend_if : (b : Bool) (x : ℕ) (rows : List (List ℕ)) → cond b ([] ∷ rows) (onto_first x rows) ≡ prepend [] (cond b ([] ∷ rows) (onto_first x rows))
prepend_if true x rows = refl
prepend_if false x [] = refl
prepend_if false x (row ∷ rows) = refl

pub rows_are : (text : List ℕ) → split_rows text ≡ prepend [] (split_rows text)
rows_are [] = refl
rows_are (x ∷ text) = prepend_if (x == 0x0A) x (split_rows text)

onto_prepend : (x : ℕ) (bytes : List ℕ) (rows : List (List ℕ)) → onto_first x (prepend bytes rows) ≡ prepend (x ∷ bytes) rows
onto_prepend x bytes [] = refl
onto_prepend x bytes (row ∷ rows) = refl

prepend_both : (xs ys : List ℕ) (rows : List (List ℕ)) → prepend xs (prepend ys rows) ≡ prepend (xs ++ ys) rows
prepend_both xs ys [] = refl
prepend_both xs ys (row ∷ rows) = ap (λ zs. zs ∷ rows) (sym (append_assoc xs ys row))

abbrev is_inside : ℕ → Bool
is_inside b = not (b == 0x0A)

split_inside : (bytes rest : List ℕ) → list_all is_inside bytes ≡ true → split_rows (bytes ++ rest) ≡ prepend bytes (split_rows rest)
split_inside [] rest h = rows_are rest
split_inside (x ∷ bytes) rest h =
    let parts = and_parts (is_inside x) (list_all is_inside bytes) h in
    slice_split-cons_no (λ c. c == 0x0A) x (bytes ++ rest) (not-true (x == 0x0A) parts.0) ∙ ap (onto_first x) (split_inside bytes rest parts.1) ∙ onto_prepend x bytes (split_rows rest)

-- no byte of another character is a newline
char_inside : (c : ℕ) → (c == 0x0A) ≡ false → list_all is_inside (encode_utf8 c) ≡ true
unfolding encode
char_inside c h = grind (arith, nat_tests)

pub split_char : (c : ℕ) (rest : List ℕ) → (c == 0x0A) ≡ false → split_rows (encode_utf8 c ++ rest) ≡ prepend (encode_utf8 c) (split_rows rest)
split_char c rest h = split_inside (encode_utf8 c) rest (char_inside c h)

pub split_newline : (c : ℕ) (rest : List ℕ) → (c == 0x0A) ≡ true → split_rows (encode_utf8 c ++ rest) ≡ [] ∷ split_rows rest
split_newline c rest h =
    ap (λ bytes. split_rows (bytes ++ rest)) (ap encode_utf8 (eqb-true c 0x0A h) ∙ encode_one 0x0A (omega arith))
    ∙ slice_split-cons_yes (λ c. c == 0x0A) 0x0A rest refl

one_row : (c : ℕ) → (c == 0x0A) ≡ false → split_rows (encode_utf8 c) ≡ encode_utf8 c ∷ []
one_row c h =
    ap split_rows (sym (append-nil (encode_utf8 c))) ∙ split_char c [] h ∙ ap (λ row. row ∷ []) (append-nil (encode_utf8 c))

-- ---- the first row of characters

record FirstRow (cs : List ℕ) : Type 0 where
  front : List ℕ
  others : List (List ℕ)
  is : split_rows (encode_utf8_all cs) ≡ encode_utf8_all front ∷ others
  scalars : all_scalars front ≡ true

first_row : (cs : List ℕ) → all_scalars cs ≡ true → FirstRow cs
first_row [] s = record { front = []; others = []; is = refl; scalars = refl }
first_row (d ∷ ds) s =
    let both = and_parts _ (all_scalars ds) s in
    by (d == 0x0A) refl both.0 (first_row ds both.1)
  where
    by : (b : Bool) → (d == 0x0A) ≡ b → IsScalar d → FirstRow ds → FirstRow (d ∷ ds)
    by true e scalar more = record { front = []; others = split_rows (encode_utf8_all ds); is = split_newline d (encode_utf8_all ds) e; scalars = refl }
    by false e scalar more =
        record {
          front = d ∷ more.front;
          others = more.others;
          is = split_char d (encode_utf8_all ds) e ∙ ap (prepend (encode_utf8 d)) more.is;
          scalars = and_from _ (all_scalars more.front) scalar more.scalars;
        }

-- ---- a text before a newline

onto_more : (x : ℕ) (rows others : List (List ℕ)) → onto_first x (prepend [] rows ++ others) ≡ onto_first x (prepend [] rows) ++ others
onto_more x [] others = refl
onto_more x (row ∷ rows) others = refl

split_apart : (text rest : List ℕ) → split_rows (text ++ 0x0A ∷ rest) ≡ split_rows text ++ split_rows rest
split_apart [] rest = slice_split-cons_yes (λ c. c == 0x0A) 0x0A rest refl
split_apart (x ∷ text) rest = by (x == 0x0A) refl (split_apart text rest)
  where
    by : (b : Bool) → (x == 0x0A) ≡ b → split_rows (text ++ 0x0A ∷ rest) ≡ split_rows text ++ split_rows rest → split_rows (x ∷ (text ++ 0x0A ∷ rest)) ≡ split_rows (x ∷ text) ++ split_rows rest
    by true e more =
        slice_split-cons_yes (λ c. c == 0x0A) x (text ++ 0x0A ∷ rest) e ∙ ap (λ rows. [] ∷ rows) more
        ∙ ap (λ rows. rows ++ split_rows rest) (sym (slice_split-cons_yes (λ c. c == 0x0A) x text e))
    by false e more =
        slice_split-cons_no (λ c. c == 0x0A) x (text ++ 0x0A ∷ rest) e
        ∙ ap (onto_first x) (more ∙ ap (λ rows. rows ++ split_rows rest) (rows_are text))
        ∙ onto_more x (split_rows text) (split_rows rest)
        ∙ ap (λ rows. onto_first x rows ++ split_rows rest) (sym (rows_are text))
        ∙ ap (λ rows. rows ++ split_rows rest) (sym (slice_split-cons_no (λ c. c == 0x0A) x text e))

-- ---- characters behind a row: whether the last row of both parts from what follows

abbrev parts_behind : Option ℕ → List ℕ → Bool
parts_behind o [] = parts_from o
parts_behind o (d ∷ ds) = parts_behind (if d == 0x0A then None else Some d) ds

abbrev row_end : Option ℕ → Option ℕ
row_end None = None
row_end (Some d) = if d == 0x0A then None else Some d

row_parts : (o : Option ℕ) → ends_apart o ≡ true → parts_from (row_end o) ≡ true
row_parts None h = refl
row_parts (Some d) h =
    (elim (d == 0x0A) as (λ b. (b || is_apart d) ≡ true → parts_from (if b then None else Some d) ≡ true) [ true ↦ λ k. refl | false ↦ λ k. k ]) h

text_parts : (o : Option ℕ) (cs : List ℕ) → ends_apart (last_or o cs) ≡ true → parts_behind (row_end o) cs ≡ true
text_parts o [] h = row_parts o h
text_parts o (d ∷ ds) h = text_parts (Some d) ds h

module _ (wide : Widths) where
  row_if : (row : List ℕ) (b : Bool) → list_all is_printable row ≡ b
      → (if b then map Letter row else map (drawn_item wide) (graphemes true row)) ≡ map (drawn_item wide) (graphemes true row)
  row_if row true e =
      letter_row wide row e ∙ sym (map-map (drawn_item wide) (λ c. c ∷ []) row)
      ∙ ap (map (drawn_item wide)) (sym (clusters_single row (list_all_since is_printable is_single printable_single row e)))
  row_if row false e = refl

  by_clusters : (row : List ℕ) → row_items wide row ≡ map (drawn_item wide) (graphemes true row)
  by_clusters row = row_if row (list_all is_printable row) refl

  row_parted : (row : List ℕ) (c : ℕ) (ds : List ℕ) → IsUtf8 row → all_scalars (c ∷ ds) ≡ true → is_apart c ≡ true → parts_from (last_or None (chars row)) ≡ true
      → row_items wide (row ++ encode_utf8_all (c ∷ ds)) ≡ row_items wide row ++ row_items wide (encode_utf8_all (c ∷ ds))
  row_parted row c ds text s h k =
      let rest = encode_utf8_all (c ∷ ds) in
      by_clusters (row ++ rest)
      ∙ ap (map (drawn_item wide)) (clusters_parted row c ds text s h k)
      ∙ map-append (drawn_item wide) (graphemes true row) (graphemes true rest)
      ∙ ap₂ ◌++◌ (sym (by_clusters row)) (sym (by_clusters rest))

  rows_behind : (rows : List (List ℕ)) → flat_map (λ r. NewRow ∷ row_items wide r) (prepend [] rows) ≡ NewRow ∷ join_rows wide (prepend [] rows)
  rows_behind [] = refl
  rows_behind (row ∷ rows) = refl

  abbrev joined : List ℕ → List ℕ → List DrawnItem
  joined row text = join_rows wide (prepend row (split_rows text))

  -- before these characters
  module _ (c : ℕ) (cs : List ℕ) (all : all_scalars (c ∷ cs) ≡ true) (h : is_apart c ≡ true) where
    abbrev rest : List ℕ
    rest = encode_utf8_all (c ∷ cs)

    abbrev new : List DrawnItem
    new = text_items wide rest

    -- behind a row stand other characters, which may begin rows
    abbrev Grown : List ℕ → List ℕ → Type 0
    Grown row ds = joined row (encode_utf8_all ds ++ rest) ≡ joined row (encode_utf8_all ds) ++ new

    behind_newline : (row : List ℕ) (d : ℕ) (ds : List ℕ) → (d == 0x0A) ≡ true → Grown [] ds → Grown row (d ∷ ds)
    behind_newline row d ds e more =
        let text = encode_utf8_all ds in
        let here = row_items wide (row ++ []) in
        let split = λ (rest : List ℕ). split_newline d rest e ∙ ap (λ rows. [] ∷ rows) (rows_are rest) in
        ap (joined row) (append_assoc (encode_utf8 d) text rest)
        ∙ ap (λ rows. join_rows wide (prepend row rows)) (split (text ++ rest))
        ∙ ap (λ is. here ++ is) (rows_behind (split_rows (text ++ rest)) ∙ ap (λ is. NewRow ∷ is) more)
        ∙ sym (append_assoc here (NewRow ∷ joined [] text) new)
        ∙ ap (λ is. (here ++ is) ++ new) (sym (rows_behind (split_rows text)))
        ∙ ap (λ rows. join_rows wide (prepend row rows) ++ new) (sym (split text))

    behind_char : (row : List ℕ) (d : ℕ) (ds : List ℕ) → (d == 0x0A) ≡ false → Grown (row ++ encode_utf8 d) ds → Grown row (d ∷ ds)
    behind_char row d ds e more =
        let text = encode_utf8_all ds in
        let split = λ (rest : List ℕ). ap (λ rows. join_rows wide (prepend row rows)) (split_char d rest e) ∙ ap (join_rows wide) (prepend_both row (encode_utf8 d) (split_rows rest)) in
        ap (joined row) (append_assoc (encode_utf8 d) text rest)
        ∙ split (text ++ rest) ∙ more ∙ ap (λ is. is ++ new) (sym (split text))

    -- the row's last character is known
    abbrev Behind : List ℕ → Type 0
    Behind ds = (row : List ℕ) (o : Option ℕ) → IsUtf8 row → o ≡ last_or None (chars row) → parts_behind o ds ≡ true → Grown row ds

    step : (d : ℕ) (ds : List ℕ) → IsScalar d → Behind ds → (row : List ℕ) → IsUtf8 row → (b : Bool) → (d == 0x0A) ≡ b → parts_behind (if b then None else Some d) ds ≡ true → Grown row (d ∷ ds)
    step d ds scalar again row text true e k = behind_newline row d ds e (again [] None IsUtf8-nil (ap (last_or None) (sym chars-nil)) k)
    step d ds scalar again row text false e k =
        behind_char row d ds e
        (again (row ++ encode_utf8 d) (Some d) (IsUtf8-append row (encode_utf8 d) text (IsUtf8-encode d scalar)) (last_of None (chars row) d ∙ ap (last_or None) (sym (chars_with row d text scalar))) k)

    right_behind : (row : List ℕ) → IsUtf8 row → parts_from (last_or None (chars row)) ≡ true → Grown row []
    right_behind row text k =
        let both = and_parts _ (all_scalars cs) all in
        let first = first_row cs both.1 in
        let front = encode_utf8_all (c ∷ first.front) in
        let others = flat_map (λ r. NewRow ∷ row_items wide r) first.others in
        let split : split_rows rest ≡ front ∷ first.others = split_char c (encode_utf8_all cs) (apart is_apart c 0x0A h refl) ∙ ap (prepend (encode_utf8 c)) first.is in
        ap (λ rows. join_rows wide (prepend row rows)) split
        ∙ ap (λ is. is ++ others) (row_parted row c first.front text (and_from _ (all_scalars first.front) both.0 first.scalars) h k)
        ∙ append_assoc (row_items wide row) (row_items wide front) others
        ∙ ap (λ rows. row_items wide row ++ join_rows wide rows) (sym split)
        ∙ ap (λ is. is ++ new) (ap (row_items wide) (sym (append-nil row)) ∙ sym (append-nil (row_items wide (row ++ []))))

    grown : (ds : List ℕ) → all_scalars ds ≡ true → Behind ds
    grown [] s row o text is k = right_behind row text (ap parts_from (sym is) ∙ k)
    grown (d ∷ ds) s row o text is k =
        let both = and_parts _ (all_scalars ds) s in
        step d ds both.0 (grown ds both.1) row text (d == 0x0A) refl k

    after_line : (line : List ℕ) → stands_apart line c ≡ true → text_items wide (line ++ rest) ≡ text_items wide line ++ new
    after_line line e =
        let utf8 = and_parts (is_utf8 line) (is_apart c && ends_apart (last_or None (chars line))) e in
        let both = and_parts (is_apart c) (ends_apart (last_or None (chars line))) utf8.1 in
        let text = IsUtf8-from_is_utf8 line utf8.0 in
        ap (join_rows wide) (rows_are (line ++ rest))
        ∙ subst (λ bytes. joined [] (bytes ++ rest) ≡ joined [] bytes ++ new) (encodes-chars line text)
        (grown (chars line) (scalars-chars line text) [] None IsUtf8-nil (ap (last_or None) (sym chars-nil)) (text_parts None (chars line) both.1))
        ∙ ap (λ rows. join_rows wide rows ++ new) (sym (rows_are line))

  chars_parted : (line : List ℕ) (c : ℕ) (cs : List ℕ) → all_scalars (c ∷ cs) ≡ true → stands_apart line c ≡ true
      → text_items wide (line ++ encode_utf8_all (c ∷ cs)) ≡ text_items wide line ++ text_items wide (encode_utf8_all (c ∷ cs))
  chars_parted line c cs all e =
      let utf8 = and_parts (is_utf8 line) (is_apart c && ends_apart (last_or None (chars line))) e in
      after_line c cs all (and_parts (is_apart c) (ends_apart (last_or None (chars line))) utf8.1).0 line e

  pub items_apart : (line : List ℕ) (c : ℕ) → stands_apart line c ≡ true → text_items wide (line ++ encode_utf8 c) ≡ text_items wide line ++ text_items wide (encode_utf8 c)
  items_apart line c e =
      let utf8 = and_parts (is_utf8 line) (is_apart c && ends_apart (last_or None (chars line))) e in
      let both = and_parts (is_apart c) (ends_apart (last_or None (chars line))) utf8.1 in
      subst (λ bytes. text_items wide (line ++ bytes) ≡ text_items wide line ++ text_items wide bytes) (append-nil (encode_utf8 c))
      (chars_parted line c [] (and_from _ true (apart_scalar c both.0) refl) e)

  pub char_items : (c : ℕ) → is_apart c ≡ true → text_items wide (encode_utf8 c) ≡ drawn_item wide (encode_utf8 c) ∷ []
  char_items c h =
      let one : chars (encode_utf8 c) ≡ c ∷ [] = chars-encode_utf8 c (IsUtf8-encode c (apart_scalar c h)) in
      ap (join_rows wide) (one_row c (apart is_apart c 0x0A h refl)) ∙ append-nil (row_items wide (encode_utf8 c)) ∙ by_clusters (encode_utf8 c)
      ∙ ap (map (drawn_item wide)) (clusters_apart (encode_utf8 c) (ap (list_all is_apart) one ∙ and_from (is_apart c) true h refl) ∙ ap (map encode_utf8) one)

  -- ---- a text before a newline

  join_more : (rows others : List (List ℕ)) → join_rows wide (prepend [] rows ++ others) ≡ join_rows wide (prepend [] rows) ++ flat_map (λ r. NewRow ∷ row_items wide r) others
  join_more [] others = refl
  join_more (row ∷ rows) others =
      let each = λ (r : List ℕ). NewRow ∷ row_items wide r in
      ap (λ is. row_items wide row ++ is) (flat_map-append each rows others) ∙ sym (append_assoc (row_items wide row) (flat_map each rows) (flat_map each others))

  newline_parted : (text rest : List ℕ) → text_items wide (text ++ 0x0A ∷ rest) ≡ text_items wide text ++ text_items wide (0x0A ∷ rest)
  newline_parted text rest =
      ap (join_rows wide) (split_apart text rest ∙ ap (λ rows. rows ++ split_rows rest) (rows_are text))
      ∙ join_more (split_rows text) (split_rows rest)
      ∙ ap₂ (λ rows after. join_rows wide rows ++ join_rows wide after) (sym (rows_are text)) (sym (split_apart [] rest))

  -- ---- a text before any rest that begins apart

  pub items_parted : (text rest : List ℕ) → begins_apart text rest ≡ true → text_items wide (text ++ rest) ≡ text_items wide text ++ text_items wide rest
  items_parted text rest h =
      let both = and_parts (is_utf8 rest) (is_utf8 text && starts_apart text (chars rest)) h in
      let utf8 = IsUtf8-from_is_utf8 rest both.0 in
      let starts = (and_parts (is_utf8 text) (starts_apart text (chars rest)) both.1).1 in
      subst (λ bytes. text_items wide (text ++ bytes) ≡ text_items wide text ++ text_items wide bytes) (encodes-chars rest utf8) (by (chars rest) (scalars-chars rest utf8) starts)
    where
      by : (cs : List ℕ) → all_scalars cs ≡ true → starts_apart text cs ≡ true → text_items wide (text ++ encode_utf8_all cs) ≡ text_items wide text ++ text_items wide (encode_utf8_all cs)
      by [] s e = ap (text_items wide) (append-nil text) ∙ sym (append-nil (text_items wide text))
      by (c ∷ cs) s e =
          ⊎_elim
          (λ is. subst (λ bytes. text_items wide (text ++ (bytes ++ encode_utf8_all cs)) ≡ text_items wide text ++ text_items wide (bytes ++ encode_utf8_all cs)) (sym (ap encode_utf8 (eqb-true c 0x0A is) ∙ encode_one 0x0A (omega arith))) (newline_parted text (encode_utf8_all cs)))
          (chars_parted text c cs s) (or_cases (c == 0x0A) (stands_apart text c) e)
