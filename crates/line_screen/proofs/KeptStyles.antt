-- The items of a text with styles: of its two parts, and by spans that agree on its bytes.
use Rattle.std.proofs.Common.{◌≡◌, ℕ, zero, suc, ◌+◌, ◌<◌, ◌≤◌, ◌==◌, ◌&&◌, Bool, true, false, List, [], ◌∷◌, ◌++◌, map, take, drop, length, replicate, get_or, slice_index, None, Some, refl, sym, ap, ap₂, ◌∙◌, subst, arith, if◌then◌else◌}
use Rattle.std.specs.Prelude.{chars, encode_utf8, encode_utf8_all, IsUtf8}
use Rattle.std.specs.Char.{IsScalar}
use Rattle.std.specs.List.{list_all, flat_map, concat, onto_first}
use Rattle.std.specs.Str.{all_scalars, is_utf8}
use Rattle.std.proofs.lemmas.Bool.{and_parts, eqb-true}
use Rattle.std.proofs.lemmas.List.{drop-drop, drop_all, get_or-replicate, get_or-take, length-append, map-append, take-map}
use Rattle.std.proofs.lemmas.Str.{IsUtf8-nil, IsUtf8-append, IsUtf8-encode, IsUtf8-from_is_utf8, encodes-chars, scalars-chars}
use Rattle.unicode_segmentation.specs.Grapheme.{graphemes, is_grapheme_break}
use Rattle.unicode_segmentation.specs.Segments.{prepend}
use Rattle.unicode_segmentation.proofs.SegmentsLemmas.{AllPieces, segments_nonempty, concat-segments}
use Rattle.line_editor.specs.Characters.{starts_apart, begins_apart}
use Rattle.line_editor.specs.SharedStyles.{styles_to}
use Rattle.line_help.specs.Paints.{plain, span_styles}
use Rattle.line_help.specs.declared.helpers.style.Span.{Span}
use Rattle.line_screen.specs.Colours.{SgrSpan, skip, span_of}
use Rattle.line_screen.specs.Display.{is_printable}
use Rattle.line_screen.specs.Drawing.{Widths, DrawnItem, is_letter, drawn_item, row_items, join_rows, split_rows, text_items}
use Rattle.line_screen.specs.Drawing.DrawnItem.{NewRow, Letter, Cluster, Tab}
use Rattle.line_screen.specs.Styles.{numbers}
use Rattle.line_screen.specs.StyledTexts.{byte_styles, first_styles, first_of, StyledItem, row_clusters, styled_clusters, styled_rows, styled_text}
use Rattle.line_screen.proofs.ItemsApart.{items_parted, split_newline, split_char, rows_are}
use Rattle.line_screen.proofs.StyledTextLemmas.{with_style, items_if, skip_is}

-- ---- a text's clusters, which the items tell if each of them fits

abbrev whole : Widths
whole = record { cluster = λ bytes. Some 0; tab = None }

abbrev bytes_in : DrawnItem → ℕ
bytes_in NewRow = 1
bytes_in (Letter c) = 1
bytes_in (Cluster bytes width) = length bytes
bytes_in (Tab apart) = 1

abbrev size : List DrawnItem → ℕ
size [] = 0
size (item ∷ items) = bytes_in item + size items

size_append : (xs ys : List DrawnItem) → size (xs ++ ys) ≡ size xs + size ys
size_append [] ys = omega arith
size_append (x ∷ xs) ys = let more = size_append xs ys in omega arith

abbrev AllSome : List DrawnItem → Type 0
AllSome [] = Unit {0}
AllSome (x ∷ xs) = (1 ≤ bytes_in x) × AllSome xs

some_append : (xs ys : List DrawnItem) → AllSome xs → AllSome ys → AllSome (xs ++ ys)
some_append [] ys h k = k
some_append (x ∷ xs) ys h k = (h.0, some_append xs ys h.1 k)

-- what is known of the items of some bytes
record Sized (bytes : ℕ) (items : List DrawnItem) : Type 0 where
  is : size items ≡ bytes
  some : AllSome items

sized_append : (m n : ℕ) (xs ys : List DrawnItem) → Sized m xs → Sized n ys → Sized (m + n) (xs ++ ys)
sized_append m n xs ys h k = let a = h.is in let b = k.is in let both = size_append xs ys in record { is = omega arith; some = some_append xs ys h.some k.some }

cluster_if : (cluster : List ℕ) → 0 < length cluster → (b : Bool) → is_letter cluster ≡ b
    → Sized (length cluster) ((if b then Letter (slice_index cluster 0) else Cluster cluster 0) ∷ [])
cluster_if cluster some true e =
    let one : length cluster ≡ 1 = eqb-true (length cluster) 1 (and_parts (length cluster == 1) (is_printable (slice_index cluster 0)) e).0 in
    record { is = omega arith; some = (omega arith, tt) }
cluster_if cluster some false e = record { is = omega arith; some = (omega arith, tt) }

clusters_sized : (clusters : List (List ℕ)) → AllPieces (λ p. 0 < length p) clusters → Sized (length (concat clusters)) (map (drawn_item whole) clusters)
clusters_sized [] h = record { is = refl; some = tt }
clusters_sized (cluster ∷ clusters) h =
    subst (λ n. Sized n (map (drawn_item whole) (cluster ∷ clusters))) (sym (length-append cluster (concat clusters)))
    (sized_append (length cluster) (length (concat clusters)) (drawn_item whole cluster ∷ []) (map (drawn_item whole) clusters) (cluster_if cluster h.0 (is_letter cluster) refl) (clusters_sized clusters h.1))

letters_sized : (row : List ℕ) → Sized (length row) (map Letter row)
letters_sized [] = record { is = refl; some = tt }
letters_sized (c ∷ row) = let more = letters_sized row in let is = more.is in record { is = omega arith; some = (omega arith, more.some) }

row_sized : (row : List ℕ) → IsUtf8 row → Sized (length row) (row_items whole row)
row_sized row text =
    elim (list_all is_printable row) as (λ b. Sized (length row) (if b then map Letter row else map (drawn_item whole) (graphemes true row))) [
      | true ↦ letters_sized row
      | false ↦ subst (λ bytes. Sized (length bytes) (map (drawn_item whole) (graphemes true row))) (concat-segments (is_grapheme_break true) row text)
          (clusters_sized (graphemes true row) (segments_nonempty (is_grapheme_break true) row))
    ]

-- ---- the rows of a text

abbrev AllUtf8 : List (List ℕ) → Type 0
AllUtf8 [] = Unit {0}
AllUtf8 (row ∷ rows) = IsUtf8 row × AllUtf8 rows

prepended : (bytes : List ℕ) (rows : List (List ℕ)) → IsUtf8 bytes → AllUtf8 rows → AllUtf8 (prepend bytes rows)
prepended bytes [] u h = (u, tt)
prepended bytes (row ∷ rows) u h = (IsUtf8-append bytes row u h.0, h.1)

rows_of : (cs : List ℕ) → all_scalars cs ≡ true → AllUtf8 (split_rows (encode_utf8_all cs))
rows_of [] s = (IsUtf8-nil, tt)
rows_of (d ∷ ds) s =
    let both = and_parts _ (all_scalars ds) s in
    by (d == 0x0A) refl both.0 (rows_of ds both.1)
  where
    by : (b : Bool) → (d == 0x0A) ≡ b → IsScalar d → AllUtf8 (split_rows (encode_utf8_all ds)) → AllUtf8 (split_rows (encode_utf8_all (d ∷ ds)))
    by true e scalar more = subst AllUtf8 (sym (split_newline d (encode_utf8_all ds) e)) (IsUtf8-nil, more)
    by false e scalar more = subst AllUtf8 (sym (split_char d (encode_utf8_all ds) e)) (prepended (encode_utf8 d) (split_rows (encode_utf8_all ds)) (IsUtf8-encode d scalar) more)

rows_utf8 : (text : List ℕ) → IsUtf8 text → AllUtf8 (split_rows text)
rows_utf8 text u = subst (λ bytes. AllUtf8 (split_rows bytes)) (encodes-chars text u) (rows_of (chars text) (scalars-chars text u))

abbrev bytes_behind : List (List ℕ) → ℕ
bytes_behind [] = 0
bytes_behind (row ∷ rows) = 1 + (length row + bytes_behind rows)

abbrev bytes_of_rows : List (List ℕ) → ℕ
bytes_of_rows [] = 0
bytes_of_rows (row ∷ rows) = length row + bytes_behind rows

after_newline : (rows : List (List ℕ)) → bytes_behind (prepend [] rows) ≡ 1 + bytes_of_rows (prepend [] rows)
after_newline [] = refl
after_newline (row ∷ rows) = refl

after_byte : (x : ℕ) (rows : List (List ℕ)) → bytes_of_rows (onto_first x (prepend [] rows)) ≡ 1 + bytes_of_rows (prepend [] rows)
after_byte x [] = refl
after_byte x (row ∷ rows) = omega arith

bytes_are : (text : List ℕ) → bytes_of_rows (split_rows text) ≡ length text
bytes_are [] = refl
bytes_are (x ∷ text) =
    let more = bytes_are text in
    let whole = ap bytes_of_rows (sym (rows_are text)) in
    let newline = ap bytes_behind (rows_are text) ∙ after_newline (split_rows text) in
    let other = ap (λ rows. bytes_of_rows (onto_first x rows)) (rows_are text) ∙ after_byte x (split_rows text) in
    elim (x == 0x0A) as (λ b. bytes_of_rows (if b then [] ∷ split_rows text else onto_first x (split_rows text)) ≡ length (x ∷ text)) [
      | true ↦ omega (arith, more, whole, newline)
      | false ↦ omega (arith, more, whole, other)
    ]

behind_sized : (rows : List (List ℕ)) → AllUtf8 rows → Sized (bytes_behind rows) (flat_map (λ r. NewRow ∷ row_items whole r) rows)
behind_sized [] h = record { is = refl; some = tt }
behind_sized (row ∷ rows) h =
    let both = sized_append (length row) (bytes_behind rows) (row_items whole row) (flat_map (λ r. NewRow ∷ row_items whole r) rows) (row_sized row h.0) (behind_sized rows h.1) in
    let is = both.is in
    record { is = omega arith; some = (omega arith, both.some) }

rows_sized : (rows : List (List ℕ)) → AllUtf8 rows → Sized (bytes_of_rows rows) (join_rows whole rows)
rows_sized [] h = record { is = refl; some = tt }
rows_sized (row ∷ rows) h = sized_append (length row) (bytes_behind rows) (row_items whole row) (flat_map (λ r. NewRow ∷ row_items whole r) rows) (row_sized row h.0) (behind_sized rows h.1)

text_sized : (text : List ℕ) → IsUtf8 text → Sized (length text) (text_items whole text)
text_sized text u = subst (λ n. Sized n (text_items whole text)) (bytes_are text) (rows_sized (split_rows text) (rows_utf8 text u))

-- ---- the items with styles by the clusters

module _ (wide : Widths) where
  abbrev styled_as : List (List ℕ) → DrawnItem → StyledItem
  styled_as styles NewRow = with_style [] NewRow
  styled_as styles (Letter c) = with_style (first_of styles) (drawn_item wide (c ∷ []))
  styled_as styles (Cluster bytes width) = with_style (first_of styles) (drawn_item wide bytes)
  styled_as styles (Tab apart) = with_style (first_of styles) (Tab apart)

  abbrev styled_by : List (List ℕ) → List DrawnItem → List StyledItem
  styled_by styles [] = []
  styled_by styles (item ∷ items) = styled_as styles item ∷ styled_by (drop (bytes_in item) styles) items

  by_append : (styles : List (List ℕ)) (xs ys : List DrawnItem) → styled_by styles (xs ++ ys) ≡ styled_by styles xs ++ styled_by (drop (size xs) styles) ys
  by_append styles [] ys = refl
  by_append styles (x ∷ xs) ys =
      ap (λ zs. styled_as styles x ∷ zs)
      (by_append (drop (bytes_in x) styles) xs ys ∙ ap (λ s. styled_by (drop (bytes_in x) styles) xs ++ styled_by s ys) (drop-drop (size xs) (bytes_in x) styles))

  one_if : (styles : List (List ℕ)) (cluster : List ℕ) (b : Bool) → is_letter cluster ≡ b → (let item = if b then Letter (slice_index cluster 0) else Cluster cluster 0 in
      with_style (first_of styles) (drawn_item wide cluster) ∷ [] ≡ styled_by styles (item ∷ [])) × (bytes_in (if b then Letter (slice_index cluster 0) else Cluster cluster 0) ≡ length cluster)
  one_if styles cluster true e =
      let one : length cluster ≡ 1 = eqb-true (length cluster) 1 (and_parts (length cluster == 1) (is_printable (slice_index cluster 0)) e).0 in
      (ap (λ c. with_style (first_of styles) (drawn_item wide c) ∷ []) (alone cluster one), sym one)
    where
      alone : (cluster : List ℕ) → length cluster ≡ 1 → cluster ≡ slice_index cluster 0 ∷ []
      alone [] h = absurd (omega (arith, h))
      alone (c ∷ []) h = refl
      alone (c ∷ (d ∷ cs)) h = absurd (omega (arith, h))
  one_if styles cluster false e = (refl, refl)

  clusters_by : (styles : List (List ℕ)) (clusters : List (List ℕ)) → styled_clusters wide styles clusters ≡ styled_by styles (map (drawn_item whole) clusters)
  clusters_by styles [] = refl
  clusters_by styles (cluster ∷ clusters) =
      let one = one_if styles cluster (is_letter cluster) refl in
      ap (λ ys. with_style (first_of styles) (drawn_item wide cluster) ∷ ys) (clusters_by (drop (length cluster) styles) clusters)
      ∙ ap (λ xs. xs ++ styled_by (drop (length cluster) styles) (map (drawn_item whole) clusters)) one.0
      ∙ ap (λ n. styled_as styles (drawn_item whole cluster) ∷ styled_by (drop n styles) (map (drawn_item whole) clusters)) (sym one.1)

  row_by : (styles : List (List ℕ)) (row : List ℕ) → styled_clusters wide styles (row_clusters row) ≡ styled_by styles (row_items whole row)
  row_by styles row = clusters_by styles (row_clusters row) ∙ ap (styled_by styles) (items_if whole row (list_all is_printable row) refl)

  behind_by : (styles : List (List ℕ)) (rows : List (List ℕ)) → AllUtf8 rows → styled_rows wide false styles rows ≡ styled_by styles (flat_map (λ r. NewRow ∷ row_items whole r) rows)
  behind_by styles [] h = refl
  behind_by styles (row ∷ rows) h =
      let next = drop 1 styles in
      let items = row_items whole row in
      let others = flat_map (λ r. NewRow ∷ row_items whole r) rows in
      ap (λ ys. with_style [] NewRow ∷ ys)
      (ap₂ ◌++◌ (row_by next row) (behind_by (drop (length row) next) rows h.1)
      ∙ ap (λ n. styled_by next items ++ styled_by (drop n next) others) (sym (row_sized row h.0).is)
      ∙ sym (by_append next items others))

  rows_by : (styles : List (List ℕ)) (rows : List (List ℕ)) → AllUtf8 rows → styled_rows wide true styles rows ≡ styled_by styles (join_rows whole rows)
  rows_by styles [] h = refl
  rows_by styles (row ∷ rows) h =
      let items = row_items whole row in
      let others = flat_map (λ r. NewRow ∷ row_items whole r) rows in
      ap₂ ◌++◌ (row_by styles row) (behind_by (drop (length row) styles) rows h.1)
      ∙ ap (λ n. styled_by styles items ++ styled_by (drop n styles) others) (sym (row_sized row h.0).is)
      ∙ sym (by_append styles items others)

  text_by : (spans : List SgrSpan) (text : List ℕ) → IsUtf8 text → styled_text wide spans text ≡ styled_by (byte_styles spans) (text_items whole text)
  text_by spans text u = rows_by (byte_styles spans) (split_rows text) (rows_utf8 text u)

  -- ---- a text before a rest that begins apart

  pub styled_parted : (spans : List SgrSpan) (text rest : List ℕ) → begins_apart text rest ≡ true
      → styled_text wide spans (text ++ rest) ≡ styled_text wide spans text ++ styled_text wide (skip (length text) spans) rest
  styled_parted spans text rest h =
      let parts = and_parts (is_utf8 rest) (is_utf8 text && starts_apart text (chars rest)) h in
      let both = and_parts (is_utf8 text) (starts_apart text (chars rest)) parts.1 in
      let u = IsUtf8-from_is_utf8 text both.0 in
      let v = IsUtf8-from_is_utf8 rest parts.0 in
      let styles = byte_styles spans in
      let a = text_items whole text in
      let b = text_items whole rest in
      text_by spans (text ++ rest) (IsUtf8-append text rest u v)
      ∙ ap (styled_by styles) (items_parted whole text rest h)
      ∙ by_append styles a b
      ∙ ap₂ (λ xs s. xs ++ styled_by s b) (sym (text_by spans text u)) (ap (λ n. drop n styles) (text_sized text u).is ∙ sym (skip_is (length text) spans))
      ∙ ap (λ xs. styled_text wide spans text ++ xs) (sym (text_by (skip (length text) spans) rest v))

  -- ---- spans that agree on a text's bytes

  abbrev Agree : ℕ → List (List ℕ) → List (List ℕ) → Type 0
  Agree n styles others = (i : ℕ) → i < n → first_of (drop i styles) ≡ first_of (drop i others)

  as_same : (styles others : List (List ℕ)) (item : DrawnItem) → first_of styles ≡ first_of others → styled_as styles item ≡ styled_as others item
  as_same styles others NewRow h = refl
  as_same styles others _ h = cc

  by_same : (items : List DrawnItem) (styles others : List (List ℕ)) → AllSome items → Agree (size items) styles others → styled_by styles items ≡ styled_by others items
  by_same [] styles others some h = refl
  by_same (item ∷ items) styles others some h =
      let n = bytes_in item in
      ap₂ (λ x xs. x ∷ xs) (as_same styles others item (h 0 (omega (arith, some.0))))
      (by_same items (drop n styles) (drop n others) some.1
      (λ i low. ap first_of (drop-drop i n styles) ∙ h (n + i) (omega (arith, low)) ∙ sym (ap first_of (drop-drop i n others))))

  abbrev no_style_of : List ℕ
  no_style_of = []

  at_padded : (styles : List (List ℕ)) (n i : ℕ) → i < n → get_or (styles ++ replicate n no_style_of) i [] ≡ first_of (drop i styles)
  at_padded [] n i low = get_or-replicate n i no_style_of [] low ∙ sym (ap first_of (drop_all {X = List ℕ} i [] (omega arith)))
  at_padded (s ∷ styles) n zero low = refl
  at_padded (s ∷ styles) n (suc i) low = at_padded styles n i (omega (arith, low))

  agree : (n : ℕ) (new old : List SgrSpan) → first_styles n new ≡ first_styles n old → Agree n (byte_styles new) (byte_styles old)
  agree n new old h i low =
      let padded : List SgrSpan → List (List ℕ) = λ spans. byte_styles spans ++ replicate n [] in
      sym (at_padded (byte_styles new) n i low)
      ∙ sym (get_or-take n (padded new) i [] low)
      ∙ ap (λ styles. get_or styles i []) h
      ∙ get_or-take n (padded old) i [] low
      ∙ at_padded (byte_styles old) n i low

  pub styled_same : (new old : List SgrSpan) (text : List ℕ) → IsUtf8 text → first_styles (length text) new ≡ first_styles (length text) old → styled_text wide new text ≡ styled_text wide old text
  styled_same new old text u h =
      let sized = text_sized text u in
      text_by new text u
      ∙ by_same (text_items whole text) (byte_styles new) (byte_styles old) sized.some (subst (λ n. Agree n (byte_styles new) (byte_styles old)) (sym sized.is) (agree (length text) new old h))
      ∙ sym (text_by old text u)

-- a text before one that begins apart
pub text_before : (text rest : List ℕ) → begins_apart text rest ≡ true → IsUtf8 text
text_before text rest h =
    IsUtf8-from_is_utf8 text (and_parts (is_utf8 text) (starts_apart text (chars rest)) (and_parts (is_utf8 rest) (is_utf8 text && starts_apart text (chars rest)) h).1).0

-- ---- the styles of spans, and of these as a control sequence has them

map_replicate : {A B : Type 0} (f : A → B) (n : ℕ) (x : A) → map f (replicate n x) ≡ replicate n (f x)
map_replicate f zero x = refl
map_replicate f (suc n) x = ap (λ xs. f x ∷ xs) (map_replicate f n x)

numbers_are : (spans : List Span) → byte_styles (map span_of spans) ≡ map numbers (span_styles spans)
numbers_are [] = refl
numbers_are (s ∷ spans) =
    ap₂ ◌++◌ (sym (map_replicate numbers s.len s.style)) (numbers_are spans)
    ∙ sym (map-append numbers (replicate s.len s.style) (span_styles spans))

first_numbers : (n : ℕ) (spans : List Span) → first_styles n (map span_of spans) ≡ map numbers (styles_to n spans)
first_numbers n spans =
    let all = span_styles spans in
    ap (λ styles. take n (styles ++ replicate n [])) (numbers_are spans)
    ∙ ap (λ styles. take n (map numbers all ++ styles)) (sym (map_replicate numbers n plain))
    ∙ ap (take n) (sym (map-append numbers all (replicate n plain)))
    ∙ take-map numbers n (all ++ replicate n plain)

pub kept_styles : (n : ℕ) (new old : List Span) → styles_to n new ≡ styles_to n old → first_styles n (map span_of new) ≡ first_styles n (map span_of old)
kept_styles n new old h = first_numbers n new ∙ ap (map numbers) h ∙ sym (first_numbers n old)
