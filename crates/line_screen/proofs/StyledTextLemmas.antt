-- A text with styles: each of its clusters has the style of its first byte, and no style stands after it.
use Rattle.std.proofs.Common.{◌≡◌, ℕ, zero, suc, ◌+◌, ◌-◌, ◌<◌, ◌≤◌, ◌==◌, nat_lt, Bool, true, false, List, [], ◌∷◌, ◌++◌, map, take, drop, length, replicate, slice_index, Option, Some, None, refl, sym, ap, ap₂, ◌∙◌, subst, append_assoc, append-nil, arith, if◌then◌else◌}
use Rattle.std.specs.List.{list_all, flat_map}
use Rattle.std.proofs.lemmas.Bool.{and_parts, and_from, false≢true, eqb-true, ltb-true, ltb-false, ne_eqb}
use Rattle.std.proofs.Math.Seq.{drop-nil}
use Rattle.std.proofs.lemmas.List.{drop-drop, length-append, map-append}
use Rattle.std.proofs.lemmas.List.Concat.{flat_map-append}
use Rattle.unicode_segmentation.specs.Grapheme.{graphemes}
use Rattle.line_buffer.specs.declared.layout.Position.{Position}
use Rattle.line_screen.specs.Colours.{SgrSpan, is_style, are_styles, skip, first_style, PaintedItem, items_without_style, bare_letters, letters_in_style, painted_letters, painted_item, painted_clusters, painted_row, painted_rows, painted_text, bytes_of_all_painted}
use Rattle.line_screen.specs.Colours.PaintedItem.{Bare, Begins, Shaded, Fenced, Padded}
use Rattle.line_screen.specs.Display.{Placed, DisplayReading, reading_after_bytes, is_printable}
use Rattle.line_screen.specs.Drawing.{Widths, DrawnItem, is_letter, is_tab, drawn_cluster, item_of_cluster, drawn_item, row_items, join_rows, split_rows, text_items, place_after}
use Rattle.line_screen.specs.Drawing.DrawnItem.{NewRow, Letter, Cluster, Tab}
use Rattle.line_screen.specs.StyledTexts.{byte_styles, first_of, StyledItem, row_clusters, styled_clusters, styled_rows, styled_text, lay}
use Rattle.line_screen.proofs.Draws.{D, Open, Ready, AllFit, AllPainted, AllPens, pen_after_one, pen_after, lay_painted, lay_painted_one, draws}
use Rattle.line_screen.proofs.SequenceLemmas.{either}
use Rattle.line_screen.proofs.Parts.{all_unpainted, items_painted_after}

-- ---- the items with styles of what is drawn

abbrev pub with_style : List ℕ → DrawnItem → StyledItem
with_style style item = record { item = item; style = style }

abbrev one_styled : PaintedItem → List StyledItem
one_styled (Bare item) = with_style [] item ∷ []
one_styled (Begins style) = []
one_styled (Shaded style c) = with_style style (Letter c) ∷ []
one_styled (Fenced style bytes width) = with_style style (Cluster bytes width) ∷ []
one_styled (Padded style apart) = with_style style (Tab apart) ∷ []

abbrev pub all_styled : List PaintedItem → List StyledItem
all_styled xs = flat_map one_styled xs

pub lay_all : (columns : ℕ) (xs : List PaintedItem) (at : Position) → lay_painted columns xs at ≡ lay columns (all_styled xs) at
lay_all columns [] at = refl
lay_all columns (Begins style ∷ xs) at = lay_all columns xs at
lay_all columns (x ∷ xs) at = ap (λ ys. lay_painted_one columns x at ++ ys) (lay_all columns xs (place_after columns (items_without_style x) at))

-- the same without styles
abbrev pub bare_items : List StyledItem → List DrawnItem
bare_items xs = map (λ x. x.item) xs

bare_are : (xs : List PaintedItem) → all_unpainted xs ≡ bare_items (all_styled xs)
bare_are [] = refl
bare_are (Begins style ∷ xs) = bare_are xs
bare_are (x ∷ xs) = ap (λ ys. items_without_style x ++ ys) (bare_are xs)

pub bare_of : (xs ys : List PaintedItem) → all_unpainted (xs ++ ys) ≡ all_unpainted xs ++ all_unpainted ys
bare_of [] ys = refl
bare_of (x ∷ xs) ys = ap (λ zs. items_without_style x ++ zs) (bare_of xs ys) ∙ sym (append_assoc (items_without_style x) (all_unpainted xs) (all_unpainted ys))

-- ---- parts of a text, with their items; styles are styles, and none stands after a part

abbrev IsStyled : PaintedItem → Type 0
IsStyled (Bare item) = Unit {0}
IsStyled (Begins style) = is_style style ≡ true
IsStyled (Shaded style c) = is_style style ≡ true
IsStyled (Fenced style bytes width) = is_style style ≡ true
IsStyled (Padded style apart) = is_style style ≡ true

abbrev AllStyled : List PaintedItem → Type 0
AllStyled [] = Unit {0}
AllStyled (x ∷ xs) = IsStyled x × AllStyled xs

pub record Draw (xs : List PaintedItem) (ys : List StyledItem) : Type 0 where
  items : all_styled xs ≡ ys
  styled : AllStyled xs
  pub pens : AllPens [] xs
  pub ends : pen_after [] xs ≡ []

styled_append : (xs ys : List PaintedItem) → AllStyled xs → AllStyled ys → AllStyled (xs ++ ys)
styled_append [] ys h k = k
styled_append (x ∷ xs) ys h k = (h.0, styled_append xs ys h.1 k)

pens_append : (pen : List ℕ) (xs ys : List PaintedItem) → AllPens pen xs → AllPens (pen_after pen xs) ys → AllPens pen (xs ++ ys)
pens_append pen [] ys h k = k
pens_append pen (x ∷ xs) ys h k = (h.0, pens_append (pen_after_one pen x) xs ys h.1 k)

pen_append : (pen : List ℕ) (xs ys : List PaintedItem) → pen_after pen (xs ++ ys) ≡ pen_after (pen_after pen xs) ys
pen_append pen [] ys = refl
pen_append pen (x ∷ xs) ys = pen_append (pen_after_one pen x) xs ys

draw_append : {xs ys : List PaintedItem} {us vs : List StyledItem} → Draw xs us → Draw ys vs → Draw (xs ++ ys) (us ++ vs)
draw_append {xs} {ys} {us} {vs} h k = record {
  items = flat_map-append one_styled xs ys ∙ ap₂ ◌++◌ h.items k.items;
  styled = styled_append xs ys h.styled k.styled;
  pens = pens_append [] xs ys h.pens (subst (λ pen. AllPens pen ys) (sym h.ends) k.pens);
  ends = pen_append [] xs ys ∙ ap (λ pen. pen_after pen ys) h.ends ∙ k.ends;
}

draw_as : {xs : List PaintedItem} {us vs : List StyledItem} → Draw xs us → us ≡ vs → Draw xs vs
draw_as {xs} h e = subst (Draw xs) e h

draw_none : Draw [] []
draw_none = record { items = refl; styled = tt; pens = tt; ends = refl }

draw_bare : (item : DrawnItem) → Draw (Bare item ∷ []) (with_style [] item ∷ [])
draw_bare item = record { items = refl; styled = (tt, tt); pens = (refl, tt); ends = refl }

-- ---- letters

abbrev styled_letters : List (List ℕ) → List ℕ → List StyledItem
styled_letters styles [] = []
styled_letters styles (c ∷ letters) = with_style (first_of styles) (Letter c) ∷ styled_letters (drop 1 styles) letters

abbrev of_style : List ℕ → List ℕ → List StyledItem
of_style style letters = map (λ c. with_style style (Letter c)) letters

draw_letters : (letters : List ℕ) → Draw (bare_letters letters) (of_style [] letters)
draw_letters [] = draw_none
draw_letters (c ∷ letters) = draw_append (draw_bare (Letter c)) (draw_letters letters)

plain_letters : (letters : List ℕ) → of_style [] letters ≡ styled_letters [] letters
plain_letters [] = refl
plain_letters (c ∷ letters) = ap (λ ys. with_style [] (Letter c) ∷ ys) (plain_letters letters)

-- letters behind the beginning of their style, before its end
record Shades (style letters : List ℕ) (xs : List PaintedItem) : Type 0 where
  items : all_styled xs ≡ of_style style letters
  styled : AllStyled xs
  pens : AllPens style xs
  ends : pen_after style xs ≡ []

shades : (style letters : List ℕ) → is_style style ≡ true → Shades style letters (map (Shaded style) letters ++ Begins [] ∷ [])
shades style [] is = record { items = refl; styled = (refl, tt); pens = (tt, tt); ends = refl }
shades style (c ∷ letters) is =
    let more = shades style letters is in
    record { items = ap (λ ys. with_style style (Letter c) ∷ ys) more.items; styled = (is, more.styled); pens = (refl, more.pens); ends = more.ends }

draw_shaded : (style letters : List ℕ) → is_style style ≡ true → Draw (letters_in_style style letters) (of_style style letters)
draw_shaded style [] is = draw_none
draw_shaded [] (c ∷ letters) is = draw_letters (c ∷ letters)
draw_shaded (p ∷ style) (c ∷ letters) is =
    let more = shades (p ∷ style) (c ∷ letters) is in
    record { items = more.items; styled = (is, more.styled); pens = (tt, more.pens); ends = more.ends }

span_letters : (n : ℕ) (style : List ℕ) (styles : List (List ℕ)) (letters : List ℕ)
    → of_style style (take n letters) ++ styled_letters styles (drop n letters) ≡ styled_letters (replicate n style ++ styles) letters
span_letters zero style styles letters = refl
span_letters (suc n) style styles [] = refl
span_letters (suc n) style styles (c ∷ letters) = ap (λ ys. with_style style (Letter c) ∷ ys) (span_letters n style styles letters)

draw_spans : (spans : List SgrSpan) (letters : List ℕ) → are_styles spans ≡ true → Draw (painted_letters spans letters) (styled_letters (byte_styles spans) letters)
draw_spans [] letters h = draw_as (draw_letters letters) (plain_letters letters)
draw_spans (s ∷ spans) letters h =
    let parts = and_parts (is_style s.style) (are_styles spans) h in
    draw_as (draw_append (draw_shaded s.style (take s.len letters) parts.0) (draw_spans spans (drop s.len letters) parts.1)) (span_letters s.len s.style (byte_styles spans) letters)

-- ---- spans after so many bytes

drop_span : (n len : ℕ) (style : List ℕ) (styles : List (List ℕ)) → n < len → replicate (len - n) style ++ styles ≡ drop n (replicate len style ++ styles)
drop_span zero len style styles h = let e : len - 0 ≡ len = omega arith in ap (λ k. replicate k style ++ styles) e
drop_span (suc n) zero style styles h = absurd (omega (arith, h))
drop_span (suc n) (suc len) style styles h =
    let e : suc len - suc n ≡ len - n = omega arith in
    ap (λ k. replicate k style ++ styles) e ∙ drop_span n len style styles (omega (arith, h))

drop_past : (n len : ℕ) (style : List ℕ) (styles : List (List ℕ)) → len ≤ n → drop (n - len) styles ≡ drop n (replicate len style ++ styles)
drop_past n zero style styles h = let e : n - 0 ≡ n = omega arith in ap (λ k. drop k styles) e
drop_past zero (suc len) style styles h = absurd (omega (arith, h))
drop_past (suc n) (suc len) style styles h =
    let e : suc n - suc len ≡ n - len = omega arith in
    ap (λ k. drop k styles) e ∙ drop_past n len style styles (omega (arith, h))

skip_if : (n : ℕ) (s : SgrSpan) (spans : List SgrSpan) (b : Bool) → nat_lt n s.len ≡ b → byte_styles (skip (n - s.len) spans) ≡ drop (n - s.len) (byte_styles spans)
    → byte_styles (if b then (record { len = s.len - n; style = s.style } ∷ spans) else skip (n - s.len) spans) ≡ drop n (byte_styles (s ∷ spans))
skip_if n s spans true e h = drop_span n s.len s.style (byte_styles spans) (ltb-true n s.len e)
skip_if n s spans false e h = h ∙ drop_past n s.len s.style (byte_styles spans) (ltb-false n s.len e)

pub skip_is : (n : ℕ) (spans : List SgrSpan) → byte_styles (skip n spans) ≡ drop n (byte_styles spans)
skip_is n [] = sym (drop-nil n)
skip_is n (s ∷ spans) = skip_if n s spans (nat_lt n s.len) refl (skip_is (n - s.len) spans)

first_if : (len : ℕ) (style : List ℕ) (styles : List (List ℕ)) (first : List ℕ) → first ≡ first_of styles → (if len == 0 then first else style) ≡ first_of (replicate len style ++ styles)
first_if zero style styles first h = h
first_if (suc len) style styles first h = ap (λ b. if b then first else style) (ne_eqb (suc len) 0 (λ e. absurd (omega (arith, e))))

first_is : (spans : List SgrSpan) → first_style spans ≡ first_of (byte_styles spans)
first_is [] = refl
first_is (s ∷ spans) = first_if s.len s.style (byte_styles spans) (first_style spans) (first_is spans)

pub skip_styles : (n : ℕ) (spans : List SgrSpan) → are_styles spans ≡ true → are_styles (skip n spans) ≡ true
skip_styles n [] h = refl
skip_styles n (s ∷ spans) h =
    let parts = and_parts (is_style s.style) (are_styles spans) h in
    either (λ ss. are_styles ss ≡ true) (nat_lt n s.len) (and_from _ _ parts.0 parts.1) (skip_styles (n - s.len) spans parts.1)

first_is_style : (spans : List SgrSpan) → are_styles spans ≡ true → is_style (first_style spans) ≡ true
first_is_style [] h = refl
first_is_style (s ∷ spans) h =
    let parts = and_parts (is_style s.style) (are_styles spans) h in
    either (λ style. is_style style ≡ true) (s.len == 0) (first_is_style spans parts.1) parts.0

-- ---- clusters

abbrev is_new_row : DrawnItem → Bool
is_new_row NewRow = true
is_new_row item = false

draw_item : (style : List ℕ) (item : DrawnItem) → is_style style ≡ true → is_new_row item ≡ false → Draw (painted_item style item) (with_style style item ∷ [])
draw_item [] item is h = draw_bare item
draw_item (p ∷ style) NewRow is h = absurd (false≢true (sym h))
draw_item (p ∷ style) (Letter c) is h = draw_shaded (p ∷ style) (c ∷ []) is
draw_item (p ∷ style) (Cluster bytes width) is h = record { items = refl; styled = (is, tt); pens = (refl, tt); ends = refl }
draw_item (p ∷ style) (Tab apart) is h = record { items = refl; styled = (is, tt); pens = (refl, tt); ends = refl }

cluster_stays : (bytes : List ℕ) (width : Option ℕ) → is_new_row (drawn_cluster bytes width) ≡ false
cluster_stays bytes None = refl
cluster_stays bytes (Some width) = refl

tab_stays : (wide : List ℕ → Option ℕ) (apart : ℕ) (bytes : List ℕ) (b : Bool) → is_new_row (if b then Tab apart else drawn_cluster bytes (wide bytes)) ≡ false
tab_stays wide apart bytes true = refl
tab_stays wide apart bytes false = cluster_stays bytes (wide bytes)

other_stays : (wide : List ℕ → Option ℕ) (tab : Option ℕ) (bytes : List ℕ) → is_new_row (item_of_cluster wide tab bytes) ≡ false
other_stays wide None bytes = cluster_stays bytes (wide bytes)
other_stays wide (Some apart) bytes = tab_stays wide apart bytes (is_tab bytes)

letter_stays : (wide : Widths) (bytes : List ℕ) (b : Bool) → is_new_row (if b then Letter (slice_index bytes 0) else item_of_cluster wide.cluster wide.tab bytes) ≡ false
letter_stays wide bytes true = refl
letter_stays wide bytes false = other_stays wide.cluster wide.tab bytes

letters_append : (styles : List (List ℕ)) (a b : List ℕ) → styled_letters styles (a ++ b) ≡ styled_letters styles a ++ styled_letters (drop (length a) styles) b
letters_append styles [] b = refl
letters_append styles (c ∷ a) b = ap (λ ys. with_style (first_of styles) (Letter c) ∷ ys)
    (letters_append (drop 1 styles) a b ∙ ap (λ s. styled_letters (drop 1 styles) a ++ styled_letters s b) (drop-drop (length a) 1 styles ∙ (let e : 1 + length a ≡ suc (length a) = omega arith in ap (λ n. drop n styles) e)))

one_letter : (styles : List (List ℕ)) (cluster : List ℕ) → length cluster ≡ 1 → styled_letters styles cluster ≡ with_style (first_of styles) (Letter (slice_index cluster 0)) ∷ []
one_letter styles [] h = absurd (omega (arith, h))
one_letter styles (c ∷ []) h = refl
one_letter styles (c ∷ (d ∷ cs)) h = absurd (omega (arith, h))

module _ (wide : Widths) where
  letter_item : (cluster : List ℕ) → is_letter cluster ≡ true → Letter (slice_index cluster 0) ≡ drawn_item wide cluster
  letter_item cluster h = ap (λ b. if b then Letter (slice_index cluster 0) else item_of_cluster wide.cluster wide.tab cluster) (sym h)

  draw_after : (spans : List SgrSpan) (letters cluster : List ℕ) → are_styles spans ≡ true
      → Draw (items_painted_after wide spans letters cluster) (styled_letters (byte_styles spans) letters ++ with_style (first_of (drop (length letters) (byte_styles spans))) (drawn_item wide cluster) ∷ [])
  draw_after spans letters cluster are =
      let left = skip (length letters) spans in
      let style : first_style left ≡ first_of (drop (length letters) (byte_styles spans)) = first_is left ∙ ap first_of (skip_is (length letters) spans) in
      draw_append (draw_spans spans letters are)
      (draw_as (draw_item (first_style left) (drawn_item wide cluster) (first_is_style left (skip_styles (length letters) spans are)) (letter_stays wide cluster (is_letter cluster)))
      (ap (λ s. with_style s (drawn_item wide cluster) ∷ []) style))

  abbrev Clusters : List (List ℕ) → Type 0
  Clusters clusters = (spans : List SgrSpan) (letters : List ℕ) → are_styles spans ≡ true
      → Draw (painted_clusters wide spans letters clusters) (styled_letters (byte_styles spans) letters ++ styled_clusters wide (drop (length letters) (byte_styles spans)) clusters)

  clusters_if : (cluster : List ℕ) (clusters : List (List ℕ)) → Clusters clusters → (spans : List SgrSpan) (letters : List ℕ) → are_styles spans ≡ true → (b : Bool) → is_letter cluster ≡ b
      → Draw (if b then painted_clusters wide spans (letters ++ cluster) clusters
      else (items_painted_after wide spans letters cluster ++ painted_clusters wide (skip (length cluster) (skip (length letters) spans)) [] clusters))
      (styled_letters (byte_styles spans) letters ++ styled_clusters wide (drop (length letters) (byte_styles spans)) (cluster ∷ clusters))
  clusters_if cluster clusters more spans letters are true e =
      let styles = byte_styles spans in
      let later = drop (length letters) styles in
      let one : length cluster ≡ 1 = eqb-true (length cluster) 1 (and_parts (length cluster == 1) (is_printable (slice_index cluster 0)) e).0 in
      draw_as (more spans (letters ++ cluster) are)
      (ap (λ ys. ys ++ styled_clusters wide (drop (length (letters ++ cluster)) styles) clusters) (letters_append styles letters cluster)
      ∙ append_assoc (styled_letters styles letters) (styled_letters later cluster) (styled_clusters wide (drop (length (letters ++ cluster)) styles) clusters)
      ∙ ap (λ ys. styled_letters styles letters ++ (ys ++ styled_clusters wide (drop (length (letters ++ cluster)) styles) clusters)) (one_letter later cluster one)
      ∙ ap (λ i. styled_letters styles letters ++ (with_style (first_of later) i ∷ styled_clusters wide (drop (length (letters ++ cluster)) styles) clusters)) (letter_item cluster e)
      ∙ ap (λ s. styled_letters styles letters ++ (with_style (first_of later) (drawn_item wide cluster) ∷ styled_clusters wide s clusters))
      (ap (λ n. drop n styles) (length-append letters cluster) ∙ sym (drop-drop (length cluster) (length letters) styles)))
  clusters_if cluster clusters more spans letters are false e =
      let styles = byte_styles spans in
      let next = skip (length letters) spans in
      let left = skip (length cluster) next in
      let left_is : byte_styles left ≡ drop (length cluster) (drop (length letters) styles) = skip_is (length cluster) next ∙ ap (drop (length cluster)) (skip_is (length letters) spans) in
      draw_as (draw_append (draw_after spans letters cluster are) (more left [] (skip_styles (length cluster) next (skip_styles (length letters) spans are))))
      (append_assoc (styled_letters styles letters) (with_style (first_of (drop (length letters) styles)) (drawn_item wide cluster) ∷ []) (styled_clusters wide (byte_styles left) clusters)
      ∙ ap (λ s. styled_letters styles letters ++ (with_style (first_of (drop (length letters) styles)) (drawn_item wide cluster) ∷ styled_clusters wide s clusters)) left_is)

  draw_clusters : (clusters : List (List ℕ)) → Clusters clusters
  draw_clusters [] spans letters are = draw_as (draw_spans spans letters are) (sym (append-nil (styled_letters (byte_styles spans) letters)))
  draw_clusters (cluster ∷ clusters) spans letters are = clusters_if cluster clusters (draw_clusters clusters) spans letters are (is_letter cluster) refl

  -- ---- rows

  singles : (styles : List (List ℕ)) (row : List ℕ) → list_all is_printable row ≡ true → styled_letters styles row ≡ styled_clusters wide styles (map (λ c. c ∷ []) row)
  singles styles [] h = refl
  singles styles (c ∷ row) h =
      let parts = and_parts (is_printable c) (list_all is_printable row) h in
      ap₂ (λ i ys. with_style (first_of styles) i ∷ ys) (letter_item (c ∷ []) parts.0) (singles (drop 1 styles) row parts.1)

  row_if : (spans : List SgrSpan) (row : List ℕ) → are_styles spans ≡ true → (b : Bool) → list_all is_printable row ≡ b
      → Draw (if b then painted_letters spans row else painted_clusters wide spans [] (graphemes true row)) (styled_clusters wide (byte_styles spans) (if b then map (λ c. c ∷ []) row else graphemes true row))
  row_if spans row are true e = draw_as (draw_spans spans row are) (singles (byte_styles spans) row e)
  row_if spans row are false e = draw_clusters (graphemes true row) spans [] are

  draw_row : (spans : List SgrSpan) (styles : List (List ℕ)) (row : List ℕ) → are_styles spans ≡ true → byte_styles spans ≡ styles → Draw (painted_row wide spans row) (styled_clusters wide styles (row_clusters row))
  draw_row spans styles row are same = draw_as (row_if spans row are (list_all is_printable row) refl) (ap (λ s. styled_clusters wide s (row_clusters row)) same)

  draw_behind : (spans : List SgrSpan) (styles : List (List ℕ)) (rows : List (List ℕ)) → are_styles spans ≡ true → byte_styles spans ≡ styles → Draw (painted_rows wide false spans rows) (styled_rows wide false styles rows)
  draw_behind spans styles [] are same = draw_none
  draw_behind spans styles (row ∷ rows) are same =
      let here = skip 1 spans in
      let here_are = skip_styles 1 spans are in
      let here_is : byte_styles here ≡ drop 1 styles = skip_is 1 spans ∙ ap (drop 1) same in
      draw_append (draw_bare NewRow)
      (draw_append (draw_row here (drop 1 styles) row here_are here_is)
      (draw_behind (skip (length row) here) (drop (length row) (drop 1 styles)) rows (skip_styles (length row) here here_are) (skip_is (length row) here ∙ ap (drop (length row)) here_is)))

  draw_rows : (spans : List SgrSpan) (rows : List (List ℕ)) → are_styles spans ≡ true → Draw (painted_rows wide true spans rows) (styled_rows wide true (byte_styles spans) rows)
  draw_rows spans [] are = draw_none
  draw_rows spans (row ∷ rows) are =
      draw_append (draw_row spans (byte_styles spans) row are refl)
      (draw_behind (skip (length row) spans) (drop (length row) (byte_styles spans)) rows (skip_styles (length row) spans are) (skip_is (length row) spans))

  pub draw_text : (spans : List SgrSpan) (text : List ℕ) → are_styles spans ≡ true → Draw (painted_text wide spans text) (styled_text wide spans text)
  draw_text spans text are = draw_rows spans (split_rows text) are

  -- ---- items with and without styles

  clusters_bare : (styles : List (List ℕ)) (clusters : List (List ℕ)) → bare_items (styled_clusters wide styles clusters) ≡ map (drawn_item wide) clusters
  clusters_bare styles [] = refl
  clusters_bare styles (c ∷ cs) = ap (λ ys. drawn_item wide c ∷ ys) (clusters_bare (drop (length c) styles) cs)

  letters_bare : (row : List ℕ) → list_all is_printable row ≡ true → map (drawn_item wide) (map (λ c. c ∷ []) row) ≡ map Letter row
  letters_bare [] h = refl
  letters_bare (c ∷ row) h =
      let parts = and_parts (is_printable c) (list_all is_printable row) h in
      ap₂ ◌∷◌ (sym (letter_item (c ∷ []) parts.0)) (letters_bare row parts.1)

  pub items_if : (row : List ℕ) (b : Bool) → list_all is_printable row ≡ b
      → map (drawn_item wide) (if b then map (λ c. c ∷ []) row else graphemes true row) ≡ (if b then map Letter row else map (drawn_item wide) (graphemes true row))
  items_if row true e = letters_bare row e
  items_if row false e = refl

  row_bare : (styles : List (List ℕ)) (row : List ℕ) → bare_items (styled_clusters wide styles (row_clusters row)) ≡ row_items wide row
  row_bare styles row = clusters_bare styles (row_clusters row) ∙ items_if row (list_all is_printable row) refl

  behind_bare : (styles : List (List ℕ)) (rows : List (List ℕ)) → bare_items (styled_rows wide false styles rows) ≡ flat_map (λ r. NewRow ∷ row_items wide r) rows
  behind_bare styles [] = refl
  behind_bare styles (row ∷ rows) =
      let later = drop (length row) (drop 1 styles) in
      ap (λ ys. NewRow ∷ ys) (map-append (λ (x : StyledItem). x.item) (styled_clusters wide (drop 1 styles) (row_clusters row)) (styled_rows wide false later rows)
      ∙ ap₂ ◌++◌ (row_bare (drop 1 styles) row) (behind_bare later rows))

  rows_bare : (styles : List (List ℕ)) (rows : List (List ℕ)) → bare_items (styled_rows wide true styles rows) ≡ join_rows wide rows
  rows_bare styles [] = refl
  rows_bare styles (row ∷ rows) =
      let later = drop (length row) styles in
      map-append (λ (x : StyledItem). x.item) (styled_clusters wide styles (row_clusters row)) (styled_rows wide false later rows)
      ∙ ap₂ ◌++◌ (row_bare styles row) (behind_bare later rows)

  pub items_of : (spans : List SgrSpan) (text : List ℕ) → map (λ x. x.item) (styled_text wide spans text) ≡ text_items wide text
  items_of spans text = rows_bare (byte_styles spans) (split_rows text)

  pub text_unpainted : (spans : List SgrSpan) (text : List ℕ) → are_styles spans ≡ true → all_unpainted (painted_text wide spans text) ≡ text_items wide text
  text_unpainted spans text are = bare_are (painted_text wide spans text) ∙ ap bare_items (draw_text spans text are).items ∙ items_of spans text

  -- without spans no item has a style

  abbrev plain : List StyledItem → List StyledItem
  plain ys = map (with_style []) (bare_items ys)

  plain_append : (xs ys : List StyledItem) → xs ≡ plain xs → ys ≡ plain ys → xs ++ ys ≡ plain (xs ++ ys)
  plain_append xs ys h k =
      ap₂ ◌++◌ h k ∙ sym (map-append (with_style []) (bare_items xs) (bare_items ys)) ∙ ap (map (with_style [])) (sym (map-append (λ (x : StyledItem). x.item) xs ys))

  none_left : (n : ℕ) (styles : List (List ℕ)) → styles ≡ [] → drop n styles ≡ []
  none_left n styles h = ap (drop n) h ∙ drop-nil n

  clusters_plain : (styles : List (List ℕ)) (clusters : List (List ℕ)) → styles ≡ [] → styled_clusters wide styles clusters ≡ plain (styled_clusters wide styles clusters)
  clusters_plain styles [] h = refl
  clusters_plain styles (c ∷ cs) h = ap₂ (λ s ys. with_style s (drawn_item wide c) ∷ ys) (ap first_of h) (clusters_plain (drop (length c) styles) cs (none_left (length c) styles h))

  behind_plain : (styles : List (List ℕ)) (rows : List (List ℕ)) → styles ≡ [] → styled_rows wide false styles rows ≡ plain (styled_rows wide false styles rows)
  behind_plain styles [] h = refl
  behind_plain styles (row ∷ rows) h =
      let next = drop 1 styles in
      let later = drop (length row) next in
      let none = none_left 1 styles h in
      ap (λ ys. with_style [] NewRow ∷ ys)
      (plain_append (styled_clusters wide next (row_clusters row)) (styled_rows wide false later rows) (clusters_plain next (row_clusters row) none) (behind_plain later rows (none_left (length row) next none)))

  rows_plain : (rows : List (List ℕ)) → styled_rows wide true [] rows ≡ plain (styled_rows wide true [] rows)
  rows_plain [] = refl
  rows_plain (row ∷ rows) =
      let later = drop (length row) [] in
      plain_append (styled_clusters wide [] (row_clusters row)) (styled_rows wide false later rows) (clusters_plain [] (row_clusters row) refl) (behind_plain later rows (drop-nil (length row)))

  pub plain_styled : (text : List ℕ) → styled_text wide [] text ≡ map (λ item. record { item = item; style = [] }) (text_items wide text)
  plain_styled text = rows_plain (split_rows text) ∙ ap (map (with_style [])) (items_of [] text)

-- ---- what can be drawn without styles can be drawn with them

module _ (columns : ℕ) (wide : Widths) where
  painted_from : (xs : List PaintedItem) → AllFit columns wide.cluster (all_unpainted xs) → AllStyled xs → AllPainted columns wide.cluster xs
  painted_from [] h k = tt
  painted_from (Bare item ∷ xs) h k = (h.0, painted_from xs h.1 k.1)
  painted_from (Begins style ∷ xs) h k = (k.0, painted_from xs h k.1)
  painted_from (Shaded style c ∷ xs) h k = ((k.0, h.0), painted_from xs h.1 k.1)
  painted_from (Fenced style bytes width ∷ xs) h k = ((k.0, h.0), painted_from xs h.1 k.1)
  painted_from (Padded style apart ∷ xs) h k = (k.0, painted_from xs h.1 k.1)

  pub text_painted : (spans : List SgrSpan) (text : List ℕ) → are_styles spans ≡ true → AllFit columns wide.cluster (text_items wide text) → AllPainted columns wide.cluster (painted_text wide spans text)
  text_painted spans text are fits =
      painted_from (painted_text wide spans text) (subst (AllFit columns wide.cluster) (sym (text_unpainted wide spans text are)) fits) (draw_text wide spans text are).styled

  -- no style stands before it, nor after it
  pub text_draws : (spans : List SgrSpan) (text : List ℕ) → are_styles spans ≡ true → AllFit columns wide.cluster (text_items wide text)
      → (r : DisplayReading) (xs : List Placed) (at : Position) → Ready columns r (D xs at [])
      → Ready columns (reading_after_bytes columns wide.cluster r (bytes_of_all_painted columns (painted_text wide spans text) at.col)) (D (xs ++ lay columns (styled_text wide spans text) at) (place_after columns (text_items wide text) at) [])
  text_draws spans text are fits r xs at h =
      let items = painted_text wide spans text in
      let draw = draw_text wide spans text are in
      let done = draws columns wide.cluster items r (D xs at []) (record { stands = h.stands; clear = h.clear; inside = h.inside }) (text_painted spans text are fits) draw.pens in
      let after = reading_after_bytes columns wide.cluster r (bytes_of_all_painted columns items at.col) in
      let last : Open columns after (D (xs ++ lay columns (styled_text wide spans text) at) (place_after columns (text_items wide text) at) []) =
      subst (λ pen. Open columns after (D (xs ++ lay columns (styled_text wide spans text) at) (place_after columns (text_items wide text) at) pen)) draw.ends
      (subst (λ is. Open columns after (D (xs ++ lay columns (styled_text wide spans text) at) (place_after columns is at) (pen_after [] items))) (text_unpainted wide spans text are)
      (subst (λ ys. Open columns after (D (xs ++ ys) (place_after columns (all_unpainted items) at) (pen_after [] items))) (lay_all columns items at ∙ ap (λ is. lay columns is at) draw.items) done)) in
      record { stands = last.stands; clear = last.clear; inside = last.inside; plain = refl }
