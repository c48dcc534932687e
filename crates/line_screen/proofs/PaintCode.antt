-- What the loops over spans send.
use Rattle.std.proofs.Common.{◌≡◌, ℕ, ◌+◌, ◌<◌, ◌==◌, Bool, true, false, List, [], ◌∷◌, ◌++◌, ◌-◌, map, length, take, drop, take_at, drop_at, length-append, append-nil, if◌then◌else◌, min, get_or, Option, Some, None, zero, suc, refl, sym, ap, ap₂, ◌∙◌, arith, add-one, drop-cons}
use Rattle.std.specs.Option.{option_to_list}
use Rattle.std.specs.List.{concat, list_all, onto_first}
use Rattle.std.proofs.lemmas.Bool.{eqb-true, and_parts}
use Rattle.std.proofs.lemmas.List.{map-append, take_min, drop_min}
use Rattle.std.proofs.lemmas.List.Splits.{slice_split-cons_no}
use Rattle.unicode_segmentation.specs.Grapheme.{graphemes}
use Rattle.std.proofs.Math.Seq.{take-nil, drop-nil}
use Rattle.line_screen.proofs.Items.{no_newline}
use Rattle.std.specs.Option.{option_map_or}
use Rattle.line_screen.specs.Display.{is_printable}
use Rattle.line_screen.specs.Drawing.{Widths, is_letter, drawn_item, split_rows, text_items}
use Rattle.line_screen.specs.Drawing.DrawnItem.{NewRow, Letter}
use Rattle.line_screen.specs.Colours.{SgrSpan, span_of, spans_in, skip, PaintedItem, letters_in_style, painted_letters, painted_clusters, painted_row, painted_rows, painted_text, bare_letters}
use Rattle.line_screen.specs.Colours.PaintedItem.{Bare}
use Rattle.line_screen.proofs.SequenceLemmas.{either}
use Rattle.line_screen.proofs.StyledTextLemmas.{bare_of, text_unpainted}
use Rattle.line_screen.specs.declared.drawing.painted.Spans as spans
use Rattle.line_help.specs.declared.helpers.style.Span as span
use Rattle.line_help.specs.declared.helpers.style.Mark.{Mark}
use Rattle.line_help.specs.Paints.{IsNextSpan, first_mark}
use Rattle.line_screen.proofs.Parts.{all_unpainted, items_painted_after, next_painted, spans_behind}

-- letters span by span: `one` are those of one span, `all` those of all spans
module _ {Y : Type 0} (one : List ℕ → List ℕ → List Y) (all : List SgrSpan → List ℕ → List Y)
    (step : (s : SgrSpan) (spans : List SgrSpan) (letters : List ℕ) → all (s ∷ spans) letters ≡ one s.style (take s.len letters) ++ all spans (drop s.len letters)) where
  -- the letters of the first span are next
  pub span_next : {spans behind : List SgrSpan} {s : SgrSpan} (letters : List ℕ) {front back : List ℕ} {count : ℕ} → spans ≡ s ∷ behind
      → count ≡ min s.len (length letters)
      → front ≡ take count letters → back ≡ drop count letters → all spans letters ≡ one s.style front ++ all behind back
  span_next {behind = behind} {s = s} letters {front = front} {back = back} is counted front_is back_is =
      let f : front ≡ take s.len letters = front_is ∙ ap (λ k. take k letters) counted ∙ take_min s.len letters in
      let b : back ≡ drop s.len letters = back_is ∙ ap (λ k. drop k letters) counted ∙ drop_min s.len letters in
      ap (λ ss. all ss letters) is ∙ step s behind letters
      ∙ ap (λ xs. one s.style xs ++ all behind (drop s.len letters)) (sym f)
      ∙ ap (λ xs. one s.style front ++ all behind xs) (sym b)

  -- without letters nothing is left, whatever spans follow
  pub no_letters : ((style : List ℕ) → one style [] ≡ []) → all [] [] ≡ [] → (spans : List SgrSpan) (letters : List ℕ) → (length letters == 0) ≡ true → all spans letters ≡ []
  no_letters none last [] [] h = last
  no_letters none last (s ∷ spans) [] h =
      step s spans [] ∙ ap (λ xs. one s.style xs ++ all spans (drop s.len [])) (take-nil s.len) ∙ ap (λ xs. xs ++ all spans (drop s.len [])) (none s.style)
      ∙ ap (all spans) (drop-nil s.len) ∙ no_letters none last spans [] h
  no_letters none last spans (c ∷ letters) h = let zero = eqb-true (length (c ∷ letters)) 0 h in absurd (omega arith)

-- nothing is left of a span that was returned
pub asked : (paints : Mark → List span.Span) (left : spans.Spans) (next : Option (span.Span × Mark)) → left.first ≡ None → IsNextSpan paints left.mark next
    → spans_in paints left ≡ option_map_or (λ n. span_of n.0 ∷ map span_of (paints n.1)) next []
asked paints left None is h = ap (λ o. map span_of (option_to_list o ++ paints left.mark)) is ∙ ap (map span_of) h
asked paints left (Some next) is h = ap (λ o. map span_of (option_to_list o ++ paints left.mark)) is ∙ ap (map span_of) h

-- all spans of a text
abbrev pub all_spans : (Mark → List span.Span) → List SgrSpan
all_spans paints = map span_of (paints first_mark)

pub all_left : (paints : Mark → List span.Span) (left : spans.Spans) → left.first ≡ None → left.mark ≡ first_mark → spans_in paints left ≡ all_spans paints
all_left paints left none first = ap (λ o. map span_of (option_to_list o ++ paints left.mark)) none ∙ ap (λ m. map span_of (paints m)) first

pub no_spans : (paints : Mark → List span.Span) (m : Mark) → m ≡ first_mark → paints m ≡ [] → [] ≡ all_spans paints
no_spans paints m is none = sym (ap (λ k. map span_of (paints k)) (sym is) ∙ ap (map span_of) none)

-- the next cluster is no letter
pub next_other : (wide : Widths) (spans : List SgrSpan) {later : List SgrSpan} (letters : List ℕ) {g : List ℕ} {before left : List (List ℕ)} → before ≡ g ∷ left
    → is_letter g ≡ false → later ≡ skip (length g) (skip (length letters) spans)
    → painted_clusters wide spans letters before ≡ items_painted_after wide spans letters g ++ painted_clusters wide later [] left
next_other wide spans letters {g = g} {left = left} is other later_is =
    ap (painted_clusters wide spans letters) is
    ∙ ap (λ b. if b then painted_clusters wide spans (letters ++ g) left else (items_painted_after wide spans letters g ++ painted_clusters wide (skip (length g) (skip (length letters) spans)) [] left)) other
    ∙ ap (λ ss. items_painted_after wide spans letters g ++ painted_clusters wide ss [] left) (sym later_is)

-- the letters of a row that aren't sent yet, before its other bytes, which are the clusters that are left; and what holds of them
pub record RowSoFar (rest tail : List ℕ) (left : List (List ℕ)) (Holds : List ℕ → Type 0) : Type 0 where
  pub letters : List ℕ
  pub rest_is : rest ≡ letters ++ tail
  pub tail_is : tail ≡ concat left
  pub holds : Holds letters

module _ {rest tail : List ℕ} {left : List (List ℕ)} {Holds : List ℕ → Type 0} (h : RowSoFar rest tail left Holds) where
  pub letters_taken : {count : ℕ} {front : List ℕ} → count ≡ length rest - length tail → front ≡ take count rest → front ≡ h.letters
  letters_taken {count} count_is front_is =
      let e : length rest ≡ length h.letters + length tail = ap length h.rest_is ∙ length-append h.letters tail in
      let same : count ≡ length h.letters = omega arith in
      front_is ∙ ap (take count) h.rest_is ∙ take_at h.letters tail count (sym same)

  pub tail_dropped : {g back : List ℕ} {later : List (List ℕ)} → left ≡ g ∷ later → back ≡ drop (length g) tail → back ≡ concat later
  tail_dropped {g} {later = later} is back_is = back_is ∙ ap (drop (length g)) (h.tail_is ∙ ap concat is) ∙ drop_at g (concat later) (length g) refl

-- ---- rows

abbrev pub painted_from : Widths → List ℕ → Bool → List SgrSpan → ℕ → List PaintedItem
painted_from wide text is_first spans n = painted_rows wide is_first spans (drop n (split_rows text))

pub rows_take : (wide : Widths) (text : List ℕ) (is_first : Bool) (spans later : List SgrSpan) (n m : ℕ) (row : List ℕ) → n < length (split_rows text) → row ≡ get_or (split_rows text) n row → m ≡ n + 1 → later ≡ spans_behind is_first spans row
    → painted_from wide text is_first spans n ≡ next_painted wide is_first spans row ++ painted_from wide text false later m
rows_take wide text is_first spans later n m row low is more later_is =
    let rest : drop (n + 1) (split_rows text) ≡ drop m (split_rows text) = ap (λ k. drop k (split_rows text)) (sym more) in
    let split : drop n (split_rows text) ≡ row ∷ drop (n + 1) (split_rows text) = rw add-one (drop-cons (split_rows text) n row low ∙ ap (λ r. r ∷ drop (suc n) (split_rows text)) (sym is)) in
    ap (painted_rows wide is_first spans) (split ∙ ap (λ rs. row ∷ rs) rest)
    ∙ ap (λ ss. next_painted wide is_first spans row ++ painted_rows wide false ss (drop m (split_rows text))) (sym later_is)

pub rows_end : (wide : Widths) (text : List ℕ) (is_first : Bool) (spans : List SgrSpan) (n : ℕ) → drop n (split_rows text) ≡ [] → painted_from wide text is_first spans n ≡ []
rows_end wide text is_first spans n h = ap (painted_rows wide is_first spans) h

-- ---- printable ASCII is one row

one_row : (text : List ℕ) → list_all is_printable text ≡ true → split_rows text ≡ text ∷ []
one_row [] h = refl
one_row (c ∷ cs) h =
    let parts = and_parts (is_printable c) (list_all is_printable cs) h in
    slice_split-cons_no (λ x. x == 0x0A) c cs (no_newline c parts.0) ∙ ap (onto_first c) (one_row cs parts.1)

text_letters : (wide : Widths) (spans : List SgrSpan) (text : List ℕ) → list_all is_printable text ≡ true → painted_text wide spans text ≡ painted_letters spans text
text_letters wide spans text h = ap (painted_rows wide true spans) (one_row text h) ∙ append-nil (painted_row wide spans text)
    ∙ ap (λ b. if b then painted_letters spans text else painted_clusters wide spans [] (graphemes true text)) h

pub no_text : (wide : Widths) (spans : List SgrSpan) (text : List ℕ) → true ≡ (length text == 0) → painted_text wide spans text ≡ []
no_text wide spans [] none = text_letters wide spans [] refl ∙ no_letters letters_in_style painted_letters (λ s ss letters. refl) (λ style. refl) refl spans [] refl
no_text wide spans (c ∷ text) none = let zero = eqb-true (length (c ∷ text)) 0 (sym none) in absurd (omega arith)

pub letters_sent : (wide : Widths) (paints : Mark → List span.Span) (left : spans.Spans) (bytes text : List ℕ) → left.first ≡ None → left.mark ≡ first_mark → bytes ≡ text → true ≡ list_all is_printable text
    → painted_letters (spans_in paints left) bytes ≡ painted_text wide (all_spans paints) text
letters_sent wide paints left bytes text none first same h =
    ap (painted_letters (spans_in paints left)) same ∙ ap (λ ss. painted_letters ss text) (all_left paints left none first) ∙ sym (text_letters wide (all_spans paints) text (sym h))

pub row_sent : (wide : Widths) (spans : List SgrSpan) (bytes text : List ℕ) → bytes ≡ text → true ≡ list_all is_printable text → painted_letters spans bytes ≡ painted_text wide spans text
row_sent wide spans bytes text same h = ap (painted_letters spans) same ∙ sym (text_letters wide spans text (sym h))

-- ---- without spans each item is the text's

abbrev Plain : List PaintedItem → Type 0
Plain xs = xs ≡ map Bare (all_unpainted xs)

plain_append : (xs ys : List PaintedItem) → Plain xs → Plain ys → Plain (xs ++ ys)
plain_append xs ys h k = ap₂ ◌++◌ h k ∙ sym (map-append Bare (all_unpainted xs) (all_unpainted ys)) ∙ ap (map Bare) (sym (bare_of xs ys))

letters_plain : (letters : List ℕ) → Plain (bare_letters letters)
letters_plain [] = refl
letters_plain (c ∷ letters) = ap (λ xs. Bare (Letter c) ∷ xs) (letters_plain letters)

module _ (wide : Widths) where
  clusters_plain : (letters : List ℕ) (clusters : List (List ℕ)) → Plain (painted_clusters wide [] letters clusters)
  clusters_plain letters [] = letters_plain letters
  clusters_plain letters (g ∷ gs) =
      let item = Bare (drawn_item wide g) ∷ [] in
      either Plain (is_letter g) (clusters_plain (letters ++ g) gs)
      (plain_append (bare_letters letters ++ item) (painted_clusters wide [] [] gs) (plain_append (bare_letters letters) item (letters_plain letters) refl) (clusters_plain [] gs))

  row_plain : (row : List ℕ) → Plain (painted_row wide [] row)
  row_plain row = either Plain (list_all is_printable row) (letters_plain row) (clusters_plain [] (graphemes true row))

  behind_plain : (rows : List (List ℕ)) → Plain (painted_rows wide false [] rows)
  behind_plain [] = refl
  behind_plain (row ∷ rows) = ap (λ xs. Bare NewRow ∷ xs) (plain_append (painted_row wide [] row) (painted_rows wide false [] rows) (row_plain row) (behind_plain rows))

  rows_plain : (rows : List (List ℕ)) → Plain (painted_rows wide true [] rows)
  rows_plain [] = refl
  rows_plain (row ∷ rows) = plain_append (painted_row wide [] row) (painted_rows wide false [] rows) (row_plain row) (behind_plain rows)

  pub bare_text : (spans : List SgrSpan) (text : List ℕ) → [] ≡ spans → map Bare (text_items wide text) ≡ painted_text wide spans text
  bare_text spans text none =
      sym (rows_plain (split_rows text) ∙ ap (map Bare) (text_unpainted wide [] text refl)) ∙ ap (λ ss. painted_text wide ss text) none
