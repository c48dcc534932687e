-- The walks from row to row: a turn finds the start of one row more.
use Rattle.std.proofs.Common.{◌≡◌, ◌≢◌, ℕ, zero, suc, ◌+◌, ◌-◌, ◌<◌, List, ◌∷◌, length, take, drop, slice_range, get_or, Option, None, Some, refl, sym, ap, ap₂, ◌∙◌, arith, length-take, length-drop, get_or-take, get_or-drop, option_map, IfSome, IsUtf8, IsCharBoundary}
use Rattle.std.specs.List.{last_or}
use Rattle.std.proofs.lemmas.List.{drop-drop}
use Rattle.std.proofs.lemmas.Str.{IsCharBoundary-start}
use Rattle.line_buffer.specs.Line.{Line, text_after}
use Rattle.line_buffer.specs.Clusters.{nth_or_last}
use Rattle.line_buffer.specs.Rows.{row_start, behind_newlines, starts_below}
use Rattle.line_buffer.proofs.ChainLemmas.{nth_or_last-map}
use Rattle.line_buffer.proofs.RowStartLemmas.{behind-shift, opens_last_row, rows_back, rows_over, rows_over-take, rows_back_is, behind_first, behind_newline}

-- ---- up

pub record WalksUp (text : List ℕ) (n : ℕ) (found : Option ℕ) (left start : ℕ) : Type 0 where
  pub answer : last_or None (take n (drop 1 (rows_back text))) ≡ last_or found (take left (rows_over text start))
  pub newline : 0 < start → (start - 1 < length text) × (get_or text (start - 1) 0 ≡ 10)
  pub boundary : IfSome found (λ s. IsCharBoundary text s)

pub walks_up_init : (text : List ℕ) (n left start : ℕ) → left ≡ n → start ≡ row_start text (length text) → WalksUp text n None left start
walks_up_init text n left start all e =
    let last = opens_last_row text start e in
    record {
      answer = ap (λ xs. last_or None (take n (drop 1 xs))) (rows_back_is text start e) ∙ ap (λ k. last_or None (take k (rows_over text start))) (sym all);
      newline = λ l. (omega (arith, last.fits), last.newline l);
      boundary = tt;
    }

rows_over_step : (text : List ℕ) (start r : ℕ) → start ≢ 0 → r ≡ row_start (take (start - 1) text) (length (take (start - 1) text)) → rows_over text start ≡ r ∷ rows_over text r
rows_over_step text zero r some e = absurd (some refl)
rows_over_step text (suc k) r some e =
    let same : suc k - 1 ≡ k = omega arith in
    let here : r ≡ row_start (take k text) (length (take k text)) = e ∙ ap (λ j. row_start (take j text) (length (take j text))) same in
    rows_back_is (take k text) r here
    ∙ ap (λ xs. r ∷ xs) (rows_over-take text k r (omega (arith, (opens_last_row (take k text) r here).fits, length-take k text)))

pub walks_up_turn : (text : List ℕ) (n : ℕ) (found : Option ℕ) (left less start : ℕ) (part : List ℕ) (r : ℕ) → WalksUp text n found left start → IsUtf8 text → left ≡ less + 1 → start ≢ 0
    → part ≡ slice_range text 0 (start - 1) → r ≡ row_start part (length part) → WalksUp text n (Some r) less r
walks_up_turn text n found left less start part r w u some above is e =
    let none : start - 1 - 0 ≡ start - 1 = omega arith in
    let cut : part ≡ take (start - 1) text = is ∙ ap (λ k. take k text) none in
    let last = opens_last_row part r e in
    let next : left ≡ suc less = omega (arith, some) in
    let short : length part ≡ length (take (start - 1) text) = ap length cut in
    let line : 0 < r → (r - 1 < length text) × (get_or text (r - 1) 0 ≡ 10) =
    λ l. (
      omega (arith, last.fits, short, length-take (start - 1) text),
      sym (get_or-take (start - 1) text (r - 1) 0 (omega (arith, last.fits, short, length-take (start - 1) text))) ∙ ap (λ t. get_or t (r - 1) 0) (sym cut) ∙ last.newline l,
    ) in
    record {
      answer = w.answer ∙ ap₂ (λ k xs. last_or found (take k xs)) next (rows_over_step text start r above (e ∙ ap (λ t. row_start t (length t)) cut));
      newline = line;
      boundary = behind_newline text r u line;
    }

-- ---- down

pub record WalksDown (text : List ℕ) (n : ℕ) (found : Option ℕ) (left start : ℕ) : Type 0 where
  pub answer : last_or None (take n (behind_newlines 0 text)) ≡ last_or found (take left (behind_newlines start (drop start text)))
  pub boundary : IfSome found (λ s. IsCharBoundary text s)
  pub here : IsCharBoundary text start

pub walks_down_init : (text : List ℕ) (n left : ℕ) → left ≡ n → IsUtf8 text → WalksDown text n None left 0
walks_down_init text n left all u = record { answer = ap (λ k. last_or None (take k (behind_newlines 0 text))) (sym all); boundary = tt; here = IsCharBoundary-start text u }

pub walks_down_turn : (text : List ℕ) (n : ℕ) (found : Option ℕ) (left less start : ℕ) (part : List ℕ) (k : ℕ) → WalksDown text n found left start → IsUtf8 text → left ≡ less + 1
    → part ≡ drop start text → (k < length part) × (get_or part k 0 ≡ 10) × ((i : ℕ) → i < k → get_or part i 0 ≢ 10) → WalksDown text n (Some (start + (k + 1))) less (start + (k + 1))
walks_down_turn text n found left less start part k w u some is h =
    let next : (start + k) + 1 ≡ start + (k + 1) = omega arith in
    let line : 0 < start + (k + 1) → (start + (k + 1) - 1 < length text) × (get_or text (start + (k + 1) - 1) 0 ≡ 10) =
    λ l. let same : start + (k + 1) - 1 ≡ start + k = omega arith in (
      omega (arith, h.0, ap length is, length-drop start text),
      ap (λ j. get_or text j 0) same ∙ sym (get_or-drop start text k 0) ∙ ap (λ t. get_or t k 0) (sym is) ∙ h.1,
    ) in
    let cut = behind_newline text (start + (k + 1)) u line in
    let wanted : left ≡ suc less = omega (arith, some) in
    record {
      answer = w.answer ∙ ap₂ (λ m xs. last_or found (take m xs)) wanted
          (ap (behind_newlines start) (sym is) ∙ behind_first start part k h
          ∙ ap (λ m. m ∷ behind_newlines m (drop (k + 1) part)) next
          ∙ ap (λ t. (start + (k + 1)) ∷ behind_newlines (start + (k + 1)) t) (ap (drop (k + 1)) is ∙ drop-drop (k + 1) start text));
      boundary = cut;
      here = cut;
    }

-- the rows below, seen from the cursor's place and from the whole text
pub below_from_rest : (l m : Line) → l ≡ m → (rest : List ℕ) (n : ℕ) (o : Option ℕ) → rest ≡ text_after l → o ≡ nth_or_last n (behind_newlines 0 rest)
    → option_map (λ i. l.place + i) o ≡ nth_or_last n (starts_below m)
below_from_rest l m same rest n o t e =
    let zero : l.place + 0 ≡ l.place = omega arith in
    ap (option_map (λ i. l.place + i)) e ∙ sym (nth_or_last-map (λ i. l.place + i) n (behind_newlines 0 rest))
    ∙ ap (nth_or_last n) (sym (behind-shift l.place 0 rest) ∙ ap (λ k. behind_newlines k rest) zero ∙ ap (behind_newlines l.place) t)
    ∙ ap (λ x. nth_or_last n (starts_below x)) same
