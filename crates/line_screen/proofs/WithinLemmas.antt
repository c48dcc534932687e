-- Printable ASCII with styles that doesn't fill its row.
use Rattle.std.proofs.Common.{◌≡◌, ℕ, ◌+◌, ◌<◌, ◌==◌, Bool, false, List, [], ◌∷◌, ◌++◌, map, length, take, drop, Result, Ok, Err, refl, sym, ap, ap₂, ◌∙◌, append_assoc, append-nil, length-append, arith, if◌then◌else◌}
use Rattle.std.proofs.lemmas.Bool.{ne_eqb}
use Rattle.std.proofs.lemmas.List.{map-append, take-append-drop}
use Rattle.std.specs.Result.{IsErrAnd}
use Rattle.line_config.specs.declared.device.DeviceFailed.{DeviceFailed}
use Rattle.line_config.specs.Sending.{Sends}
use Rattle.line_screen.specs.Drawing.{break_if, col_after, no_style}
use Rattle.line_screen.specs.Drawing.DrawnItem.{Letter}
use Rattle.line_screen.specs.Colours.{SgrSpan, style_bytes, letters_in_style, painted_letters, letters_within, spans_within, bare_letters, bytes_of_all_painted, end_of, SendsPainted}
use Rattle.line_screen.specs.Colours.PaintedItem.{Shaded, Begins}
use Rattle.line_screen.proofs.Runs.{sent_run, col_after_run}
use Rattle.line_screen.proofs.Sendings.{sends_as, sends_answer, sent_failed}
use Rattle.line_screen.proofs.StyledTextLemmas.{bare_of}
use Rattle.line_screen.proofs.PaintRuns.{shaded_run, shades_are, items_bare, items_sent, painted-append, framed_bytes}
use Rattle.line_screen.proofs.Parts.{shaded_break, all_unpainted}

-- ---- in a row

letters_are : (style letters : List ℕ) → all_unpainted (letters_in_style style letters) ≡ map Letter letters
letters_are style [] = refl
letters_are [] (c ∷ letters) = items_bare (map Letter (c ∷ letters))
letters_are (p ∷ style) (c ∷ letters) = bare_of (map (Shaded (p ∷ style)) (c ∷ letters)) (Begins [] ∷ []) ∙ append-nil _ ∙ shades_are (p ∷ style) (c ∷ letters)

module _ (columns : ℕ) where
  in_row : (letters : List ℕ) (col : ℕ) → col + length letters < columns → (col + length letters == columns) ≡ false
  in_row letters col room = ne_eqb (col + length letters) columns (λ same. omega arith)

  letters_end : (letters : List ℕ) (col : ℕ) → col + length letters < columns → col_after columns (map Letter letters) col ≡ col + length letters
  letters_end letters col room =
      col_after_run columns letters col (omega arith) (omega arith)
      ∙ ap (λ b. if b then 0 else (col + length letters)) (in_row letters col room)

  bare_in_row : (letters : List ℕ) (col : ℕ) → col + length letters < columns → bytes_of_all_painted columns (bare_letters letters) col ≡ letters
  bare_in_row letters col room =
      sym (items_sent columns (map Letter letters) col) ∙ sent_run columns letters col (omega arith) (omega arith)
      ∙ ap (λ b. letters ++ break_if b) (in_row letters col room) ∙ append-nil letters

  style_in_row : (style letters : List ℕ) (col : ℕ) → col + length letters < columns → bytes_of_all_painted columns (letters_in_style style letters) col ≡ letters_within style letters
  style_in_row style [] col room = refl
  style_in_row [] (c ∷ letters) col room = bare_in_row (c ∷ letters) col room
  style_in_row (p ∷ style) (c ∷ letters) col room =
      let shades = map (Shaded (p ∷ style)) (c ∷ letters) in
      sym (framed_bytes columns (p ∷ style) shades col)
      ∙ ap (λ bs. style_bytes (p ∷ style) ++ (bs ++ no_style))
      (shaded_run columns (p ∷ style) (c ∷ letters) col (omega arith) (omega arith)
      ∙ ap (λ b. (c ∷ letters) ++ shaded_break (p ∷ style) b) (in_row (c ∷ letters) col room) ∙ append-nil (c ∷ letters))
      ∙ sym (append_assoc (style_bytes (p ∷ style)) (c ∷ letters) no_style)

  spans_in_row : (spans : List SgrSpan) (letters : List ℕ) (col : ℕ) → col + length letters < columns → bytes_of_all_painted columns (painted_letters spans letters) col ≡ spans_within spans letters
  spans_in_row [] letters col room = bare_in_row letters col room
  spans_in_row (s ∷ spans) letters col room =
      let front = take s.len letters in
      let back = drop s.len letters in
      let whole : front ++ back ≡ letters = take-append-drop s.len letters in
      let count : length front + length back ≡ length letters = sym (length-append front back) ∙ ap length whole in
      let here : end_of columns (letters_in_style s.style front) col ≡ col + length front = ap (λ is. col_after columns is col) (letters_are s.style front) ∙ letters_end front col (omega arith) in
      painted-append columns (letters_in_style s.style front) (painted_letters spans back) col
      ∙ ap₂ ◌++◌ (style_in_row s.style front col (omega arith))
      (ap (bytes_of_all_painted columns (painted_letters spans back)) here ∙ spans_in_row spans back (col + length front) (omega arith))

  spans_are : (spans : List SgrSpan) (letters : List ℕ) → all_unpainted (painted_letters spans letters) ≡ map Letter letters
  spans_are [] letters = items_bare (map Letter letters)
  spans_are (s ∷ spans) letters =
      let front = take s.len letters in
      let back = drop s.len letters in
      bare_of (letters_in_style s.style front) (painted_letters spans back)
      ∙ ap₂ ◌++◌ (letters_are s.style front) (spans_are spans back)
      ∙ sym (map-append Letter front back) ∙ ap (map Letter) (take-append-drop s.len letters)

  -- what doesn't fill its row needs no rows
  pub sends_within : {D X F : Type 0} {held : D → List ℕ} {failed : D → Bool} (spans : List SgrSpan) (letters : List ℕ) (col : ℕ) {a b : D} {x : X}
      → col + length letters < columns → Sends {A = X} {E = F} held failed (spans_within spans letters) a b (Ok x)
      → SendsPainted (painted_letters spans letters) col columns held failed a b (Ok (col + length letters))
  sends_within spans letters col room s = record {
    sends = sends_as (sym (spans_in_row spans letters col room)) (sends_answer s);
    next = sym (ap (λ is. col_after columns is col) (spans_are spans letters) ∙ letters_end letters col room);
    inside = room;
  }

  pub cut_within : {D X F : Type 0} {held : D → List ℕ} {failed : D → Bool} {e : F} {r : Result ℕ DeviceFailed} (Q : DeviceFailed → Type 0)
      (spans : List SgrSpan) (letters : List ℕ) (col : ℕ) {a b : D}
      → col + length letters < columns → Sends {A = X} held failed (spans_within spans letters) a b (Err e) → IsErrAnd r Q
      → SendsPainted (painted_letters spans letters) col columns held failed a b r
  cut_within {r = Ok x} Q spans letters col room s refused = absurd refused
  cut_within {r = Err e} Q spans letters col room s refused =
      record { sends = sends_as (sym (spans_in_row spans letters col room)) (sent_failed Q s refused); next = tt; inside = tt }
