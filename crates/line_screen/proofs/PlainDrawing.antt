-- Without styles the bytes of a drawing are those of its texts alone.
use Rattle.std.proofs.Common.{◌≡◌, ℕ, List, [], ◌++◌, Option, Some, None, refl, sym, ap, ◌∙◌}
use Rattle.line_buffer.specs.declared.layout.Position.{Position}
use Rattle.line_screen.specs.Colours.{painted_text, bytes_of_all_painted, bytes_of_painted_texts, no_styles, painted_bytes}
use Rattle.line_screen.specs.Drawing.{Widths, text_items, no_style, bytes_of_items, col_after, shown_text, move_bytes, clearing_bytes}
use Rattle.line_screen.specs.Laws.{PlainDrawingsAreDrawings}
use Rattle.line_screen.proofs.PaintCode.{bare_text}
use Rattle.line_screen.proofs.PaintRuns.{items_sent}
use Rattle.line_screen.proofs.StyledTextLemmas.{text_unpainted}
use Rattle.line_screen.proofs.Parts.{all_unpainted, painted_drawing, painted_full_drawing}

module _ (columns : ℕ) (wide : Widths) where
  pub plain_text : (text : List ℕ) (col : ℕ) → bytes_of_all_painted columns (painted_text wide [] text) col ≡ bytes_of_items columns (text_items wide text) col
  plain_text text col =
      ap (λ xs. bytes_of_all_painted columns xs col) (sym (bare_text wide [] text refl)) ∙ sym (items_sent columns (text_items wide text) col)

  pub plain_shown : (prompt line info : List ℕ) → bytes_of_painted_texts columns wide no_styles prompt line info ≡ shown_text columns wide prompt line info
  plain_shown prompt line info =
      let three : List ℕ → List ℕ → List ℕ → List ℕ = λ a b c. no_style ++ a ++ no_style ++ b ++ no_style ++ c ++ no_style in
      let painted : List ℕ → ℕ → List ℕ = λ text col. bytes_of_all_painted columns (painted_text wide [] text) col in
      let plain : List ℕ → ℕ → List ℕ = λ text col. bytes_of_items columns (text_items wide text) col in
      let after : List ℕ → ℕ → ℕ = λ text col. col_after columns (text_items wide text) col in
      ap (λ is. three (painted prompt 0) (painted line (col_after columns is 0)) (painted info (col_after columns (all_unpainted (painted_text wide [] line)) (col_after columns is 0)))) (text_unpainted wide [] prompt refl)
      ∙ ap (λ is. three (painted prompt 0) (painted line (after prompt 0)) (painted info (col_after columns is (after prompt 0)))) (text_unpainted wide [] line refl)
      ∙ ap (λ x. three x (painted line (after prompt 0)) (painted info (after line (after prompt 0)))) (plain_text prompt 0)
      ∙ ap (λ x. three (plain prompt 0) x (painted info (after line (after prompt 0)))) (plain_text line (after prompt 0))
      ∙ ap (λ x. three (plain prompt 0) (plain line (after prompt 0)) x) (plain_text info (after line (after prompt 0)))

  pub plain_drawing : (prompt line info : List ℕ) (finish cursor : Position) → painted_drawing columns wide no_styles prompt line info finish cursor ≡ shown_text columns wide prompt line info ++ move_bytes finish cursor
  plain_drawing prompt line info finish cursor = ap (λ bytes. bytes ++ move_bytes finish cursor) (plain_shown prompt line info)

  pub plain_full : (old : ℕ) (prompt line info : List ℕ) (finish cursor : Position) → painted_full_drawing columns wide no_styles old prompt line info finish cursor ≡ clearing_bytes old ++ (shown_text columns wide prompt line info ++ move_bytes finish cursor)
  plain_full old prompt line info finish cursor = ap (λ bytes. clearing_bytes old ++ bytes) (plain_drawing prompt line info finish cursor)

-- in the place of an older drawing, or of none
abbrev pub drawing_bytes : ℕ → Widths → Option ℕ → List ℕ → List ℕ → List ℕ → Position → Position → List ℕ
drawing_bytes columns wide None prompt line info finish cursor = shown_text columns wide prompt line info ++ move_bytes finish cursor
drawing_bytes columns wide (Some row) prompt line info finish cursor = clearing_bytes row ++ (shown_text columns wide prompt line info ++ move_bytes finish cursor)

pub plain_bytes : (columns : ℕ) (wide : Widths) (old : Option ℕ) (prompt line info : List ℕ) (finish cursor : Position)
    → painted_bytes columns wide no_styles old prompt line info finish cursor ≡ drawing_bytes columns wide old prompt line info finish cursor
plain_bytes columns wide None prompt line info finish cursor = plain_drawing columns wide prompt line info finish cursor
plain_bytes columns wide (Some row) prompt line info finish cursor = plain_full columns wide row prompt line info finish cursor

pub plain_drawings : PlainDrawingsAreDrawings
plain_drawings = plain_shown
