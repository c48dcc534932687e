-- Calls without a highlighter begin no style.
use Rattle.std.proofs.Common.{◌≡◌, ℕ, ◌+◌, ◌-◌, ◌%◌, ◌/◌, ◌^◌, ◌<◌, ◌≤◌, ◌==◌, nat_lt, nat_le, Bool, true, false, List, [], ◌∷◌, ◌++◌, length, take, drop, decimal, Option, Some, None, inl, inr, zero, suc, refl, sym, ap, ◌∙◌, subst, arith, if◌then◌else◌}
use Rattle.std.specs.List.{list_all, flat_map, FoldsTo}
use Rattle.std.proofs.lemmas.Bool.{and_parts, eqb-false, false≢true}
use Rattle.std.proofs.lemmas.Bool.Decides.{nat_tests}
use Rattle.std.proofs.lemmas.List.Folds.{list_all-append}
use Rattle.std.proofs.lemmas.Fmt.{decimal_by_steps}
use Rattle.line_buffer.specs.Cells.{origin, same_cell}
use Rattle.line_buffer.specs.Printable.{is_printable, at_simple_end}
use Rattle.line_buffer.specs.Width.{tab_width}
use Rattle.line_buffer.specs.declared.layout.GraphemeClusterMode.{GraphemeClusterMode}
use Rattle.line_buffer.specs.declared.layout.Layout.{Layout}
use Rattle.line_buffer.specs.declared.layout.Position.{Position}
use Rattle.line_config.specs.declared.settings.BellStyle.{BellStyle}
use Rattle.line_config.specs.declared.settings.BellStyle.TheVariants as Bells
use Rattle.line_editor.specs.RenderCalls.{Call, Ruler}
use Rattle.line_editor.specs.RenderCalls.Call.{Draw, Move, Write, Beep, ClearRows, MoveAndClearToEol, InsertChar, MoveAndDelete, Append, DrawRest, WriteOver}
use Rattle.line_editor.specs.Redraws.{Redraw, RedrawCalls, calls_of_redraw, info_text, may_write_over, may_take, may_erase, may_put_in, may_take_out}
use Rattle.line_editor.specs.Redraws.Redraw.{Moved, Typed, Appended, Taken, Erased, PutIn, TakenOut, Bared, ToEnd, Rewritten}
use Rattle.line_editor.specs.Values.{shown_marks}
use Rattle.line_screen.specs.ScreenCalls.{Screen, bytes_of, bell_bytes, old_row, ruler_of, widths}
use Rattle.line_screen.specs.Chain.{View, Good, Picture, Inside, ReplacesDrawing, LeadsView, TakesOut, DrawsRest, picture_of_line, cursor_of}
use Rattle.line_screen.specs.Laws.{OnEachScreen, BeginsNoStyle, has_no_marks, UnmarkedCallsBeginNone, ScreensWithoutColours, Uncoloured}
use Rattle.line_screen.specs.Colours.{no_styles, painted_text, bytes_of_all_painted, rest_drawing}
use Rattle.line_screen.specs.Display.{Placed, is_text, right}
use Rattle.line_screen.specs.Drawing.{DrawnItem, Widths, text_items, no_style, in_fence, break_if, fitted_col, bytes_of_item, col_after_one, bytes_of_items, col_after, control_sequence, erase_to_end, erase_to_row_end, take_cells_out, row_break, left_col, put_in, pushed_on, put_and_pushed, insertion_bytes, pulled_back, place_after_insertion, place_after_deletion, move_bytes, clearing_bytes, shown_text, short_move}
use Rattle.line_screen.specs.Drawing.DrawnItem.{NewRow, Letter, Cluster, Tab}
use Rattle.line_screen.specs.Measure.{cluster_width, widths_by, in_row}
use Rattle.line_screen.proofs.SequenceLemmas.{either}
use Rattle.line_screen.proofs.Standing.{printable_text}
use Rattle.line_screen.proofs.Draws.{Fits, AllFit, list_all_since}
use Rattle.line_screen.proofs.Fitting.{items_fit, fit_append, after_inside, drawable}
use Rattle.line_screen.proofs.InsertedRows.{behind_first}
use Rattle.line_screen.proofs.Moves.{place}
use Rattle.line_screen.proofs.PlainDrawing.{plain_text, plain_bytes, drawing_bytes}
use Rattle.line_screen.proofs.LawLemmas.{calls_lead}
use Rattle.line_screen.proofs.Leading.{no_styles_are, redraw_drawable}
use Rattle.std.specs.Prelude.{length, replicate, slice_range}
use Rattle.std.proofs.lemmas.Str.{encode_ascii}
use Rattle.line_buffer.proofs.JoinLemmas.{printable_ascii}
use Rattle.line_screen.proofs.Parts.{all_unpainted, cluster_in_fence, open_cell, begin_inserting, end_inserting, begins_two_rows, is_step_back}

-- ---- sequences that begin otherwise

-- what was read: text, ESC, ESC [, or an ESC that begins none of these sequences
data Reading : Type 0 where
  Plain : Reading
  Escape : Reading
  Bracket : Reading
  Other : Reading

abbrev next : Reading → ℕ → Reading
next Plain c = if c == 0x1B then Escape else Plain
next Escape c = if c == 0x5B then Bracket else Other
next Bracket c = if c == 0x30 then Other else if c == 0x1B then Other else Plain
next Other c = Other

abbrev go : Reading → List ℕ → Reading
go r [] = r
go r (c ∷ cs) = go (next r c) cs

record IsFree (bytes : List ℕ) : Type 0 where
  plain : go Plain bytes ≡ Plain

fixed : (bytes : List ℕ) → go Plain bytes ≡ Plain → IsFree bytes
fixed bytes h = record { plain = h }

abbrev is_other : Reading → Bool
is_other Other = true
is_other r = false

go-append : (r : Reading) (xs ys : List ℕ) → go r (xs ++ ys) ≡ go (go r xs) ys
go-append r [] ys = refl
go-append r (x ∷ xs) ys = go-append (next r x) xs ys

free_then : {xs ys : List ℕ} → IsFree xs → IsFree ys → IsFree (xs ++ ys)
free_then {xs} {ys} h k = record { plain = go-append Plain xs ys ∙ ap (λ r. go r ys) h.plain ∙ k.plain }

other_stays : (xs : List ℕ) → go Other xs ≡ Other
other_stays [] = refl
other_stays (x ∷ xs) = other_stays xs

style_is_other : (r : Reading) (after : List ℕ) → go r (0x1B ∷ (0x5B ∷ (0x30 ∷ after))) ≡ Other
style_is_other Plain after = other_stays after
style_is_other _ after = other_stays after

free_begins_none : (bytes : List ℕ) → IsFree bytes → BeginsNoStyle bytes
free_begins_none bytes h before after same =
    let other : go Plain bytes ≡ Other = ap (go Plain) same ∙ go-append Plain before (0x1B ∷ (0x5B ∷ (0x30 ∷ after))) ∙ style_is_other (go Plain before) after in
    false≢true (ap is_other (sym h.plain ∙ other))

free_if : (b : Bool) {xs ys : List ℕ} → IsFree xs → IsFree ys → IsFree (if b then xs else ys)
free_if b h k = either IsFree b h k

-- ---- text

no_escape : (c : ℕ) → is_text c ≡ true → (c == 0x1B) ≡ false
no_escape c h = grind (arith, nat_tests)

text_stays : (c : ℕ) → is_text c ≡ true → next Plain c ≡ Plain
text_stays c h = ap (λ b. if b then Escape else Plain) (no_escape c h)

letter_free : (c : ℕ) → is_printable c ≡ true → IsFree (c ∷ [])
letter_free c h = fixed (c ∷ []) (text_stays c (printable_text c h))

text_free : (bytes : List ℕ) → list_all is_text bytes ≡ true → IsFree bytes
text_free [] h = fixed [] refl
text_free (c ∷ cs) h =
    let parts = and_parts (is_text c) (list_all is_text cs) h in
    free_then (fixed (c ∷ []) (text_stays c parts.0)) (text_free cs parts.1)

-- ---- sequences with a number

digit_not_zero : (n : ℕ) → 1 ≤ n → n < 10 → (48 + n == 0x30) ≡ false
digit_not_zero n some low = grind (arith, nat_tests)

digit_no_escape : (n : ℕ) → n < 10 → (48 + n == 0x1B) ≡ false
digit_no_escape n low = grind (arith, nat_tests)

digit_text : (n : ℕ) → n < 10 → is_text (48 + n) ≡ true
digit_text n low = grind (arith, nat_tests)

first_digit : (n : ℕ) → n < 10 → 1 ≤ n → go Bracket ((48 + n) ∷ []) ≡ Plain
first_digit n low some =
    ap (λ b. if b then Other else if 48 + n == 0x1B then Other else Plain) (digit_not_zero n some low)
    ∙ ap (λ b. if b then Other else Plain) (digit_no_escape n low)

more_digits : (n : ℕ) (ds : List ℕ) → 10 ≤ n → (1 ≤ n / 10 → go Bracket ds ≡ Plain) → 1 ≤ n → go Bracket (ds ++ (48 + n % 10) ∷ []) ≡ Plain
more_digits n ds ten so_far some =
    let low : n % 10 < 10 = omega arith in
    go-append Bracket ds ((48 + n % 10) ∷ []) ∙ ap (λ r. go r ((48 + n % 10) ∷ [])) (so_far (omega arith)) ∙ text_stays (48 + n % 10) (digit_text (n % 10) low)

number_free : (n : ℕ) → n < 2 ^ 64 → 1 ≤ n → go Bracket (decimal n) ≡ Plain
number_free n few some = decimal_by_steps (λ m ds. 1 ≤ m → go Bracket ds ≡ Plain) first_digit more_digits n few some

sequence_if : (count final : ℕ) → count < 2 ^ 64 → is_text final ≡ true → (b : Bool) → (count == 0) ≡ b → IsFree (if b then [] else (0x1B ∷ 0x5B ∷ (decimal count ++ final ∷ [])))
sequence_if count final few h true e = fixed [] refl
sequence_if count final few h false e =
    let some : 0 < count = grind (arith, nat_tests) in
    record { plain = go-append Bracket (decimal count) (final ∷ []) ∙ ap (λ r. go r (final ∷ [])) (number_free count few (omega arith)) ∙ text_stays final h }

control_free : (count final : ℕ) → count < 2 ^ 64 → is_text final ≡ true → IsFree (control_sequence count final)
control_free count final few h = sequence_if count final few h (count == 0) refl

-- a move back or on
way_free : (old new back on : ℕ) → old < 2 ^ 64 → new < 2 ^ 64 → is_text back ≡ true → is_text on ≡ true
    → IsFree (if nat_lt new old then control_sequence (old - new) back else control_sequence (new - old) on)
way_free old new back on few low h k = free_if (nat_lt new old) (control_free (old - new) back (omega arith) h) (control_free (new - old) on (omega arith) k)

abbrev Low : Position → Type 0
Low p = (p.row < 2 ^ 64) × (p.col < 2 ^ 64)

low_inside : (columns : ℕ) → columns < 2 ^ 64 → (p : Position) → Inside columns p → Low p
low_inside columns few p inside = let col = inside.col in (inside.row, omega arith)

move_low : (old new : Position) → Low old → Low new → IsFree (move_bytes old new)
move_low old new from to = free_then (way_free old.row new.row 0x41 0x42 from.0 to.0 refl refl) (way_free old.col new.col 0x44 0x43 from.1 to.1 refl refl)

copies_free : (c : ℕ) → next Plain c ≡ Plain → (n : ℕ) → IsFree (replicate n c)
copies_free c h zero = fixed [] refl
copies_free c h (suc n) = free_then (fixed (c ∷ []) h) (copies_free c h n)

short_free : (old new : Position) → IsFree (move_bytes old new) → IsFree (short_move old new)
short_free old new h = free_if (is_step_back old new) (copies_free 0x08 refl (old.col - new.col)) h

clearing_free : (row : ℕ) → row < 2 ^ 64 → IsFree (clearing_bytes row)
clearing_free row few = free_then (control_free row 0x41 few refl) (fixed (0x0D ∷ erase_to_end) refl)

-- ---- items

break_free : (b : Bool) → IsFree (break_if b)
break_free b = free_if b (fixed row_break refl) (fixed [] refl)

fenced_free : (bytes : List ℕ) → list_all is_text bytes ≡ true → IsFree (cluster_in_fence bytes)
fenced_free bytes h = free_then (free_then (fixed no_style refl) (text_free bytes h)) (fixed no_style refl)

one_free : (columns : ℕ) (wide : List ℕ → Option ℕ) (item : DrawnItem) (col : ℕ) → Fits columns wide item → IsFree (bytes_of_item columns item col)
one_free columns wide NewRow col h = fixed row_break refl
one_free columns wide (Letter c) col h = free_then (letter_free c h) (break_free (col + 1 == columns))
one_free columns wide (Cluster bytes width) col h =
    free_then (free_then (free_if (nat_le (col + width) columns) (fixed [] refl) (fixed row_break refl)) (fenced_free bytes h.text))
    (break_free (fitted_col columns width col + width == columns))
one_free columns wide (Tab apart) col h = let width = tab_width columns apart col in
    free_then (copies_free 0x20 refl width) (break_free (col + width == columns))

items_free : (columns : ℕ) (wide : List ℕ → Option ℕ) (items : List DrawnItem) (col : ℕ) → AllFit columns wide items → IsFree (bytes_of_items columns items col)
items_free columns wide [] col h = fixed [] refl
items_free columns wide (item ∷ items) col h =
    free_then (one_free columns wide item col h.0) (items_free columns wide items (col_after_one columns item col) h.1)

-- ---- letters that move in their rows

put_free : (inserting : Bool) (c : ℕ) → is_printable c ≡ true → IsFree (put_in inserting (c ∷ []))
put_free inserting c h = free_if inserting (letter_free c h) (free_then (fixed open_cell refl) (letter_free c h))

pushed_free : (inserting : Bool) (columns : ℕ) (letters : List ℕ) (col : ℕ) → list_all is_printable letters ≡ true → IsFree (pushed_on inserting columns col letters)
pushed_free inserting columns [] col h = fixed [] refl
pushed_free inserting columns (c ∷ cs) col h =
    let parts = and_parts (is_printable c) (list_all is_printable cs) h in
    free_then (free_then (free_if (col == 0) (put_free inserting c parts.0) (fixed [] refl)) (break_free (col + 1 == columns)))
    (pushed_free inserting columns cs (left_col columns (col + 1)) parts.1)

put_and_pushed_free : (inserting : Bool) (columns col c : ℕ) (rest : List ℕ) → is_printable c ≡ true → list_all is_printable rest ≡ true → IsFree (put_and_pushed inserting columns col (c ∷ []) rest)
put_and_pushed_free inserting columns col c rest one letters =
    free_then (free_then (put_free inserting c one) (break_free (col + 1 == columns))) (pushed_free inserting columns rest (left_col columns (col + 1)) letters)

insertion_free : (columns col c : ℕ) (rest : List ℕ) → is_printable c ≡ true → list_all is_printable rest ≡ true → IsFree (insertion_bytes columns col (c ∷ []) rest)
insertion_free columns col c rest one letters =
    free_if (begins_two_rows columns col rest)
    (free_then (fixed begin_inserting refl) (free_then (put_and_pushed_free true columns col c rest one letters) (fixed end_inserting refl)))
    (put_and_pushed_free false columns col c rest one letters)

out_free : (count : ℕ) → count < 2 ^ 64 → IsFree (take_cells_out count)
out_free count few = free_if (count == 1) (fixed (0x1B ∷ (0x5B ∷ (0x50 ∷ []))) refl) (control_free count 0x50 few refl)

module _ (columns count : ℕ) (few : columns < 2 ^ 64) (small : count < 2 ^ 64) (some : 1 ≤ columns) where
  back_if_free : (start col : ℕ) (cs : List ℕ) → col < columns
      → ((start col : ℕ) → col < columns → start < 2 ^ 64 → IsFree (pulled_back columns count start col cs)) → start < 2 ^ 64
      → (b : Bool) → (col + 1 == columns) ≡ b → IsFree (if b then row_break ++ pulled_back columns count 0 0 cs else pulled_back columns count start (col + 1) cs)
  back_if_free start col cs low ih begun true e = free_then (fixed row_break refl) (ih 0 0 (omega arith) (omega arith))
  back_if_free start col cs low ih begun false e = let differ = eqb-false (col + 1) columns e in ih start (col + 1) (grind arith) begun

  deletion_free : (start col : ℕ) (letters : List ℕ) → col < columns → start < 2 ^ 64 → list_all is_printable letters ≡ true → IsFree (pulled_back columns count start col letters)
  deletion_free start col [] low begun h = out_free count small
  deletion_free start col (c ∷ cs) low begun h =
      let parts = and_parts (is_printable c) (list_all is_printable cs) h in
      let cut = free_then (out_free count small) (way_free start col 0x44 0x43 begun (omega arith) refl refl) in
      free_then (free_then (free_if (col + count == columns) cut (fixed [] refl))
      (free_if (nat_le columns (col + count)) (letter_free c parts.0) (fixed [] refl)))
      (back_if_free start col cs low (λ start col low begun. deletion_free start col cs low begun parts.1) begun (col + 1 == columns) refl)

-- ---- drawings

then_plain : {xs : List ℕ} → IsFree xs → IsFree (xs ++ no_style)
then_plain h = free_then h (fixed no_style refl)

module _ (mode : GraphemeClusterMode) (tab : Option ℕ) (columns : ℕ) (some : 1 ≤ columns) (few : columns < 2 ^ 64) where
  abbrev wide : Widths
  wide = widths_by mode tab columns

  part_free : (text : List ℕ) (col : ℕ) → IsFree (bytes_of_items columns (text_items wide text) col)
  part_free text col = items_free columns (cluster_width mode columns) (text_items wide text) col (items_fit mode tab columns some text)

  shown_free : (prompt line info : List ℕ) → IsFree (shown_text columns wide prompt line info)
  shown_free prompt line info =
      let a_end = col_after columns (text_items wide prompt) 0 in
      let first = then_plain (free_then (fixed no_style refl) (part_free prompt 0)) in
      let second = then_plain (free_then first (part_free line a_end)) in
      then_plain (free_then second (part_free info (col_after columns (text_items wide line) a_end)))

  move_free : (old new : Position) → Inside columns old → Inside columns new → IsFree (move_bytes old new)
  move_free old new from to = move_low old new (low_inside columns few old from) (low_inside columns few new to)

  drawing_free : (prompt line info : List ℕ) (finish cursor : Position) → Inside columns finish → Inside columns cursor → IsFree (shown_text columns wide prompt line info ++ move_bytes finish cursor)
  drawing_free prompt line info finish cursor from to = free_then (shown_free prompt line info) (move_free finish cursor from to)

  -- in the place of a drawing whose cursor's row is known, or of none
  draw_free : (o : Option ℕ) (a : View) (prompt line info : List ℕ) (finish cursor : Position) → Inside columns a.place → ReplacesDrawing o a → Inside columns finish → Inside columns cursor
      → IsFree (drawing_bytes columns wide o prompt line info finish cursor)
  draw_free None a prompt line info finish cursor here over from to = drawing_free prompt line info finish cursor from to
  draw_free (Some row) a prompt line info finish cursor here over from to =
      free_then (clearing_free row (subst (λ n. n < 2 ^ 64) (sym over) here.row)) (drawing_free prompt line info finish cursor from to)

  -- the rest of a line, and what stands after it without styles
  rest_of_free : (text : List ℕ) (col : ℕ) → IsFree (bytes_of_all_painted columns (painted_text wide [] text) col)
  rest_of_free text col = subst IsFree (sym (plain_text columns wide text col)) (part_free text col)

  info_free : (info : List ℕ) (col : ℕ) → IsFree (in_fence info (bytes_of_all_painted columns (painted_text wide [] info) col))
  info_free [] col = fixed [] refl
  info_free (c ∷ text) col = then_plain (free_then (fixed no_style refl) (rest_of_free (c ∷ text) col))

  rest_free : (text : List ℕ) (upto : ℕ) (info : List ℕ) (old at finish cursor : Position) → Inside columns old → Inside columns at → Inside columns finish → Inside columns cursor
      → IsFree (rest_drawing columns wide no_styles text upto info old at finish cursor)
  rest_free text upto info old at finish cursor from to last back =
      let rest = drop upto text in
      let col = (in_row columns at).col in
      let shown = free_then (rest_of_free rest col) (info_free info (col_after columns (all_unpainted (painted_text wide [] rest)) col)) in
      free_then (free_then (move_free old at from to) (free_then (fixed erase_to_end refl) shown)) (move_free finish cursor last back)

  rest_call_free : (text : List ℕ) (upto : ℕ) (info : List ℕ) (old at finish cursor : Position) (a b : View) → Inside columns a.place → Inside columns b.place
      → DrawsRest columns wide no_styles text upto info old at finish cursor a b → IsFree (rest_drawing columns wide no_styles text upto info old at finish cursor)
  rest_call_free text upto info old at finish cursor a b here there h =
      let fits = items_fit mode tab columns some in
      let v = a.shown in
      let at_col : (cursor_of columns wide (picture_of_line v h.before)).col < columns =
      after_inside columns wide.cluster (text_items wide v.prompt ++ text_items wide (take (length h.before) h.before)) origin (fit_append mode tab columns some (text_items wide v.prompt) (text_items wide (take (length h.before) h.before)) (fits v.prompt) (fits (take (length h.before) h.before))) some in
      let plain : Picture = record b.shown { styles = no_styles } in
      let able = drawable mode tab columns some plain no_styles_are (subst (λ p. p.row < 2 ^ 64) h.finish_is h.finish_row) (subst (λ p. p.row < 2 ^ 64) h.cursor_is h.cursor_row) in
      rest_free text upto info old at finish cursor (subst (Inside columns) (sym h.old_is) here) (record { row = h.at_row; col = subst (λ p. p.col < columns) (sym h.at_is) at_col })
      (subst (Inside columns) (sym h.finish_is) able.finish) (subst (Inside columns) (ap (λ (w : View). w.place) h.view) there)

-- ---- calls

bell_free : (bell : BellStyle) → IsFree (bell_bytes bell)
bell_free Bells.Audible = fixed (bell_bytes Bells.Audible) refl
bell_free bell = fixed (bell_bytes bell) refl

cut_small : (s : Screen) → s.columns < 2 ^ 64 → (a b : View) (count : ℕ) (rest : List ℕ) (finish : Position) → TakesOut s.columns (widths s) count rest finish a b → count < 2 ^ 64
cut_small s few a b count rest finish h = let room = h.fits in omega arith

call_free : (s : Screen) → 1 ≤ s.columns → s.columns < 2 ^ 64 → (a b : View) (call : Call) → Inside s.columns a.place → Inside s.columns b.place → LeadsView s.columns (widths s) a call b → has_no_marks call ≡ true → IsFree (bytes_of s call)
call_free s some few a b (Draw prompt text place info old new None) here there h plain =
    let able = redraw_drawable s some a b prompt text (info_text info) no_styles new.end new.cursor no_styles_are h.1 in
    subst IsFree (sym (plain_bytes s.columns (widths s) (old_row old) prompt text (info_text info) new.end new.cursor))
    (draw_free s.mode s.tab s.columns some few (old_row old) a prompt text (info_text info) new.end new.cursor here h.0 (subst (Inside s.columns) (sym h.1.finish_is) able.finish) (subst (Inside s.columns) (sym h.1.cursor_is) able.cursor))
call_free s some few a b (Draw prompt text place info old new (Some m)) here there h plain = absurd (false≢true plain)
call_free s some few a b (Move old new) here there h plain = move_free s.mode s.tab s.columns some few old new (subst (Inside s.columns) (sym h.old_is) here) h.inside
call_free s some few a b (Write text) here there (inl h) plain = subst IsFree (sym h.text_is) (letter_free h.c (and_parts (is_printable h.c) (at_simple_end true a.shown.line a.shown.place) h.typed).0)
call_free s some few a b (Write text) here there (inr h) plain = subst IsFree (sym h.text_is) (fixed row_break refl)
call_free s some few a b Beep here there h plain = bell_free s.bell
call_free s some few a b (ClearRows layout) here there h plain = clearing_free layout.cursor.row (subst (λ n. n < 2 ^ 64) (sym h.0) here.row)
call_free s some few a b (MoveAndClearToEol old new) here there h plain =
    free_then (move_free s.mode s.tab s.columns some few old new (subst (Inside s.columns) (sym h.1.old_is) here) h.1.inside) (fixed erase_to_row_end refl)
call_free s some few a b (InsertChar c rest old new finish) here there h plain =
    let new_in : Low new = low_inside s.columns few new (subst (Inside s.columns) (ap (λ (w : View). w.place) h.view) there) in
    let letters = and_parts (is_printable c) (list_all is_printable rest) h.printable in
    let first : (if finish.col == 0 then 0 else 1) < 2 ^ 64 = either (λ n. n < 2 ^ 64) (finish.col == 0) (omega arith) (omega arith) in
    free_then (subst (λ cs. IsFree (insertion_bytes s.columns old.col cs rest)) (sym (encode_ascii c (printable_ascii c letters.0)))
    (insertion_free s.columns old.col c rest letters.0 letters.1))
    (move_low (place_after_insertion old new finish) new (either Low (finish.row == old.row) {x = new} {y = behind_first finish} new_in (h.row, first)) new_in)
call_free s some few a b (MoveAndDelete old new count rest finish) here there h plain =
    let new_in = low_inside s.columns few new h.1.inside in
    let letters = and_parts (list_all is_printable h.2.killed) (list_all is_printable rest) (sym (list_all-append is_printable h.2.killed rest) ∙ h.2.printable) in
    free_then (move_free s.mode s.tab s.columns some few old new (subst (Inside s.columns) (sym h.1.old_is) here) h.1.inside)
    (free_then (deletion_free s.columns count few (cut_small s few h.0 b count rest finish h.2) some new.col new.col rest h.1.inside.col new_in.1 letters.1)
    (move_low (place_after_deletion new finish) new
    (either Low (finish.row == new.row) {x = new} {y = place 0 finish.row} new_in (h.2.row, omega arith)) new_in))
call_free s some few a b (Append text at) here there h plain = part_free s.mode s.tab s.columns some few text (in_row s.columns at).col
call_free s some few a b (DrawRest text from place info old at new None) here there h plain = rest_call_free s.mode s.tab s.columns some few text from (info_text info) old at new.end new.cursor a b here there h
call_free s some few a b (DrawRest text from place info old at new (Some m)) here there h plain = absurd (false≢true plain)
call_free s some few a b (WriteOver letters old at new) here there h plain =
    let w = h.2 in
    let at_in = h.1.inside in
    let at_is : h.0.place ≡ at = ap (λ (x : View). x.place) h.1.view in
    let last_in : Inside s.columns (right (length letters) at) = record { row = at_in.row; col = subst (λ p. p.col + length letters < s.columns) at_is w.fits } in
    free_then (short_free old at (move_free s.mode s.tab s.columns some few old at (subst (Inside s.columns) (sym h.1.old_is) here) at_in))
    (free_then (text_free letters (list_all_since is_printable is_text printable_text letters w.printable))
    (short_free (right (length letters) at) new (move_free s.mode s.tab s.columns some few (right (length letters) at) new last_in w.inside)))
call_free s some few a b call here there h plain = fixed (bytes_of s call) refl

calls_free : (s : Screen) → 2 ≤ s.columns → s.columns ≤ 1000 → (calls : List Call) (bytes : List ℕ) (over : List Placed) (a b : View) → Good s.columns (widths s) bytes over a → FoldsTo (LeadsView s.columns (widths s)) a calls b
    → list_all has_no_marks calls ≡ true → IsFree (flat_map (bytes_of s) calls)
calls_free s low high [] bytes over a b g h plain = fixed [] refl
calls_free s low high (call ∷ calls) bytes over a b g h plain =
    let parts = and_parts (has_no_marks call) (list_all has_no_marks calls) plain in
    let led = calls_lead s low high bytes over a h.0 call g h.1 in
    free_then (call_free s (omega arith) (omega arith) a h.0 call g.inside led.1.inside h.1 parts.0)
    (calls_free s low high calls (bytes ++ bytes_of s call) led.0 h.0 b led.1 h.2 parts.1)

unmarked_begin_none : OnEachScreen UnmarkedCallsBeginNone
unmarked_begin_none s low high calls bytes over a b g h plain = free_begins_none (flat_map (bytes_of s) calls) (calls_free s low high calls bytes over a b g h plain)

-- ---- screens without colours

abbrev all_plain : RedrawCalls → Bool
all_plain x = list_all has_no_marks x.calls

abbrev IsPlain : RedrawCalls → Type 0
IsPlain x = all_plain x ≡ true

asked_plain : (r : Ruler) (l : Layout) (x : Redraw) → IsPlain (calls_of_redraw r None l x)
asked_plain r l (Moved text place) = either IsPlain (same_cell l.cursor (r.measure (take place text) l.prompt_size)) refl refl
asked_plain r l (Typed prompt c text place) = either IsPlain (may_write_over r l l.cursor 1) refl refl
asked_plain r l (Appended prompt c text place) = either IsPlain l.has_info refl refl
asked_plain r l (Taken prompt count partial text place) = either IsPlain (may_take l count) refl (either IsPlain partial refl refl)
asked_plain r l (Erased prompt c text place) = either IsPlain (may_erase r l c) refl refl
asked_plain r l (PutIn prompt c text place) = either IsPlain (may_put_in r l (drop place text)) refl refl
asked_plain r l (TakenOut prompt count text place) =
    either IsPlain (may_take_out r l (r.measure (take place text) l.prompt_size) count (drop place text)) refl refl
asked_plain r l (Rewritten prompt from upto text place) =
    either IsPlain (may_write_over r l (r.measure (take from text) l.prompt_size) (length (slice_range text from upto))) refl refl
asked_plain r l (Bared prompt text place) = either IsPlain l.default_prompt refl refl
asked_plain r l ToEnd = either IsPlain (same_cell l.cursor l.end) refl refl
asked_plain r l _ = refl

screens_without_colours : ScreensWithoutColours
screens_without_colours s e prompt helping entries config v l x =
    let none = ap (λ b. if b then helping.marks else None) e in
    subst (λ m. all_plain (calls_of_redraw (ruler_of s) (shown_marks v m) l x) ≡ true) (sym none) (asked_plain (ruler_of s) l x)

pub uncoloured : Uncoloured
uncoloured = (unmarked_begin_none, screens_without_colours)
