-- A step leads from what is shown before it to what is to be shown after it.
use Rattle.std.proofs.Common.{◌≡◌, ℕ, ◌==◌, ◌&&◌, ◌||◌, Bool, true, false, List, [], ◌∷◌, ◌++◌, length, Option, None, refl, sym, ap, ◌∙◌, subst₂, append-nil, ◌≢◌, ◌+◌, ◌-◌, not, ◌<◌, ◌≤◌, inl, inr, nat_lt, nat_le, take, drop, take_all, ap₂, length-append, map, Some, is_some, encode_utf8, subst, append_assoc, arith, if◌then◌else◌, chars, slice_range, filter, flat_map, take_at, drop_at}
use Rattle.std.specs.Str.{is_utf8}
use Rattle.std.proofs.Math.Bool.{or-true}
use Rattle.std.proofs.lemmas.Bool.{and_from, and_parts, eqb-true, not-true, lt-ltb, ltb-true}
use Rattle.std.proofs.lemmas.List.Folds.{list_all-append}
use Rattle.std.proofs.lemmas.Str.{IsUtf8-encode, IsUtf8-from_ascii, is_utf8-from_IsUtf8, chars-IsAscii, chars-encodes, chars-nil, encode_ascii}
use Rattle.line_buffer.specs.Printable.{is_printable, is_plain, is_plain_byte, at_simple_end}
use Rattle.line_editor.specs.Characters.{is_apart, stands_apart, starts_apart, begins_apart}
use Rattle.line_editor.specs.RenderCalls.{Marks, Call}
use Rattle.line_editor.specs.SharedStyles.{styles_to}
use Rattle.line_editor.specs.Sights.{Sight, InPart, TakenFits, ErasedFits, DrawnFromFits, PartSpans, drawn_spans, sight_with, sight_as, no_sight, sight, TypedFits, AppendedFits, Replaces, Fits}
use Rattle.line_editor.proofs.CharacterRanges.{plain_apart}
use Rattle.line_editor.proofs.KillLemmas.{plain_low}
use Rattle.line_screen.proofs.ApartLemmas.{apart_scalar}
use Rattle.line_screen.proofs.Items.{all_plain}
use Rattle.std.proofs.lemmas.Bool.Decides.{nat_tests}
use Rattle.line_buffer.specs.Cells.{same_cell, origin}
use Rattle.line_buffer.specs.declared.layout.Layout.{Layout}
use Rattle.line_buffer.specs.declared.layout.Position.{Position}
use Rattle.line_editor.specs.RenderCalls.Call.{Draw, Move, Write, Beep, ClearScreen, MoveAndClearToEol, InsertChar, MoveAndDelete, Append, DrawRest, Help, WriteOver}
use Rattle.line_editor.specs.Redraws.{RedrawCalls, info_text, fresh, layout_of, full, nothing_asked, column_on, column_back, cell_on, erase_call, rest_call, may_write_over, may_take, may_erase, may_put_in, may_take_out}
use Rattle.line_editor.proofs.ShortCalls.{move_call, char_call, append_call, put_in_short, taken_out_short, write_over_call}
use Rattle.line_editor.specs.Redraws.Redraw.{Drawn, Moved, Typed, Appended, Taken, Erased, PutIn, TakenOut, DrawnFrom, Bared, ToEnd, Beeped, Cleared, Rewritten}
use Rattle.line_editor.specs.EditSteps.{one}
use Rattle.line_editor.specs.Values.{shown_marks, EditStep, EditStep.Draws, EditStep.Helped}
use Rattle.line_screen.specs.ScreenCalls.{Screen, bytes_of, ruler_of, styles_of, line_styles, widths}
use Rattle.line_screen.specs.Colours.{Styles, span_of}
use Rattle.line_screen.specs.Chain.{View, Good, Inside, LeadsView, empty_view, with_text, with_line_styles, Picture, shown_items, finish_of, cursor_of, above}
use Rattle.line_screen.specs.Display.{Placed}
use Rattle.line_screen.specs.Drawing.{DrawnItem, row_break, text_items, place_after}
use Rattle.line_screen.specs.Laws.{TellsView}
use Rattle.line_screen.specs.Measure.{measure_of, position_within_limit}
use Rattle.line_screen.specs.StyledTexts.{first_styles}
use Rattle.line_screen.proofs.Fitting.{items_fit, fit_append, after_inside}
use Rattle.line_screen.proofs.LawLemmas.{calls_lead, place_is_free, measures_go_on}
use Rattle.line_screen.proofs.KeptStyles.{kept_styles}
use Rattle.line_screen.proofs.Leading.{line_cursor, line_end, line_finish, plain_parts, over_again}
use Rattle.line_screen.proofs.ListLemmas.{filter_none, list_all_true}
use Rattle.line_screen.proofs.ShortLemmas.{typing_leads, appending_leads, killing_leads, erasing_leads, putting_in_leads, taking_out_leads, drawing_rest_leads, part_above, writing_over_leads}
use Rattle.keyline.specs.Shows.{picture, place_in, view_in, DisplayHolds, Low, LowStep, kept_by}

-- ---- where no cluster lies over a place

plain_utf8 : (text : List ℕ) → is_plain text ≡ true → is_utf8 text ≡ true
plain_utf8 text h = is_utf8-from_IsUtf8 text (IsUtf8-from_ascii text (plain_low text h))

begins : (text rest : List ℕ) → is_utf8 rest ≡ true → is_utf8 text ≡ true → starts_apart text (chars rest) ≡ true → begins_apart text rest ≡ true
begins text rest h k starts = and_from (is_utf8 rest) (is_utf8 text && starts_apart text (chars rest)) h (and_from (is_utf8 text) (starts_apart text (chars rest)) k starts)

plain_starts : (text rest : List ℕ) → is_plain text ≡ true → is_plain rest ≡ true → starts_apart text rest ≡ true
plain_starts text [] h k = refl
plain_starts text (c ∷ rest) h k =
    (elim (c == 10) as (λ b. (b || is_printable c) ≡ true → (b || stands_apart text c) ≡ true) [ true ↦ λ p. refl | false ↦ plain_apart text c h ])
    (and_parts (is_plain_byte c) (is_plain rest) k).0

plain_begins : (text rest : List ℕ) → is_plain text ≡ true → is_plain rest ≡ true → begins_apart text rest ≡ true
plain_begins text rest h k = begins text rest (plain_utf8 rest k) (plain_utf8 text h) (ap (starts_apart text) (chars-IsAscii rest (plain_low rest k)) ∙ plain_starts text rest h k)

none_begins : (text : List ℕ) → is_utf8 text ≡ true → begins_apart text [] ≡ true
none_begins text h = begins text [] (plain_utf8 [] refl) h (ap (starts_apart text) chars-nil)

char_begins : (text : List ℕ) (c : ℕ) → stands_apart text c ≡ true → begins_apart text (encode_utf8 c) ≡ true
char_begins text c h =
    let parts = and_parts (is_utf8 text) _ h in
    let scalar = apart_scalar c (and_parts (is_apart c) _ parts.1).0 in
    let one : chars (encode_utf8 c) ≡ c ∷ [] = ap chars (sym (append-nil (encode_utf8 c))) ∙ chars-encodes (c ∷ []) (and_from _ true scalar refl) in
    begins text (encode_utf8 c) (is_utf8-from_IsUtf8 (encode_utf8 c) (IsUtf8-encode c scalar)) parts.0 (ap (starts_apart text) one ∙ ap (λ b. (c == 10) || b) h ∙ or-true (c == 10))

-- ---- each short way

module _ (x : Sight) (m : Option Marks) (prompt text : List ℕ) (at : ℕ) {own : List ℕ} (k : InPart own x m prompt text at) where
  rest_fits : (from : ℕ) (before gone rest : List ℕ) → x.line ≡ before ++ gone → text ≡ before ++ rest → from ≡ length before
      → begins_apart before gone ≡ true → begins_apart before rest ≡ true → DrawnFromFits x m prompt from text at None
  rest_fits from before gone rest whole text_is from_is gone_apart rest_apart = search (ap (styles_to from) (k.still ∙ sym k.unstyled))

  plain_fits : (from : ℕ) (before gone rest : List ℕ) → x.line ≡ before ++ gone → text ≡ before ++ rest → from ≡ length before
      → is_plain before ≡ true → is_plain gone ≡ true → is_plain rest ≡ true → DrawnFromFits x m prompt from text at None
  plain_fits from before gone rest whole text_is from_is first last new = rest_fits from before gone rest whole text_is from_is (plain_begins before gone first last) (plain_begins before rest first new)

  taken_fits : (count : ℕ) → TakenFits x count text at → DrawnFromFits x m prompt at text at None
  taken_fits count t =
      let parts = and_parts (at == length text) (is_plain text) t.end in
      plain_fits at text t.killed [] t.whole (sym (append-nil text)) (eqb-true at (length text) parts.0) parts.1 (all_plain t.killed t.printable) refl

  erased_fits : (c : ℕ) → ErasedFits x c text at → DrawnFromFits x m prompt at text at None
  erased_fits c t =
      rest_fits at text (encode_utf8 c) [] t.whole (sym (append-nil text)) t.end (char_begins text c t.apart) (none_begins text (and_parts (is_utf8 text) _ t.apart).0)

  replaced_fits : (from : ℕ) (gone letters : List ℕ) → Replaces x from gone letters text → DrawnFromFits x m prompt from text at None
  replaced_fits from gone letters t =
      let whole = sym (list_all-append is_plain_byte t.before (gone ++ t.rest)) ∙ ap is_plain (sym t.whole) ∙ t.plain in
      let parts = and_parts (is_plain t.before) (is_plain (gone ++ t.rest)) whole in
      let rest = (and_parts (is_plain gone) (is_plain t.rest) (sym (list_all-append is_plain_byte gone t.rest) ∙ parts.1)).1 in
      plain_fits from t.before (gone ++ t.rest) (letters ++ t.rest) t.whole t.text_is t.from_is parts.0 parts.1
      (list_all-append is_plain_byte letters t.rest ∙ and_from (is_plain letters) (is_plain t.rest) (all_plain letters t.printable) rest)

same_if : (a b : Position) → same_cell a b ≡ true → a ≡ b
same_if a b h =
    let parts = and_parts (a.col == b.col) (a.row == b.row) h in
    ap (λ c. let p : Position = record { col = c; row = a.row } in p) (eqb-true a.col b.col parts.0) ∙ ap (λ r. let p : Position = record { col = b.col; row = r } in p) (eqb-true a.row b.row parts.1)

no_info : (info : Option (List ℕ)) → is_some info ≡ false → info ≡ None
no_info None h = refl
no_info (Some x) h = cc

-- of two lists of calls, in the other order
pub if_none : (b : Bool) (p q : RedrawCalls) → (if b then p else q) ≡ (if not b then q else p)
if_none true p q = refl
if_none false p q = refl

not_break : (c : ℕ) → c ∷ [] ≡ row_break → ⊥
not_break c h = let n = ap length h in absurd (omega arith)

pub small : (c : ℕ) → is_printable c ≡ true → c < 128
small c h = let parts = and_parts (nat_le 32 c) (nat_lt c 127) h in let k = ltb-true c 127 parts.1 in omega arith

not_above_first : (p : Placed) → not (above 0 p) ≡ true
not_above_first p = grind (arith, nat_tests)

none_above_first : (xs : List Placed) → filter (above 0) xs ≡ []
none_above_first xs = filter_none (above 0) xs (list_all_true (λ p. not (above 0 p)) not_above_first xs)

-- the rest of a line behind what was put in, or taken out; and what replaced other characters
put_in_rest : (x : Sight) (c : ℕ) (text : List ℕ) (at : ℕ) → (t : Replaces x x.place [] (c ∷ []) text) → at ≡ x.place + 1 → drop at text ≡ t.rest
put_in_rest x c text at t behind =
    let count = length-append t.before (c ∷ []) in
    ap₂ drop (behind ∙ ap (λ n. n + 1) t.from_is) (t.text_is ∙ sym (append_assoc t.before (c ∷ []) t.rest)) ∙ drop_at (t.before ++ c ∷ []) t.rest (length t.before + 1) (omega arith)

taken_out_rest : (x : Sight) (count : ℕ) (text : List ℕ) (at : ℕ) → (t : (killed : List ℕ) × Replaces x at killed [] text × (count ≡ length killed)) → drop at text ≡ t.1.rest
taken_out_rest x count text at t = ap₂ drop t.1.from_is t.1.text_is ∙ drop_at t.1.before t.1.rest (length t.1.before) refl

pub rewritten_letters : (x : Sight) (from upto : ℕ) (text : List ℕ) → (t : (gone letters : List ℕ) × Replaces x from gone letters text × (length letters ≡ length gone) × (upto ≡ from + length letters)) → slice_range text from upto ≡ t.1
rewritten_letters x from upto text t =
    let first = t.2.from_is in
    let last = t.4 in
    let count : upto - from ≡ length t.1 = omega arith in
    ap₂ take count (ap₂ drop t.2.from_is t.2.text_is ∙ drop_at t.2.before (t.1 ++ t.2.rest) (length t.2.before) refl) ∙ take_at t.1 t.2.rest (length t.1) refl

module _ (s : Screen) (low : 2 ≤ s.columns) (high : s.columns ≤ 1000) where
  some : 1 ≤ s.columns
  some = omega arith

  -- ---- a call after the bytes so far

  bytes_one : (bytes : List ℕ) (call : Call) → bytes ++ bytes_of s call ≡ bytes ++ flat_map (bytes_of s) (call ∷ [])
  bytes_one bytes call = ap (λ x. bytes ++ x) (sym (append-nil (bytes_of s call)))

  -- the rows above are the same
  one_led : (bytes : List ℕ) (over : List Placed) (a b : View) (call : Call) → Good s.columns (widths s) bytes over a → LeadsView s.columns (widths s) a call b
      → b.top ≡ a.top → call ≢ ClearScreen → Good s.columns (widths s) (bytes ++ flat_map (bytes_of s) (call ∷ [])) over b
  one_led bytes over a b call g h top other =
      let done = calls_lead s low high bytes over a b call g h in
      let again = over_again s.columns (widths s) (bytes ++ bytes_of s call) done.0 b done.1 in
      let same : done.0 ≡ over = sym again ∙ ap (λ t. filter (above t) done.0) top ∙ done.2 other in
      subst₂ (λ x xs. Good s.columns (widths s) x xs b) (bytes_one bytes call) same done.1

  none_led : (bytes : List ℕ) (over : List Placed) (a : View) → Good s.columns (widths s) bytes over a → Good s.columns (widths s) (bytes ++ flat_map (bytes_of s) []) over a
  none_led bytes over a g = subst (λ x. Good s.columns (widths s) x over a) (sym (append-nil bytes)) g

  cleared_led : (bytes : List ℕ) (over : List Placed) (a : View) → Good s.columns (widths s) bytes over a → Good s.columns (widths s) (bytes ++ flat_map (bytes_of s) (ClearScreen ∷ [])) [] (empty_view 0)
  cleared_led bytes over a g =
      let done = calls_lead s low high bytes over a (empty_view 0) ClearScreen g refl in
      let good = done.1 in
      let none : done.0 ≡ [] = sym good.over_is ∙ none_above_first good.display.placed in
      subst₂ (λ x xs. Good s.columns (widths s) x xs (empty_view 0)) (bytes_one bytes ClearScreen) none good

  -- ---- measures

  abbrev text_of : List ℕ → List DrawnItem
  text_of text = text_items (widths s) text

  inside_cursor : (x : Sight) → Low s x → Inside s.columns (cursor_of s.columns (widths s) (picture x))
  inside_cursor x h =
      let before = take x.place x.line in
      let fits = fit_append s.mode s.tab s.columns some (text_of x.prompt) (text_of before) (items_fit s.mode s.tab s.columns some x.prompt) (items_fit s.mode s.tab s.columns some before) in
      let row = h.cursor in
      record { row = omega arith; col = after_inside s.columns (widths s).cluster (text_of x.prompt ++ text_of before) origin fits some }

  inside_finish : (x : Sight) → Low s x → Inside s.columns (finish_of s.columns (widths s) (picture x))
  inside_finish x h =
      let info = info_text x.info in
      let behind = fit_append s.mode s.tab s.columns some (text_of x.line) (text_of info) (items_fit s.mode s.tab s.columns some x.line) (items_fit s.mode s.tab s.columns some info) in
      let fits = fit_append s.mode s.tab s.columns some (text_of x.prompt) (text_of x.line ++ text_of info) (items_fit s.mode s.tab s.columns some x.prompt) behind in
      let row = h.finish in
      record { row = omega arith; col = after_inside s.columns (widths s).cluster (shown_items (widths s) (picture x)) origin fits some }

  nothing_measured : measure_of s.mode s.tab s.columns [] origin ≡ origin
  nothing_measured = ap (λ b. position_within_limit (place_after s.columns (text_items (widths s) []) (if b then origin else record { col = 0; row = 1 }))) (lt-ltb 0 s.columns some)

  -- ---- a full drawing, over anything that is shown, with any layout whose cursor is the display's

  pub drawn_holds : (bytes : List ℕ) (over : List Placed) (top : ℕ) (m : Option Marks) (l : Layout) (x : Sight) (prompt : List ℕ) (given : Bool) (text : List ℕ) (at : ℕ) (info : Option (List ℕ))
      → Good s.columns (widths s) bytes over (view_in s top x) → l.cursor ≡ place_in s x → Low s (sight_with m given prompt text at info)
      → (let a = full (ruler_of s) m l prompt given text at info in DisplayHolds s (bytes ++ flat_map (bytes_of s) a.calls) over top a.layout (sight_with m given prompt text at info))
  drawn_holds bytes over top m l x prompt given text at info g cursor rows =
      let y = sight_with m given prompt text at info in
      let new = layout_of (ruler_of s) (measure_of s.mode s.tab s.columns prompt origin) given text at info in
      let measured = measures_go_on s some (picture y) in
      let cursor_is : new.cursor ≡ cursor_of s.columns (widths s) (picture y) = measured.0 rows.cursor in
      let finish_is : new.end ≡ finish_of s.columns (widths s) (picture y) = measured.1 rows.finish in
      let a = rows.cursor in
      let b = rows.finish in
      let row_a = ap (λ p. p.row) cursor_is in
      let row_b = ap (λ p. p.row) finish_is in
      assumption (one_led bytes over (view_in s top x) (view_in s top y) (Draw prompt text at info (Some l) new m) g
      (ap (λ p. p.row) cursor, record { prompt_is = refl; line_is = refl; info_is = refl; styles_are = refl; finish_is = finish_is; cursor_is = cursor_is; top_is = refl; place_is = sym cursor_is; finish_row = omega arith; cursor_row = omega arith })
      refl (λ e. cc))

  -- ---- moves

  abbrev goes_to : Sight → ℕ → Bool → Sight
  goes_to x at ended = record x { place = at; ended = ended }

  goes_if : (bytes : List ℕ) (over : List Placed) (top : ℕ) (l : Layout) (x : Sight) (at : ℕ) (ended : Bool) (to : Position) (b : Bool) → DisplayHolds s bytes over top l x
      → (let y = goes_to x at ended in
      to ≡ place_in s y → Inside s.columns (place_in s y) → same_cell l.cursor to ≡ b
      → (let a = if b then nothing_asked l else move_call l to in DisplayHolds s (bytes ++ flat_map (bytes_of s) a.calls) over top a.layout y))
  goes_if bytes over top l x at ended to true h is inside e =
      let y = goes_to x at ended in
      let here : place_in s x ≡ place_in s y = sym h.cursor ∙ same_if l.cursor to e ∙ is in
      let free = place_is_free s (bytes ++ []) over (view_in s top x) at (none_led bytes over (view_in s top x) h.good) in
      let good = subst (λ p. Good s.columns (widths s) (bytes ++ []) over (record { shown = picture y; top = top; place = p })) here free in
      assumption (good, h.cursor ∙ here)
  goes_if bytes over top l x at ended to false h is inside e =
      let y = goes_to x at ended in
      let there : View = record { shown = picture y; top = top; place = to } in
      let new = bytes ++ flat_map (bytes_of s) (Move l.cursor to ∷ []) in
      let good = one_led bytes over (view_in s top x) there (Move l.cursor to) h.good (record { old_is = h.cursor; inside = subst (Inside s.columns) (sym is) inside; at = at; view = refl }) refl (λ e. cc) in
      assumption (subst (λ p. Good s.columns (widths s) new over (record { shown = picture y; top = top; place = p })) is good)

  -- ---- a typed character

  pub place_by : (x : Sight) (b : Bool) → x.ended ≡ b → place_in s x ≡ (if b then finish_of s.columns (widths s) (picture x) else cursor_of s.columns (widths s) (picture x))
  place_by x b e = ap (λ t. if t then finish_of s.columns (widths s) (picture x) else cursor_of s.columns (widths s) (picture x)) e

  typed_place : (a b : View) (c : ℕ) → LeadsView s.columns (widths s) a (Write (c ∷ [])) b → b.place ≡ cursor_of s.columns (widths s) b.shown
  typed_place a b c (inl t) = rw t.view
  typed_place a b c (inr t) = absurd (not_break c t.text_is)

  -- nothing after a line, with the cursor at its end
  end_is_cursor : (v : Picture) → v.info ≡ [] → v.place ≡ length v.line → finish_of s.columns (widths s) v ≡ cursor_of s.columns (widths s) v
  end_is_cursor v none end = line_finish s.columns (widths s) v none ∙ sym (line_cursor s.columns (widths s) v end)

  tells : (bytes : List ℕ) (over : List Placed) (top : ℕ) (l : Layout) (x : Sight) → DisplayHolds s bytes over top l x → TellsView s l (view_in s top x)
  tells bytes over top l x h = record { cursor = h.cursor; finish = h.finish; info = λ none. ap info_text (no_info x.info (sym h.tells.info_is ∙ none)) }

  -- ---- the rest of a line, and what stands after it

  -- the prompt's text has no part in the styles of what stands after it
  same_parts : (m : Option Marks) (prompt text : List ℕ) (at : ℕ) (info : List ℕ)
      → (let alone = drawn_spans m true [] text at info in let spans = drawn_spans m true prompt text at info in (alone.line ≡ spans.line) × (alone.info ≡ spans.info))
  same_parts None prompt text at info = (refl, refl)
  same_parts (Some m) prompt text at info = (refl, refl)

  abbrev rest_given : Option Marks → Sight → List ℕ → ℕ → Option (List ℕ) → Styles
  rest_given m x text at info = with_line_styles (styles_of x.spans) (line_styles m text at (info_text info))

  module _ (m : Option Marks) (x : Sight) (prompt : List ℕ) (from : ℕ) (text : List ℕ) (at : ℕ) (info : Option (List ℕ)) (t : DrawnFromFits x m prompt from text at info) where
    rest_styles : rest_given m x text at info ≡ styles_of (drawn_spans m true prompt text at (info_text info))
    rest_styles =
        let spans = drawn_spans m true prompt text at (info_text info) in
        let alone = drawn_spans m true [] text at (info_text info) in
        ap (λ p. styles_of (record { prompt = p; line = alone.line; info = alone.info })) (sym t.prompt_styles)
        ∙ ap (λ p. styles_of (record { prompt = spans.prompt; line = p; info = alone.info })) (same_parts m prompt text at (info_text info)).0
        ∙ ap (λ p. styles_of (record { prompt = spans.prompt; line = spans.line; info = p })) (same_parts m prompt text at (info_text info)).1

    rest_same_styles : first_styles from (line_styles m text at (info_text info)).line ≡ first_styles from (styles_of x.spans).line
    rest_same_styles =
        ap (λ p. first_styles from (map span_of p)) (same_parts m prompt text at (info_text info)).0
        ∙ kept_styles from (drawn_spans m true prompt text at (info_text info)).line x.spans.line t.same_styles

    drawn_from_is : (let v : Picture = record { prompt = x.prompt; line = text; place = at; info = info_text info; styles = rest_given m x text at info } in v ≡ picture (sight_as m prompt text at info))
    drawn_from_is =
        ap₂ (λ p (styles : Styles). let v : Picture = record { prompt = p; line = text; place = at; info = info_text info; styles = styles } in v) (sym t.prompt_is) rest_styles

  drawn_from_holds : (bytes : List ℕ) (over : List Placed) (top : ℕ) (m : Option Marks) (l : Layout) (x : Sight) (prompt : List ℕ) (from : ℕ) (text : List ℕ) (at : ℕ) (info : Option (List ℕ)) → DisplayHolds s bytes over top l x
      → DrawnFromFits x m prompt from text at info → Low s (sight_as m prompt text at info)
      → (let a = rest_call (ruler_of s) m l from text at info in DisplayHolds s (bytes ++ flat_map (bytes_of s) a.calls) over top a.layout (sight_as m prompt text at info))
  drawn_from_holds bytes over top m l x prompt from text at info h t rows =
      let w = view_in s top x in
      let y = sight_as m prompt text at info in
      let line = t.before ++ t.rest in
      let v : List ℕ → Picture = λ line. record { prompt = x.prompt; line = line; place = at; info = info_text info; styles = rest_given m x line at info } in
      let new : List ℕ → Layout = λ line. layout_of (ruler_of s) l.prompt_size true line at info in
      let call : List ℕ → ℕ → List ℕ → Call = λ before from line. DrawRest line from at info l.cursor (measure_of s.mode s.tab s.columns before l.prompt_size) (new line) m in
      let same : v line ≡ picture y = ap v (sym t.text_is) ∙ drawn_from_is m x prompt from text at info t in
      let cursor_low = subst (λ p. (cursor_of s.columns (widths s) p).row ≤ 65535) (sym same) rows.cursor in
      let finish_low = subst (λ p. (finish_of s.columns (widths s) p).row ≤ 65535) (sym same) rows.finish in
      let styled : ℕ → List ℕ → Type 0 = λ n line. first_styles n (line_styles m line at (info_text info)).line ≡ first_styles n (styles_of x.spans).line in
      let same_styles : styled (length t.before) line = subst (λ n. styled n line) t.from_is (subst (styled from) t.text_is (rest_same_styles m x prompt from text at info t)) in
      let leads = drawing_rest_leads s low high l w t.before t.gone t.rest at info m (tells bytes over top l x h) t.whole t.gone_apart t.rest_apart h.prompt_size same_styles cursor_low finish_low in
      let there : View = record { shown = v line; top = top; place = (new line).cursor } in
      let first = call t.before (length t.before) line in
      let good : Good s.columns (widths s) (bytes ++ flat_map (bytes_of s) (first ∷ [])) over there = one_led bytes over w there first h.good leads.0 refl (λ e. cc) in
      let before_is : t.before ≡ take from text = sym (ap₂ take t.from_is t.text_is ∙ take_at t.before t.rest (length t.before) refl) in
      let bytes_are : bytes ++ flat_map (bytes_of s) (first ∷ []) ≡ bytes ++ flat_map (bytes_of s) (call (take from text) from text ∷ []) =
      ap₂ (λ before from. bytes ++ flat_map (bytes_of s) (call before from line ∷ [])) before_is (sym t.from_is)
      ∙ ap (λ line. bytes ++ flat_map (bytes_of s) (call (take from text) from line ∷ [])) (sym t.text_is) in
      let cursor_is : (new line).cursor ≡ cursor_of s.columns (widths s) (picture y) = leads.1 ∙ ap (cursor_of s.columns (widths s)) same in
      let at_place : there ≡ view_in s top y = ap₂ (λ (p : Picture) q. let b : View = record { shown = p; top = top; place = q } in b) same cursor_is in
      record {
        good = subst (λ z. Good s.columns (widths s) z over (view_in s top y)) bytes_are (subst (Good s.columns (widths s) (bytes ++ flat_map (bytes_of s) (first ∷ [])) over) at_place good);
        cursor = ap (λ line. (new line).cursor) t.text_is ∙ cursor_is;
        finish = ap (λ line. (new line).end) t.text_is ∙ leads.2 ∙ ap (finish_of s.columns (widths s)) same;
        prompt_size = h.prompt_size ∙ ap (λ p. measure_of s.mode s.tab s.columns p origin) (sym t.prompt_is);
        tells = record { info_is = refl; given_is = refl };
      }

  -- ---- one call, where the line alone is shown behind the session's own prompt; or the line drawn whole

  -- without information, after the session's own prompt
  abbrev bare_sight : PartSpans → List ℕ → List ℕ → ℕ → Sight
  bare_sight spans prompt text at = record { prompt = prompt; line = text; place = at; info = None; given = true; ended = false; spans = spans }

  killed_place : (a b : View) (old new : Position) → LeadsView s.columns (widths s) a (MoveAndClearToEol old new) b → b.place ≡ cursor_of s.columns (widths s) b.shown
  killed_place a b old new f = rw f.2.view f.2.place_is

  module _ (bytes : List ℕ) (over : List Placed) (top : ℕ) (m : Option Marks) (l : Layout) (x : Sight) (h : DisplayHolds s bytes over top l x) (prompt text : List ℕ) (at : ℕ) where
    abbrev old : View
    old = view_in s top x

    abbrev now : Sight
    now = sight_as m prompt text at None

    abbrev Shows : RedrawCalls → Type 0
    Shows q = DisplayHolds s (bytes ++ flat_map (bytes_of s) q.calls) over top q.layout now

    short_or : (short : RedrawCalls) (b : Bool) → Low s now → (b ≡ true → Shows short) → Shows (if b then short else full (ruler_of s) m l prompt true text at None)
    short_or short true rows holds = holds refl
    short_or short false rows holds = drawn_holds bytes over top m l x prompt true text at None h.good h.cursor rows

    -- or the line drawn from a place on
    short_or_rest : (from : ℕ) (short : RedrawCalls) (b : Bool) → DrawnFromFits x m prompt from text at None → Low s now → (b ≡ true → Shows short) → Shows (if b then short else rest_call (ruler_of s) m l from text at None)
    short_or_rest from short true t rows holds = holds refl
    short_or_rest from short false t rows holds = drawn_from_holds bytes over top m l x prompt from text at None h t rows

    module _ {own : List ℕ} (k : InPart own x m prompt text at) where
      no_styles : (picture x).styles.line ≡ []
      no_styles = ap (map span_of) k.unstyled

      bare_is : (line : List ℕ) (place : ℕ) → not l.has_info ≡ true → text ≡ line → at ≡ place → now ≡ bare_sight x.spans x.prompt line place
      bare_is line place free text_is place_is =
          ap (λ spans. bare_sight spans prompt text at) (k.same (no_info x.info (sym h.tells.info_is ∙ not-true l.has_info free)))
          ∙ ap (λ p. bare_sight x.spans p text at) k.prompt_is ∙ ap (λ t. bare_sight x.spans x.prompt t at) text_is ∙ ap (bare_sight x.spans x.prompt line) place_is

      -- a call that leads to a bare line, and changes nothing of the layout but cursor and end
      short_holds : (line : List ℕ) (place : ℕ) (call : Call) (cursor end : Position) → not l.has_info ≡ true → text ≡ line → at ≡ place
          → (let y = bare_sight x.spans x.prompt line place in LeadsView s.columns (widths s) old call (record { shown = picture y; top = top; place = cursor }) → call ≢ ClearScreen
          → cursor ≡ cursor_of s.columns (widths s) (picture y) → end ≡ finish_of s.columns (widths s) (picture y)
          → DisplayHolds s (bytes ++ flat_map (bytes_of s) (call ∷ [])) over top (record l { cursor = cursor; end = end }) now)
      short_holds line place call cursor end free text_is place_is leads other cursor_is end_is =
          let y = bare_sight x.spans x.prompt line place in
          let new = bytes ++ flat_map (bytes_of s) (call ∷ []) in
          let layout = record l { cursor = cursor; end = end } in
          let good = one_led bytes over old (record { shown = picture y; top = top; place = cursor }) call h.good leads refl other in
          let there = subst (λ p. Good s.columns (widths s) new over (record { shown = picture y; top = top; place = p })) cursor_is good in
          let done : DisplayHolds s new over top layout y = assumption (there, not-true l.has_info free, h.tells.given_is ∙ k.given) in
          subst (DisplayHolds s new over top layout) (sym (bare_is line place free text_is place_is)) done

      -- ---- a character at the line's end

      typed_holds : (c : ℕ) → x.ended ≡ false → TypedFits x c text at → may_write_over (ruler_of s) l l.cursor 1 ≡ true → Shows (char_call l c)
      typed_holds c unended t e =
          let letter = and_parts (is_printable c) (at_simple_end true x.line x.place) t.typed in
          let last : x.place ≡ length x.line = eqb-true x.place (length x.line) (and_parts (x.place == length x.line) _ letter.1).0 in
          let line = x.line ++ c ∷ [] in
          let y = bare_sight x.spans x.prompt line (x.place + 1) in
          let to = column_on l.cursor in
          let leads = typing_leads s low high l old c (tells bytes over top l x h) (place_by x false unended) no_styles t.typed e in
          let cursor_is : to ≡ cursor_of s.columns (widths s) (picture y) = typed_place old (record { shown = picture y; top = top; place = to }) c leads in
          let end : y.place ≡ length line = let count = length-append x.line (c ∷ []) in omega arith in
          subst (λ xs. DisplayHolds s (bytes ++ flat_map (bytes_of s) (Write xs ∷ [])) over top (char_call l c).layout now) (sym (encode_ascii c (small c letter.0)))
          (short_holds line (x.place + 1) (Write (c ∷ [])) to to (and_parts (not l.has_info) (nat_lt (l.cursor.col + 1) s.columns) e).0 t.text_is t.behind leads (λ e. cc) cursor_is (cursor_is ∙ sym (end_is_cursor (picture y) refl end)))

      -- apart from the line's end
      appended_holds : (c : ℕ) → x.ended ≡ false → AppendedFits x c text at → Low s now → not l.has_info ≡ true → Shows (append_call (ruler_of s) l c)
      appended_holds c unended t rows free =
          let tail = encode_utf8 c in
          let line = x.line ++ tail in
          let low_y : Low s (bare_sight x.spans x.prompt line (length line)) = subst (Low s) (bare_is line (length line) free t.text_is t.behind) rows in
          let to = measure_of s.mode s.tab s.columns tail l.cursor in
          let leads = appending_leads s low high l old c (tells bytes over top l x h) (place_by x false unended) no_styles t.at t.apart (not-true l.has_info free) low_y.cursor in
          short_holds line (length line) (Append tail l.cursor) to to free t.text_is t.behind leads.0 (λ e. cc) leads.1 leads.2

      -- ---- a kill at the line's end

      taken_holds : (count : ℕ) → TakenFits x count text at → may_take l count ≡ true → Shows (erase_call l count)
      taken_holds count t e =
          let y = bare_sight x.spans x.prompt text (length text) in
          let ends = and_parts (at == length text) (is_plain text) t.end in
          let to = column_back (length t.killed) l.end in
          let there : View = record { shown = picture y; top = top; place = to } in
          let leads = killing_leads s low high l old text t.killed (tells bytes over top l x h) h.good.inside no_styles t.whole ends.1 t.printable (subst (λ n. may_take l n ≡ true) t.count_is e) in
          let cursor_is : to ≡ cursor_of s.columns (widths s) (picture y) = killed_place old there old.place to leads in
          subst (λ n. Shows (erase_call l n)) (sym t.count_is)
          (short_holds text (length text) (MoveAndClearToEol l.cursor to) to to (and_parts (not l.has_info) _ e).0 refl (eqb-true at (length text) ends.0)
          (subst (λ p. LeadsView s.columns (widths s) old (MoveAndClearToEol p to) there) (sym h.cursor) leads) (λ e. cc) cursor_is (cursor_is ∙ sym (end_is_cursor (picture y) refl refl)))

      -- a character apart, deleted there
      erased_holds : (c : ℕ) → ErasedFits x c text at → Low s now → may_erase (ruler_of s) l c ≡ true → Shows (erase_call l (measure_of s.mode s.tab s.columns (encode_utf8 c) origin).col)
      erased_holds c t rows e =
          let free = (and_parts (not l.has_info) _ e).0 in
          let to = column_back (measure_of s.mode s.tab s.columns (encode_utf8 c) origin).col l.end in
          let y = bare_sight x.spans x.prompt text (length text) in
          let there : View = record { shown = picture y; top = top; place = to } in
          let leads = erasing_leads s low high l old text c (tells bytes over top l x h) no_styles t.whole t.apart e (inside_cursor y (subst (Low s) (bare_is text (length text) free refl t.end) rows)).row in
          let cursor_is : to ≡ cursor_of s.columns (widths s) (picture y) = killed_place old there old.place to leads in
          short_holds text (length text) (MoveAndClearToEol l.cursor to) to to free refl t.end
          (subst (λ p. LeadsView s.columns (widths s) old (MoveAndClearToEol p to) there) (sym h.cursor) leads) (λ e. cc) cursor_is (cursor_is ∙ sym (end_is_cursor (picture y) refl refl))

      -- ---- a character put in

      put_in_holds : (c : ℕ) → x.ended ≡ false → Replaces x x.place [] (c ∷ []) text → at ≡ x.place + 1 → may_put_in (ruler_of s) l (drop at text) ≡ true → Shows (put_in_short (ruler_of s) l c (drop at text))
      put_in_holds c unended t behind e =
          let rest_is = put_in_rest x c text at t behind in
          let cursor = cell_on s.columns l.cursor in
          let end = cell_on s.columns l.end in
          let leads = putting_in_leads s low high l old t.before t.rest c (tells bytes over top l x h) (place_by x false unended) no_styles t.plain (and_parts (is_printable c) true t.printable).0 t.whole t.from_is
          (subst (λ r. may_put_in (ruler_of s) l r ≡ true) rest_is e) in
          subst (λ r. Shows (put_in_short (ruler_of s) l c r)) (sym rest_is)
          (short_holds (t.before ++ c ∷ t.rest) (length t.before + 1) (InsertChar c t.rest l.cursor cursor end) cursor end (and_parts (not l.has_info) _ e).0 t.text_is (behind ∙ ap (λ n. n + 1) t.from_is) leads.0 (λ e. cc) leads.1 leads.2)

      -- ---- characters taken out

      taken_out_holds : (count : ℕ) → ((killed : List ℕ) × Replaces x at killed [] text × (count ≡ length killed)) → Low s now
          → (let cell = measure_of s.mode s.tab s.columns (take at text) l.prompt_size in may_take_out (ruler_of s) l cell count (drop at text) ≡ true → Shows (taken_out_short l cell count (drop at text)))
      taken_out_holds count t rows e =
          let cell = measure_of s.mode s.tab s.columns (take at text) l.prompt_size in
          let free = (and_parts (not l.has_info) _ e).0 in
          let line = t.1.before ++ t.1.rest in
          let y = bare_sight x.spans x.prompt line (length t.1.before) in
          let low_y : Low s y = subst (Low s) (bare_is line (length t.1.before) free t.1.text_is t.1.from_is) rows in
          let cell_is : cell ≡ cursor_of s.columns (widths s) (picture y) =
          ap₂ (measure_of s.mode s.tab s.columns) (ap₂ take t.1.from_is t.1.text_is) h.prompt_size ∙ (measures_go_on s some (picture y)).0 low_y.cursor in
          let cut : take (length t.1.before) line ≡ take (length t.1.before) t.1.before = take_at t.1.before t.1.rest (length t.1.before) refl ∙ sym (take_all (length t.1.before) t.1.before (omega arith)) in
          let at_is : cell ≡ cursor_of s.columns (widths s) (with_text old.shown t.1.before (length t.1.before)) =
          cell_is ∙ ap (λ xs. place_after s.columns (text_of x.prompt ++ text_of xs) origin) cut in
          let gone = length t.0 in
          let end = column_back gone l.end in
          let there : View = record { shown = picture y; top = top; place = cell } in
          let rest_is = taken_out_rest x count text at t in
          let may : may_take_out (ruler_of s) l cell gone t.1.rest ≡ true =
          subst (λ n. may_take_out (ruler_of s) l cell n t.1.rest ≡ true) t.2 (subst (λ r. may_take_out (ruler_of s) l cell count r ≡ true) rest_is e) in
          let leads = taking_out_leads s low high l old t.1.before t.0 t.1.rest cell (tells bytes over top l x h) h.good.inside no_styles t.1.plain t.1.whole t.1.gone_printable at_is may (inside_finish y low_y).row in
          subst (λ r. Shows (taken_out_short l cell count r)) (sym rest_is) (subst (λ n. Shows (taken_out_short l cell n t.1.rest)) (sym t.2)
          (short_holds line (length t.1.before) (MoveAndDelete l.cursor cell gone t.1.rest end) cell end free t.1.text_is t.1.from_is
          (subst (λ p. LeadsView s.columns (widths s) old (MoveAndDelete p cell gone t.1.rest end) there) (sym h.cursor) leads.0) (λ e. cc) leads.1 leads.2))

      -- ---- characters replaced by as many

      rewritten_holds : (from upto : ℕ) → ((gone letters : List ℕ) × Replaces x from gone letters text × (length letters ≡ length gone) × (upto ≡ from + length letters)) → Low s now
          → (let cell = measure_of s.mode s.tab s.columns (take from text) l.prompt_size in let letters = slice_range text from upto in
          may_write_over (ruler_of s) l cell (length letters) ≡ true → Shows (write_over_call l letters cell (measure_of s.mode s.tab s.columns (take at text) l.prompt_size)))
      rewritten_holds from upto t rows e =
          let measure = measure_of s.mode s.tab s.columns in
          let cell = measure (take from text) l.prompt_size in
          let cursor = measure (take at text) l.prompt_size in
          let free = (and_parts (not l.has_info) _ e).0 in
          let tail = t.1 ++ t.2.rest in
          let line = t.2.before ++ tail in
          let y = bare_sight x.spans x.prompt line at in
          let low_y : Low s y = subst (Low s) (bare_is line at free t.2.text_is refl) rows in
          -- the cells of the letters and of the cursor
          let cursor_is : cursor ≡ cursor_of s.columns (widths s) (picture y) = ap₂ measure (ap (take at) t.2.text_is) h.prompt_size ∙ (measures_go_on s some (picture y)).0 low_y.cursor in
          let parts = plain_parts s.columns (widths s) (picture x) t.2.before (t.0 ++ t.2.rest) t.2.whole t.2.plain in
          let rest_plain = (and_parts (is_plain t.0) (is_plain t.2.rest) (sym (list_all-append is_plain_byte t.0 t.2.rest) ∙ parts.1)).1 in
          let tail_plain : is_plain tail ≡ true = list_all-append is_plain_byte t.1 t.2.rest ∙ and_from (is_plain t.1) (is_plain t.2.rest) (all_plain t.1 t.2.printable) rest_plain in
          let start = with_text old.shown t.2.before (length t.2.before) in
          let begins : cursor_of s.columns (widths s) start ≡ line_end s.columns (widths s) old.shown t.2.before = line_cursor s.columns (widths s) start refl in
          let above_end = part_above s.columns (widths s) old.shown t.2.before tail at parts.0 tail_plain in
          let row = ap (λ p. p.row) begins in
          let fewer = low_y.finish in
          let first : take from text ≡ take (length t.2.before) t.2.before =
          ap₂ take t.2.from_is t.2.text_is ∙ take_at t.2.before tail (length t.2.before) refl ∙ sym (take_all (length t.2.before) t.2.before (omega arith)) in
          let cell_is : cell ≡ cursor_of s.columns (widths s) start = ap₂ measure first h.prompt_size ∙ (measures_go_on s some start).0 (omega arith) in
          let letters_are = rewritten_letters x from upto text t in
          let inside : Inside s.columns cursor = subst (Inside s.columns) (sym cursor_is) (inside_cursor y low_y) in
          let there : View = record { shown = picture y; top = top; place = cursor } in
          let leads = writing_over_leads s low high l old t.2.before t.0 t.1 t.2.rest at cell cursor (tells bytes over top l x h) no_styles t.2.plain t.2.whole t.3 t.2.gone_printable t.2.printable cell_is
          (subst (λ xs. may_write_over (ruler_of s) l cell (length xs) ≡ true) letters_are e) inside (inside_finish y low_y).row in
          subst (λ xs. Shows (write_over_call l xs cell cursor)) (sym letters_are)
          (short_holds line at (WriteOver t.1 l.cursor cell cursor) cursor l.end free t.2.text_is refl
          (subst (λ p. LeadsView s.columns (widths s) old (WriteOver t.1 p cell cursor) there) (sym h.cursor) leads.0) (λ e. cc) cursor_is (h.finish ∙ sym leads.1))

  -- ---- no call, also if the session's own prompt stands

  still_holds : (bytes : List ℕ) (over : List Placed) (top : ℕ) (l : Layout) (x : Sight) → DisplayHolds s bytes over top l x → DisplayHolds s (bytes ++ []) over top l x
  still_holds bytes over top l x h = subst (λ b. DisplayHolds s b over top l x) (sym (append-nil bytes)) h

  bared_if : (bytes : List ℕ) (over : List Placed) (top : ℕ) (m : Option Marks) (l : Layout) (x : Sight) (prompt text : List ℕ) (at : ℕ) (b : Bool) → DisplayHolds s bytes over top l x → b ≡ true
      → (let a = if b then nothing_asked l else full (ruler_of s) m l prompt true text at None in DisplayHolds s (bytes ++ flat_map (bytes_of s) a.calls) over top a.layout x)
  bared_if bytes over top m l x prompt text at true h e = still_holds bytes over top l x h
  bared_if bytes over top m l x prompt text at false h e = cc

  -- ---- a call that changes nothing

  same_holds : (bytes : List ℕ) (over : List Placed) (top : ℕ) (l : Layout) (x : Sight) (call : Call) → DisplayHolds s bytes over top l x
      → LeadsView s.columns (widths s) (view_in s top x) call (view_in s top x) → call ≢ ClearScreen → DisplayHolds s (bytes ++ flat_map (bytes_of s) (call ∷ [])) over top l x
  same_holds bytes over top l x call h leads other =
      record { good = one_led bytes over (view_in s top x) (view_in s top x) call h.good leads refl other; cursor = h.cursor; finish = h.finish; prompt_size = h.prompt_size; tells = h.tells }

  -- ---- before anything is drawn

  pub fresh_holds : (bytes : List ℕ) (over : List Placed) (top : ℕ) (l : Layout) → Good s.columns (widths s) bytes over (empty_view top) → DisplayHolds s bytes over top (fresh l.grapheme_cluster_mode) no_sight
  fresh_holds bytes over top l g = record { good = g; cursor = refl; finish = refl; prompt_size = sym nothing_measured; tells = record { info_is = refl; given_is = refl } }

  -- ---- every step

  pub step : (own bytes : List ℕ) (over : List Placed) (top : ℕ) (l : Layout) (x : Sight) (r : EditStep) → DisplayHolds s bytes over top l x → Fits own x r → LowStep s x r
      → DisplayHolds s (bytes ++ flat_map (bytes_of s) (one (ruler_of s) l r).calls) (kept_by r over []) (kept_by r top 0) (one (ruler_of s) l r).layout (sight x r)
  step own bytes over top l x (Draws v m (Drawn prompt given text at info)) h fits rows = drawn_holds bytes over top (shown_marks v m) l x prompt given text at info h.good h.cursor rows
  step own bytes over top l x (Draws v m (Moved text at)) h fits rows =
      let y = goes_to x at false in
      let cursor = measure_of s.mode s.tab s.columns (take at text) l.prompt_size in
      let measured = measures_go_on s some (picture y) in
      let is : cursor ≡ cursor_of s.columns (widths s) (picture y) =
      ap (measure_of s.mode s.tab s.columns (take at text)) h.prompt_size ∙ ap (λ t. measure_of s.mode s.tab s.columns (take at t) (measure_of s.mode s.tab s.columns x.prompt origin)) fits ∙ measured.0 rows.cursor in
      goes_if bytes over top l x at false cursor (same_cell l.cursor cursor) h is (inside_cursor y rows) refl
  step own bytes over top l x (Draws v m (Typed prompt c text at)) h fits rows =
      short_or bytes over top _ l x h prompt text at _ _ rows (typed_holds bytes over top (shown_marks v m) l x h prompt text at fits.0 c fits.1 fits.2)
  step own bytes over top l x (Draws v m (Appended prompt c text at)) h fits rows =
      let marks = shown_marks v m in
      let short = append_call (ruler_of s) l c in
      subst (Shows bytes over top marks l x h prompt text at) (sym (if_none l.has_info (full (ruler_of s) marks l prompt true text at None) short))
      (short_or bytes over top marks l x h prompt text at short (not l.has_info) rows (appended_holds bytes over top marks l x h prompt text at fits.0 c fits.1 fits.2 rows))
  step own bytes over top l x (Draws v m (Taken prompt count true text at)) h fits rows =
      let marks = shown_marks v m in
      short_or_rest bytes over top marks l x h prompt text at at _ _ (taken_fits x marks prompt text at fits.0 count fits.1) rows
      (taken_holds bytes over top marks l x h prompt text at fits.0 count fits.1)
  step own bytes over top l x (Draws v m (Taken prompt count false text at)) h fits rows =
      short_or bytes over top _ l x h prompt text at _ _ rows (taken_holds bytes over top (shown_marks v m) l x h prompt text at fits.0 count fits.1)
  step own bytes over top l x (Draws v m (Erased prompt c text at)) h fits rows =
      let marks = shown_marks v m in
      short_or_rest bytes over top marks l x h prompt text at at _ _ (erased_fits x marks prompt text at fits.0 c fits.1) rows
      (erased_holds bytes over top marks l x h prompt text at fits.0 c fits.1 rows)
  step own bytes over top l x (Draws v m (PutIn prompt c text at)) h fits rows =
      short_or bytes over top _ l x h prompt text at _ _ rows (put_in_holds bytes over top (shown_marks v m) l x h prompt text at fits.0 c fits.1 fits.2 fits.3)
  step own bytes over top l x (Draws v m (TakenOut prompt count text at)) h fits rows =
      let marks = shown_marks v m in
      short_or_rest bytes over top marks l x h prompt text at at _ _ (replaced_fits x marks prompt text at fits.0 at fits.1.0 [] fits.1.1) rows
      (taken_out_holds bytes over top marks l x h prompt text at fits.0 count fits.1 rows)
  step own bytes over top l x (Draws v m (Rewritten prompt from upto text at)) h fits rows =
      let marks = shown_marks v m in
      short_or_rest bytes over top marks l x h prompt text at from _ _ (replaced_fits x marks prompt text at fits.0 from fits.1.0 fits.1.1 fits.1.2) rows
      (rewritten_holds bytes over top marks l x h prompt text at fits.0 from upto fits.1 rows)
  step own bytes over top l x (Draws v m (DrawnFrom prompt from text at info)) h fits rows = drawn_from_holds bytes over top (shown_marks v m) l x prompt from text at info h fits.2 rows
  step own bytes over top l x (Draws v m (Bared prompt text at)) h fits rows = bared_if bytes over top (shown_marks v m) l x prompt text at l.default_prompt h (h.tells.given_is ∙ fits)
  step own bytes over top l x (Draws v m ToEnd) h fits rows = goes_if bytes over top l x x.place true l.end (same_cell l.cursor l.end) h h.finish (inside_finish x (record { finish = rows.finish; cursor = rows.cursor })) refl
  step own bytes over top l x (Draws v m Beeped) h fits rows = same_holds bytes over top l x Beep h refl (λ e. cc)
  step own bytes over top l x (Draws v m Cleared) h fits rows = fresh_holds (bytes ++ flat_map (bytes_of s) (ClearScreen ∷ [])) [] 0 l (cleared_led bytes over (view_in s top x) h.good)
  step own bytes over top l x (Helped v fails takes) h fits rows = same_holds bytes over top l x (Help fails) h refl (λ e. cc)
  step own bytes over top l x r h fits rows = still_holds bytes over top l x h
