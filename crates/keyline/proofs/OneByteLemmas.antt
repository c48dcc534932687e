-- The count of one byte.
use Rattle.std.proofs.Common.{◌≡◌, ℕ, ◌+◌, ◌==◌, not, ◌&&◌, Bool, true, false, List, [], ◌∷◌, ◌++◌, take, Option, Some, None, is_some, encode_utf8, refl, ap, ap₂, ◌∙◌, append-nil, arith, if◌then◌else◌, nat_lt, flat_map}
use Rattle.std.proofs.lemmas.Bool.{and_parts, and_from, not-true, lt-ltb, ltb-true}
use Rattle.std.proofs.lemmas.Bool.Decides.{nat_tests}
use Rattle.std.proofs.lemmas.Str.{encode_ascii}
use Rattle.line_buffer.specs.Cells.{same_cell}
use Rattle.line_buffer.specs.Insertions.{insert as insertion}
use Rattle.line_buffer.specs.Printable.{is_printable, is_typed_at_end}
use Rattle.line_buffer.specs.declared.layout.Layout.{Layout}
use Rattle.line_buffer.specs.declared.layout.Position.{Position}
use Rattle.line_keys.specs.CustomBindings.{Custom}
use Rattle.line_keys.specs.PhraseScripts.{steps}
use Rattle.line_keys.specs.declared.command.Cmd.{Cmd, TheVariants.SelfInsert}
use Rattle.line_editor.specs.RenderCalls.Call.{Append}
use Rattle.line_editor.specs.Drawing.{Since, since, ask_anew_effect, shown_in}
use Rattle.line_keys.specs.Replies.{Reply, fails}
use Rattle.line_editor.specs.Inserting.{is_bare, may_be_typed, may_be_appended, may_be_put_in, insertion_way, put_redraw, show_inserted_effect, insert_char}
use Rattle.line_editor.specs.declared.way.Way.{Way, TheVariants.AtEnd, TheVariants.Alone, TheVariants.Inside, TheVariants.Whole}
use Rattle.line_editor.specs.LineScripts.{turn_start, Meets, LineState, line_plan, made_from, meet_script, phrase_script, played_from, steps_along, turn_script, Obeys}
use Rattle.line_editor.specs.Modal.{Modal, is_at_rest}
use Rattle.line_editor.specs.NextCommand.{line_phrase}
use Rattle.line_editor.specs.Redraws.{RedrawCalls, full, nothing_asked, may_write_over}
use Rattle.line_editor.proofs.ShortCalls.{move_call, append_call}
use Rattle.line_editor.specs.Redraws.Redraw.{Drawn, Moved, Appended, Taken, DrawnFrom, Bared, ToEnd, Beeped, Cleared}
use Rattle.line_editor.specs.Sights.{Sight, sight, Fits}
use Rattle.line_editor.specs.EditSteps.{calls_of_steps, one}
use Rattle.line_editor.specs.Values.{shown_marks, Value, Setting, Effect, EditStep, help_steps, hint_reply, no_effect, EditStep.Draws, EditStep.Helped}
use Rattle.line_editor.specs.declared.commands.Status.{Status}
use Rattle.line_editor.proofs.PastLemmas.{plays_past, steps_past, phrase_keeps}
use Rattle.line_editor.proofs.StopsLemmas.{asked_both}
use Rattle.line_editor.proofs.ToldLemmas.{PlayedOf, follows, joined_on, played_then, rest_along, steps_both}
use Rattle.line_screen.specs.ScreenCalls.{Screen, bytes_of, ruler_of, widths}
use Rattle.line_screen.specs.Drawing.{break_if, bytes_of_items, next_row}
use Rattle.line_screen.specs.Drawing.DrawnItem.{Letter}
use Rattle.line_screen.specs.Measure.{in_row}
use Rattle.line_screen.proofs.Items.{letter_items}
use Rattle.keyline.proofs.ShowSteps.{if_none, small}
use Rattle.keyline.specs.Shows.{LayoutsTell, TypedAtEnd, OneByte, ReadAlone, bytes_for}
use Rattle.script.specs.Scripts.{Asks, Ends}

-- ---- the layout that is kept

-- whether information is shown, and whether the session's own prompt is
abbrev told : Layout → Bool × Bool
told l = (l.has_info, l.default_prompt)

abbrev seen : Sight → Bool × Bool
seen x = (is_some x.info, x.given)

moved_told : (l : Layout) (to : Position) (b : Bool) → told (if b then nothing_asked l else move_call l to).layout ≡ told l
moved_told l to true = refl
moved_told l to false = refl

free : (l : Layout) (b : Bool) → (not l.has_info && b) ≡ true → not l.has_info ≡ true
free l b e = (and_parts (not l.has_info) b e).0

-- a short call is made only if there is no information
short_told : (l : Layout) (x : Sight) → told l ≡ seen x → x.given ≡ true → (short drawn : RedrawCalls) (b : Bool)
    → told short.layout ≡ told l → told drawn.layout ≡ (false, true) → (b ≡ true → not l.has_info ≡ true)
    → told (if b then short else drawn).layout ≡ (false, true)
short_told l x h own short drawn true same full none = same ∙ ap₂ (λ a b. (a, b)) (not-true l.has_info (none refl)) (ap (λ t. t.1) h ∙ own)
short_told l x h own short drawn false same full none = full

one_told : (s : Screen) (own : List ℕ) (l : Layout) (x : Sight) (r : EditStep) → told l ≡ seen x → Fits own x r → told (one (ruler_of s) l r).layout ≡ seen (sight x r)
one_told s own l x (Draws v m (Moved text at)) h fits = let to = (ruler_of s).measure (take at text) l.prompt_size in moved_told l to (same_cell l.cursor to) ∙ h
one_told s own l x (Draws v m ToEnd) h fits = moved_told l l.end (same_cell l.cursor l.end) ∙ h
one_told s own l x (Draws v m (Appended prompt c text at)) h fits =
    let drawn = full (ruler_of s) (shown_marks v m) l prompt true text at None in
    let short = append_call (ruler_of s) l c in
    ap (λ (q : RedrawCalls). told q.layout) (if_none l.has_info drawn short) ∙ short_told l x h fits.0.given short drawn (not l.has_info) refl refl (λ e. e)
one_told s own l x (Draws v m (Bared prompt text at)) h fits =
    ap (λ b. told (if b then nothing_asked l else full (ruler_of s) (shown_marks v m) l prompt true text at None).layout) (ap (λ t. t.1) h ∙ fits) ∙ h
one_told s own l x (Draws v m (Drawn prompt given text at info)) h fits = refl
one_told s own l x (Draws v m (DrawnFrom prompt from text at info)) h fits = refl
one_told s own l x (Draws v m Cleared) h fits = refl
one_told s own l x (Draws v m Beeped) h fits = h
one_told s own l x (Draws v m (Taken prompt count true text at)) h fits = search (short_told l x h, free)
one_told s own l x (Draws v m r) h fits = search (short_told l x h, free)
one_told s own l x r h fits = h

pub layouts_tell : LayoutsTell
layouts_tell s own [] l x h fits = h
layouts_tell s own (r ∷ rs) l x h fits =
    let is = one_told s own l x r (ap₂ (λ a b. (a, b)) h.info_is h.given_is) fits.0 in
    layouts_tell s own rs (one (ruler_of s) l r).layout (sight x r) (record { info_is = ap (λ t. t.0) is; given_is = ap (λ t. t.1) is }) fits.1

-- ---- the byte

printed : (tabs : Bool) (v : Value) (c : ℕ) → may_be_typed tabs c 1 v ≡ true → is_printable c ≡ true
printed tabs v c alone = (and_parts (is_printable c) _ (and_parts (is_bare v) (is_typed_at_end tabs c v.line.text v.line.place) alone).1).0

-- a step and the helper's calls, none of which sends anything, before other steps
help_bytes : {A : Type 0} (s : Screen) (l : Layout) (u : Value) (step : EditStep) (reply : Option (Reply A)) (steps : List EditStep) → one (ruler_of s) l step ≡ nothing_asked l
    → bytes_for s l (step ∷ (help_steps u reply ++ steps)) ≡ bytes_for s l steps
help_bytes s l u step None steps nothing = ap (λ a. flat_map (bytes_of s) (a.calls ++ (calls_of_steps (ruler_of s) a.layout steps).calls)) nothing
help_bytes s l u step (Some reply) steps nothing = ap (λ a. flat_map (bytes_of s) (a.calls ++ (calls_of_steps (ruler_of s) a.layout (Helped u (fails reply) reply.takes ∷ steps)).calls)) nothing

-- its drawing goes this way, behind a step that sends nothing and what the helper is asked
sent_short : (s : Screen) (l : Layout) (a : Setting) (u : Value) (step : EditStep) (c : ℕ) (b : Bool) (way : Way) (from : Option Since) → b ≡ true
    → (let shown = show_inserted_effect c way from a u in let e : Effect = if b then record { value = shown.value; steps = step ∷ shown.steps } else no_effect a u in
    is_bare e.value ≡ true → one (ruler_of s) l step ≡ nothing_asked l → bytes_for s l e.steps ≡ bytes_for s l (Draws e.value a.marks (put_redraw way c from a e.value) ∷ []))
sent_short s l a u step c true way from room after nothing =
    let w = (ask_anew_effect a u).value in
    let drawn : Way → List EditStep = λ way. Draws w a.marks (put_redraw way c from a w) ∷ [] in
    ap (λ b. bytes_for s l (step ∷ (help_steps u (hint_reply a u) ++ drawn (if b then way else Whole)))) after
    ∙ help_bytes s l u step (hint_reply a u) (drawn way) nothing
sent_short s l a u step c false way from room after nothing = cc

-- by its own drawing if the line may be drawn in part, and ends apart; otherwise by its byte
typed_way : (a : Setting) (v : Value) (c : ℕ) → TypedAtEnd a v c → insertion_way a c 1 v ≡ (if may_be_appended a.config.partial_redraw c 1 v then Alone else AtEnd)
typed_way a v c t = ap (λ b. if may_be_appended a.config.partial_redraw c 1 v then Alone else if b then AtEnd else if may_be_put_in a.config.partial_redraw c 1 v then Inside else Whole) t.alone

typed_bytes : (s : Screen) (l : Layout) (a : Setting) (v : Value) (c : ℕ) → TypedAtEnd a v c
    → (let e = insert_char c 1 a v in let way = if may_be_appended a.config.partial_redraw c 1 v then Alone else AtEnd in bytes_for s l e.steps ≡ bytes_for s l (Draws e.value a.marks (put_redraw way c (since a v.line.place v) a e.value) ∷ []))
typed_bytes s l a v c t =
    let e = insert_char c 1 a v in
    sent_short s l a _ _ c (is_some (insertion c 1 v.line).answer) (insertion_way a c 1 v) (since a v.line.place v) t.room t.after refl
    ∙ ap (λ way. bytes_for s l (Draws e.value a.marks (put_redraw way c (since a v.line.place v) a e.value) ∷ [])) (typed_way a v c t)

-- a letter that doesn't fill its row is drawn by its byte
here_in_row : (columns : ℕ) (at : Position) → nat_lt (at.col + 1) columns ≡ true → in_row columns at ≡ at
here_in_row columns at h = let room = ltb-true (at.col + 1) columns h in ap (λ b. if b then at else next_row at) (lt-ltb at.col columns (omega arith))

fills_none : (columns : ℕ) (at : Position) → nat_lt (at.col + 1) columns ≡ true → (at.col + 1 == columns) ≡ false
fills_none columns at h = grind (arith, nat_tests)

letter_bytes : (s : Screen) (c : ℕ) (at : Position) → is_printable c ≡ true → nat_lt (at.col + 1) s.columns ≡ true → bytes_of s (Append (encode_utf8 c) at) ≡ c ∷ []
letter_bytes s c at printable room =
    ap (λ text. bytes_of s (Append text at)) (encode_ascii c (small c printable))
    ∙ ap (λ items. bytes_of_items s.columns items (in_row s.columns at).col) (letter_items (widths s) (c ∷ []) (and_from (is_printable c) true printable refl))
    ∙ ap (λ (p : Position). bytes_of_items s.columns (Letter c ∷ []) p.col) (here_in_row s.columns at room)
    ∙ ap (λ b. c ∷ (break_if b ++ [])) (fills_none s.columns at room)

either_bytes : (s : Screen) (l : Layout) (a : Setting) (v : Value) (c : ℕ) (b : Bool) (from : Option Since) → is_printable c ≡ true → may_write_over (ruler_of s) l l.cursor 1 ≡ true
    → bytes_for s l (Draws v a.marks (put_redraw (if b then Alone else AtEnd) c from a v) ∷ []) ≡ c ∷ []
either_bytes s l a v c true from printable may =
    let parts = and_parts (not l.has_info) (nat_lt (l.cursor.col + 1) s.columns) may in
    rw (not-true l.has_info parts.0) (append-nil (bytes_of s (Append (encode_utf8 c) l.cursor)) ∙ letter_bytes s c l.cursor printable parts.1)
either_bytes s l a v c false from printable may = rw may (append-nil (encode_utf8 c) ∙ encode_ascii c (small c printable))

turned_steps : (n : ℕ) (a : Setting) (custom : Custom) (k : LineState) (c : ℕ) → is_at_rest k.modal.standing ≡ true → (let phrase = phrase_script n custom (turn_start k) in ReadAlone a k phrase c
    → (made_from a (turn_script n custom) k).steps ≡ (made_from a phrase k).steps ++ (insert_char c 1 a k.value).steps)
unfolding turn_script
turned_steps n a custom k c rests alone =
    let cmd = SelfInsert 1 c in
    let phrase = phrase_script n custom (turn_start k) in
    let p = played_from a phrase k in
    let first = steps_along a k p.asks in
    let on : Cmd → LineState → PlayedOf a Status = follows (line_plan a) meet_script in
    let obeyed = (played_from a (Asks (Obeys cmd) (λ status. Ends status)) p.rest).asks in
    let more = Meets cmd ∷ obeyed in
    let all : PlayedOf a Status → List EditStep = λ q. steps_along a k q.asks in
    let still : is_at_rest p.rest.modal.standing ≡ true =
    ap (λ (m : Modal). is_at_rest m.standing) (phrase_keeps a (steps (line_phrase custom k.input (shown_in k.value)) n) k) ∙ rests in
    ap all (played_then (line_plan a) meet_script phrase k)
    ∙ ap (λ answer. all (joined_on on p.asks p.rest answer)) alone.answer
    ∙ ap (λ (q : PlayedOf a Status). steps_along a k (p.asks ++ q.asks)) (plays_past a cmd p.rest still refl)
    ∙ steps_both a k p.asks more
    ∙ ap (λ l. first ++ steps_along a l more) (rest_along a phrase k)
    ∙ ap (λ steps. first ++ steps) (steps_past a cmd p.rest obeyed still refl)
    ∙ ap (λ (v : Value). first ++ ((insert_char c 1 a v).steps ++ [])) alone.value_is
    ∙ ap (λ steps. first ++ steps) (append-nil (insert_char c 1 a k.value).steps)

-- after steps that call nothing
unasked_bytes : (s : Screen) (l : Layout) (xs ys : List EditStep) → calls_of_steps (ruler_of s) l xs ≡ nothing_asked l → bytes_for s l (xs ++ ys) ≡ bytes_for s l ys
unasked_bytes s l xs ys none = rw (asked_both (ruler_of s) l xs ys, none) refl

pub one_byte : OneByte
one_byte n s l a custom k c rests alone t may =
    let first = (made_from a (phrase_script n custom (turn_start k)) k).steps in
    let e = insert_char c 1 a k.value in
    ap (bytes_for s l) (turned_steps n a custom k c rests alone)
    ∙ unasked_bytes s l first e.steps (alone.unasked s l)
    ∙ typed_bytes s l a k.value c t ∙ either_bytes s l a e.value c (may_be_appended a.config.partial_redraw c 1 k.value) (since a k.value.line.place k.value) (printed (is_some a.tabs) k.value c t.alone) may
