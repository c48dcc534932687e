-- An edit of the line, and what follows it.
use Rattle.std.proofs.Common.{◌≡◌, ℕ, Bool, true, false, List, [], ◌∷◌, length, drop, ◌-◌, refl, sym, ap, subst, ◌∙◌, if◌then◌else◌}
use Rattle.std.specs.Prelude.{⊤, ◌==◌, ◌||◌, not, Option, Some, None, is_some, Result, Ok, Err, IsErrAnd}
use Rattle.line_buffer.specs.Clusters.{place_forward}
use Rattle.line_buffer.specs.Insertions.{insert as insertion, can_take_before}
use Rattle.line_buffer.specs.Line.{Line}
use Rattle.line_buffer.specs.Range.{range_of}
use Rattle.line_buffer.specs.Transpositions.{transposes_chars, transposes_words}
use Rattle.line_buffer.specs.declared.types.Movement.{Movement}
use Rattle.line_config.specs.declared.errors.ReadlineError.{ReadlineError, TheVariants.Memory}
use Rattle.line_edits.specs.Edits.{transpose_chars_group, transpose_words_group, char_steps, kill_steps, text_steps, pop_group, replace_group, replace_group_if_any, overwrite_steps, by}
use Rattle.line_edits.proofs.StepLemmas.{overwrite_steps_to}
use Rattle.line_edits.specs.WriteSteps.{WriteSteps, with_answer, no_steps, CutAlong, Edits as EditsRecorded, Written, line_and_record_in}
use Rattle.line_edits.specs.declared.recorded_line.RecordedLine.{RecordedLine}
use Rattle.line_record.specs.Items.{record_on}
use Rattle.line_help.specs.declared.completion as completions
use Rattle.line_help.specs.declared.helpers.hint as hints
use Rattle.line_help.specs.declared.helpers.highlight as highlights
use Rattle.line_help.specs.declared.helpers.validate as verdicts
use Rattle.line_help.specs.declared.history as histories
use Rattle.line_editor.specs.Drawing.{Since, since, refresh_effect, refresh_effect_since, effect_if}
use Rattle.line_editor.specs.Inserting.{has_printable_rest, insertion_way, show_inserted_effect, insert_char, insert_text}
use Rattle.line_editor.specs.Killing.{may_be_taken, may_be_taken_out, text_gone, last_of_bare, way_erased, kill_way, show_killed_effect, show_taken, kill_effect}
use Rattle.line_editor.specs.Transforms.{may_be_rewritten, refresh_over_effect, pair_end, transpose_chars_effect}
use Rattle.line_editor.specs.States.{value_of, setting_of, surface_of, Stays, Does}
use Rattle.line_editor.specs.EditSteps.{Surface, CutEditSteps}
use Rattle.line_editor.specs.Values.{Value, Setting, Effect, Transition, no_effect, then_do, value_with_edit, edit_effect, line_and_record_of}
use Rattle.line_editor.specs.Values.EditStep.{Edits}
use Rattle.line_editor.specs.Yanking.{pop_text}
use Rattle.line_editor.specs.declared.renderer as renderers
use Rattle.line_editor.specs.declared.state.State.{State}
use Rattle.line_editor.proofs.DoesLemmas.{does_as, does_both, does_refused, edit_made, is_err, stays_same}
use Rattle.line_editor.proofs.StopsLemmas.{stops_editing}
use Rattle.line_editor.specs.declared.way.Way.{Way, TheVariants.AtEnd, TheVariants.Inside}
use Rattle.line_buffer.specs.Printable.{at_plain_end}
use Rattle.std.proofs.lemmas.Bool.Decides.{nat_tests}
use Rattle.std.proofs.Common.{arith, ◌&&◌, nat_lt}

-- ---- what edits answer

answered_if : {A : Type 0} (b : Bool) (steps : WriteSteps A) → (if b then with_answer true steps else no_steps false).answer ≡ b
answered_if true steps = refl
answered_if false steps = refl

written_over_if : (c : ℕ) (end : Option ℕ) (l : Line) → (overwrite_steps_to c end l).answer ≡ is_some end
written_over_if c None l = refl
written_over_if c (Some end) l = refl

pub replaces_if : (c n : ℕ) (l : Line) (answer : Bool) → answer ≡ (replace_group_if_any c n l).answer → is_some (place_forward n l) ≡ answer
replaces_if c n l answer is = sym (is ∙ answered_if (is_some (place_forward n l)) (replace_group c n l))

pub overwrites_if : (c : ℕ) (l : Line) (answer : Bool) → answer ≡ (overwrite_steps c l).answer → is_some (place_forward 1 l) ≡ answer
overwrites_if c l answer is = sym (is ∙ written_over_if c (place_forward 1 l) l)

-- a text that isn't empty is put in
pub text_put : (text : List ℕ) (s : Setting) (v : Value) → (length text == 0) ≡ false → then_do (edit_effect (text_steps text)) (refresh_effect_since (since s v.line.place v)) s v ≡ insert_text text s v
text_put text s v is = ap (λ b. if b then no_effect s v else then_do (edit_effect (text_steps text)) (refresh_effect_since (since s v.line.place v)) s v) (sym is)

pub text_put_by : (text : List ℕ) (from : Option Since) (s : Setting) (v : Value) → (length text == 0) ≡ false → from ≡ since s v.line.place v
    → then_do (edit_effect (text_steps text)) (refresh_effect_since from) s v ≡ insert_text text s v
text_put_by text from s v some is = ap (λ f. then_do (edit_effect (text_steps text)) (refresh_effect_since f) s v) is ∙ text_put text s v some

-- a text is put in place of what was yanked
pub text_popped : (size : ℕ) (text : List ℕ) (from : Option Since) (s : Setting) (v : Value) → can_take_before size v.line ≡ true → from ≡ since s (v.line.place - size) v
    → then_do (edit_effect (pop_group size text)) (refresh_effect_since from) s v ≡ pop_text size text s v
text_popped size text from s v some is = rw (is, some)

-- a character is put in
pub char_put : (c n : ℕ) (s : Setting) (v : Value) → is_some (insertion c n v.line).answer ≡ true → then_do (edit_effect (char_steps c n)) (show_inserted_effect c (insertion_way s c n v) (since s v.line.place v)) s v ≡ insert_char c n s v
char_put c n s v is = ap (λ b. if b then then_do (edit_effect (char_steps c n)) (show_inserted_effect c (insertion_way s c n v) (since s v.line.place v)) s v else no_effect s (value_with_edit (by (char_steps c n)) v)) (sym is)

pub char_put_by : (c n : ℕ) (way : Way) (from : Option Since) (s : Setting) (v : Value) → is_some (insertion c n v.line).answer ≡ true → way ≡ insertion_way s c n v → from ≡ since s v.line.place v
    → then_do (edit_effect (char_steps c n)) (show_inserted_effect c way from) s v ≡ insert_char c n s v
char_put_by c n way from s v some is stays = rw (is, stays) (char_put c n s v some)

-- words were exchanged, or the cursor moved
abbrev pub words_drawn : ℕ → Value → Transition
words_drawn n v = effect_if (transposes_words n v.line || not ((value_with_edit (by (transpose_words_group n)) v).line.place == v.line.place)) refresh_effect

-- characters were exchanged, and written over if they may
pub chars_over : (over : Bool) (from end : ℕ) (s : Setting) (v : Value) → end ≡ pair_end v.line → from ≡ end - 2 → over ≡ may_be_rewritten s from end v
    → then_do (edit_effect transpose_chars_group) (effect_if (transposes_chars v.line) (refresh_over_effect over from end)) s v ≡ transpose_chars_effect s v
chars_over over from end s v end_is from_is over_is = rw (over_is, from_is, end_is)

-- something is killed
pub part_killed : (movement : Movement) (s : Setting) (v : Value) → is_some (range_of movement v.line) ≡ true → then_do (edit_effect (kill_steps movement)) (show_taken v) s v ≡ kill_effect movement s v
part_killed movement s v is = ap (λ b. if b then then_do (edit_effect (kill_steps movement)) (show_taken v) s v else no_effect s (value_with_edit (by (kill_steps movement)) v)) (sym is)

nothing_put : (c n : ℕ) (s : Setting) (v : Value) → is_some (insertion c n v.line).answer ≡ false → no_effect s (value_with_edit (by (char_steps c n)) v) ≡ insert_char c n s v
nothing_put c n s v is = ap (λ b. if b then then_do (edit_effect (char_steps c n)) (show_inserted_effect c (insertion_way s c n v) (since s v.line.place v)) s v else no_effect s (value_with_edit (by (char_steps c n)) v)) (sym is)

-- how a kill is shown, by what its text and the line before allow
abbrev way_by : Bool → Bool → Option ℕ → ℕ → Line → Way
way_by alone inside last count l =
    if alone && at_plain_end l.text l.place then AtEnd
    else if inside && (nat_lt 0 count && (nat_lt l.place (length l.text) && has_printable_rest l)) then Inside
    else way_erased count l last

some_gone : (all left : ℕ) → nat_lt 0 (all - left) ≡ nat_lt left all
some_gone all left = grind (arith, nat_tests)

-- ---- what an edit makes of a value

pub edit_is : {A E : Type 0} (edit : Line → WriteSteps A) (v w : Value) (old new : RecordedLine) (answer : A) → line_and_record_in old ≡ line_and_record_of v
    → EditsRecorded {E = E} (edit old.line) old new (Ok answer) → w ≡ record v { line = new.line; held = record_on new.changes new.line.text } → w ≡ value_with_edit (by edit) v
edit_is edit v w old new answer same wrote rest =
    rest ∙ ap (λ l. record v { line = l; held = record_on new.changes new.line.text }) (wrote.writes.line ∙ ap (λ (x : Written). (by edit x).line) same)
    ∙ ap (λ x. record v { line = (by edit (line_and_record_of v)).line; held = x }) (wrote.writes.held ∙ ap (λ (x : Written). (by edit x).held) same)

-- the second one behind an edit of the line
abbrev behind_edit : Transition → Value → WriteSteps ⊤ → Value → Setting → Effect
behind_edit second stands edit w s = record { value = (second s w).value; steps = Edits stands edit ∷ (second s w).steps }

module _ {Out H Hi K T : Type 0} {renderer : renderers.Renderer.Ghosts Out} {completer : completions.Completer.Ghosts H K} {candidate : completions.Candidate.Ghosts K}
    {hinter : hints.Hinter.Ghosts H T} {hint : hints.Hint.Ghosts T} {highlighter : highlights.Highlighter.Ghosts H} {validator : verdicts.Validator.Ghosts H} {history : histories.History.Ghosts Hi} where
  -- it was made, and then the second one
  pub edit_then : {A B E : Type 0} (whole second : Transition) (edit : Line → WriteSteps A) (stands : Value) (s m t : State Out H Hi K T renderer completer candidate hinter hint highlighter validator history)
      (old new : RecordedLine) (answer : A) (result : Result B ReadlineError) → then_do (edit_effect edit) second (setting_of s) stands ≡ whole (setting_of s) (value_of s)
      → line_and_record_in old ≡ line_and_record_of stands → EditsRecorded {E = E} (edit old.line) old new (Ok answer) → value_of m ≡ record stands { line = new.line; held = record_on new.changes new.line.text }
      → surface_of m ≡ surface_of s → Stays s m → Does second m t result → Does whole s t result
  edit_then whole second edit stands s m t old new answer result is same wrote rest surface stays done =
      let steps : WriteSteps ⊤ = with_answer tt (edit stands.line) in
      let first : Transition = λ a v. record { value = value_of m; steps = Edits stands steps ∷ [] } in
      does_as (then_do first second) whole s t result
      (ap (λ w. behind_edit second stands steps w (setting_of s)) (edit_is edit stands (value_of m) old new answer same wrote rest) ∙ is)
      (does_both first second s m t answer result (edit_made first stands steps s m answer refl surface stays) done)

  -- memory ran out for it
  pub edit_refused : {A B E : Type 0} (whole second : Transition) (edit : Line → WriteSteps A) (stands : Value) (s t : State Out H Hi K T renderer completer candidate hinter hint highlighter validator history)
      (old : RecordedLine) (result : Result B ReadlineError) (fault : E) → IsErrAnd result (λ x. x ≡ Memory) → then_do (edit_effect edit) second (setting_of s) stands ≡ whole (setting_of s) (value_of s)
      → line_and_record_in old ≡ line_and_record_of stands → EditsRecorded {A = A} (edit old.line) old t.recorded (Err fault) → value_of t ≡ record stands { line = (value_of t).line; held = (value_of t).held }
      → surface_of t ≡ surface_of s → Stays s t → Does whole s t result
  edit_refused {A} {B} whole second edit stands s t old result fault failed is same wrote rest surface stays =
      let canvas = renderer.canvas in
      let steps : WriteSteps ⊤ = with_answer tt (edit stands.line) in
      subst (λ r. Does {A = B} whole s t r) (sym (is_err Memory result failed))
      (does_refused whole s t Memory stays tt
      (subst (λ (e : Effect). CutEditSteps canvas (canvas.ruler s.out) e.steps (surface_of s) Memory (value_of t) (surface_of t)) is
      (stops_editing canvas (canvas.ruler s.out) stands steps (second (setting_of s) (value_with_edit (by edit) stands)).steps (surface_of s) (surface_of t) Memory (value_of t) refl surface rest
      (subst (λ (x : Written). CutAlong (edit x.line).steps x (line_and_record_of (value_of t))) same wrote.left))))

  -- what follows a change is made if there was one
  pub drawn_if : {A : Type 0} (edit : Transition) (b : Bool) (s t : State Out H Hi K T renderer completer candidate hinter hint highlighter validator history) (result : Result A ReadlineError)
      → b ≡ true → Does edit s t result → Does (effect_if b edit) s t result
  drawn_if {A} edit b s t result is h = subst (λ x. Does {A = A} (effect_if x edit) s t result) (sym is) (does_as edit (effect_if true edit) s t result refl h)

  pub undrawn_if : {A : Type 0} (edit : Transition) (b : Bool) (s : State Out H Hi K T renderer completer candidate hinter hint highlighter validator history) (x : A) → b ≡ false → Does (effect_if b edit) s s (Ok x)
  undrawn_if {A} edit b s x is =
      subst (λ y. Does {A = A} (effect_if y edit) s s (Ok x)) (sym is) (record { value = refl; calls = refl; layout = refl; stays = stays_same s; reason = tt; stops = tt })

  -- the line is drawn from a place on, if it may be drawn so
  pub drawn_since_if : {A : Type 0} (from stays : Option Since) (b : Bool) (s t : State Out H Hi K T renderer completer candidate hinter hint highlighter validator history) (result : Result A ReadlineError)
      → from ≡ stays → b ≡ true → Does (refresh_effect_since from) s t result → Does (effect_if b (refresh_effect_since stays)) s t result
  drawn_since_if {A} from stays b s t result at is h = subst (λ f. Does {A = A} (effect_if b (refresh_effect_since f)) s t result) at (drawn_if (refresh_effect_since from) b s t result is h)

  -- it was made, and nothing follows
  edit_alone : {A B E : Type 0} (whole : Transition) (edit : Line → WriteSteps A) (s t : State Out H Hi K T renderer completer candidate hinter hint highlighter validator history) (answer : A) (x : B)
      → no_effect (setting_of s) (value_with_edit (by edit) (value_of s)) ≡ whole (setting_of s) (value_of s) → EditsRecorded {E = E} (edit s.recorded.line) s.recorded t.recorded (Ok answer)
      → value_of t ≡ record (value_of s) { line = t.recorded.line; held = record_on t.recorded.changes t.recorded.line.text } → surface_of t ≡ surface_of s → Stays s t → Does whole s t (Ok x)
  edit_alone whole edit s t answer x is wrote rest surface stays =
      let value = edit_is edit (value_of s) (value_of t) s.recorded t.recorded answer refl wrote rest in
      let out = sym (ap (λ (u : Surface Out). u.out) surface) in
      does_as (λ a v. no_effect a (value_with_edit (by edit) v)) whole s t (Ok x) is
      (record { value = value; calls = out; layout = ap (λ (u : Surface Out). u.layout) surface; stays = stays; reason = tt; stops = tt })

  pub nothing_typed : {B E : Type 0} (c n : ℕ) (s t : State Out H Hi K T renderer completer candidate hinter hint highlighter validator history) (answer : Option Bool) (x : B) → is_some answer ≡ false
      → EditsRecorded {E = E} (char_steps c n s.recorded.line) s.recorded t.recorded (Ok answer)
      → value_of t ≡ record (value_of s) { line = t.recorded.line; held = record_on t.recorded.changes t.recorded.line.text } → surface_of t ≡ surface_of s → Stays s t → Does (insert_char c n) s t (Ok x)
  nothing_typed c n s t answer x none wrote rest surface stays =
      edit_alone (insert_char c n) (char_steps c n) s t answer x (nothing_put c n (setting_of s) (value_of s) (ap is_some (sym wrote.writes.answers) ∙ none)) wrote rest surface stays

  -- what was taken is shown by how much it was
  pub taken_by : {A : Type 0} (count : ℕ) (alone inside : Bool) (last : Option ℕ) (way : Way) (from : Option Since) (before : Value) (l : Line) (s t : State Out H Hi K T renderer completer candidate hinter hint highlighter validator history) (result : Result A ReadlineError)
      → count ≡ length before.line.text - length s.recorded.line.text → alone ≡ may_be_taken (drop (length l.text) before.line.text) before
      → inside ≡ may_be_taken_out (setting_of s).config.partial_redraw (text_gone before.line l) before → last ≡ last_of_bare (setting_of s).config.partial_redraw before → s.recorded.line ≡ l
      → way ≡ way_by alone inside last count s.recorded.line → from ≡ since (setting_of s) l.place before
      → Does (show_killed_effect count way from) s t result → Does (show_taken before) s t result
  taken_by count alone inside last way from before l s t result is shown moved ends left by at h =
      let m = s.recorded.line in
      let way_is : way ≡ kill_way (setting_of s) before m = rw (by, shown, moved, ends, is, ← left, some_gone (length before.line.text) (length m.text)) in
      does_as (show_killed_effect count way from) (show_taken before) s t result (rw (way_is, is, at, ← left)) h
