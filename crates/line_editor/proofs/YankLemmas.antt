-- A text put in, and what is drawn then.
use Rattle.std.proofs.Common.{◌≡◌, ℕ, ◌||◌, Bool, true, false, List, [], ◌∷◌, refl, sym, ap, ◌∙◌, if◌then◌else◌}
use Rattle.std.specs.Prelude.{⊤, Option, is_some, Result, Ok, Err, IsErrAnd}
use Rattle.line_buffer.specs.Insertions.{yank as yanked_in}
use Rattle.line_buffer.specs.Line.{Line}
use Rattle.line_buffer.specs.declared.types.Anchor.{Anchor}
use Rattle.line_config.specs.declared.errors.ReadlineError.{ReadlineError, TheVariants.Memory}
use Rattle.line_edits.specs.Edits.{yank_steps, by}
use Rattle.line_edits.specs.WriteSteps.{WriteSteps, with_answer, Edits as EditsRecorded, Written, line_and_record, line_and_record_in}
use Rattle.line_edits.specs.declared.recorded_line.RecordedLine.{RecordedLine}
use Rattle.line_record.specs.Items.{record_on}
use Rattle.line_help.specs.declared.completion as completions
use Rattle.line_help.specs.declared.helpers.hint as hints
use Rattle.line_help.specs.declared.helpers.highlight as highlights
use Rattle.line_help.specs.declared.helpers.validate as verdicts
use Rattle.line_help.specs.declared.history as histories
use Rattle.line_editor.specs.Drawing.{Since, since, refresh_effect_since}
use Rattle.line_editor.specs.States.{value_of, setting_of, surface_of, Stays, Does}
use Rattle.line_editor.specs.Values.{Value, Setting, Effect, Transition, then_do, no_effect, value_with_edit, line_and_record_of, at_line}
use Rattle.line_editor.specs.Values.EditStep.{Edits}
use Rattle.line_editor.specs.Yanking.{line_at_anchor, steps_over, behind_yank, value_after_yank, yank_effect, yank_text}
use Rattle.line_editor.specs.declared.renderer as renderers
use Rattle.line_editor.specs.declared.state.State.{State}
use Rattle.line_editor.proofs.DoesLemmas.{does_as, does_both, edit_made}
use Rattle.line_editor.proofs.EditLemmas.{edit_is, edit_refused}

-- ---- a text put into a line

-- whether it was put in
pub is_put : {E : Type 0} (b : Bool) (text : List ℕ) (n : ℕ) (v : Value) (old new : RecordedLine) (put : Option Bool) → line_and_record_in old ≡ line_and_record_of v
    → EditsRecorded {E = E} (yank_steps text n old.line) old new (Ok put) → is_some put ≡ b → is_some (yanked_in text n v.line).answer ≡ b
is_put b text n v old new put same wrote found = ap (λ (w : Written). is_some (yanked_in text n w.line).answer) (sym same) ∙ ap is_some (sym wrote.writes.answers) ∙ found

-- the line is drawn behind an edit of it
abbrev drawn_behind_edit : Option Since → Value → WriteSteps ⊤ → Value → Setting → Effect
drawn_behind_edit from stands edit w s = record { value = (refresh_effect_since from s w).value; steps = Edits stands edit ∷ (refresh_effect_since from s w).steps }

module _ {Out H Hi K T : Type 0} {renderer : renderers.Renderer.Ghosts Out} {completer : completions.Completer.Ghosts H K} {candidate : completions.Candidate.Ghosts K}
    {hinter : hints.Hinter.Ghosts H T} {hint : hints.Hint.Ghosts T} {highlighter : highlights.Highlighter.Ghosts H} {validator : verdicts.Validator.Ghosts H} {history : histories.History.Ghosts Hi} where
  put_drawn : {A : Type 0} (from : Option Since) (whole : Transition) (stands : Value) (edit : WriteSteps ⊤) (s m t : State Out H Hi K T renderer completer candidate hinter hint highlighter validator history) (result : Result A ReadlineError)
      → drawn_behind_edit from stands edit (value_of m) (setting_of s) ≡ whole (setting_of s) (value_of s) → surface_of m ≡ surface_of s → Stays s m → Does (refresh_effect_since from) m t result → Does whole s t result
  put_drawn from whole stands edit s m t result is surface stays done =
      let first : Transition = λ a v. record { value = value_of m; steps = Edits stands edit ∷ [] } in
      does_as (then_do first (refresh_effect_since from)) whole s t result is (does_both first (refresh_effect_since from) s m t (tt {0}) result (edit_made first stands edit s m (tt {0}) refl surface stays) done)

-- ---- a yank

-- where it goes
abbrev there : Anchor → Value → Value
there anchor v = at_line (line_at_anchor anchor v.line) v

-- up to there the line stays
abbrev up_to : Anchor → Setting → Value → Option Since
up_to anchor s v = since s (there anchor v).line.place v

yank_is : (b vi : Bool) (text : List ℕ) (anchor : Anchor) (n : ℕ) (s : Setting) (v : Value) → (is_some (yanked_in text n (there anchor v).line).answer || steps_over anchor v.line) ≡ b
    → (if b then then_do (yank_effect vi text n) (refresh_effect_since (up_to anchor s v)) s (there anchor v) else no_effect s (value_after_yank vi text n (there anchor v))) ≡ yank_text vi text anchor n s v
yank_is b vi text anchor n s v is = ap (λ c. if c then then_do (yank_effect vi text n) (refresh_effect_since (up_to anchor s v)) s (there anchor v) else no_effect s (value_after_yank vi text n (there anchor v))) (sym is)

yanked_is : {E : Type 0} (vi b : Bool) (text : List ℕ) (n : ℕ) (v w : Value) (old new : RecordedLine) (put : Option Bool) → line_and_record_in old ≡ line_and_record_of v
    → EditsRecorded {E = E} (yank_steps text n old.line) old new (Ok put) → is_some put ≡ b → w ≡ record v { line = w.line; held = record_on new.changes w.line.text }
    → w.line ≡ (if b then behind_yank vi new.line else new.line) → w.line.text ≡ new.line.text → w ≡ value_after_yank vi text n v
yanked_is vi true text n v w old new put same wrote found rest moved kept =
    let u = value_with_edit (by (yank_steps text n)) v in
    rest ∙ ap (λ l. record v { line = l; held = record_on new.changes w.line.text }) moved ∙ ap (λ t. record v { line = behind_yank vi new.line; held = record_on new.changes t }) kept
    ∙ ap (λ (x : Value). at_line (behind_yank vi x.line) x) (edit_is (yank_steps text n) v _ old new put same wrote refl)
    ∙ ap (λ b. if b then at_line (behind_yank vi u.line) u else u) (sym (is_put true text n v old new put same wrote found))
yanked_is vi false text n v w old new put same wrote found rest moved kept =
    let u = value_with_edit (by (yank_steps text n)) v in
    edit_is (yank_steps text n) v w old new put same wrote (rest ∙ ap (λ l. record v { line = l; held = record_on new.changes w.line.text }) moved ∙ ap (λ t. record v { line = new.line; held = record_on new.changes t }) kept)
    ∙ ap (λ b. if b then at_line (behind_yank vi u.line) u else u) (sym (is_put false text n v old new put same wrote found))

module _ {Out H Hi K T : Type 0} {renderer : renderers.Renderer.Ghosts Out} {completer : completions.Completer.Ghosts H K} {candidate : completions.Candidate.Ghosts K}
    {hinter : hints.Hinter.Ghosts H T} {hint : hints.Hint.Ghosts T} {highlighter : highlights.Highlighter.Ghosts H} {validator : verdicts.Validator.Ghosts H} {history : histories.History.Ghosts Hi} where
  pub at_anchor : (anchor : Anchor) (s : State Out H Hi K T renderer completer candidate hinter hint highlighter validator history) (l : Line) → l ≡ line_at_anchor anchor s.recorded.line → l.text ≡ s.recorded.line.text
      → line_and_record l s.recorded.changes ≡ line_and_record_of (there anchor (value_of s))
  at_anchor anchor s l line text =
      ap (λ x. record { line = x; held = record_on s.recorded.changes l.text }) line ∙ ap (λ t. record { line = line_at_anchor anchor s.recorded.line; held = record_on s.recorded.changes t }) text

  -- it was put in, or the cursor went over a cluster: the line is drawn
  pub yank_shown : {A E : Type 0} (mode vi b : Bool) (text : List ℕ) (anchor : Anchor) (n : ℕ) (from : Option Since) (s m t : State Out H Hi K T renderer completer candidate hinter hint highlighter validator history) (old new : RecordedLine) (put : Option Bool)
      (result : Result A ReadlineError) → line_and_record_in old ≡ line_and_record_of (there anchor (value_of s)) → EditsRecorded {E = E} (yank_steps text n old.line) old new (Ok put)
      → is_some put ≡ b → (b || steps_over anchor s.recorded.line) ≡ true → value_of m ≡ record (value_of s) { line = m.recorded.line; held = record_on new.changes m.recorded.line.text }
      → mode ≡ vi → m.recorded.line ≡ (if b then behind_yank mode new.line else new.line) → m.recorded.line.text ≡ new.line.text
      → surface_of m ≡ surface_of s → Stays s m → from ≡ up_to anchor (setting_of s) (value_of s) → Does (refresh_effect_since from) m t result → Does (yank_text vi text anchor n) s t result
  yank_shown mode vi b text anchor n from s m t old new put result same wrote found shows rest in_mode moved kept surface stays at done =
      let v = there anchor (value_of s) in
      let edit = with_answer tt (yank_steps text n v.line) in
      put_drawn from (yank_text vi text anchor n) v edit s m t result
      (ap (λ f. drawn_behind_edit f v edit (value_of m) (setting_of s)) at
      ∙ ap (λ w. drawn_behind_edit (up_to anchor (setting_of s) (value_of s)) v edit w (setting_of s)) (yanked_is vi b text n v (value_of m) old new put same wrote found rest (moved ∙ ap (λ x. if b then behind_yank x new.line else new.line) in_mode) kept)
      ∙ yank_is true vi text anchor n (setting_of s) (value_of s) (ap (λ x. x || steps_over anchor s.recorded.line) (is_put b text n v old new put same wrote found) ∙ shows))
      surface stays done

  -- neither: nothing is drawn
  pub yank_unshown : {A E : Type 0} (vi : Bool) (text : List ℕ) (anchor : Anchor) (n : ℕ) (s t : State Out H Hi K T renderer completer candidate hinter hint highlighter validator history) (old : RecordedLine) (put : Option Bool) (x : A)
      → line_and_record_in old ≡ line_and_record_of (there anchor (value_of s)) → EditsRecorded {E = E} (yank_steps text n old.line) old t.recorded (Ok put) → is_some put ≡ false → steps_over anchor s.recorded.line ≡ false
      → value_of t ≡ record (value_of s) { line = t.recorded.line; held = record_on t.recorded.changes t.recorded.line.text } → s.out ≡ t.out → t.layout ≡ s.layout → Stays s t → Does (yank_text vi text anchor n) s t (Ok x)
  yank_unshown vi text anchor n s t old put x same wrote found rests rest out layout stays =
      let v = there anchor (value_of s) in
      does_as (λ a w. no_effect a (value_after_yank vi text n (there anchor w))) (yank_text vi text anchor n) s t (Ok x)
      (yank_is false vi text anchor n (setting_of s) (value_of s) (ap (λ y. y || steps_over anchor s.recorded.line) (is_put false text n v old t.recorded put same wrote found) ∙ rests))
      (record { value = yanked_is vi false text n v (value_of t) old t.recorded put same wrote found rest refl refl; calls = out; layout = layout; stays = stays; reason = tt; stops = tt })

  -- memory ran out for it
  pub yank_refused : {A E : Type 0} (vi : Bool) (text : List ℕ) (anchor : Anchor) (n : ℕ) (s t : State Out H Hi K T renderer completer candidate hinter hint highlighter validator history) (old : RecordedLine)
      (result : Result A ReadlineError) (fault : E) → IsErrAnd result (λ x. x ≡ Memory) → line_and_record_in old ≡ line_and_record_of (there anchor (value_of s))
      → EditsRecorded {A = Option Bool} (yank_steps text n old.line) old t.recorded (Err fault) → is_some (yanked_in text n old.line).answer ≡ true
      → value_of t ≡ record (there anchor (value_of s)) { line = (value_of t).line; held = (value_of t).held } → surface_of t ≡ surface_of s → Stays s t → Does (yank_text vi text anchor n) s t result
  yank_refused vi text anchor n s t old result fault failed same wrote put rest surface stays =
      let v = there anchor (value_of s) in
      edit_refused (yank_text vi text anchor n) (λ a u. refresh_effect_since (up_to anchor (setting_of s) (value_of s)) a (value_after_yank vi text n v)) (yank_steps text n) v s t old result fault failed
      (yank_is true vi text anchor n (setting_of s) (value_of s)
      (ap (λ x. x || steps_over anchor s.recorded.line) (ap (λ (w : Written). is_some (yanked_in text n w.line).answer) (sym same) ∙ put)))
      same wrote rest surface stays
