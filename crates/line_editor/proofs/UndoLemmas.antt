-- Undoing all items of a record gives the text that it reaches.
use Rattle.std.proofs.Common.{◌≡◌, ℕ, zero, suc, ◌≤◌, max, Bool, true, false, List, [], ◌∷◌, length, drop, Ok, refl, sym, ap, subst, arith, ◌∙◌, if◌then◌else◌}
use Rattle.std.specs.Prelude.{Result, IsErrAnd}
use Rattle.line_buffer.specs.Line.{Line}
use Rattle.line_config.specs.declared.errors.ReadlineError.{ReadlineError, TheVariants.Memory}
use Rattle.line_record.specs.Held.{HeldItem, line_back, has_step, HeldItem.Opened, HeldItem.Stepped}
use Rattle.line_record.specs.Items.{Item, Items, CutUndo, items_with_texts, last_changes, no_items, record_on, Item.Open, Item.Lone, Item.Group}
use Rattle.line_edits.specs.Edits.{after_undo}
use Rattle.line_editor.specs.Leads.{Reaches}
use Rattle.line_help.specs.declared.completion as completions
use Rattle.line_help.specs.declared.helpers.hint as hints
use Rattle.line_help.specs.declared.helpers.highlight as highlights
use Rattle.line_help.specs.declared.helpers.validate as verdicts
use Rattle.line_help.specs.declared.history as histories
use Rattle.line_editor.specs.Drawing.{refresh_effect}
use Rattle.line_editor.specs.Transforms.{undo_effect, undo}
use Rattle.line_editor.specs.States.{value_of, setting_of, surface_of, Stays, Does}
use Rattle.line_editor.specs.EditSteps.{UndonePartly, CutEditSteps}
use Rattle.line_editor.specs.Returns.{UndoReaches}
use Rattle.line_editor.specs.Values.{Value, Setting, then_do, value_with_edit, Transition}
use Rattle.line_editor.specs.declared.renderer as renderers
use Rattle.line_editor.specs.declared.state.State.{State}
use Rattle.line_editor.proofs.DoesLemmas.{does_as, is_err, does_refused}
use Rattle.line_editor.proofs.ReachLemmas.{undo_reached}
use Rattle.line_editor.proofs.StopsLemmas.{stops_taking_back}
use Rattle.line_editor.specs.Values.EditStep.{TakesBack}

abbrev unmark_effect : ℕ → Transition
unmark_effect n s v = record { value = record v { held = drop (max n 1) v.held }; steps = TakesBack v (max n 1) ∷ [] }

all_back : (n : ℕ) (held : List HeldItem) (l : Line) (first : List ℕ) → length held ≤ n → Reaches first held l.text → (line_back n held l).text ≡ first
all_back zero [] l first h r = r
all_back (suc n) [] l first h r = r
all_back zero (x ∷ held) l first h r = absurd (omega (arith, h))
all_back (suc n) (Opened earlier ∷ held) l first h r = all_back n held (record l { text = earlier }) first (omega (arith, h)) r.1
all_back (suc n) (Stepped earlier place newest joinable ∷ held) l first h r = all_back n held (record l { text = earlier; place = place }) first (omega (arith, h)) r

-- marks alone leave the line
pub line_rests : (n : ℕ) (held : List HeldItem) (l : Line) (first : List ℕ) → Reaches first held l.text → has_step n held ≡ false → line_back n held l ≡ l
line_rests zero held l first r h = refl
line_rests (suc n) [] l first r h = refl
line_rests (suc n) (Opened earlier ∷ held) l first r h =
    line_rests n held (record l { text = earlier }) first r.1 h ∙ ap (λ text. record l { text = text }) (sym r.0)
line_rests (suc n) (Stepped earlier place newest joinable ∷ held) l first r h = cc

text_by : (n : ℕ) (s : Setting) (v : Value) (b : Bool) (text : List ℕ) → (b ≡ true → (value_with_edit (after_undo n) v).line.text ≡ text) → (b ≡ false → v.line.text ≡ text)
    → (if b then then_do (undo_effect n) refresh_effect s v else unmark_effect n s v).value.line.text ≡ text
text_by n s v true text h k = h refl
text_by n s v false text h k = k refl

pub undo_reaches : UndoReaches
undo_reaches s m v n first r h =
    let back = all_back (max n 1) v.held v.line first (omega (arith, h)) r in
    text_by n s v (has_step (max n 1) v.held) first (λ e. back) (λ e. ap (λ (l : Line). l.text) (sym (line_rests (max n 1) v.held v.line first r e)) ∙ back)

pub unmade_reached : (n : ℕ) (s : Setting) (v : Value) (first : List ℕ) → Reaches first v.held v.line.text → (let w = (undo n s v).value in Reaches first w.held w.line.text)
unmade_reached n s v first r = by_step (has_step (max n 1) v.held) refl
  where
    back : Reaches first (drop (max n 1) v.held) (line_back (max n 1) v.held v.line).text
    back = undo_reached (max n 1) first v.held v.line r

    by_step : (b : Bool) → has_step (max n 1) v.held ≡ b
        → (let w = (if b then then_do (undo_effect n) refresh_effect s v else unmark_effect n s v).value in Reaches first w.held w.line.text)
    by_step true e = back
    by_step false e = subst (λ (l : Line). Reaches first (drop (max n 1) v.held) l.text) (line_rests (max n 1) v.held v.line first r e) back

-- the same of a record that stands on the line's text
pub items_rest : (n : ℕ) (items : List Item) (l : Line) → has_step n (items_with_texts items l.text) ≡ false → line_back n (items_with_texts items l.text) l ≡ l
items_rest zero items l h = refl
items_rest (suc n) [] l h = refl
items_rest (suc n) (Open ∷ items) l h = items_rest n items l h
items_rest (suc n) (Lone change ∷ items) l h = cc
items_rest (suc n) (Group oldest newer ∷ items) l h = cc

-- the newest of the changes were undone, but not the first of them; and the record is empty
abbrev pub CutUndoItems : ℕ → Line → Line → Items → Items → Type 0
CutUndoItems n before after old new = CutUndo (last_changes (max n 1) old.done) before after × (new ≡ no_items)

module _ {Out H Hi K T : Type 0} {renderer : renderers.Renderer.Ghosts Out} {completer : completions.Completer.Ghosts H K} {candidate : completions.Candidate.Ghosts K}
    {hinter : hints.Hinter.Ghosts H T} {hint : hints.Hint.Ghosts T} {highlighter : highlights.Highlighter.Ghosts H} {validator : verdicts.Validator.Ghosts H} {history : histories.History.Ghosts Hi} where
  -- if memory ran out nothing is drawn
  undo_stops : (n : ℕ) (s t : State Out H Hi K T renderer completer candidate hinter hint highlighter validator history) (b : Bool)
      → UndonePartly (max n 1) (value_of s) (value_of t) → surface_of t ≡ surface_of s
      → CutEditSteps renderer.canvas (renderer.canvas.ruler s.out) (if b then then_do (undo_effect n) refresh_effect (setting_of s) (value_of s) else unmark_effect n (setting_of s) (value_of s)).steps (surface_of s) Memory (value_of t) (surface_of t)
  undo_stops n s t true part same = stops_taking_back renderer.canvas (renderer.canvas.ruler s.out) (value_of s) (max n 1) _ (surface_of s) (surface_of t) Memory (value_of t) refl same part
  undo_stops n s t false part same = stops_taking_back renderer.canvas (renderer.canvas.ruler s.out) (value_of s) (max n 1) _ (surface_of s) (surface_of t) Memory (value_of t) refl same part

  -- what it leaves
  pub undone_partly : (n : ℕ) (s t : State Out H Hi K T renderer completer candidate hinter hint highlighter validator history) → CutUndoItems n s.recorded.line t.recorded.line s.recorded.changes t.recorded.changes
      → value_of t ≡ record (value_of s) { line = t.recorded.line; held = record_on t.recorded.changes t.recorded.line.text } → UndonePartly (max n 1) (value_of s) (value_of t)
  undone_partly n s t part left = record {
    items = s.recorded.changes.done;
    stand = s.recorded.stand.0;
    held = refl;
    line = part.0;
    beside = left ∙ ap (λ k. record (value_of s) { line = t.recorded.line; held = record_on k t.recorded.line.text }) part.1;
  }

  pub undo_refused : {A : Type 0} (n : ℕ) (s t : State Out H Hi K T renderer completer candidate hinter hint highlighter validator history) (result : Result A ReadlineError)
      → IsErrAnd result (λ e. e ≡ Memory) → CutUndoItems n s.recorded.line t.recorded.line s.recorded.changes t.recorded.changes
      → value_of t ≡ record (value_of s) { line = t.recorded.line; held = record_on t.recorded.changes t.recorded.line.text }
      → surface_of t ≡ surface_of s → Stays s t → Does (undo n) s t result
  undo_refused {A} n s t result is part left same stays = subst (λ (r : Result A ReadlineError). Does {A = A} (undo n) s t r) (sym (is_err Memory result is))
      (does_refused (undo n) s t Memory stays tt (undo_stops n s t (has_step (max n 1) (value_of s).held) (undone_partly n s t part left) same))

  -- if only marks are undone nothing is drawn
  pub unmade_does : {A : Type 0} (n : ℕ) (s t : State Out H Hi K T renderer completer candidate hinter hint highlighter validator history) (x : A)
      → has_step (max n 1) (record_on s.recorded.changes s.recorded.line.text) ≡ false
      → t.recorded.line ≡ line_back (max n 1) (record_on s.recorded.changes s.recorded.line.text) s.recorded.line
      → record_on t.recorded.changes t.recorded.line.text ≡ drop (max n 1) (record_on s.recorded.changes s.recorded.line.text)
      → value_of t ≡ record (value_of s) { line = t.recorded.line; held = record_on t.recorded.changes t.recorded.line.text }
      → s.out ≡ t.out → t.layout ≡ s.layout → Stays s t → Does (undo n) s t (Ok x)
  unmade_does n s t x none line held rest out layout stays =
      let v = value_of s in
      let same : t.recorded.line ≡ v.line = line ∙ items_rest (max n 1) s.recorded.changes.done s.recorded.line none in
      let quiet : unmark_effect n (setting_of s) v ≡ undo n (setting_of s) v = rw none in
      let value = rest ∙ ap (λ l. record v { line = l; held = record_on t.recorded.changes t.recorded.line.text }) same ∙ ap (λ h. record v { line = v.line; held = h }) held in
      does_as (unmark_effect n) (undo n) s t (Ok x) quiet (record { value = value; calls = out; layout = layout; stays = stays; reason = tt; stops = tt })
