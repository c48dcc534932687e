-- Steps of which the first ones were made, and a fault.
use Rattle.std.proofs.Common.{◌≡◌, ℕ, Bool, true, false, true≢false, List, [], ◌∷◌, ◌++◌, refl, sym, ap, subst, ◌∙◌, inl, inr, append_assoc}
use Rattle.std.specs.Prelude.{⊤, Option, Some, None, is_some, Result, Ok, Err, IfErr, IsFalse, IsSomeAnd}
use Rattle.std.specs.List.{FoldsTo}
use Rattle.line_buffer.specs.declared.layout.Layout.{Layout}
use Rattle.line_config.specs.declared.errors.ReadlineError.{ReadlineError, TheVariants.Display, TheVariants.Helper, TheVariants.Memory}
use Rattle.line_edits.specs.WriteSteps.{WriteSteps, CutAlong, group_opened}
use Rattle.line_keys.specs.Replies.{Reply, fails}
use Rattle.line_editor.specs.RenderCalls.{Call, Canvas, Marks, Ruler, MadeIn, CutCall, CutCalls, Call.Help}
use Rattle.line_editor.specs.Completing.{updates}
use Rattle.line_editor.specs.Redraws.{Redraw, RedrawCalls, calls_of_redraw, then_asked}
use Rattle.line_editor.specs.States.{fails_by}
use Rattle.line_editor.specs.EditSteps.{one, calls_of_steps, Surface, surface, CutHelp, UndonePartly, CutEditSteps, CallsMade}
use Rattle.line_editor.specs.Values.{Value, EditStep, line_and_record_of, value_with_edit, help_steps, shown_marks, EditStep.Draws, EditStep.Edits, EditStep.TakesBack, EditStep.Takes}

-- a fault of a hook that is called
abbrev pub IsHelpFault : {A : Type 0} → Option (Reply A) → ReadlineError → Type 0
IsHelpFault reply why = IsSomeAnd reply (λ r. CutHelp (fails r) r.takes why)

-- ---- calls

-- what a renderer does
abbrev pub draws : Call → Bool
draws (Help fails) = false
draws call = true

refused_by : {R : Type 0} (canvas : Canvas R) (call : Call) (old new : R) → draws call ≡ true → canvas.refused old call new → CutCall canvas old call new
refused_by canvas (Help fails) old new is h = absurd (true≢false (sym is))
refused_by canvas _ old new is h = h

-- the first one failed
pub broken_refused : {R : Type 0} (canvas : Canvas R) (call : Call) (calls : List Call) (old new : R) → draws call ≡ true → canvas.refused old call new → CutCalls canvas (call ∷ calls) old new
unfolding CutCalls
broken_refused canvas call calls old new is h = inl (refused_by canvas call old new is h)

pub folds_both : {R : Type 0} (made : R → Call → R → Type 0) (calls more : List Call) (old between new : R) → FoldsTo made old calls between → FoldsTo made between more new
    → FoldsTo made old (calls ++ more) new
folds_both made [] more old between new h k = subst (λ x. FoldsTo made x more new) (sym h) k
folds_both made (call ∷ calls) more old between new h k = (h.0, h.1, folds_both made calls more h.0 between new h.2 k)

pub folds_apart : {R : Type 0} (made : R → Call → R → Type 0) (calls more : List Call) (old new : R) → FoldsTo made old (calls ++ more) new
    → (between : R) × FoldsTo made old calls between × FoldsTo made between more new
folds_apart made [] more old new h = (old, refl, h)
folds_apart made (call ∷ calls) more old new h =
    let parts = folds_apart made calls more h.0 new h.2 in
    (parts.0, (h.0, h.1, parts.1), parts.2)

asked_joined : (a : RedrawCalls) (b : RedrawCalls) (c : RedrawCalls) → then_asked a (then_asked b c) ≡ then_asked (then_asked a b) c
asked_joined a b c = ap (λ calls. record { calls = calls; layout = c.layout }) (sym (append_assoc a.calls b.calls c.calls))

-- steps after others are asked on the layout that those leave
pub asked_both : (r : Ruler) (l : Layout) (xs ys : List EditStep) → calls_of_steps r l (xs ++ ys) ≡ then_asked (calls_of_steps r l xs) (calls_of_steps r (calls_of_steps r l xs).layout ys)
asked_both r l [] ys = refl
asked_both r l (x ∷ xs) ys = ap (then_asked (one r l x)) (asked_both r (one r l x).layout xs ys) ∙ asked_joined (one r l x) (calls_of_steps r (one r l x).layout xs) _

-- ---- a hook that was asked

pub help_made : {R A : Type 0} (canvas : Canvas R) (r : Ruler) (l : Layout) (v : Value) (reply : Option (Reply A)) (old new : R) → IsFalse (fails_by reply) → new ≡ old
    → FoldsTo (MadeIn canvas) old (calls_of_steps r l (help_steps v reply)).calls new
help_made canvas r l v None old new works same = sym same
help_made canvas r l v (Some reply) old new works same = (old, (works, refl), sym same)

pub help_layout : {A : Type 0} (r : Ruler) (l : Layout) (v : Value) (reply : Option (Reply A)) → (calls_of_steps r l (help_steps v reply)).layout ≡ l
help_layout r l v None = refl
help_layout r l v (Some reply) = refl

-- ---- where steps stop

module _ {R : Type 0} (canvas : Canvas R) (r : Ruler) where
  -- nowhere if there are none
  pub never_stops : {Z : Type 0} (fault : ReadlineError) (v : Value) (old new : Surface R) → CutEditSteps canvas r [] old fault v new → Z
  unfolding CutEditSteps
  never_stops fault v old new h = absurd h

  -- at a drawing
  pub stops_drawing : (stands : Value) (marks : Option Marks) (x : Redraw) (more : List EditStep) (old new : Surface R) (fault : ReadlineError) (v : Value)
      → fault ≡ Display → CutCalls canvas (calls_of_redraw r (shown_marks stands marks) old.layout x).calls old.out new.out → new.layout ≡ old.layout → v ≡ stands
      → CutEditSteps canvas r (Draws stands marks x ∷ more) old fault v new
  unfolding CutEditSteps
  stops_drawing stands marks x more old new fault v is broken layout value = inr (is, broken, layout, value)

  -- another drawing asks the same
  pub stops_drawn_as : (stands : Value) (marks : Option Marks) (x y : Redraw) (old new : Surface R) (fault : ReadlineError) (v : Value)
      → calls_of_redraw r (shown_marks stands marks) old.layout x ≡ calls_of_redraw r (shown_marks stands marks) old.layout y → CutEditSteps canvas r (Draws stands marks x ∷ []) old fault v new → CutEditSteps canvas r (Draws stands marks y ∷ []) old fault v new
  unfolding CutEditSteps
  stops_drawn_as stands marks x y old new fault v same (inl (between, made, h)) = absurd h
  stops_drawn_as stands marks x y old new fault v same (inr (is, broken, layout, value)) =
      inr (is, subst (λ (a : RedrawCalls). CutCalls canvas a.calls old.out new.out) same broken, layout, value)

  -- at an edit of the line
  pub stops_editing : (stands : Value) (edit : WriteSteps ⊤) (more : List EditStep) (old new : Surface R) (fault : ReadlineError) (v : Value)
      → fault ≡ Memory → new ≡ old → v ≡ record stands { line = v.line; held = v.held } → CutAlong edit.steps (line_and_record_of stands) (line_and_record_of v) → CutEditSteps canvas r (Edits stands edit ∷ more) old fault v new
  unfolding CutEditSteps
  stops_editing stands edit more old new fault v is same value left = inr (is, same, value, left)

  -- if changes are undone
  pub stops_taking_back : (stands : Value) (count : ℕ) (more : List EditStep) (old new : Surface R) (fault : ReadlineError) (v : Value)
      → fault ≡ Memory → new ≡ old → UndonePartly count stands v → CutEditSteps canvas r (TakesBack stands count ∷ more) old fault v new
  unfolding CutEditSteps
  stops_taking_back stands count more old new fault v is same part = inr (is, same, part)

  pub stops_taking : (stands : Value) (more : List EditStep) (old new : Surface R) (fault : ReadlineError) (v : Value)
      → fault ≡ Memory → new ≡ old → v ≡ stands → CutEditSteps canvas r (Takes stands ∷ more) old fault v new
  unfolding CutEditSteps
  stops_taking stands more old new fault v is same value = inr (is, same, value)

  unhelped_by : {A : Type 0} (reply : Reply A) (fault : ReadlineError) → IsHelpFault (Some reply) fault → CutHelp (fails reply) reply.takes fault
  unhelped_by reply Helper why = why
  unhelped_by reply Memory why = why
  unhelped_by reply _ why = absurd why

  -- a hook was asked
  pub stops_asking : {A : Type 0} (stands : Value) (reply : Option (Reply A)) (old new : Surface R) (fault : ReadlineError) (v : Value)
      → IsHelpFault reply fault → new ≡ old → v ≡ stands → CutEditSteps canvas r (help_steps stands reply) old fault v new
  unfolding CutEditSteps
  stops_asking stands None old new fault v why same value = absurd why
  stops_asking stands (Some reply) old new fault v why same value = inr (unhelped_by reply fault why, same, value)

  -- behind a step that was made
  pub stops_after : (step : EditStep) (more : List EditStep) (old between new : Surface R) (fault : ReadlineError) (v : Value)
      → CallsMade canvas (one r old.layout step) old between → CutEditSteps canvas r more between fault v new → CutEditSteps canvas r (step ∷ more) old fault v new
  unfolding CutEditSteps
  stops_after step more old between new fault v made h = inl (between, made, h)

  -- memory ran out for a mark, before a hook was called for an edit
  pub stops_marking : (stands : Value) (reply : Option (Reply ⊤)) (old new : Surface R) (fault : ReadlineError) (v : Value)
      → is_some reply ≡ true → fault ≡ Memory → new ≡ old → v ≡ stands → CutEditSteps canvas r (updates reply stands) old fault v new
  stops_marking stands None old new fault v some is same value = absurd (true≢false (sym some))
  stops_marking stands (Some reply) old new fault v some is same value = stops_taking stands (help_steps (value_with_edit group_opened stands) (Some reply)) old new fault v is same value

  -- it was asked, behind that mark
  pub stops_updating : (stands : Value) (reply : Option (Reply ⊤)) (old new : Surface R) (fault : ReadlineError) (v : Value)
      → IsHelpFault reply fault → new ≡ old → v ≡ value_with_edit group_opened stands → CutEditSteps canvas r (updates reply stands) old fault v new
  stops_updating stands None old new fault v why same value = absurd why
  stops_updating stands (Some reply) old new fault v why same value =
      let marked : Value = value_with_edit group_opened stands in
      stops_after (Takes stands) (help_steps marked (Some reply)) old old new fault v (refl, refl) (stops_asking marked (Some reply) old new fault v why same value)

  -- behind an edit of the line
  pub stops_edited : {A : Type 0} (stands : Value) (edit : WriteSteps ⊤) (more : List EditStep) (old new : Surface R) (v : Value) (result : Result A ReadlineError)
      → IfErr result (λ fault. CutEditSteps canvas r more old fault v new) → IfErr result (λ fault. CutEditSteps canvas r (Edits stands edit ∷ more) old fault v new)
  stops_edited stands edit more old new v (Ok x) h = tt
  stops_edited stands edit more old new v (Err fault) h = stops_after (Edits stands edit) more old old new fault v (refl, refl) h

  -- after changes that were undone
  pub stops_taken_back : {A : Type 0} (stands : Value) (count : ℕ) (more : List EditStep) (old new : Surface R) (v : Value) (result : Result A ReadlineError)
      → IfErr result (λ fault. CutEditSteps canvas r more old fault v new) → IfErr result (λ fault. CutEditSteps canvas r (TakesBack stands count ∷ more) old fault v new)
  stops_taken_back stands count more old new v (Ok x) h = tt
  stops_taken_back stands count more old new v (Err fault) h = stops_after (TakesBack stands count) more old old new fault v (refl, refl) h

  -- more follow them
  pub stops_before : (xs ys : List EditStep) (old new : Surface R) (fault : ReadlineError) (v : Value) → CutEditSteps canvas r xs old fault v new → CutEditSteps canvas r (xs ++ ys) old fault v new
  unfolding CutEditSteps
  stops_before [] ys old new fault v h = absurd h
  stops_before (x ∷ xs) ys old new fault v (inl (between, made, h)) = inl (between, made, stops_before xs ys between new fault v h)
  stops_before (x ∷ xs) ys old new fault v (inr h) = inr h

  pub stops_first : (step : EditStep) (more : List EditStep) (old new : Surface R) (fault : ReadlineError) (v : Value)
      → CutEditSteps canvas r (step ∷ []) old fault v new → CutEditSteps canvas r (step ∷ more) old fault v new
  stops_first step more old new fault v h = stops_before (step ∷ []) more old new fault v h

  -- those before them were made
  pub stops_behind : (xs ys : List EditStep) (l : Layout) (old out : R) (new : Surface R) (fault : ReadlineError) (v : Value)
      → FoldsTo (MadeIn canvas) old (calls_of_steps r l xs).calls out → CutEditSteps canvas r ys (surface out (calls_of_steps r l xs).layout) fault v new → CutEditSteps canvas r (xs ++ ys) (surface old l) fault v new
  stops_behind [] ys l old out new fault v made h = subst (λ x. CutEditSteps canvas r ys (surface x l) fault v new) (sym made) h
  stops_behind (x ∷ xs) ys l old out new fault v made h =
      let parts = folds_apart (MadeIn canvas) (one r l x).calls (calls_of_steps r (one r l x).layout xs).calls old out made in
      let between : Surface R = surface parts.0 (one r l x).layout in
      stops_after x (xs ++ ys) (surface old l) between new fault v (parts.1, refl) (stops_behind xs ys (one r l x).layout parts.0 out new fault v parts.2 h)

-- a recalled entry takes memory twice
pub ruleset recalls_stop = (stops_editing, stops_taking, stops_first, stops_edited)
