-- Worked cases of events and endings at which memory isn't the fault.
use Rattle.std.proofs.Common.{◌≡◌, ℕ, Bool, false, List, [], ◌∷◌, ◌++◌, Option, Result, Err, subst, if◌then◌else◌}
use Rattle.line_config.specs.declared.errors.ReadlineError.{ReadlineError, TheVariants.Memory}
use Rattle.line_editor.specs.RenderCalls.{Marks}
use Rattle.line_editor.specs.LineRun.{breaks_after}
use Rattle.line_editor.specs.Redraws.{Redraw}
use Rattle.line_keys.specs.KeyFeeds.{Key}
use Rattle.line_screen.specs.ScreenCalls.{Screen}
use Rattle.keyline.specs.Events.{SessionEvent, Begins, Draws, Hears, Rests, Breaks, Writes, end_events}
use Rattle.keyline.specs.SessionEffects.{CutSessionEvent, WholeOrCut, Went, Work}

module _ {D L : Type 0} (shown : D → List ℕ) (written_in : L → List ℕ) (adds : Bool) where
  -- after an ending without a new row nothing is left to do, so no fault takes its place
  pub ending_is_its_own : (e : ReadlineError) (x y : Work D L) (r : Result (List ℕ) ReadlineError) → breaks_after e ≡ false
      → Went shown written_in adds (end_events (Err e)) x y (r ≡ Err e) (λ why. r ≡ Err why) → r ≡ Err e
  ending_is_its_own e x y r stays w = by w.done w.others (subst (λ b. (if b then Breaks ∷ [] else []) ≡ w.done ++ w.others) stays w.split) w.stands
    where
      by : (done others : List SessionEvent) → [] ≡ done ++ others → WholeOrCut shown written_in adds others w.at y (r ≡ Err e) (λ why. r ≡ Err why) → r ≡ Err e
      by [] [] split stands = stands.0
      by [] (event ∷ others) split stands = absurd (cc)
      by (event ∷ done) others split stands = absurd (cc)

  -- no memory is taken at a line's beginning, at a drawing, at a key, at a moment, at a new row, and where a line is written
  pub beginnings_take_none : (x y : Work D L) (screen : Screen) → CutSessionEvent shown written_in adds x (Begins screen) Memory y → ⊥
  beginnings_take_none x y screen h = h

  pub drawings_take_none : (x y : Work D L) (marks : Option Marks) (redraw : Redraw) (sent : List (List ℕ)) → CutSessionEvent shown written_in adds x (Draws marks redraw sent) Memory y → ⊥
  drawings_take_none x y marks redraw [] h = h
  drawings_take_none x y marks redraw (bytes ∷ more) h = h

  pub keys_take_none : (x y : Work D L) → CutSessionEvent shown written_in adds x (Hears Key) Memory y → ⊥
  keys_take_none x y h = h

  pub moments_take_none : (x y : Work D L) (marks : Option Marks) (given : Bool) (prompt text : List ℕ) (place : ℕ) → CutSessionEvent shown written_in adds x (Rests marks given prompt text place) Memory y → ⊥
  moments_take_none x y marks given prompt text place h = h

  pub rows_take_none : (x y : Work D L) → CutSessionEvent shown written_in adds x Breaks Memory y → ⊥
  rows_take_none x y h = h

  pub lines_take_none : (x y : Work D L) (line : List ℕ) → CutSessionEvent shown written_in adds x (Writes line) Memory y → ⊥
  lines_take_none x y line h = h
