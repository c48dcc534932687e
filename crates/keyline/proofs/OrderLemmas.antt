-- Each line of a session is written right after it was kept.
use Rattle.std.proofs.Common.{◌≡◌, ℕ, zero, suc, ◌≤◌, true, false, List, [], ◌∷◌, ◌++◌, length, refl, sym, ap, ◌∙◌, subst, append-nil, append_assoc, Result, Ok, Err, arith, flat_map, if◌then◌else◌}
use Rattle.std.proofs.lemmas.Grind.{flat_map-append}
use Rattle.line_config.specs.declared.errors.ReadlineError.{ReadlineError}
use Rattle.line_editor.specs.LineRun.{breaks_after}
use Rattle.line_editor.specs.Redraws.{fresh}
use Rattle.keyline.specs.Events.{SessionEvent, Course, Breaks, Keeps, Writes, LinesInOrder, end_events, events_of, first_in, asks_events, own_events, step_events, course_after_line, line_course, lines_kept, lines_written, line_play_in, session}
use Rattle.keyline.specs.Sessions.{Given, LineGiven, SessionState, for_line, setting_in}
use Rattle.line_buffer.specs.declared.layout.Layout.{Layout}
use Rattle.line_editor.specs.EditSteps.{calls_of_steps, one}
use Rattle.line_editor.specs.LineScripts.{Keys, LineAsk, LineState, effect_at, left_at}
use Rattle.line_editor.specs.Values.{EditStep, Setting, EditStep.Draws}
use Rattle.line_keys.specs.PhraseScripts.{Reads}
use Rattle.line_screen.specs.ScreenCalls.{Screen, ruler_of}

-- each line is written right after it was kept; these are kept and not yet written
abbrev Ordered : List (List ℕ) → List SessionEvent → Type 0
Ordered hand [] = hand ≡ []
Ordered hand (Keeps line ∷ more) = (hand ≡ []) × Ordered (line ∷ []) more
Ordered hand (Writes line ∷ more) = (hand ≡ line ∷ []) × Ordered [] more
Ordered hand (event ∷ more) = Ordered hand more

-- what a line asks for keeps and writes nothing
module _ (s : Screen) (tail : List SessionEvent) (rest : Ordered [] tail) where
  steps_first : (l : Layout) (steps : List EditStep) (more : List SessionEvent) → Ordered [] more → Ordered [] (step_events s l steps ++ more)
  steps_first l [] more h = h
  steps_first l (Draws v marks redraw ∷ steps) more h = steps_first (one (ruler_of s) l (Draws v marks redraw)).layout steps more h
  steps_first l (_ ∷ steps) more h = steps_first l steps more h

  own_first : (a : Setting) (k : LineState) (ask : LineAsk) (more : List SessionEvent) → Ordered [] more → Ordered [] (own_events a k ask ++ more)
  own_first a k (Keys (Reads item)) more h = h
  own_first a k _ more h = h

  asks_first : (a : Setting) (l : Layout) (k : LineState) (asks : List LineAsk) → Ordered [] (asks_events s a l k asks ++ tail)
  asks_first a l k [] = rest
  asks_first a l k (ask ∷ asks) =
      let steps = (effect_at a k ask).steps in
      let m = (calls_of_steps (ruler_of s) l steps).layout in
      rw (append_assoc (step_events s l steps) _ tail, append_assoc (own_events a k ask) _ tail)
      (steps_first l steps (own_events a k ask ++ (asks_events s a m (left_at a k ask) asks ++ tail)) (own_first a k ask (asks_events s a m (left_at a k ask) asks ++ tail) (asks_first a m (left_at a k ask) asks)))

end_first : (o : Result (List ℕ) ReadlineError) (tail : List SessionEvent) → Ordered [] tail → Ordered [] (end_events o ++ tail)
end_first (Ok text) tail rest = (refl, (refl, rest))
end_first (Err e) tail rest = elim (breaks_after e) as (λ b. Ordered [] ((if b then Breaks ∷ [] else []) ++ tail)) [ true ↦ rest | false ↦ rest ]

on_line : (later : SessionState → Course ReadlineError) (o : Result (List ℕ) ReadlineError) (y : SessionState) → Ordered [] (later y).events → Ordered [] (course_after_line later (o, y)).events
on_line later (Ok text) y rest = rest
on_line later (Err e) y rest = refl

in_order : (n : ℕ) (g : Given) (at : ℕ → LineGiven) (x : SessionState) → Ordered [] (session n g at x).events
unfolding session
in_order zero g at x = refl
in_order (suc n) g at x =
    let first = for_line g (at 0) in
    let later : SessionState → Course ReadlineError = session n g (λ line. at (suc line)) in
    let line = line_course (suc n) first x in
    let more = (course_after_line later line.answer).events in
    let p = line_play_in (suc n) first x in
    let s = first.screen in
    let asks = events_of first x p.asks in
    subst (λ events. Ordered [] events) (sym (append_assoc asks (end_events p.answer) more))
    (asks_first s (end_events p.answer ++ more)
    (end_first p.answer more (on_line later line.answer.0 line.answer.1 (in_order n g (λ line. at (suc line)) line.answer.1)))
    (setting_in first x.history.kept.entries) (fresh s.mode) (first_in first x) p.asks)

-- ---- what the first of them come to

record Hand (hand : List (List ℕ)) (done next : List SessionEvent) : Type 0 where
  in_hand : List (List ℕ)
  one : length in_hand ≤ 1
  kept : hand ++ flat_map lines_kept done ≡ flat_map lines_written done ++ in_hand
  rest : Ordered in_hand next

hand_of : (hand : List (List ℕ)) (done next : List SessionEvent) → length hand ≤ 1 → Ordered hand (done ++ next) → Hand hand done next
hand_of hand [] next one is = record { in_hand = hand; one = one; kept = append-nil hand; rest = is }
hand_of hand (Keeps line ∷ done) next one is =
    let r = hand_of (line ∷ []) done next (search arith) is.1 in
    record { in_hand = r.in_hand; one = r.one; kept = ap (λ lines. lines ++ line ∷ flat_map lines_kept done) is.0 ∙ r.kept; rest = r.rest }
hand_of hand (Writes line ∷ done) next one is =
    let r = hand_of [] done next (search arith) is.1 in
    record { in_hand = r.in_hand; one = r.one; kept = ap (λ lines. lines ++ flat_map lines_kept done) is.0 ∙ ap (λ lines. line ∷ lines) r.kept; rest = r.rest }
hand_of hand (_ ∷ done) next one is = let r = hand_of hand done next one is in record { in_hand = r.in_hand; one = r.one; kept = r.kept; rest = r.rest }

pub lines_in_order : LinesInOrder
lines_in_order n g at x done next =
    let events = (session n g at x).events in
    let at_once = in_order n g at x in
    let all = hand_of [] events [] (search arith) (subst (λ events. Ordered [] events) (sym (append-nil events)) at_once) in (
      sym (all.kept ∙ ap (λ hand. flat_map lines_written events ++ hand) all.rest ∙ append-nil (flat_map lines_written events)),
      λ split.
          let r = hand_of [] done next (search arith) (subst (λ events. Ordered [] events) split at_once) in
          (r.in_hand, flat_map lines_kept next, r.one, r.kept, ap (λ events. flat_map lines_kept events) split ∙ flat_map-append lines_kept done next),
    )
