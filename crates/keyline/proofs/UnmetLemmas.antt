-- Where the setting is off, a script goes as it does without the requests that meet a command.
use Rattle.std.proofs.Common.{◌≡◌, List, ◌++◌, Result, Ok, Err, refl, sym, ap, ◌∙◌, subst, if◌then◌else◌}
use Rattle.line_buffer.specs.declared.layout.Layout.{Layout}
use Rattle.script.specs.Played.{Played, play_after_answer}
use Rattle.script.specs.Scripts.{Ends, Asks}
use Rattle.line_config.specs.declared.errors.ReadlineError.{ReadlineError}
use Rattle.line_editor.specs.LineScripts.{Keys, Meets, LineAnswer, LineAsk, LineScript, LineState, answer_at, effect_at, left_at, line_script, played_from}
use Rattle.line_editor.specs.Modal.{Meeting, Modal}
use Rattle.line_editor.specs.ModalCommands.{meeting}
use Rattle.line_editor.specs.Redraws.{fresh}
use Rattle.line_editor.specs.EditSteps.{calls_of_steps}
use Rattle.line_editor.specs.Values.{Setting}
use Rattle.line_editor.specs.declared.modal_state.Standing.TheVariants.{Off, Rests}
use Rattle.line_editor.proofs.PastLemmas.{off_passes}
use Rattle.line_keys.specs.PhraseScripts.{Reads}
use Rattle.line_keys.specs.declared.command.Cmd.{Cmd}
use Rattle.line_screen.specs.ScreenCalls.{Screen, ruler_of}
use Rattle.keyline.specs.Events.{asks_events, first_in, own_events, SessionEvent, step_events}
use Rattle.keyline.specs.Sessions.{setting_in}
use Rattle.keyline.specs.SessionLaws.{OffMeetsNone, script_without_meeting}

abbrev PlayedBy : Type 0 → Type 0
PlayedBy X = Played LineAsk LineState ReadlineError X

module _ (s : Screen) (a : Setting) where
  record Alike {X : Type 0} (l : Layout) (k : LineState) (p q : PlayedBy X) : Type 0 where
    pub answer : p.answer ≡ q.answer
    pub rest : p.rest ≡ q.rest
    pub events : asks_events s a l k p.asks ≡ asks_events s a l k q.asks
    pub modal : p.rest.modal ≡ k.modal

  abbrev layout_after : Layout → LineState → LineAsk → Layout
  layout_after l k ask = (calls_of_steps (ruler_of s) l (effect_at a k ask).steps).layout

  -- nothing begins to stand
  stays_as : (k : LineState) (ask : LineAsk) → k.modal.standing ≡ Off → (left_at a k ask).modal ≡ k.modal
  stays_as k (Meets cmd) off = ap (λ (m : Meeting). m.modal) (off_passes k.modal cmd a k.value off)
  stays_as k (Keys (Reads item)) off = refl
  stays_as k _ off = refl

  one_alike : {X : Type 0} (ask : LineAsk) (f g : LineAnswer ask → LineScript X) (l : Layout) (k : LineState) → k.modal.standing ≡ Off → (r : Result (LineAnswer ask) ReadlineError)
      → (let left = left_at a k ask in ((x : LineAnswer ask) → Alike (layout_after l k ask) left (played_from a (f x) left) (played_from a (g x) left))
      → Alike l k (play_after_answer (λ x. played_from a (f x) left) ask left r) (play_after_answer (λ x. played_from a (g x) left) ask left r))
  one_alike ask f g l k off (Ok x) so =
      let y = so x in
      record {
        answer = y.answer;
        rest = y.rest;
        events = ap (λ events. step_events s l (effect_at a k ask).steps ++ (own_events a k ask ++ events)) y.events;
        modal = y.modal ∙ stays_as k ask off;
      }
  one_alike ask f g l k off (Err e) so = record { answer = refl; rest = refl; events = refl; modal = stays_as k ask off }

  -- a command that is met passes, and nothing is made of it
  met_alike : {X : Type 0} (cmd : Cmd) (t : Cmd → LineScript X) (l : Layout) (k : LineState) (q : PlayedBy X) → k.modal.standing ≡ Off
      → Alike l k (played_from a (t cmd) k) q → Alike l k (played_from a (Asks (Meets cmd) t) k) q
  met_alike {X} cmd t l k q off so =
      let h : Goes (meeting k.modal cmd a k.value) = subst Goes (sym (off_passes k.modal cmd a k.value off)) (so.answer, so.rest, so.events, so.modal) in
      record { answer = h.0; rest = h.1; events = h.2; modal = h.3 }
    where
      after : Meeting → LineState
      after m = record k { value = m.effect.value; modal = m.modal }

      on : Meeting → PlayedBy X
      on m = played_from a (t m.next) (after m)

      events : Meeting → List SessionEvent
      events m = let steps = m.effect.steps in step_events s l steps ++ asks_events s a (calls_of_steps (ruler_of s) l steps).layout (after m) (on m).asks

      Goes : Meeting → Type 0
      Goes m = ((on m).answer ≡ q.answer) × ((on m).rest ≡ q.rest) × (events m ≡ asks_events s a l k q.asks) × ((on m).rest.modal ≡ k.modal)

  unmet_alike : {X : Type 0} (p : LineScript X) (l : Layout) (k : LineState) → k.modal.standing ≡ Off → Alike l k (played_from a p k) (played_from a (script_without_meeting p) k)
  unmet_alike (Ends x) l k off = record { answer = refl; rest = refl; events = refl; modal = refl }
  unmet_alike (Asks (Meets cmd) t) l k off = met_alike cmd t l k (played_from a (script_without_meeting (t cmd)) k) off (unmet_alike (t cmd) l k off)
  unmet_alike (Asks ask t) l k off =
      let left = left_at a k ask in
      one_alike ask t (λ x. script_without_meeting (t x)) l k off (answer_at a k ask)
      (λ x. unmet_alike (t x) (layout_after l k ask) left (ap (λ (m : Modal). m.standing) (stays_as k ask off) ∙ off))

pub off_meets_none : OffMeetsNone
off_meets_none n g x off =
    let h = unmet_alike g.screen (setting_in g x.history.kept.entries) (line_script n g.custom) (fresh g.screen.mode) (first_in g x) (ap (λ b. if b then Rests else Off) off) in
    (h.answer, h.rest, h.events, ap (λ (m : Modal). m.query) h.modal)
