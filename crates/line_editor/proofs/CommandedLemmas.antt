-- A phrase, then what its command makes.
use Rattle.std.proofs.Common.{◌≡◌, inl, inr, ℕ, suc, ◌<◌, le_refl, Bool, true, false, if◌then◌else◌, refl, sym, ap, subst, ◌∙◌}
use Rattle.std.specs.Prelude.{Result, Ok, Err, IfErr, OnOk, IsErrAnd, length, ◌==◌}
use Rattle.line_config.specs.declared.errors.ReadlineError.{ReadlineError}
use Rattle.line_config.specs.declared.errors.ReadlineError.TheVariants.{Eof, Display, Helper, Handler, Memory}
use Rattle.script.specs.Scripts.{Goes, then, Asks, Ends}
use Rattle.script.proofs.ScriptLaws.{then_goes, then_cut}
use Rattle.line_help.specs.declared.completion as completions
use Rattle.line_help.specs.declared.helpers.hint as hints
use Rattle.line_help.specs.declared.helpers.highlight as highlights
use Rattle.line_help.specs.declared.helpers.validate as verdicts
use Rattle.line_help.specs.declared.history as histories
use Rattle.line_keys.specs.CustomBindings.{Custom}
use Rattle.line_keys.specs.KeyFeeds.{KeyFeed, Coming}
use Rattle.line_keys.specs.InputStates.{Follows, Because, Happens, stage as key_stage}
use Rattle.line_keys.specs.PhraseScripts.{Input, steps, is_emacs}
use Rattle.line_keys.specs.declared.command.Cmd.{Cmd, TheVariants.EndOfFile, TheVariants.AcceptOrInsertLine}
use Rattle.line_record.specs.Ring.{Ring}
use Rattle.line_editor.specs.Accepting.{accepts, verdict}
use Rattle.line_editor.specs.Drawing.{shown_in}
use Rattle.line_editor.specs.Commands.{Means, means_of, effect, outcome}
use Rattle.line_editor.specs.LineScripts.{Obeys, Answered, LineStage, line_state, script_of_keys, meet_script, turn_script}
use Rattle.line_editor.specs.NextCommand.{line_phrase, ring_after_reset}
use Rattle.line_editor.specs.ModalCommands.{meeting, meeting_effect}
use Rattle.line_editor.specs.Modal.{Modal}
use Rattle.line_editor.specs.States.{value_of, setting_of, display_of, Stays, Reason, Executes, Meets, Cause, RunsScript, stage_of, world_of}
use Rattle.line_editor.specs.Values.{Value, Setting}
use Rattle.line_editor.specs.declared.commands.Status.{Status, TheVariants.Proceed, TheVariants.Submit}
use Rattle.line_editor.specs.declared.renderer as renderers
use Rattle.line_editor.specs.declared.state.State.{State}
use Rattle.line_editor.proofs.DoesLemmas.{is_err, setting_stays, stays_same, stays_both}
use Rattle.line_editor.proofs.PhraseGoes.{phrase_goes_on, edit_drawn, edit_value, edit_stops}

fell : {X : Type 0} (result : Result X ReadlineError) (a b : ℕ) → a < b → OnOk result (a < b)
fell (Ok x) a b h = h
fell (Err e) a b h = tt

module _ {Out H Hi K T : Type 0} {renderer : renderers.Renderer.Ghosts Out} {completer : completions.Completer.Ghosts H K} {candidate : completions.Candidate.Ghosts K}
    {hinter : hints.Hinter.Ghosts H T} {hint : hints.Hint.Ghosts T} {highlighter : highlights.Highlighter.Ghosts H} {validator : verdicts.Validator.Ghosts H} {history : histories.History.Ghosts Hi} where
  -- ---- causes

  phrase_cause : (custom : Custom) (t : State Out H Hi K T renderer completer candidate hinter hint highlighter validator history) (f : KeyFeed) (e : ReadlineError) → Because display_of custom t f e → Cause custom t f e
  phrase_cause custom t f Handler why = why
  phrase_cause custom t f Memory why = tt
  phrase_cause custom t f Display (inr why) = why.3.reason
  phrase_cause custom t f Helper (inr why) = why.3.reason
  phrase_cause custom t f _ (inl why) = search
  phrase_cause custom t f _ (inr why) = search

  pub edit_cause : (custom : Custom) (t : State Out H Hi K T renderer completer candidate hinter hint highlighter validator history) (f : KeyFeed) (e : ReadlineError) → Reason t e → Cause custom t f e
  edit_cause custom t f Eof why = tt
  edit_cause custom t f _ why = search

  if_cause : (custom : Custom) (t : State Out H Hi K T renderer completer candidate hinter hint highlighter validator history) (f : KeyFeed) (b : Bool) (x y : Result Status ReadlineError)
      → IfErr x (λ e. Cause custom t f e) → IfErr y (λ e. Cause custom t f e) → IfErr (if b then x else y) (λ e. Cause custom t f e)
  if_cause custom t f true x y h k = h
  if_cause custom t f false x y h k = k

  -- a command's own end
  end_cause : (custom : Custom) (t : State Out H Hi K T renderer completer candidate hinter hint highlighter validator history) (f : KeyFeed) (m : Means) (s : Setting) (v : Value) (cmd : Cmd) → IfErr (outcome m cmd s v) (λ e. Cause custom t f e)
  end_cause custom t f m s v EndOfFile = if_cause custom t f (length v.line.text == 0) (Err Eof) (if is_emacs m.mode then Ok Proceed else Ok Submit) tt (if_cause custom t f (is_emacs m.mode) (Ok Proceed) (Ok Submit) tt tt)
  end_cause custom t f m s v (AcceptOrInsertLine middle) = if_cause custom t f (accepts middle (verdict s v) v.line) (Ok Submit) (Ok Proceed) tt tt
  end_cause custom t f m s v _ = tt

  -- ---- a turn, by how often it may read

  module _ (n : ℕ) (custom : Custom) (i : Input) (r : Ring) (modal : Modal) (c : Coming) (s : State Out H Hi K T renderer completer candidate hinter hint highlighter validator history) where
    abbrev Turns : Result Status ReadlineError → LineStage Out → Type 0
    Turns result y = Goes (world_of s) (turn_script n custom) (stage_of s i r modal c) result y

    turn_begun : (result : Result Status ReadlineError) (y : LineStage Out)
        → Goes (world_of s) ((then) (script_of_keys (steps (line_phrase custom i (shown_in (value_of s))) n)) meet_script) (stage_of s i r modal c) result y → Turns result y
    unfolding turn_script
    turn_begun result y goes = inl (record { input = i; shown = shown_in (value_of s) }, stage_of s i r modal c, (refl, refl, (refl, refl)), goes)

    module _ (b : ℕ) (enough : b < n) (m : State Out H Hi K T renderer completer candidate hinter hint highlighter validator history) (i1 : Input) (c1 : Coming) where
      -- the phrase
      phrased : (q : Result Cmd ReadlineError) → Happens display_of b (line_phrase custom i (shown_in (value_of s))) (key_stage s i c) q (key_stage m i1 c1)
          → Goes (world_of s) (script_of_keys (steps (line_phrase custom i (shown_in (value_of s))) n)) (stage_of s i r modal c) q (stage_of m i1 r modal c1) × Stays s m
      unfolding Happens
      phrased q h = phrase_goes_on s r modal (steps (line_phrase custom i (shown_in (value_of s))) n) (key_stage s i c) (key_stage m i1 c1) q (stays_same s) (h n enough)

      phrase_stopped : (e : ReadlineError) → Happens display_of b (line_phrase custom i (shown_in (value_of s))) (key_stage s i c) (Err e) (key_stage m i1 c1) → Turns (Err e) (stage_of m i1 r modal c1)
      phrase_stopped e h = turn_begun (Err e) (stage_of m i1 r modal c1)
          (then_cut (world_of s) (script_of_keys (steps (line_phrase custom i (shown_in (value_of s))) n)) meet_script e (stage_of s i r modal c) (stage_of m i1 r modal c1) (phrased (Err e) h).0)

      -- what a search makes of the command
      module _ (cmd : Cmd) (w : State Out H Hi K T renderer completer candidate hinter hint highlighter validator history) (modal' : Modal) (stays : Stays s m) where
        met : (next : Cmd) (result : Result Status ReadlineError) (y : LineStage Out) → Meets (meeting modal cmd) (λ (c : Cmd). c) m w modal' (Ok next)
            → Goes (world_of s) (Asks (Obeys next) (λ status. Ends status)) (stage_of w i1 r modal' c1) result y → Goes (world_of s) (meet_script cmd) (stage_of m i1 r modal c1) result y
        met next result y meets goes =
            let value = edit_value s m w stays (meeting_effect modal cmd) next meets.does in
            let same = setting_stays s m stays in
            inl (
              next,
              stage_of w i1 r modal' c1,
              (
                ap (λ x. Ok x) (sym (meets.next ∙ ap (λ a. (meeting modal cmd a (value_of m)).next) same)),
                ap (λ v. line_state v i1 r modal' c1) value
                    ∙ ap (λ x. line_state (meeting_effect modal cmd (setting_of s) (value_of m)).value i1 r x c1) (meets.modal_is ∙ ap (λ a. (meeting modal cmd a (value_of m)).modal) same),
                edit_drawn s m w stays (meeting_effect modal cmd) next meets.does,
              ),
              goes,
            )

        unmet : (e : ReadlineError) → Meets (meeting modal cmd) (λ (c : Cmd). c) m w modal' (Err e) → Goes (world_of s) (meet_script cmd) (stage_of m i1 r modal c1) (Err e) (stage_of w i1 r modal' c1)
        unmet e meets = inr (e, inr (inl (edit_stops s m w stays (meeting_effect modal cmd) e meets.does, refl)), refl)

      module _ (cmd : Cmd) (w t : State Out H Hi K T renderer completer candidate hinter hint highlighter validator history) (modal' : Modal) (ring' : Ring) (stays : Stays s w) where
        abbrev means_here : Means
        means_here = means_of i1 (ring_after_reset cmd r)

        commanded : (result : Result Status ReadlineError) → Executes cmd i1 w (ring_after_reset cmd r) t ring' result
            → Goes (world_of s) (Asks (Obeys cmd) (λ status. Ends status)) (stage_of w i1 r modal' c1) result (stage_of t i1 ring' modal' c1)
        commanded result (inl (does, outcome_is, ring_is)) = ended result (
          sym (outcome_is ∙ ap (λ a. outcome means_here cmd a (value_of w)) (setting_stays s w stays)),
          ap (λ v. line_state v i1 ring' modal' c1) (edit_value s w t stays (effect means_here cmd) (tt {0}) does)
              ∙ ap (λ k. line_state (effect means_here cmd (setting_of s) (value_of w)).value i1 k modal' c1) ring_is,
          edit_drawn s w t stays (effect means_here cmd) (tt {0}) does,
        )
          where
            ended : (result : Result Status ReadlineError) → Answered renderer.canvas (renderer.canvas.ruler s.out) (setting_of s) (stage_of w i1 r modal' c1) (Obeys cmd) result (stage_of t i1 ring' modal' c1)
                → Goes (world_of s) (Asks (Obeys cmd) (λ status. Ends status)) (stage_of w i1 r modal' c1) result (stage_of t i1 ring' modal' c1)
            ended (Ok status) made = inl (status, stage_of t i1 ring' modal' c1, made, (refl, refl))
            ended (Err e) made = inr (e, inl made, refl)
        commanded result (inr (e, is, refused, ring)) = inr (e, inr (inl (edit_stops s w t stays (effect means_here cmd) e refused, (refl, ring))), is)

      -- the phrase, and what follows it
      spoken : (cmd : Cmd) (result : Result Status ReadlineError) (y : LineStage Out) → Happens display_of b (line_phrase custom i (shown_in (value_of s))) (key_stage s i c) (Ok cmd) (key_stage m i1 c1)
          → Goes (world_of s) (meet_script cmd) (stage_of m i1 r modal c1) result y → Turns result y
      spoken cmd result y h goes = turn_begun result y
          (then_goes (world_of s) (script_of_keys (steps (line_phrase custom i (shown_in (value_of s))) n)) meet_script cmd result (stage_of s i r modal c) (stage_of m i1 r modal c1) y (phrased (Ok cmd) h).0 goes)

      turn_goes : (cmd next : Cmd) (w t : State Out H Hi K T renderer completer candidate hinter hint highlighter validator history) (modal' : Modal) (ring' : Ring) (result : Result Status ReadlineError)
          → Happens display_of b (line_phrase custom i (shown_in (value_of s))) (key_stage s i c) (Ok cmd) (key_stage m i1 c1)
          → Meets (meeting modal cmd) (λ (c : Cmd). c) m w modal' (Ok next) → Executes next i1 w (ring_after_reset next r) t ring' result → Turns result (stage_of t i1 ring' modal' c1)
      turn_goes cmd next w t modal' ring' result h meets k =
          let stays = (phrased (Ok cmd) h).1 in
          spoken cmd result (stage_of t i1 ring' modal' c1) h
          (met cmd w modal' stays next result (stage_of t i1 ring' modal' c1) meets
          (commanded next w t modal' ring' (stays_both s m w stays meets.does.stays) result k))

      turn_unmet : (cmd : Cmd) (w : State Out H Hi K T renderer completer candidate hinter hint highlighter validator history) (modal' : Modal) (e : ReadlineError) → Happens display_of b (line_phrase custom i (shown_in (value_of s))) (key_stage s i c) (Ok cmd) (key_stage m i1 c1)
          → Meets (meeting modal cmd) (λ (c : Cmd). c) m w modal' (Err e) → Turns (Err e) (stage_of w i1 r modal' c1)
      turn_unmet cmd w modal' e h meets = spoken cmd (Err e) (stage_of w i1 r modal' c1) h (unmet cmd w modal' (phrased (Ok cmd) h).1 e meets)

      turn_stays : (q : Result Cmd ReadlineError) → Happens display_of b (line_phrase custom i (shown_in (value_of s))) (key_stage s i c) q (key_stage m i1 c1) → Stays s m
      turn_stays q h = (phrased q h).1

  executes_stay : (cmd : Cmd) (i : Input) (m t : State Out H Hi K T renderer completer candidate hinter hint highlighter validator history) (ring ring' : Ring) (result : Result Status ReadlineError) → Executes cmd i m ring t ring' result → Stays m t
  executes_stay cmd i m t ring ring' result (inl (does, outcome_is, ring_is)) = does.stays
  executes_stay cmd i m t ring ring' result (inr (e, is, refused, left)) = refused.stays

  -- ---- turns

  -- no command came
  pub turn_refused : (custom : Custom) (s t : State Out H Hi K T renderer completer candidate hinter hint highlighter validator history) (i i' : Input) (r : Ring) (modal : Modal) (f f' : KeyFeed) (e : ReadlineError) (q : Result Status ReadlineError)
      → IsErrAnd q (λ x. x ≡ e) → Follows display_of custom (line_phrase custom i (shown_in (value_of s))) s i t i' f f' (Err e) → RunsScript turn_script custom s i r modal f t i' r modal f' q
  turn_refused custom s t i i' r modal f f' e q is h =
      subst (λ x. RunsScript turn_script custom s i r modal f t i' r modal f' x) (sym (is_err e q is)) (record {
        goes = λ told n enough. phrase_stopped n custom i r modal f.coming s f.bound enough t i' f'.coming e (h.goes told);
        stays = λ told. turn_stays (suc f.bound) custom i r modal f.coming s f.bound (le_refl (suc f.bound)) t i' f'.coming (Err e) (h.goes told);
        told = h.told;
        keeps = h.keeps;
        falls = tt;
        mode = h.mode;
        reason = phrase_cause custom t f' e h.reason;
      })

  executes_cause : (custom : Custom) (m t : State Out H Hi K T renderer completer candidate hinter hint highlighter validator history) (f : KeyFeed) (cmd : Cmd) (i : Input) (ring ring' : Ring) (result : Result Status ReadlineError)
      → Executes cmd i m ring t ring' result → IfErr result (λ e. Cause custom t f e)
  executes_cause custom m t f cmd i ring ring' result (inl (does, outcome_is, ring_is)) =
      subst (λ x. IfErr x (λ e. Cause custom t f e)) (sym outcome_is) (end_cause custom t f (means_of i ring) (setting_of m) (value_of m) cmd)
  executes_cause custom m t f cmd i ring ring' result (inr (e, is, k, left)) =
      subst (λ x. IfErr x (λ e. Cause custom t f e)) (sym is) (edit_cause custom t f e k.reason)

  -- a command came, and what a search made of it failed
  pub turn_unmade : (custom : Custom) (s m w : State Out H Hi K T renderer completer candidate hinter hint highlighter validator history) (i i1 : Input) (r : Ring) (modal modal' : Modal) (f f1 : KeyFeed) (cmd : Cmd) (e : ReadlineError) (q : Result Status ReadlineError)
      → IsErrAnd q (λ x. x ≡ e) → Follows display_of custom (line_phrase custom i (shown_in (value_of s))) s i m i1 f f1 (Ok cmd) → Meets (meeting modal cmd) (λ (c : Cmd). c) m w modal' (Err e)
      → RunsScript turn_script custom s i r modal f w i1 r modal' f1 q
  turn_unmade custom s m w i i1 r modal modal' f f1 cmd e q is h meets =
      subst (λ x. RunsScript turn_script custom s i r modal f w i1 r modal' f1 x) (sym (is_err e q is)) (record {
        goes = λ told n enough. turn_unmet n custom i r modal f.coming s f.bound enough m i1 f1.coming cmd w modal' e (h.goes told) meets;
        stays = λ told. stays_both s m w (turn_stays (suc f.bound) custom i r modal f.coming s f.bound (le_refl (suc f.bound)) m i1 f1.coming (Ok cmd) (h.goes told)) meets.does.stays;
        told = h.told;
        keeps = h.keeps;
        falls = tt;
        mode = h.mode;
        reason = edit_cause custom w f1 e meets.does.reason;
      })

  -- a command came
  pub turn_commanded : (custom : Custom) (s m w t : State Out H Hi K T renderer completer candidate hinter hint highlighter validator history) (i i1 : Input) (r q ring' : Ring) (modal modal' : Modal) (f f1 : KeyFeed) (cmd next : Cmd) (result : Result Status ReadlineError)
      → Follows display_of custom (line_phrase custom i (shown_in (value_of s))) s i m i1 f f1 (Ok cmd) → f1.bound < f.bound → Meets (meeting modal cmd) (λ (c : Cmd). c) m w modal' (Ok next) → q ≡ ring_after_reset next r
      → Executes next i1 w q t ring' result → RunsScript turn_script custom s i r modal f t i1 ring' modal' f1 result
  turn_commanded custom s m w t i i1 r q ring' modal modal' f f1 cmd next result h falls meets reset k =
      let done = subst (λ x. Executes next i1 w x t ring' result) reset k in
      record {
        goes = λ told n enough. turn_goes n custom i r modal f.coming s f.bound enough m i1 f1.coming cmd next w t modal' ring' result (h.goes told) meets done;
        stays = λ told. stays_both s w t (stays_both s m w (turn_stays (suc f.bound) custom i r modal f.coming s f.bound (le_refl (suc f.bound)) m i1 f1.coming (Ok cmd) (h.goes told)) meets.does.stays)
            (executes_stay next i1 w t q ring' result k);
        told = h.told;
        keeps = h.keeps;
        falls = fell result f1.bound f.bound falls;
        mode = h.mode;
        reason = executes_cause custom w t f1 next i1 q ring' result k;
      }
