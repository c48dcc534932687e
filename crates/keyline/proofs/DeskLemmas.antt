-- A line at a desk: what `run` gives, and then the line's end.
use Rattle.std.proofs.Common.{◌≡◌, ℕ, suc, ◌<◌, Bool, true, false, ◌⊎◌, List, [], ◌∷◌, ◌++◌, inl, inr, refl, sym, ap, ◌∙◌, subst, IsTrue, Option, Result, Ok, Err, IfErr, OnOk, le_refl, flat_map, Global}
use Rattle.std.specs.Prelude.{⊤, String, if◌then◌else◌, string_bytes}
use Rattle.std.proofs.lemmas.Result.{IfErr-weaker}
use Rattle.line_config.specs.declared.config.Config.{Config}
use Rattle.line_config.specs.declared.errors.ReadlineError.{ReadlineError, TheVariants.Reader, TheVariants.Display, TheVariants.Lines}
use Rattle.line_help.specs.History.{Filed}
use Rattle.line_keys.specs.CustomBindings.{Custom}
use Rattle.line_keys.specs.KeyFeeds.{KeyFeed, Coming, answer_map}
use Rattle.line_record.specs.Ring.{Ring}
use Rattle.line_editor.specs.LineScripts.{LineState, LineStage, line_state, line_script, line_stage}
use Rattle.line_editor.specs.LineRun.{Helping, Runs, outcome_of, setting_by, stage_first, breaks_after}
use Rattle.line_editor.specs.States.{reason_of, cause_of}
use Rattle.line_editor.specs.EditSteps.{surface}
use Rattle.line_editor.specs.Values.{Setting}
use Rattle.line_editor.specs.declared.line_run.Ran.{Ran}
use Rattle.line_screen.specs.ScreenCalls.{NothingWaits, canvas_of, screen_of, sink_of, ruler_of}
use Rattle.line_screen.specs.Reader.{items_of}
use Rattle.line_screen.specs.declared.reading.reader.KeyReader.{KeyReader}
use Rattle.line_screen.specs.declared.renderer.ScreenRenderer.{ScreenRenderer}
use Rattle.line_screen.proofs.CallLemmas.{goes_stay}
use Rattle.line_screen.proofs.WaitingLemmas.{reads_find_nothing_waiting}
use Rattle.keyline.specs.Desks.{TakesLine, DeskReason, desk_feed, session_state_of, work_of}
use Rattle.keyline.specs.SessionEffects.{KnownDevices, AreDone, Closes, SessionReason, WantsMemory, Went, Work, work}
use Rattle.keyline.specs.Events.{SessionEvent, Course, Begins, Breaks, events_of, end_events, line_course, lines_kept, line_play_in}
use Rattle.keyline.specs.Sessions.{Given, SessionState, given_of, history_after, history_with_if, state_at}
use Rattle.keyline.specs.Shows.{EachShown}
use Rattle.keyline.specs.declared.desk.Desk.{Desk}
use Rattle.keyline.proofs.EventLemmas.{done_both, line_went, none_done, remembered_none, went_before, went_behind, went_cases, went_not, went_not_whole, went_so, went_whole}
use Rattle.keyline.proofs.ShowCourse.{first_shown, lines_show}

-- ---- faults

-- after a fault of a line no new row is drawn
unbroken : (failed : Bool) (hook : Type 0) (e : ReadlineError) → reason_of failed hook e → breaks_after e ≡ false
unbroken failed hook Display r = refl
unbroken failed hook _ r = search

-- the reasons of a line are those of a desk
reason_by : (g : Given) (source display lines : Bool) (feed : KeyFeed) (hook : Type 0) (e : ReadlineError) → (feed.reason e → e ≡ Reader → IsTrue source)
    → cause_of g.custom display hook feed e → SessionReason g source display lines e
reason_by g source display lines feed hook Reader of_source c = of_source c refl
reason_by g source display lines feed hook _ of_source c = search

-- ---- the outcome of a line as that of its end

err_given : {A : Type 0} (o : Result A ReadlineError) (f : A → List ℕ) (e : ReadlineError) (P : ReadlineError → Type 0) → IfErr o P → answer_map f o ≡ Err e → P e
err_given (Ok x) f e P p is = absurd (cc)
err_given (Err d) f e P p is = let same : d ≡ e = cc in subst P same p

ok_given : {A : Type 0} (o : Result A ReadlineError) (f : A → List ℕ) (result : Result (List ℕ) ReadlineError) (P : Type 0) → OnOk o P → result ≡ answer_map f o → OnOk result P
ok_given (Ok x) f (Ok u) P p is = p
ok_given (Err d) f (Ok u) P p is = absurd (cc)
ok_given _ f (Err e) P p is = tt

-- ---- a line at a desk

-- what holds with the renderer and the helper that were taken out holds of the desk
pub with_held : {S H D L : Type 0} (P : Desk S H D L → Type 0) (at old : Desk S H D L) → at ≡ old → (out : ScreenRenderer D) (helper : Option H) → out ≡ at.out → helper ≡ at.helper
    → P (record at { out = out; helper = helper }) → P old
with_held P at old is out helper out_is helper_is p =
    subst P is (subst (λ out. P (record at { out = out })) out_is (subst (λ helper. P (record at { out = out; helper = helper })) helper_is p))

module _ {S H D L K T : Type 0} (k : KnownDevices S D L) (helps : Option H → Helping) (custom : Custom) (config : Config) (prompt : List ℕ)
    (added : Bool) (old : Desk S H D L) (ran : Ran (ScreenRenderer D) H K T) (ring : Ring) (last_query : String Global) (reader : KeyReader S) where
  abbrev pub RunsAt : Type 0
  RunsAt = Runs (canvas_of k.shown k.waits k.show_failed) helps custom prompt old.helper old.history.kept.entries config
      old.out old.ring (string_bytes old.last_query) (items_of k.feed old.reader) ran ring (string_bytes last_query) (items_of k.feed reader)

  abbrev setting : Setting
  setting = setting_by (ruler_of (screen_of old.out)) prompt (helps old.helper) old.history.kept.entries config

  abbrev left : Coming
  left = (items_of k.feed reader).coming

  abbrev first : LineStage (ScreenRenderer D)
  first = stage_first old.out (ruler_of (screen_of old.out)) setting old.ring (string_bytes old.last_query) (items_of k.feed old.reader).coming

  abbrev last : RunsAt → LineStage (ScreenRenderer D)
  last runs = line_stage (surface ran.out runs.layout) (line_state runs.value runs.input ring runs.modal left)

  screen_stays : RunsAt → IsTrue (items_of k.feed reader).told → screen_of ran.out ≡ screen_of old.out
  screen_stays runs t =
      let n = suc (desk_feed k old).bound in
      goes_stay k.shown k.waits k.show_failed (ruler_of (screen_of old.out)) setting (line_script n custom) first (last runs) (outcome_of ran) (runs.goes t n (le_refl _))

  -- nothing waits after the line if nothing waited before it
  line_passes : RunsAt → IsTrue (items_of k.feed reader).told → NothingWaits k.waits k.show_failed (sink_of old.out) → NothingWaits k.waits k.show_failed (sink_of ran.out)
  line_passes runs t none =
      let n = suc (desk_feed k old).bound in
      (reads_find_nothing_waiting k.shown k.waits k.show_failed n custom (ruler_of (screen_of old.out)) setting first (last runs) (outcome_of ran) none (runs.goes t n (le_refl _))).1

  module _ (out : ScreenRenderer D) (history : Filed) (lines : L) (result : Result (List ℕ) ReadlineError) where
    abbrev Ends : Result (List ℕ) ReadlineError → Type 0
    Ends outcome = Closes k.shown k.show_failed k.written_in k.write_failed config.auto_add_history outcome
        (work (sink_of ran.out) old.lines old.history) (work (sink_of out) lines history) result

    abbrev new : Desk S H D L
    new = record { reader = reader; out = out; helper = ran.helper; history = history; ring = ring; last_query = last_query; lines = lines; added = added }

    abbrev given : Given
    given = given_of config custom prompt (screen_of old.out) (helps old.helper)

    abbrev given' : Given
    given' = given_of config custom prompt (screen_of out) (helps ran.helper)

    abbrev at_end : Work D L
    at_end = work (sink_of ran.out) old.lines old.history left

    abbrev state : SessionState
    state = session_state_of k old

    abbrev line : ℕ → Course (Result (List ℕ) ReadlineError × SessionState)
    line n = line_course n given state

    -- an accepted line is kept, and no other
    kept_in_end : (o : Result (List ℕ) ReadlineError) (h : Filed) → history_with_if config.auto_add_history (flat_map lines_kept (end_events o)) h ≡ history_after config.auto_add_history o h
    kept_in_end (Ok text) h = refl
    kept_in_end (Err e) h = elim (breaks_after e) as (λ b. history_with_if config.auto_add_history (flat_map lines_kept (if b then Breaks ∷ [] else [])) h ≡ h) [
      | true ↦ remembered_none config.auto_add_history h
      | false ↦ remembered_none config.auto_add_history h
    ]

    -- the begin of a line makes nothing
    begun : {events : List SessionEvent} {x y : Work D L} → AreDone k.shown k.written_in config.auto_add_history events x y → AreDone k.shown k.written_in config.auto_add_history (Begins (screen_of old.out) ∷ events) x y
    begun d = record { drawn = d.drawn; wrote = d.wrote; history_is = d.history_is; left_is = d.left_is; answered = d.answered }

    line_goes : RunsAt → Ends (outcome_of ran) → IsTrue (items_of k.feed reader).told → (n : ℕ) → (desk_feed k old).bound < n
        → Went k.shown k.written_in config.auto_add_history (line n).events (work_of k old) (work_of k new) ((result, session_state_of k new) ≡ (line n).answer) (λ e. result ≡ Err e)
    line_goes runs closes t n b =
        let adds = config.auto_add_history in
        let o = outcome_of ran in
        let p = line_play_in n given state in
        let here : List SessionEvent = Begins (screen_of old.out) ∷ events_of given state p.asks in
        let Comes : List SessionEvent → Work D L → Type 0 = λ events x. Went k.shown k.written_in adds events (work_of k old) x ((result, session_state_of k new) ≡ (line n).answer) (λ e. result ≡ Err e) in
        elim (line_went k.shown k.written_in adds old.lines old.history k.waits k.show_failed (screen_of old.out) setting (line_script n custom) first (last runs) o refl (runs.goes t n b)) [
          | inl whole ↦
              let first = begun whole.are_done in
              let after : Result (List ℕ) ReadlineError → LineState → Result (List ℕ) ReadlineError × SessionState = λ o l. (o, state_at l.ring l.modal.query (history_after adds o state.history) l.coming) in
              subst (λ o. Comes (here ++ end_events o) (work_of k new)) (sym whole.answer_is)
              (went_cases (closes.goes left)
              (λ done same.
              let state_is : session_state_of k new ≡ state_at ring runs.modal.query (history_after adds o state.history) left =
              ap (λ query. state_at ring query history left) runs.last ∙ ap (λ (h : Filed). state_at ring runs.modal.query h left) (done.history_is ∙ kept_in_end o old.history) in
              went_whole (done_both first done)
              (ap (λ r. (r, session_state_of k new)) same ∙ ap (λ x. (o, x)) state_is ∙ ap (after o) (sym whole.rest_is) ∙ ap (λ o. after o p.rest) (sym whole.answer_is)))
              (λ cut. went_behind first (went_not_whole cut)))
          | inr cut ↦
              let stays = λ (e : ReadlineError) (by : (o ≡ Err e) × reason_of true ⊤ e). (subst Ends by.0 closes).stays (unbroken true ⊤ e by.1) in
              let is : work_of k new ≡ at_end = went_not (λ e by. ap (λ (f : Coming → Work D L). f left) (stays e by).0) cut in
              subst (Comes (here ++ end_events p.answer)) (sym is)
              (went_before (end_events p.answer) (went_so (λ e by. (stays e by).1) (went_behind (begun (none_done (work_of k old))) cut)))
        ]

    line_falls : RunsAt → Went k.shown k.written_in config.auto_add_history (end_events (outcome_of ran)) at_end (work_of k new) (result ≡ outcome_of ran) (λ e. result ≡ Err e) → OnOk result ((desk_feed k new).bound < (desk_feed k old).bound)
    line_falls runs w = went_cases w (λ done same. ok_given ran.outcome string_bytes result _ runs.falls same) (λ cut. went_not (λ e is. rw is tt) cut)

    line_given : RunsAt → screen_of out ≡ screen_of ran.out → IsTrue (desk_feed k new).told → given' ≡ given
    line_given runs screen t =
        ap (λ s. given_of config custom prompt s (helps ran.helper)) (screen ∙ screen_stays runs t)
        ∙ ap (λ h. given_of config custom prompt (screen_of old.out) h) (runs.helper_stays t)

    reason_of_close : RunsAt → (e : ReadlineError)
        → ((outcome_of ran ≡ Err e) × (k.show_failed (sink_of out) ≡ k.show_failed (sink_of ran.out))) ⊎ (((e ≡ Display) × IsTrue (k.show_failed (sink_of out)))
        ⊎ (((e ≡ Lines) × IsTrue (k.write_failed lines)) ⊎ WantsMemory config.auto_add_history old.history (outcome_of ran) e))
        → DeskReason k given new e
    reason_of_close runs e (inl p) =
        let cause = err_given ran.outcome string_bytes e _ runs.reason p.0 in
        subst (λ failed. SessionReason given (k.feed reader.bytes.source).failed failed (k.write_failed lines) e) (sym p.1)
        (reason_by given _ (k.show_failed (sink_of ran.out)) (k.write_failed lines) (items_of k.feed reader) _ e (λ r. r) cause)
    reason_of_close runs e (inr (inl p)) = rw p.0 p.1
    reason_of_close runs e (inr (inr (inl p))) = rw p.0 p.1
    reason_of_close runs e (inr (inr (inr p))) = rw p.0 tt

    pub takes_line : RunsAt → Ends (outcome_of ran) → screen_of out ≡ screen_of ran.out → (NothingWaits k.waits k.show_failed (sink_of ran.out) → NothingWaits k.waits k.show_failed (sink_of out))
        → (NothingWaits k.write_waits k.write_failed old.lines → NothingWaits k.write_waits k.write_failed lines) → TakesLine k given given' old new result
    takes_line runs closes screen passes passes_lines = record {
      goes = λ t n b.
          let w = line_goes runs closes t n b in
          record { went = w; shows = λ f rest. first_shown w.done w.others f (subst (EachShown f) w.split (lines_show n given state f rest)) };
      given = line_given runs screen;
      custom = refl;
      told = runs.told;
      falls = line_falls runs (closes.goes left);
      passes = record { display = λ t none. passes (line_passes runs t none); lines = passes_lines };
      ends = record {
        drawn = ran.out;
        layout = runs.layout;
        outcome = outcome_of ran;
        value = runs.value;
        input = runs.input;
        modal = runs.modal;
        goes = λ t n b. runs.goes t n b;
        last = runs.last;
        closes = closes;
      };
      reason = IfErr-weaker result _ _ (λ e. reason_of_close runs e) (closes.reason left);
    }
