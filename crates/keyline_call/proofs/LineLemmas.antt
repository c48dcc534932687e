-- What `run` leaves, and then the line's end; and a line of valid arguments.
use Rattle.std.proofs.Common.{◌≡◌, inl, inr, ℕ, Bool, true, false, List, [], ◌∷◌, ◌++◌, Option, None, length, ◌+◌, arith, Result, Ok, Err, refl, sym, ap, ◌∙◌, subst, IsTrue}
use Rattle.std.specs.List.{flat_map}
use Rattle.std.specs.Prelude.{⊤, IsErrAnd, String, if◌then◌else◌, string_bytes, Bool, true, false, Option, ◌==◌}
use Rattle.std.proofs.lemmas.Grind.{flat_map-append}
use Rattle.std.specs.Global.{Global}
use Rattle.line_config.specs.Feed.{Feed}
use Rattle.line_config.specs.declared.config.Config.{Config}
use Rattle.line_config.specs.declared.device.Last.{Last}
use Rattle.line_config.specs.declared.errors.ReadlineError.{ReadlineError}
use Rattle.line_config.specs.declared.errors.ReadlineError.TheVariants.{Display, Helper, Memory}
use Rattle.line_config.specs.declared.memory.SliceSource.{SliceSource}
use Rattle.line_config.specs.declared.memory.VecSink.{VecSink}
use Rattle.line_editor.specs.LineScripts.{LineStage, LineState, line_state, line_script, line_stage}
use Rattle.line_editor.specs.Modal.{Modal}
use Rattle.line_editor.specs.Redraws.{fresh}
use Rattle.line_editor.specs.LineRun.{Helping, IsOpen, Runs, first_line_state, outcome_of, stage_first, breaks_after}
use Rattle.line_editor.specs.EditSteps.{surface}
use Rattle.line_editor.specs.Values.{Setting, Value, first_value}
use Rattle.line_editor.specs.States.{reason_of}
use Rattle.line_editor.specs.declared.line_run.Ran.{Ran}
use Rattle.line_help.specs.History.{Filed}
use Rattle.line_keys.specs.CustomBindings.{Custom}
use Rattle.line_keys.specs.KeyFeeds.{KeyFeed, Coming, answer_map, bytes_to_come}
use Rattle.line_keys.specs.PhraseScripts.{Input}
use Rattle.line_buffer.specs.Line.{Line}
use Rattle.line_buffer.specs.declared.layout.Layout.{Layout}
use Rattle.line_record.specs.Ring.{Ring}
use Rattle.line_screen.specs.ScreenCalls.{canvas_of, screen_of, sink_of, ruler_of}
use Rattle.line_screen.specs.Reader.{coming_in, bytes_left_in}
use Rattle.line_screen.proofs.Outcomes.{unread_in}
use Rattle.std.specs.Option.{option_len}
use Rattle.line_screen.specs.Drawing.{break_if}
use Rattle.line_screen.specs.declared.reading.reader.KeyReader.{KeyReader}
use Rattle.line_screen.specs.declared.renderer.ScreenRenderer.{ScreenRenderer}
use Rattle.keyline.specs.Program.{EditHelper, edit_helping, given_with, helper_of, config_of}
use Rattle.keyline.specs.declared.options.Options.{Options}
use Rattle.keyline.specs.Events.{Breaks, SessionEvent, asks_events, bytes_drawn, end_events, line_course, line_play_in}
use Rattle.keyline.specs.SessionEffects.{breaks}
use Rattle.keyline.specs.Sessions.{coming_from, Given, SessionState, given_of, history_after, screen_by, setting_in, state_at}
use Rattle.keyline.proofs.CloseLemmas.{EndIsDrawn}
use Rattle.keyline.proofs.EventLemmas.{Whole, line_went, went_not}
use Rattle.keyline_call.specs.Lines.{IsWant, LeftBy, ReadsLine, ReadsKeys, last_of}
use Rattle.keyline_call.specs.declared.line.Left.{Left}
use Rattle.line_config.specs.declared.settings.HistoryDuplicates.TheVariants.{AlwaysAdd}
use Rattle.line_keys.specs.declared.events.Event.{Event}
use Rattle.keyline.specs.SessionCalls.{history_loaded_from}
use Rattle.keyline_call.specs.Asks.{AreAsked, custom_by_asking}
use Rattle.keyline_call.specs.Meant.{AreMeant, AreValid, settings_by, whole, words_in}
use Rattle.keyline_call.specs.Slots.{IsRingOf}
use Rattle.keyline_call.specs.declared.asking.Asking.{Asking}
use Rattle.keyline_call.specs.declared.export.KeylineOptions.{KeylineOptions}

wanting : (failed : Bool) (hook : Type 0) (e : ReadlineError) → reason_of failed hook e → IsWant e
wanting failed hook Memory is = inl refl
wanting failed hook Display is = inr (inl refl)
wanting failed hook Helper is = inr (inr refl)
wanting failed hook _ is = absurd is

wants : (o : Result (String Global) ReadlineError) (e : ReadlineError) → answer_map string_bytes o ≡ Err e → IsWant e → IsErrAnd o IsWant
wants (Ok x) e is want = absurd (cc)
wants (Err d) e is want = let same : d ≡ e = cc in subst IsWant (sym same) want

end_bytes : (o : Result (List ℕ) ReadlineError) → flat_map bytes_drawn (end_events o) ≡ break_if (breaks o)
end_bytes (Ok text) = refl
end_bytes (Err e) = by (breaks_after e)
  where
    by : (b : Bool) → flat_map bytes_drawn (if b then Breaks ∷ [] else []) ≡ break_if b
    by true = refl
    by false = refl

module _ {H K T : Type 0} (held waits : VecSink → List ℕ) (failed : VecSink → Bool) (helps : Option H → Helping) (config : Config) (custom : Custom) (prompt : List ℕ) (helper : Option H)
    (old : ScreenRenderer VecSink) (display : VecSink) (ring ring' : Ring) (query query' : List ℕ) (history history' : Filed) (feed feed' : KeyFeed) (ran : Ran (ScreenRenderer VecSink) H K T) (F : SliceSource → Feed) (reader : KeyReader SliceSource) (left : Left) where
  abbrev given : Given
  given = given_of config custom prompt (screen_of old) (helps helper)

  abbrev state : SessionState
  state = record { ring = ring; query = query; history = history; coming = feed.coming }

  module _ (ends : EndIsDrawn held failed true (outcome_of ran) (sink_of ran.out) display history history') (fresh_is : held (sink_of old) ≡ []) (adds : config.auto_add_history ≡ true)
      (outcome_is : left.outcome ≡ ran.outcome) (open_is : left.open_line ≡ ran.open_line) (display_is : left.display ≡ display) (ring_is : left.ring ≡ ring') (history_is : left.history ≡ history')
      (rest_is : left.rest ≡ length (bytes_left_in F reader)) (coming_is : coming_in F reader ≡ feed'.coming) where
    abbrev setting : Setting
    setting = setting_in given history.kept.entries

    abbrev first : LineStage (ScreenRenderer VecSink)
    first = stage_first old (ruler_of (screen_of old)) setting ring query feed.coming

    -- no lines are written here
    abbrev unwritten : Unit {0} → List ℕ
    unwritten none = []

    abbrev LineWhole : ℕ → LineStage (ScreenRenderer VecSink) → Type 0
    LineWhole n y = Whole held unwritten true (tt {0}) history waits failed (screen_of old) setting (line_script n custom) first y (outcome_of ran)

    line_left : (n : ℕ) (value : Value) (input : Input) (modal : Modal) → IsOpen ran.outcome (first_value setting) value ran.open_line → (line_play_in n given state).rest ≡ line_state value input ring' modal feed'.coming
        → IsOpen left.outcome (first_value setting) (line_play_in n given state).rest.value left.open_line
    line_left n value input modal standing rest =
        subst (λ (k : LineState). IsOpen left.outcome (first_value setting) k.value left.open_line) (sym rest)
        (subst (λ (o : Result (String Global) ReadlineError). IsOpen o (first_value setting) value left.open_line) (sym outcome_is)
        (subst (λ (l : Option Line). IsOpen ran.outcome (first_value setting) value l) (sym open_is) standing))

    left_whole : (n : ℕ) (value : Value) (input : Input) (modal : Modal) (layout : Layout) → IsOpen ran.outcome (first_value setting) value ran.open_line → LineWhole n (line_stage (surface ran.out layout) (line_state value input ring' modal feed'.coming))
        → LeftBy held (line_course n given state) (first_value setting) (line_play_in n given state).rest.value left
    left_whole n value input modal layout standing w =
        let c = line_course n given state in
        let o = c.answer.0 in
        let asks : List SessionEvent = asks_events (screen_of old) setting (fresh (screen_of old).mode) (first_line_state setting ring query feed.coming) (line_play_in n given state).asks in
        let rest : LineState → Coming = λ k. k.coming in
        record {
          rest_is = rest_is ∙ ap (λ (x : List ℕ). length x) (sym (unread_in F reader) ∙ ap bytes_to_come (coming_is ∙ ap rest (sym w.rest_is)));
          outcome_is = ap (answer_map string_bytes) outcome_is ∙ sym w.answer_is;
          line_is = line_left n value input modal standing w.rest_is;
          drawn = ap held display_is ∙ (ends.0.drawn ∙ (ap (λ o. held (sink_of ran.out) ++ break_if (breaks o)) (sym w.answer_is)
              ∙ (ap (λ bytes. bytes ++ break_if (breaks o)) w.are_done.drawn
              ∙ (ap (λ bytes. (bytes ++ flat_map bytes_drawn asks) ++ break_if (breaks o)) fresh_is
              ∙ (ap (λ bytes. flat_map bytes_drawn asks ++ bytes) (sym (end_bytes o)) ∙ sym (flat_map-append bytes_drawn asks (end_events o)))))));
          ring_is = ring_is ∙ ap (λ (k : LineState). k.ring) (sym w.rest_is);
          history_is = history_is ∙ (ends.1 ∙ (ap (λ o. history_after true o history) (sym w.answer_is) ∙ ap (λ b. history_after b o history) (sym adds)));
        }

    pub reads_line : Runs (canvas_of held waits failed) helps custom prompt helper history.kept.entries config old ring query feed ran ring' query' feed' → IsTrue feed'.told
        → ReadsLine held given state feed.bound left
    reads_line runs told = record {
      goes = λ n b.
          let y = line_stage (surface ran.out runs.layout) (line_state runs.value runs.input ring' runs.modal feed'.coming) in
          elim (line_went held unwritten true (tt {0}) history waits failed (screen_of old) setting (line_script n custom) first y (outcome_of ran) refl (runs.goes told n b)) [
            | inl w ↦ inl (left_whole n runs.value runs.input runs.modal runs.layout runs.line_is w)
            | inr cut ↦ inr (went_not (λ e is. wants left.outcome e (ap (answer_map string_bytes) outcome_is ∙ is.0) (wanting true ⊤ e is.1)) cut)
          ];
    }

-- a reader that keeps no byte reads no more than its source has
pub bound_at : (kept : Option ℕ) (count : ℕ) (keys : List ℕ) → kept ≡ None → count ≡ length keys → count + option_len kept ≡ length keys
bound_at kept count keys none is = rw (none, is) (search arith)

-- the same by the settings and the options of the line
pub line_read : {K T : Type 0} (held waits : VecSink → List ℕ) (failed : VecSink → Bool) (config : Config) (options : Options) (words : Option (List (List ℕ))) (keys : List ℕ) (last : Last) (custom bound_to : Custom) (prompt : List ℕ)
    (helper : Option EditHelper) (old : ScreenRenderer VecSink) (display : VecSink) (ring ring' : Ring) (query query' : List ℕ) (history history' : Filed) (feed feed' : KeyFeed) (ran : Ran (ScreenRenderer VecSink) EditHelper K T) (F : SliceSource → Feed) (reader : KeyReader SliceSource) (left : Left)
    → Runs (canvas_of held waits failed) edit_helping custom prompt helper history.kept.entries config old ring query feed ran ring' query' feed' → IsTrue feed'.told
    → EndIsDrawn held failed true (outcome_of ran) (sink_of ran.out) display history history' → held (sink_of old) ≡ []
    → config.auto_add_history ≡ true → custom ≡ bound_to → prompt ≡ string_bytes options.prompt → helper ≡ helper_of config options words
    → screen_of old ≡ screen_by config options.columns
    → feed.coming ≡ coming_from options.mode keys last → feed.bound ≡ length keys
    → query ≡ [] → left.outcome ≡ ran.outcome → left.open_line ≡ ran.open_line → left.display ≡ display → left.ring ≡ ring' → left.history ≡ history'
    → left.rest ≡ length (bytes_left_in F reader) → coming_in F reader ≡ feed'.coming
    → ReadsLine held (given_with config bound_to options words) (state_at ring [] history (coming_from options.mode keys last)) (length keys) left
line_read held waits failed config options words keys last custom bound_to prompt helper old display ring ring' query query' history history' feed feed' ran F reader left runs told ends fresh adds custom_is prompt_is helper_is screen_is coming_is bound_is none a open_is b d e rest_is left_is =
    let read = reads_line held waits failed edit_helping config custom prompt helper old display ring ring' query query' history history' feed feed' ran F reader left ends fresh adds a open_is b d e rest_is left_is runs told in
    rw (none, custom_is, prompt_is, helper_is, screen_is, coming_is, bound_is) at read

-- ---- a line of valid arguments

-- an accepted line is added to the history
pub adds_lines : (options : KeylineOptions) (chosen : Options) → (settings_by options (config_of chosen)).auto_add_history ≡ true
adds_lines options chosen = by (options.entries == 0)
  where
    by : (none : Bool) → (if none then config_of chosen else record (config_of chosen) { max_history_size = options.entries; history_duplicates = AlwaysAdd }).auto_add_history ≡ true
    by true = refl
    by false = refl

module _ (options : KeylineOptions) (prompt words history kills ends : List ℕ) (valid : AreValid options prompt words history kills ends) where
  -- a line of what words, history and ring are meant
  pub keys_read : (held : VecSink → List ℕ) (keys asks : List ℕ) (left : Left) (chosen : Options) (config : Config) (bindings : List (Event × Asking)) (ring : Ring) (given : Option (List (List ℕ))) (filed : Filed) (shown : List ℕ)
      → shown ≡ prompt → AreMeant options shown chosen → config ≡ settings_by options (config_of chosen) → IsRingOf kills ends options.place ring → given ≡ words_in words → filed ≡ history_loaded_from config (whole history) → AreAsked chosen.mode asks bindings
      → ReadsLine held (given_with config (custom_by_asking bindings) chosen given) (state_at ring [] filed (coming_from chosen.mode keys (last_of options.ended))) (length keys) left
      → ReadsKeys options prompt words history kills ends held keys asks left
  keys_read held keys asks left chosen config bindings ring given filed shown is_prompt meant is_config held_by is_given is_filed asked reads = record {
    valid = record { mode_is = valid.mode_is; columns_are = valid.columns_are; prompt_is = valid.prompt_is; words_are = valid.words_are; history_is = valid.history_is; ring_is = (ring, held_by) };
    chosen = chosen;
    bindings = bindings;
    are_asked = asked;
    meant = rw is_prompt at meant;
    reads = rw (is_filed, is_given, is_config) at reads;
  }
