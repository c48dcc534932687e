-- A line that continues ends within a phrase, and shows its value there.
use Rattle.std.proofs.Common.{◌≡◌, inl, inr, ℕ, zero, suc, ◌≤◌, ◌==◌, Bool, true, false, List, [], ◌∷◌, ◌++◌, length, Option, None, Some, Result, Ok, Err, refl, sym, ◌∙◌, subst, append_assoc, append-nil, true≢false, if◌then◌else◌}
use Rattle.std.specs.Prelude.{⊤}
use Rattle.std.proofs.lemmas.Grind.{flat_map-append}
use Rattle.line_editor.specs.EditSteps.{calls_of_steps}
use Rattle.line_buffer.specs.declared.layout.Layout.{Layout}
use Rattle.script.specs.Played.{Played, play_with_first_ask, play_after_answer}
use Rattle.script.specs.Scripts.{Ends, Asks, then}
use Rattle.line_config.specs.declared.errors.ReadlineError.{ReadlineError}
use Rattle.line_config.specs.declared.errors.ReadlineError.TheVariants.{Eof, Interrupted, Memory}
use Rattle.line_help.specs.declared.history.search.SearchDirection.{SearchDirection}
use Rattle.line_help.specs.declared.history.search.SearchDirection.TheVariants.{Forward, Reverse}
use Rattle.line_keys.specs.CustomBindings.{Custom}
use Rattle.line_keys.specs.PhraseScripts.{Answer, KeyScript, Needs, Shows, steps, is_emacs}
use Rattle.line_keys.specs.Refreshing.{Ask}
use Rattle.line_keys.specs.Refreshing.Ask.{Line, Message, Prompted, DoingInsert, DoneInserting}
use Rattle.line_keys.specs.Replies.{Reply}
use Rattle.line_keys.specs.declared.command.Cmd.{Cmd}
use Rattle.line_keys.specs.declared.command.Cmd.TheVariants.{AcceptLine, AcceptOrInsertLine, EndOfFile, Interrupt}
use Rattle.line_editor.specs.Accepting.{accepts, verdict}
use Rattle.line_editor.specs.Drawing.{ask_effect, shown_in}
use Rattle.line_editor.specs.Commands.{Means, means_of, outcome}
use Rattle.line_editor.specs.Leads.{BeginShows, LeadsAlong}
use Rattle.line_editor.specs.LineScripts.{Begins, Keys, Meets, Obeys, LineAsk, LineScript, LineState, answer_at, effect_at, script_of_keys, left_at, line_plan, line_script, meet_script, played_from, steps_along, turn_script, line_script_after, turns_script}
use Rattle.line_editor.specs.ModalCommands.{meeting, modal_seen, sight_in_mode}
use Rattle.line_editor.specs.Modal.{Modal}
use Rattle.line_editor.specs.NextCommand.{line_phrase, ring_after_reset}
use Rattle.line_editor.specs.Redraws.{info_text}
use Rattle.line_editor.specs.Searching.{heading}
use Rattle.line_editor.specs.Sights.{Sight, drawn_spans, sight, sight_all, sight_with, FitsAll}
use Rattle.line_editor.specs.Values.{EditStep, Setting, Value, help_steps, hint_reply, shown_hint, shown_marks}
use Rattle.line_editor.specs.declared.commands.Status.{Status}
use Rattle.line_editor.specs.declared.commands.Status.TheVariants.{Proceed, Submit}
use Rattle.line_editor.specs.declared.modal_state.Standing.{Standing}
use Rattle.line_editor.specs.declared.modal_state.Standing.TheVariants.{Searches}
use Rattle.line_editor.proofs.CommandsLead.{asks_lead}
use Rattle.line_editor.proofs.LeadLemmas.{sight_both}
use Rattle.line_editor.proofs.StopsLemmas.{asked_both}
use Rattle.line_editor.proofs.ToldLemmas.{PlayedOf, follows, joined_on, left_along, played_each, played_then}
use Rattle.line_screen.specs.ScreenCalls.{Screen, bytes_of, ruler_of}
use Rattle.keyline.specs.Shows.{LowAll, bytes_for}
use Rattle.keyline_call.proofs.AnewLemmas.{Anew, Bare, Either, NoneCleared, all_anew, all_either}

-- ---- within a phrase: behind the begin of a turn come requests for keys alone

abbrev pub in_keys : Bool → LineAsk → Bool
in_keys b Begins = true
in_keys b (Keys ask) = b
in_keys b ask = false

abbrev pub in_phrase : Bool → List LineAsk → Bool
in_phrase b [] = b
in_phrase b (ask ∷ asks) = in_phrase (in_keys b ask) asks

in_both : (b : Bool) (xs ys : List LineAsk) → in_phrase b (xs ++ ys) ≡ in_phrase (in_phrase b xs) ys
in_both b [] ys = refl
in_both b (x ∷ xs) ys = in_both (in_keys b x) xs ys

-- an error of no command, and no want of fuel
abbrev pub IsOfPhrase : ReadlineError → Type 0
IsOfPhrase Eof = ⊥
IsOfPhrase Interrupted = ⊥
IsOfPhrase Memory = ⊥
IsOfPhrase why = ⊤

abbrev EndsInPhrase : {X : Type 0} → Bool → Played LineAsk LineState ReadlineError X → Type 0
EndsInPhrase b p = (e : ReadlineError) → p.answer ≡ Err e → IsOfPhrase e → in_phrase b p.asks ≡ true

module _ (s : Setting) where
  abbrev error_of : Result Status ReadlineError → Type 0
  error_of q = (e : ReadlineError) → q ≡ Err e → IsOfPhrase e → ⊥

  end_if : (b emacs : Bool) → error_of (if b then Err Eof else if emacs then Ok Proceed else Ok Submit)
  end_if true emacs e is h = (let same : Eof ≡ e = cc in subst IsOfPhrase (sym same) h)
  end_if false true e is h = cc
  end_if false false e is h = cc

  accepts_if : (b : Bool) → error_of (if b then Ok Submit else Ok Proceed)
  accepts_if true e is h = cc
  accepts_if false e is h = cc

  command_error : (m : Means) (cmd : Cmd) (v : Value) → error_of (outcome m cmd s v)
  command_error m EndOfFile v e is h = end_if (length v.line.text == 0) (is_emacs m.mode) e is h
  command_error m AcceptLine v e is h = cc
  command_error m (AcceptOrInsertLine middle) v e is h = accepts_if (accepts middle (verdict s v) v.line) e is h
  command_error m Interrupt v e is h = (let same : Interrupted ≡ e = cc in subst IsOfPhrase (sym same) h)
  command_error m cmd v e is h = cc

  abbrev spoken : KeyScript Cmd → LineScript Status
  spoken script = (then) (script_of_keys script) meet_script

  obeyed : (cmd : Cmd) (k : LineState) → EndsInPhrase false (played_from s (Asks (Obeys cmd) (λ status. Ends status)) k)
  obeyed cmd k = by (outcome (means_of k.input (ring_after_reset cmd k.ring)) cmd s k.value) (command_error (means_of k.input (ring_after_reset cmd k.ring)) cmd k.value)
    where
      by : (q : Result Status ReadlineError) → error_of q
          → EndsInPhrase false (play_after_answer (λ status. record { answer = Ok status; asks = []; rest = left_at s k (Obeys cmd) }) (Obeys cmd) (left_at s k (Obeys cmd)) q)
      by (Ok status) none e is h = cc
      by (Err d) none e is h = absurd (none e is h)

  phrase_ends : (script : KeyScript Cmd) (k : LineState) → EndsInPhrase true (played_from s (spoken script) k)
  phrase_ends (Ends cmd) k e is h =
      let left = left_at s k (Meets cmd) in
      obeyed (meeting k.modal cmd s k.value).next left e is h
  phrase_ends (Asks ask later) k e is h =
      let left = left_at s k (Keys ask) in
      let next : Answer ask → PlayedOf s Status = λ y. played_from s (spoken (later y)) left in
      played_each (EndsInPhrase true) next (Keys ask) left (λ y. phrase_ends (later y) left) (λ e d is h. refl) (answer_at s k (Keys ask)) e is h

  error_same : {X Y : Type 0} (d e : ReadlineError) → (let a : Result X ReadlineError = Err d in let b : Result X ReadlineError = Err e in a ≡ b) → (let a : Result Y ReadlineError = Err d in let b : Result Y ReadlineError = Err e in a ≡ b)
  error_same d e is = cc

  turns_end : (n : ℕ) (custom : Custom) (b : Bool) (k : LineState) → EndsInPhrase b (played_from s (turns_script n custom) k)
  unfolding turns_script turn_script
  turns_end zero custom b k e is h = (let same : Memory ≡ e = cc in absurd (subst IsOfPhrase (sym same) h))
  turns_end (suc n) custom b k e is h =
      let plan = line_plan s in
      let script = steps (line_phrase custom k.input (shown_in k.value)) (suc n) in
      let said = played_from s (spoken script) k in
      subst (λ p. EndsInPhrase b (play_with_first_ask Begins p)) (sym (played_then plan (line_script_after (turns_script n custom)) (spoken script) k))
      (after n custom said (λ j. turns_end n custom (in_phrase true said.asks) j) (phrase_ends script k) said.answer refl) e is h
    where
      after : (n : ℕ) (custom : Custom) (said : PlayedOf s Status) → ((j : LineState) → EndsInPhrase (in_phrase true said.asks) (played_from s (turns_script n custom) j))
          → EndsInPhrase true said → (q : Result Status ReadlineError) → said.answer ≡ q
          → EndsInPhrase true (joined_on (follows (line_plan s) (line_script_after (turns_script n custom))) said.asks said.rest q)
      after n custom said later ends (Ok Proceed) is e answer h = in_both true said.asks _ ∙ later said.rest e answer h
      after n custom said later ends (Ok Submit) is e answer h = cc
      after n custom said later ends (Err d) is e answer h = (let failed : Result Status ReadlineError = Err d in let same : failed ≡ Err e = error_same d e answer in ends e (is ∙ same) h)

  pub line_ends : (n : ℕ) (custom : Custom) (k : LineState) → EndsInPhrase false (played_from s (line_script n custom) k)
  unfolding line_script
  line_ends n custom k e is h = turns_end n custom false _ e is h

-- ---- what is shown at a turn's begin

not_prompt : (dir : SearchDirection) (fails : Bool) (more : List ℕ) → heading dir fails ++ more ≡ [] → ⊥
not_prompt Reverse false more h = cc
not_prompt Reverse true more h = cc
not_prompt Forward false more h = cc
not_prompt Forward true more h = cc

not_bare : (at : Standing) (m : Modal) (a : Setting) (v : Value) (info : Option (List ℕ)) → Bare (sight_in_mode at m a v info) → ⊥
not_bare Searches m a v info b = not_prompt m.dir m.fails _ b.prompt
not_bare _ m a v info b = true≢false b.given

-- the value's line and its cursor are shown, with the styles of the value
pub record Seen (a : Setting) (v : Value) (x : Sight) : Type 0 where
  pub line : x.line ≡ v.line.text
  pub place : x.place ≡ v.line.place
  pub rests : x.ended ≡ false
  pub spans : x.spans ≡ drawn_spans (shown_marks v a.marks) x.given x.prompt x.line x.place (info_text x.info)

seen_so : (at : Standing) (m : Modal) (a : Setting) (v : Value) (info : Option (List ℕ)) → Seen a v (sight_in_mode at m a v info)
seen_so Searches m a v info = record { line = refl; place = refl; rests = refl; spans = refl }
seen_so _ m a v info = record { line = refl; place = refl; rests = refl; spans = refl }

-- ---- what a phrase asks for

helped_quiet : {A : Type 0} (s : Screen) (low : 2 ≤ s.columns) (high : s.columns ≤ 1000) (own : List ℕ) (v : Value) (reply : Option (Reply A)) (rs : List EditStep) → NoneCleared s low high own rs
    → NoneCleared s low high own (help_steps v reply ++ rs)
helped_quiet s low high own v None rs h = h
helped_quiet s low high own v (Some reply) rs h = (tt, h)

ask_quiet : (s : Screen) (low : 2 ≤ s.columns) (high : s.columns ≤ 1000) (own : List ℕ) (ask : Ask) (a : Setting) (v : Value) → NoneCleared s low high own (ask_effect ask a v).steps
ask_quiet s low high own Line a v = helped_quiet s low high own v (hint_reply a v) _ (tt, tt)
ask_quiet s low high own (Message text kind) a v = (tt, tt)
ask_quiet s low high own (Prompted prompt) a v = helped_quiet s low high own v (hint_reply a v) _ (tt, tt)
ask_quiet s low high own DoingInsert a v = (tt, tt)
ask_quiet s low high own DoneInserting a v = tt

-- a drawing of the value, whatever was shown before
drawn_seen : (given : Bool) (prompt : List ℕ) (a : Setting) (v : Value) (info : Option (List ℕ)) → Seen a v (sight_with (shown_marks v a.marks) given prompt v.line.text v.line.place info)
drawn_seen given prompt a v info = record { line = refl; place = refl; rests = refl; spans = refl }

ask_seen : (ask : Ask) (a : Setting) (v : Value) (x : Sight) → Seen a v x → (let e = ask_effect ask a v in Seen a e.value (sight_all x e.steps))
ask_seen Line a v x h = let w = (ask_effect Line a v).value in subst (Seen a w) (sym (asks_lead Line a v x).leads) (drawn_seen true a.prompt a w (shown_hint w))
ask_seen (Message text kind) a v x h = drawn_seen true a.prompt a (ask_effect (Message text kind) a v).value text
ask_seen (Prompted prompt) a v x h = let w = (ask_effect (Prompted prompt) a v).value in subst (Seen a w) (sym (asks_lead (Prompted prompt) a v x).leads) (drawn_seen false prompt a w (shown_hint w))
ask_seen DoingInsert a v x h = record { line = h.line; place = h.place; rests = h.rests; spans = h.spans }
ask_seen DoneInserting a v x h = record { line = h.line; place = h.place; rests = h.rests; spans = h.spans }

-- ---- request after request

low_first : (s : Screen) (x : Sight) (xs ys : List EditStep) → LowAll s x (xs ++ ys) → LowAll s x xs
low_first s x [] ys h = tt
low_first s x (r ∷ xs) ys h = (h.0, low_first s (sight x r) xs ys h.1)

low_later : (s : Screen) (x : Sight) (xs ys : List EditStep) → LowAll s x (xs ++ ys) → LowAll s (sight_all x xs) ys
low_later s x [] ys h = h
low_later s x (r ∷ xs) ys h = low_later s (sight x r) xs ys h.1

module _ (s : Screen) (low : 2 ≤ s.columns) (high : s.columns ≤ 1000) (a : Setting) where
  -- within a phrase they show the value by themselves
  pub record At (b : Bool) (bytes : List ℕ) (l : Layout) (x : Sight) (k : LineState) : Type 0 where
    pub either : Either s low high a.prompt bytes l x
    pub anew : b ≡ true → Anew s low high a.prompt bytes l x
    pub seen : b ≡ true → Seen a k.value x

  abbrev AtAfter : Bool → List ℕ → Layout → Sight → LineState → LineAsk → Type 0
  AtAfter b bytes l x k ask =
      let rs = (effect_at a k ask).steps in At (in_keys b ask) (bytes ++ bytes_for s l rs) (calls_of_steps (ruler_of s) l rs).layout (sight_all x rs) (left_at a k ask)

  -- the turn's begin
  begun : (x : Sight) (k : LineState) (bytes : List ℕ) (l : Layout) → Either s low high a.prompt bytes l x → x ≡ modal_seen k.modal a k.value x.info → Anew s low high a.prompt bytes l x × Seen a k.value x
  begun x k bytes l (inl it) is = (it, subst (Seen a k.value) (sym is) (seen_so k.modal.standing k.modal a k.value x.info))
  begun x k bytes l (inr bare) is = absurd (not_bare k.modal.standing k.modal a k.value x.info (subst Bare is bare))

  outside : (bytes : List ℕ) (l : Layout) (x : Sight) (k : LineState) → Either s low high a.prompt bytes l x → At false bytes l x k
  outside bytes l x k h = record { either = h; anew = λ e. cc; seen = λ e. cc }

  inside : (b : Bool) (bytes : List ℕ) (l : Layout) (x : Sight) (k j : LineState) (rs : List EditStep) → At b bytes l x k → FitsAll a.prompt x rs → LowAll s x rs → NoneCleared s low high a.prompt rs
      → (Seen a k.value x → Seen a j.value (sight_all x rs)) → At b (bytes ++ bytes_for s l rs) (calls_of_steps (ruler_of s) l rs).layout (sight_all x rs) j
  inside b bytes l x k j rs at fits rows none on = record {
    either = all_either s low high a.prompt rs bytes l x at.either fits rows;
    anew = λ e. all_anew s low high a.prompt rs bytes l x (at.anew e) fits rows none;
    seen = λ e. on (at.seen e);
  }

  one_ask : (ask : LineAsk) (k : LineState) (b : Bool) (bytes : List ℕ) (l : Layout) (x : Sight) → (let rs = (effect_at a k ask).steps in
      At b bytes l x k → FitsAll a.prompt x rs → LowAll s x rs → BeginShows a ask k (sight_all x rs) → AtAfter b bytes l x k ask)
  one_ask Begins k b bytes l x at fits rows begins =
      let h = all_either s low high a.prompt [] bytes l x at.either tt tt in
      let both = begun x k (bytes ++ bytes_for s l []) l h begins in
      record { either = h; anew = λ e. both.0; seen = λ e. both.1 }
  one_ask (Keys Needs) k b bytes l x at fits rows begins = inside b bytes l x k (left_at a k (Keys Needs)) (effect_at a k (Keys Needs)).steps at fits rows (tt, tt) (λ h. h)
  one_ask (Keys (Shows ask)) k b bytes l x at fits rows begins =
      inside b bytes l x k (left_at a k (Keys (Shows ask))) (ask_effect ask a k.value).steps at fits rows (ask_quiet s low high a.prompt ask a k.value) (ask_seen ask a k.value x)
  one_ask (Keys ask) k b bytes l x at fits rows begins = inside b bytes l x k (left_at a k (Keys ask)) [] at fits rows tt (λ h. h)
  one_ask ask k b bytes l x at fits rows begins =
      let rs = (effect_at a k ask).steps in outside (bytes ++ bytes_for s l rs) (calls_of_steps (ruler_of s) l rs).layout (sight_all x rs) (left_at a k ask) (all_either s low high a.prompt rs bytes l x at.either fits rows)

  pub walk : (o : Result (List ℕ) ReadlineError) (asks : List LineAsk) (k : LineState) (b : Bool) (bytes : List ℕ) (l : Layout) (x : Sight) → (let rs = steps_along a k asks in
      At b bytes l x k → LeadsAlong a o k x asks → LowAll s x rs → At (in_phrase b asks) (bytes ++ bytes_for s l rs) (calls_of_steps (ruler_of s) l rs).layout (sight_all x rs) (left_along a k asks))
  walk o [] k b bytes l x at leads rows = subst (λ z. At b z l x k) (sym (append-nil bytes)) at
  walk o (ask ∷ asks) k b bytes l x at leads rows =
      let first = (effect_at a k ask).steps in
      let left = left_at a k ask in
      let rest = steps_along a left asks in
      let m = calls_of_steps (ruler_of s) l first in
      let here = one_ask ask k b bytes l x at leads.0 (low_first s x first rest rows) leads.1 in
      let on = walk o asks left (in_keys b ask) (bytes ++ bytes_for s l first) m.layout (sight_all x first) here leads.2 (low_later s x first rest rows) in
      rw (sight_both x first rest, asked_both (ruler_of s) l first rest, flat_map-append (bytes_of s) m.calls (calls_of_steps (ruler_of s) m.layout rest).calls, ← append_assoc bytes (bytes_for s l first) (bytes_for s m.layout rest)) on
