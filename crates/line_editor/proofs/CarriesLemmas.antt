-- The loop of a line: what was done so far by turns, and what is left.
use Rattle.std.proofs.Common.{◌≡◌, inl, inr, ℕ, zero, suc, ◌<◌, ◌≤◌, List, refl, sym, ap, subst, ◌∙◌, IsTrue, arith, le_refl}
use Rattle.std.specs.Prelude.{Result, Ok, Err, IfErr, OnOk, IsErrAnd}
use Rattle.std.specs.Result.{result_and}
use Rattle.line_config.specs.declared.errors.ReadlineError.{ReadlineError}
use Rattle.script.specs.Scripts.{Ends, Asks, World, Goes}
use Rattle.script.proofs.ScriptLaws.{then_goes, then_cut}
use Rattle.line_help.specs.declared.completion as completions
use Rattle.line_help.specs.declared.helpers.hint as hints
use Rattle.line_help.specs.declared.helpers.highlight as highlights
use Rattle.line_help.specs.declared.helpers.validate as verdicts
use Rattle.line_help.specs.declared.history as histories
use Rattle.line_keys.specs.CustomBindings.{Custom, custom_of, Meaning}
use Rattle.line_keys.specs.InputStates.{custom_in}
use Rattle.line_keys.specs.declared.keymap.InputState.{InputState}
use Rattle.line_keys.specs.KeyFeeds.{KeyFeed, Coming}
use Rattle.line_keys.specs.PhraseScripts.{Input}
use Rattle.line_record.specs.Ring.{Ring}
use Rattle.line_editor.specs.Accepting.{submit_effect}
use Rattle.line_editor.specs.Drawing.{refresh_effect}
use Rattle.line_editor.specs.LineScripts.{LineAsk, LineAnswer, LineScript, Makes, LineStage, line_state, line_script_after, turn_script, turns_script, line_script}
use Rattle.line_editor.specs.Modal.{Modal}
use Rattle.line_editor.specs.States.{value_of, Reason, Stays, Does, Cause, RunsScript, stage_of, world_of}
use Rattle.line_editor.specs.Values.{Value, Transition, memory_effect, then_do}
use Rattle.line_editor.specs.declared.commands.Status.{Status, TheVariants.Proceed, TheVariants.Submit}
use Rattle.line_editor.specs.declared.renderer as renderers
use Rattle.line_editor.specs.declared.state.State.{State}
use Rattle.line_editor.proofs.CommandedLemmas.{edit_cause}
use Rattle.line_editor.proofs.DoesLemmas.{is_err, stays_same, stays_both}
use Rattle.line_editor.proofs.PhraseGoes.{world_stays, edit_drawn, edit_value, edit_stops}
use Rattle.line_editor.proofs.MeetLemmas.{taken_then}

-- bindings that stayed
pub same_custom : {D : Type 0} (s s' : InputState D) (means : D → Meaning) → s.custom_bindings ≡ s'.custom_bindings → custom_in s means ≡ custom_in s' means
same_custom s s' means same = ap (λ b. custom_of b.now means) same

-- a number that isn't 0, as the fuel of a turn
record Some (m : ℕ) : Type 0 where
  less : ℕ
  is : m ≡ suc less

some_fuel : (m bound : ℕ) → bound < m → Some m
some_fuel zero bound h = absurd (omega arith)
some_fuel (suc k) bound h = record { less = k; is = refl }

on_ok : {A P : Type 0} (result : Result A ReadlineError) (text : List ℕ) → P → OnOk (result_and result (Ok text)) P
on_ok (Ok x) text h = h
on_ok (Err e) text h = tt

-- ---- turns one after the other

module _ {R : Type 0} (w : World LineAsk LineAnswer (LineStage R) ReadlineError) (n : ℕ) (custom : Custom) where
  pub turns_on : (status : Status) (result : Result (List ℕ) ReadlineError) (x y z : LineStage R) → Goes w (turn_script (suc n) custom) x (Ok status) y
      → Goes w (line_script_after (turns_script n custom) status) y result z → Goes w (turns_script (suc n) custom) x result z
  unfolding turns_script
  turns_on status result x y z first rest = then_goes w (turn_script (suc n) custom) (line_script_after (turns_script n custom)) status result x y z first rest

  pub turns_ended : (e : ReadlineError) (x y : LineStage R) → Goes w (turn_script (suc n) custom) x (Err e) y → Goes w (turns_script (suc n) custom) x (Err e) y
  unfolding turns_script
  turns_ended e x y first = then_cut w (turn_script (suc n) custom) (line_script_after (turns_script n custom)) e x y first

module _ {Out H Hi K T : Type 0} {renderer : renderers.Renderer.Ghosts Out} {completer : completions.Completer.Ghosts H K} {candidate : completions.Candidate.Ghosts K}
    {hinter : hints.Hinter.Ghosts H T} {hint : hints.Hint.Ghosts T} {highlighter : highlights.Highlighter.Ghosts H} {validator : verdicts.Validator.Ghosts H} {history : histories.History.Ghosts Hi} where
  caused : {A : Type 0} (custom : Custom) (t : State Out H Hi K T renderer completer candidate hinter hint highlighter validator history) (feed : KeyFeed) (result : Result A ReadlineError) (text : List ℕ)
      → IfErr result (Reason t) → IfErr (result_and result (Ok text)) (λ e. Cause custom t feed e)
  caused custom t feed (Ok x) text why = tt
  caused custom t feed (Err e) text why = edit_cause custom t feed e why

  -- an edit alone, whatever follows it
  module _ (s m t : State Out H Hi K T renderer completer candidate hinter hint highlighter validator history) (stays : Stays s m) (edit : Transition) (i : Input) (r : Ring) (q : Modal) (c : Coming) {X : Type 0} (later : Value → LineScript X) where
    pub makes : {A : Type 0} (x : A) (result : Result X ReadlineError) (z : LineStage Out) → Does edit m t (Ok x)
        → Goes (world_of s) (later (value_of t)) (stage_of t i r q c) result z → Goes (world_of s) (Asks (Makes edit) later) (stage_of m i r q c) result z
    makes x result z h goes =
        let value = edit_value s m t stays edit x h in
        inl (value_of t, stage_of t i r q c, (ap Ok (sym value), ap (λ v. line_state v i r q c) value, edit_drawn s m t stays edit x h), goes)

    pub unmade : {A : Type 0} (e : ReadlineError) → Does {A = A} edit m t (Err e) → Goes (world_of s) (Asks (Makes edit) later) (stage_of m i r q c) (Err e) (stage_of t i r q c)
    unmade e h = inr (e, inr (inl (edit_stops s m t stays edit e h, refl)), refl)

  -- the line's close, with its text
  closes : {A : Type 0} (s m t : State Out H Hi K T renderer completer candidate hinter hint highlighter validator history) (i : Input) (r : Ring) (q : Modal) (c : Coming) (result : Result A ReadlineError) → Stays s m → Does submit_effect m t result
      → Goes (world_of s) (Asks (Makes submit_effect) (λ v. Ends v.line.text)) (stage_of m i r q c) (result_and result (Ok t.recorded.line.text)) (stage_of t i r q c)
  closes s m t i r q c (Ok x) stays h = makes s m t stays submit_effect i r q c (λ v. Ends v.line.text) x (Ok t.recorded.line.text) (stage_of t i r q c) h (refl, refl)
  closes {A} s m t i r q c (Err e) stays h = unmade s m t stays submit_effect i r q c (λ v. Ends v.line.text) {A = A} e h

  -- ---- the loop

  module _ (custom : Custom) (s : State Out H Hi K T renderer completer candidate hinter hint highlighter validator history) (i : Input) (r : Ring) (q : Modal) (feed : KeyFeed) where
    -- whatever is left goes on from here
    pub record Carried (n : ℕ) (m : State Out H Hi K T renderer completer candidate hinter hint highlighter validator history) (i' : Input) (r' : Ring) (q' : Modal) (feed' : KeyFeed) : Type 0 where
      pub fuel : ℕ
      pub enough : feed'.bound < fuel
      pub onward : (result : Result (List ℕ) ReadlineError) (y : LineStage Out) → Goes (world_of s) (turns_script fuel custom) (stage_of m i' r' q' feed'.coming) result y
          → Goes (world_of s) (turns_script n custom) (stage_of s i r q feed.coming) result y

    -- at the head of the loop
    pub record Carries (m : State Out H Hi K T renderer completer candidate hinter hint highlighter validator history) (i' : Input) (r' : Ring) (q' : Modal) (feed' : KeyFeed) : Type 0 where
      pub goes : IsTrue feed'.told → (n : ℕ) → feed.bound < n → Carried n m i' r' q' feed'
      pub stays : IsTrue feed'.told → Stays s m
      pub told : IsTrue feed'.told → IsTrue feed.told
      pub keeps : feed'.bound ≤ feed.bound
      pub mode : i'.mode ≡ i.mode

    pub carries_first : Carries s i r q feed
    carries_first = record {
      goes = λ told n h. record { fuel = n; enough = h; onward = λ result y goes. goes };
      stays = λ told. stays_same s;
      told = λ h. h;
      keeps = le_refl feed.bound;
      mode = refl;
    }

    module _ (m : State Out H Hi K T renderer completer candidate hinter hint highlighter validator history) (i1 : Input) (r1 : Ring) (q1 : Modal) (feed1 : KeyFeed) (so_far : Carries m i1 r1 q1 feed1) (kept : Custom) (same : kept ≡ custom) where
      abbrev TakesTurn : State Out H Hi K T renderer completer candidate hinter hint highlighter validator history → Input → Ring → Modal → KeyFeed → Result Status ReadlineError → Type 0
      TakesTurn t i2 r2 q2 feed2 result = RunsScript turn_script kept m i1 r1 q1 feed1 t i2 r2 q2 feed2 result

      module _ (t : State Out H Hi K T renderer completer candidate hinter hint highlighter validator history) (i2 : Input) (r2 : Ring) (q2 : Modal) (feed2 : KeyFeed) (told : IsTrue feed1.told) where
        -- the turn, in the line's world
        turn_here : (n : ℕ) (result : Result Status ReadlineError) → Goes (world_of m) (turn_script n kept) (stage_of m i1 r1 q1 feed1.coming) result (stage_of t i2 r2 q2 feed2.coming)
            → Goes (world_of s) (turn_script n custom) (stage_of m i1 r1 q1 feed1.coming) result (stage_of t i2 r2 q2 feed2.coming)
        turn_here n result goes =
            subst (λ w. Goes w (turn_script n custom) (stage_of m i1 r1 q1 feed1.coming) result (stage_of t i2 r2 q2 feed2.coming)) (world_stays s m (so_far.stays told))
            (subst (λ x. Goes (world_of m) (turn_script n x) (stage_of m i1 r1 q1 feed1.coming) result (stage_of t i2 r2 q2 feed2.coming)) same goes)

        -- after an answer, and what follows it
        turned : (n : ℕ) → Carried n m i1 r1 q1 feed1 → (status : Status) (result : Result (List ℕ) ReadlineError) (y : LineStage Out)
            → ((k : ℕ) → feed1.bound < k → Goes (world_of m) (turn_script k kept) (stage_of m i1 r1 q1 feed1.coming) (Ok status) (stage_of t i2 r2 q2 feed2.coming))
            → ((k : ℕ) → feed1.bound < suc k → Goes (world_of s) (line_script_after (turns_script k custom) status) (stage_of t i2 r2 q2 feed2.coming) result y)
            → Goes (world_of s) (turns_script n custom) (stage_of s i r q feed.coming) result y
        turned n at status result y took rest =
            let f = some_fuel at.fuel feed1.bound at.enough in
            let enough : feed1.bound < suc f.less = subst (λ k. feed1.bound < k) f.is at.enough in
            at.onward result y (subst (λ k. Goes (world_of s) (turns_script k custom) (stage_of m i1 r1 q1 feed1.coming) result y) (sym f.is)
            (turns_on (world_of s) f.less custom status result (stage_of m i1 r1 q1 feed1.coming) (stage_of t i2 r2 q2 feed2.coming) y (turn_here (suc f.less) (Ok status) (took (suc f.less) enough)) (rest f.less enough)))

        -- after an error
        refused : (n : ℕ) → Carried n m i1 r1 q1 feed1 → (e : ReadlineError)
            → ((k : ℕ) → feed1.bound < k → Goes (world_of m) (turn_script k kept) (stage_of m i1 r1 q1 feed1.coming) (Err e) (stage_of t i2 r2 q2 feed2.coming))
            → Goes (world_of s) (turns_script n custom) (stage_of s i r q feed.coming) (Err e) (stage_of t i2 r2 q2 feed2.coming)
        refused n at e took =
            let f = some_fuel at.fuel feed1.bound at.enough in
            let enough : feed1.bound < suc f.less = subst (λ k. feed1.bound < k) f.is at.enough in
            at.onward (Err e) (stage_of t i2 r2 q2 feed2.coming)
            (subst (λ k. Goes (world_of s) (turns_script k custom) (stage_of m i1 r1 q1 feed1.coming) (Err e) (stage_of t i2 r2 q2 feed2.coming)) (sym f.is)
            (turns_ended (world_of s) f.less custom e (stage_of m i1 r1 q1 feed1.coming) (stage_of t i2 r2 q2 feed2.coming) (turn_here (suc f.less) (Err e) (took (suc f.less) enough))))

        -- a turn more
        carried_next : (n : ℕ) → Carried n m i1 r1 q1 feed1 → feed2.bound < feed1.bound
            → ((k : ℕ) → feed1.bound < k → Goes (world_of m) (turn_script k kept) (stage_of m i1 r1 q1 feed1.coming) (Ok Proceed) (stage_of t i2 r2 q2 feed2.coming)) → Carried n t i2 r2 q2 feed2
        carried_next n at falls took =
            let f = some_fuel at.fuel feed1.bound at.enough in
            let enough : feed1.bound < suc f.less = subst (λ k. feed1.bound < k) f.is at.enough in
            record {
              fuel = f.less;
              enough = omega (arith, enough, falls);
              onward = λ result y goes. at.onward result y (subst (λ k. Goes (world_of s) (turns_script k custom) (stage_of m i1 r1 q1 feed1.coming) result y) (sym f.is)
                  (turns_on (world_of s) f.less custom Proceed result (stage_of m i1 r1 q1 feed1.coming) (stage_of t i2 r2 q2 feed2.coming) y (turn_here (suc f.less) (Ok Proceed) (took (suc f.less) enough)) goes));
            }

      pub carries_next : (t : State Out H Hi K T renderer completer candidate hinter hint highlighter validator history) (i2 : Input) (r2 : Ring) (q2 : Modal) (feed2 : KeyFeed) → TakesTurn t i2 r2 q2 feed2 (Ok Proceed) → Carries t i2 r2 q2 feed2
      carries_next t i2 r2 q2 feed2 turn = record {
        goes = λ told n h. carried_next t i2 r2 q2 feed2 (turn.told told) n (so_far.goes (turn.told told) n h) turn.falls (turn.goes told);
        stays = λ told. stays_both s m t (so_far.stays (turn.told told)) (turn.stays told);
        told = λ h. so_far.told (turn.told h);
        keeps = let a : feed2.bound ≤ feed1.bound = turn.keeps in let b : feed1.bound ≤ feed.bound = so_far.keeps in omega arith;
        mode = turn.mode ∙ so_far.mode;
      }

      -- a turn that ends the line
      pub carries_ended : {A : Type 0} (t : State Out H Hi K T renderer completer candidate hinter hint highlighter validator history) (i2 : Input) (r2 : Ring) (q2 : Modal) (feed2 : KeyFeed) (e : ReadlineError) (result : Result A ReadlineError)
          → IsErrAnd result (λ x. x ≡ e) → TakesTurn t i2 r2 q2 feed2 (Err e) → RunsScript turns_script custom s i r q feed t i2 r2 q2 feed2 (result_and result (Ok t.recorded.line.text))
      carries_ended t i2 r2 q2 feed2 e result is turn =
          subst (λ x. RunsScript turns_script custom s i r q feed t i2 r2 q2 feed2 (result_and x (Ok t.recorded.line.text))) (sym (is_err e result is)) (record {
            goes = λ told n h. refused t i2 r2 q2 feed2 (turn.told told) n (so_far.goes (turn.told told) n h) e (turn.goes told);
            stays = λ told. stays_both s m t (so_far.stays (turn.told told)) (turn.stays told);
            told = λ h. so_far.told (turn.told h);
            keeps = let a : feed2.bound ≤ feed1.bound = turn.keeps in let b : feed1.bound ≤ feed.bound = so_far.keeps in omega arith;
            falls = tt;
            mode = turn.mode ∙ so_far.mode;
            reason = subst (λ x. Cause x t feed2 e) same turn.reason;
          })

      -- a turn that accepts the line, and the line's close
      pub carries_closed : {A : Type 0} (m2 t : State Out H Hi K T renderer completer candidate hinter hint highlighter validator history) (i2 : Input) (r2 : Ring) (q2 : Modal) (feed2 : KeyFeed) (result : Result A ReadlineError)
          → TakesTurn m2 i2 r2 q2 feed2 (Ok Submit) → Does submit_effect m2 t result → RunsScript turns_script custom s i r q feed t i2 r2 q2 feed2 (result_and result (Ok t.recorded.line.text))
      carries_closed m2 t i2 r2 q2 feed2 result turn close = record {
        goes = λ told n h. turned m2 i2 r2 q2 feed2 (turn.told told) n (so_far.goes (turn.told told) n h) Submit (result_and result (Ok t.recorded.line.text)) (stage_of t i2 r2 q2 feed2.coming) (turn.goes told)
            (λ k enough. closes s m2 t i2 r2 q2 feed2.coming result (stays_both s m m2 (so_far.stays (turn.told told)) (turn.stays told)) close);
        stays = λ told. stays_both s m t (so_far.stays (turn.told told)) (stays_both m m2 t (turn.stays told) close.stays);
        told = λ h. so_far.told (turn.told h);
        keeps = let a : feed2.bound ≤ feed1.bound = turn.keeps in let b : feed1.bound ≤ feed.bound = so_far.keeps in omega arith;
        falls = on_ok result t.recorded.line.text (let a : feed2.bound < feed1.bound = turn.falls in let b : feed1.bound ≤ feed.bound = so_far.keeps in omega arith);
        mode = turn.mode ∙ so_far.mode;
        reason = caused custom t feed2 result t.recorded.line.text close.reason;
      }

  -- ---- the first drawing

  module _ (custom : Custom) (i : Input) (r : Ring) (q : Modal) (s : State Out H Hi K T renderer completer candidate hinter hint highlighter validator history) (feed : KeyFeed) where
    drawn_on : {B : Type 0} (n : ℕ) (x : B) (m : State Out H Hi K T renderer completer candidate hinter hint highlighter validator history) (result : Result (List ℕ) ReadlineError) (y : LineStage Out) → Does (then_do memory_effect refresh_effect) s m (Ok x)
        → Goes (world_of m) (turns_script n custom) (stage_of m i r q feed.coming) result y → Goes (world_of s) (line_script n custom) (stage_of s i r q feed.coming) result y
    unfolding line_script
    drawn_on n x m result y drawn goes = makes s s m (stays_same s) (then_do memory_effect refresh_effect) i r q feed.coming (λ v. turns_script n custom) x result y drawn
        (subst (λ w. Goes w (turns_script n custom) (stage_of m i r q feed.coming) result y) (world_stays s m drawn.stays) goes)

    not_drawn : {B : Type 0} (n : ℕ) (t : State Out H Hi K T renderer completer candidate hinter hint highlighter validator history) (e : ReadlineError) → Does {A = B} (then_do memory_effect refresh_effect) s t (Err e)
        → Goes (world_of s) (line_script n custom) (stage_of s i r q feed.coming) (Err e) (stage_of t i r q feed.coming)
    unfolding line_script
    not_drawn {B} n t e refused = unmade s s t (stays_same s) (then_do memory_effect refresh_effect) i r q feed.coming (λ v. turns_script n custom) {A = B} e refused

    pub draws : {A B : Type 0} (x : B) (m t : State Out H Hi K T renderer completer candidate hinter hint highlighter validator history) (i2 : Input) (r2 : Ring) (q2 : Modal) (feed2 : KeyFeed) (result : Result A ReadlineError)
        → Does refresh_effect s m (Ok x) → RunsScript turns_script custom m i r q feed t i2 r2 q2 feed2 (result_and result (Ok t.recorded.line.text))
        → RunsScript line_script custom s i r q feed t i2 r2 q2 feed2 (result_and result (Ok t.recorded.line.text))
    draws x m t i2 r2 q2 feed2 result drawn read = record {
      goes = λ told n h. drawn_on n x m (result_and result (Ok t.recorded.line.text)) (stage_of t i2 r2 q2 feed2.coming) (taken_then refresh_effect s m (Ok x) drawn) (read.goes told n h);
      stays = λ told. stays_both s m t drawn.stays (read.stays told);
      told = read.told;
      keeps = read.keeps;
      falls = read.falls;
      mode = read.mode;
      reason = read.reason;
    }

    pub undrawn : {A B : Type 0} (t : State Out H Hi K T renderer completer candidate hinter hint highlighter validator history) (e : ReadlineError) (result : Result A ReadlineError)
        → IsErrAnd result (λ x. x ≡ e) → Does {A = B} refresh_effect s t (Err e) → RunsScript line_script custom s i r q feed t i r q feed (result_and result (Ok t.recorded.line.text))
    undrawn {A} {B} t e result is refused = subst (λ x. RunsScript line_script custom s i r q feed t i r q feed (result_and x (Ok t.recorded.line.text))) (sym (is_err e result is)) (record {
      goes = λ told n h. not_drawn {B = B} n t e (taken_then {A = B} refresh_effect s t (Err e) refused);
      stays = λ told. refused.stays;
      told = λ h. h;
      keeps = le_refl feed.bound;
      falls = tt;
      mode = refl;
      reason = edit_cause custom t feed e refused.reason;
    })
