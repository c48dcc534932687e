-- What a line wants to be seen leads from turn to turn.
use Rattle.std.proofs.Common.{◌≡◌, ◌⊎◌, inl, inr, ℕ, zero, suc, Bool, true, false, List, [], ◌∷◌, ◌++◌, append-nil, Option, None, Result, Ok, Err, refl, sym, ap, ◌∙◌, subst, true≢false, if◌then◌else◌}
use Rattle.line_config.specs.declared.errors.ReadlineError.{ReadlineError}
use Rattle.line_keys.specs.CustomBindings.{Custom}
use Rattle.script.specs.Scripts.{Ends, Asks, then}
use Rattle.script.specs.Played.{play_after_answer}
use Rattle.line_keys.specs.KeyFeeds.{item_at}
use Rattle.line_keys.specs.InputStates.{phrase}
use Rattle.line_keys.specs.PhraseScripts.{Answer, KeyScript, steps, answer_part, show_then, Needs, Shows, Reads, Becomes, Refuses, and_then, own_by, Settles}
use Rattle.line_keys.specs.Refreshing.{Ask}
use Rattle.line_keys.specs.Refreshing.Ask.{Line, Message, Prompted, DoingInsert, DoneInserting}
use Rattle.line_keys.specs.declared.command.Cmd.{Cmd, TheVariants.Interrupt, TheVariants.Unknown}
use Rattle.line_keys.proofs.Settling.{phrase_settles, then_settles}
use Rattle.line_editor.specs.Accepting.{submit_effect}
use Rattle.line_editor.specs.Drawing.{shown_in, ask_effect, refresh_effect}
use Rattle.line_editor.specs.Commands.{Means, means_of, effect, outcome}
use Rattle.line_editor.specs.Leads.{Leads, CommandLeads, EachTurnLeads, LeadsAlong, LinesLead}
use Rattle.line_editor.specs.NextCommand.{begins_group, with_group_begun, line_phrase, ring_after_reset}
use Rattle.line_editor.specs.LineScripts.{LineAsk, LineScript, Keys, Meets, Obeys, Makes, LineState, line_state, script_of_keys, meet_script, turn_script, line_script_after, turns_script, line_script, effect_at, answer_at, left_at, line_plan, steps_along, played_from}
use Rattle.line_editor.specs.ModalCommands.{meeting, modal_seen}
use Rattle.line_editor.specs.Modal.{Modal, Meeting, modal_first}
use Rattle.line_editor.specs.Sights.{Sight, no_sight, sight_with, sight_of, sight, sight_all, FitsAll, info_after}
use Rattle.line_editor.specs.Values.{Value, Setting, EditStep, Effect, first_value, shown_marks, memory_effect, then_do}
use Rattle.line_editor.specs.declared.commands.Status.{Status, TheVariants.Proceed, TheVariants.Submit}
use Rattle.line_editor.proofs.CommandsLead.{asks_lead, commands_lead, submitting_leads}
use Rattle.line_editor.proofs.ToldLemmas.{PlayedOf, played_each, joined_on, follows, played_then}
use Rattle.line_editor.proofs.LeadLemmas.{fits_both, sight_both, info_both}
use Rattle.line_editor.proofs.MeetLeads.{shows_own, hint_stands, seen_resting, seen_info, first_seen, meeting_leads}

-- ---- a phrase

-- the value is seen after some prompt, the session's own where `own` says so
record Behind (s : Setting) (v : Value) (info : Option (List ℕ)) (own : Bool) (x : Sight) : Type 0 where
  prompt : List ℕ
  is : x ≡ sight_with (shown_marks v s.marks) own prompt v.line.text v.line.place info
  ours : own ≡ true → prompt ≡ s.prompt

ask_fits : (ask : Ask) (s : Setting) (v : Value) (x : Sight) → FitsAll s.prompt x (ask_effect ask s v).steps
ask_fits Line s v x = (asks_lead Line s v x).fits
ask_fits (Message text kind) s v x = ((λ e. refl), tt)
ask_fits (Prompted prompt) s v x = (asks_lead (Prompted prompt) s v x).fits
ask_fits DoingInsert s v x = (tt, tt)
ask_fits DoneInserting s v x = tt

ask_leads : (ask : Ask) (s : Setting) (v : Value) (info : Option (List ℕ)) (own : Bool) (x : Sight) → Behind s v info own x
    → (let e = ask_effect ask s v in Behind s e.value (info_after e.steps info) (own_by own (Shows ask)) (sight_all x e.steps))
ask_leads Line s v info own x h = record {
  prompt = s.prompt;
  is = (asks_lead Line s v x).leads ∙ ap (sight_of s (ask_effect Line s v).value) (sym (hint_stands s v true s.prompt info));
  ours = λ e. refl;
}
ask_leads (Message text kind) s v info own x h = record { prompt = s.prompt; is = refl; ours = λ e. refl }
ask_leads (Prompted prompt) s v info own x h = record {
  prompt = prompt;
  is = (asks_lead (Prompted prompt) s v x).leads ∙ ap (let w = (ask_effect (Prompted prompt) s v).value in sight_with (shown_marks w s.marks) false prompt w.line.text w.line.place) (sym (hint_stands s v false prompt info));
  ours = λ e. cc;
}
ask_leads mark s v info own x h = record { prompt = h.prompt; is = h.is; ours = h.ours }

-- a change-to begins a group, which draws nothing
begun_settles : (cmd : Cmd) (b : Bool) (n : ℕ) → Settles true (steps (if b then show_then DoingInsert (λ seen. answer_part cmd) else answer_part cmd) n)
unfolding show_then answer_part
begun_settles cmd true n = λ shown. refl
begun_settles cmd false n = refl

-- ---- a turn

command_fits : (cmd : Cmd) (s : Setting) (v : Value) (e : Effect) (info : Option (List ℕ)) → CommandLeads cmd s v e → FitsAll s.prompt (sight_of s v info) e.steps
command_fits Interrupt s v e info h = let t = h info in t.fits
command_fits cmd s v e info h = let t = h info in t.fits

-- an interruption alone leaves the cursor elsewhere, and it ends the session
proceeds_leads : (m : Means) (cmd : Cmd) (s : Setting) (v : Value) (e : Effect) (status : Status) → CommandLeads cmd s v e → outcome m cmd s v ≡ Ok status → Leads s v e
proceeds_leads m Interrupt s v e status h is = cc
proceeds_leads m cmd s v e status h is = h

-- steps may be asked for there, and lead to the value after them where they don't end the session
record LeadOn (s : Setting) (info : Option (List ℕ)) (x : Sight) (answer : Result Status ReadlineError) (q : Modal) (e : Effect) : Type 0 where
  fits : FitsAll s.prompt x e.steps
  leads : (status : Status) → answer ≡ Ok status → sight_all x e.steps ≡ modal_seen q s e.value (info_after e.steps info)
  closes : answer ≡ Ok Submit → shows_own q.standing ≡ true

lead_behind : (s : Setting) (info : Option (List ℕ)) (x : Sight) (first : List EditStep) (answer : Result Status ReadlineError) (q : Modal) (e : Effect) → FitsAll s.prompt x first
    → LeadOn s (info_after first info) (sight_all x first) answer q e → LeadOn s info x answer q (record { value = e.value; steps = first ++ e.steps })
lead_behind s info x first answer q e fits h = record {
  fits = fits_both s.prompt x first e.steps fits h.fits;
  leads = λ status is. sight_both x first e.steps ∙ h.leads status is ∙ ap (modal_seen q s e.value) (sym (info_both first e.steps info));
  closes = h.closes;
}

module _ (s : Setting) where
  abbrev made_of_play : LineState → PlayedOf s Status → Effect
  made_of_play k p = record { value = p.rest.value; steps = steps_along s k p.asks }

  abbrev PlayLeads : Option (List ℕ) → Sight → LineState → PlayedOf s Status → Type 0
  PlayLeads info x k p = LeadOn s info x p.answer p.rest.modal (made_of_play k p)

  abbrev on_command : LineState → Cmd → Status → PlayedOf s Status
  on_command k cmd status = record { answer = Ok status; asks = []; rest = left_at s k (Obeys cmd) }

  command_leads : (cmd : Cmd) (k : LineState) (info : Option (List ℕ)) → shows_own k.modal.standing ≡ true → PlayLeads info (sight_of s k.value info) k (played_from s (Asks (Obeys cmd) (λ status. Ends status)) k)
  command_leads cmd k info rests =
      let m = means_of k.input (ring_after_reset cmd k.ring) in
      let v = k.value in
      let e = effect m cmd s v in
      let made = commands_lead m cmd s v in
      by (outcome m cmd s v) (subst (λ steps. LeadOn s info (sight_of s v info) (outcome m cmd s v) k.modal (record { value = e.value; steps = steps })) (sym (append-nil e.steps)) (record {
        fits = command_fits cmd s v e info made;
        leads = λ status is. (let t = proceeds_leads m cmd s v e status made is info in t.leads) ∙ sym (seen_resting k.modal.standing k.modal s e.value (info_after e.steps info) rests);
        closes = λ is. rests;
      }))
    where
      by : (q : Result Status ReadlineError) → (let e = effect (means_of k.input (ring_after_reset cmd k.ring)) cmd s k.value in LeadOn s info (sight_of s k.value info) q k.modal (record { value = e.value; steps = e.steps ++ [] }))
          → PlayLeads info (sight_of s k.value info) k (play_after_answer (on_command k cmd) (Obeys cmd) (left_at s k (Obeys cmd)) q)
      by (Ok status) h = record { fits = h.fits; leads = h.leads; closes = h.closes }
      by (Err e) h = record { fits = h.fits; leads = h.leads; closes = h.closes }

  -- what is left to do of a command that was met
  left_leads : (next : Cmd) (k : LineState) (info : Option (List ℕ)) → (next ≡ Unknown) ⊎ (shows_own k.modal.standing ≡ true) → PlayLeads info (modal_seen k.modal s k.value info) k (played_from s (Asks (Obeys next) (λ status. Ends status)) k)
  left_leads next k info (inl is) = subst (λ c. PlayLeads info (modal_seen k.modal s k.value info) k (played_from s (Asks (Obeys c) (λ status. Ends status)) k)) (sym is)
      (record { fits = tt; leads = λ status is. refl; closes = λ is. cc })
  left_leads next k info (inr rests) =
      subst (λ x. PlayLeads info x k (played_from s (Asks (Obeys next) (λ status. Ends status)) k)) (sym (seen_resting k.modal.standing k.modal s k.value info rests)) (command_leads next k info rests)

  met_leads : (cmd : Cmd) (k : LineState) (info : Option (List ℕ)) (x : Sight) → (shows_own k.modal.standing ≡ true → x ≡ sight_of s k.value info) → PlayLeads info x k (played_from s (meet_script cmd) k)
  met_leads cmd k info x from =
      let q : Meeting = meeting k.modal cmd s k.value in
      let met = meeting_leads k.modal.standing k.modal refl cmd s k.value info x from in
      let left = left_at s k (Meets cmd) in
      let p = played_from s (Asks (Obeys q.next) (λ status. Ends status)) left in
      lead_behind s info x q.effect.steps p.answer p.rest.modal (made_of_play left p) met.fits
      (subst (λ y. PlayLeads (info_after q.effect.steps info) y left p) (sym met.leads) (left_leads q.next left (info_after q.effect.steps info) met.next))

  -- a phrase, and the command that it gives
  abbrev spoken : KeyScript Cmd → LineScript Status
  spoken script = (then) (script_of_keys script) meet_script

  phrase_leads : (own : Bool) (script : KeyScript Cmd) (k : LineState) (info : Option (List ℕ)) (x : Sight) → (shows_own k.modal.standing ≡ true → Settles own script)
      → (shows_own k.modal.standing ≡ true → Behind s k.value info own x) → PlayLeads info x k (played_from s (spoken script) k)
  phrase_leads true (Ends cmd) k info x settles h = met_leads cmd k info x (λ rests. (h rests).is ∙ ap (λ p. sight_with (shown_marks k.value s.marks) true p k.value.line.text k.value.line.place info) ((h rests).ours refl))
  phrase_leads false (Ends cmd) k info x settles h = met_leads cmd k info x (λ rests. absurd (true≢false (sym (settles rests))))
  phrase_leads own (Asks Needs later) k info x settles h =
      let p = played_from s (spoken (later tt)) k in
      lead_behind s info x (memory_effect s k.value).steps p.answer p.rest.modal (made_of_play k p) (tt, tt) (phrase_leads own (later tt) k info x (λ rests. settles rests tt) h)
  phrase_leads own (Asks (Shows ask) later) k info x settles h =
      let e = ask_effect ask s k.value in
      let shown = shown_in e.value in
      let left = record k { value = e.value } in
      let p = played_from s (spoken (later shown)) left in
      lead_behind s info x e.steps p.answer p.rest.modal (made_of_play left p) (ask_fits ask s k.value x)
      (phrase_leads (own_by own (Shows ask)) (later shown) left (info_after e.steps info) (sight_all x e.steps) (λ rests. settles rests shown) (λ rests. ask_leads ask s k.value info own x (h rests)))
  phrase_leads own (Asks (Reads item) later) k info x settles h =
      let left = left_at s k (Keys (Reads item)) in
      played_each (PlayLeads info x k) (λ y. played_from s (spoken (later y)) left) (Keys (Reads item)) left
      (λ y. let g = phrase_leads own (later y) left info x (λ rests. settles rests y) h in record { fits = g.fits; leads = g.leads; closes = g.closes })
      (λ e. record { fits = tt; leads = λ status is. cc; closes = λ is. cc }) (item_at item k.coming)
  phrase_leads own (Asks (Becomes input) later) k info x settles h =
      let g = phrase_leads own (later tt) (record k { input = input }) info x (λ rests. settles rests tt) h in record { fits = g.fits; leads = g.leads; closes = g.closes }
  phrase_leads own (Asks (Refuses why) later) k info x settles h = record { fits = tt; leads = λ status is. cc; closes = λ is. cc }

  abbrev turn_phrase : ℕ → Custom → LineState → KeyScript Cmd
  turn_phrase n custom k = steps (line_phrase custom k.input (shown_in k.value)) n

  said_leads : (n : ℕ) (custom : Custom) (k : LineState) (info : Option (List ℕ)) → PlayLeads info (modal_seen k.modal s k.value info) k (played_from s (spoken (turn_phrase n custom k)) k)
  unfolding and_then
  said_leads n custom k info =
      let shown = shown_in k.value in
      let settles : Settles true (turn_phrase n custom k) = then_settles with_group_begun (λ cmd i w. begun_settles cmd (begins_group cmd)) (phrase custom k.input shown) k.input shown (phrase_settles custom k.input shown) n in
      phrase_leads true (turn_phrase n custom k) k info (modal_seen k.modal s k.value info) (λ rests. settles)
      (λ rests. record { prompt = s.prompt; is = seen_resting k.modal.standing k.modal s k.value info rests; ours = λ e. refl })

pub turn_leads : EachTurnLeads
unfolding turn_script
turn_leads n s custom k info =
    let h = said_leads s n custom k info in
    record { fits = h.fits; leads = λ status is. record { fits = h.fits; leads = h.leads status is } }

-- ---- a line

fits_parts : (own : List ℕ) (x : Sight) (xs ys : List EditStep) → FitsAll own x (xs ++ ys) → FitsAll own x xs × FitsAll own (sight_all x xs) ys
fits_parts own x [] ys h = (tt, h)
fits_parts own x (r ∷ xs) ys h = let parts = fits_parts own (sight x r) xs ys h.1 in ((h.0, parts.0), parts.1)

module _ (s : Setting) where
  -- what is asked for a turn leads as its steps do, and what is asked after it
  abbrev LeadsOnward : LineState → Sight → Result (List ℕ) ReadlineError → List LineAsk → PlayedOf s Status → Type 0
  LeadsOnward k x o more p =
      let steps = steps_along s k p.asks in
      FitsAll s.prompt x steps → LeadsAlong s o p.rest (sight_all x steps) more → LeadsAlong s o k x (p.asks ++ more)

  -- steps that nothing follows
  alone : (k : LineState) (x : Sight) (o : Result (List ℕ) ReadlineError) (more : List LineAsk) (rs : List EditStep) → FitsAll s.prompt x (rs ++ []) → LeadsAlong s o k (sight_all x (rs ++ [])) more
      → FitsAll s.prompt x rs × LeadsAlong s o k (sight_all x rs) more
  alone k x o more rs fits leads = (subst (FitsAll s.prompt x) (append-nil rs) fits, subst (λ zs. LeadsAlong s o k (sight_all x zs) more) (append-nil rs) leads)

  command_along : (cmd : Cmd) (k : LineState) (x : Sight) (o : Result (List ℕ) ReadlineError) (more : List LineAsk) → LeadsOnward k x o more (played_from s (Asks (Obeys cmd) (λ status. Ends status)) k)
  command_along cmd k x o more =
      let left = left_at s k (Obeys cmd) in
      let steps = (effect_at s k (Obeys cmd)).steps in
      played_each (LeadsOnward k x o more) (on_command s k cmd) (Obeys cmd) left
      (λ status fits leads. let h = alone left x o more steps fits leads in (h.0, tt, h.1)) (λ e fits leads. let h = alone left x o more steps fits leads in (h.0, tt, h.1)) (answer_at s k (Obeys cmd))

  phrase_along : (script : KeyScript Cmd) (k : LineState) (x : Sight) (o : Result (List ℕ) ReadlineError) (more : List LineAsk) → LeadsOnward k x o more (played_from s (spoken s script) k)
  phrase_along (Ends cmd) k x o more = λ fits leads.
      let left = left_at s k (Meets cmd) in
      let made = (effect_at s k (Meets cmd)).steps in
      let next = (meeting k.modal cmd s k.value).next in
      let p = played_from s (Asks (Obeys next) (λ status. Ends status)) left in
      let rest = steps_along s left p.asks in
      let parts = fits_parts s.prompt x made rest fits in
      (parts.0, tt, command_along next left (sight_all x made) o more parts.1 (subst (λ z. LeadsAlong s o p.rest z more) (sight_both x made rest) leads))
  phrase_along (Asks ask later) k x o more =
      let left = left_at s k (Keys ask) in
      let made = (effect_at s k (Keys ask)).steps in
      let next : Answer ask → PlayedOf s Status = λ y. played_from s (spoken s (later y)) left in
      played_each (LeadsOnward k x o more) next (Keys ask) left
      (λ y fits leads.
      let rest = steps_along s left (next y).asks in
      let parts = fits_parts s.prompt x made rest fits in
      (parts.0, tt, phrase_along (later y) left (sight_all x made) o more parts.1 (subst (λ z. LeadsAlong s o (next y).rest z more) (sight_both x made rest) leads)))
      (λ e fits leads. let h = alone left x o more made fits leads in (h.0, tt, h.1)) (answer_at s k (Keys ask))

  abbrev LedFrom : LineState → Sight → PlayedOf s (List ℕ) → Type 0
  LedFrom k x p = LeadsAlong s p.answer k x p.asks

  -- the value is seen, with what information stands
  abbrev SeenAs : LineState → Sight → Type 0
  SeenAs k x = x ≡ modal_seen k.modal s k.value x.info

  seen_as : (k : LineState) (x : Sight) (info : Option (List ℕ)) → x ≡ modal_seen k.modal s k.value info → SeenAs k x
  seen_as k x info is = is ∙ ap (modal_seen k.modal s k.value) (sym (ap (λ (y : Sight). y.info) is ∙ seen_info k.modal.standing k.modal s k.value info))

  module _ (n : ℕ) (custom : Custom) (so : (k : LineState) (x : Sight) → SeenAs k x → LedFrom k x (played_from s (turns_script n custom) k)) (k : LineState) (info : Option (List ℕ)) (script : KeyScript Cmd) where
    abbrev said : PlayedOf s Status
    said = played_from s (spoken s script) k

    abbrev said_steps : List EditStep
    said_steps = steps_along s k said.asks

    abbrev seen : Sight
    seen = modal_seen k.modal s k.value info

    -- what follows on a turn, by its outcome
    after_leads : PlayLeads s info seen k said → (q : Result Status ReadlineError) → said.answer ≡ q
        → LedFrom k seen (joined_on (follows (line_plan s) (line_script_after (turns_script n custom))) said.asks said.rest q)
    after_leads h (Ok Proceed) is =
        let later = played_from s (turns_script n custom) said.rest in
        let y = sight_all seen said_steps in
        phrase_along script k seen later.answer later.asks h.fits (so said.rest y (seen_as said.rest y (info_after said_steps info) (h.leads Proceed is)))
    after_leads h (Ok Submit) is =
        let w = said.rest.value in
        let close = submit_effect s w in
        let stands = info_after said_steps info in
        let t = submitting_leads s w stands in
        let there = h.leads Submit is ∙ seen_resting said.rest.modal.standing said.rest.modal s w stands (h.closes is) in
        let P : Sight → Type 0 = λ y. LeadsAlong s (Ok close.value.line.text) said.rest y (Makes submit_effect ∷ []) in
        phrase_along script k seen (Ok close.value.line.text) (Makes submit_effect ∷ []) h.fits (subst P (sym there) (t.fits, tt, ap (λ (y : Sight). y.ended) t.leads))
    after_leads h (Err e) is =
        let answer : Result (List ℕ) ReadlineError = Err e in
        subst (λ asks. LeadsAlong s answer k seen asks) (append-nil said.asks) (phrase_along script k seen answer [] h.fits tt)

  line_leads : (n : ℕ) (custom : Custom) (k : LineState) (x : Sight) → SeenAs k x → LedFrom k x (played_from s (turns_script n custom) k)
  unfolding turns_script turn_script
  line_leads zero custom k x h = (tt, tt, tt)
  line_leads (suc n) custom k x h =
      let script = turn_phrase s (suc n) custom k in
      let led = after_leads n custom (line_leads n custom) k x.info script (said_leads s (suc n) custom k x.info) _ refl in
      let rest = subst (LedFrom k (modal_seen k.modal s k.value x.info)) (sym (played_then (line_plan s) (line_script_after (turns_script n custom)) (spoken s script) k)) led in
      let p = played_from s ((then) (spoken s script) (line_script_after (turns_script n custom))) k in
      (tt, h, subst (λ y. LedFrom k y p) (sym h) rest)

pub lines_lead : LinesLead
unfolding line_script
lines_lead n s custom input r config query c =
    let e = (then_do memory_effect refresh_effect) s (first_value s) in
    let first = asks_lead Line s (first_value s) no_sight in
    let seen = first.leads ∙ ap (sight_of s e.value) (sym (hint_stands s (first_value s) true s.prompt None)) ∙ sym (first_seen config query s e.value (info_after e.steps None)) in
    let k = line_state e.value input r (modal_first config query) c in
    ((tt, first.fits), tt, line_leads s n custom k (sight_all no_sight e.steps) (seen_as s k _ _ seen))
