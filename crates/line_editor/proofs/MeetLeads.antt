-- What a search makes of a command leads to what is to be seen of the line then.
use Rattle.std.specs.Prelude.{⊤}
use Rattle.std.proofs.Common.{◌≡◌, ◌⊎◌, inl, inr, ℕ, ◌==◌, ◌&&◌, Bool, true, false, List, [], ◌∷◌, ◌++◌, length, Option, None, Some, is_some, refl, sym, ap, ◌∙◌, subst, if◌then◌else◌}
use Rattle.line_config.specs.declared.config.Config.{Config}
use Rattle.line_config.specs.declared.settings.CompletionType.{CompletionType}
use Rattle.line_config.specs.declared.settings.CompletionType.TheVariants as completion_type
use Rattle.line_help.specs.Completion.{Completion}
use Rattle.line_help.specs.Search.{Hit}
use Rattle.line_help.specs.declared.history.search.SearchDirection.{SearchDirection, TheVariants.Forward, TheVariants.Reverse}
use Rattle.line_keys.specs.Refreshing.Ask.{Line, Prompted}
use Rattle.line_keys.specs.Replies.{Reply}
use Rattle.line_keys.specs.declared.command.Cmd.{Cmd, TheVariants.EndOfHistory, TheVariants.HistorySearchBackward, TheVariants.HistorySearchForward, TheVariants.Unknown}
use Rattle.line_editor.specs.Candidates.{only_put, candidate_at, cycle_begun, cycle_first, cycle_back, cycle_at, cycle_effect, ask_and_turn_effect, modal_after_ask, several, several_modal, offer_effect, modal_after_offer, is_ambiguous, list_shown}
use Rattle.line_editor.specs.Completing.{common_text, updates, word_updated, word_completed, candidates_given, candidates_asked}
use Rattle.line_edits.specs.Edits.{update_group}
use Rattle.line_editor.specs.Drawing.{draw_effect_behind, ask_anew_effect, refresh_effect, refresh_effect_behind, beep_effect}
use Rattle.line_editor.specs.Redraws.{Redraw}
use Rattle.line_editor.specs.ModalCommands.{meeting_at_rest, meeting_anew, meeting_in, sight_in_mode, modal_seen, meeting_in_search, meeting_on, is_prefix, is_own, earlier, later}
use Rattle.line_editor.specs.Modal.{Modal, Meeting, modal_first, modal_at_rest, pass_meeting, takes, goes, wish_of}
use Rattle.line_editor.specs.History.{with_saved_line, leave_effect, save_effect}
use Rattle.line_editor.specs.Searching.{search_prompt, modal_with_query, modal_after_erase, search_for, modal_after_look, onward, hit_undo_effect, put_hit_effect, search_drawn, modal_with_char, looks, looks_typed, looks_again, modal_with_empty_query, place_effect, modal_at_search_start, begin_search, hit_again, search_again_meeting, act_of}
use Rattle.line_editor.specs.Sights.{Sight, sight_with, sight_of, sight_all, FitsAll, info_after}
use Rattle.line_editor.specs.Values.{Value, Setting, EditStep, no_effect, then_do, hint_reply, help_steps, shown_hint, shown_marks, completion_reply, update_reply, edit_effect, close_groups}
use Rattle.line_editor.specs.Values.EditStep.{Draws, Edits, TakesBack, Takes}
use Rattle.line_editor.specs.declared.modal_state.Act.{Act}
use Rattle.line_editor.specs.declared.modal_state.Act.TheVariants.{Types, Erases, Goes, Leaves, Ends}
use Rattle.line_editor.specs.declared.modal_state.Standing.{Standing}
use Rattle.line_editor.specs.declared.modal_state.Standing.TheVariants.{Off, Rests, Prefixes, Searches, Tabbed, Lists, Cycles}
use Rattle.line_editor.specs.declared.modal_state.Wish.{Wish}
use Rattle.line_editor.specs.declared.modal_state.Wish.TheVariants.{Search, Up, Down, Tab, TabBack, Leave, Again}
use Rattle.line_editor.proofs.CommandsLead.{asks_lead}
use Rattle.line_editor.proofs.LeadLemmas.{fits_both, sight_both, info_both, help_info}
use Rattle.std.specs.Option.{option_map_or}
use Rattle.std.proofs.lemmas.Bool.{cond_both}

-- with the hint that was asked for
pub hint_stands : (s : Setting) (v : Value) (given : Bool) (prompt : List ℕ) (info : Option (List ℕ)) → (let w = (ask_anew_effect s v).value in
    info_after (help_steps v (hint_reply s v) ++ (draw_effect_behind prompt given s w).steps) info ≡ shown_hint w)
hint_stands s v given prompt info = help_info v (hint_reply s v) _ info

-- ---- what is to be seen if none stands

-- the session's own prompt is before the line
abbrev pub shows_own : Standing → Bool
shows_own Searches = false
shows_own standing = true

pub seen_resting : (at : Standing) (x : Modal) (s : Setting) (v : Value) (info : Option (List ℕ)) → shows_own at ≡ true → sight_in_mode at x s v info ≡ sight_of s v info
seen_resting Searches x s v info h = cc
seen_resting at x s v info h = refl

pub seen_info : (at : Standing) (x : Modal) (s : Setting) (v : Value) (info : Option (List ℕ)) → (sight_in_mode at x s v info).info ≡ info
seen_info Searches x s v info = refl
seen_info at x s v info = refl

first_own : (on : Bool) → shows_own (if on then Rests else Off) ≡ true
first_own true = refl
first_own false = refl

pub first_seen : (config : Config) (query : List ℕ) (s : Setting) (v : Value) (info : Option (List ℕ)) → modal_seen (modal_first config query) s v info ≡ sight_of s v info
first_seen config query s v info = seen_resting (if config.modal_commands then Rests else Off) (modal_first config query) s v info (first_own config.modal_commands)

-- ---- steps that draw nothing, and a drawing after them

-- from any sight
record Drawn (own : List ℕ) (info : Option (List ℕ)) (x : Sight) (steps : List EditStep) (y : Sight) (shown : Option (List ℕ)) : Type 0 where
  fits : FitsAll own x steps
  leads : sight_all x steps ≡ y
  info_is : info_after steps info ≡ shown

-- the drawings among steps
abbrev redraws_of : List EditStep → List Redraw
redraws_of [] = []
redraws_of (Draws v marks x ∷ more) = x ∷ redraws_of more
redraws_of (step ∷ more) = redraws_of more

after_step : (step : EditStep) (own : List ℕ) (info : Option (List ℕ)) (x : Sight) (steps : List EditStep) (y : Sight) (shown : Option (List ℕ)) → redraws_of (step ∷ []) ≡ []
    → Drawn own info x steps y shown → Drawn own info x (step ∷ steps) y shown
after_step (Draws v marks redraw) own info x steps y shown none h = cc
after_step step own info x steps y shown none h = record { fits = (tt, h.fits); leads = h.leads; info_is = h.info_is }

behind_drawn : (prompt : List ℕ) (s : Setting) (v : Value) (info : Option (List ℕ)) (x : Sight) → (let e = refresh_effect_behind prompt s v in
    Drawn s.prompt info x e.steps (sight_with (shown_marks e.value s.marks) false prompt e.value.line.text e.value.line.place (shown_hint e.value)) (shown_hint e.value))
behind_drawn prompt s v info x = let l = asks_lead (Prompted prompt) s v x in record { fits = l.fits; leads = l.leads; info_is = hint_stands s v false prompt info }

own_drawn : (s : Setting) (v : Value) (info : Option (List ℕ)) (x : Sight) → (let e = refresh_effect s v in
    Drawn s.prompt info x e.steps (sight_of s e.value (shown_hint e.value)) (shown_hint e.value))
own_drawn s v info x = let l = asks_lead Line s v x in record { fits = l.fits; leads = l.leads; info_is = hint_stands s v true s.prompt info }

-- ---- a command that is met

-- it is seen what the search makes of it, and either nothing is left to do, or no search stands
pub record Met (s : Setting) (info : Option (List ℕ)) (x : Sight) (met : Meeting) : Type 0 where
  pub fits : FitsAll s.prompt x met.effect.steps
  pub leads : sight_all x met.effect.steps ≡ modal_seen met.modal s met.effect.value (info_after met.effect.steps info)
  pub next : (met.next ≡ Unknown) ⊎ (shows_own met.modal.standing ≡ true)

-- drawn so
met_drawn : (s : Setting) (info : Option (List ℕ)) (x y : Sight) (met : Meeting) (shown : Option (List ℕ)) → Drawn s.prompt info x met.effect.steps y shown
    → y ≡ modal_seen met.modal s met.effect.value shown → (met.next ≡ Unknown) ⊎ (shows_own met.modal.standing ≡ true) → Met s info x met
met_drawn s info x y met shown drawn same next = record {
  fits = drawn.fits;
  leads = drawn.leads ∙ same ∙ ap (modal_seen met.modal s met.effect.value) (sym drawn.info_is);
  next = next;
}

-- after the search's prompt
search_met : (s : Setting) (v : Value) (info : Option (List ℕ)) (x : Sight) (q : Modal) → (let e = search_drawn q s v in
    Drawn s.prompt info x e.steps (sight_with (shown_marks e.value s.marks) false (search_prompt q) e.value.line.text e.value.line.place (shown_hint e.value)) (shown_hint e.value))
search_met s v info x q = after_step (Takes v) s.prompt info x _ _ _ refl (behind_drawn (search_prompt q) s v info x)

-- an entry in place of the line, and that prompt
found_met : (put : Bool) (hit : Option Hit) (q : Modal) (s : Setting) (v : Value) (info : Option (List ℕ)) (x : Sight) → (let e = then_do (put_hit_effect put hit) (search_drawn q) s v in
    Drawn s.prompt info x e.steps (sight_with (shown_marks e.value s.marks) false (search_prompt q) e.value.line.text e.value.line.place (shown_hint e.value)) (shown_hint e.value))
found_met put None q s v info x = search_met s v info x q
found_met true (Some hit) q s v info x =
    let w = (put_hit_effect true (Some hit) s v).value in
    after_step (TakesBack v 1) s.prompt info x _ _ _ refl (after_step (Edits _ _) s.prompt info x _ _ _ refl (search_met s w info x q))
found_met false (Some hit) q s v info x =
    let w = (put_hit_effect false (Some hit) s v).value in
    after_step (Edits _ _) s.prompt info x _ _ _ refl (search_met s w info x q)

seen_standing : (at : Standing) (q : Modal) (s : Setting) (v : Value) (info : Option (List ℕ)) → at ≡ Searches → sight_with (shown_marks v s.marks) false (search_prompt q) v.line.text v.line.place info ≡ sight_in_mode at q s v info
seen_standing at q s v info is = subst (λ a. sight_with (shown_marks v s.marks) false (search_prompt q) v.line.text v.line.place info ≡ sight_in_mode a q s v info) (sym is) refl

looked_stands : (dir : SearchDirection) (hit : Option Hit) (q : Modal) → q.standing ≡ Searches → (modal_after_look dir hit q).standing ≡ Searches
looked_stands dir None q is = is
looked_stands dir (Some hit) q is = is

-- a query was looked for
looks_drawn : (dir : SearchDirection) (from : Option ℕ) (q : Modal) (s : Setting) (v : Value) (info : Option (List ℕ)) (x : Sight) → q.standing ≡ Searches → (let m = looks dir from q s v in let w = m.effect.value in
    Drawn s.prompt info x m.effect.steps (modal_seen m.modal s w (shown_hint w)) (shown_hint w))
looks_drawn dir from q s v info x is =
    let hit = search_for q.query dir from s.entries in
    let y = modal_after_look dir hit q in
    let w = (looks dir from q s v).effect.value in
    subst (λ z. Drawn s.prompt info x (looks dir from q s v).effect.steps z (shown_hint w)) (seen_standing y.standing y s w (shown_hint w) (looked_stands dir hit q is)) (found_met q.put hit y s v info x)

looks_met : (dir : SearchDirection) (from : Option ℕ) (q : Modal) (s : Setting) (v : Value) (info : Option (List ℕ)) (x : Sight) → q.standing ≡ Searches → Met s info x (looks dir from q s v)
looks_met dir from q s v info x is = met_drawn s info x _ (looks dir from q s v) _ (looks_drawn dir from q s v info x is) refl (inl refl)

-- the line as it was
left_drawn : (put : Bool) (place : ℕ) (s : Setting) (v : Value) (info : Option (List ℕ)) (x : Sight) → (let e = then_do (hit_undo_effect put) (then_do (place_effect place) refresh_effect) s v in
    Drawn s.prompt info x e.steps (sight_of s e.value (shown_hint e.value)) (shown_hint e.value))
left_drawn true place s v info x =
    let w = (then_do (hit_undo_effect true) (place_effect place) s v).value in
    after_step (TakesBack v 1) s.prompt info x _ _ _ refl (own_drawn s w info x)
left_drawn false place s v info x = own_drawn s (place_effect place s v).value info x

-- an entry that is undone, and the line as it was behind the search's prompt
emptied_drawn : (put : Bool) (q : Modal) (s : Setting) (v : Value) (info : Option (List ℕ)) (x : Sight) → (let e = then_do (hit_undo_effect put) (then_do (place_effect q.place) (search_drawn (modal_with_empty_query q))) s v in
    Drawn s.prompt info x e.steps (sight_with (shown_marks e.value s.marks) false (search_prompt (modal_with_empty_query q)) e.value.line.text e.value.line.place (shown_hint e.value)) (shown_hint e.value))
emptied_drawn true q s v info x =
    let w = (then_do (hit_undo_effect true) (place_effect q.place) s v).value in
    after_step (TakesBack v 1) s.prompt info x _ _ _ refl (search_met s w info x (modal_with_empty_query q))
emptied_drawn false q s v info x = search_met s (place_effect q.place s v).value info x (modal_with_empty_query q)

again_met : (empty : Bool) (q : Modal) (s : Setting) (v : Value) (info : Option (List ℕ)) (x : Sight) → q.standing ≡ Searches → Met s info x (looks_again empty q s v)
again_met true q s v info x is =
    let w = (looks_again true q s v).effect.value in
    met_drawn s info x _ (looks_again true q s v) _ (emptied_drawn q.put q s v info x) (seen_standing q.standing (modal_with_empty_query q) s w (shown_hint w) is) (inl refl)
again_met false q s v info x is = looks_met q.dir (Some q.start) q s v info x is

-- it goes on as it came
passes_met : (q : Modal) (cmd : Cmd) (s : Setting) (v : Value) (info : Option (List ℕ)) (x : Sight) → shows_own q.standing ≡ true → x ≡ sight_of s v info
    → Met s info x (record { effect = record { value = v; steps = [] }; modal = q; next = cmd })
passes_met q cmd s v info x rests from = record { fits = tt; leads = from ∙ sym (seen_resting q.standing q s v info rests); next = inr rests }

begun_met : (empty : Bool) (dir : SearchDirection) (q : Modal) (cmd : Cmd) (s : Setting) (v : Value) (info : Option (List ℕ)) (x : Sight) → shows_own q.standing ≡ true → x ≡ sight_of s v info
    → Met s info x (if empty then pass_meeting q cmd v else takes (begin_search dir q) (modal_at_search_start dir (length s.entries) v q) s v)
begun_met true dir q cmd s v info x rests from = passes_met q cmd s v info x rests from
begun_met false dir q cmd s v info x rests from =
    let y = modal_at_search_start dir (length s.entries) v q in
    let w = (begin_search dir q s v).value in
    met_drawn s info x _ (takes (begin_search dir q) y s v) _ (search_met s _ info x y) refl (inl refl)

-- another command is done, over steps that draw nothing
saved_met : (ends : Bool) (q : Modal) (next : Cmd) (s : Setting) (v : Value) (info : Option (List ℕ)) (x : Sight) → shows_own q.standing ≡ true → x ≡ sight_of s v info
    → Met s info x (record { effect = if ends then save_effect s v else no_effect s v; modal = q; next = next })
saved_met true q next s v info x own from = record { fits = (tt, tt); leads = from ∙ sym (seen_resting q.standing q s (with_saved_line v) info own); next = inr own }
saved_met false q next s v info x own from = passes_met q next s v info x own from

beeped_met : (q : Modal) (s : Setting) (v : Value) (info : Option (List ℕ)) (x : Sight) → shows_own q.standing ≡ true → x ≡ sight_of s v info → Met s info x (takes beep_effect q s v)
beeped_met q s v info x own from = record { fits = (tt, tt); leads = from ∙ sym (seen_resting q.standing q s v info own); next = inl refl }

-- ---- entries that begin with the line

risen_met : (some : Bool) (q : Modal) (s : Setting) (v : Value) (info : Option (List ℕ)) (x : Sight) → shows_own q.standing ≡ true → x ≡ sight_of s v info → Met s info x (if some then goes leave_effect (record q { standing = Prefixes }) HistorySearchBackward s v else takes beep_effect q s v)
risen_met false q s v info x own from = beeped_met q s v info x own from
risen_met true q s v info x own from = saved_met (v.history == length s.entries) (record q { standing = Prefixes }) HistorySearchBackward s v info x refl from

-- ---- candidates

-- the helper is called before it
asked_drawn : {A : Type 0} (u : Value) (reply : Option (Reply A)) (own : List ℕ) (info : Option (List ℕ)) (x : Sight) (steps : List EditStep) (y : Sight) (shown : Option (List ℕ))
    → Drawn own info x steps y shown → Drawn own info x (help_steps u reply ++ steps) y shown
asked_drawn u None own info x steps y shown h = h
asked_drawn u (Some reply) own info x steps y shown h = record { fits = (tt, h.fits); leads = h.leads; info_is = h.info_is }

updated_drawn : (reply : Option (Reply ⊤)) (u : Value) (own : List ℕ) (info : Option (List ℕ)) (x : Sight) (steps : List EditStep) (y : Sight) (shown : Option (List ℕ))
    → Drawn own info x steps y shown → Drawn own info x (updates reply u ++ steps) y shown
updated_drawn None u own info x steps y shown h = h
updated_drawn (Some reply) u own info x steps y shown h = record { fits = (tt, (tt, h.fits)); leads = h.leads; info_is = h.info_is }

-- a word replaced
word_drawn : (start : ℕ) (text : List ℕ) (s : Setting) (v : Value) (info : Option (List ℕ)) (x : Sight) → (let e = word_completed start text s v in
    Drawn s.prompt info x e.steps (sight_of s e.value (shown_hint e.value)) (shown_hint e.value))
word_drawn start text s v info x =
    updated_drawn (update_reply start text s v) v s.prompt info x _ _ _ (own_drawn s (word_updated start text s v).value info x)

beep_behind : (v : Value) (s : Setting) (own : List ℕ) (info : Option (List ℕ)) (x : Sight) (steps : List EditStep) (y : Sight) (shown : Option (List ℕ))
    → Drawn own info x steps y shown → Drawn own info x (steps ++ (beep_effect s v).steps) y shown
beep_behind v s own info x steps y shown h = record {
  fits = fits_both own x steps (beep_effect s v).steps h.fits (tt, tt);
  leads = sight_both x steps (beep_effect s v).steps ∙ h.leads;
  info_is = info_both steps (beep_effect s v).steps info ∙ h.info_is;
}

-- a candidate in its place, or the word as it was
turned_drawn : (start : ℕ) (text : Option (List ℕ)) (s : Setting) (v : Value) (info : Option (List ℕ)) (x : Sight) → (let e = option_map_or (word_completed start) text (then_do refresh_effect beep_effect) s v in
    Drawn s.prompt info x e.steps (sight_of s e.value (shown_hint e.value)) (shown_hint e.value))
turned_drawn start None s v info x = beep_behind (refresh_effect s v).value s s.prompt info x _ _ _ (own_drawn s v info x)
turned_drawn start (Some text) s v info x = word_drawn start text s v info x

-- drawn so, and the session's own prompt stands
own_met : (s : Setting) (info : Option (List ℕ)) (x : Sight) (met : Meeting) (shown : Option (List ℕ)) → Drawn s.prompt info x met.effect.steps (sight_of s met.effect.value shown) shown
    → shows_own met.modal.standing ≡ true → Met s info x met
own_met s info x met shown drawn own = met_drawn s info x _ met shown drawn (sym (seen_resting met.modal.standing met.modal s met.effect.value shown own)) (inr own)

-- something is done before
both_met : (s : Setting) (info : Option (List ℕ)) (x : Sight) (first : List EditStep) (met : Meeting) → FitsAll s.prompt x first → Met s (info_after first info) (sight_all x first) met
    → Met s info x (record { effect = record { value = met.effect.value; steps = first ++ met.effect.steps }; modal = met.modal; next = met.next })
both_met s info x first met fits h = record {
  fits = fits_both s.prompt x first met.effect.steps fits h.fits;
  leads = sight_both x first met.effect.steps ∙ h.leads ∙ ap (modal_seen met.modal s met.effect.value) (sym (info_both first met.effect.steps info));
  next = h.next;
}

asked_met : {A : Type 0} (u : Value) (reply : Option (Reply A)) (s : Setting) (info : Option (List ℕ)) (x : Sight) (met : Meeting) → Met s info x met
    → Met s info x (record { effect = record { value = met.effect.value; steps = help_steps u reply ++ met.effect.steps }; modal = met.modal; next = met.next })
asked_met u None s info x met h = record { fits = h.fits; leads = h.leads; next = h.next }
asked_met u (Some reply) s info x met h = record { fits = (tt, h.fits); leads = h.leads; next = h.next }

-- the only candidate, or a beep
only_met : (start : ℕ) (text : Option (List ℕ)) (q : Modal) (s : Setting) (v : Value) (info : Option (List ℕ)) (x : Sight) → shows_own q.standing ≡ true → x ≡ sight_of s v info
    → Met s info x (takes (option_map_or (word_completed start) text beep_effect) q s v)
only_met start None q s v info x own from = beeped_met q s v info x own from
only_met start (Some text) q s v info x own from = own_met s info x (takes (word_completed start text) q s v) _ (word_drawn start text s v info x) own

-- the common prefix, a list, or a beep
listed_met : (lists : Bool) (text : Option (List ℕ)) (found : Completion) (q : Modal) (s : Setting) (v : Value) (info : Option (List ℕ)) (x : Sight) → x ≡ sight_of s v info
    → Met s info x (takes (option_map_or (word_completed found.start) text (if lists then list_shown q.limit found.candidates else beep_effect)) (record q { standing = option_map_or (λ text. Tabbed) text (if lists then Lists else Tabbed) }) s v)
listed_met lists (Some text) found q s v info x from =
    own_met s info x (takes (word_completed found.start text) (record q { standing = Tabbed }) s v) _ (word_drawn found.start text s v info x) refl
listed_met true None found q s v info x from = record { fits = (tt, ((λ e. refl), tt)); leads = refl; next = inl refl }
listed_met false None found q s v info x from = beeped_met (record q { standing = Tabbed }) s v info x refl from

several_met : (kind : CompletionType) (lists : Bool) (found : Completion) (q : Modal) (s : Setting) (v : Value) (info : Option (List ℕ)) (x : Sight) → x ≡ sight_of s v info
    → Met s info x (takes (several kind lists q found) (several_modal kind lists found v.line q) s v)
several_met completion_type.Circular lists found q s v info x from =
    let w = (close_groups s v).value in
    own_met s info x (takes (cycle_begun found) (cycle_first found v.line q) s v) _ (turned_drawn found.start (candidate_at 0 found w.line) s w info x) refl
several_met completion_type.List lists found q s v info x from = listed_met lists (common_text found v.line) found q s v info x from

offered_met : (ambiguous lists : Bool) (found : Completion) (q : Modal) (s : Setting) (v : Value) (info : Option (List ℕ)) (x : Sight) → x ≡ sight_of s v info
    → Met s info x (takes (λ a w. if ambiguous then several q.completion_type lists q found a w else option_map_or (word_completed found.start) (only_put found w.line) beep_effect a w)
    (if ambiguous then several_modal q.completion_type lists found v.line q else modal_at_rest q) s v)
offered_met false lists found q s v info x from = only_met found.start (only_put found v.line) (modal_at_rest q) s v info x refl from
offered_met true lists found q s v info x from = several_met q.completion_type lists found q s v info x from

tab_met : (some lists : Bool) (q : Modal) (cmd : Cmd) (s : Setting) (v : Value) (info : Option (List ℕ)) (x : Sight) → shows_own q.standing ≡ true → x ≡ sight_of s v info
    → (let found = candidates_given (completion_reply s v) in Met s info x (if some then takes (then_do candidates_asked (offer_effect lists q found)) (modal_after_offer lists found v.line q) s v else pass_meeting q cmd v))
tab_met false lists q cmd s v info x own from = passes_met q cmd s v info x own from
tab_met true lists q cmd s v info x own from =
    let found = candidates_given (completion_reply s v) in
    asked_met v (completion_reply s v) s info x (takes (offer_effect lists q found) (modal_after_offer lists found v.line q) s v) (offered_met (is_ambiguous found v.line) lists found q s v info x from)

-- the next candidate, from any sight
asks_drawn : (dir : SearchDirection) (q : Modal) (s : Setting) (w : Value) (info : Option (List ℕ)) (x : Sight) → (let e = ask_and_turn_effect dir q s w in Drawn s.prompt info x e.steps (sight_of s e.value (shown_hint e.value)) (shown_hint e.value))
asks_drawn dir q s w info x =
    let found = candidates_given (completion_reply s w) in
    asked_drawn w (completion_reply s w) s.prompt info x _ _ _ (turned_drawn found.start (candidate_at (cycle_at dir q.candidate (length found.candidates)) found w.line) s w info x)

next_drawn : (dir : SearchDirection) (put : Bool) (q : Modal) (s : Setting) (v : Value) (info : Option (List ℕ)) (x : Sight) → (let e = then_do (then_do (hit_undo_effect put) (place_effect q.place)) (ask_and_turn_effect dir q) s v in
    Drawn s.prompt info x e.steps (sight_of s e.value (shown_hint e.value)) (shown_hint e.value))
next_drawn dir true q s v info x = after_step (TakesBack v 1) s.prompt info x _ _ _ refl (asks_drawn dir q s (then_do (hit_undo_effect true) (place_effect q.place) s v).value info x)
next_drawn dir false q s v info x = asks_drawn dir q s (place_effect q.place s v).value info x

cycle_met : (some : Bool) (dir : SearchDirection) (q : Modal) (cmd : Cmd) (s : Setting) (v : Value) (info : Option (List ℕ)) (x : Sight) → shows_own q.standing ≡ true → x ≡ sight_of s v info
    → Met s info x (if some then takes (cycle_effect dir q) (modal_after_ask dir q s (cycle_back q s v).value) s v else pass_meeting q cmd v)
cycle_met false dir q cmd s v info x own from = passes_met q cmd s v info x own from
cycle_met true dir q cmd s v info x own from =
    own_met s info x (takes (cycle_effect dir q) (modal_after_ask dir q s (cycle_back q s v).value) s v) _ (next_drawn dir q.put q s v info x) own

-- ---- the last query once more

again_found_met : (hit : Option Hit) (q : Modal) (s : Setting) (v : Value) (info : Option (List ℕ)) (x : Sight) → shows_own q.standing ≡ true → x ≡ sight_of s v info → Met s info x (search_again_meeting hit q s v)
again_found_met None q s v info x own from = beeped_met q s v info x own from
again_found_met (Some hit) q s v info x own from =
    let w = (then_do close_groups (edit_effect (update_group hit.entry hit.pos)) s v).value in
    own_met s info x (search_again_meeting (Some hit) q s v) _ (after_step (Edits _ _) s.prompt info x _ _ _ refl (own_drawn s w info x)) own

-- ---- any command

resting_met : (wish : Wish) (q : Modal) (cmd : Cmd) (s : Setting) (v : Value) (info : Option (List ℕ)) (x : Sight) → shows_own q.standing ≡ true → x ≡ sight_of s v info → Met s info x (meeting_at_rest wish q cmd s v)
resting_met (Search dir) q cmd s v info x own from = begun_met (length s.entries == 0) dir q cmd s v info x own from
resting_met Up q cmd s v info x own from =
    cond_both (is_own s v && is_prefix v.line) _ _ (Met s info x) (λ e. risen_met (is_some (earlier s v)) q s v info x own from) (λ e. passes_met q cmd s v info x own from)
resting_met Tab q cmd s v info x own from = tab_met (is_some s.hooks) q.lists_at_once q cmd s v info x own from
resting_met (Again way) q cmd s v info x own from = again_found_met (hit_again way q s v) q s v info x own from
resting_met wish q cmd s v info x own from = passes_met q cmd s v info x own from

prefixes_met : (wish : Wish) (q : Modal) (cmd : Cmd) (s : Setting) (v : Value) (info : Option (List ℕ)) (x : Sight) → shows_own q.standing ≡ true → x ≡ sight_of s v info → Met s info x (meeting_on Prefixes wish q cmd s v)
prefixes_met Up q cmd s v info x own from = risen_met (is_some (earlier s v)) q s v info x own from
prefixes_met Down q cmd s v info x own from = cond_both (is_some (later s v)) (goes no_effect q HistorySearchForward s v) (goes no_effect (modal_at_rest q) EndOfHistory s v) (Met s info x)
    (λ e. passes_met q HistorySearchForward s v info x own from) (λ e. passes_met (modal_at_rest q) EndOfHistory s v info x refl from)
prefixes_met wish q cmd s v info x own from = resting_met wish (modal_at_rest q) cmd s v info x refl from

tabbed_met : (wish : Wish) (q : Modal) (cmd : Cmd) (s : Setting) (v : Value) (info : Option (List ℕ)) (x : Sight) → shows_own q.standing ≡ true → x ≡ sight_of s v info → Met s info x (meeting_on Tabbed wish q cmd s v)
tabbed_met Tab q cmd s v info x own from = tab_met (is_some s.hooks) true q cmd s v info x own from
tabbed_met wish q cmd s v info x own from = resting_met wish (modal_at_rest q) cmd s v info x refl from

-- the line is drawn without the list, and then the command is met
anew_met : (wish : Wish) (q : Modal) (cmd : Cmd) (s : Setting) (v : Value) (info : Option (List ℕ)) (x : Sight) → Met s info x (meeting_anew wish q cmd s v)
anew_met wish q cmd s v info x =
    let e = refresh_effect s v in
    let first = own_drawn s v info x in
    both_met s info x e.steps (meeting_at_rest wish (modal_at_rest q) cmd s e.value) first.fits
    (resting_met wish (modal_at_rest q) cmd s e.value (info_after e.steps info) (sight_all x e.steps) refl (first.leads ∙ ap (sight_of s e.value) (sym first.info_is)))

lists_met : (wish : Wish) (q : Modal) (cmd : Cmd) (s : Setting) (v : Value) (info : Option (List ℕ)) (x : Sight) → shows_own q.standing ≡ true → x ≡ sight_of s v info → Met s info x (meeting_on Lists wish q cmd s v)
lists_met Tab q cmd s v info x own from = tab_met (is_some s.hooks) true q cmd s v info x own from
lists_met wish q cmd s v info x own from = anew_met wish q cmd s v info x

cycles_met : (wish : Wish) (q : Modal) (cmd : Cmd) (s : Setting) (v : Value) (info : Option (List ℕ)) (x : Sight) → shows_own q.standing ≡ true → x ≡ sight_of s v info → Met s info x (meeting_on Cycles wish q cmd s v)
cycles_met Tab q cmd s v info x own from = cycle_met (is_some s.hooks) Forward q cmd s v info x own from
cycles_met TabBack q cmd s v info x own from = cycle_met (is_some s.hooks) Reverse q cmd s v info x own from
cycles_met Leave q cmd s v info x own from = own_met s info x (meeting_on Cycles Leave q cmd s v) _ (left_drawn q.put q.place s v info x) refl
cycles_met wish q cmd s v info x own from = resting_met wish (modal_at_rest q) cmd s v info x refl from

acted_met : (act : Act) (q : Modal) (cmd : Cmd) (s : Setting) (v : Value) (info : Option (List ℕ)) (x : Sight) → q.standing ≡ Searches → Met s info x (meeting_in_search act q cmd s v)
acted_met (Types c) q cmd s v info x is =
    let z = modal_with_char c q in
    met_drawn s info x _ (looks_typed c q s v) _ (after_step (Takes v) s.prompt info x _ _ _ refl (looks_drawn q.dir (Some q.at) z s v info x is)) refl (inl refl)
acted_met Erases q cmd s v info x is = again_met (length (modal_after_erase q).query == 0) (modal_after_erase q) s v info x is
acted_met (Goes dir) q cmd s v info x is = looks_met dir (onward q.at dir q (length s.entries)) (modal_with_query q.query q) s v info x is
acted_met Leaves q cmd s v info x is = met_drawn s info x _ (meeting_in_search Leaves q cmd s v) _ (left_drawn q.put q.place s v info x) refl (inl refl)
acted_met Ends q cmd s v info x is = anew_met (wish_of cmd) q cmd s v info x

pub meeting_leads : (at : Standing) (q : Modal) → q.standing ≡ at → (cmd : Cmd) (s : Setting) (v : Value) (info : Option (List ℕ)) (x : Sight) → (shows_own at ≡ true → x ≡ sight_of s v info)
    → Met s info x (meeting_in at q cmd s v)
meeting_leads Off q is cmd s v info x from = passes_met q cmd s v info x (ap shows_own is) (from refl)
meeting_leads Rests q is cmd s v info x from = resting_met (wish_of cmd) q cmd s v info x (ap shows_own is) (from refl)
meeting_leads Prefixes q is cmd s v info x from = prefixes_met (wish_of cmd) q cmd s v info x (ap shows_own is) (from refl)
meeting_leads Searches q is cmd s v info x from = acted_met (act_of cmd) q cmd s v info x is
meeting_leads Tabbed q is cmd s v info x from = tabbed_met (wish_of cmd) q cmd s v info x (ap shows_own is) (from refl)
meeting_leads Lists q is cmd s v info x from = lists_met (wish_of cmd) q cmd s v info x (ap shows_own is) (from refl)
meeting_leads Cycles q is cmd s v info x from = cycles_met (wish_of cmd) q cmd s v info x (ap shows_own is) (from refl)
