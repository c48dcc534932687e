-- What the edits of a search and of candidates keep is kept by whatever they make of a command.
use Rattle.std.proofs.Common.{◌≡◌, ℕ, ◌-◌, ◌≤◌, ◌==◌, ◌&&◌, not, map, Bool, true, false, List, length, Option, Some, None, slice_get, is_some, refl, if◌then◌else◌}
use Rattle.std.specs.Prelude.{nat_le, option_and_then}
use Rattle.std.proofs.lemmas.Bool.{leb-true, cond_both}
use Rattle.line_buffer.specs.Insertions.{is_inside_char}
use Rattle.line_buffer.specs.Line.{Line}
use Rattle.line_config.specs.declared.settings.CompletionType.{CompletionType}
use Rattle.line_config.specs.declared.settings.CompletionType.TheVariants as completion_type
use Rattle.line_edits.specs.Edits.{update_group}
use Rattle.line_help.specs.Completion.{Offered, Completion, unless_empty}
use Rattle.line_help.specs.Search.{Hit}
use Rattle.line_help.specs.declared.history.search.SearchDirection.{SearchDirection, TheVariants.Forward, TheVariants.Reverse}
use Rattle.line_keys.specs.declared.command.Cmd.{Cmd}
use Rattle.line_record.specs.Held.{HeldItem}
use Rattle.line_editor.specs.Candidates.{only_text, candidate_at, several, is_ambiguous, modal_after_offer, cycle_at, cycle_back, cycle_effect, modal_after_ask, offer_effect, list_shown, only_put}
use Rattle.line_editor.specs.Completing.{begins_word, common_text_among, word_updated, complete_effect, candidates_given, candidates_asked, word_completed}
use Rattle.line_editor.specs.Drawing.{refresh_effect, beep_effect, effect_if}
use Rattle.line_editor.specs.History.{leave_effect}
use Rattle.line_editor.specs.ModalCommands.{meeting_effect, meeting_at_rest, meeting_anew, meeting_in, meeting_in_search, meeting_on, is_prefix, is_own, earlier, later, rises}
use Rattle.line_editor.specs.Modal.{Modal, modal_at_rest, pass_meeting, takes, wish_of, Meeting}
use Rattle.line_editor.specs.Searching.{modal_after_erase, looks_again, modal_with_char, search_for, onward, hit_undo_effect, put_hit_effect, is_place, place_effect, give_up_effect, hit_again, search_again_meeting, act_of}
use Rattle.line_editor.specs.Values.{Value, Setting, Saved, then_do, completion_reply, edit_effect, at_line, close_groups, Transition}
use Rattle.line_editor.specs.declared.modal_state.Act.{Act}
use Rattle.line_editor.specs.declared.modal_state.Act.TheVariants.{Types, Erases, Goes, Leaves, Ends}
use Rattle.line_editor.specs.declared.modal_state.Standing.{Standing}
use Rattle.line_editor.specs.declared.modal_state.Standing.TheVariants.{Off, Rests, Prefixes, Searches, Tabbed, Lists, Cycles}
use Rattle.line_editor.specs.declared.modal_state.Wish.{Wish}
use Rattle.line_editor.specs.declared.modal_state.Wish.TheVariants.{Search, Up, Down, Tab, TabBack, Leave, Again}
use Rattle.std.specs.Option.{option_map_or}

-- a fact of a line's text, whether it may grow, its record, the saved line and the place in the
-- history
abbrev pub Fact : Type 1
Fact = List ℕ → Bool → List HeldItem → Saved → ℕ → Type 0

abbrev pub Holds : Fact → Value → Type 0
Holds fact v = fact v.line.text v.line.growth v.held v.saved v.history

-- the edits keep it: an entry undone, groups closed, an entry put, a word completed, the line left
pub record KeptByEdits (fact : Fact) (s : Setting) : Type 0 where
  pub undone : (v : Value) → Holds fact v → Holds fact (hit_undo_effect true s v).value
  pub closed : (v : Value) → Holds fact v → Holds fact (close_groups s v).value
  pub put : (entry : List ℕ) (place : ℕ) (v : Value) → Holds fact v → Holds fact (edit_effect (update_group entry place) s v).value
  pub completed : (start : ℕ) (text : List ℕ) (v : Value) → start ≤ v.line.place → Holds fact v → Holds fact (word_updated start text s v).value
  pub left : (v : Value) → Holds fact v → Holds fact (leave_effect s v).value

-- a text is for a word that begins before the cursor
begun_before : (start : ℕ) (l : Line) (inside : Bool) (o : Option (List ℕ)) (text : List ℕ) → (if nat_le start l.place && inside then o else None) ≡ Some text → start ≤ l.place
begun_before start l inside o text is = by_order (nat_le start l.place) refl is
  where
    by_order : (b : Bool) → nat_le start l.place ≡ b → (if b && inside then o else None) ≡ Some text → start ≤ l.place
    by_order true h k = leb-true start l.place h
    by_order false h k = cc

module _ (fact : Fact) (s : Setting) (k : KeptByEdits fact s) where
  one_of : (b : Bool) (x y : Meeting) → Holds fact x.effect.value → Holds fact y.effect.value → Holds fact (if b then x else y).effect.value
  one_of b x y h i = cond_both b x y (λ (m : Meeting). Holds fact m.effect.value) (λ e. h) (λ e. i)

  -- ---- a search

  back : (put : Bool) (v : Value) → Holds fact v → Holds fact (hit_undo_effect put s v).value
  back true v h = k.undone v h
  back false v h = h

  entry_put : (put : Bool) (hit : Option Hit) (v : Value) → Holds fact v → Holds fact (put_hit_effect put hit s v).value
  entry_put put None v h = h
  entry_put put (Some hit) v h = k.put hit.entry hit.pos (hit_undo_effect put s v).value (back put v h)

  placed : (put : Bool) (place : ℕ) (v : Value) → Holds fact v → Holds fact (then_do (hit_undo_effect put) (place_effect place) s v).value
  placed put place v h =
      let w = (hit_undo_effect put s v).value in
      cond_both (is_place place w.line) (record w.line { place = place }) w.line (λ (l : Line). Holds fact (at_line l w)) (λ e. back put v h) (λ e. back put v h)

  given_up : (q : Modal) (v : Value) → Holds fact v → Holds fact (give_up_effect q s v).value
  given_up q v h = placed q.put q.place v h

  again : (empty : Bool) (q : Modal) (v : Value) → Holds fact v → Holds fact (looks_again empty q s v).effect.value
  again true q v h = placed q.put q.place v h
  again false q v h = entry_put q.put (search_for q.query q.dir (Some q.start) s.entries) v h

  found_again : (hit : Option Hit) (q : Modal) (v : Value) → Holds fact v → Holds fact (search_again_meeting hit q s v).effect.value
  found_again None q v h = h
  found_again (Some hit) q v h = k.put hit.entry hit.pos (close_groups s v).value (k.closed v h)

  -- an entry that begins with the line
  risen : (q : Modal) (v : Value) → Holds fact v → Holds fact (rises q s v).effect.value
  risen q v h = one_of (is_some (earlier s v)) _ _ (k.left v h) h

  -- ---- candidates

  completed : (start : ℕ) (o : Option (List ℕ)) (rest : Transition) (v : Value) → ((text : List ℕ) → o ≡ Some text → start ≤ v.line.place) → Holds fact v → Holds fact (rest s v).value
      → Holds fact (option_map_or (word_completed start) o rest s v).value
  completed start None rest v below h rested = rested
  completed start (Some text) rest v below h rested = k.completed start text v (below text refl) h

  word_done : (o : Option (List ℕ)) (found : Completion) (rest : Transition) (v : Value) → Holds fact v → Holds fact (rest s v).value
      → Holds fact (option_map_or (word_completed found.start) (if begins_word found.start v.line then o else None) rest s v).value
  word_done o found rest v h rested =
      completed found.start (if begins_word found.start v.line then o else None) rest v (λ text is. begun_before found.start v.line (not (is_inside_char v.line.text found.start)) o text is) h rested

  pub complete_keeps : (some : Bool) (v : Value) → Holds fact v → Holds fact (effect_if some (then_do candidates_asked (complete_effect (candidates_given (completion_reply s v)))) s v).value
  complete_keeps false v h = h
  complete_keeps true v h =
      let found = candidates_given (completion_reply s v) in
      word_done (common_text_among (v.line.place - found.start) (map (λ o. o.replacement) found.candidates)) found beep_effect v h h

  turned : (at : ℕ) (found : Completion) (v : Value) → Holds fact v → Holds fact (option_map_or (word_completed found.start) (candidate_at at found v.line) (then_do refresh_effect beep_effect) s v).value
  turned at found v h = word_done (option_and_then (λ (p : Offered). unless_empty p.replacement) (slice_get found.candidates at)) found (then_do refresh_effect beep_effect) v h h

  several_offered : (kind : CompletionType) (lists : Bool) (q : Modal) (found : Completion) (v : Value) → Holds fact v → Holds fact (several kind lists q found s v).value
  several_offered completion_type.Circular lists q found v h = turned 0 found (close_groups s v).value (k.closed v h)
  several_offered completion_type.List lists q found v h =
      word_done (common_text_among (v.line.place - found.start) (map (λ o. o.replacement) found.candidates)) found (if lists then list_shown q.limit found.candidates else beep_effect) v h
      (cond_both lists (list_shown q.limit found.candidates) beep_effect (λ (rest : Transition). Holds fact (rest s v).value) (λ e. h) (λ e. h))

  offered : (ambiguous lists : Bool) (q : Modal) (found : Completion) (v : Value) → Holds fact v → Holds fact (if ambiguous then several q.completion_type lists q found s v else option_map_or (word_completed found.start) (only_put found v.line) beep_effect s v).value
  offered false lists q found v h = word_done (only_text found.candidates) found beep_effect v h h
  offered true lists q found v h = several_offered q.completion_type lists q found v h

  tabbed : (some lists : Bool) (q : Modal) (cmd : Cmd) (v : Value) → Holds fact v → (let found = candidates_given (completion_reply s v) in
      Holds fact (if some then takes (then_do candidates_asked (offer_effect lists q found)) (modal_after_offer lists found v.line q) s v else pass_meeting q cmd v).effect.value)
  tabbed some lists q cmd v h = let found = candidates_given (completion_reply s v) in one_of some _ _ (offered (is_ambiguous found v.line) lists q found v h) h

  cycled : (some : Bool) (dir : SearchDirection) (q : Modal) (cmd : Cmd) (v : Value) → Holds fact v
      → Holds fact (if some then takes (cycle_effect dir q) (modal_after_ask dir q s (cycle_back q s v).value) s v else pass_meeting q cmd v).effect.value
  cycled some dir q cmd v h =
      let w = (then_do (hit_undo_effect q.put) (place_effect q.place) s v).value in
      let found = candidates_given (completion_reply s w) in
      one_of some _ _ (turned (cycle_at dir q.candidate (length found.candidates)) found w (placed q.put q.place v h)) h

  -- ---- any command that is met

  at_rest : (wish : Wish) (q : Modal) (cmd : Cmd) (v : Value) → Holds fact v → Holds fact (meeting_at_rest wish q cmd s v).effect.value
  at_rest (Search dir) q cmd v h = one_of (length s.entries == 0) _ _ h (k.closed v h)
  at_rest Up q cmd v h = one_of (is_own s v && is_prefix v.line) _ _ (risen q v h) h
  at_rest Tab q cmd v h = tabbed (is_some s.hooks) q.lists_at_once q cmd v h
  at_rest (Again way) q cmd v h = found_again (hit_again way q s v) q v h
  at_rest wish q cmd v h = h

  in_prefixes : (wish : Wish) (q : Modal) (cmd : Cmd) (v : Value) → Holds fact v → Holds fact (meeting_on Prefixes wish q cmd s v).effect.value
  in_prefixes Up q cmd v h = risen q v h
  in_prefixes Down q cmd v h = one_of (is_some (later s v)) _ _ h h
  in_prefixes wish q cmd v h = at_rest wish (modal_at_rest q) cmd v h

  after_tab : (wish : Wish) (q : Modal) (cmd : Cmd) (v : Value) → Holds fact v → Holds fact (meeting_on Tabbed wish q cmd s v).effect.value
  after_tab Tab q cmd v h = tabbed (is_some s.hooks) true q cmd v h
  after_tab wish q cmd v h = at_rest wish (modal_at_rest q) cmd v h

  anew : (wish : Wish) (q : Modal) (cmd : Cmd) (v : Value) → Holds fact v → Holds fact (meeting_anew wish q cmd s v).effect.value
  anew wish q cmd v h = at_rest wish (modal_at_rest q) cmd (refresh_effect s v).value h

  in_list : (wish : Wish) (q : Modal) (cmd : Cmd) (v : Value) → Holds fact v → Holds fact (meeting_on Lists wish q cmd s v).effect.value
  in_list Tab q cmd v h = tabbed (is_some s.hooks) true q cmd v h
  in_list wish q cmd v h = anew wish q cmd v h

  in_cycle : (wish : Wish) (q : Modal) (cmd : Cmd) (v : Value) → Holds fact v → Holds fact (meeting_on Cycles wish q cmd s v).effect.value
  in_cycle Tab q cmd v h = cycled (is_some s.hooks) Forward q cmd v h
  in_cycle TabBack q cmd v h = cycled (is_some s.hooks) Reverse q cmd v h
  in_cycle Leave q cmd v h = given_up q v h
  in_cycle wish q cmd v h = at_rest wish (modal_at_rest q) cmd v h

  in_search : (act : Act) (q : Modal) (cmd : Cmd) (v : Value) → Holds fact v → Holds fact (meeting_in_search act q cmd s v).effect.value
  in_search (Types c) q cmd v h = entry_put q.put (search_for (modal_with_char c q).query q.dir (Some q.at) s.entries) v h
  in_search Erases q cmd v h = again (length (modal_after_erase q).query == 0) (modal_after_erase q) v h
  in_search (Goes dir) q cmd v h = entry_put q.put (search_for q.query dir (onward q.at dir q (length s.entries)) s.entries) v h
  in_search Leaves q cmd v h = given_up q v h
  in_search Ends q cmd v h = anew (wish_of cmd) q cmd v h

  met : (at : Standing) (q : Modal) (cmd : Cmd) (v : Value) → Holds fact v → Holds fact (meeting_in at q cmd s v).effect.value
  met Off q cmd v h = h
  met Rests q cmd v h = at_rest (wish_of cmd) q cmd v h
  met Prefixes q cmd v h = in_prefixes (wish_of cmd) q cmd v h
  met Searches q cmd v h = in_search (act_of cmd) q cmd v h
  met Tabbed q cmd v h = after_tab (wish_of cmd) q cmd v h
  met Lists q cmd v h = in_list (wish_of cmd) q cmd v h
  met Cycles q cmd v h = in_cycle (wish_of cmd) q cmd v h

  pub meeting_keeps : (q : Modal) (cmd : Cmd) (v : Value) → Holds fact v → Holds fact (meeting_effect q cmd s v).value
  meeting_keeps q cmd v h = met q.standing q cmd v h
