-- A search, or candidates in turn, that are given up leave the line as it was.
use Rattle.std.proofs.Common.{◌≡◌, ℕ, ◌==◌, Bool, true, false, List, [], ◌∷◌, ◌++◌, length, drop, Option, Some, None, is_some, slice_get, refl, sym, ap, ◌∙◌, subst, arith, if◌then◌else◌}
use Rattle.std.proofs.lemmas.Bool.Decides.{nat_tests}
use Rattle.std.specs.Prelude.{◌≢◌, slice_range, option_and_then, fold, All}
use Rattle.line_buffer.specs.Event.{text_after_event, ChangeEvent.Delete, ChangeEvent.InsertStr, ChangeEvent.Replace}
use Rattle.line_buffer.specs.Insertions.{text_that_fits}
use Rattle.line_buffer.specs.Line.{Line}
use Rattle.line_buffer.specs.declared.types.Direction.TheVariants.{Forward}
use Rattle.line_edits.specs.Edits.{by, update_group}
use Rattle.line_help.specs.Completion.{Offered, Completion, unless_empty}
use Rattle.line_help.specs.Search.{Hit, TermAt}
use Rattle.line_help.specs.declared.history.search.SearchDirection.{SearchDirection}
use Rattle.line_help.proofs.FoundLemmas.{nearest_is_found}
use Rattle.line_keys.specs.declared.command.Cmd.TheVariants.{Complete, Abort}
use Rattle.line_record.specs.Change.{Change, undo_place, Change.Inserted, Change.Replaced}
use Rattle.line_record.specs.RecordCourse.{record_after_events}
use Rattle.line_record.specs.Held.{HeldItem, change_of, record_after_event, has_mark, closes, group_with_change, record_after_close, line_back, HeldItem.Opened, HeldItem.Stepped}
use Rattle.line_record.proofs.GroupLaws.{unchanged}
use Rattle.line_record.proofs.RecordLaws.{no_mark}
use Rattle.line_editor.specs.Candidates.{cycle_begun, cycle_first, candidate_at, turn_effect, cycle_at, cycle_back, cycle_effect, modal_after_ask, cycle}
use Rattle.line_editor.specs.Completing.{begins_word, word_replaced, candidates_given, word_completed}
use Rattle.line_editor.specs.Returns.{GivesBack, GivesWordBack}
use Rattle.line_editor.specs.Modal.{Modal, Meeting, pass_meeting, takes}
use Rattle.line_editor.specs.Searching.{begin_search, modal_at_search_start, hit_undo_effect, put_hit_effect, search_for, modal_after_look, looks, looks_again, search_drawn, onward, modal_with_query, modal_after_erase, modal_with_char, is_place, line_at_place}
use Rattle.line_editor.specs.Values.{Value, Setting, value_with_edit, completion_reply, then_do}
use Rattle.line_editor.specs.declared.modal_state.Act.{Act}
use Rattle.line_editor.specs.declared.modal_state.Act.TheVariants.{Types, Erases, Goes, Leaves, Ends}
use Rattle.line_record.proofs.StepLemmas.{steps_with_change_if}
use Rattle.std.specs.Option.{option_map_or}
use Rattle.line_editor.specs.Drawing.{beep_effect, refresh_effect}
use Rattle.std.proofs.lemmas.List.Elements.{All-head, All-tail}
use Rattle.line_editor.specs.ModalCommands.{meeting_in_search}
use Rattle.std.proofs.lemmas.Bool.{cond-false}
use Rattle.std.proofs.Math.Bool.{and-false}

-- ---- an entry put in place of a line is one step

-- a step on a text, and what was held before it
record OneStep (text : List ℕ) (older held : List HeldItem) : Type 0 where
  place : ℕ
  newest : Change
  joinable : Bool
  are : held ≡ Stepped text place newest joinable ∷ older

-- of a group of a deletion, if there is one, and an insertion
closed_steps : (at : ℕ) (added removed text between : List ℕ) (first : Option Change) (c : Change) (older : List HeldItem) → has_mark older ≡ false → (first ≡ None → between ≡ text)
    → OneStep text older (record_after_close (steps_with_change_if (InsertStr at added) (Some c) between (steps_with_change_if (Delete at removed Forward) first text (Opened text ∷ older))))
closed_steps at added removed text between None c older none same =
    let m = no_mark older none in
    record { place = undo_place c; newest = c; joinable = false; are = rw (m.1, m.0) (ap (λ t. Stepped t (undo_place c) c false ∷ older) (same refl)) }
closed_steps at added removed text between (Some d) c older none same =
    let m = no_mark older none in
    record { place = undo_place d; newest = c; joinable = false; are = rw (m.1, m.0) refl }

first_some : (x : ℕ) (xs : List ℕ) → (length (x ∷ xs) == 0) ≡ false
first_some x xs = grind (arith, nat_tests)

not_none : (front term rest : List ℕ) → term ≢ [] → (length (front ++ (term ++ rest)) == 0) ≡ false
not_none [] [] rest some = absurd (some refl)
not_none [] (x ∷ term) rest some = first_some x (term ++ rest)
not_none (x ∷ front) term rest some = first_some x (front ++ (term ++ rest))

-- an entry that isn't empty, in a line that may grow
put_step : (entry : List ℕ) (pos : ℕ) (v : Value) → v.line.growth ≡ true → has_mark v.held ≡ false → (length entry == 0) ≡ false
    → OneStep v.line.text v.held (value_with_edit (by (update_group entry pos)) v).held
unfolding record_after_events
put_step entry pos v grows none some =
    let l = v.line in
    let removed = slice_range l.text 0 (length l.text) in
    let d = Delete 0 removed Forward in
    let added = text_that_fits entry l in
    let whole : added ≡ entry = rw grows in
    let c = Inserted 0 added in
    let change : change_of (InsertStr 0 added) ≡ Some c = cond-false (length added == 0) None (Some c) (ap (λ t. length t == 0) whole ∙ some) in
    subst (λ o. OneStep l.text v.held (record_after_close (steps_with_change_if (InsertStr 0 added) o (text_after_event d l.text) (record_after_event d l.text (Opened l.text ∷ v.held))))) (sym change)
    (closed_steps 0 added removed l.text (text_after_event d l.text) (change_of d) c v.held none (λ nothing. unchanged d l.text nothing))

-- ---- what stands of a search

-- the text of the line, and all else but its cursor
record SameText (l m : Line) : Type 0 where
  text : m.text ≡ l.text
  growth : m.growth ≡ l.growth
  limit : m.limit ≡ l.limit

-- nothing stands in the line's place, or one step does
abbrev Standing : Value → Bool → Value → Type 0
Standing v false u = (u.line ≡ v.line) × (u.held ≡ record_after_close v.held)
Standing v true u = OneStep v.line.text (record_after_close v.held) u.held × (u.line.growth ≡ v.line.growth) × (u.line.limit ≡ v.line.limit)

record Inside (v : Value) (x : Meeting) : Type 0 where
  place : x.modal.place ≡ v.line.place
  stands : Standing v x.modal.put x.effect.value

-- it is undone
record Back (v w : Value) : Type 0 where
  line : SameText v.line w.line
  held : w.held ≡ record_after_close v.held

taken_back : (put : Bool) (s : Setting) (v u : Value) → Standing v put u → Back v (hit_undo_effect put s u).value
taken_back false s v u h = record { line = record { text = ap (λ (l : Line). l.text) h.0; growth = ap (λ (l : Line). l.growth) h.0; limit = ap (λ (l : Line). l.limit) h.0 }; held = h.1 }
taken_back true s v u h =
    let step = h.0 in
    let back : line_back 1 u.held u.line ≡ record u.line { text = v.line.text; place = step.place } = ap (λ held. line_back 1 held u.line) step.are in
    record {
      line = record { text = ap (λ (l : Line). l.text) back; growth = ap (λ (l : Line). l.growth) back ∙ h.1; limit = ap (λ (l : Line). l.limit) back ∙ h.2 };
      held = ap (λ held. drop 1 held) step.are;
    }

grouped_marks : (c : Change) (held : List HeldItem) → has_mark (group_with_change c held) ≡ has_mark held
grouped_marks c [] = refl
grouped_marks c (Opened text ∷ held) = refl
grouped_marks c (Stepped text place newest joinable ∷ held) = refl

step_unmarked : (a b : Bool) (text : List ℕ) (place : ℕ) (newest : Change) (joinable : Bool) (held : List HeldItem) → has_mark held ≡ b → has_mark (record_after_close held) ≡ false
    → has_mark (if a then group_with_change newest (record_after_close held) else if b then Stepped text place newest false ∷ record_after_close held else Stepped text place newest joinable ∷ held) ≡ false
step_unmarked true b text place newest joinable held is below = grouped_marks newest (record_after_close held) ∙ below
step_unmarked false true text place newest joinable held is below = below
step_unmarked false false text place newest joinable held is below = is

ended_unmarked : (held : List HeldItem) → has_mark (record_after_close held) ≡ false
ended_unmarked [] = refl
ended_unmarked (Opened text ∷ held) = ended_unmarked held
ended_unmarked (Stepped text place newest joinable ∷ held) = step_unmarked (closes held) (has_mark held) text place newest joinable held refl (ended_unmarked held)

-- another one is put there
put_stands : (put : Bool) (hit : Hit) (s : Setting) (v u : Value) → v.line.growth ≡ true → (length hit.entry == 0) ≡ false → Standing v put u → Standing v true (put_hit_effect put (Some hit) s u).value
put_stands put hit s v u grows some h =
    let w = (hit_undo_effect put s u).value in
    let b = taken_back put s v u h in
    let step = put_step hit.entry hit.pos w (b.line.growth ∙ grows) (ap has_mark b.held ∙ ended_unmarked v.held) some in (
      subst (λ text. OneStep text (record_after_close v.held) (value_with_edit (by (update_group hit.entry hit.pos)) w).held) b.line.text
          (subst (λ older. OneStep w.line.text older (value_with_edit (by (update_group hit.entry hit.pos)) w).held) b.held step),
      b.line.growth,
      b.line.limit,
    )

-- what was found isn't empty
found_some : (query : List ℕ) (dir : SearchDirection) (from : Option ℕ) (entries : List (List ℕ)) (hit : Hit) → search_for query dir from entries ≡ Some hit → (length hit.entry == 0) ≡ false
found_some query dir None entries hit is = cc
found_some query dir (Some from) entries hit is =
    let n = (nearest_is_found false query from dir entries hit).0 is in
    let at : TermAt query hit.entry hit.pos = n.here.0 in
    ap (λ t. length t == 0) at.2 ∙ not_none at.0 query at.1 n.some

looked_inside : (dir : SearchDirection) (hit : Option Hit) (q : Modal) (s : Setting) (v u : Value) → v.line.growth ≡ true → ((found : Hit) → hit ≡ Some found → (length found.entry == 0) ≡ false)
    → q.place ≡ v.line.place → Standing v q.put u → (let y = modal_after_look dir hit q in (y.place ≡ v.line.place) × Standing v y.put (put_hit_effect q.put hit s u).value)
looked_inside dir None q s v u grows some place h = (place, h)
looked_inside dir (Some hit) q s v u grows some place h = (place, put_stands q.put hit s v u grows (some hit refl) h)

looks_inside : (dir : SearchDirection) (from : Option ℕ) (q : Modal) (s : Setting) (v u : Value) → v.line.growth ≡ true → q.place ≡ v.line.place → Standing v q.put u
    → Inside v (looks dir from q s u)
looks_inside dir from q s v u grows place h =
    let hit = search_for q.query dir from s.entries in
    let k = looked_inside dir hit q s v u grows (λ found is. found_some q.query dir from s.entries found is) place h in
    record { place = k.0; stands = drawn (modal_after_look dir hit q).put (put_hit_effect q.put hit s u).value k.1 }
  where
    -- drawing changes neither line nor record
    drawn : (put : Bool) (w : Value) → Standing v put w → (let e = search_drawn (modal_after_look dir (search_for q.query dir from s.entries) q) s w in Standing v put e.value)
    drawn true w g = g
    drawn false w g = g

-- ---- the cursor as it was

same_line : (l m : Line) → SameText l m → record m { place = l.place } ≡ l
same_line l m h = ap (λ t. record m { text = t; place = l.place }) h.text ∙ ap (λ g. record m { text = l.text; place = l.place; growth = g }) h.growth
    ∙ ap (λ n. record { text = l.text; place = l.place; growth = l.growth; limit = n }) h.limit

placed_back : (place : ℕ) (l m : Line) → SameText l m → place ≡ l.place → is_place l.place l ≡ true → line_at_place place m ≡ l
placed_back place l m h at stands =
    let test : is_place place m ≡ true = ap (λ p. is_place p m) at ∙ ap (λ t. is_place l.place (record m { text = t })) h.text ∙ stands in
    ap (λ b. if b then record m { place = place } else m) test ∙ ap (λ p. record m { place = p }) at ∙ same_line l m h

again_inside : (empty : Bool) (q : Modal) (s : Setting) (v u : Value) → v.line.growth ≡ true → is_place v.line.place v.line ≡ true → q.place ≡ v.line.place → Standing v q.put u
    → Inside v (looks_again empty q s u)
again_inside true q s v u grows stands place h =
    let b = taken_back q.put s v u h in
    record { place = place; stands = (placed_back q.place v.line (hit_undo_effect q.put s u).value.line b.line place stands, b.held) }
again_inside false q s v u grows stands place h = looks_inside q.dir (Some q.start) q s v u grows place h

abbrev search_after : Setting → Meeting → Act → Meeting
search_after s x act = meeting_in_search act x.modal Abort s x.effect.value

goes_on : (act : Act) (s : Setting) (v : Value) (x : Meeting) → v.line.growth ≡ true → is_place v.line.place v.line ≡ true → (act ≢ Leaves) × (act ≢ Ends) → Inside v x → Inside v (search_after s x act)
goes_on (Types c) s v x grows stands on h =
    let typed = looks_inside x.modal.dir (Some x.modal.at) (modal_with_char c x.modal) s v x.effect.value grows h.place h.stands in
    record { place = typed.place; stands = typed.stands }
goes_on Erases s v x grows stands on h = again_inside (length (modal_after_erase x.modal).query == 0) (modal_after_erase x.modal) s v x.effect.value grows stands h.place h.stands
goes_on (Goes dir) s v x grows stands on h = looks_inside dir (onward x.modal.at dir x.modal (length s.entries)) (modal_with_query x.modal.query x.modal) s v x.effect.value grows h.place h.stands
goes_on Leaves s v x grows stands on h = absurd (on.0 refl)
goes_on Ends s v x grows stands on h = absurd (on.1 refl)

all_go_on : (acts : List Act) (s : Setting) (v : Value) (x : Meeting) → v.line.growth ≡ true → is_place v.line.place v.line ≡ true → All (λ act. (act ≢ Leaves) × (act ≢ Ends)) acts → Inside v x → Inside v (fold (search_after s) x acts)
all_go_on [] s v x grows stands on h = h
all_go_on (act ∷ acts) s v x grows stands on h = let goes : Act → Type 0 = λ a. (a ≢ Leaves) × (a ≢ Ends) in all_go_on acts s v (search_after s x act) grows stands (All-tail goes act acts on) (goes_on act s v x grows stands (All-head goes act acts on) h)

-- ---- given up

pub gives_back : GivesBack
gives_back s dir q v acts grows stands on =
    let first = takes (begin_search dir q) (modal_at_search_start dir (length s.entries) v q) s v in
    let x = fold (search_after s) first acts in
    let h = all_go_on acts s v first grows stands on (record { place = refl; stands = (refl, refl) }) in
    let b = taken_back x.modal.put s v x.effect.value h.stands in
    (placed_back x.modal.place v.line (hit_undo_effect x.modal.put s x.effect.value).value.line b.line h.place stands, b.held)

-- ---- a candidate put in place of a word is one step

word_step : (start : ℕ) (text : List ℕ) (v : Value) → has_mark v.held ≡ false → (length text == 0) ≡ false → OneStep v.line.text v.held (value_with_edit (word_replaced start text) v).held
unfolding record_after_events
word_step start text v none some =
    let l = v.line in
    let before = slice_range l.text start l.place in
    let e = Replace start before text in
    let c = Replaced start before text in
    let m = no_mark v.held none in
    let change : change_of e ≡ Some c = simp (some, and-false) in
    subst (λ o. OneStep l.text v.held (record_after_close (steps_with_change_if e o l.text (Opened l.text ∷ v.held)))) (sym change)
    (record { place = undo_place c; newest = c; joinable = false; are = rw (m.1, m.0) refl })

-- a text that is put isn't empty
some_text : (t text : List ℕ) → unless_empty t ≡ Some text → (length text == 0) ≡ false
some_text [] text is = cc
some_text (b ∷ bs) text is = ap (λ o. length (given o) == 0) (sym is) ∙ first_some b bs
  where
    given : Option (List ℕ) → List ℕ
    given None = []
    given (Some t) = t

begun_some : (begins : Bool) (o : Option Offered) (text : List ℕ) → (if begins then option_and_then (λ (p : Offered). unless_empty p.replacement) o else None) ≡ Some text → (length text == 0) ≡ false
begun_some true None text is = cc
begun_some true (Some o) text is = some_text o.replacement text is
begun_some false o text is = cc

turned_stands : (start : ℕ) (o : Option (List ℕ)) (s : Setting) (v w : Value) → ((text : List ℕ) → o ≡ Some text → (length text == 0) ≡ false) → Standing v false w
    → Standing v (is_some o) (option_map_or (word_completed start) o (then_do refresh_effect beep_effect) s w).value
turned_stands start None s v w some h = h
turned_stands start (Some text) s v w some h =
    let held = (value_with_edit (word_replaced start text) w).held in
    let step = word_step start text w (ap has_mark h.1 ∙ ended_unmarked v.held) (some text refl) in (
      subst (λ t. OneStep t (record_after_close v.held) held) (ap (λ (l : Line). l.text) h.0) (subst (λ older. OneStep w.line.text older held) h.1 step),
      ap (λ (l : Line). l.growth) h.0,
      ap (λ (l : Line). l.limit) h.0,
    )

candidate_stands : (at : ℕ) (found : Completion) (s : Setting) (v w : Value) → Standing v false w → Standing v (is_some (candidate_at at found w.line)) (turn_effect at found s w).value
candidate_stands at found s v w h =
    turned_stands found.start (candidate_at at found w.line) s v w (begun_some (begins_word found.start w.line) (slice_get found.candidates at)) h

-- ---- candidates in turn, given up

cycles_on : (some : Bool) (dir : SearchDirection) (s : Setting) (v : Value) (x : Meeting) → is_place v.line.place v.line ≡ true → Inside v x
    → Inside v (if some then takes (cycle_effect dir x.modal) (modal_after_ask dir x.modal s (cycle_back x.modal s x.effect.value).value) s x.effect.value else pass_meeting x.modal Complete x.effect.value)
cycles_on false dir s v x stands h = record { place = h.place; stands = h.stands }
cycles_on true dir s v x stands h =
    let b = taken_back x.modal.put s v x.effect.value h.stands in
    let w = (cycle_back x.modal s x.effect.value).value in
    let found = candidates_given (completion_reply s w) in
    record {
      place = h.place;
      stands = candidate_stands (cycle_at dir x.modal.candidate (length found.candidates)) found s v w
          (placed_back x.modal.place v.line (hit_undo_effect x.modal.put s x.effect.value).value.line b.line h.place stands, b.held);
    }

abbrev cycle_after : Setting → Meeting → SearchDirection → Meeting
cycle_after s x dir = cycle dir x.modal Complete s x.effect.value

all_cycle : (dirs : List SearchDirection) (s : Setting) (v : Value) (x : Meeting) → is_place v.line.place v.line ≡ true → Inside v x → Inside v (fold (cycle_after s) x dirs)
all_cycle [] s v x stands h = h
all_cycle (dir ∷ dirs) s v x stands h = all_cycle dirs s v (cycle_after s x dir) stands (cycles_on (is_some s.hooks) dir s v x stands h)

pub gives_word_back : GivesWordBack
gives_word_back s found q v dirs stands =
    let first = takes (cycle_begun found) (cycle_first found v.line q) s v in
    let x = fold (cycle_after s) first dirs in
    let begun : Value = record v { held = record_after_close v.held } in
    let h = all_cycle dirs s v first stands (record { place = refl; stands = candidate_stands 0 found s v begun (refl, refl) }) in
    let b = taken_back x.modal.put s v x.effect.value h.stands in
    (placed_back x.modal.place v.line (hit_undo_effect x.modal.put s x.effect.value).value.line b.line h.place stands, b.held)
