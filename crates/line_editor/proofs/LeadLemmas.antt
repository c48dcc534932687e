-- What commands want to be seen leads from what is to be seen of the value before to the same of the value after.
use Rattle.std.proofs.Common.{◌≡◌, ℕ, ◌+◌, ◌-◌, ◌==◌, ◌||◌, ◌&&◌, not, ◌<◌, ◌≤◌, nat_le, nat_lt, Bool, true, false, List, [], ◌∷◌, ◌++◌, take, drop, length, length-append, take_all, Option, Some, None, IfSome, is_some, encode_utf8, refl, sym, ap, ◌∙◌, subst, append_assoc, append-nil, arith, if◌then◌else◌}
use Rattle.std.specs.Prelude.{⊤, chars}
use Rattle.std.specs.List.{list_all, last_or, insert_slice, replace_range}
use Rattle.std.proofs.lemmas.Bool.{and_parts, cond_both, eqb-true, leb-true, ltb-true, not-true}
use Rattle.std.proofs.lemmas.List.{drop_all, take-append-drop, length-drop, length-take, length-take-le, take-take, drop-drop}
use Rattle.std.proofs.lemmas.Str.{encode_ascii}
use Rattle.unicode_segmentation.proofs.TextLemmas.{encode_utf8_nonempty}
use Rattle.std.specs.Str.{is_utf8}
use Rattle.line_buffer.specs.Event.{ChangeEvent, ChangeEvent.InsertChar}
use Rattle.line_buffer.specs.Insertions.{Insertion, insertion_by, insertion_of, no_insertion, with_text_at_cursor, insert as insertion}
use Rattle.line_buffer.specs.Line.{Line, with_cursor_at, without_range}
use Rattle.line_buffer.specs.Range.{range_of, deletion_line}
use Rattle.line_buffer.specs.Rows.{row_start}
use Rattle.line_buffer.specs.Printable.{is_printable, is_plain, at_plain_end}
use Rattle.line_buffer.specs.Words.{next_word}
use Rattle.line_buffer.specs.declared.range.TextSpan.{TextSpan}
use Rattle.line_buffer.specs.declared.types.At.TheVariants.{Start}
use Rattle.line_buffer.specs.declared.types.Movement.{Movement}
use Rattle.line_buffer.specs.declared.types.Movement.TheVariants.{ViFirstPrint}
use Rattle.line_buffer.specs.declared.types.Word.TheVariants.{Big}
use Rattle.line_edits.specs.Edits.{by, char_steps, text_steps, kill_steps}
use Rattle.line_edits.specs.WriteSteps.{with_answer, WriteSteps}
use Rattle.line_help.specs.History.{begins_with_space}
use Rattle.line_keys.specs.Replies.{Reply}
use Rattle.line_keys.specs.declared.command.CmdKind.{CmdKind, TheVariants.MoveCursor}
use Rattle.line_record.specs.Held.{HeldItem}
use Rattle.line_editor.specs.Characters.{stands_apart, begins_apart, begins_apart_at}
use Rattle.line_editor.specs.Drawing.{Since, redraw_of, line_spans, kept_upto, since, redraw_since, draw_effect_since, ask_anew_effect, refresh_effect, refresh_effect_since, effect_if, message_effect, cursor_moved, beep_effect, clear_and_draw_effect}
use Rattle.line_editor.specs.Inserting.{is_bare, has_printable_rest, may_be_typed, may_be_appended, may_be_put_in, insertion_way, way_if_bare, put_redraw, show_inserted_effect, insert_char, insert_text}
use Rattle.line_editor.specs.declared.way.Way.{Way}
use Rattle.line_editor.specs.declared.way.Way.TheVariants.{AtEnd, Alone, Back, Inside, Whole}
use Rattle.line_editor.specs.Killing.{may_be_taken, may_be_taken_out, text_gone, is_cut_inside, last_of_bare, way_erased, kill_way, taken_redraw, show_taken, kill_effect, replace}
use Rattle.line_editor.specs.Leads.{Leads}
use Rattle.line_editor.specs.Moving.{cursor_moved_if, to_found, to_place, move_home, move_to_next_word, move_to_first_print, move_by}
use Rattle.line_editor.specs.RenderCalls.{Marks}
use Rattle.line_editor.specs.Redraws.{Redraw, info_text}
use Rattle.line_editor.specs.Redraws.Redraw.{Drawn, DrawnFrom, Moved, Typed, Appended, Taken, Erased, PutIn, TakenOut, Cleared}
use Rattle.line_editor.specs.SharedStyles.{styles_to, told_styles}
use Rattle.line_editor.specs.Sights.{PartSpans, drawn_spans, Sight, InPart, TypedFits, AppendedFits, TakenFits, Replaces, DrawnFromFits, sight_as, sight, sight_all, Fits, FitsAll, Turns, info_after, sight_of, no_sight}
use Rattle.line_editor.specs.Values.{Value, Setting, EditStep, Effect, Transition, no_effect, then_do, hint_reply, help_steps, value_with_edit, edit_effect, at_line, with_mark, marks_seen, shown_marks, shown_hint, line_and_record_of, draw_effect}
use Rattle.line_editor.specs.Values.EditStep.{Draws, Edits, TakesBack, Takes}
use Rattle.line_editor.proofs.ApartLemmas.{apart_before}
use Rattle.line_editor.proofs.CharacterRanges.{end_is_last}
use Rattle.line_editor.proofs.KillLemmas.{Low, cut_short, cut_text, range_low}
use Rattle.line_editor.proofs.KnownLemmas.{Begins, behind_place, text_begins, typed_begins}
use Rattle.line_editor.proofs.SharedLemmas.{kept_styles}
use Rattle.line_editor.proofs.SinceLemmas.{unmarked_line}
use Rattle.line_editor.proofs.SimpleLemmas.{typed_at_any}
use Rattle.std.specs.Option.{option_map_or}

-- ---- one after the other

pub fits_both : (own : List ℕ) (x : Sight) (rs ss : List EditStep) → FitsAll own x rs → FitsAll own (sight_all x rs) ss → FitsAll own x (rs ++ ss)
fits_both own x [] ss h k = k
fits_both own x (r ∷ rs) ss h k = (h.0, fits_both own (sight x r) rs ss h.1 k)

pub sight_both : (x : Sight) (rs ss : List EditStep) → sight_all x (rs ++ ss) ≡ sight_all (sight_all x rs) ss
sight_both x [] ss = refl
sight_both x (r ∷ rs) ss = sight_both (sight x r) rs ss

pub info_both : (rs ss : List EditStep) (info : Option (List ℕ)) → info_after (rs ++ ss) info ≡ info_after ss (info_after rs info)
info_both [] ss info = refl
info_both (r ∷ rs) ss info = info_both rs ss (sight (record no_sight { info = info }) r).info

pub turns_both : (own : List ℕ) (x y z : Sight) (rs ss : List EditStep) → Turns own x rs y → Turns own y ss z → Turns own x (rs ++ ss) z
turns_both own x y z rs ss h k = record {
  fits = fits_both own x rs ss h.fits (subst (λ w. FitsAll own w ss) (sym h.leads) k.fits);
  leads = sight_both x rs ss ∙ ap (λ w. sight_all w ss) h.leads ∙ k.leads;
}

pub both_lead : (s : Setting) (v : Value) (first second : Transition) → Leads s v (first s v) → Leads s (first s v).value (second s (first s v).value) → Leads s v (then_do first second s v)
both_lead s v first second h k info =
    let e = first s v in
    let f = second s e.value in
    let between = info_after e.steps info in
    subst (λ i. Turns s.prompt (sight_of s v info) (e.steps ++ f.steps) (sight_of s f.value i)) (sym (info_both e.steps f.steps info))
    (turns_both s.prompt (sight_of s v info) (sight_of s e.value between) (sight_of s f.value (info_after f.steps between)) e.steps f.steps (h info) (k between))

-- ---- values that are seen alike

-- line, mark, and whether there is a hint
abbrev pub Alike : Value → Value → Type 0
Alike v w = (w.line ≡ v.line) × (w.marked ≡ v.marked) × (is_some w.hint ≡ is_some v.hint)

abbrev sight_by : Setting → Option (List ℕ) → Line → Bool → Bool → Sight
sight_by s info l marked hinted = sight_as (marks_seen marked (not hinted) s.marks) s.prompt l.text l.place info

pub alike_sight : (s : Setting) (v w : Value) (info : Option (List ℕ)) → Alike v w → sight_of s v info ≡ sight_of s w info
alike_sight s v w info h =
    ap (λ l. sight_by s info l v.marked (is_some v.hint)) (sym h.0)
    ∙ ap (λ b. sight_by s info w.line b (is_some v.hint)) (sym h.1)
    ∙ ap (λ b. sight_by s info w.line w.marked b) (sym h.2)

-- an unmarked line has no spans, whatever its text and its place
unmarked_spans : (marks : Option Marks) (told : Bool) (prompt text other : List ℕ) (place at : ℕ) (info : List ℕ) → drawn_spans (marks_seen false told marks) true prompt text place info ≡ drawn_spans (marks_seen false told marks) true prompt other at info
unmarked_spans None told prompt text other place at info = refl
unmarked_spans (Some m) told prompt text other place at info = refl

-- the spans of a value of which both are unmarked, and have a hint or none
still_spans : (s : Setting) (v w : Value) (info : List ℕ) → v.marked ≡ false → w.marked ≡ false → is_some w.hint ≡ is_some v.hint
    → drawn_spans (shown_marks v s.marks) true s.prompt v.line.text v.line.place info ≡ drawn_spans (shown_marks w s.marks) true s.prompt w.line.text w.line.place info
still_spans s v w info a b c =
    let of : Line → Bool → Bool → PartSpans = λ l marked hinted. drawn_spans (marks_seen marked (not hinted) s.marks) true s.prompt l.text l.place info in
    ap (λ x. of v.line x (is_some v.hint)) a
    ∙ unmarked_spans s.marks (not (is_some v.hint)) s.prompt v.line.text w.line.text v.line.place w.line.place info
    ∙ ap (λ x. of w.line false x) (sym c)
    ∙ ap (λ x. of w.line x (is_some w.hint)) (sym b)

-- a prompt's spans depend on nothing else
same_prompt : (marks : Option Marks) (marked told was_marked was_told : Bool) (prompt text other : List ℕ) (place at : ℕ) (info gone : List ℕ)
    → (drawn_spans (marks_seen marked told marks) true prompt text place info).prompt ≡ (drawn_spans (marks_seen was_marked was_told marks) true prompt other at gone).prompt
same_prompt None marked told was_marked was_told prompt text other place at info gone = refl
same_prompt (Some m) marked told was_marked was_told prompt text other place at info gone = refl

-- a bare value's spans are those of another
pub bare_styles : (s : Setting) (v w : Value) (info : Option (List ℕ)) → is_bare v ≡ true → is_bare w ≡ true → InPart s.prompt (sight_of s v info) (shown_marks w s.marks) s.prompt w.line.text w.line.place
bare_styles s v w info a b =
    let first = and_parts (not (is_some v.hint)) (not v.marked) a in
    let later = and_parts (not (is_some w.hint)) (not w.marked) b in
    let before = not-true v.marked first.1 in
    let after = not-true w.marked later.1 in
    record {
      given = refl;
      own_is = refl;
      prompt_is = refl;
      unstyled = ap (λ x. (drawn_spans (marks_seen x (not (is_some v.hint)) s.marks) true s.prompt v.line.text v.line.place (info_text info)).line) before
          ∙ unmarked_line s.marks (not (is_some v.hint)) s.prompt v.line.text v.line.place (info_text info);
      still = ap (λ x. (drawn_spans (marks_seen x (not (is_some w.hint)) s.marks) true s.prompt w.line.text w.line.place []).line) after
          ∙ unmarked_line s.marks (not (is_some w.hint)) s.prompt w.line.text w.line.place [];
      same_prompt = same_prompt s.marks w.marked (not (is_some w.hint)) v.marked (not (is_some v.hint)) s.prompt w.line.text v.line.text w.line.place v.line.place [] (info_text info);
      same = λ none.
          sym (still_spans s v w [] before after (not-true (is_some w.hint) later.0 ∙ sym (not-true (is_some v.hint) first.0)))
          ∙ ap (λ o. drawn_spans (shown_marks v s.marks) true s.prompt v.line.text v.line.place (info_text o)) (sym none);
    }

pub or_none : (a b : Bool) → (a || b) ≡ false → (a ≡ false) × (b ≡ false)
or_none true b h = cc
or_none false b h = (refl, h)

-- one of two
pub either : (s : Setting) (v : Value) (b : Bool) (e f : Effect) → (b ≡ true → Leads s v e) → (b ≡ false → Leads s v f) → Leads s v (if b then e else f)
either s v b e f h k = cond_both b e f (Leads s v) h k

-- ---- steps before that show nothing

-- an edit of the line
pub edit_leads : (edit : WriteSteps ⊤) (s : Setting) (v w : Value) (e : Effect) → Leads s v e → Leads s v (record { value = e.value; steps = Edits w edit ∷ e.steps })
edit_leads edit s v w e h info = record { fits = (tt, (h info).fits); leads = (h info).leads }

-- changes undone
pub back_leads : (s : Setting) (v w : Value) (count : ℕ) (e : Effect) → Leads s v e → Leads s v (record { value = e.value; steps = TakesBack w count ∷ e.steps })
back_leads s v w count e h info = record { fits = (tt, (h info).fits); leads = (h info).leads }

-- memory taken
pub take_leads : (s : Setting) (v w : Value) (e : Effect) → Leads s v e → Leads s v (record { value = e.value; steps = Takes w ∷ e.steps })
take_leads s v w e h info = record { fits = (tt, (h info).fits); leads = (h info).leads }

abbrev behind_help : {A : Type 0} → Value → Option (Reply A) → Effect → Effect
behind_help w reply e = record { value = e.value; steps = help_steps w reply ++ e.steps }

pub help_turns : {A : Type 0} (w : Value) (reply : Option (Reply A)) (own : List ℕ) (x y : Sight) (rs : List EditStep) → Turns own x rs y → Turns own x (help_steps w reply ++ rs) y
help_turns w None own x y rs h = h
help_turns w (Some reply) own x y rs h = record { fits = (tt, h.fits); leads = h.leads }

pub help_info : {A : Type 0} (w : Value) (reply : Option (Reply A)) (rs : List EditStep) (info : Option (List ℕ)) → info_after (help_steps w reply ++ rs) info ≡ info_after rs info
help_info w None rs info = refl
help_info w (Some reply) rs info = refl

pub help_leads : {A : Type 0} (w : Value) (reply : Option (Reply A)) (s : Setting) (v : Value) (e : Effect) → Leads s v e → Leads s v (behind_help w reply e)
help_leads w None s v e h = h
help_leads w (Some reply) s v e h = λ info. record { fits = (tt, (h info).fits); leads = (h info).leads }

pub asking_leads : {A : Type 0} (u : Value) (reply : Option (Reply A)) (s : Setting) (v w : Value) → Alike v w → Leads s v (record { value = w; steps = help_steps u reply })
asking_leads u None s v w h info = record { fits = tt; leads = alike_sight s v w info h }
asking_leads u (Some reply) s v w h info = record { fits = (tt, tt); leads = alike_sight s v w info h }

-- what is drawn in full hides what was asked before
pub redrawn_leads : {A : Type 0} (x : Redraw) (u : Value) (reply : Option (Reply A)) (s : Setting) (v w : Value) → ((y : Sight) → Fits s.prompt y (Draws u s.marks x))
    → Leads s v (record { value = w; steps = Draws u s.marks x ∷ (help_steps u reply ++ (Draws w s.marks (redraw_of s w) ∷ [])) })
redrawn_leads x u None s v w h info = record { fits = (h (sight_of s v info), ((λ e. refl), tt)); leads = refl }
redrawn_leads x u (Some reply) s v w h info = record { fits = (h (sight_of s v info), (tt, ((λ e. refl), tt))); leads = refl }

-- ---- drawn in full, or left as it stands

pub refresh_leads : (s : Setting) (v w : Value) → Leads s v (refresh_effect s w)
refresh_leads s v w = help_leads w (hint_reply s w) s v ((draw_effect_since None) s (ask_anew_effect s w).value) (λ info. record { fits = ((λ e. refl), tt); leads = refl })

-- behind an edit of the line
pub redraw_leads : {A : Type 0} (edit : Line → WriteSteps A) (s : Setting) (v w : Value) → Leads s v (then_do (edit_effect edit) refresh_effect s w)
redraw_leads edit s v w = edit_leads (with_answer tt (edit w.line)) s v w (refresh_effect s (value_with_edit (by edit) w)) (refresh_leads s v (value_with_edit (by edit) w))

pub told_leads : (text : Option (List ℕ)) (kind : CmdKind) (s : Setting) (v w : Value) → Leads s v (message_effect text kind s w)
told_leads text kind s v w info = record { fits = ((λ e. refl), tt); leads = refl }

pub rest_leads : (s : Setting) (v w : Value) → Alike v w → Leads s v (no_effect s w)
rest_leads s v w h info = record { fits = tt; leads = alike_sight s v w info h }

pub beep_leads : (s : Setting) (v w : Value) → Alike v w → Leads s v (beep_effect s w)
beep_leads s v w h info = record { fits = (tt, tt); leads = alike_sight s v w info h }

pub clear_leads : (s : Setting) (v : Value) → Leads s v (clear_and_draw_effect s v)
clear_leads s v = redrawn_leads Cleared v (hint_reply s v) s v (ask_anew_effect s v).value (λ y. tt)

pub refresh_if_leads : {A : Type 0} (edit : Line → WriteSteps A) (s : Setting) (v : Value) (b : Bool) → (b ≡ false → (value_with_edit (by edit) v).line ≡ v.line) → Leads s v (then_do (edit_effect edit) (effect_if b refresh_effect) s v)
refresh_if_leads edit s v b h =
    let w = value_with_edit (by edit) v in
    edit_leads (with_answer tt (edit v.line)) s v v (effect_if b refresh_effect s w) (either s v b (refresh_effect s w) (no_effect s w) (λ e. refresh_leads s v w) (λ e. rest_leads s v w (h e, refl, refl)))

-- drawn in full
pub whole_leads : (s : Setting) (v w : Value) → Leads s v (record { value = w; steps = Draws w s.marks (redraw_of s w) ∷ [] })
whole_leads s v w info = record { fits = ((λ x. refl), tt); leads = refl }

-- ---- drawn from a place on

-- a line's spans don't depend on what is shown after it
same_line : (s : Setting) (v : Value) (info : List ℕ) → line_spans s v ≡ (drawn_spans (shown_marks v s.marks) true s.prompt v.line.text v.line.place info).line
same_line s v info = by_marks s.marks
  where
    by_marks : (marks : Option Marks) → (drawn_spans (shown_marks v marks) true s.prompt v.line.text v.line.place []).line ≡ (drawn_spans (shown_marks v marks) true s.prompt v.line.text v.line.place info).line
    by_marks None = refl
    by_marks (Some m) = refl

some_by : (b : Bool) (o : Option ℕ) (c : ℕ) → (if b then o else None) ≡ Some c → (b ≡ true) × (o ≡ Some c)
some_by true o c h = (refl, h)
some_by false o c h = cc

module _ (from : ℕ) (s : Setting) (v w : Value) (first : begins_apart_at v.line.text from ≡ true) (same : take from w.line.text ≡ take from v.line.text) where
  abbrev noted : Since
  noted = record { from = from; styles = told_styles from (line_spans s v) }

  abbrev kept : ℕ
  kept = kept_upto noted s w

  from_leads : (begins_apart_at w.line.text noted.from && begins_apart_at w.line.text kept) ≡ true → Leads s v (record { value = w; steps = Draws w s.marks (DrawnFrom s.prompt kept w.line.text w.line.place (shown_hint w)) ∷ [] })
  from_leads later info =
      let both = and_parts (begins_apart_at w.line.text from) (begins_apart_at w.line.text kept) later in
      let styles = kept_styles from (line_spans s v) (line_spans s w) kept refl in
      let before = and_parts (nat_le kept (length v.line.text)) _ (apart_before kept from v.line.text w.line.text styles.0 same first both.0 both.1) in
      let after = and_parts (nat_le kept (length w.line.text)) _ both.1 in
      let front : take kept w.line.text ≡ take kept v.line.text = sym (take-take kept from w.line.text styles.0) ∙ ap (take kept) same ∙ take-take kept from v.line.text styles.0 in
      let hint = info_text (shown_hint w) in
      let seen : DrawnFromFits (sight_of s v info) (shown_marks w s.marks) s.prompt kept w.line.text w.line.place (shown_hint w) = record {
        before = take kept v.line.text;
        gone = drop kept v.line.text;
        rest = drop kept w.line.text;
        whole = sym (take-append-drop kept v.line.text);
        text_is = sym (take-append-drop kept w.line.text) ∙ ap (λ xs. xs ++ drop kept w.line.text) front;
        from_is = sym (length-take-le kept v.line.text (leb-true kept (length v.line.text) before.0));
        gone_apart = before.1;
        rest_apart = ap (λ xs. begins_apart xs (drop kept w.line.text)) (sym front) ∙ after.1;
        prompt_is = refl;
        same_styles = ap (styles_to kept) (sym (same_line s w hint)) ∙ styles.1 ∙ ap (styles_to kept) (same_line s v (info_text info));
        prompt_styles = same_prompt s.marks w.marked (not (is_some w.hint)) v.marked (not (is_some v.hint)) s.prompt w.line.text v.line.text w.line.place v.line.place hint (info_text info);
      } in
      record { fits = ((refl, refl, seen), tt); leads = refl }

  noted_leads : Leads s v (record { value = w; steps = Draws w s.marks (redraw_since (Some noted) s w) ∷ [] })
  noted_leads =
      let drawn : Redraw → Type 0 = λ x. Leads s v (record { value = w; steps = Draws w s.marks x ∷ [] }) in
      cond_both (begins_apart_at w.line.text noted.from && begins_apart_at w.line.text kept) _ _ drawn from_leads (λ later. whole_leads s v w)

-- a change left the line up to there
pub since_leads : (from : ℕ) (s : Setting) (v w : Value) → (from ≤ length v.line.text → Begins from v.line.text w.line.text)
    → Leads s v (record { value = w; steps = Draws w s.marks (redraw_since (since s from v) s w) ∷ [] })
since_leads from s v w stays =
    let drawn : Option Since → Type 0 = λ o. Leads s v (record { value = w; steps = Draws w s.marks (redraw_since o s w) ∷ [] }) in
    cond_both (s.config.partial_redraw && begins_apart_at v.line.text from) _ _ drawn
    (λ is.
    let first = (and_parts s.config.partial_redraw _ is).1 in
    let inside = (and_parts (nat_le from (length v.line.text)) _ first).0 in
    noted_leads from s v w first (stays (leb-true from (length v.line.text) inside)).same)
    (λ is. whole_leads s v w)

pub refresh_since_leads : (from : ℕ) (s : Setting) (v w : Value) → (from ≤ length v.line.text → Begins from v.line.text w.line.text) → Leads s v (refresh_effect_since (since s from v) s w)
refresh_since_leads from s v w stays =
    let asked = (ask_anew_effect s w).value in
    help_leads w (hint_reply s w) s v (draw_effect_since (since s from v) s asked) (since_leads from s v asked stays)

pub redraw_since_leads : {A : Type 0} (edit : Line → WriteSteps A) (from : ℕ) (s : Setting) (v w : Value) → (from ≤ length v.line.text → Begins from v.line.text (by edit (line_and_record_of w)).line.text)
    → Leads s v (then_do (edit_effect edit) (refresh_effect_since (since s from v)) s w)
redraw_since_leads edit from s v w stays =
    edit_leads (with_answer tt (edit w.line)) s v w (refresh_effect_since (since s from v) s (value_with_edit (by edit) w)) (refresh_since_leads from s v (value_with_edit (by edit) w) stays)

pub refresh_since_if_leads : {A : Type 0} (edit : Line → WriteSteps A) (s : Setting) (v : Value) (b : Bool)
    → (b ≡ false → (value_with_edit (by edit) v).line ≡ v.line) → (v.line.place ≤ length v.line.text → Begins v.line.place v.line.text (by edit (line_and_record_of v)).line.text)
    → Leads s v (then_do (edit_effect edit) (effect_if b (refresh_effect_since (since s v.line.place v))) s v)
refresh_since_if_leads edit s v b h stays =
    let w = value_with_edit (by edit) v in
    let from = since s v.line.place v in
    edit_leads (with_answer tt (edit v.line)) s v v (effect_if b (refresh_effect_since from) s w)
    (either s v b (refresh_effect_since from s w) (no_effect s w) (λ e. refresh_since_leads v.line.place s v w stays) (λ e. rest_leads s v w (h e, refl, refl)))

-- ---- the cursor

shown_or_drawn : (s : Setting) (v w : Value) (b : Bool) → (v.marked || w.marked) ≡ b → is_some w.hint ≡ is_some v.hint → w.line.text ≡ v.line.text
    → Leads s v (record { value = w; steps = Draws w s.marks (if b then Drawn s.prompt true w.line.text w.line.place None else Moved w.line.text w.line.place) ∷ [] })
shown_or_drawn s v w true e k h info = record { fits = ((λ e. refl), tt); leads = refl }
shown_or_drawn s v w false e k h info =
    let none = or_none v.marked w.marked e in
    let y = sight_of s v info in
    record {
      fits = (h, tt);
      leads = ap (λ t. record y { line = t; place = w.line.place }) (sym h)
          ∙ ap (λ x. record y { line = w.line.text; place = w.line.place; spans = x }) (still_spans s v w (info_text info) none.0 none.1 k);
    }

pub move_leads : (kind : CmdKind) (l : Line) (s : Setting) (v : Value) → l.text ≡ v.line.text → Leads s v (cursor_moved kind s (at_line l v))
move_leads kind l s v h = shown_or_drawn s v (with_mark kind s (at_line l v)) (v.marked || (with_mark kind s (at_line l v)).marked) refl refl h

pub step_leads : (kind : CmdKind) (moves : Bool) (l : Line) (s : Setting) (v : Value) → l.text ≡ v.line.text → Leads s v (cursor_moved_if kind moves l s v)
step_leads kind moves l s v h = either s v moves (cursor_moved kind s (at_line l v)) (no_effect s v) (λ e. move_leads kind l s v h) (λ e. rest_leads s v v (refl, refl, refl))

found_leads : (o : Option ℕ) (s : Setting) (v : Value) → Leads s v (to_found o s v)
found_leads o s v = step_leads MoveCursor (is_some o) (with_cursor_at o v.line) s v refl

place_leads : (kind : CmdKind) (place : ℕ) (s : Setting) (v : Value) → Leads s v (to_place kind place s v)
place_leads kind place s v = step_leads kind (not (place == v.line.place)) (record v.line { place = place }) s v refl

first_print_leads : (s : Setting) (v : Value) → Leads s v (move_to_first_print s v)
first_print_leads s v = either s v (begins_with_space v.line.text) (then_do move_home (move_to_next_word Start Big 1) s v) (move_home s v)
    (λ e. both_lead s v move_home (move_to_next_word Start Big 1) (home v) (next (move_home s v).value)) (λ e. home v)
  where
    home : (v : Value) → Leads s v (move_home s v)
    home v = place_leads MoveCursor (row_start v.line.text v.line.place) s v

    next : (v : Value) → Leads s v (move_to_next_word Start Big 1 s v)
    next v = found_leads (next_word Start Big 1 v.line) s v

pub motion_leads : (m : Movement) (s : Setting) (v : Value) → Leads s v (move_by m s v)
motion_leads ViFirstPrint s v = first_print_leads s v
motion_leads m s v = search (found_leads, place_leads, rest_leads)

-- ---- a typed character

small : (c : ℕ) → is_printable c ≡ true → c < 128
small c h = let parts = and_parts (nat_le 32 c) (nat_lt c 127) h in let k = ltb-true c 127 parts.1 in omega arith

put_at_end : (text : List ℕ) (place : ℕ) (added : List ℕ) → place ≡ length text → insert_slice text place added ≡ text ++ added
put_at_end text place added e =
    append_assoc (take place text) added (drop place text)
    ∙ ap (λ xs. xs ++ (added ++ drop place text)) (take_all place text (omega arith))
    ∙ ap (λ xs. text ++ (added ++ xs)) (drop_all place text (omega arith))
    ∙ ap (λ xs. text ++ xs) (append-nil added)

-- the way that was chosen, if the line is bare
abbrev chosen : Bool → Bool → Bool → Bool → ℕ → Bool → Way
chosen bare alone first second c back = if bare then (if alone then Alone else if first then AtEnd else if second then Inside else if back then Back c else Whole) else Whole

-- what it says of the tests
abbrev Says : Bool → Bool → Bool → Bool → ℕ → Bool → Way → Type 0
Says bare alone first second c back Alone = (bare ≡ true) × (alone ≡ true)
Says bare alone first second c back AtEnd = (bare ≡ true) × (first ≡ true)
Says bare alone first second c back Inside = (bare ≡ true) × (second ≡ true)
Says bare alone first second c back (Back d) = (bare ≡ true) × (back ≡ true) × (c ≡ d)
Says bare alone first second c back Whole = Unit {0}

chosen_says : (bare alone first second : Bool) (c : ℕ) (back : Bool) → Says bare alone first second c back (chosen bare alone first second c back)
chosen_says false alone first second c back = tt
chosen_says true true first second c back = (refl, refl)
chosen_says true false true second c back = (refl, refl)
chosen_says true false false true c back = (refl, refl)
chosen_says true false false false c true = (refl, refl, refl)
chosen_says true false false false c false = tt

way_says : (bare alone first second : Bool) (c : ℕ) (back : Bool) (way : Way) → chosen bare alone first second c back ≡ way → Says bare alone first second c back way
way_says bare alone first second c back way is = subst (Says bare alone first second c back) is (chosen_says bare alone first second c back)

module _ (s : Setting) (c n : ℕ) (v w : Value) (put : (n == 1) ≡ true → w.line ≡ with_text_at_cursor (encode_utf8 c) v.line)
    (stays : v.line.place ≤ length v.line.text → Begins v.line.place v.line.text w.line.text) where
  typed_leads : is_bare w ≡ true → may_be_typed (is_some s.tabs) c n v ≡ true → Leads s v (record { value = w; steps = Draws w s.marks (Typed s.prompt c w.line.text w.line.place) ∷ [] })
  typed_leads bare typing info =
      let b = and_parts (n == 1) _ typing in
      let typed = (and_parts (is_bare v) _ b.1).1 in
      let d = and_parts (is_printable c) _ typed in
      let one : encode_utf8 c ≡ c ∷ [] = encode_ascii c (small c d.0) in
      let end = eqb-true v.line.place (length v.line.text) (and_parts (v.line.place == length v.line.text) _ d.1).0 in
      let text : w.line.text ≡ insert_slice v.line.text v.line.place (encode_utf8 c) = ap (λ (l : Line). l.text) (put b.0) in
      let place : w.line.place ≡ v.line.place + length (encode_utf8 c) = ap (λ (l : Line). l.place) (put b.0) in
      let seen : TypedFits (sight_of s v info) c w.line.text w.line.place = record {
        typed = typed_at_any (is_some s.tabs) c v.line.text v.line.place typed;
        text_is = text ∙ put_at_end v.line.text v.line.place (encode_utf8 c) end ∙ ap (λ x. v.line.text ++ x) one;
        behind = place ∙ ap (λ x. v.line.place + length x) one;
      } in
      record { fits = ((bare_styles s v w info (and_parts (is_bare v) _ b.1).0 bare, refl, seen), tt); leads = refl }

  appended_leads : is_bare w ≡ true → may_be_appended s.config.partial_redraw c n v ≡ true → Leads s v (record { value = w; steps = Draws w s.marks (Appended s.prompt c w.line.text w.line.place) ∷ [] })
  appended_leads bare fits info =
      let text = v.line.text in
      let a = and_parts s.config.partial_redraw _ fits in
      let b = and_parts (n == 1) _ a.1 in
      let d = and_parts (is_bare v) _ b.1 in
      let e = and_parts (v.line.place == length text) (stands_apart text c) d.1 in
      let end = eqb-true v.line.place (length text) e.0 in
      let new : w.line.text ≡ insert_slice text v.line.place (encode_utf8 c) = ap (λ (l : Line). l.text) (put b.0) in
      let place : w.line.place ≡ v.line.place + length (encode_utf8 c) = ap (λ (l : Line). l.place) (put b.0) in
      let seen : AppendedFits (sight_of s v info) c w.line.text w.line.place = record {
        at = end;
        apart = e.1;
        text_is = new ∙ put_at_end text v.line.place (encode_utf8 c) end;
        behind = place ∙ ap (λ k. k + length (encode_utf8 c)) end ∙ sym (length-append text (encode_utf8 c));
      } in
      record { fits = ((bare_styles s v w info d.0 bare, refl, seen), tt); leads = refl }

  put_in_leads : is_bare w ≡ true → may_be_put_in s.config.partial_redraw c n v ≡ true → Leads s v (record { value = w; steps = Draws w s.marks (PutIn s.prompt c w.line.text w.line.place) ∷ [] })
  put_in_leads bare fits info =
      let text = v.line.text in
      let at = v.line.place in
      let a = and_parts s.config.partial_redraw _ fits in
      let b = and_parts (n == 1) _ a.1 in
      let d = and_parts (is_bare v) _ b.1 in
      let e = and_parts (is_printable c) _ d.1 in
      let f = and_parts (nat_lt at (length text)) _ e.1 in
      let kept = and_parts (is_plain text) (has_printable_rest v.line) f.1 in
      let one : encode_utf8 c ≡ c ∷ [] = encode_ascii c (small c e.0) in
      let low : at < length text = ltb-true at (length text) f.0 in
      let size : length (take at text) ≡ at = length-take-le at text (omega arith) in
      let new : w.line.text ≡ insert_slice text at (encode_utf8 c) = ap (λ (l : Line). l.text) (put b.0) in
      let place : w.line.place ≡ at + length (encode_utf8 c) = ap (λ (l : Line). l.place) (put b.0) in
      let seen : Replaces (sight_of s v info) at [] (c ∷ []) w.line.text = record {
        before = take at text;
        rest = drop at text;
        whole = sym (take-append-drop at text);
        text_is = new ∙ append_assoc (take at text) (encode_utf8 c) (drop at text) ∙ ap (λ x. take at text ++ (x ++ drop at text)) one;
        from_is = sym size;
        plain = kept.0;
        gone_printable = refl;
        printable = ap (λ b. b && true) e.0;
      } in
      record { fits = ((bare_styles s v w info d.0 bare, refl, seen, place ∙ ap (λ x. at + length x) one), tt); leads = refl }

  put_by : (way : Way) → way_if_bare (insertion_way s c n v) w ≡ way → Leads s v (record { value = w; steps = Draws w s.marks (put_redraw way c (since s v.line.place v) s w) ∷ [] })
  put_by AtEnd is = let parts = way_says (is_bare w) _ _ _ 0 false AtEnd is in typed_leads parts.0 parts.1
  put_by Alone is = let parts = way_says (is_bare w) _ _ _ 0 false Alone is in appended_leads parts.0 parts.1
  put_by Inside is = let parts = way_says (is_bare w) _ _ _ 0 false Inside is in put_in_leads parts.0 parts.1
  put_by way is = since_leads v.line.place s v w stays

pub none_if : (told : ChangeEvent) (added : List ℕ) (l : Line) (b : Bool)
    → (let i : Insertion = if b then record { answer = Some (l.place == length l.text); events = told ∷ []; line = with_text_at_cursor added l } else no_insertion l in is_some i.answer ≡ false → i.line ≡ l)
none_if told added l true h = cc
none_if told added l false h = refl

some_if : (told : ChangeEvent) (added : List ℕ) (l : Line) (b : Bool)
    → (let i : Insertion = if b then record { answer = Some (l.place == length l.text); events = told ∷ []; line = with_text_at_cursor added l } else no_insertion l in is_some i.answer ≡ true → i.line ≡ with_text_at_cursor added l)
some_if told added l true h = refl
some_if told added l false h = cc

no_typing : (c n : ℕ) (l : Line) (b : Bool)
    → (let i : Insertion = if b then insertion_by (InsertChar l.place c) (encode_utf8 c) l else insertion_of (encode_utf8 c) n l in is_some i.answer ≡ false → i.line ≡ l)
no_typing c n l true h = none_if _ _ l _ h
no_typing c n l false h = none_if _ _ l _ h

one_typed : (c n : ℕ) (l : Line) (b : Bool) → b ≡ true
    → (let i : Insertion = if b then insertion_by (InsertChar l.place c) (encode_utf8 c) l else insertion_of (encode_utf8 c) n l in is_some i.answer ≡ true → i.line ≡ with_text_at_cursor (encode_utf8 c) l)
one_typed c n l true one h = some_if _ _ l _ h
one_typed c n l false one h = cc

pub insertion_leads : (c n : ℕ) (s : Setting) (v : Value) → Leads s v (insert_char c n s v)
insertion_leads c n s v =
    let w = value_with_edit (by (char_steps c n)) v in
    let way = insertion_way s c n v in
    let from = since s v.line.place v in
    either s v (is_some (insertion c n v.line).answer) (then_do (edit_effect (char_steps c n)) (show_inserted_effect c way from) s v) (no_effect s w)
    (λ some. let asked = (ask_anew_effect s w).value in
    edit_leads (with_answer tt (char_steps c n v.line)) s v v (show_inserted_effect c way from s w)
    (help_leads w (hint_reply s w) s v (draw_effect (put_redraw (way_if_bare way asked) c from s asked) s asked)
    (put_by s c n v asked (λ one. one_typed c n v.line (n == 1) one some) (λ low. typed_begins c n v.line.place v.line (omega arith) low) (way_if_bare way asked) refl)))
    (λ none. rest_leads s v w (no_typing c n v.line (n == 1) none, refl, refl))

pub text_leads : (text : List ℕ) (s : Setting) (v : Value) → Leads s v (insert_text text s v)
text_leads text s v = either s v (length text == 0) _ _ (λ e. rest_leads s v v (refl, refl, refl))
    (λ e. redraw_since_leads (text_steps text) v.line.place s v v (text_begins text v.line.place v.line (omega arith)))

-- ---- a kill

-- `count` bytes are gone from the line's end: this character, which is apart from what is left
abbrev is_erased : ℕ → ℕ → Line → Bool
is_erased c count l = (l.place == length l.text) && ((count == length (encode_utf8 c)) && stands_apart l.text c)

module _ (s : Setting) (v w : Value) (from upto : ℕ) (text : w.line.text ≡ replace_range v.line.text from upto []) (place : w.line.place ≡ from) where
  abbrev count : ℕ
  count = length v.line.text - length w.line.text

  left_leads : Leads s v (record { value = w; steps = Draws w s.marks (redraw_since (since s w.line.place v) s w) ∷ [] })
  left_leads = since_leads w.line.place s v w (λ low.
      subst (λ k. Begins k v.line.text w.line.text) (sym place)
      (subst (λ xs. Begins from v.line.text xs) (sym text) (behind_place from upto v.line.text [] (subst (λ k. k ≤ length v.line.text) place low))))

  taken_leads : is_bare w ≡ true → (may_be_taken (drop (length w.line.text) v.line.text) v && at_plain_end w.line.text w.line.place) ≡ true → (is_plain v.line.text ≡ true → Low v.line.text from upto)
      → Leads s v (record { value = w; steps = Draws w s.marks (Taken s.prompt count s.config.partial_redraw w.line.text w.line.place) ∷ [] })
  taken_leads bare e low info =
      let before = v.line.text in
      let now = w.line.text in
      let a = and_parts (may_be_taken (drop (length now) before) v) _ e in
      let b = and_parts (is_bare v) (list_all is_printable (drop (length now) before)) a.0 in
      let stands = a.1 in
      let d = and_parts (w.line.place == length now) (is_plain now) stands in
      let end = eqb-true w.line.place (length now) d.0 in
      let at : from ≡ length now = sym place ∙ end in
      let front : now ≡ take from before = text ∙ cut_text before from upto (at ∙ ap length text) (ap is_plain (sym text) ∙ d.1) low in
      let whole : before ≡ now ++ drop (length now) before =
      sym (take-append-drop (length now) before) ∙ ap (λ n. take n before ++ drop (length now) before) (sym at) ∙ ap (λ xs. xs ++ drop (length now) before) (sym front) in
      let killed = drop (length now) before in
      let seen : TakenFits (sight_of s v info) count now w.line.place =
      record { killed = killed; whole = whole; count_is = sym (length-drop (length now) before); end = stands; printable = b.1 } in
      record { fits = ((bare_styles s v w info b.0 bare, seen), tt); leads = refl }

  taken_out_leads : is_bare w ≡ true → (may_be_taken_out s.config.partial_redraw (text_gone v.line w.line) v && is_cut_inside v.line w.line) ≡ true
      → Leads s v (record { value = w; steps = Draws w s.marks (TakenOut s.prompt count w.line.text w.line.place) ∷ [] })
  taken_out_leads bare e info =
      let before = v.line.text in
      let now = w.line.text in
      let a = and_parts (may_be_taken_out s.config.partial_redraw (text_gone v.line w.line) v) _ e in
      let b = and_parts s.config.partial_redraw _ a.0 in
      let d = and_parts (is_bare v) _ b.1 in
      let p = and_parts (is_plain before) (list_all is_printable (text_gone v.line w.line)) d.1 in
      let f = and_parts (nat_lt (length now) (length before)) _ a.1 in
      let kept = and_parts (nat_lt w.line.place (length now)) (has_printable_rest w.line) f.1 in
      let less = ltb-true (length now) (length before) f.0 in
      let inside = ltb-true w.line.place (length now) kept.0 in
      let whole : now ≡ take from before ++ drop upto before = text ∙ append_assoc (take from before) [] (drop upto before) in
      let size : length now ≡ length (take from before) + length (drop upto before) = ap length whole ∙ length-append (take from before) (drop upto before) in
      let first = length-take from before in
      let last = length-drop upto before in
      let killed = take (upto - from) (drop from before) in
      let gone = length-take (upto - from) (drop from before) in
      let left = length-drop from before in
      let up : from + (upto - from) ≡ upto = omega arith in
      let count_is : count ≡ length killed = omega arith in
      let many : upto - from ≡ count = omega arith in
      let at : w.line.place ≡ length (take from before) = omega arith in
      let seen : Replaces (sight_of s v info) w.line.place killed [] now = record {
        before = take from before;
        rest = drop upto before;
        whole = sym (take-append-drop from before)
            ∙ ap (λ xs. take from before ++ xs) (sym (take-append-drop (upto - from) (drop from before))
            ∙ ap (λ xs. killed ++ xs) (drop-drop (upto - from) from before ∙ ap (λ n. drop n before) up));
        text_is = whole;
        from_is = at;
        plain = p.0;
        gone_printable = ap (λ n. list_all is_printable (take n (drop from before))) many ∙ ap (λ n. list_all is_printable (take count (drop n before))) (sym place) ∙ p.1;
        printable = refl;
      } in
      record { fits = ((bare_styles s v w info d.0 bare, (killed, seen, count_is)), tt); leads = refl }

  erased_leads : (c : ℕ) → is_bare w ≡ true → last_of_bare s.config.partial_redraw v ≡ Some c → is_erased c count w.line ≡ true
      → Leads s v (record { value = w; steps = Draws w s.marks (Erased s.prompt c w.line.text w.line.place) ∷ [] })
  erased_leads c bare last e info =
      let before = v.line.text in
      let now = w.line.text in
      let code = encode_utf8 c in
      let a = and_parts (w.line.place == length now) _ e in
      let b = and_parts (count == length code) (stands_apart now c) a.1 in
      let found = some_by (s.config.partial_redraw && (is_bare v && is_utf8 before)) (last_or None (chars before)) c last in
      let d = and_parts (is_bare v) (is_utf8 before) (and_parts s.config.partial_redraw _ found.0).1 in
      let end = eqb-true w.line.place (length now) a.0 in
      let size : length before - length now ≡ length code = eqb-true count (length code) b.0 in
      let some = encode_utf8_nonempty c in
      let at : from ≡ length now = sym place ∙ end in
      let inside : from ≤ length before = omega (arith, at, size, some) in
      let left : now ≡ take from before ++ drop upto before = text ∙ append_assoc (take from before) [] (drop upto before) in
      let front : now ≡ take from before = left ∙ cut_short before from upto inside (at ∙ ap length left) in
      let whole : before ≡ now ++ drop from before = sym (take-append-drop from before) ∙ ap (λ xs. xs ++ drop from before) (sym front) in
      let gone = length-drop from before in
      let killed : drop from before ≡ code = end_is_last before now (drop from before) c d.1 found.1 whole (gone ∙ ap (λ n. length before - n) at ∙ size) in
      record { fits = ((bare_styles s v w info d.0 bare, record { whole = whole ∙ ap (λ xs. now ++ xs) killed; apart = b.1; end = end }), tt); leads = refl }

  taken_of : (way : Way) (c : ℕ) (back : Bool)
      → chosen (is_bare w) false (may_be_taken (drop (length w.line.text) v.line.text) v && at_plain_end w.line.text w.line.place) (may_be_taken_out s.config.partial_redraw (text_gone v.line w.line) v && is_cut_inside v.line w.line) c back ≡ way
      → (back ≡ true → (last_of_bare s.config.partial_redraw v ≡ Some c) × (is_erased c count w.line ≡ true)) → (is_plain v.line.text ≡ true → Low v.line.text from upto)
      → Leads s v (record { value = w; steps = Draws w s.marks (taken_redraw way count (since s w.line.place v) s w) ∷ [] })
  taken_of AtEnd c back is last low = let parts = way_says (is_bare w) false _ _ c back AtEnd is in taken_leads parts.0 parts.1 low
  taken_of Inside c back is last low = let parts = way_says (is_bare w) false _ _ c back Inside is in taken_out_leads parts.0 parts.1
  taken_of (Back d) c back is last low =
      let parts = way_says (is_bare w) false _ _ c back (Back d) is in
      let k = last parts.1 in
      erased_leads d parts.0 (k.0 ∙ ap Some parts.2) (ap (λ x. is_erased x count w.line) (sym parts.2) ∙ k.1)
  taken_of way c back is last low = left_leads

  taken_by : (way : Way) (last : Option ℕ) → last_of_bare s.config.partial_redraw v ≡ last
      → way_if_bare (if may_be_taken (drop (length w.line.text) v.line.text) v && at_plain_end w.line.text w.line.place then AtEnd
      else if may_be_taken_out s.config.partial_redraw (text_gone v.line w.line) v && is_cut_inside v.line w.line then Inside else way_erased count w.line last) w ≡ way
      → (is_plain v.line.text ≡ true → Low v.line.text from upto)
      → Leads s v (record { value = w; steps = Draws w s.marks (taken_redraw way count (since s w.line.place v) s w) ∷ [] })
  taken_by way None last is low = taken_of way 0 false is (λ b. cc) low
  taken_by way (Some c) last is low = taken_of way c (is_erased c count w.line) is (λ b. (last, b)) low

killed_by : (edit : WriteSteps ⊤) (s : Setting) (v : Value) (held : List HeldItem) (o : Option TextSpan) → (is_plain v.line.text ≡ true → IfSome o (λ span. Low v.line.text span.from span.upto))
    → (let w : Value = record v { line = deletion_line o v.line; held = held } in
    Leads s v (if is_some o then record { value = (show_taken v s w).value; steps = Edits v edit ∷ (show_taken v s w).steps } else no_effect s w))
killed_by edit s v held None h = rest_leads s v (record v { held = held }) (refl, refl, refl)
killed_by edit s v held (Some span) h =
    let w : Value = record v { line = without_range span.from span.upto v.line; held = held } in
    let asked = (ask_anew_effect s w).value in
    let way = kill_way s v w.line in
    edit_leads edit s v v (show_taken v s w) (help_leads w (hint_reply s w) s v
    (draw_effect (taken_redraw (way_if_bare way asked) (length v.line.text - length w.line.text) (since s w.line.place v) s asked) s asked)
    (taken_by s v asked span.from span.upto refl refl (way_if_bare way asked) (last_of_bare s.config.partial_redraw v) refl refl h))

pub kill_leads : (m : Movement) (s : Setting) (v : Value) → Leads s v (kill_effect m s v)
kill_leads m s v = killed_by (with_answer tt (kill_steps m v.line)) s v (value_with_edit (by (kill_steps m)) v).held (range_of m v.line) (λ plain. range_low v.line plain m)

text_if_leads : (text : Option (List ℕ)) (s : Setting) (v : Value) → Leads s v (option_map_or insert_text text no_effect s v)
text_if_leads None s v = rest_leads s v v (refl, refl, refl)
text_if_leads (Some text) s v = text_leads text s v

pub replace_leads : (m : Movement) (text : Option (List ℕ)) (s : Setting) (v : Value) → Leads s v (replace m text s v)
replace_leads m text s v = both_lead s v (kill_effect m) (option_map_or insert_text text no_effect) (kill_leads m s v) (text_if_leads text s (kill_effect m s v).value)
