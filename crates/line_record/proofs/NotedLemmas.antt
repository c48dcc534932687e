-- What noting an event does to the record of texts.
use Rattle.std.proofs.Common.{◌≡◌, ℕ, ◌+◌, ◌==◌, ◌&&◌, ◌⊎◌, inl, inr, not, Bool, true, false, List, [], ◌∷◌, ◌++◌, length, Option, Some, None, refl, sym, ap, subst, add-zero, ◌∙◌, eqb-true, arith, IsUtf8, encode_utf8, if◌then◌else◌}
use Rattle.std.specs.Prelude.{option_map, unwrap_or}
use Rattle.std.proofs.lemmas.Bool.{and_parts}
use Rattle.std.proofs.lemmas.Bool.Decides.{nat_tests}
use Rattle.std.proofs.lemmas.Option.{same_Some, cond_some}
use Rattle.unicode_segmentation.specs.Segments.{is_alphanumeric}
use Rattle.line_buffer.specs.Event.{ChangeEvent, Swaps, Replays}
use Rattle.line_buffer.specs.Event.ChangeEvent.{StartKilling, StopKilling, Delete, InsertChar, InsertStr, Replace}
use Rattle.line_buffer.specs.declared.types.Direction.{Direction}
use Rattle.line_record.specs.Change.{Change, place_of, old_text_of, new_text_of, text_after_undo, text_with_exchange, StandsIn, Change.Inserted, Change.Deleted, Change.Replaced}
use Rattle.line_record.specs.Held.{HeldItem, step_of, change_of, join_of, is_one_alphanumeric}
use Rattle.line_record.specs.Items.{Item, Items, items_with_texts, DoneStand, ItemsStand, record_on, ahead_on, items_after_event, RecordsEventIn, join_of_items}
use Rattle.line_record.specs.Items.Item.{Open, Lone, Group}
use Rattle.line_record.specs.Log.{event_of}
use Rattle.line_record.specs.declared.report.Report.{Report}
use Rattle.line_record.specs.declared.report.Report.TheVariants as told
use Rattle.line_record.proofs.Exchange.{exchanged, Joined, joined_right, joined_left}
use Rattle.line_record.proofs.GroupLaws.{unchanged}
use Rattle.line_record.proofs.RunLemmas.{replayed_is}
use Rattle.line_record.proofs.StepLemmas.{steps_with_change, steps_with_change_if}
use Rattle.std.specs.Option.{option_map_or}

-- the text before it was changed stands after the change
pub record Follows (c : Change) (before after : List ℕ) : Type 0 where
  pub stand : StandsIn c after
  pub back : text_after_undo c after ≡ before

pub record Noted (items : List Item) (texts : List HeldItem) (after : List ℕ) : Type 0 where
  pub stand : DoneStand items after
  pub held : items_with_texts items after ≡ texts

noted_new : (c : Change) (items : List Item) (before after : List ℕ) → Follows c before after → DoneStand items before
    → Noted (Lone c ∷ items) (step_of c before ∷ items_with_texts items before) after
noted_new c items before after f s = record {
  stand = ((f.stand, tt), subst (DoneStand items) (sym f.back) s);
  held = ap (λ t. step_of c t ∷ items_with_texts items t) f.back;
}

-- what joins a change d leaves the text before d
abbrev Joins : ChangeEvent → List ℕ → List ℕ → Type 0
Joins e before after = (d g : Change) → join_of e d ≡ Some g → StandsIn d before → Follows g (text_after_undo d before) after

noted_joined : (e : ChangeEvent) (c d : Change) (items : List Item) (before after : List ℕ) (o : Option Change) → join_of e d ≡ o → Follows c before after → Joins e before after
    → DoneStand (Lone d ∷ items) before
    → Noted (unwrap_or (option_map (λ j. Lone j ∷ items) o) (Lone c ∷ (Lone d ∷ items))) (unwrap_or (option_map (λ j. step_of j (text_after_undo d before) ∷ items_with_texts items (text_after_undo d before)) o) (step_of c before ∷ (step_of d (text_after_undo d before) ∷ items_with_texts items (text_after_undo d before)))) after
noted_joined e c d items before after (Some g) is f j s = noted_new g items (text_after_undo d before) after (j d g is s.0.0) s.1
noted_joined e c d items before after None is f j s = noted_new c (Lone d ∷ items) before after f s

noted_step : (e : ChangeEvent) (c : Change) (items : List Item) (before after : List ℕ) → Follows c before after → Joins e before after → DoneStand items before
    → Noted (unwrap_or (join_of_items e items) (Lone c ∷ items)) (steps_with_change e c before (items_with_texts items before)) after
noted_step e c [] before after f j s = noted_new c [] before after f s
noted_step e c (Open ∷ items) before after f j s = noted_new c (Open ∷ items) before after f s
noted_step e c (Group d ds ∷ items) before after f j s = noted_new c (Group d ds ∷ items) before after f s
noted_step e c (Lone d ∷ items) before after f j s = noted_joined e c d items before after (join_of e d) refl f j s

-- a change that follows another by its joined text
follows : {at : ℕ} {was now before after : List ℕ} (x g : Change) → x ≡ g → Joined at was now (old_text_of x) (new_text_of x) before after (place_of x)
    → Follows g (text_with_exchange at now was before) after
follows {at} {was} {now} {before} {after} x g same j =
    subst (λ y. Follows y (text_with_exchange at now was before) after) same (record { stand = j.stand; back = j.back })

joins_char : (at c : ℕ) (before after : List ℕ) → IsUtf8 before → Swaps at [] (encode_utf8 c) before after → Joins (InsertChar at c) before after
joins_char at c before after u w (Inserted place text) g e s =
    let h = cond_some (is_alphanumeric c && (at == place + length text)) (Inserted place (text ++ encode_utf8 c)) g e in
    follows _ g h.1 (joined_right at place [] text [] (encode_utf8 c) before after s u w
    (eqb-true at (place + length text) (and_parts (is_alphanumeric c) _ h.0).1))
joins_char at c before after u w _ g e s = cc

joins_replacement : (at : ℕ) (removed added before after : List ℕ) → IsUtf8 before → Swaps at removed added before after → Joins (Replace at removed added) before after
joins_replacement at removed added before after u w (Replaced place was is) g e s =
    let h = cond_some (at == place + length is) (Replaced place (was ++ removed) (is ++ added)) g e in
    follows _ g h.1 (joined_right at place was is removed added before after s u w (eqb-true at (place + length is) h.0))
joins_replacement at removed added before after u w _ g e s = cc

-- the choice that a deletion makes of what it joins
chosen : (t a b : Bool) (x y g : Change) → (if not t then None else if a then Some x else if b then Some y else None) ≡ Some g
    → ((a ≡ true) × (x ≡ g)) ⊎ ((b ≡ true) × (y ≡ g))
chosen true true b x y g e = inl (refl, same_Some x g e)
chosen true false true x y g e = inr (refl, same_Some y g e)
chosen _ _ _ x y g e = cc

joins_deletion : (at : ℕ) (removed : List ℕ) (direction : Direction) (before after : List ℕ) → IsUtf8 before → Swaps at removed [] before after → Joins (Delete at removed direction) before after
joins_deletion at removed direction before after u w (Deleted place deleted) g e s =
    elim (chosen (is_one_alphanumeric removed) (at == place) (at + length removed == place) (Deleted place (deleted ++ removed))
    (Deleted at (removed ++ deleted)) g e) [
      | inl h ↦ follows _ g h.1 (joined_right at place deleted [] removed [] before after s u w (eqb-true at place h.0 ∙ sym (add-zero place)))
      | inr h ↦ follows _ g h.1 (joined_left at place deleted removed before after s u w (eqb-true (at + length removed) place h.0))
    ]
joins_deletion at removed direction before after u w _ g e s = cc

joins_text : (at : ℕ) (text before after : List ℕ) → Joins (InsertStr at text) before after
joins_text at text before after d g e s = cc

-- the change of an event follows the text before it, and joins as it should
swapped : (d c : Change) (before after : List ℕ) → d ≡ c → IsUtf8 before → Swaps (place_of d) (old_text_of d) (new_text_of d) before after
    → Follows c before after
swapped d c before after same u w =
    let x = exchanged (place_of d) (old_text_of d) (new_text_of d) before w.stands u in
    subst (λ g. Follows g before after) same (record { stand = subst (StandsIn d) (sym w.becomes) x.stand; back = ap (text_after_undo d) w.becomes ∙ x.back })

the_change : (b : Bool) (d c : Change) → (if b then None else Some d) ≡ Some c → d ≡ c
the_change b d c h = grind (arith, nat_tests)

changed : (e : ChangeEvent) (c : Change) (before after : List ℕ) → change_of e ≡ Some c → IsUtf8 before → Replays e before after
    → Follows c before after × Joins e before after
changed StartKilling c before after is u w = cc
changed StopKilling c before after is u w = cc
changed (Delete at text direction) c before after is u w =
    (swapped (Deleted at text) c before after (the_change _ _ c is) u w, joins_deletion at text direction before after u w)
changed (InsertChar at x) c before after is u w =
    (swapped (Inserted at (encode_utf8 x)) c before after (same_Some _ c is) u w, joins_char at x before after u w)
changed (InsertStr at text) c before after is u w = (swapped (Inserted at text) c before after (the_change _ _ c is) u w, joins_text at text before after)
changed (Replace at from to) c before after is u w =
    (swapped (Replaced at from to) c before after (the_change _ _ c is) u w, joins_replacement at from to before after u w)

noted_any : (e : ChangeEvent) (o : Option Change) (items : List Item) (before after : List ℕ) → change_of e ≡ o → IsUtf8 before → Replays e before after
    → DoneStand items before
    → Noted (option_map_or (λ c. unwrap_or (join_of_items e items) (Lone c ∷ items)) o items)
    (steps_with_change_if e o before (items_with_texts items before)) after
noted_any e None items before after is u w s =
    let same : after ≡ before = replayed_is e before after w ∙ unchanged e before is in
    record { stand = subst (DoneStand items) (sym same) s; held = ap (items_with_texts items) same }
noted_any e (Some c) items before after is u w s =
    let k = changed e c before after is u w in
    noted_step e c items before after k.0 k.1 s

-- the record after an event; the marks of killing are nothing to it
abbrev pub record_after : ChangeEvent → Items → Items
record_after StartKilling s = s
record_after StopKilling s = s
record_after e s = items_after_event e s

-- noting an event is what the record of texts asks for
pub noted_recorded : (e : ChangeEvent) (s : Items) → RecordsEventIn s e (record_after e s)
noted_recorded StartKilling s = record {
  on = λ before after h u w. record { stand = subst (ItemsStand s) (sym w) h; held = ap (record_on s) w; ahead = ap (ahead_on s) w };
}
noted_recorded StopKilling s = record {
  on = λ before after h u w. record { stand = subst (ItemsStand s) (sym w) h; held = ap (record_on s) w; ahead = ap (ahead_on s) w };
}
noted_recorded e s = record {
  on = λ before after h u w.
      let n = noted_any e (change_of e) s.done before after refl u w h.0 in
      record { stand = (n.stand, tt); held = n.held; ahead = refl };
}

-- noting what is told
pub reported : (r : Report) (s t : Items) → t ≡ items_after_event (event_of r) s → RecordsEventIn s (event_of r) t
reported (told.Char at c) s t e = subst (RecordsEventIn s (InsertChar at c)) (sym e) (noted_recorded (InsertChar at c) s)
reported r s t e = subst (RecordsEventIn s (event_of r)) (sym e) (noted_recorded (event_of r) s)
