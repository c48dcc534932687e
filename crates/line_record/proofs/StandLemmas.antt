-- The record stands on the line's text after each edit, also after one that failed.
use Rattle.std.proofs.Common.{◌≡◌, List, ℕ, sym, ap, subst, inl, inr, Result, Ok, Err, IsUtf8}
use Rattle.line_buffer.specs.Edit.{Edit, EditsLine, CutsLine, ChangesLine}
use Rattle.line_buffer.specs.Event.{ChangeEvent, wants_or}
use Rattle.line_buffer.specs.Line.{Line}
use Rattle.line_buffer.proofs.LeftLemmas.{stopped_wanting}
use Rattle.line_record.specs.Items.{Items, ItemsStand, RecordsEventIn, record_refuses}
use Rattle.line_record.proofs.RunLemmas.{told_stand, stopped_stand}

module _ {A E : Type 0} {closing : List ChangeEvent} {s t : Items} {l m : Line} where
  pub edited_stand : {edit : Edit A} (result : Result A E) → ItemsStand s l.text → IsUtf8 l.text
      → EditsLine RecordsEventIn (wants_or record_refuses) closing edit s t l m result → ItemsStand t m.text
  edited_stand (Ok a) h u e = told_stand h u e.told
  edited_stand (Err x) h u e = stopped_stand h u e.left.stops

  pub cut_stand : {edit : Edit A} (result : Result A E) → ItemsStand s l.text → IsUtf8 l.text
      → CutsLine RecordsEventIn record_refuses closing edit s t l m result → ItemsStand t m.text
  cut_stand (Ok a) h u e = told_stand h u e.edits.told
  cut_stand (Err x) h u e = stopped_stand h u (stopped_wanting e.edits.left).stops

still_stand : {s t : Items} {a b : List ℕ} → t ≡ s → b ≡ a → ItemsStand s a → ItemsStand t b
still_stand {s} {t} {a} {b} e k h = subst (λ x. ItemsStand x b) (sym e) (subst (ItemsStand s) (sym k) h)

pub changed_stand : {A E : Type 0} {event : ChangeEvent} {made : Line} {s t : Items} {l m : Line} (result : Result A E) → ItemsStand s l.text → IsUtf8 l.text
    → ChangesLine RecordsEventIn (wants_or record_refuses) event made s t l m result → ItemsStand t m.text
changed_stand (Ok a) h u e = (e.told.on _ _ h u e.replays).stand
changed_stand (Err x) h u e =
    let same = ap (λ (k : Line). k.text) e.kept in
    elim e.refused [ inl e ↦ still_stand e same h | inr e ↦ still_stand e.0 same h ]
