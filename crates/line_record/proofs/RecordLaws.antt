-- Laws of the record.
use Rattle.std.proofs.Common.{◌≡◌, ℕ, false, List, [], ◌∷◌, length, refl, ap, ◌∙◌, IsUtf8}
use Rattle.line_record.specs.Held.{HeldItem, text_back, record_after_close, closes, has_mark, HeldItem.Opened, HeldItem.Stepped}
use Rattle.line_record.specs.Items.{Item, changes_of, before_item, after_item, items_with_texts, DoneStand}
use Rattle.line_record.specs.Laws.{text_after_all, RecordGivesTheText, EmptyGroupLeavesNothing, RedoGivesTheTextBack}
use Rattle.line_record.proofs.StoredLemmas.{text_of-holding}
use Rattle.line_record.proofs.UndoLemmas.{was_taken_back}

replayed_done : (items : List Item) (text : List ℕ) → DoneStand items text → IsUtf8 text → text_after_all items (text_back (length (items_with_texts items text)) (items_with_texts items text) text) ≡ text
replayed_done [] text h u = refl
replayed_done (x ∷ items) text h u =
    let was = was_taken_back (changes_of x) text h.0 u in
    ap (λ t. after_item x (text_after_all items (text_back (length (items_with_texts items (before_item x text))) (items_with_texts items (before_item x text)) t))) (text_of-holding x (before_item x text))
    ∙ ap (after_item x) (replayed_done items (before_item x text) h.1 was.utf8) ∙ was.back

pub record_gives_the_text : RecordGivesTheText
record_gives_the_text s text h u = replayed_done s.done text h.0 u

pub no_mark : (held : List HeldItem) → has_mark held ≡ false → (record_after_close held ≡ held) × (closes held ≡ false)
no_mark [] h = (refl, refl)
no_mark (Opened text ∷ held) h = cc
no_mark (Stepped text place newest joinable ∷ held) h =
    let below = no_mark held h in
    (rw (below.1, h), h)

pub empty_group_leaves_nothing : EmptyGroupLeavesNothing
empty_group_leaves_nothing text held h = no_mark held h

pub redo_gives_the_text_back : RedoGivesTheTextBack
redo_gives_the_text_back (Opened text) held ahead l = (refl, refl)
redo_gives_the_text_back (Stepped text place newest joinable) held ahead l = (refl, refl)
