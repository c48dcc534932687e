-- The items that stored steps stand for.
use Rattle.std.proofs.Common.{◌≡◌, ℕ, zero, suc, ◌-◌, ◌<◌, Bool, true, false, List, [], ◌∷◌, ◌++◌, length, take, drop, refl, sym, ap, subst, ◌∙◌, arith, get_or}
use Rattle.std.proofs.Math.Seq.{take-suc, take-length}
use Rattle.line_record.specs.Change.{Change}
use Rattle.line_record.specs.Held.{text_of, text_back, text_inserted_by, HeldItem}
use Rattle.line_record.specs.Items.{Item, before_item, item_with_text, items_with_texts, DoneStand, Items, ItemsStand, record_on, Item.Open}
use Rattle.line_record.specs.Log.{item_from, item_inserted}
use Rattle.line_record.proofs.StepLemmas.{first_items, newest_of-append}

pub before_last : {A : Type 0} (xs : List A) (d : A) → 0 < length xs → xs ≡ take (length xs - 1) xs ++ (get_or xs (length xs - 1) d ∷ [])
before_last xs d h =
    let n : suc (length xs - 1) ≡ length xs = omega arith in
    let inside : length xs - 1 < length xs = omega arith in
    sym (take-length xs) ∙ ap (λ k. take k xs) (sym n) ∙ take-suc xs (length xs - 1) d inside

pub text_of-holding : (x : Item) (text : List ℕ) → text_of (item_with_text x text) ≡ text
text_of-holding Open text = refl
text_of-holding _ text = refl

pub length-done_held : (items : List Item) (text : List ℕ) → length (items_with_texts items text) ≡ length items
length-done_held [] text = refl
length-done_held (x ∷ items) text = ap suc (length-done_held items (before_item x text))

-- the items that are left when some were taken off
pub done_held-drop : (k : ℕ) (items : List Item) (text : List ℕ) → items_with_texts (drop k items) (text_back k (items_with_texts items text) text) ≡ drop k (items_with_texts items text)
done_held-drop zero items text = refl
done_held-drop (suc k) [] text = refl
done_held-drop (suc k) (x ∷ items) text =
    ap (λ t. items_with_texts (drop k items) (text_back k (items_with_texts items (before_item x text)) t)) (text_of-holding x (before_item x text)) ∙ done_held-drop k items (before_item x text)

pub DoneStand-drop : (k : ℕ) (items : List Item) (text : List ℕ) → DoneStand items text → DoneStand (drop k items) (text_back k (items_with_texts items text) text)
DoneStand-drop zero items text h = h
DoneStand-drop (suc k) [] text h = h
DoneStand-drop (suc k) (x ∷ items) text h =
    subst (λ t. DoneStand (drop k items) (text_back k (items_with_texts items (before_item x text)) t)) (sym (text_of-holding x (before_item x text))) (DoneStand-drop k items (before_item x text) h.1)

-- the newest change says what an item put in
pub inserted_last : (closed : Bool) (cs : List Change) (d : Change) → item_inserted (item_from closed (cs ++ (d ∷ []))) ≡ text_inserted_by d
inserted_last true (c ∷ (e ∷ cs)) d = ap text_inserted_by (newest_of-append e d cs [])
inserted_last false (c ∷ (e ∷ cs)) d = ap text_inserted_by (newest_of-append e d cs [])
inserted_last _ _ d = refl

-- the first n items, and the last text that the last of them had
abbrev pub first_held : ℕ → List HeldItem → List HeldItem
first_held n held = drop (length held - n) held

abbrev pub text_kept : ℕ → List HeldItem → List ℕ → List ℕ
text_kept n held text = text_back (length held - n) held text

pub truncated_held : (n : ℕ) (s : Items) (text : List ℕ) (t : Items) → t ≡ first_items n s → record_on t (text_kept n (record_on s text) text) ≡ first_held n (record_on s text)
truncated_held n s text t e =
    ap (λ x. record_on x (text_kept n (record_on s text) text)) e
    ∙ ap (λ k. items_with_texts (drop (k - n) s.done) (text_kept n (record_on s text) text)) (sym (length-done_held s.done text))
    ∙ done_held-drop (length (record_on s text) - n) s.done text

pub truncated_stand : (n : ℕ) (s : Items) (text : List ℕ) (t : Items) → t ≡ first_items n s → ItemsStand s text → ItemsStand t (text_kept n (record_on s text) text)
truncated_stand n s text t e h =
    let P : ℕ → Type 0 = λ k. DoneStand (drop (k - n) s.done) (text_kept n (record_on s text) text) in
    subst (λ x. ItemsStand x (text_kept n (record_on s text) text)) (sym e)
    (subst P (length-done_held s.done text) (DoneStand-drop (length (record_on s text) - n) s.done text h.0), tt)
