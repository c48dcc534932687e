-- What an edit behind a place leaves: each beginning of the text up to there, and what is known of it.
use Rattle.std.proofs.Common.{◌≡◌, ℕ, ◌==◌, ◌≤◌, Bool, true, false, List, [], ◌∷◌, ◌++◌, take, drop, length, length-append, refl, sym, ap, subst, ◌∙◌, arith, if◌then◌else◌, Option, Some, None, is_some, encode_utf8, ◌-◌}
use Rattle.std.specs.Prelude.{nat_le, option_map}
use Rattle.std.specs.List.{replace_range, repeat}
use Rattle.std.specs.Str.{IsCharBoundary}
use Rattle.std.proofs.lemmas.Bool.{leb-true}
use Rattle.std.proofs.lemmas.Option.{same_Some}
use Rattle.std.proofs.lemmas.List.{length-take, take-append-le, take-append-drop}
use Rattle.std.proofs.lemmas.Str.{IsCharBoundary-from_ascii}
use Rattle.line_buffer.specs.declared.layout.Position.{Position}
use Rattle.line_buffer.specs.Event.{ChangeEvent, InsertStr, ChangeEvent.InsertChar}
use Rattle.line_buffer.specs.Clusters.{place_forward}
use Rattle.line_buffer.specs.Insertions.{no_insertion, has_room, with_text_at_cursor, insertion_by, insertion_of, without_before, insert as insertion, yank as yanked_in}
use Rattle.line_buffer.specs.Line.{Line, without_range, with_text_at}
use Rattle.line_buffer.specs.Range.{deletion_line, from_cursor}
use Rattle.line_edits.specs.Edits.{clusters_after, replace_group, replace_group_if_any, by}
use Rattle.line_edits.proofs.StepLemmas.{overwrite_steps_to}
use Rattle.line_edits.specs.WriteSteps.{with_answer, no_steps, effect_of_steps, Written}
use Rattle.line_buffer.specs.Printable.{is_plain}
use Rattle.line_editor.specs.RenderCalls.{IsKnown, known_within}
use Rattle.line_editor.proofs.KillLemmas.{plain_low}

-- a prefix of a text is one of a longer text
pub record Begins (k : ℕ) (before after : List ℕ) : Type 0 where
  pub low : k ≤ length after
  pub same : take k after ≡ take k before

behind : (k at upto : ℕ) (text added : List ℕ) → k ≤ at → k ≤ length text → Begins k text (replace_range text at upto added)
behind k at upto text added near low =
    let front = take at text in
    let room : k ≤ length front = omega (arith, length-take at text, near, low) in
    let size = length-append front added in
    record {
      low = omega (arith, room, size, length-append (front ++ added) (drop upto text));
      same = take-append-le k (front ++ added) (drop upto text) (omega (arith, room, size))
          ∙ take-append-le k front added room
          ∙ sym (take-append-le k front (drop at text) room)
          ∙ ap (take k) (take-append-drop at text);
    }

-- ---- what is typed

put_room : (k : ℕ) (room : Bool) (told : ChangeEvent) (added : List ℕ) (l : Line) → k ≤ l.place → k ≤ length l.text
    → Begins k l.text (if room then record { answer = Some (l.place == length l.text); events = told ∷ []; line = with_text_at_cursor added l } else no_insertion l).line.text
put_room k true told added l near low = behind k l.place l.place l.text added near low
put_room k false told added l near low = record { low = low; same = refl }

put_by : (k : ℕ) (told : ChangeEvent) (added : List ℕ) (l : Line) → k ≤ l.place → k ≤ length l.text → Begins k l.text (insertion_by told added l).line.text
put_by k told added l near low = put_room k (has_room (length added) l) told added l near low

typed_by : (c n k : ℕ) (one : Bool) (l : Line) → k ≤ l.place → k ≤ length l.text
    → Begins k l.text (if one then insertion_by (InsertChar l.place c) (encode_utf8 c) l else insertion_by (InsertStr l.place (repeat n (encode_utf8 c))) (repeat n (encode_utf8 c)) l).line.text
typed_by c n k true l near low = put_by k (InsertChar l.place c) (encode_utf8 c) l near low
typed_by c n k false l near low = put_by k (InsertStr l.place (repeat n (encode_utf8 c))) (repeat n (encode_utf8 c)) l near low

pub typed_begins : (c n k : ℕ) (l : Line) → k ≤ l.place → k ≤ length l.text → Begins k l.text (insertion c n l).line.text
typed_begins c n k l near low = typed_by c n k (n == 1) l near low

-- ---- what is put in, or goes, at a place

pub behind_place : (at upto : ℕ) (text added : List ℕ) → at ≤ length text → Begins at text (replace_range text at upto added)
behind_place at upto text added low = behind at at upto text added (omega arith) low

begins_both : (k : ℕ) (first second third : List ℕ) → Begins k first second → Begins k second third → Begins k first third
begins_both k first second third a b = record { low = b.low; same = b.same ∙ a.same }

pub yank_begins : (text : List ℕ) (n k : ℕ) (l : Line) → k ≤ l.place → k ≤ length l.text → Begins k l.text (yanked_in text n l).line.text
yank_begins text n k l near low = by_test (length text == 0)
  where
    by_test : (b : Bool) → Begins k l.text (if b then no_insertion l else insertion_of text n l).line.text
    by_test true = record { low = low; same = refl }
    by_test false = put_by k (InsertStr l.place (repeat n text)) (repeat n text) l near low

pub text_begins : (text : List ℕ) (k : ℕ) (l : Line) → k ≤ l.place → k ≤ length l.text → Begins k l.text (with_text_at l.place text l).text
text_begins text k l near low = behind k l.place l.place l.text text near low

pub pop_begins : (size : ℕ) (text : List ℕ) (k : ℕ) (l : Line) → k ≤ l.place - size → k ≤ length l.text → Begins k l.text (yanked_in text 1 (without_before size l)).line.text
pop_begins size text k l near low =
    let bare = without_before size l in
    let first = behind k (l.place - size) l.place l.text [] near low in
    begins_both k l.text bare.text (yanked_in text 1 bare).line.text first (yank_begins text 1 k bare near first.low)

pub over_begins : (c : ℕ) (end : Option ℕ) (k : ℕ) (w : Written) → k ≤ w.line.place → k ≤ length w.line.text → Begins k w.line.text (by (overwrite_steps_to c end) w).line.text
over_begins c None k w near low = record { low = low; same = refl }
over_begins c (Some end) k w near low = behind k w.line.place end w.line.text (encode_utf8 c) near low

-- clusters after the cursor go, and characters are typed there
replaced_by : (c n : ℕ) (end : Option ℕ) (k : ℕ) (l : Line) → k ≤ l.place → k ≤ length l.text
    → (let bare : Line = deletion_line (option_map (λ i. from_cursor i l) end) l in Begins k l.text (insertion c n bare).line.text)
replaced_by c n None k l near low = typed_begins c n k l near low
replaced_by c n (Some end) k l near low =
    let bare : Line = without_range l.place end l in
    let first = behind k l.place end l.text [] near low in
    begins_both k l.text bare.text (insertion c n bare).line.text first (typed_begins c n k bare near first.low)

pub replaced_begins : (c n k : ℕ) (w : Written) → k ≤ w.line.place → k ≤ length w.line.text → Begins k w.line.text (by (replace_group_if_any c n) w).line.text
replaced_begins c n k w near low = by_test (is_some (place_forward n w.line))
  where
    by_test : (b : Bool) → Begins k w.line.text (effect_of_steps (if b then with_answer true (replace_group c n w.line) else no_steps false).steps w).line.text
    by_test true = replaced_by c (clusters_after n w.line) (place_forward n w.line) k w.line near low
    by_test false = record { low = low; same = refl }

-- ---- what is known

module _ (measure : List ℕ → Position → Position) (start : Position) where
  pub known_nothing : (text : List ℕ) → IsKnown measure start text None
  known_nothing text = record { inside = λ k e. cc; at = λ k e. cc }

  pub known_at : (text : List ℕ) (place : ℕ) (at : Position) → place ≤ length text → at ≡ measure (take place text) start → IsKnown measure start text (Some (place, at))
  known_at text place at low is = record {
    inside = λ k e. subst (λ x. x.0 ≤ length text) (same_Some (place, at) k e) low;
    at = λ k e. subst (λ x. x.1 ≡ measure (take x.0 text) start) (same_Some (place, at) k e) is;
  }

  -- a beginning that stays is measured as before
  stays_known : (before after : List ℕ) (k : ℕ × Position) → IsKnown measure start before (Some k) → Begins k.0 before after → IsKnown measure start after (Some k)
  stays_known before after k known begins =
      known_at after k.0 k.1 begins.low (known.at k refl ∙ ap (λ t. measure t start) (sym begins.same))

  within_if : (place : ℕ) (before after : List ℕ) (k : ℕ × Position) → IsKnown measure start before (Some k) → (k.0 ≤ place → Begins k.0 before after)
      → (b : Bool) → nat_le k.0 place ≡ b → IsKnown measure start after (if b then Some k else None)
  within_if place before after k known stays true low = stays_known before after k known (stays (leb-true k.0 place low))
  within_if place before after k known stays false low = known_nothing after

  within : (place : ℕ) (before after : List ℕ) (known : Option (ℕ × Position)) → ((k : ℕ) → k ≤ place → k ≤ length before → Begins k before after)
      → IsKnown measure start before known → IsKnown measure start after (known_within place known)
  within place before after None stays known = known_nothing after
  within place before after (Some k) stays known =
      within_if place before after k known (λ near. stays k.0 near (known.inside k refl)) (nat_le k.0 place) refl

  -- a change behind a place leaves what is known before it
  pub left_known : (place : ℕ) (before after : List ℕ) (known kept : Option (ℕ × Position)) → ((k : ℕ) → k ≤ place → k ≤ length before → Begins k before after) → kept ≡ known_within place known
      → IsKnown measure start before known → IsKnown measure start after kept
  left_known place before after known kept stays is h = subst (λ k. IsKnown measure start after k) (sym is) (within place before after known stays h)

  -- what is typed leaves what is known before it
  pub typed_known : (c n : ℕ) (l after : Line) (known kept : Option (ℕ × Position)) → after ≡ (insertion c n l).line → kept ≡ known_within l.place known
      → IsKnown measure start l.text known → IsKnown measure start after.text kept
  typed_known c n l after known kept made is h =
      subst (λ k. IsKnown measure start after.text k) (sym is)
      (within l.place l.text after.text known (λ k near low. subst (λ m. Begins k l.text m.text) (sym made) (typed_begins c n k l near low)) h)

  -- the cursor may go on before a yank, and back after it
  pub yanked_known : (yanked : List ℕ) (n place : ℕ) (l after : Line) (before left : List ℕ) (known kept : Option (ℕ × Position)) → l.text ≡ before → place ≡ l.place → after ≡ (yanked_in yanked n l).line
      → left ≡ after.text → kept ≡ known_within place known → IsKnown measure start before known → IsKnown measure start left kept
  yanked_known yanked n place l after before left known kept same at made shown =
      left_known place before left known kept (λ k near low.
      subst (λ t. Begins k t left) same
      (subst (λ t. Begins k l.text t) (sym (shown ∙ ap (λ (x : Line). x.text) made)) (yank_begins yanked n k l (subst (λ p. k ≤ p) at near) (subst (λ t. k ≤ length t) (sym same) low))))

-- ---- a plain text's characters are bytes

pub plain_boundary : (text : List ℕ) (place : ℕ) → is_plain text ≡ true → place ≤ length text → IsCharBoundary text place
plain_boundary text place h low = IsCharBoundary-from_ascii text place (plain_low text h) low
