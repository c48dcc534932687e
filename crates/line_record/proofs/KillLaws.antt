-- A run of kills comes back by one yank.
use Rattle.std.proofs.Common.{◌≡◌, ◌≢◌, ℕ, ◌+◌, ◌-◌, ◌<◌, ◌≤◌, ◌==◌, inl, inr, ◌||◌, Bool, true, false, List, [], ◌∷◌, ◌++◌, length, take, drop, Option, None, Some, refl, sym, ap, subst, ◌∙◌, arith, add-zero, IsUtf8, IsCharBoundary, IfSome, is_some, slice_range, slice_index_or, if◌then◌else◌, nat_le}
use Rattle.std.specs.List.{AllByRecursion, replace_range, fold}
use Rattle.std.proofs.lemmas.List.{append-nil, length-drop, length-take-le, length-set, get_or-set_same}
use Rattle.std.proofs.Math.Bool.{or_assoc, or-false, or-true}
use Rattle.std.proofs.lemmas.Str.{IsUtf8-nil, IsUtf8-append, IsUtf8-between}
use Rattle.std.proofs.lemmas.Option.{slice_get-get_or}
use Rattle.std.proofs.lemmas.Bool.Decides.{nat_tests}
use Rattle.line_buffer.specs.declared.range.TextSpan.{TextSpan}
use Rattle.line_buffer.specs.declared.types.Mode.{Mode, TheVariants.Append, TheVariants.Prepend}
use Rattle.line_buffer.specs.declared.types.Movement.{Movement}
use Rattle.line_buffer.specs.Event.ChangeEvent.{StartKilling, StopKilling}
use Rattle.line_buffer.specs.Insertions.{yank, insertion_of, no_insertion, with_text_at_cursor}
use Rattle.line_buffer.specs.Line.{Line, without_range}
use Rattle.line_buffer.specs.Range.{range_of, deletion_events, deletion_line, kill_events, kill as killed_in}
use Rattle.line_buffer.specs.Event.{StandsAt, InsertStr}
use Rattle.line_buffer.proofs.InsertionLemmas.{one_insertion}
use Rattle.line_record.specs.declared.kill_ring.Action.{Action, TheVariants.Kill}
use Rattle.line_record.specs.Change.{text_with_exchange}
use Rattle.line_record.specs.Laws.{is_directed, some_taken, KillsComeBack, after_kill}
use Rattle.line_record.specs.Ring.{Ring, IsRing, joined_text, slot_after, ring_with_kill, ring_with_kill_after, mode_of, ring_all}
use Rattle.line_record.proofs.DirectedLemmas.{IsDirected, directed}
use Rattle.line_record.proofs.Exchange.{Joined, exchanged, joined_right, joined_left}
use Rattle.line_record.proofs.GroupLaws.{none_there, nothing_put}
use Rattle.line_record.proofs.RingLemmas.{has_size, killed_anew, put_in}

-- the text put in at the cursor gives the first text
record Restores (first : List ℕ) (l : Line) (text : List ℕ) : Type 0 where
  utf8 : IsUtf8 l.text
  cursor : IsCharBoundary l.text l.place
  text_utf8 : IsUtf8 text
  restored : text_with_exchange l.place [] text l.text ≡ first
  growth : l.growth ≡ true

stands_at_cursor : (text : List ℕ) (at : ℕ) (put : List ℕ) → IsCharBoundary text at → IsUtf8 put → StandsAt at [] put text
stands_at_cursor text at put b u = record {
  start = b;
  end = subst (IsCharBoundary text) (sym (add-zero at)) b;
  bytes = ap (λ k. take k (drop at text)) (let e : at + 0 - at ≡ 0 = omega arith in e);
  utf8 = u;
}

-- the part between two places stands at the first
part_stands : (text : List ℕ) (from upto : ℕ) → from ≤ upto → IsCharBoundary text from → IsCharBoundary text upto → (from + length (slice_range text from upto) ≡ upto) × StandsAt from (slice_range text from upto) [] text
part_stands text from upto order b e =
    let n : length (slice_range text from upto) ≡ upto - from = length-take-le (upto - from) (drop from text) (omega (arith, length-drop from text, e.0, order)) in
    let k : from + length (slice_range text from upto) ≡ upto = omega (arith, n, order) in (
      k,
      record {
        start = b;
        end = subst (IsCharBoundary text) (sym k) e;
        bytes = ap (slice_range text from) k;
        utf8 = IsUtf8-nil;
      },
    )

-- the line after a part of it was taken
abbrev taken : TextSpan → Line → Line
taken span l = without_range span.from span.upto l

abbrev mode_text : TextSpan → Line → List ℕ → List ℕ
mode_text span l text = joined_text (mode_of span.direction) (slice_range l.text span.from span.upto) text

-- a part was taken, and its exchange is one with that which puts the text in
restores_longer : (first : List ℕ) (l : Line) (text longer : List ℕ) (from upto : ℕ) → Restores first l text → from ≤ upto → IsCharBoundary l.text from
    → IsCharBoundary l.text upto
    → (IsUtf8 (slice_range l.text from upto) → IsUtf8 longer)
    → (from + length (slice_range l.text from upto) ≡ upto → StandsAt from (slice_range l.text from upto) [] l.text
    → Joined l.place text [] longer [] l.text (text_with_exchange from (slice_range l.text from upto) [] l.text) from)
    → Restores first (without_range from upto l) longer
restores_longer first l text longer from upto r order b e u joins =
    let part : List ℕ = slice_range l.text from upto in
    let p = part_stands l.text from upto order b e in
    let cut : replace_range l.text from upto [] ≡ text_with_exchange from part [] l.text = ap (λ k. replace_range l.text from k []) (sym p.0) in
    let x = exchanged from part [] l.text p.1 r.utf8 in
    record {
      utf8 = subst IsUtf8 (sym cut) x.utf8;
      cursor = subst (λ t. IsCharBoundary t from) (sym cut) x.stand.start;
      text_utf8 = u (IsUtf8-between l.text from upto r.utf8 order b e);
      restored = ap (text_with_exchange from [] longer) cut ∙ (joins p.0 p.1).back ∙ r.restored;
      growth = r.growth;
    }

restores_more : (first : List ℕ) (l : Line) (text : List ℕ) (span : TextSpan) → Restores first l text → IsDirected l span → Restores first (taken span l) (mode_text span l text)
restores_more first l text span r (inl h) =
    let part : List ℕ = slice_range l.text l.place span.upto in
    let put = stands_at_cursor l.text l.place text r.cursor r.text_utf8 in
    rw (h.from, h.direction) (restores_longer first l text (text ++ part) l.place span.upto r h.later r.cursor h.end
    (λ u. IsUtf8-append text part r.text_utf8 u)
    (λ n s. joined_right l.place l.place text [] part [] l.text _ put r.utf8 (record { stands = s; becomes = refl }) (sym (add-zero l.place))))
restores_more first l text span r (inr h) =
    let part : List ℕ = slice_range l.text span.from l.place in
    let put = stands_at_cursor l.text l.place text r.cursor r.text_utf8 in
    rw (h.upto, h.direction) (restores_longer first l text (part ++ text) span.from l.place r h.earlier h.start r.cursor
    (λ u. IsUtf8-append part text u r.text_utf8)
    (λ n s. joined_left span.from l.place text part l.text _ put r.utf8 (record { stands = s; becomes = refl }) n))

-- the ring holds the text that was killed, if any was
record Killed (r : Ring) (text : List ℕ) : Type 0 where
  last : r.last ≡ Kill
  size : 0 < r.size
  inside : r.place < length r.slots
  slot : slice_index_or r.slots r.place [] ≡ text

record Fresh (r : Ring) (text : List ℕ) : Type 0 where
  last : r.last ≢ Kill
  size : 0 < r.size
  ring : IsRing (length r.slots) r.size r.place r.last
  none : text ≡ []

abbrev RingHolds : Bool → Ring → List ℕ → Type 0
RingHolds true r text = Killed r text
RingHolds false r text = Fresh r text

-- a kill between its marks
abbrev marked_kill : List ℕ → Mode → Ring → Ring
marked_kill text mode r = record (ring_with_kill text mode (record r { killing = true })) { killing = false }

killed_more : (r : Ring) (text more : List ℕ) (mode : Mode) → Killed r text → Killed (marked_kill more mode r) (joined_text mode more text)
killed_more r text more mode k =
    let s : Ring = record r { killing = true } in
    let longer : List ℕ = joined_text mode more (slice_index_or r.slots r.place []) in
    subst (λ q. Killed (record q { killing = false }) (joined_text mode more text))
    (sym (has_size more mode s k.size ∙ ap (λ a. ring_with_kill_after a more mode s) k.last)) (record {
      last = k.last;
      size = k.size;
      inside = simp length-set k.inside;
      slot = get_or-set_same r.slots r.place longer [] k.inside ∙ ap (joined_text mode more) k.slot;
    })

-- the next slot is one of those there, or the one after them
next_inside : (count size place : ℕ) (last : Action) → IsRing count size place last → slot_after count size place ≤ count
next_inside count size place last r = grind (arith, nat_tests, r.inside)

joined_nothing : (mode : Mode) (text : List ℕ) → joined_text mode text [] ≡ text
joined_nothing Append text = refl
joined_nothing Prepend text = append-nil text

killed_first : (r : Ring) (text more : List ℕ) (mode : Mode) → Fresh r text → Killed (marked_kill more mode r) (joined_text mode more text)
killed_first r text more mode f =
    let s : Ring = record r { killing = true } in
    let p = put_in (slot_after (length r.slots) r.size r.place) more r.slots (next_inside (length r.slots) r.size r.place r.last f.ring) in
    subst (λ q. Killed (record q { killing = false }) (joined_text mode more text)) (sym (has_size more mode s f.size ∙ killed_anew r.last s more mode f.last))
    (record {
      last = refl;
      size = f.size;
      inside = omega (arith, p.count);
      slot = p.here ∙ sym (joined_nothing mode more) ∙ ap (joined_text mode more) (sym f.none);
    })

killed_any : (some : Bool) (r : Ring) (text more : List ℕ) (mode : Mode) → RingHolds some r text → Killed (marked_kill more mode r) (joined_text mode more text)
killed_any true r text more mode h = killed_more r text more mode h
killed_any false r text more mode h = killed_first r text more mode h

-- the marks of killing alone
only_marked : (some : Bool) (r : Ring) (text : List ℕ) → RingHolds some r text → RingHolds some (record r { killing = false }) text
only_marked true r text k = record { last = k.last; size = k.size; inside = k.inside; slot = k.slot }
only_marked false r text f = record { last = f.last; size = f.size; ring = f.ring; none = f.none }

directed_events : (m : Movement) (l : Line) → is_directed m ≡ true → kill_events m l ≡ StartKilling ∷ (deletion_events (range_of m l) l ++ (StopKilling ∷ []))
directed_events m l d = grind arith

record Run (some : Bool) (first : List ℕ) (l : Line) (r : Ring) : Type 0 where
  text : List ℕ
  line : Restores first l text
  ring : RingHolds some r text

-- one kill
one_kill : (o : Option TextSpan) (some : Bool) (first : List ℕ) (l : Line) (r : Ring) → IfSome o (IsDirected l) → Run some first l r
    → Run (some || is_some o) first (deletion_line o l) (ring_all (StartKilling ∷ (deletion_events o l ++ (StopKilling ∷ []))) r)
one_kill None some first l r h run = rw or-false (record { text = run.text; line = run.line; ring = only_marked some r run.text run.ring })
one_kill (Some span) some first l r h run = rw or-true (record {
  text = mode_text span l run.text;
  line = restores_more first l run.text span run.line h;
  ring = killed_any some r run.text (slice_range l.text span.from span.upto) (mode_of span.direction) run.ring;
})

all_kills : (ms : List Movement) (some : Bool) (first : List ℕ) (l : Line) (r : Ring) → AllByRecursion (λ m. is_directed m ≡ true) ms → Run some first l r
    → Run (some || some_taken ms l) first (fold after_kill (l, r) ms).0 (fold after_kill (l, r) ms).1
all_kills [] some first l r d run = subst (λ b. Run b first l r) (sym (or-false some)) run
all_kills (m ∷ ms) some first l r d run =
    let here = one_kill (range_of m l) some first l r (directed m l d.0 run.line.utf8 run.line.cursor) run in
    let told : Run (some || is_some (range_of m l)) first (killed_in m l).line (ring_all (kill_events m l) r) =
    subst (λ es. Run (some || is_some (range_of m l)) first (killed_in m l).line (ring_all es r)) (sym (directed_events m l d.0)) here in
    subst (λ b. Run b first (fold after_kill (after_kill (l, r) m) ms).0 (fold after_kill (after_kill (l, r) m) ms).1)
    (or_assoc some (is_some (range_of m l)) (some_taken ms (killed_in m l).line))
    (all_kills ms (some || is_some (range_of m l)) first (killed_in m l).line (ring_all (kill_events m l) r) d.1 told)

put_in_room : (g : Bool) (text : List ℕ) (l : Line) → g ≡ true
    → (if g || nat_le (length l.text + length text) l.limit then record { answer = Some (l.place == length l.text); events = InsertStr l.place text ∷ []; line = with_text_at_cursor text l } else no_insertion l).line.text
    ≡ text_with_exchange l.place [] text l.text
put_in_room true text l e = ap (λ k. replace_range l.text l.place k text) (sym (add-zero l.place))
put_in_room false text l e = cc

-- the yank of what was killed
yanked_back : (first : List ℕ) (l : Line) (text : List ℕ) → Restores first l text → (yank text 1 l).line.text ≡ first
yanked_back first l text r = by_test (length text == 0) refl
  where
    by_test : (b : Bool) → (length text == 0) ≡ b → (if b then no_insertion l else insertion_of text 1 l).line.text ≡ first
    by_test true e = sym (nothing_put l.text l.place) ∙ ap (λ t. text_with_exchange l.place [] t l.text) (sym (none_there text e)) ∙ r.restored
    by_test false e = sym (ap (λ x. x.line.text) (one_insertion text 1 l refl)) ∙ put_in_room l.growth text l r.growth ∙ r.restored

pub kills_come_back : KillsComeBack
kills_come_back ms l r d some u b g ring size last =
    let start : Run false l.text l r = record {
      text = [];
      line = record { utf8 = u; cursor = b; text_utf8 = IsUtf8-nil; restored = nothing_put l.text l.place; growth = g };
      ring = record { last = last; size = size; ring = ring; none = refl };
    } in
    let run = subst (λ k. Run k l.text (fold after_kill (l, r) ms).0 (fold after_kill (l, r) ms).1) some (all_kills ms false l.text l r d start) in
    (run.text, slice_get-get_or _ _ [] run.ring.inside ∙ ap Some run.ring.slot, yanked_back l.text (fold after_kill (l, r) ms).0 run.text run.line)
