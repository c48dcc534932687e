-- In a plain line the transposed clusters are two bytes.
use Rattle.std.proofs.Common.{◌≡◌, ℕ, zero, suc, ◌+◌, ◌-◌, ◌<◌, ◌≤◌, ◌==◌, nat_lt, nat_le, not, Bool, true, false, ◌&&◌, List, [], ◌∷◌, ◌++◌, take, drop, length, unwrap_or, Option, Some, None, refl, sym, ap, ap₂, ◌∙◌, subst, arith, if◌then◌else◌}
use Rattle.std.specs.Prelude.{slice_range}
use Rattle.std.specs.List.{list_all}
use Rattle.std.specs.Str.{IsCharBoundary}
use Rattle.std.proofs.lemmas.Bool.{and_parts, and_from, eqb-false, eq-eqb, leb-true, ne_eqb, ltb-true, ltb-false, not-true}
use Rattle.std.proofs.lemmas.List.{length-append, length-map, take-append-drop}
use Rattle.line_buffer.specs.Clusters.{place_backward}
use Rattle.line_buffer.specs.declared.layout.Position.{Position}
use Rattle.line_buffer.specs.Line.{Line, text_before, text_after, with_cursor_at, with_replacement}
use Rattle.line_buffer.specs.Printable.{is_printable, is_plain}
use Rattle.line_buffer.specs.Transpositions.{between_clusters, clusters_at, clusters_around, later_first, transposes_chars, transpose_chars as transposed_in}
use Rattle.line_editor.specs.Inserting.{is_bare}
use Rattle.line_editor.specs.RenderCalls.{IsKnown}
use Rattle.line_editor.specs.Transforms.{has_letters, may_be_rewritten, pair_end}
use Rattle.line_editor.specs.Values.{Value, Setting}
use Rattle.line_editor.proofs.KnownLemmas.{Begins, behind_place, known_at, known_nothing, plain_boundary}
use Rattle.line_editor.proofs.PlainClusters.{clusters_plain, plain_split, one_back, one_on}

-- ---- two bytes of a text

record Two (k : ℕ) (text : List ℕ) : Type 0 where
  a : ℕ
  b : ℕ
  one : take 1 (drop k text) ≡ a ∷ []
  next : take 1 (drop (k + 1) text) ≡ b ∷ []
  both : take 2 (drop k text) ≡ a ∷ b ∷ []

two : (k : ℕ) (text : List ℕ) → k + 2 ≤ length text → Two k text
two k [] room = absurd (omega arith)
two zero (a ∷ []) room = absurd (omega arith)
two zero (a ∷ (b ∷ text)) room = record { a = a; b = b; one = refl; next = refl; both = refl }
two (suc k) (c ∷ text) room =
    let t = two k text (omega arith) in
    let same : suc k + 1 ≡ suc (k + 1) = omega arith in
    record { a = t.a; b = t.b; one = t.one; next = ap (λ n. take 1 (drop n (c ∷ text))) same ∙ t.next; both = t.both }

-- exchanged
pub record Exchanged (l : Line) (from upto : ℕ) : Type 0 where
  pub letters : List ℕ
  pub line : (transposed_in l).line ≡ with_replacement from upto letters l
  pub size : upto ≡ from + length letters
  pub printable : list_all is_printable (slice_range l.text from upto) ≡ true → list_all is_printable letters ≡ true

-- ---- the places of the clusters

module _ (l : Line) (plain : is_plain l.text ≡ true) (done : transposes_chars l ≡ true) where
  counted : clusters_around l ≡ length l.text
  counted =
      let parts = plain_split l.place l.text plain in
      let one = λ (c : ℕ). c ∷ [] in
      ap₂ ◌+◌ (ap length (clusters_plain (text_before l) parts.0) ∙ length-map (text_before l) one) (ap length (clusters_plain (text_after l) parts.1) ∙ length-map (text_after l) one)
      ∙ sym (length-append (text_before l) (text_after l)) ∙ ap length (take-append-drop l.place l.text)

  several : 1 < length l.text
  several = let parts = and_parts (not (l.place == 0)) (nat_lt 1 (clusters_around l)) done in ltb-true 1 (length l.text) (ap (nat_lt 1) (sym counted) ∙ parts.1)

  inside : 0 < l.place
  inside =
      let parts = and_parts (not (l.place == 0)) (nat_lt 1 (clusters_around l)) done in
      let differ = eqb-false l.place 0 (not-true (l.place == 0) parts.0) in
      grind arith

  -- with the cursor between them
  places : (m : Line) (k : ℕ) → m.text ≡ l.text → m.place ≡ suc k → m.place < length l.text → clusters_at m ≡ (k, k + 1, k + 2)
  places m k same at room =
      let plain_too : is_plain m.text ≡ true = ap is_plain same ∙ plain in
      let size = ap length same in
      let before = one_back m k plain_too at (omega arith) in
      let after = one_on m plain_too (omega arith) in
      let here : m.place ≡ k + 1 = omega arith in
      let there : m.place + 1 ≡ k + 2 = omega arith in
      (λ i. (unwrap_or (before i) m.place, here i, unwrap_or (after i) m.place))
      ∙ ap (λ n. (k, k + 1, n)) there

  -- where the first one begins
  places_if : (b : Bool) → nat_lt l.place (length l.text) ≡ b → (if b then l.place + 1 else l.place) ≤ length l.text
      → (k : ℕ) × ((if b then l.place + 1 else l.place) ≡ k + 2) × (clusters_at (between_clusters l) ≡ (k, k + 1, k + 2))
  places_if true e low =
      let some = inside in
      let before = ltb-true l.place (length l.text) e in
      let apart : (l.place == length l.text) ≡ false = ne_eqb l.place (length l.text) (λ same. omega arith) in (
        l.place - 1,
        omega arith,
        ap (λ b. clusters_at (if b then with_cursor_at (place_backward 1 l) l else l)) apart ∙ places l (l.place - 1) refl (omega arith) before,
      )
  places_if false e low =
      let some = several in
      let past = ltb-false l.place (length l.text) e in
      let same : (l.place == length l.text) ≡ true = eq-eqb l.place (length l.text) (omega arith) in
      let k = l.place - 2 in
      let one = one_back l (suc k) plain (omega arith) (omega arith) in
      let m : Line = record l { place = suc k } in (
        k,
        omega arith,
        ap (λ b. clusters_at (if b then with_cursor_at (place_backward 1 l) l else l)) same ∙ ap (λ o. clusters_at (with_cursor_at o l)) one ∙ places m k refl refl (omega arith),
      )

  pub exchanged : pair_end l ≤ length l.text → Exchanged l (pair_end l - 2) (pair_end l)
  exchanged low =
      let found = places_if (nat_lt l.place (length l.text)) refl low in
      let k = found.0 in
      let from : pair_end l - 2 ≡ k = let e = found.1 in omega arith in
      let text = l.text in
      let letters = later_first (k, k + 1, k + 2) text in
      let t = two k text (let e = found.1 in omega arith) in
      let one : k + 1 - k ≡ 1 = omega arith in
      let next : k + 2 - (k + 1) ≡ 1 = omega arith in
      let both : k + 2 - k ≡ 2 = omega arith in
      let letters_are : letters ≡ t.b ∷ t.a ∷ [] =
      ap₂ ◌++◌ (ap (λ n. take n (drop (k + 1) text)) next ∙ t.next) (ap (λ n. take n (drop k text)) one ∙ t.one) in
      let gone_is : slice_range text k (k + 2) ≡ t.a ∷ t.b ∷ [] = ap (λ n. take n (drop k text)) both ∙ t.both in
      let count = ap length letters_are in
      record {
        letters = letters;
        line = ap (λ b. let parts = clusters_at (between_clusters l) in if b then with_replacement parts.0 parts.2 (later_first parts text) l else l) done
            ∙ ap (λ parts. with_replacement parts.0 parts.2 (later_first parts text) l) found.2
            ∙ ap₂ (λ x y. with_replacement x y letters l) (sym from) (sym found.1);
        size = let e = found.1 in omega arith;
        printable = λ h.
            let parts = and_parts (is_printable t.a) (list_all is_printable (t.b ∷ [])) (ap (list_all is_printable) (sym gone_is) ∙ ap₂ (λ x y. list_all is_printable (slice_range text x y)) (sym from) (sym found.1) ∙ h) in
            ap (list_all is_printable) letters_are ∙ and_from (is_printable t.b) (list_all is_printable (t.a ∷ [])) (and_parts (is_printable t.b) true parts.1).0 (and_from (is_printable t.a) true parts.0 refl);
      }

-- ---- the text before them stays, and what is known of it

-- the line is plain, and has them
pub record Pair (l : Line) : Type 0 where
  pub plain : is_plain l.text ≡ true
  pub low : pair_end l ≤ length l.text

pair_of : (s : Setting) (v : Value) → may_be_rewritten s (pair_end v.line - 2) (pair_end v.line) v ≡ true → Pair v.line
pair_of s v may =
    let end = pair_end v.line in
    let gone = slice_range v.line.text (end - 2) end in
    let b = and_parts (is_bare v) (is_plain v.line.text && (nat_le end (length v.line.text) && list_all is_printable gone)) (and_parts s.config.partial_redraw (has_letters (end - 2) end v) may).1 in
    let d = and_parts (is_plain v.line.text) (nat_le end (length v.line.text) && list_all is_printable gone) b.1 in
    record { plain = d.0; low = leb-true end (length v.line.text) (and_parts (nat_le end (length v.line.text)) (list_all is_printable gone) d.1).0 }

pub pair_over : (over : Bool) (from end : ℕ) (s : Setting) (v : Value) → end ≡ pair_end v.line → from ≡ end - 2 → over ≡ may_be_rewritten s from end v → over ≡ true → Pair v.line
pair_over over from end s v end_is from_is over_is h =
    pair_of s v (sym (ap (λ x. may_be_rewritten s x end v) from_is ∙ ap (λ y. may_be_rewritten s (y - 2) y v) end_is) ∙ sym over_is ∙ h)

pub pair_boundary : (l : Line) → Pair l → IsCharBoundary l.text (pair_end l - 2)
pair_boundary l p = plain_boundary l.text (pair_end l - 2) p.plain (let low = p.low in omega arith)

pair_begins : (l : Line) → Pair l → Begins (pair_end l - 2) l.text (transposed_in l).line.text
pair_begins l p = by_test (transposes_chars l) refl
  where
    by_test : (b : Bool) → transposes_chars l ≡ b → Begins (pair_end l - 2) l.text (transposed_in l).line.text
    by_test true e =
        let x = exchanged l p.plain e p.low in
        subst (λ (m : Line). Begins (pair_end l - 2) l.text m.text) (sym x.line) (behind_place (pair_end l - 2) (pair_end l) l.text x.letters (let low = p.low in omega arith))
    by_test false e =
        let same : (transposed_in l).line ≡ l = ap (λ b. let parts = clusters_at (between_clusters l) in if b then with_replacement parts.0 parts.2 (later_first parts l.text) l else l) e in
        subst (λ (m : Line). Begins (pair_end l - 2) l.text m.text) (sym same) (record { low = let low = p.low in omega arith; same = refl })

module _ (measure : List ℕ → Position → Position) (start : Position) (l : Line) where
  abbrev before_pair : ℕ × Position
  before_pair = (pair_end l - 2, measure (take (pair_end l - 2) l.text) start)

  pair_if : (after : Line) → after ≡ (transposed_in l).line → (b : Bool) → (b ≡ true → Pair l) → IsKnown measure start after.text (if b then Some before_pair else None)
  pair_if after made true has =
      let begins = subst (λ (m : Line). Begins (pair_end l - 2) l.text m.text) (sym made) (pair_begins l (has refl)) in
      known_at measure start after.text before_pair.0 before_pair.1 begins.low (ap (λ t. measure t start) (sym begins.same))
  pair_if after made false has = known_nothing measure start after.text

  pub pair_known : (after : Line) (over : Bool) (from : ℕ) (kept : Option (ℕ × Position)) → after ≡ (transposed_in l).line → (over ≡ true → Pair l) → from ≡ pair_end l - 2
      → kept ≡ (if over then Some (from, measure (take from l.text) start) else None) → IsKnown measure start after.text kept
  pair_known after over from kept made has at is =
      subst (IsKnown measure start after.text) (sym (is ∙ ap (λ n. if over then Some (n, measure (take n l.text) start) else None) at)) (pair_if after made over has)
