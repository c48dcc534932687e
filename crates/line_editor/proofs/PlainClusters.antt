-- Printable ASCII and newlines: each byte is a cluster of its own.
use Rattle.std.proofs.Common.{◌≡◌, ℕ, zero, suc, ◌+◌, ◌<◌, Bool, true, false, not, ◌&&◌, ◌||◌, List, [], ◌∷◌, ◌++◌, map, take, drop, length, unwrap_or, Some, refl, sym, ap, ap₂, ◌∙◌, arith, append-nil, if◌then◌else◌}
use Rattle.std.specs.Prelude.{encode_utf8, encode_utf8_all, option_map, reverse}
use Rattle.std.proofs.lemmas.Bool.{and_parts, false≢true}
use Rattle.std.proofs.lemmas.Bool.Decides.{nat_tests}
use Rattle.std.proofs.lemmas.List.{map-append, reverse-append, take-append-drop, length-drop}
use Rattle.std.proofs.lemmas.List.Folds.{list_all-append}
use Rattle.std.proofs.lemmas.Str.{chars-IsAscii, encode_ascii}
use Rattle.ucd_table.proofs.Computing.{tables}
use Rattle.ucd_table.proofs.Facts.{Stepped-below}
use Rattle.ucd_breaks.specs.GraphemeClusterBreak.{grapheme_cluster_break}
use Rattle.ucd_breaks.specs.declared.GraphemeClusterBreak.{GraphemeClusterBreak, TheVariants.Lf, TheVariants.Other}
use Rattle.ucd_breaks.proofs.GraphemeClusterBreakLemmas.{grapheme_cluster_break_stepped}
use Rattle.unicode_segmentation.specs.Grapheme.{graphemes, is_grapheme_break, break_by_pair, joins_conjunct, joins_emoji, joins_flag}
use Rattle.unicode_segmentation.specs.Segments.{cut, segments, prepend, with_offsets}
use Rattle.unicode_segmentation.proofs.GraphemeLemmas.{is_grapheme_break-inside, is_grapheme_break-others}
use Rattle.line_buffer.specs.Clusters.{clusters, place_forward, place_backward, nth_or_last}
use Rattle.line_buffer.specs.Line.{Line}
use Rattle.line_buffer.specs.Printable.{is_plain, is_plain_byte}
use Rattle.line_editor.proofs.KillLemmas.{plain_low}

plain_below : (c : ℕ) → is_plain_byte c ≡ true → c < 0x7F
plain_below c h = grind (arith, nat_tests)

-- ---- next to each other they break

abbrev is_own : GraphemeClusterBreak → Bool
is_own Other = true
is_own Lf = true
is_own _ = false

plain_own : (c : ℕ) → is_plain_byte c ≡ true → is_own (grapheme_cluster_break c) ≡ true
unfolding tables grapheme_cluster_break_stepped
plain_own c h =
    let found = Stepped-below grapheme_cluster_break grapheme_cluster_break_stepped (λ n v. not (is_plain_byte n) || is_own v) 0x7F refl c (plain_below c h) in
    ap (λ b. not b || is_own (grapheme_cluster_break c)) (sym h) ∙ found

module _ (before : List ℕ) (c next : ℕ) (after : List ℕ) where
  abbrev unpaired : Bool
  unpaired = not ((true && joins_conjunct (c ∷ before) next) || joins_emoji (c ∷ before) next || joins_flag (c ∷ before) next)

  by_pair : (v w : GraphemeClusterBreak) → v ≡ grapheme_cluster_break c → w ≡ grapheme_cluster_break next → is_grapheme_break true (c ∷ before) (next ∷ after) ≡ unwrap_or (break_by_pair true v w) unpaired
  by_pair v w e f =
      is_grapheme_break-inside true (c ∷ before) next after (omega arith)
      ∙ ap₂ (λ l r. unwrap_or (break_by_pair true l r) unpaired) (sym e) (sym f)

  after_other : (w : GraphemeClusterBreak) → is_own w ≡ true → next < 0x7F → Other ≡ grapheme_cluster_break c → w ≡ grapheme_cluster_break next → true ≡ is_grapheme_break true (c ∷ before) (next ∷ after)
  after_other Other h low e f = is_grapheme_break-others true (c ∷ before) next after (omega arith) (omega (arith, low)) e f
  after_other Lf h low e f = sym (by_pair Other Lf e f)
  after_other _ h low e f = absurd (false≢true h)

  values_break : (v w : GraphemeClusterBreak) → is_own v ≡ true → is_own w ≡ true → next < 0x7F → v ≡ grapheme_cluster_break c → w ≡ grapheme_cluster_break next → true ≡ is_grapheme_break true (c ∷ before) (next ∷ after)
  values_break Other w h k low e f = after_other w k low e f
  values_break Lf w h k low e f = sym (by_pair Lf w e f)
  values_break _ w h k low e f = absurd (false≢true h)

  both_break : is_plain_byte c ≡ true → is_plain_byte next ≡ true → true ≡ is_grapheme_break true (c ∷ before) (next ∷ after)
  both_break h k = values_break (grapheme_cluster_break c) (grapheme_cluster_break next) (plain_own c h) (plain_own next k) (plain_below next k) refl refl

byte_breaks : (before : List ℕ) (c : ℕ) (cs : List ℕ) → is_plain (c ∷ cs) ≡ true → true ≡ is_grapheme_break true (c ∷ before) (cs ++ [])
unfolding is_grapheme_break
byte_breaks before c [] h = refl
byte_breaks before c (d ∷ cs) h =
    let first = and_parts (is_plain_byte c) (is_plain (d ∷ cs)) h in
    both_break before c d (cs ++ []) first.0 (and_parts (is_plain_byte d) (is_plain cs) first.1).0

cut_bytes : (before cs : List ℕ) → is_plain cs ≡ true → map encode_utf8_all (cut (is_grapheme_break true) before cs []) ≡ map (λ c. c ∷ []) cs
unfolding cut
cut_bytes before [] h = refl
cut_bytes before (c ∷ cs) h =
    let parts = and_parts (is_plain_byte c) (is_plain cs) h in
    let rest = cut (is_grapheme_break true) (c ∷ before) cs [] in
    let bytes : encode_utf8 c ≡ c ∷ [] = encode_ascii c (let low = plain_below c parts.0 in omega arith) in
    ap (λ b. map encode_utf8_all (if b then (c ∷ []) ∷ rest else prepend (c ∷ []) rest)) (sym (byte_breaks before c cs h))
    ∙ ap₂ ◌∷◌ (append-nil (encode_utf8 c) ∙ bytes) (cut_bytes (c ∷ before) cs parts.1)

pub clusters_plain : (text : List ℕ) → is_plain text ≡ true → graphemes true text ≡ map (λ c. c ∷ []) text
unfolding segments
clusters_plain text h =
    ap (λ cs. map encode_utf8_all (cut (is_grapheme_break true) [] cs [])) (chars-IsAscii text (plain_low text h))
    ∙ cut_bytes [] text h

-- ---- the clusters next to a place

pub plain_split : (n : ℕ) (text : List ℕ) → is_plain text ≡ true → (is_plain (take n text) ≡ true) × (is_plain (drop n text) ≡ true)
plain_split n text h =
    and_parts (is_plain (take n text)) (is_plain (drop n text)) (sym (list_all-append is_plain_byte (take n text) (drop n text)) ∙ ap is_plain (take-append-drop n text) ∙ h)

abbrev bytes : List ℕ → List (List ℕ)
bytes text = map (λ c. c ∷ []) text

abbrev starts : ℕ → List ℕ → List ℕ
starts at text = map (λ x. x.0) (reverse (with_offsets at (bytes text)))

-- the last of the first bytes of a text
last_start : (m at : ℕ) (text : List ℕ) → m < length text → (rest : List ℕ) × (starts at (take (suc m) text) ≡ (at + m) ∷ rest)
unfolding with_offsets
last_start m at [] low = absurd (omega arith)
last_start zero at (c ∷ text) low = let same : at ≡ at + 0 = omega arith in ([], ap (λ n. n ∷ []) same)
last_start (suc m) at (c ∷ text) low =
    let more = with_offsets (at + 1) (bytes (take (suc m) text)) in
    let ih = last_start m (at + 1) text (omega arith) in
    let same : at + 1 + m ≡ at + suc m = omega arith in (
      ih.0 ++ at ∷ [],
      ap (map (λ x. x.0)) (reverse-append ((at, c ∷ []) ∷ []) more)
          ∙ map-append (λ x. x.0) (reverse more) ((at, c ∷ []) ∷ [])
          ∙ ap (λ xs. xs ++ at ∷ []) ih.1 ∙ ap (λ n. n ∷ (ih.0 ++ at ∷ [])) same,
    )

pub one_back : (l : Line) (m : ℕ) → is_plain l.text ≡ true → l.place ≡ suc m → m < length l.text → place_backward 1 l ≡ Some m
one_back l m plain is low =
    let first = take (suc m) l.text in
    let none : 0 + m ≡ m = omega arith in
    ap (λ n. nth_or_last 1 (map (λ x. x.0) (reverse (clusters (take n l.text))))) is
    ∙ ap (λ gs. nth_or_last 1 (map (λ x. x.0) (reverse (with_offsets 0 gs)))) (clusters_plain first (plain_split (suc m) l.text plain).0)
    ∙ ap (nth_or_last 1) (last_start m 0 l.text low).1 ∙ ap Some none

first_end : (at : ℕ) (text : List ℕ) → 0 < length text → option_map (λ e. at + e) (nth_or_last 1 (map (λ x. x.0 + length x.1) (with_offsets 0 (bytes text)))) ≡ Some (at + 1)
unfolding with_offsets
first_end at [] some = absurd (omega arith)
first_end at (c ∷ text) some = refl

pub one_on : (l : Line) → is_plain l.text ≡ true → l.place < length l.text → place_forward 1 l ≡ Some (l.place + 1)
one_on l plain low =
    let rest = drop l.place l.text in
    let size = length-drop l.place l.text in
    ap (λ gs. option_map (λ e. l.place + e) (nth_or_last 1 (map (λ x. x.0 + length x.1) (with_offsets 0 gs)))) (clusters_plain rest (plain_split l.place l.text plain).1)
    ∙ first_end l.place rest (omega arith)
