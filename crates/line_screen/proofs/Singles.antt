-- Printable ASCII and tabs: each byte is a cluster of its own.
use Rattle.std.proofs.Common.{◌≡◌, ℕ, zero, suc, ◌<◌, ◌==◌, Bool, true, false, not, ◌&&◌, ◌||◌, List, [], ◌∷◌, ◌++◌, map, slice_index, unwrap_or, refl, sym, ap, ap₂, ◌∙◌, arith, append-nil, if◌then◌else◌}
use Rattle.std.specs.Prelude.{encode_utf8, encode_utf8_all}
use Rattle.std.specs.List.{list_all}
use Rattle.std.proofs.lemmas.Bool.{and_parts, false≢true}
use Rattle.std.proofs.lemmas.Bool.Decides.{nat_tests}
use Rattle.std.proofs.lemmas.Str.{chars-IsAscii, encode_ascii}
use Rattle.ucd_table.proofs.Computing.{tables}
use Rattle.ucd_table.proofs.Facts.{Stepped-below}
use Rattle.ucd_breaks.specs.GraphemeClusterBreak.{grapheme_cluster_break}
use Rattle.ucd_breaks.specs.declared.GraphemeClusterBreak.{GraphemeClusterBreak, TheVariants.Control, TheVariants.Other}
use Rattle.ucd_breaks.proofs.GraphemeClusterBreakLemmas.{grapheme_cluster_break_stepped}
use Rattle.unicode_segmentation.specs.Grapheme.{graphemes, is_grapheme_break, break_by_pair, joins_conjunct, joins_emoji, joins_flag}
use Rattle.unicode_segmentation.specs.Segments.{cut, segments, prepend}
use Rattle.unicode_segmentation.proofs.GraphemeLemmas.{is_grapheme_break-inside, is_grapheme_break-others}
use Rattle.line_screen.specs.Display.{is_printable}

abbrev pub is_single : ℕ → Bool
is_single c = (c == 9) || is_printable c

pub single_low : (c : ℕ) → is_single c ≡ true → c < 0x7F
single_low c h = grind (arith, nat_tests)

-- ---- next to each other they break

abbrev is_own : GraphemeClusterBreak → Bool
is_own Other = true
is_own Control = true
is_own _ = false

single_own : (c : ℕ) → is_single c ≡ true → is_own (grapheme_cluster_break c) ≡ true
unfolding tables grapheme_cluster_break_stepped
single_own c h =
    let found = Stepped-below grapheme_cluster_break grapheme_cluster_break_stepped (λ n v. not (is_single n) || is_own v) 0x7F refl c (single_low c h) in
    ap (λ b. not b || is_own (grapheme_cluster_break c)) (sym h) ∙ found

module _ (before : List ℕ) (c next : ℕ) (after : List ℕ) where
  abbrev unpaired : Bool
  unpaired = not ((true && joins_conjunct (c ∷ before) next) || joins_emoji (c ∷ before) next || joins_flag (c ∷ before) next)

  by_pair : (v w : GraphemeClusterBreak) → v ≡ grapheme_cluster_break c → w ≡ grapheme_cluster_break next → is_grapheme_break true (c ∷ before) (next ∷ after) ≡ unwrap_or (break_by_pair true v w) unpaired
  by_pair v w e f =
      is_grapheme_break-inside true (c ∷ before) next after (omega arith)
      ∙ ap₂ (λ l r. unwrap_or (break_by_pair true l r) unpaired) (sym e) (sym f)

  after_other : (w : GraphemeClusterBreak) → is_own w ≡ true → next < 0x7F → Other ≡ grapheme_cluster_break c → w ≡ grapheme_cluster_break next → true ≡ is_grapheme_break true (c ∷ before) (next ∷ after)
  after_other Other h low e f = is_grapheme_break-others true (c ∷ before) next after (omega arith) (omega (arith, low)) e f
  after_other Control h low e f = sym (by_pair Other Control e f)
  after_other _ h low e f = absurd (false≢true h)

  values_break : (v w : GraphemeClusterBreak) → is_own v ≡ true → is_own w ≡ true → next < 0x7F → v ≡ grapheme_cluster_break c → w ≡ grapheme_cluster_break next → true ≡ is_grapheme_break true (c ∷ before) (next ∷ after)
  values_break Other w h k low e f = after_other w k low e f
  values_break Control w h k low e f = sym (by_pair Control w e f)
  values_break _ w h k low e f = absurd (false≢true h)

  singles_break : is_single c ≡ true → is_single next ≡ true → true ≡ is_grapheme_break true (c ∷ before) (next ∷ after)
  singles_break h k = values_break (grapheme_cluster_break c) (grapheme_cluster_break next) (single_own c h) (single_own next k) (single_low next k) refl refl

single_breaks : (before : List ℕ) (c : ℕ) (cs : List ℕ) → list_all is_single (c ∷ cs) ≡ true → true ≡ is_grapheme_break true (c ∷ before) (cs ++ [])
unfolding is_grapheme_break
single_breaks before c [] h = refl
single_breaks before c (d ∷ cs) h =
    let first = and_parts (is_single c) (list_all is_single (d ∷ cs)) h in
    singles_break before c d (cs ++ []) first.0 (and_parts (is_single d) (list_all is_single cs) first.1).0

cut_singles : (before cs : List ℕ) → list_all is_single cs ≡ true → map encode_utf8_all (cut (is_grapheme_break true) before cs []) ≡ map (λ c. c ∷ []) cs
unfolding cut
cut_singles before [] h = refl
cut_singles before (c ∷ cs) h =
    let parts = and_parts (is_single c) (list_all is_single cs) h in
    let rest = cut (is_grapheme_break true) (c ∷ before) cs [] in
    let bytes : encode_utf8 c ≡ c ∷ [] = encode_ascii c (let low = single_low c parts.0 in omega arith) in
    ap (λ b. map encode_utf8_all (if b then (c ∷ []) ∷ rest else prepend (c ∷ []) rest)) (sym (single_breaks before c cs h))
    ∙ ap₂ ◌∷◌ (append-nil (encode_utf8 c) ∙ bytes) (cut_singles (c ∷ before) cs parts.1)

singles_ascii : (bs : List ℕ) → list_all is_single bs ≡ true → (i : ℕ) → slice_index bs i < 128
singles_ascii [] h i = omega arith
singles_ascii (c ∷ cs) h zero = let low = single_low c (and_parts (is_single c) (list_all is_single cs) h).0 in omega arith
singles_ascii (c ∷ cs) h (suc i) = singles_ascii cs (and_parts (is_single c) (list_all is_single cs) h).1 i

pub clusters_single : (bs : List ℕ) → list_all is_single bs ≡ true → graphemes true bs ≡ map (λ c. c ∷ []) bs
unfolding segments
clusters_single bs h =
    ap (λ cs. map encode_utf8_all (cut (is_grapheme_break true) [] cs [])) (chars-IsAscii bs (singles_ascii bs h))
    ∙ cut_singles [] bs h

pub printable_single : (c : ℕ) → is_printable c ≡ true → is_single c ≡ true
printable_single c h = grind (arith, nat_tests)
