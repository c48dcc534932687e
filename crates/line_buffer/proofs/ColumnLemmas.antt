-- The boundaries of a row by their columns, from the last one back.
use Rattle.std.proofs.Common.{◌≡◌, ℕ, ◌+◌, ◌-◌, ◌==◌, ◌<◌, ◌≤◌, nat_le, min, ⊎_elim, Bool, true, false, cond, ◌&&◌, ◌||◌, List, [], ◌∷◌, ◌++◌, length, map, filter, take, drop, slice_range, Option, None, Some, refl, sym, ap, ◌∙◌, subst, arith, le_refl, append-nil, append_assoc, length-append, length-take, take_all, take-take, take-append-drop, option_map, unwrap_or, chars, encode_utf8, IsUtf8, IsCharBoundary, All, eqb-true}
use Rattle.std.proofs.Math.ListN.{get_or-append}
use Rattle.std.specs.Char.{IsScalar}
use Rattle.std.specs.List.{last_or, concat, list_all}
use Rattle.std.proofs.lemmas.List.{map-append}
use Rattle.std.proofs.lemmas.List.Elements.{filter-append}
use Rattle.std.proofs.lemmas.List.Folds.{list_all-append}
use Rattle.std.proofs.lemmas.Str.{chars-append, chars-nil, chars_past_char, IsUtf8-take, IsUtf8-nil, IsUtf8-append, IsUtf8-encode, IsCharBoundary-from_take, len_utf8_bounds, length-encode}
use Rattle.std.proofs.Math.Seq.{take-append_seam, drop-append_seam, get_or-append_seam}
use Rattle.std.proofs.lemmas.Bool.{and_from, and_parts, or_cases, le-leb, lt-leb}
use Rattle.unicode_segmentation.proofs.TextLemmas.{IsUtf8-before, chars-encode_utf8}
use Rattle.unicode_segmentation.specs.Grapheme.{is_grapheme_break, graphemes}
use Rattle.unicode_segmentation.specs.Segments.{with_offsets}
use Rattle.unicode_segmentation.proofs.SegmentsLemmas.{concat-segments, IsPieceOf, All-IsPieceOf}
use Rattle.line_buffer.specs.declared.layout.GraphemeClusterMode.{GraphemeClusterMode}
use Rattle.line_buffer.specs.Clusters.{clusters}
use Rattle.line_buffer.specs.Columns.{place_at_column}
use Rattle.ucd_emoji.specs.Binary.{is_emoji_variation_base}
use Rattle.line_buffer.specs.Width.{parts, is_selected, is_flag_letter, columns_of, width_of}
use Rattle.line_buffer.proofs.ChainLemmas.{last_or-append}
use Rattle.line_buffer.proofs.PartingLemmas.{first, Balanced, parts_bare, columns_parted, columns_selected, columns_of_flags}

-- no number of columns that is shown is beyond what is counted
pub enough : 65535 ≤ 18446744073709551615
enough = omega arith

-- counted up to the most that a number can be
abbrev pub counted : ℕ → GraphemeClusterMode → List ℕ → ℕ
counted most mode text = min (columns_of mode (chars text)) most

-- ---- clusters tile their text

-- where the last of them ends
abbrev pub end_of : ℕ → List (ℕ × List ℕ) → ℕ
end_of at [] = at
end_of at (x ∷ xs) = end_of (x.0 + length x.1) xs

-- each begins where the one before it ends
abbrev pub Tiles : ℕ → List (ℕ × List ℕ) → Type 0
Tiles at [] = Unit {0}
Tiles at (x ∷ xs) = (x.0 ≡ at) × Tiles (x.0 + length x.1) xs

Tiles-with_offsets : (at : ℕ) (ps : List (List ℕ)) → Tiles at (with_offsets at ps)
unfolding with_offsets
Tiles-with_offsets at [] = tt
Tiles-with_offsets at (p ∷ ps) = (refl, Tiles-with_offsets (at + length p) ps)

end_of-with_offsets : (at : ℕ) (ps : List (List ℕ)) → end_of at (with_offsets at ps) ≡ at + length (concat ps)
unfolding with_offsets
end_of-with_offsets at [] = omega arith
end_of-with_offsets at (p ∷ ps) = end_of-with_offsets (at + length p) ps ∙ omega (arith, length-append p (concat ps))

end_of-append : (at : ℕ) (xs : List (ℕ × List ℕ)) (x : ℕ × List ℕ) → end_of at (xs ++ x ∷ []) ≡ x.0 + length x.1
end_of-append at [] x = refl
end_of-append at (y ∷ xs) x = end_of-append (y.0 + length y.1) xs x

Tiles-append : (at : ℕ) (xs : List (ℕ × List ℕ)) (x : ℕ × List ℕ) → Tiles at (xs ++ x ∷ []) → Tiles at xs × (x.0 ≡ end_of at xs)
Tiles-append at [] x h = (tt, h.0)
Tiles-append at (y ∷ xs) x h = let k = Tiles-append (y.0 + length y.1) xs x h.1 in ((h.0, k.0), k.1)

-- ---- the walk

module _ (mode : GraphemeClusterMode) (most : ℕ) (above : 65535 ≤ most) (first column : ℕ) (row : List ℕ) where
  abbrev measure_at : ℕ → ℕ × ℕ
  measure_at i = (i, first + width_of mode (take i row))

  abbrev fits : ℕ × ℕ → Bool
  fits x = nat_le x.1 column

  abbrev reached : List (ℕ × ℕ) → ℕ
  reached xs = unwrap_or (option_map (λ x. x.0) (last_or None (filter fits xs))) 0

  abbrev measures : List (ℕ × List ℕ) → List (ℕ × ℕ)
  measures left = map measure_at (map (λ x. x.0 + length x.1) left)

  pub record WalksRow (left : List (ℕ × List ℕ)) (width : ℕ) : Type 0 where
    pub answer : place_at_column mode None first column row ≡ reached (measures left)
    pub width_is : width ≡ counted most mode (take (end_of 0 left) row)
    pub tiles : Tiles 0 left
    pub pieces : All (IsPieceOf row) left

  start_is_default : (x : ℕ × ℕ) (xs : List (ℕ × ℕ)) → x.0 ≡ 0 → reached (x ∷ xs) ≡ reached xs
  start_is_default x xs z = by (fits x) (filter fits xs)
    where
      by : (b : Bool) (ys : List (ℕ × ℕ)) → unwrap_or (option_map (λ x. x.0) (last_or None (cond b (x ∷ ys) ys))) 0 ≡ unwrap_or (option_map (λ x. x.0) (last_or None ys)) 0
      by true [] = z
      by true (y ∷ ys) = refl
      by false ys = refl

  pub walks_row_init : (width : ℕ) → IsUtf8 row → width ≡ counted most mode row → WalksRow (clusters row) width
  unfolding place_at_column
  walks_row_init width u e =
      let whole : end_of 0 (clusters row) ≡ length row = end_of-with_offsets 0 (graphemes true row) ∙ ap (λ t. 0 + length t) (concat-segments (is_grapheme_break true) row u) ∙ omega arith in
      record {
        answer = start_is_default (measure_at 0) (measures (clusters row)) refl;
        width_is = e ∙ ap (counted most mode) (sym (take_all (length row) row (le_refl _)) ∙ ap (λ n. take n row) (sym whole));
        tiles = Tiles-with_offsets 0 (graphemes true row);
        pieces = All-IsPieceOf (is_grapheme_break true) row u;
      }

  measures-append : (left : List (ℕ × List ℕ)) (x : ℕ × List ℕ) → measures (left ++ x ∷ []) ≡ measures left ++ measure_at (x.0 + length x.1) ∷ []
  measures-append left x = ap (map measure_at) (map-append (λ x. x.0 + length x.1) left (x ∷ [])) ∙ map-append measure_at (map (λ x. x.0 + length x.1) left) ((x.0 + length x.1) ∷ [])

  reached_hit : (xs : List (ℕ × ℕ)) (x : ℕ × ℕ) → fits x ≡ true → reached (xs ++ x ∷ []) ≡ x.0
  reached_hit xs x h =
      ap (λ ys. unwrap_or (option_map (λ x. x.0) (last_or None ys)) 0) (filter-append fits xs (x ∷ []) ∙ ap (λ b. filter fits xs ++ cond b (x ∷ []) []) h)
      ∙ ap (λ o. unwrap_or (option_map (λ x. x.0) o) 0) (last_or-append None (filter fits xs) (x ∷ []))

  reached_miss : (xs : List (ℕ × ℕ)) (x : ℕ × ℕ) → fits x ≡ false → reached (xs ++ x ∷ []) ≡ reached xs
  reached_miss xs x h =
      ap (λ ys. unwrap_or (option_map (λ x. x.0) (last_or None ys)) 0) (filter-append fits xs (x ∷ []) ∙ ap (λ b. filter fits xs ++ cond b (x ∷ []) []) h ∙ append-nil (filter fits xs))

  -- the cluster x is the last of those that are left
  module _ (old new : List (ℕ × List ℕ)) (x : ℕ × List ℕ) (came : old ≡ new ++ x ∷ []) (width : ℕ) (w : WalksRow old width) where
    pub walks_row_at : width ≡ counted most mode (take (x.0 + length x.1) row)
    walks_row_at = w.width_is ∙ ap (λ n. counted most mode (take n row)) (ap (end_of 0) came ∙ end_of-append 0 new x)

    pub walks_row_piece : IsPieceOf row x
    walks_row_piece =
        let whole = subst (All (IsPieceOf row)) came w.pieces in
        subst (IsPieceOf row) (get_or-append_seam new x [] x) (whole (length new) x (omega (arith, length-append new (x ∷ []))))

    shown : min width 65535 ≡ width_of mode (take (x.0 + length x.1) row)
    shown = omega (arith, walks_row_at, above)

    pub walks_row_hit : first + min width 65535 ≤ column → x.0 + length x.1 ≡ place_at_column mode None first column row
    walks_row_hit h =
        let ok : fits (measure_at (x.0 + length x.1)) ≡ true = ap (λ n. nat_le (first + n) column) (sym shown) ∙ le-leb (first + min width 65535) column h in
        sym (w.answer ∙ ap (λ l. reached (measures l)) came ∙ ap reached (measures-append new x) ∙ reached_hit (measures new) (measure_at (x.0 + length x.1)) ok)

    pub walks_row_turn : (less : ℕ) → column < first + min width 65535 → less ≡ counted most mode (take x.0 row) → WalksRow new less
    walks_row_turn less h e =
        let bad : fits (measure_at (x.0 + length x.1)) ≡ false = ap (λ n. nat_le (first + n) column) (sym shown) ∙ lt-leb (first + min width 65535) column h in
        let cut = Tiles-append 0 new x (subst (Tiles 0) came w.tiles) in
        record {
          answer = w.answer ∙ ap (λ l. reached (measures l)) came ∙ ap reached (measures-append new x) ∙ reached_miss (measures new) (measure_at (x.0 + length x.1)) bad;
          width_is = e ∙ ap (λ n. counted most mode (take n row)) cut.1;
          tiles = cut.0;
          pieces = λ k d l. subst (IsPieceOf row) (get_or-append new (x ∷ []) d k l) (subst (All (IsPieceOf row)) came w.pieces k d (omega (arith, length-append new (x ∷ []), l)));
        }

  pub walks_row_end : (left : List (ℕ × List ℕ)) (width : ℕ) → WalksRow left width → left ≡ [] → 0 ≡ place_at_column mode None first column row
  walks_row_end left width w e = sym (w.answer ∙ ap (λ l. reached (measures l)) e)

-- ---- a row up to one of its boundaries

pub front_of : (row part : List ℕ) (end : ℕ) → part ≡ slice_range row 0 end → part ≡ take end row
front_of row part end e = let same : end - 0 ≡ end = omega arith in e ∙ ap (λ n. take n row) same

pub boundary_in_front : (row part : List ℕ) (start end : ℕ) → IsUtf8 row → IsUtf8 part → part ≡ take end row → start ≤ end → end ≤ length row → IsCharBoundary row start → IsCharBoundary part start
boundary_in_front row part start end u v e l m at =
    IsCharBoundary-from_take part start v (omega (arith, ap length e, length-take end row))
    (subst IsUtf8 (sym (ap (take start) e ∙ take-take start end row l)) (IsUtf8-take row start u at))

pub counted_in_front : (most : ℕ) (mode : GraphemeClusterMode) (row part : List ℕ) (start end : ℕ) → part ≡ take end row → start ≤ end
    → counted most mode (take start part) ≡ counted most mode (take start row)
counted_in_front most mode row part start end e l = ap (counted most mode) (ap (take start) e ∙ take-take start end row l)

-- ---- the place at which a text is parted

-- read from its end, the text up to `end` is left as `front`; what follows that begins with `next`
pub record PartsText (text : List ℕ) (end : ℕ) (front : List ℕ) (next : Option ℕ) (flags inside : Bool) : Type 0 where
  pub mid : List ℕ
  pub front_ok : IsUtf8 front
  pub mid_ok : IsUtf8 mid
  pub tiles : take end text ≡ front ++ mid
  pub next_is : next ≡ first (chars mid ++ chars (drop end text))
  pub flags_are : flags ≡ true → list_all is_flag_letter (chars mid ++ chars (drop end text)) ≡ true
  pub not_last : inside ≡ true → (d : ℕ) × ((ds : List ℕ) × (chars mid ≡ d ∷ ds))

pub first_nothing : (text : List ℕ) → length text ≡ 0 → None ≡ first (chars text)
first_nothing [] e = sym (ap first chars-nil)
first_nothing (b ∷ bs) e = cc

pub first_something : (text rest : List ℕ) (c : ℕ) → IsUtf8 text → text ≡ encode_utf8 c ++ rest → Some c ≡ first (chars text)
first_something text rest c u e = sym (ap first (chars_past_char text rest c u e))

pub parts_text_init : (text front : List ℕ) (end : ℕ) (next : Option ℕ) (flags : Bool) → IsUtf8 front → front ≡ take end text → next ≡ first (chars (drop end text)) → flags ≡ list_all is_flag_letter (chars (drop end text))
    → PartsText text end front next flags false
parts_text_init text front end next flags u e n f =
    record {
      mid = [];
      front_ok = u;
      mid_ok = IsUtf8-nil;
      tiles = sym e ∙ sym (append-nil front);
      next_is = n ∙ ap (λ cs. first (cs ++ chars (drop end text))) (sym chars-nil);
      flags_are = λ h. ap (λ cs. list_all is_flag_letter (cs ++ chars (drop end text))) chars-nil ∙ sym f ∙ h;
      not_last = λ e. cc;
    }

module _ (text : List ℕ) (end : ℕ) (old new : List ℕ) (next : Option ℕ) (flags inside : Bool) (c : ℕ) (scalar : IsScalar c) (w : PartsText text end old next flags inside) (came : old ≡ new ++ encode_utf8 c) where
  abbrev mid_of : List ℕ
  mid_of = encode_utf8 c ++ w.mid

  new_ok : IsUtf8 new
  new_ok = IsUtf8-before old new (encode_utf8 c) w.front_ok (IsUtf8-encode c scalar) came

  tiles_of : take end text ≡ new ++ mid_of
  tiles_of = w.tiles ∙ ap (λ bs. bs ++ w.mid) came ∙ append_assoc new (encode_utf8 c) w.mid

  mid_chars : chars mid_of ≡ c ∷ chars w.mid
  mid_chars = chars-append (encode_utf8 c) w.mid (IsUtf8-encode c scalar) ∙ ap (λ cs. cs ++ chars w.mid) (chars-encode_utf8 c (IsUtf8-encode c scalar))

  abbrev rest : List ℕ
  rest = chars (drop end text)

  pub parts_text_turn : (flag : Bool) → flag ≡ is_flag_letter c → PartsText text end new (Some c) (flags && flag) true
  parts_text_turn flag is =
      record {
        mid = mid_of;
        front_ok = new_ok;
        mid_ok = IsUtf8-append (encode_utf8 c) w.mid (IsUtf8-encode c scalar) w.mid_ok;
        tiles = tiles_of;
        next_is = ap (λ cs. first (cs ++ rest)) (sym mid_chars);
        flags_are = λ h. let both = and_parts flags flag h in ap (λ cs. list_all is_flag_letter (cs ++ rest)) mid_chars ∙ and_from (is_flag_letter c) _ (sym is ∙ both.1) (w.flags_are both.0);
        not_last = λ _. (c, (chars w.mid, mid_chars));
      }

  pub parts_text_before : length new ≤ end
  parts_text_before = omega (arith, ap length tiles_of, length-append new mid_of, length-take end text)

  pub parts_text_smaller : length new < length old
  parts_text_smaller = omega (arith, ap length came, length-append new (encode_utf8 c), (len_utf8_bounds c).0, length-encode c)

  pub parts_text_boundary : IsUtf8 text → IsCharBoundary text end → IsCharBoundary text (length new)
  parts_text_boundary u at =
      IsCharBoundary-from_take text (length new) u (omega (arith, parts_text_before, at.0))
      (subst IsUtf8 (sym (sym (take-take (length new) end text parts_text_before) ∙ ap (take (length new)) tiles_of ∙ take-append_seam new mid_of)) new_ok)

  -- where the two texts that begin here act alike
  abbrev pub Alike : List ℕ → Type 0
  Alike ds = (mode : GraphemeClusterMode) (cs : List ℕ) → Balanced (columns_of mode) cs (c ∷ (ds ++ rest)) (c ∷ ds)

  pub parts_text_balance : IsCharBoundary text end → IsUtf8 text → Alike (chars w.mid)
      → (mode : GraphemeClusterMode) → columns_of mode (chars text) + columns_of mode (chars (slice_range text (length new) end)) ≡ columns_of mode (chars (take end text)) + columns_of mode (chars (drop (length new) text))
  parts_text_balance at u alike mode =
      let split : text ≡ new ++ (mid_of ++ drop end text) = sym (take-append-drop end text) ∙ ap (λ bs. bs ++ drop end text) tiles_of ∙ append_assoc new mid_of (drop end text) in
      let later : drop (length new) text ≡ mid_of ++ drop end text = ap (drop (length new)) split ∙ drop-append_seam new (mid_of ++ drop end text) in
      let size : end - length new ≡ length mid_of = omega (arith, ap length tiles_of, length-append new mid_of, length-take end text, at.0) in
      let part : slice_range text (length new) end ≡ mid_of = ap (λ n. take n (drop (length new) text)) size ∙ ap (take (length mid_of)) later ∙ take-append_seam mid_of (drop end text) in
      let mid_ok = IsUtf8-append (encode_utf8 c) w.mid (IsUtf8-encode c scalar) w.mid_ok in
      let later_chars : chars (drop (length new) text) ≡ c ∷ (chars w.mid ++ rest) = ap chars later ∙ chars-append mid_of (drop end text) mid_ok ∙ ap (λ cs. cs ++ rest) mid_chars in
      let whole : chars text ≡ chars new ++ c ∷ (chars w.mid ++ rest) = ap chars split ∙ chars-append new (mid_of ++ drop end text) new_ok ∙ ap (λ cs. chars new ++ cs) (sym (ap chars later) ∙ later_chars) in
      let upto : chars (take end text) ≡ chars new ++ c ∷ chars w.mid = ap chars tiles_of ∙ chars-append new mid_of new_ok ∙ ap (λ cs. chars new ++ cs) mid_chars in
      omega (arith, alike mode (chars new), ap (columns_of mode) whole, ap (columns_of mode) upto, ap (columns_of mode) later_chars, ap (columns_of mode) (ap chars part ∙ mid_chars))

  first_of_both : {n : Option ℕ} → n ≡ first (chars w.mid ++ rest) → parts c n ≡ true → parts c (first (chars w.mid)) ≡ true
  first_of_both {n} e h = by (chars w.mid) e
    where
      by : (ds : List ℕ) → n ≡ first (ds ++ rest) → parts c (first ds) ≡ true
      by [] k = parts_bare c n h
      by (d ∷ ds) k = ap (parts c) (sym k) ∙ h

  alike_parted : parts c next ≡ true → Alike (chars w.mid)
  alike_parted h = columns_parted c (chars w.mid ++ rest) (chars w.mid) (ap (parts c) (sym w.next_is) ∙ h) (first_of_both w.next_is h)

  alike_inside : inside ≡ true → (is_selected c next || (flags && is_flag_letter c)) ≡ true → Alike (chars w.mid)
  alike_inside i h =
      let last = w.not_last i in
      subst Alike (sym last.1.1)
      (⊎_elim
      (λ chosen.
      let both = selected_is next (w.next_is ∙ ap (λ xs. first (xs ++ rest)) last.1.1) chosen in
      columns_selected c (last.0 ∷ (last.1.0 ++ rest)) (last.0 ∷ last.1.0) both.0 both.1 both.1)
      (λ lettered.
      let both = and_parts flags (is_flag_letter c) lettered in
      let all : list_all is_flag_letter (last.0 ∷ (last.1.0 ++ rest)) ≡ true = ap (λ xs. list_all is_flag_letter (xs ++ rest)) (sym last.1.1) ∙ w.flags_are both.0 in
      columns_of_flags c last.0 (last.1.0 ++ rest) last.1.0 (and_from (is_flag_letter c) _ both.1 all) (and_from (is_flag_letter c) _ both.1 (and_parts _ (list_all is_flag_letter rest) (sym (list_all-append is_flag_letter (last.0 ∷ last.1.0) rest) ∙ all)).0))
      (or_cases (is_selected c next) (flags && is_flag_letter c) h))
    where
      selected_is : {d : ℕ} (n : Option ℕ) → n ≡ Some d → is_selected c n ≡ true → (is_emoji_variation_base c ≡ true) × (Some d ≡ Some 0xFE0F)
      selected_is None e k = cc
      selected_is (Some x) e k = let both = and_parts (is_emoji_variation_base c) (x == 0xFE0F) k in (both.0, sym e ∙ ap Some (eqb-true x 0xFE0F both.1))

  pub alike : (parts c next || (inside && (is_selected c next || (flags && is_flag_letter c)))) ≡ true → Alike (chars w.mid)
  alike h = ⊎_elim alike_parted (λ k. let both = and_parts inside _ k in alike_inside both.0 both.1) (or_cases (parts c next) _ h)
