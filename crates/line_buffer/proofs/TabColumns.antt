-- Columns and boundaries of a row with a tab in it: those before the tab, and those after it.
use Rattle.std.proofs.Common.{◌≡◌, ◌≢◌, ℕ, suc, ◌+◌, ◌-◌, ◌*◌, ◌<◌, ◌≤◌, ◌==◌, nat_le, ⊎_elim, Bool, true, false, cond, List, [], ◌∷◌, ◌++◌, length, map, filter, take, drop, get_or, Option, None, Some, refl, sym, ap, ap₂, ◌∙◌, subst, arith, length-append, length-drop, length-take, drop-cons, take-append-drop, get_or-take, get_or-drop, option_map, unwrap_or, IsUtf8, IsCharBoundary, All, slice_range, ne_eqb}
use Rattle.std.specs.List.{last_or, concat, slice_split}
use Rattle.std.proofs.lemmas.Bool.{le-leb, lt-leb, cases_Bool}
use Rattle.std.proofs.lemmas.List.{append-nil, map-append, drop-drop, take-append-le}
use Rattle.std.proofs.lemmas.List.Elements.{filter-append, All-from_get_or}
use Rattle.std.proofs.lemmas.List.Splits.{slice_split_none, slice_split_at, length-slice_split}
use Rattle.std.proofs.lemmas.Str.{chars-nil, IsUtf8-take, IsUtf8-drop, IsCharBoundary-start, IsCharBoundary-before_ascii, IsCharBoundary-after_ascii, IsCharBoundary-from_rest}
use Rattle.std.proofs.Math.Seq.{take-append-add}
use Rattle.unicode_segmentation.specs.Grapheme.{graphemes, is_grapheme_break}
use Rattle.unicode_segmentation.specs.Segments.{with_offsets}
use Rattle.unicode_segmentation.proofs.SegmentsLemmas.{concat-segments}
use Rattle.unicode_width.proofs.Computing.{unicode_width}
use Rattle.line_buffer.specs.declared.layout.GraphemeClusterMode.{GraphemeClusterMode, TheVariants.Unicode, TheVariants.WcWidth, TheVariants.NoZwj}
use Rattle.line_buffer.specs.declared.layout.TabStops.{TabStops}
use Rattle.line_buffer.specs.Clusters.{clusters, cluster_ends}
use Rattle.line_buffer.specs.Columns.{place_at_column}
use Rattle.line_buffer.specs.Width.{tab_end, parts_end, column_after, columns_of, width_of}
use Rattle.line_buffer.proofs.ChainLemmas.{option_map-last_or, last_or-append}
use Rattle.line_buffer.proofs.PartLemmas.{boundary_before}
use Rattle.line_buffer.proofs.TabClusters.{clusters-tab}

-- a text without tabs, and a text whose first tab is at a place
abbrev pub NoTabs : List ℕ → Type 0
NoTabs text = (i : ℕ) → i < length text → get_or text i 0 ≢ 9

abbrev pub FirstTab : List ℕ → ℕ → Type 0
FirstTab text k = (k < length text) × (get_or text k 0 ≡ 9) × ((i : ℕ) → i < k → get_or text i 0 ≢ 9)

abbrev is_tab : ℕ → Bool
is_tab byte = byte == 0x09

-- the boundaries of the clusters of a row that begins at a column, each with its own column
abbrev boundary_columns : GraphemeClusterMode → Option TabStops → ℕ → List ℕ → List (ℕ × ℕ)
boundary_columns mode tabs first row = map (λ i. (i, column_after mode tabs first (take i row))) (0 ∷ cluster_ends row)

none_pass : (text : List ℕ) → NoTabs text → All (λ b. is_tab b ≡ false) text
none_pass text h = All-from_get_or (λ b. is_tab b ≡ false) text 0 (λ i l. ne_eqb _ 9 (h i l))

no_columns : (mode : GraphemeClusterMode) → columns_of mode [] ≡ 0
unfolding unicode_width
no_columns Unicode = refl
no_columns WcWidth = refl
no_columns NoZwj = refl

no_width : (mode : GraphemeClusterMode) → width_of mode [] ≡ 0
no_width mode = omega (arith, ap (columns_of mode) chars-nil ∙ no_columns mode)

-- what precedes the first tab, and what follows it
cut_at : (text : List ℕ) (k : ℕ) → FirstTab text k → text ≡ take k text ++ 9 ∷ drop (k + 1) text
cut_at text k h =
    let next : suc k ≡ k + 1 = omega arith in
    sym (take-append-drop k text)
    ∙ ap (λ t. take k text ++ t) (drop-cons text k 0 h.0 ∙ ap₂ (λ b j. b ∷ drop j text) h.1 next)

none_before : (text : List ℕ) (k : ℕ) → FirstTab text k → NoTabs (take k text)
none_before text k h i l e =
    let low : i < k = omega (arith, l, length-take k text) in
    h.2 i low (sym (get_or-take k text i 0 low) ∙ e)

before_tab : (text : List ℕ) (k : ℕ) → FirstTab text k → IsCharBoundary text k
before_tab text k h = IsCharBoundary-before_ascii text k h.0 (omega (arith, h.1))

pub after_tab : (text : List ℕ) (k : ℕ) → IsUtf8 text → FirstTab text k → IsCharBoundary text (k + 1)
after_tab text k u h = IsCharBoundary-after_ascii text k u h.0 (omega (arith, h.1))

-- a walk from tab to tab, so far
abbrev wide : ℕ
wide = 65535 + 255

pub record WalksTabs (text : List ℕ) (start col : ℕ) : Type 0 where
  pub boundary : IsCharBoundary text start
  pub low : col ≤ 65535 + start * wide

pub begins : (first : ℕ) (text : List ℕ) → IsUtf8 text → first ≤ 65535 → WalksTabs text 0 first
begins first text u l = record { boundary = IsCharBoundary-start text u; low = omega (arith, l) }

module _ (text : List ℕ) (start col : ℕ) (w : WalksTabs text start col) (u : IsUtf8 text) (rest : List ℕ) (is : rest ≡ drop start text) (k : ℕ) (h : FirstTab rest k) where
  pub rest_is_text : IsUtf8 rest
  rest_is_text = subst IsUtf8 (sym is) (IsUtf8-drop text start u w.boundary)

  pub inside : start + k < length text
  inside = omega (arith, h.0, ap length is, length-drop start text)

  there : get_or text (start + k) 0 ≡ 9
  there = sym (get_or-drop start text k 0) ∙ ap (λ t. get_or t k 0) (sym is) ∙ h.1

  pub past_tab : IsCharBoundary text (start + (k + 1))
  past_tab = subst (IsCharBoundary text) (let e : (start + k) + 1 ≡ start + (k + 1) = omega arith in e) (IsCharBoundary-after_ascii text (start + k) u inside (omega (arith, there)))

  -- the tab's place, and a place in the part before it
  pub boundary_in_part : (part : List ℕ) (j : ℕ) → part ≡ take k rest → IsCharBoundary part j → IsCharBoundary text (start + j)
  boundary_in_part part j e b =
      IsCharBoundary-from_rest text start j w.boundary.0 (subst (λ t. IsCharBoundary t j) is (boundary_before rest k j (before_tab rest k h) (subst (λ t. IsCharBoundary t j) e b)))

  pub at_tab : IsCharBoundary text (start + k)
  at_tab = IsCharBoundary-from_rest text start k w.boundary.0 (subst (λ t. IsCharBoundary t k) is (before_tab rest k h))

  pub goes_on : (next : ℕ) → next ≤ col + 65535 + 255 → WalksTabs text (start + (k + 1)) next
  goes_on next near = record { boundary = past_tab; low = omega (arith, near, w.low) }

  pub part_is : (part : List ℕ) → part ≡ slice_range text start (start + k) → part ≡ take k rest
  part_is part e = e ∙ ap₂ take (let same : start + k - start ≡ k = omega arith in same) (sym is)

  pub rest_goes_on : drop (k + 1) rest ≡ drop (start + (k + 1)) text
  rest_goes_on = ap (drop (k + 1)) is ∙ drop-drop (k + 1) start text

module _ (mode : GraphemeClusterMode) (stops : TabStops) where
  -- ---- columns

  pub column_plain : (col : ℕ) (text : List ℕ) → NoTabs text → column_after mode (Some stops) col text ≡ col + width_of mode text
  column_plain col text none = ap (parts_end mode stops col) (slice_split_none is_tab text (none_pass text none))

  parts_more : (col : ℕ) (part : List ℕ) (parts : List (List ℕ)) → 0 < length parts → parts_end mode stops col (part ∷ parts) ≡ parts_end mode stops (tab_end stops (col + width_of mode part)) parts
  parts_more col part [] some = absurd (omega (arith, some))
  parts_more col part (next ∷ parts) some = refl

  column_past : (col : ℕ) (xs ys : List ℕ) → NoTabs xs → column_after mode (Some stops) col (xs ++ 9 ∷ ys) ≡ column_after mode (Some stops) (tab_end stops (col + width_of mode xs)) ys
  column_past col xs ys none =
      ap (parts_end mode stops col) (slice_split_at is_tab xs 9 ys (none_pass xs none) refl)
      ∙ parts_more col xs (slice_split is_tab ys) (omega (arith, length-slice_split is_tab ys))

  parts_grow : (col : ℕ) (parts : List (List ℕ)) → col ≤ parts_end mode stops col parts
  parts_grow col [] = omega arith
  parts_grow col (part ∷ []) = omega arith
  parts_grow col (part ∷ (next ∷ parts)) = omega (arith, parts_grow (tab_end stops (col + width_of mode part)) (next ∷ parts))

  -- the column after the first tab
  abbrev pub past : ℕ → List ℕ → ℕ → ℕ
  past col text k = tab_end stops (col + width_of mode (take k text))

  pub column_turn : (col : ℕ) (text : List ℕ) (k : ℕ) → FirstTab text k → column_after mode (Some stops) col text ≡ column_after mode (Some stops) (past col text k) (drop (k + 1) text)
  column_turn col text k h = ap (column_after mode (Some stops) col) (cut_at text k h) ∙ column_past col (take k text) (drop (k + 1) text) (none_before text k h)

  -- ---- boundaries

  abbrev ends_of : ℕ → List (List ℕ) → List ℕ
  ends_of at ps = map (λ (x : ℕ × List ℕ). x.0 + length x.1) (with_offsets at ps)

  ends_shift : (n at : ℕ) (ps : List (List ℕ)) → ends_of (n + at) ps ≡ map (λ e. n + e) (ends_of at ps)
  unfolding with_offsets
  ends_shift n at [] = refl
  ends_shift n at (p ∷ ps) =
      let first : n + at + length p ≡ n + (at + length p) = omega arith in
      ap (λ e. e ∷ ends_of (n + at + length p) ps) first
      ∙ ap (λ es. (n + (at + length p)) ∷ es) (ap (λ k. ends_of k ps) first ∙ ends_shift n (at + length p) ps)

  abbrev measure : Option TabStops → ℕ → List ℕ → ℕ → ℕ × ℕ
  measure tabs first row i = (i, column_after mode tabs first (take i row))

  abbrev shift : ℕ → ℕ × ℕ → ℕ × ℕ
  shift n x = (n + x.0, x.1)

  -- a boundary in the part before a tab
  measure_in_front : (first : ℕ) (xs ys : List ℕ) (i : ℕ) → NoTabs xs → i ≤ length xs → measure (Some stops) first (xs ++ ys) i ≡ measure None first xs i
  measure_in_front first xs ys i none l =
      ap (λ t. (i, column_after mode (Some stops) first t)) (take-append-le i xs ys l)
      ∙ ap (λ c. (i, c)) (column_plain first (take i xs) (λ j m e. none j (omega (arith, m, length-take i xs)) (sym (get_or-take i xs j 0 (omega (arith, m, length-take i xs))) ∙ e)))

  fronts : (first : ℕ) (xs ys : List ℕ) → NoTabs xs → (at : ℕ) (ps : List (List ℕ)) → at + length (concat ps) ≤ length xs
      → map (measure (Some stops) first (xs ++ ys)) (ends_of at ps) ≡ map (measure None first xs) (ends_of at ps)
  unfolding with_offsets
  fronts first xs ys none at [] l = refl
  fronts first xs ys none at (p ∷ ps) l =
      ap₂ (λ x more. x ∷ more)
      (measure_in_front first xs ys (at + length p) none (omega (arith, l, length-append p (concat ps))))
      (fronts first xs ys none (at + length p) ps (omega (arith, l, length-append p (concat ps))))

  -- a boundary behind a tab
  backs : (first : ℕ) (xs ys : List ℕ) → NoTabs xs → (is : List ℕ)
      → map (measure (Some stops) first (xs ++ 9 ∷ ys)) (map (λ e. length xs + 1 + e) is) ≡ map (shift (length xs + 1)) (map (measure (Some stops) (tab_end stops (first + width_of mode xs)) ys) is)
  backs first xs ys none [] = refl
  backs first xs ys none (i ∷ is) =
      ap₂ (λ x more. x ∷ more)
      (let further : length xs + 1 + i ≡ length xs + suc i = omega arith in
      ap (λ t. (length xs + 1 + i, column_after mode (Some stops) first t)) (ap (λ j. take j (xs ++ 9 ∷ ys)) further ∙ take-append-add xs (9 ∷ ys) (suc i))
      ∙ ap (λ c. (length xs + 1 + i, c)) (column_past first xs (take i ys) none))
      (backs first xs ys none is)

  whole_of : (xs : List ℕ) → IsUtf8 xs → length (concat (graphemes true xs)) ≡ length xs
  whole_of xs u = ap length (concat-segments (is_grapheme_break true) xs u)

  boundaries_plain : (first : ℕ) (row : List ℕ) → IsUtf8 row → NoTabs row → boundary_columns mode (Some stops) first row ≡ boundary_columns mode None first row
  boundaries_plain first row u none =
      ap (λ t. map (measure (Some stops) first t) (0 ∷ cluster_ends row)) (sym (append-nil row))
      ∙ ap₂ (λ x more. x ∷ more) (measure_in_front first row [] 0 none (omega arith)) (fronts first row [] none 0 (graphemes true row) (omega (arith, whole_of row u)))

  boundaries_past : (first : ℕ) (xs ys : List ℕ) → IsUtf8 xs → IsUtf8 ys → NoTabs xs
      → boundary_columns mode (Some stops) first (xs ++ 9 ∷ ys)
      ≡ boundary_columns mode None first xs ++ map (shift (length xs + 1)) (boundary_columns mode (Some stops) (tab_end stops (first + width_of mode xs)) ys)
  unfolding with_offsets
  boundaries_past first xs ys u v none =
      ap (λ cs. map at (0 ∷ map (λ (x : ℕ × List ℕ). x.0 + length x.1) cs)) (clusters-tab xs ys u v)
      ∙ ap (λ es. map at (0 ∷ es)) (map-append (λ (x : ℕ × List ℕ). x.0 + length x.1) (clusters xs) ((length xs, 9 ∷ []) ∷ with_offsets n (graphemes true ys)))
      ∙ map-append at (0 ∷ cluster_ends xs) (n ∷ ends_of n (graphemes true ys))
      ∙ ap₂ ◌++◌
      (ap₂ (λ x more. x ∷ more) (measure_in_front first xs (9 ∷ ys) 0 none (omega arith)) (fronts first xs (9 ∷ ys) none 0 (graphemes true xs) (omega (arith, whole_of xs u))))
      (ap (map at) (ap₂ (λ e es. e ∷ es) zero (ap (λ k. ends_of k (graphemes true ys)) zero ∙ ends_shift n 0 (graphemes true ys))) ∙ backs first xs ys none (0 ∷ cluster_ends ys))
    where
      n : ℕ
      n = length xs + 1

      at : ℕ → ℕ × ℕ
      at = measure (Some stops) first (xs ++ 9 ∷ ys)

      zero : n ≡ n + 0
      zero = omega arith

  -- ---- the last boundary whose column is at most the given one

  abbrev fits : ℕ → ℕ × ℕ → Bool
  fits column x = nat_le x.1 column

  abbrev place_of : Option (ℕ × ℕ) → ℕ
  place_of o = unwrap_or (option_map (λ x. x.0) o) 0

  filter_shift : (column n : ℕ) (xs : List (ℕ × ℕ)) → filter (fits column) (map (shift n) xs) ≡ map (shift n) (filter (fits column) xs)
  filter_shift column n [] = refl
  filter_shift column n (x ∷ xs) =
      let rest = filter_shift column n xs in
      ⊎_elim (λ (t : fits column x ≡ true). rw t (ap (λ ys. shift n x ∷ ys) rest)) (λ (t : fits column x ≡ false). rw t rest) (cases_Bool (fits column x))

  place_shift : (n : ℕ) (z : ℕ × ℕ) (zs : List (ℕ × ℕ)) → place_of (option_map (shift n) (last_or (Some z) zs)) ≡ n + place_of (last_or (Some z) zs)
  place_shift n z [] = refl
  place_shift n z (y ∷ zs) = place_shift n y zs

  -- each boundary of a row that begins past the column is past it
  none_fit : (first column : ℕ) (row : List ℕ) → column < first → (is : List ℕ) → filter (fits column) (map (measure (Some stops) first row) is) ≡ []
  none_fit first column row past [] = refl
  none_fit first column row past (i ∷ is) =
      rw (lt-leb (column_after mode (Some stops) first (take i row)) column (omega (arith, past, parts_grow first (slice_split is_tab (take i row)))))
      (none_fit first column row past is)

  module _ (first column : ℕ) (xs ys : List ℕ) (u : IsUtf8 xs) (v : IsUtf8 ys) (none : NoTabs xs) where
    abbrev next : ℕ
    next = tab_end stops (first + width_of mode xs)

    abbrev n : ℕ
    n = length xs + 1

    front : List (ℕ × ℕ)
    front = filter (fits column) (boundary_columns mode None first xs)

    back : List (ℕ × ℕ)
    back = filter (fits column) (boundary_columns mode (Some stops) next ys)

    place_in_two : place_at_column mode (Some stops) first column (xs ++ 9 ∷ ys) ≡ place_of (last_or (last_or None front) (map (shift n) back))
    unfolding place_at_column front back
    place_in_two =
        ap (λ bs. place_of (last_or None (filter (fits column) bs))) (boundaries_past first xs ys u v none)
        ∙ ap (λ bs. place_of (last_or None bs)) (filter-append (fits column) (boundary_columns mode None first xs) (map (shift n) (boundary_columns mode (Some stops) next ys))
        ∙ ap (λ bs. front ++ bs) (filter_shift column n (boundary_columns mode (Some stops) next ys)))
        ∙ ap place_of (last_or-append None front (map (shift n) back))

    place_hit : column < next → place_at_column mode (Some stops) first column (xs ++ 9 ∷ ys) ≡ place_at_column mode None first column xs
    unfolding place_at_column front back
    place_hit past = place_in_two ∙ ap (λ bs. place_of (last_or (last_or None front) (map (shift n) bs))) (none_fit next column ys past (0 ∷ cluster_ends ys))

    place_past : next ≤ column → place_at_column mode (Some stops) first column (xs ++ 9 ∷ ys) ≡ n + place_at_column mode (Some stops) next column ys
    unfolding place_at_column front back
    place_past low =
        place_in_two
        ∙ ap (λ bs. place_of (last_or (last_or None front) (map (shift n) bs))) starts
        ∙ ap place_of (sym (option_map-last_or (shift n) (Some start) rest))
        ∙ place_shift n start rest
        ∙ ap (λ bs. n + place_of (last_or None bs)) (sym starts)
      where
        start : ℕ × ℕ
        start = measure (Some stops) next ys 0

        rest : List (ℕ × ℕ)
        rest = filter (fits column) (map (measure (Some stops) next ys) (cluster_ends ys))

        here : column_after mode (Some stops) next (take 0 ys) ≤ column
        here = omega (arith, no_width mode, low)

        starts : filter (fits column) (boundary_columns mode (Some stops) next ys) ≡ start ∷ rest
        starts = ap (λ b. cond b (start ∷ rest) rest) (le-leb (column_after mode (Some stops) next (take 0 ys)) column here)

  -- ---- the walk from tab to tab

  module _ (text : List ℕ) (start col : ℕ) (w : WalksTabs text start col) (u : IsUtf8 text) (rest : List ℕ) (is : rest ≡ drop start text) (k : ℕ) (h : FirstTab rest k) where
    pub place_before_tab : (column : ℕ) → column < past col rest k → place_at_column mode (Some stops) col column rest ≡ place_at_column mode None col column (take k rest)
    place_before_tab column l =
        ap (place_at_column mode (Some stops) col column) (cut_at rest k h)
        ∙ place_hit col column (take k rest) (drop (k + 1) rest) (IsUtf8-take rest k (rest_is_text text start col w u rest is k h) (before_tab rest k h)) (IsUtf8-drop rest (k + 1) (rest_is_text text start col w u rest is k h) (after_tab rest k (rest_is_text text start col w u rest is k h) h)) (none_before rest k h) l

    pub place_after_tab : (column : ℕ) → past col rest k ≤ column → start + place_at_column mode (Some stops) col column rest ≡ start + (k + 1) + place_at_column mode (Some stops) (past col rest k) column (drop (start + (k + 1)) text)
    place_after_tab column l =
        let here = ap (place_at_column mode (Some stops) col column) (cut_at rest k h)
        ∙ place_past col column (take k rest) (drop (k + 1) rest) (IsUtf8-take rest k (rest_is_text text start col w u rest is k h) (before_tab rest k h)) (IsUtf8-drop rest (k + 1) (rest_is_text text start col w u rest is k h) (after_tab rest k (rest_is_text text start col w u rest is k h) h)) (none_before rest k h) l in
        let size : length (take k rest) ≡ k = omega (arith, length-take k rest, h.0) in
        omega (arith, here, size, ap (place_at_column mode (Some stops) (past col rest k) column) (rest_goes_on text start col w u rest is k h))

  pub place_plain : (first column : ℕ) (row : List ℕ) → IsUtf8 row → NoTabs row → place_at_column mode (Some stops) first column row ≡ place_at_column mode None first column row
  unfolding place_at_column
  place_plain first column row u none = ap (λ bs. place_of (last_or None (filter (fits column) bs))) (boundaries_plain first row u none)
