-- What a movement names is a part of the text between characters: a fact of the definitions.
use Rattle.std.proofs.Common.{◌≡◌, ℕ, ◌+◌, ◌-◌, ◌<◌, ◌≤◌, ◌==◌, Bool, true, false, List, [], ◌∷◌, length, reverse, take, drop, get_or, Option, None, Some, refl, sym, ap, ◌∙◌, subst, inl, inr, arith, nat_lt, IsUtf8, IsCharBoundary, IfSome, All, option_map, unwrap_or, encode_utf8, eqb-true, if◌then◌else◌}
use Rattle.std.specs.List.{enumerate_from}
use Rattle.std.proofs.lemmas.Bool.Decides.{nat_tests}
use Rattle.std.proofs.lemmas.List.{length-drop, length-take-le, get_or-drop, get_or-take}
use Rattle.std.proofs.lemmas.List.Elements.{All-take, All-map, All-cons, All-drop, All-from_get_or}
use Rattle.std.proofs.lemmas.List.FromFn.{length-enumerate_from, get_or-enumerate_from}
use Rattle.std.proofs.lemmas.Str.{IsUtf8-take, IsUtf8-drop, IsCharBoundary-start, IsCharBoundary-end, IsCharBoundary-from_rest, IsCharBoundary-after_ascii, IsCharBoundary-before_ascii}
use Rattle.line_buffer.specs.declared.range.TextSpan.{TextSpan}
use Rattle.line_buffer.specs.declared.types.CharSearch.{CharSearch}
use Rattle.line_buffer.specs.declared.types.Direction.TheVariants.{Forward}
use Rattle.line_buffer.specs.declared.types.CharSearch.TheVariants.{Forward as Onto, ForwardBefore, Backward as BackOnto, BackwardAfter}
use Rattle.line_buffer.specs.declared.types.At.{At}
use Rattle.line_buffer.specs.declared.types.Word.{Word}
use Rattle.line_buffer.specs.declared.types.Movement.{Movement}
use Rattle.line_buffer.specs.declared.types.Movement.TheVariants.{WholeLine, BeginningOfLine, EndOfLine, BackwardWord, ForwardWord, ViCharSearch, ViFirstPrint, BackwardChar, ForwardChar, LineUp, LineDown, WholeBuffer, BeginningOfBuffer, EndOfBuffer}
use Rattle.line_buffer.specs.Clusters.{clusters, cluster_ends, nth_or_last, place_forward, place_backward, IsPart}
use Rattle.line_buffer.specs.Hits.{hit_forward, hit_backward, hits}
use Rattle.line_buffer.specs.Line.{Line, text_before, text_after, with_cursor_at, with_replacement}
use Rattle.line_buffer.specs.Event.{replacement, text_after_events}
use Rattle.line_buffer.specs.Transpositions.{between_clusters, clusters_at, transposes_chars, later_first, transpose_chars}
use Rattle.line_buffer.specs.Range.{deletion_events, deletion_line, kill_events, kill, IsSpanOf, up_to_cursor, from_cursor, around_cursor, to_row_end, from_row_start, search_range, range_of}
use Rattle.line_buffer.specs.Rows.{row_start, row_end, behind_newlines, row_starts, starts_above, starts_below, row_close}
use Rattle.line_buffer.specs.Words.{prev_word, next_word, stops_back, stops_forward}
use Rattle.line_buffer.proofs.ChainLemmas.{All-last_or, All-reverse, All-passing}
use Rattle.line_buffer.proofs.HitLemmas.{part-of_hit, part-of_hit_back}
use Rattle.line_buffer.proofs.PartLemmas.{All-IsPartAt, part_before, part_behind}
use Rattle.line_buffer.proofs.RangeLemmas.{after_row}
use Rattle.line_buffer.proofs.ReplayedLemmas.{replayed_all-none, replayed_all-one, replayed_replacement, deletion_replayed, kill_replayed}
use Rattle.line_buffer.proofs.RowLemmas.{prefix_len-stops, row_start-boundary, row_end-boundary}
use Rattle.line_buffer.proofs.StopLemmas.{All-stops_back, All-stops_forward, nth-boundary}
use Rattle.line_buffer.proofs.RowStartLemmas.{opens_from}

weaker : {A : Type 0} (P Q : A → Type 0) (o : Option A) → ((x : A) → P x → Q x) → IfSome o P → IfSome o Q
weaker P Q None f h = tt
weaker P Q (Some x) f h = f x h

mapped : {A B : Type 0} (f : A → B) (P : A → Type 0) (Q : B → Type 0) (o : Option A) → ((x : A) → P x → Q (f x)) → IfSome o P → IfSome (option_map f o) Q
mapped f P Q None g h = tt
mapped f P Q (Some x) g h = g x h

-- a place between characters before the cursor, or after it
abbrev pub IsEarlier : Line → ℕ → Type 0
IsEarlier l i = IsCharBoundary l.text i × (i ≤ l.place)

abbrev pub IsLater : Line → ℕ → Type 0
IsLater l i = IsCharBoundary l.text i × (l.place ≤ i)

module _ (l : Line) (u : IsUtf8 l.text) (b : IsCharBoundary l.text l.place) where
  earlier : (i : ℕ) → IsCharBoundary (text_before l) i → IsEarlier l i
  earlier i h =
      let p = part_before l.text l.place i 0 b (record { start = h; end = subst (IsCharBoundary (text_before l)) (let k : i ≡ i + 0 = omega arith in k) h }) in
      (p.0.start, omega (arith, p.1))

  later : (i : ℕ) → IsCharBoundary (text_after l) i → IsLater l (l.place + i)
  later i h = (IsCharBoundary-from_rest l.text l.place i b.0 h, omega arith)

  pub prev_word-earlier : (word : Word) (n : ℕ) → IfSome (prev_word word n l) (IsEarlier l)
  prev_word-earlier word n =
      weaker (IsCharBoundary (text_before l)) (IsEarlier l) (prev_word word n l) earlier
      (nth-boundary (text_before l) n (stops_back word (text_before l)) (prev_word word n l) (All-stops_back word (text_before l) (IsUtf8-take l.text l.place u b)) refl)

  pub next_word-later : (at : At) (word : Word) (n : ℕ) → IfSome (next_word at word n l) (IsLater l)
  next_word-later at word n =
      let stops = stops_forward at word (text_after l) in
      mapped (λ i. l.place + i) (IsCharBoundary (text_after l)) (IsLater l) (nth_or_last n stops) later
      (nth-boundary (text_after l) n stops (nth_or_last n stops) (All-stops_forward at word (text_after l) (IsUtf8-drop l.text l.place u b)) refl)

  pub place_backward-earlier : (n : ℕ) → IfSome (place_backward n l) (IsEarlier l)
  place_backward-earlier n =
      weaker (IsCharBoundary (text_before l)) (IsEarlier l) (place_backward n l) earlier
      (All-last_or (IsCharBoundary (text_before l)) _ (All-take (IsCharBoundary (text_before l)) n _
      (All-map (IsCharBoundary (text_before l)) (λ x. x.0) (reverse (clusters (text_before l)))
      (All-reverse (λ x. IsCharBoundary (text_before l) x.0) (clusters (text_before l)) (λ k d h. (All-IsPartAt (text_before l) (IsUtf8-take l.text l.place u b) k d h).start)))))

  pub place_forward-later : (n : ℕ) → IfSome (place_forward n l) (IsLater l)
  place_forward-later n =
      mapped (λ e. l.place + e) (IsCharBoundary (text_after l)) (IsLater l) (nth_or_last n (cluster_ends (text_after l))) later
      (All-last_or (IsCharBoundary (text_after l)) (take n (cluster_ends (text_after l))) (All-take (IsCharBoundary (text_after l)) n (cluster_ends (text_after l))
      (All-map (IsCharBoundary (text_after l)) (λ x. x.0 + length x.1) (clusters (text_after l)) (λ k d h. (All-IsPartAt (text_after l) (IsUtf8-drop l.text l.place u b) k d h).end))))

  back_span : (o : Option ℕ) → IfSome o (IsEarlier l) → IfSome (option_map (λ i. up_to_cursor i l) o) (IsSpanOf l.text)
  back_span o h = mapped (λ i. up_to_cursor i l) (IsEarlier l) (IsSpanOf l.text) o (λ i e. record { order = e.1; start = e.0; end = b }) h

  on_span : (o : Option ℕ) → IfSome o (IsLater l) → IfSome (option_map (λ i. from_cursor i l) o) (IsSpanOf l.text)
  on_span o h = mapped (λ i. from_cursor i l) (IsLater l) (IsSpanOf l.text) o (λ i e. record { order = e.1; start = b; end = e.0 }) h

  moved_on : (o : Option ℕ) → IfSome o (IsLater l) → IsLater l (unwrap_or o l.place)
  moved_on None h = (b, omega arith)
  moved_on (Some i) h = h

  past-later : IsLater l (unwrap_or (place_forward 1 l) l.place)
  past-later = moved_on (place_forward 1 l) (place_forward-later 1)

  abbrev IsHitAt : ℕ → ℕ → Type 0
  IsHitAt c i = IsPart l.text i (length (encode_utf8 c))

  hit_forward-part : (c n : ℕ) → IfSome (hit_forward c n l) (λ i. IsHitAt c i × (l.place ≤ i))
  hit_forward-part c n =
      let past : ℕ = unwrap_or (place_forward 1 l) l.place in
      let found = nth_or_last n (hits c (drop past l.text)) in
      mapped (λ i. past + i) (λ i. IsPart (drop past l.text) i (length (encode_utf8 c))) (λ i. IsHitAt c i × (l.place ≤ i)) found
      (λ i h. (part_behind l.text past i (length (encode_utf8 c)) past-later.0.0 h, omega (arith, past-later.1)))
      (part-of_hit c (drop past l.text) n found (IsUtf8-drop l.text past u past-later.0) refl)

  hit_backward-part : (c n : ℕ) → IfSome (hit_backward c n l) (λ i. IsHitAt c i × (i + length (encode_utf8 c) ≤ l.place))
  hit_backward-part c n =
      weaker (λ i. IsPart (text_before l) i (length (encode_utf8 c))) (λ i. IsHitAt c i × (i + length (encode_utf8 c) ≤ l.place)) (hit_backward c n l)
      (λ i h. part_before l.text l.place i (length (encode_utf8 c)) b h)
      (part-of_hit_back c (text_before l) n (hit_backward c n l) (IsUtf8-take l.text l.place u b) refl)

  search_spans : (n : ℕ) (to : CharSearch) → IfSome (search_range to n l) (IsSpanOf l.text)
  search_spans n (Onto c) =
      mapped (λ i. from_cursor (i + length (encode_utf8 c)) l) (λ i. IsHitAt c i × (l.place ≤ i)) (IsSpanOf l.text) (hit_forward c n l)
      (λ i h. record { order = omega (arith, h.1); start = b; end = h.0.end }) (hit_forward-part c n)
  search_spans n (ForwardBefore c) =
      mapped (λ i. from_cursor i l) (λ i. IsHitAt c i × (l.place ≤ i)) (IsSpanOf l.text) (hit_forward c n l)
      (λ i h. record { order = h.1; start = b; end = h.0.start }) (hit_forward-part c n)
  search_spans n (BackOnto c) =
      mapped (λ i. up_to_cursor i l) (λ i. IsHitAt c i × (i + length (encode_utf8 c) ≤ l.place)) (IsSpanOf l.text) (hit_backward c n l)
      (λ i h. record { order = omega (arith, h.1); start = h.0.start; end = b }) (hit_backward-part c n)
  search_spans n (BackwardAfter c) =
      mapped (λ i. up_to_cursor (i + length (encode_utf8 c)) l) (λ i. IsHitAt c i × (i + length (encode_utf8 c) ≤ l.place)) (IsSpanOf l.text) (hit_backward c n l)
      (λ i h. record { order = h.1; start = h.0.end; end = b }) (hit_backward-part c n)

  -- from a place of the cursor's row to its end, or over the newline there
  to_row_end-spans : (from : ℕ) → IsCharBoundary l.text from → from ≤ l.place → IfSome (to_row_end from l) (IsSpanOf l.text)
  to_row_end-spans from start early = by_tests (nat_lt from (row_end l.text l.place)) (nat_lt (row_end l.text l.place) (length l.text)) refl
    where
      by_tests : (x y : Bool) → nat_lt (row_end l.text l.place) (length l.text) ≡ y
          → IfSome (if x then Some (record { from = from; upto = row_end l.text l.place; direction = Forward }) else (if y then Some (record { from = from; upto = row_end l.text l.place + 1; direction = Forward }) else None)) (IsSpanOf l.text)
      by_tests true y e = record { order = omega (arith, early); start = start; end = row_end-boundary l.text l.place b }
      by_tests false true e = record { order = omega (arith, early); start = start; end = after_row l.text l.place (row_end l.text l.place) refl u b.0 (grind (arith, nat_tests, e)) }
      by_tests false false e = tt

  -- at a row's start there is a newline before the cursor, or nothing
  newline_before : l.place ≤ row_start l.text l.place → 0 < l.place → IsCharBoundary l.text (l.place - 1)
  newline_before at_start some =
      let first : row_start l.text l.place ≡ l.place = omega (arith, at_start) in
      let last = opens_from (text_before l) l.place (omega (arith, first, length-take-le l.place l.text b.0)) in
      IsCharBoundary-before_ascii l.text (l.place - 1) (omega (arith, some, b.0))
      (omega (arith, sym (get_or-take l.place l.text (l.place - 1) 0 (omega (arith, some))) ∙ last.newline some))

  from_row_start-spans : IfSome (from_row_start l) (IsSpanOf l.text)
  from_row_start-spans = by_tests (nat_lt (row_start l.text l.place) l.place) (nat_lt 0 l.place) refl refl
    where
      by_tests : (x y : Bool) → nat_lt (row_start l.text l.place) l.place ≡ x → nat_lt 0 l.place ≡ y
          → IfSome (if x then Some (up_to_cursor (row_start l.text l.place) l) else (if y then Some (up_to_cursor (l.place - 1) l) else None)) (IsSpanOf l.text)
      by_tests true y e f = record { order = omega arith; start = row_start-boundary l.text l.place u b; end = b }
      by_tests false true e f = record { order = omega arith; start = newline_before (grind (arith, nat_tests, e)) (grind (arith, nat_tests, f)); end = b }
      by_tests false false e f = tt

  row_close-boundary : (at : ℕ) → IsCharBoundary l.text at → IsCharBoundary l.text (row_close l.text at)
  row_close-boundary at h = elim (prefix_len-stops (drop at l.text)) [
    | inl e ↦ subst (IsCharBoundary l.text) (let k : length l.text ≡ row_close l.text at = omega (arith, e, length-drop at l.text, h.0) in k) (IsCharBoundary-end l.text)
    | inr e ↦
        subst (IsCharBoundary l.text) (let k : row_end l.text at + 1 ≡ row_close l.text at = omega (arith, e.0, length-drop at l.text, h.0) in k)
        (after_row l.text at (row_end l.text at) refl u h.0 (omega (arith, e.0, length-drop at l.text)))
  ]

  -- after each newline of what follows on a place
  All-behind : (from : ℕ) (bs : List ℕ) → from ≤ length l.text → drop from l.text ≡ bs → All (λ i. IsCharBoundary l.text i × (from ≤ i)) (behind_newlines from bs)
  unfolding behind_newlines
  All-behind from bs le e =
      All-passing (λ i. IsCharBoundary l.text i × (from ≤ i)) (λ x. x.0 + 1) (λ x. x.1 == 10) (enumerate_from from bs)
      (All-from_get_or (λ x. (x.1 == 10) ≡ true → IsCharBoundary l.text (x.0 + 1) × (from ≤ x.0 + 1)) (enumerate_from from bs) (0, 0) (λ k h.
      let low : k < length bs = omega (arith, h, length-enumerate_from from bs) in
      subst (λ (x : ℕ × ℕ). (x.1 == 10) ≡ true → IsCharBoundary l.text (x.0 + 1) × (from ≤ x.0 + 1)) (sym (get_or-enumerate_from from bs k (0, 0) low)) (λ t. (
        IsCharBoundary-after_ascii l.text (from + k) u (omega (arith, low, ap length e, length-drop from l.text))
            (omega (arith, sym (get_or-drop from l.text k 0) ∙ ap (λ xs. get_or xs k 0) e ∙ eqb-true _ 10 t)),
        omega arith,
      ))))

module _ (l : Line) (u : IsUtf8 l.text) (b : IsCharBoundary l.text l.place) where
  All-starts_above : All (IsEarlier l) (starts_above l)
  All-starts_above =
      All-drop (IsEarlier l) 1 (reverse (row_starts (text_before l))) (All-reverse (IsEarlier l) (row_starts (text_before l))
      (All-cons (IsEarlier l) 0 (behind_newlines 0 (text_before l)) (IsCharBoundary-start l.text u, omega arith)
      (λ k d h. earlier l u b _ (All-behind (record l { text = text_before l; place = 0 }) (IsUtf8-take l.text l.place u b) (IsCharBoundary-start (text_before l) (IsUtf8-take l.text l.place u b)) 0 (text_before l) (omega arith) refl k d h).0)))

  around_span : (from upto : ℕ) → from ≤ upto → IsCharBoundary l.text from → IsCharBoundary l.text upto → IsSpanOf l.text (around_cursor from upto l)
  around_span from upto o s e = record { order = o; start = s; end = e }

  -- a range of rows, found by a row's start
  rows_span : (P : ℕ → Type 0) (f : ℕ → ℕ × ℕ) (o : Option ℕ) → ((i : ℕ) → P i → IsSpanOf l.text (around_cursor (f i).0 (f i).1 l)) → IfSome o P
      → IfSome (option_map (λ (r : ℕ × ℕ). around_cursor r.0 r.1 l) (option_map f o)) (IsSpanOf l.text)
  rows_span P f None g h = tt
  rows_span P f (Some i) g h = g i h

  line_up-spans : (n : ℕ) → IfSome (range_of (LineUp n) l) (IsSpanOf l.text)
  line_up-spans n =
      rows_span (IsEarlier l) (λ start. (start, row_close l.text l.place)) (nth_or_last n (starts_above l))
      (λ start h. around_span start (row_close l.text l.place) (omega (arith, h.1, b.0)) h.0 (row_close-boundary l u b l.place b))
      (All-last_or (IsEarlier l) (take n (starts_above l)) (All-take (IsEarlier l) n (starts_above l) All-starts_above))

  line_down-spans : (n : ℕ) → IfSome (range_of (LineDown n) l) (IsSpanOf l.text)
  line_down-spans n =
      rows_span (IsLater l) (λ start. (row_start l.text l.place, row_close l.text start)) (nth_or_last n (starts_below l))
      (λ start h. around_span (row_start l.text l.place) (row_close l.text start) (omega (arith, h.1, h.0.0))
      (row_start-boundary l.text l.place u b) (row_close-boundary l u b start h.0))
      (All-last_or (IsLater l) (take n (starts_below l)) (All-take (IsLater l) n (starts_below l) (All-behind l u b l.place (text_after l) b.0 refl)))

  -- a part of a text as a whole, if there is a text
  unless_empty : (t : Bool) (span : TextSpan) → IsSpanOf l.text span → IfSome (if t then None else Some span) (IsSpanOf l.text)
  unless_empty true span h = tt
  unless_empty false span h = h

  pub range_spans : (movement : Movement) → IfSome (range_of movement l) (IsSpanOf l.text)
  range_spans WholeLine = to_row_end-spans l u b (row_start l.text l.place) (row_start-boundary l.text l.place u b) (omega arith)
  range_spans BeginningOfLine = from_row_start-spans l u b
  range_spans EndOfLine = to_row_end-spans l u b l.place b (omega arith)
  range_spans (BackwardWord n word) = back_span l u b (prev_word word n l) (prev_word-earlier l u b word n)
  range_spans (ForwardWord n at word) = on_span l u b (next_word at word n l) (next_word-later l u b at word n)
  range_spans (ViCharSearch n to) = search_spans l u b n to
  range_spans ViFirstPrint = tt
  range_spans (BackwardChar n) = back_span l u b (place_backward n l) (place_backward-earlier l u b n)
  range_spans (ForwardChar n) = on_span l u b (place_forward n l) (place_forward-later l u b n)
  range_spans (LineUp n) = line_up-spans n
  range_spans (LineDown n) = line_down-spans n
  range_spans WholeBuffer = unless_empty (length l.text == 0) _ (around_span 0 (length l.text) (omega arith) (IsCharBoundary-start l.text u) (IsCharBoundary-end l.text))
  range_spans BeginningOfBuffer = unless_empty (l.place == 0) _ (record { order = omega arith; start = IsCharBoundary-start l.text u; end = b })
  range_spans EndOfBuffer = unless_empty (l.place == length l.text) _ (record { order = b.0; start = b; end = IsCharBoundary-end l.text })

  -- what the kills, and the deletions that aren't kills, tell leads to the text that they leave
  pub kill_replays : (movement : Movement) → text_after_events (kill_events movement l) l.text ≡ (kill movement l).line.text
  kill_replays movement = kill_replayed movement l (range_spans movement)

  pub deletion_replays : (movement : Movement) → text_after_events (deletion_events (range_of movement l) l) l.text ≡ (deletion_line (range_of movement l) l).text
  deletion_replays movement = deletion_replayed (range_of movement l) l (range_spans movement)

  moved_back : (o : Option ℕ) → IfSome o (IsEarlier l) → IsEarlier l (with_cursor_at o l).place
  moved_back None h = (b, omega arith)
  moved_back (Some i) h = h

  -- the places of the clusters at the cursor, in their order
  pub clusters_span : ((clusters_at l).0 ≤ (clusters_at l).2) × ((clusters_at l).2 ≤ length l.text)
  clusters_span =
      let first = moved_back (place_backward 1 l) (place_backward-earlier l u b 1) in
      let last = past-later l u b in
      (omega (arith, first.1, last.1), last.0.0)

module _ (l : Line) (u : IsUtf8 l.text) (b : IsCharBoundary l.text l.place) where
  between_span : (t : Bool) → let m : Line = if t then with_cursor_at (place_backward 1 l) l else l in ((clusters_at m).0 ≤ (clusters_at m).2) × ((clusters_at m).2 ≤ length l.text)
  between_span true =
      let m : Line = with_cursor_at (place_backward 1 l) l in
      let s = clusters_span m u (moved_back l u b (place_backward 1 l) (place_backward-earlier l u b 1)).0 in
      s
  between_span false = clusters_span l u b

  pub transpose_chars_replays : text_after_events (transpose_chars l).events l.text ≡ (transpose_chars l).line.text
  transpose_chars_replays = by_test (transposes_chars l)
    where
      by_test : (t : Bool) → text_after_events (if t then replacement (clusters_at (between_clusters l)).0 (clusters_at (between_clusters l)).2 (later_first (clusters_at (between_clusters l)) l.text) l.text ∷ [] else []) l.text
          ≡ (if t then with_replacement (clusters_at (between_clusters l)).0 (clusters_at (between_clusters l)).2 (later_first (clusters_at (between_clusters l)) l.text) l else l).text
      by_test true =
          let s = between_span (l.place == length l.text) in
          replayed_all-one _ l.text ∙ replayed_replacement l.text _ _ _ s.0 s.1
      by_test false = replayed_all-none l.text
