-- The extended grapheme clusters of a text (UAX #29), and where motions by clusters lead.
use Rattle.std.specs.Prelude.{ℕ, ◌+◌, true, IsCharBoundary, List, length, map, reverse, take, Option, None, option_map}
use Rattle.std.specs.List.{last_or}
use Rattle.unicode_segmentation.specs.Grapheme.{graphemes}
use Rattle.unicode_segmentation.specs.Segments.{with_offsets}
use Rattle.line_buffer.specs.Line.{Line, text_before, text_after}

-- each cluster with the place of its first byte
abbrev pub clusters : List ℕ → List (ℕ × List ℕ)
clusters text = with_offsets 0 (graphemes true text)

abbrev pub cluster_ends : List ℕ → List ℕ
cluster_ends text = map (λ x. x.0 + length x.1) (clusters text)

-- the n-th, the last if there are fewer, none if n is 0 or the list is empty
abbrev pub nth_or_last : ℕ → List ℕ → Option ℕ
nth_or_last n places = last_or None (take n places)

-- after the n-th cluster after the cursor
abbrev pub place_forward : ℕ → Line → Option ℕ
place_forward n l = option_map (λ e. l.place + e) (nth_or_last n (cluster_ends (text_after l)))

-- before the n-th cluster before the cursor
abbrev pub place_backward : ℕ → Line → Option ℕ
place_backward n l = nth_or_last n (map (λ x. x.0) (reverse (clusters (text_before l))))

-- a part of a text between character boundaries
pub record IsPart (text : List ℕ) (at len : ℕ) : Type 0 where
  pub start : IsCharBoundary text at
  pub end : IsCharBoundary text (at + len)
