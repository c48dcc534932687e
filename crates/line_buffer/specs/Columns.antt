-- The places of a row by their columns, and the places to which motions up and down by rows lead.
-- These depend on the cluster mode, on where tabs end, and on the column at which the prompt ends.
use Rattle.std.specs.Prelude.{ℕ, ◌+◌, ◌==◌, nat_le, if◌then◌else◌, List, ◌∷◌, map, filter, take, slice_range, Option, None, option_map, unwrap_or}
use Rattle.std.specs.List.{last_or}
use Rattle.line_buffer.specs.declared.layout.GraphemeClusterMode.{GraphemeClusterMode}
use Rattle.line_buffer.specs.Line.{Line}
use Rattle.line_buffer.specs.Clusters.{cluster_ends, nth_or_last}
use Rattle.line_buffer.specs.Rows.{row_start, row_end, starts_above, starts_below}
use Rattle.line_buffer.specs.Width.{column_after}
use Rattle.line_buffer.specs.declared.layout.TabStops.{TabStops}

-- of the boundaries of the clusters of a row that begins at a column, each with its own column, the
-- last whose column is at most the given one; the row's start if there is none
unfoldable pub place_at_column : GraphemeClusterMode → Option TabStops → ℕ → ℕ → List ℕ → ℕ
place_at_column mode tabs first column row =
    let ends : List (ℕ × ℕ) =
    map (λ i. (i, column_after mode tabs first (take i row))) (0 ∷ cluster_ends row) in
    unwrap_or (option_map (λ x. x.0) (last_or None (filter (λ x. nat_le x.1 column) ends))) 0

-- the first row begins after the prompt, any other in the first column
abbrev pub first_column : ℕ → ℕ → ℕ
first_column prompt start = if start == 0 then prompt else 0

-- the column of the cursor
unfoldable pub cursor_column : GraphemeClusterMode → Option TabStops → ℕ → Line → ℕ
cursor_column mode tabs prompt l =
    let start = row_start l.text l.place in
    column_after mode tabs (first_column prompt start) (slice_range l.text start l.place)

-- at that column, in the row that starts at a place
unfoldable pub place_in_row : GraphemeClusterMode → Option TabStops → ℕ → Line → ℕ → ℕ
place_in_row mode tabs prompt l start =
    let column = cursor_column mode tabs prompt l in
    let row = slice_range l.text start (row_end l.text start) in
    start + place_at_column mode tabs (first_column prompt start) column row

-- in the n-th row above the cursor's row
unfoldable pub line_up : GraphemeClusterMode → Option TabStops → ℕ → ℕ → Line → Option ℕ
line_up mode tabs prompt n l =
    option_map (place_in_row mode tabs prompt l) (nth_or_last n (starts_above l))

-- in the n-th row below it
unfoldable pub line_down : GraphemeClusterMode → Option TabStops → ℕ → ℕ → Line → Option ℕ
line_down mode tabs prompt n l =
    option_map (place_in_row mode tabs prompt l) (nth_or_last n (starts_below l))
