-- The drawings of an effect, and the calls that they need on a display, with the layout to store.
use Rattle.std.specs.Prelude.{ℕ, ◌+◌, ◌-◌, ◌==◌, ◌&&◌, not, nat_lt, nat_le, Bool, true, false, if◌then◌else◌, List, [], ◌∷◌, ◌++◌, take, drop, length, slice_range, Option, Some, None, is_some, encode_utf8}
use Rattle.std.specs.List.{list_all}
use Rattle.line_buffer.specs.Cells.{same_cell, origin}
use Rattle.line_buffer.specs.Printable.{is_printable}
use Rattle.line_buffer.specs.declared.layout.GraphemeClusterMode.{GraphemeClusterMode}
use Rattle.line_buffer.specs.declared.layout.Layout.{Layout}
use Rattle.line_buffer.specs.declared.layout.Position.{Position}
use Rattle.line_editor.specs.RenderCalls.{Call, Marks, Ruler}
use Rattle.line_editor.specs.RenderCalls.Call.{Draw, Move, Write, Beep, ClearScreen, MoveAndClearToEol, InsertChar, MoveAndDelete, Append, DrawRest, WriteOver}

-- a redraw doesn't depend on columns
pub data Redraw : Type 0 where
  -- drawn in full; `given`: the prompt is the session's own
  Drawn : (prompt : List ℕ) (given : Bool) (text : List ℕ) (place : ℕ) (info : Option (List ℕ))
      → Redraw
  -- the cursor moved to a place of the shown text
  Moved : (text : List ℕ) (place : ℕ) → Redraw
  -- a printable character typed at the end of a plain line, with no information before or after it
  Typed : (prompt : List ℕ) (c : ℕ) (text : List ℕ) (place : ℕ) → Redraw
  -- a character typed at the end of a line, apart from it, with no information before or after it
  Appended : (prompt : List ℕ) (c : ℕ) (text : List ℕ) (place : ℕ) → Redraw
  -- `count` printable characters deleted at the end of a plain line, with no information after it.
  -- `partial`: the line may be drawn in part, as in all that follow
  Taken : (prompt : List ℕ) (count : ℕ) (partial : Bool) (text : List ℕ) (place : ℕ) → Redraw
  -- a character apart from a line deleted at its end, with no information after it
  Erased : (prompt : List ℕ) (c : ℕ) (text : List ℕ) (place : ℕ) → Redraw
  -- a printable character put into a plain line, with no information before or after it
  PutIn : (prompt : List ℕ) (c : ℕ) (text : List ℕ) (place : ℕ) → Redraw
  -- `count` printable characters of a plain line deleted, with no information before or after that
  TakenOut : (prompt : List ℕ) (count : ℕ) (text : List ℕ) (place : ℕ) → Redraw
  -- drawn from a place on, before which the line is as it was drawn, with its styles
  DrawnFrom : (prompt : List ℕ) (from : ℕ) (text : List ℕ) (place : ℕ) (info : Option (List ℕ))
      → Redraw
  -- the printable characters of a plain line from one place up to another replaced by as many, with
  -- no information before or after that
  Rewritten : (prompt : List ℕ) (from upto : ℕ) (text : List ℕ) (place : ℕ) → Redraw
  -- redrawn, without hint and message, only if another prompt than the session's own is shown
  Bared : (prompt : List ℕ) (text : List ℕ) (place : ℕ) → Redraw
  -- the cursor moved to the drawing's end
  ToEnd : Redraw
  Beeped Cleared : Redraw

-- calls in order, and the layout after them
pub record RedrawCalls : Type 0 where
  pub calls : List Call
  pub layout : Layout

abbrev pub nothing_asked : Layout → RedrawCalls
nothing_asked l = record { calls = []; layout = l }

abbrev pub one_call : Call → Layout → RedrawCalls
one_call call l = record { calls = call ∷ []; layout = l }

abbrev pub info_text : Option (List ℕ) → List ℕ
info_text None = []
info_text (Some text) = text

-- before anything is drawn
abbrev pub fresh : GraphemeClusterMode → Layout
fresh mode = record {
  grapheme_cluster_mode = mode;
  prompt_size = origin;
  default_prompt = false;
  cursor = origin;
  end = origin;
  has_info = false;
  tab_stops = None;
}

-- the end is measured for the whole line
abbrev pub layout_of : Ruler → Position → Bool → List ℕ → ℕ → Option (List ℕ) → Layout
layout_of r start given text place info = record {
  grapheme_cluster_mode = r.mode;
  prompt_size = start;
  default_prompt = given;
  cursor = r.measure (take place text) start;
  end = r.measure (info_text info) (r.measure text start);
  has_info = is_some info;
  tab_stops = r.tabs;
}

-- highlighted by these marks, if there are any
abbrev pub full : Ruler → Option Marks → Layout → List ℕ → Bool → List ℕ → ℕ → Option (List ℕ)
    → RedrawCalls
full r marks l prompt given text place info =
    let new = layout_of r (r.measure prompt origin) given text place info in
    one_call (Draw prompt text place info (Some l) new marks) new

abbrev pub move_calls : Layout → Position → RedrawCalls
move_calls l cursor = if same_cell l.cursor cursor then nothing_asked l
    else one_call (Move l.cursor cursor) (record l { cursor = cursor })

abbrev pub column_on : Position → Position
column_on p = record { col = p.col + 1; row = p.row }

abbrev pub column_back : ℕ → Position → Position
column_back n p = record { col = p.col - n; row = p.row }

-- the rest of the row erased
abbrev pub erase_call : Layout → ℕ → RedrawCalls
erase_call l count =
    let end = column_back count l.end in
    one_call (MoveAndClearToEol l.cursor end) (record l { cursor = end; end = end })

-- a full row is left at once
abbrev pub cell_on : ℕ → Position → Position
cell_on columns p =
    if p.col + 1 == columns then record { col = 0; row = p.row + 1 } else column_on p

-- the rest of the line drawn anew, and the information after it
abbrev pub rest_call : Ruler → Option Marks → Layout → ℕ → List ℕ → ℕ → Option (List ℕ)
    → RedrawCalls
rest_call r marks l from text place info =
    let at = r.measure (take from text) l.prompt_size in
    let new = layout_of r l.prompt_size true text place info in
    one_call (DrawRest text from place info l.cursor at new marks) new

-- whether only the rest of the row can be erased, by the stored layout
abbrev pub may_take : Layout → ℕ → Bool
may_take l count = not l.has_info && ((l.cursor.row == l.end.row) && nat_le count l.end.col)

-- and whether a character's cells alone can be erased: the row of the drawing's end has more
-- columns before the end than the character takes
abbrev pub may_erase : Ruler → Layout → ℕ → Bool
may_erase r l c =
    let end = r.measure (encode_utf8 c) origin in
    not l.has_info && ((end.row == 0) && nat_lt end.col l.end.col)

-- and whether a character can be put before the rest of the line: printable characters, which
-- another row may hold
abbrev pub may_put_in : Ruler → Layout → List ℕ → Bool
may_put_in r l rest =
    not l.has_info && ((nat_lt l.cursor.col r.columns && nat_lt l.end.col r.columns)
    && (nat_le l.cursor.row l.end.row && (nat_lt l.end.row r.rows && list_all is_printable rest)))

-- and whether characters of one row can be taken out from a cell on, before printable ones: the
-- last row has as many
abbrev pub may_take_out : Ruler → Layout → Position → ℕ → List ℕ → Bool
may_take_out r l at count rest =
    not l.has_info && (nat_lt 0 count && (nat_le (at.col + count) r.columns
    && (nat_le count l.end.col && list_all is_printable rest)))

-- and whether so many letters can be written from a cell on: they don't fill its row
abbrev pub may_write_over : Ruler → Layout → Position → ℕ → Bool
may_write_over r l at count = not l.has_info && nat_lt (at.col + count) r.columns

abbrev pub calls_of_redraw : Ruler → Option Marks → Layout → Redraw → RedrawCalls
calls_of_redraw r marks l (Drawn prompt given text place info) =
    full r marks l prompt given text place info
calls_of_redraw r marks l (Moved text place) =
    move_calls l (r.measure (take place text) l.prompt_size)
calls_of_redraw r marks l (Typed prompt c text place) =
    let end = column_on l.cursor in
    if may_write_over r l l.cursor 1
    then one_call (Write (encode_utf8 c)) (record l { cursor = end; end = end })
    else full r marks l prompt true text place None
calls_of_redraw r marks l (Appended prompt c text place) =
    let end = r.measure (encode_utf8 c) l.cursor in
    if l.has_info then full r marks l prompt true text place None
    else one_call (Append (encode_utf8 c) l.cursor) (record l { cursor = end; end = end })
calls_of_redraw r marks l (Taken prompt count partial text place) =
    if may_take l count then erase_call l count
    else if partial then rest_call r marks l place text place None
    else full r marks l prompt true text place None
calls_of_redraw r marks l (Erased prompt c text place) =
    if may_erase r l c then erase_call l (r.measure (encode_utf8 c) origin).col
    else rest_call r marks l place text place None
calls_of_redraw r marks l (PutIn prompt c text place) =
    let rest = drop place text in
    let cursor = cell_on r.columns l.cursor in
    let end = cell_on r.columns l.end in
    if may_put_in r l rest
    then one_call (InsertChar c rest l.cursor cursor end) (record l { cursor = cursor; end = end })
    else full r marks l prompt true text place None
calls_of_redraw r marks l (TakenOut prompt count text place) =
    let at = r.measure (take place text) l.prompt_size in
    let rest = drop place text in
    let end = column_back count l.end in
    if may_take_out r l at count rest
    then one_call (MoveAndDelete l.cursor at count rest end) (record l { cursor = at; end = end })
    else rest_call r marks l place text place None
calls_of_redraw r marks l (DrawnFrom prompt from text place info) =
    rest_call r marks l from text place info
calls_of_redraw r marks l (Rewritten prompt from upto text place) =
    let at = r.measure (take from text) l.prompt_size in
    let letters = slice_range text from upto in
    let cursor = r.measure (take place text) l.prompt_size in
    if may_write_over r l at (length letters)
    then one_call (WriteOver letters l.cursor at cursor) (record l { cursor = cursor })
    else rest_call r marks l from text place None
calls_of_redraw r marks l (Bared prompt text place) =
    if l.default_prompt then nothing_asked l else full r marks l prompt true text place None
calls_of_redraw r marks l ToEnd = move_calls l l.end
calls_of_redraw r marks l Beeped = one_call Beep l
calls_of_redraw r marks l Cleared = one_call ClearScreen (fresh l.grapheme_cluster_mode)

abbrev pub then_asked : RedrawCalls → RedrawCalls → RedrawCalls
then_asked a b = record { calls = a.calls ++ b.calls; layout = b.layout }
