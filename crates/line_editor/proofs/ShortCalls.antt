-- The calls of each short drawing, and of a move.
use Rattle.std.proofs.Common.{ℕ, List}
use Rattle.std.specs.Prelude.{encode_utf8}
use Rattle.line_buffer.specs.declared.layout.Layout.{Layout}
use Rattle.line_buffer.specs.declared.layout.Position.{Position}
use Rattle.line_editor.specs.RenderCalls.{Ruler}
use Rattle.line_editor.specs.RenderCalls.Call.{Move, Write, InsertChar, MoveAndDelete, Append, WriteOver}
use Rattle.line_editor.specs.Redraws.{RedrawCalls, one_call, column_on, column_back, cell_on}

abbrev pub move_call : Layout → Position → RedrawCalls
move_call l cursor = one_call (Move l.cursor cursor) (record l { cursor = cursor })

-- the character's byte alone
abbrev pub char_call : Layout → ℕ → RedrawCalls
char_call l c =
    let end = column_on l.cursor in
    one_call (Write (encode_utf8 c)) (record l { cursor = end; end = end })

-- the character's own drawing
abbrev pub append_call : Ruler → Layout → ℕ → RedrawCalls
append_call r l c =
    let end = r.measure (encode_utf8 c) l.cursor in
    one_call (Append (encode_utf8 c) l.cursor) (record l { cursor = end; end = end })

-- the characters after the cursor moved by a cell, and one put there
abbrev pub put_in_short : Ruler → Layout → ℕ → List ℕ → RedrawCalls
put_in_short r l c rest =
    let cursor = cell_on r.columns l.cursor in
    let end = cell_on r.columns l.end in
    one_call (InsertChar c rest l.cursor cursor end) (record l { cursor = cursor; end = end })

-- the cursor moved, and the characters' cells taken out before the others
abbrev pub taken_out_short : Layout → Position → ℕ → List ℕ → RedrawCalls
taken_out_short l at count rest =
    let end = column_back count l.end in
    one_call (MoveAndDelete l.cursor at count rest end) (record l { cursor = at; end = end })

-- letters written from a cell on, and the cursor moved to its place
abbrev pub write_over_call : Layout → List ℕ → Position → Position → RedrawCalls
write_over_call l letters at cursor =
    one_call (WriteOver letters l.cursor at cursor) (record l { cursor = cursor })
