use Rattle.line_editor.proofs.state.State.edit_move.Goals as goal

pub returns-in-BeginningOfLine : goal.returns-in-BeginningOfLine
returns-in-BeginningOfLine g c = record { does = rw c.in-BeginningOfLine.is c.edit_move_home.ensures.does }

pub returns-in-EndOfLine : goal.returns-in-EndOfLine
returns-in-EndOfLine g c = record { does = rw c.in-EndOfLine.is c.edit_move_end.ensures.does }

pub returns-in-BackwardWord : goal.returns-in-BackwardWord
returns-in-BackwardWord g c = record { does = rw c.in-BackwardWord.is c.edit_move_to_prev_word.ensures.does }

pub returns-in-ForwardWord : goal.returns-in-ForwardWord
returns-in-ForwardWord g c = record { does = rw c.in-ForwardWord.is c.edit_move_to_next_word.ensures.does }

pub returns-in-ViCharSearch : goal.returns-in-ViCharSearch
returns-in-ViCharSearch g c = record { does = rw c.in-ViCharSearch.is c.edit_move_to.ensures.does }

pub returns-in-ViFirstPrint : goal.returns-in-ViFirstPrint
returns-in-ViFirstPrint g c = record { does = rw c.in-ViFirstPrint.is c.edit_move_to_first_print.ensures.does }

pub returns-in-BackwardChar : goal.returns-in-BackwardChar
returns-in-BackwardChar g c = record { does = rw c.in-BackwardChar.is c.edit_move_backward.ensures.does }

pub returns-in-ForwardChar : goal.returns-in-ForwardChar
returns-in-ForwardChar g c = record { does = rw c.in-ForwardChar.is c.edit_move_forward.ensures.does }

pub returns-in-BeginningOfBuffer : goal.returns-in-BeginningOfBuffer
returns-in-BeginningOfBuffer g c = record { does = rw c.in-BeginningOfBuffer.is c.edit_move_buffer_start.ensures.does }

pub returns-in-EndOfBuffer : goal.returns-in-EndOfBuffer
returns-in-EndOfBuffer g c = record { does = rw c.in-EndOfBuffer.is c.edit_move_buffer_end.ensures.does }
