use Rattle.std.proofs.Common.{true, false}
use Rattle.line_editor.proofs.DoesLemmas.{indent_does}
use Rattle.line_editor.proofs.state.State.obey.Goals as goal

pub returns-in-SelfInsert-clause-does : goal.returns-in-SelfInsert-clause-does
returns-in-SelfInsert-clause-does g c = rw c.in-SelfInsert.is c.edit_insert.ensures.does

pub returns-in-Newline-clause-does : goal.returns-in-Newline-clause-does
returns-in-Newline-clause-does g c = rw c.in-Newline.is c.newline.ensures.does

pub returns-in-Insert-clause-does : goal.returns-in-Insert-clause-does
returns-in-Insert-clause-does g c = rw (c.in-Insert.is, ← c.as_str.ensures) c.edit_yank.ensures.does

pub returns-in-Yank-clause-does : goal.returns-in-Yank-clause-does
returns-in-Yank-clause-does g c = rw c.in-Yank.is c.yank_from.ensures.does

pub returns-in-YankPop-clause-does : goal.returns-in-YankPop-clause-does
returns-in-YankPop-clause-does g c = rw c.in-YankPop.is c.pop_from.ensures.does

pub returns-in-Move-clause-does : goal.returns-in-Move-clause-does
returns-in-Move-clause-does g c = rw c.in-Move.is c.edit_move.ensures.does

pub returns-in-ReplaceChar-clause-does : goal.returns-in-ReplaceChar-clause-does
returns-in-ReplaceChar-clause-does g c = rw c.in-ReplaceChar.is c.edit_replace_char.ensures.does

pub returns-in-Overwrite-clause-does : goal.returns-in-Overwrite-clause-does
returns-in-Overwrite-clause-does g c = rw c.in-Overwrite.is c.edit_overwrite_char.ensures.does

pub returns-in-ClearScreen-clause-does : goal.returns-in-ClearScreen-clause-does
returns-in-ClearScreen-clause-does g c = rw c.in-ClearScreen.is c.clear_and_draw.ensures.does

pub returns-in-Repaint-clause-does : goal.returns-in-Repaint-clause-does
returns-in-Repaint-clause-does g c = rw c.in-Repaint.is c.refresh.ensures.does

pub returns-in-PreviousHistory-clause-does : goal.returns-in-PreviousHistory-clause-does
returns-in-PreviousHistory-clause-does g c = rw c.in-PreviousHistory.is c.edit_history_next.ensures.does

pub returns-in-NextHistory-clause-does : goal.returns-in-NextHistory-clause-does
returns-in-NextHistory-clause-does g c = rw c.in-NextHistory.is c.edit_history_next-in-NextHistory.ensures.does

pub returns-in-BeginningOfHistory-clause-does : goal.returns-in-BeginningOfHistory-clause-does
returns-in-BeginningOfHistory-clause-does g c = rw c.in-BeginningOfHistory.is c.edit_history.ensures.does

pub returns-in-EndOfHistory-clause-does : goal.returns-in-EndOfHistory-clause-does
returns-in-EndOfHistory-clause-does g c = rw c.in-EndOfHistory.is c.edit_history-in-EndOfHistory.ensures.does

pub returns-in-LineUpOrPreviousHistory-clause-does : goal.returns-in-LineUpOrPreviousHistory-clause-does
returns-in-LineUpOrPreviousHistory-clause-does g c = rw c.in-LineUpOrPreviousHistory.is c.line_up_or_previous.ensures.does

pub returns-in-LineDownOrNextHistory-clause-does : goal.returns-in-LineDownOrNextHistory-clause-does
returns-in-LineDownOrNextHistory-clause-does g c = rw c.in-LineDownOrNextHistory.is c.line_down_or_next.ensures.does

pub returns-in-HistorySearchBackward-clause-does : goal.returns-in-HistorySearchBackward-clause-does
returns-in-HistorySearchBackward-clause-does g c = rw c.in-HistorySearchBackward.is c.edit_history_search.ensures.does

pub returns-in-HistorySearchForward-clause-does : goal.returns-in-HistorySearchForward-clause-does
returns-in-HistorySearchForward-clause-does g c = rw c.in-HistorySearchForward.is c.edit_history_search-in-HistorySearchForward.ensures.does

pub returns-in-TransposeChars-clause-does : goal.returns-in-TransposeChars-clause-does
returns-in-TransposeChars-clause-does g c = rw c.in-TransposeChars.is c.edit_transpose_chars.ensures.does

pub returns-in-TransposeWords-clause-does : goal.returns-in-TransposeWords-clause-does
returns-in-TransposeWords-clause-does g c = rw c.in-TransposeWords.is c.edit_transpose_words.ensures.does

pub returns-in-CapitalizeWord-clause-does : goal.returns-in-CapitalizeWord-clause-does
returns-in-CapitalizeWord-clause-does g c = rw c.in-CapitalizeWord.is c.edit_word.ensures.does

pub returns-in-DowncaseWord-clause-does : goal.returns-in-DowncaseWord-clause-does
returns-in-DowncaseWord-clause-does g c = rw c.in-DowncaseWord.is c.edit_word-in-DowncaseWord.ensures.does

pub returns-in-UpcaseWord-clause-does : goal.returns-in-UpcaseWord-clause-does
returns-in-UpcaseWord-clause-does g c = rw c.in-UpcaseWord.is c.edit_word-in-UpcaseWord.ensures.does

pub returns-in-Undo-clause-does : goal.returns-in-Undo-clause-does
returns-in-Undo-clause-does g c = rw c.in-Undo.is c.edit_undo.ensures.does

pub returns-in-Indent-clause-does : goal.returns-in-Indent-clause-does
returns-in-Indent-clause-does g c = rw c.in-Indent.is (indent_does c.in-Indent.movement false c.indent_size.result c.args.self.now c.edit_indent.new.self c.edit_indent.result c.indent_size.ensures c.edit_indent.ensures.does)

pub returns-in-Dedent-clause-does : goal.returns-in-Dedent-clause-does
returns-in-Dedent-clause-does g c = rw c.in-Dedent.is (indent_does c.in-Dedent.movement true c.indent_size-in-Dedent.result c.args.self.now c.edit_indent-in-Dedent.new.self c.edit_indent-in-Dedent.result c.indent_size-in-Dedent.ensures c.edit_indent-in-Dedent.ensures.does)

pub returns-in-Complete-clause-does : goal.returns-in-Complete-clause-does
returns-in-Complete-clause-does g c = rw c.in-Complete.is c.complete.ensures.does

pub returns-in-CompleteHint-clause-does : goal.returns-in-CompleteHint-clause-does
returns-in-CompleteHint-clause-does g c = rw c.in-CompleteHint.is c.complete_hint.ensures.does
