use Rattle.std.proofs.Common.{sym, ap, ◌∙◌}
use Rattle.line_buffer.specs.LetterCase.{word_in_case, recase}
use Rattle.line_buffer.proofs.LeftLemmas.{edits_refused, stopped_first, stopped_for_memory}
use Rattle.line_buffer.proofs.LetterCaseLemmas.{recase_event}
use Rattle.line_buffer.proofs.line_buffer.LineBuffer.edit_word.Goals as goal

pub returns-in_err-word : goal.returns-in_err-word
returns-in_err-word g c = edits_refused _ _ c.from_residual.ensures.1 (stopped_for_memory _ _ _ _ _ _ _ _
    (ap (λ o. (recase c.args.action o c.args.self.now).events) (sym c.word_to_edit.ensures.value ∙ c.in-Some.is)) tt c.word_to_edit.ensures.line)

pub returns-in_err-edited : goal.returns-in_err-edited
returns-in_err-edited g c = edits_refused _ _ c.from_residual-in_err-edited.ensures.1 (stopped_for_memory _ _ _ _ _ _ _ _
    (ap (λ o. (recase c.args.action o c.args.self.now).events) (sym c.word_to_edit.ensures.value ∙ c.in-Some.is)) tt c.word_to_edit.ensures.line)

pub returns-in_err-replace : goal.returns-in_err-replace
returns-in_err-replace g c = edits_refused _ _ c.from_residual-in_err-replace.ensures.1 (stopped_first _ _ _ _ _ _ _ _ _
    (recase_event c.args.action c.args.self.now _ _ _ _ (sym c.word_to_edit.ensures.value ∙ c.in-Some.is) c.word_to_edit.ensures.line
    (c.as_str-2.ensures.value ∙ c.in_ok-edited.ensures ∙ ap (word_in_case c.args.action) (c.as_str.ensures.value ∙ c.in_ok-word.ensures))) tt c.in_err-replace.ensures.refused (c.in_err-replace.ensures.kept ∙ c.word_to_edit.ensures.line))
