use Rattle.std.proofs.Common.{sym, ◌∙◌}
use Rattle.line_editor.proofs.TurnLemmas.{phrase_stops, phrase_goes, phrase_begins, phrase_unbegun}
use Rattle.line_editor.proofs.state.State.next_cmd.Goals as goal

pub returns-in_err-cmd-clause-phrase : goal.returns-in_err-cmd-clause-phrase
returns-in_err-cmd-clause-phrase g c = phrase_stops _ _ _ _ _ _ _ _ _ _ c.from_residual.ensures.1 c.in_err-cmd.ensures.phrase

pub returns-in_err-doing_insert-clause-phrase : goal.returns-in_err-doing_insert-clause-phrase
returns-in_err-doing_insert-clause-phrase g c =
    phrase_unbegun _ _ _ _ _ _ _ _ _ c.in_ok-cmd.ensures.phrase _ _ _ c.from_residual-in_err-doing_insert.ensures.1 (sym c.begins_group.ensures ∙ c.if-begins_group.true) c.in_err-doing_insert.ensures

pub returns-then-begins_group-clause-phrase : goal.returns-then-begins_group-clause-phrase
returns-then-begins_group-clause-phrase g c =
    phrase_begins _ _ _ _ _ _ _ _ _ c.in_ok-cmd.ensures.phrase _ _ (sym c.begins_group.ensures ∙ c.if-begins_group.true) c.in_ok-doing_insert.ensures

pub returns-clause-phrase : goal.returns-clause-phrase
returns-clause-phrase g c = phrase_goes _ _ _ _ _ _ _ _ _ c.in_ok-cmd.ensures.phrase (sym c.begins_group.ensures ∙ c.if-begins_group.false)
