use Rattle.std.proofs.Common.{sym, ap, ◌∙◌}
use Rattle.line_help.specs.Completion.{unless_empty}
use Rattle.line_editor.proofs.CandidateLemmas.{offered_at, none_offered, put_nowhere, put_there, text_put_if}
use Rattle.line_editor.proofs.candidates.candidate_at.Goals as goal

pub returns-then-not-begins_word-clause-value : goal.returns-then-not-begins_word-clause-value
returns-then-not-begins_word-clause-value g c =
    sym (put_nowhere g.C.Candidate.offers c.args.candidates.now c.args.at c.args.start c.args.line.now _ c.begins_word.ensures.value c.if-not-begins_word.true)

pub returns-in_err-get-clause-value : goal.returns-in_err-get-clause-value
returns-in_err-get-clause-value g c =
    let offers = g.C.Candidate.offers in
    let all = c.args.candidates.now in
    rw c.from_residual.ensures
    (sym (put_there offers all c.args.at c.args.start c.args.line.now _ _ c.begins_word.ensures.value c.if-not-begins_word.false (none_offered offers all c.args.at c.in_err-get.ensures.lookup.3)))

pub returns-then-is_empty-clause-value : goal.returns-then-is_empty-clause-value
returns-then-is_empty-clause-value g c =
    let offers = g.C.Candidate.offers in
    let all = c.args.candidates.now in
    let lookup = c.in_ok-get.ensures.lookup in
    let text = c.replacement-text.result.now in
    sym (put_there offers all c.args.at c.args.start c.args.line.now _ _ c.begins_word.ensures.value c.if-not-begins_word.false
    (offered_at offers all c.args.at c.in_ok-get.field-0.now lookup.3.0 lookup.1)
    ∙ ap unless_empty (sym c.replacement-text.ensures) ∙ text_put_if text _ (sym c.is_empty.ensures ∙ c.if-is_empty.true))

pub returns-else-is_empty-clause-value : goal.returns-else-is_empty-clause-value
returns-else-is_empty-clause-value g c =
    let offers = g.C.Candidate.offers in
    let all = c.args.candidates.now in
    let lookup = c.in_ok-get.ensures.lookup in
    let text = c.replacement-text.result.now in
    sym (put_there offers all c.args.at c.args.start c.args.line.now _ _ c.begins_word.ensures.value c.if-not-begins_word.false
    (offered_at offers all c.args.at c.in_ok-get.field-0.now lookup.3.0 lookup.1)
    ∙ ap unless_empty (sym c.replacement-text.ensures) ∙ text_put_if text _ (sym c.is_empty.ensures ∙ c.if-is_empty.false))
