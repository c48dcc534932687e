use Rattle.std.proofs.Common.{sym}
use Rattle.line_editor.proofs.CompleteLemmas.{replacements}
use Rattle.line_editor.proofs.completing.elected.Goals as goal

pub returns-then-begins_word-clause-value : goal.returns-then-begins_word-clause-value
returns-then-begins_word-clause-value g c = rw (replacements g.C.Candidate.offers c.args.candidates.now, sym c.begins_word.ensures.value, c.if-begins_word.true) (rw c.pos.ensures.value at c.elected_among.ensures)
