use Rattle.std.proofs.Common.{◌∷◌, ◌+◌, ◌∙◌, sym, ap, drop}
use Rattle.std.proofs.lemmas.List.{drop_more}
use Rattle.line_help.proofs.SplitLemmas.{reading, at_end}
use Rattle.line_help.proofs.helpers.style_split.style_after.Goals as goal

pub returns-in-109 : goal.returns-in-109
returns-in-109 c =
    let bytes = c.args.sequence.now in
    let at = c.loop-byte.byte-index in
    let here = drop_more bytes at 0 c.loop-byte-test.true ∙ ap (λ b. b ∷ drop (at + 1) bytes) c.in-109.is in
    sym (c.loop-byte.invariant.read
    ∙ ap (reading c.args.style c.loop-byte.changed c.loop-byte.begun c.loop-byte.number) here
    ∙ at_end c.args.style c.loop-byte.changed c.take_number.result.0 c.loop-byte.begun c.take_number.result.1 c.loop-byte.number (drop (at + 1) bytes) c.take_number.ensures)
