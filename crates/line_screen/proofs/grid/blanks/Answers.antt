use Rattle.std.proofs.Common.{take, replicate, ap, ◌∙◌}
use Rattle.std.proofs.lemmas.List.{take-replicate}
use Rattle.line_screen.proofs.grid.blanks.Goals as goal

pub returns : goal.returns
returns c = ap (λ n. take n (replicate 255 0x20)) c.from.ensures ∙ take-replicate c.args.count 255 0x20 c.requires.few
