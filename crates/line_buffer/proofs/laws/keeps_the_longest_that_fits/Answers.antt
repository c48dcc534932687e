use Rattle.line_buffer.proofs.CutLaws as CutLaws
use Rattle.line_buffer.proofs.laws.keeps_the_longest_that_fits.Goals as goal

pub returns : goal.returns
returns c = CutLaws.keeps_the_longest_that_fits
