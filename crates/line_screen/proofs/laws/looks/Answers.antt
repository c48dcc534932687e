use Rattle.line_screen.proofs.StyleLemmas.{numbers_are}
use Rattle.line_screen.proofs.laws.looks.Goals as goal

pub returns : goal.returns
returns c = numbers_are
