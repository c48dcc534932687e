use Rattle.line_screen.proofs.ShortLemmas.{erasing_leads}
use Rattle.line_screen.proofs.laws.erased_characters.Goals as goal

pub returns : goal.returns
returns c = erasing_leads
