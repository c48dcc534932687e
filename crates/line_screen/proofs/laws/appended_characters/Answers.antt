use Rattle.line_screen.proofs.ShortLemmas.{appending_leads}
use Rattle.line_screen.proofs.laws.appended_characters.Goals as goal

pub returns : goal.returns
returns c = appending_leads
