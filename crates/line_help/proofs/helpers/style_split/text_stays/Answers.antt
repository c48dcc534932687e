use Rattle.line_help.proofs.SplitLemmas.{text_stays as law}
use Rattle.line_help.proofs.helpers.style_split.text_stays.Goals as goal

pub returns : goal.returns
returns c = law
