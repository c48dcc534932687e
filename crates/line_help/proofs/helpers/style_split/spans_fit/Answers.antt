use Rattle.line_help.proofs.SplitLemmas.{spans_fit as law}
use Rattle.line_help.proofs.helpers.style_split.spans_fit.Goals as goal

pub returns : goal.returns
returns c = law
