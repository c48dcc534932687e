use Rattle.line_help.proofs.SameStyles.{same_style-decides}
use Rattle.line_help.proofs.helpers.style_split.same_style.Goals as goal

pub returns : goal.returns
returns c = rw c.eq.ensures (same_style-decides c.args.one c.args.other)
