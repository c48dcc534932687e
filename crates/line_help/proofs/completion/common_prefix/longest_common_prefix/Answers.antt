use Rattle.std.proofs.Common.{arith}
use Rattle.std.proofs.lemmas.Grind.{common_steps}
use Rattle.line_help.proofs.completion.common_prefix.longest_common_prefix.Goals as goal

pub loop-other-preserved : goal.loop-other-preserved
loop-other-preserved g c = record { is_text = grind (arith, common_steps); left = grind (arith, common_steps) }
