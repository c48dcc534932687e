use Rattle.std.proofs.Common.{map}
use Rattle.keyline.proofs.OptionsLemmas.{answered}
use Rattle.keyline.proofs.options.parse.Goals as goal

pub returns-in-Err-clause-answers : goal.returns-in-Err-clause-answers
returns-in-Err-clause-answers g c = answered (map g.S.AsStr.text c.args.words.now) _ c.refused.result c.in-Err.ensures.gives c.refused.ensures.says
