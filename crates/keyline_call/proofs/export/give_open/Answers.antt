use Rattle.std.proofs.Common.{rules, ap, ◌∙◌, drop}
use Rattle.std.proofs.lemmas.List.{take_rest}
use Rattle.keyline_call.specs.Buffers.{texts_in}
use Rattle.keyline_call.proofs.StepLemmas.{open_told}
use Rattle.keyline_call.proofs.export.give_open.Goals as goal

pub returns-clause-gives : goal.returns-clause-gives
returns-clause-gives c =
    open_told _ c.args.sent c.args.keys c.args.wants.now c.args.left.now (texts_in c.args.buffers.now) c.args.step.now (texts_in c.put_wanted.new.buffers) c.tell_lengths.new.step
    _ c.put_wanted.result c.put_wanted.ensures.gives (take_rest c.bytes-bytes.result.now c.args.sent ∙ ap (drop c.args.sent) c.bytes-bytes.ensures) (search rules) (search rules) (search rules) (search rules) (search rules)
