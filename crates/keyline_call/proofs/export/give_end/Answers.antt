use Rattle.std.proofs.Common.{rules, ap, ◌∙◌, drop, inl, inr}
use Rattle.std.proofs.lemmas.List.{take_rest}
use Rattle.keyline_call.specs.Buffers.{texts_in}
use Rattle.keyline_call.proofs.StepLemmas.{end_told, memory_lacks}
use Rattle.keyline_call.proofs.export.give_end.Goals as goal

pub returns-in_err-history-clause-gives : goal.returns-in_err-history-clause-gives
returns-in_err-history-clause-gives c =
    memory_lacks _ c.args.sent c.args.keys c.args.wants.now c.args.left (texts_in c.args.buffers.now) c.args.step.now _ _ (inl c.in_err-history.ensures.1) c.in_err-history.ensures.0 c.from_residual.ensures.1

pub returns-in_err-slots-clause-gives : goal.returns-in_err-slots-clause-gives
returns-in_err-slots-clause-gives c =
    memory_lacks _ c.args.sent c.args.keys c.args.wants.now c.args.left (texts_in c.args.buffers.now) c.args.step.now _ _ (inr c.in_err-slots.ensures.1) c.in_err-slots.ensures.0 c.from_residual-in_err-slots.ensures.1

pub returns-clause-gives : goal.returns-clause-gives
returns-clause-gives c =
    end_told _ c.args.sent c.args.keys c.args.wants.now c.args.left (texts_in c.args.buffers.now) c.args.step.now c.in_ok-slots.slots c.in_ok-slots.ensures (texts_in c.put_wanted.new.buffers) c.tell_lengths.new.step
    _ c.put_wanted.result c.put_wanted.ensures.gives (take_rest c.bytes.result.now c.args.sent ∙ ap (drop c.args.sent) c.bytes.ensures) (search rules) (search rules) (search rules) (search rules) (search rules)
