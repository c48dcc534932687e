use Rattle.std.proofs.Common.{rules, ◌≡◌, ◌≢◌, ◌∙◌, sym, true, false}
use Rattle.std.specs.Prelude.{⊤}
use Rattle.keyline_call.specs.Buffers.{texts_in}
use Rattle.keyline_call.specs.Statuses.{is_open}
use Rattle.keyline_call.specs.declared.status.CallStatus.TheVariants.{Memory}
use Rattle.keyline_call.proofs.StepLemmas.{end_so, end_not_so, open_so, open_not_so}
use Rattle.keyline_call.proofs.export.give.Goals as goal

pub returns-in_err-give_open-clause-gives : goal.returns-in_err-give_open-clause-gives
returns-in_err-give_open-clause-gives c =
    let more : is_open c.status_of-status.result ≡ true = sym c.is_open.ensures ∙ c.if-is_open.true in
    open_not_so _ c.args.options.now.sent c.args.keys c.args.wants.now c.args.left (texts_in c.args.buffers.now) (texts_in c.give_open.new.buffers) c.args.step.now c.give_open.new.step
    ⊤ c.status_of-status.result _ _ c.status_of-status.ensures more c.in_err-give_open.ensures.gives c.from_residual.ensures.1

pub returns-then-is_open-clause-gives : goal.returns-then-is_open-clause-gives
returns-then-is_open-clause-gives c =
    let more : is_open c.status_of-status.result ≡ true = sym c.is_open.ensures ∙ c.if-is_open.true in
    open_so _ c.args.options.now.sent c.args.keys c.args.wants.now c.args.left (texts_in c.args.buffers.now) (texts_in c.give_open.new.buffers) c.args.step.now c.give_open.new.step
    ⊤ _ c.status_of-status.result c.status_of-status.ensures more c.in_ok-give_open.ensures.gives

pub returns-in_err-give_end-clause-gives : goal.returns-in_err-give_end-clause-gives
returns-in_err-give_end-clause-gives c =
    let some : c.status_of-status.result ≢ Memory = search rules in
    let other : is_open c.status_of-status.result ≡ false = sym c.is_open.ensures ∙ c.if-is_open.false in
    end_not_so _ c.args.options.now.sent c.args.keys c.args.wants.now c.args.left (texts_in c.args.buffers.now) (texts_in c.give_end.new.buffers) c.args.step.now c.give_end.new.step
    ⊤ c.status_of-status.result _ _ c.status_of-status.ensures some other c.in_err-give_end.ensures.gives c.from_residual-in_err-give_end.ensures.1

pub returns-clause-gives : goal.returns-clause-gives
returns-clause-gives c =
    let some : c.status_of-status.result ≢ Memory = search rules in
    let other : is_open c.status_of-status.result ≡ false = sym c.is_open.ensures ∙ c.if-is_open.false in
    end_so _ c.args.options.now.sent c.args.keys c.args.wants.now c.args.left (texts_in c.args.buffers.now) (texts_in c.give_end.new.buffers) c.args.step.now c.give_end.new.step
    ⊤ _ c.status_of-status.result c.status_of-status.ensures some other c.in_ok-give_end.ensures.gives
