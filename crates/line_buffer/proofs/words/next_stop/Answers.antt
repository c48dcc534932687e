use Rattle.std.proofs.Common.{None, ap, sym, ◌∙◌, arith}
use Rattle.std.specs.Option.{option_or}
use Rattle.std.specs.List.{last_or}
use Rattle.line_buffer.specs.Words.{last_stop}
use Rattle.line_buffer.proofs.StopLemmas.{next-stop, nth-boundary, All-stops_forward}
use Rattle.line_buffer.proofs.words.next_stop.Goals as goal

pub returns-in-Some-clause-value : goal.returns-in-Some-clause-value
returns-in-Some-clause-value c =
    ap (λ o. option_or o (last_or None (last_stop c.args.at c.args.word c.args.text.now))) (sym c.in-Some.is ∙ c.nth_inner_stop.ensures)
    ∙ sym (next-stop c.args.at c.args.word c.args.text.now c.args.n (omega (arith, c.if-n-eq0.false)))

pub returns-in-None-clause-value : goal.returns-in-None-clause-value
returns-in-None-clause-value c =
    c.last_stop.ensures ∙ ap (λ o. option_or o (last_or None (last_stop c.args.at c.args.word c.args.text.now))) (sym c.in-None.is ∙ c.nth_inner_stop.ensures)
    ∙ sym (next-stop c.args.at c.args.word c.args.text.now c.args.n (omega (arith, c.if-n-eq0.false)))

pub returns-in-Some-clause-boundary : goal.returns-in-Some-clause-boundary
returns-in-Some-clause-boundary c = nth-boundary c.args.text.now c.args.n _ _ (All-stops_forward c.args.at c.args.word c.args.text.now c.utf8.text) (returns-in-Some-clause-value c)

pub returns-in-None-clause-boundary : goal.returns-in-None-clause-boundary
returns-in-None-clause-boundary c = nth-boundary c.args.text.now c.args.n _ _ (All-stops_forward c.args.at c.args.word c.args.text.now c.utf8.text) (returns-in-None-clause-value c)
