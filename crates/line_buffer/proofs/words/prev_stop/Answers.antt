use Rattle.std.proofs.Common.{Some, ap, sym, ◌∙◌, arith}
use Rattle.std.specs.Option.{option_or}
use Rattle.line_buffer.specs.Clusters.{nth_or_last}
use Rattle.line_buffer.specs.Words.{stops_back}
use Rattle.line_buffer.proofs.StopLemmas.{prev-stop, prev-stop-empty, nth-boundary, All-stops_back}
use Rattle.line_buffer.proofs.words.prev_stop.Goals.{then-n-eq0-via-then-n-eq0, then-n-eq0-via-else-n-eq0+then-is_empty}
use Rattle.line_buffer.proofs.words.prev_stop.Goals as goal

pub returns-then-n-eq0-clause-value : goal.returns-then-n-eq0-clause-value
returns-then-n-eq0-clause-value c = elim c.then-n-eq0.branch [
  | then-n-eq0-via-then-n-eq0 w ↦ sym (ap (λ k. nth_or_last k (stops_back c.args.word c.args.text.now)) w.if-n-eq0.true)
  | then-n-eq0-via-else-n-eq0+then-is_empty w ↦ prev-stop-empty c.args.word c.args.text.now c.args.n (grind (arith, w.if-is_empty.ensures))
]

pub returns-in-Some-clause-value : goal.returns-in-Some-clause-value
returns-in-Some-clause-value c =
    ap (λ o. option_or o (Some 0)) (sym c.in-Some.is ∙ c.nth_start_back.ensures)
    ∙ sym (prev-stop c.args.word c.args.text.now c.args.n (omega (arith, c.if-n-eq0.false)) (λ e. grind (arith, e, c.if-is_empty.ensures)))

pub returns-in-None-clause-value : goal.returns-in-None-clause-value
returns-in-None-clause-value c =
    ap (λ o. option_or o (Some 0)) (sym c.in-None.is ∙ c.nth_start_back.ensures)
    ∙ sym (prev-stop c.args.word c.args.text.now c.args.n (omega (arith, c.if-n-eq0.false)) (λ e. grind (arith, e, c.if-is_empty.ensures)))

pub returns-in-Some-clause-boundary : goal.returns-in-Some-clause-boundary
returns-in-Some-clause-boundary c = nth-boundary c.args.text.now c.args.n _ _ (All-stops_back c.args.word c.args.text.now c.utf8.text) (returns-in-Some-clause-value c)

pub returns-in-None-clause-boundary : goal.returns-in-None-clause-boundary
returns-in-None-clause-boundary c = nth-boundary c.args.text.now c.args.n _ _ (All-stops_back c.args.word c.args.text.now c.utf8.text) (returns-in-None-clause-value c)
