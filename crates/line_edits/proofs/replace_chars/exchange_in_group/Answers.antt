use Rattle.line_edits.specs.Edits.{clusters_after, exchange_steps}
use Rattle.line_edits.proofs.StepLemmas.{stopped_in_group}
use Rattle.line_edits.proofs.replace_chars.exchange_in_group.Goals as goal

pub returns-in_err-exchange : goal.returns-in_err-exchange
returns-in_err-exchange c =
    let l = c.args.line.now in
    stopped_in_group (exchange_steps c.args.ch c.args.n (clusters_after c.args.n l) l) l c.args.changes.now c.in_ok-begin.ensures.value
    _ c.from_residual-in_err-exchange.result c.from_residual-in_err-exchange.ensures.1 c.exchange.ensures.writes.stand c.in_err-exchange.ensures.left
