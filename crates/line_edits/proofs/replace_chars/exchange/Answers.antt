use Rattle.line_edits.specs.Edits.{clusters_after}
use Rattle.line_edits.proofs.ExchangeLemmas.{deletion_stopped, exchange_stopped}
use Rattle.line_edits.proofs.StepLemmas.{rewrites_refused}
use Rattle.line_edits.proofs.replace_chars.exchange.Goals as goal

pub returns-in_err-delete_told : goal.returns-in_err-delete_told
returns-in_err-delete_told c =
    rewrites_refused _ c.from_residual.result c.from_residual.ensures.1 c.delete_told.ensures.writes.stand
    (deletion_stopped c.args.ch c.args.n (clusters_after c.args.n c.args.line.now) c.args.line.now _ _ c.in_err-delete_told.ensures.left)

pub returns-in_err-insert_told : goal.returns-in_err-insert_told
returns-in_err-insert_told c =
    rewrites_refused _ c.from_residual-in_err-insert_told.result c.from_residual-in_err-insert_told.ensures.1 c.insert_told.ensures.rewrites.writes.stand
    (exchange_stopped c.args.ch c.args.n (clusters_after c.args.n c.args.line.now) _ c.args.line.now c.delete_told.new.line c.insert_told.new.line
    c.args.changes.now c.delete_told.new.changes c.insert_told.new.changes c.clusters_after-count.ensures.value c.in_ok-delete_told.ensures.writes c.in_err-insert_told.ensures.rewrites.left)
