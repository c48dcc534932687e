use Rattle.line_editor.proofs.CompleteLemmas.{mark_wanting, put_refused}
use Rattle.line_editor.proofs.completing.put_in_group.Goals as goal

pub returns-in_err-begin-clause-refused : goal.returns-in_err-begin-clause-refused
returns-in_err-begin-clause-refused g c = mark_wanting _ c.args.line.now c.args.changes.now c.begin.new.self _ c.from_residual.ensures.1 c.in_err-begin.ensures.kept

pub returns-in_err-put-clause-refused : goal.returns-in_err-put-clause-refused
returns-in_err-put-clause-refused g c =
    put_refused _ c.args.line.now c.put.new.line c.args.changes.now c.begin.new.self c.put.new.changes _ _ c.from_residual-in_err-put.ensures.1 c.in_err-put.ensures.reply.fault
    c.in_ok-begin.ensures.value c.in_err-put.ensures.left
