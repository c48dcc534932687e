use Rattle.line_editor.proofs.AcceptLemmas.{accept_cut, accept_newline, accept_newline_cut}
use Rattle.line_editor.proofs.state.State.accept_or_insert.Goals as goal

pub returns-in_err-found-clause-does : goal.returns-in_err-found-clause-does
returns-in_err-found-clause-does g c = accept_cut c.args.middle _ _ _ _ c.from_residual.ensures.1 c.in_err-found.ensures.does

pub returns-in_err-insert_newline-clause-does : goal.returns-in_err-insert_newline-clause-does
returns-in_err-insert_newline-clause-does g c =
    accept_newline_cut c.args.middle c.accepts_line-accepted.result c.in_ok-found.found _ _ _ _ _ _ c.from_residual-in_err-insert_newline.ensures.1
    c.in_ok-found.ensures.does c.in_ok-found.ensures.verdict c.in_ok-found.ensures.line c.accepts_line-accepted.ensures c.in_err-insert_newline.ensures.does

pub returns-clause-does : goal.returns-clause-does
returns-clause-does g c =
    accept_newline c.args.middle c.accepts_line-accepted.result c.in_ok-found.found _ _ _ _ _
    c.in_ok-found.ensures.does c.in_ok-found.ensures.verdict c.in_ok-found.ensures.line c.accepts_line-accepted.ensures _ c.in_ok-insert_newline.ensures.does
