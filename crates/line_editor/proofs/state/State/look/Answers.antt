use Rattle.std.specs.Prelude.{Some}
use Rattle.std.proofs.Common.{rules}
use Rattle.line_help.specs.Search.{hit_of}
use Rattle.line_editor.specs.Modal.{modal_of}
use Rattle.line_editor.proofs.MeetLemmas.{look_as, found_shown, found_cut}
use Rattle.line_editor.proofs.state.State.look.Goals as goal

pub returns-in_err-put_hit-in-Some-clause-does : goal.returns-in_err-put_hit-in-Some-clause-does
returns-in_err-put_hit-in-Some-clause-does g c =
    let q = modal_of c.args.modal.now in
    let hit = hit_of c.in-Some.hit in
    look_as c.args.dir c.args.from q (Some hit) _ _ _ (search rules)
    (found_cut c.args.dir hit q _ _ _ _ c.from_residual.ensures.1 c.in_err-put_hit-in-Some.ensures.does)

pub returns-in_ok-put_hit-in-Some-clause-does : goal.returns-in_ok-put_hit-in-Some-clause-does
returns-in_ok-put_hit-in-Some-clause-does g c =
    let q = modal_of c.args.modal.now in
    let hit = hit_of c.in-Some.hit in
    look_as c.args.dir c.args.from q (Some hit) _ _ _ (search rules)
    (found_shown c.args.dir hit q _ _ _ _ _ c.in_ok-put_hit-in-Some.ensures.does c.show_search.ensures.does)
