use Rattle.std.proofs.Common.{rules}
use Rattle.line_editor.specs.Modal.{modal_of}
use Rattle.line_editor.proofs.MeetLemmas.{erased_taken}
use Rattle.line_editor.proofs.state.State.met_searches.Goals as goal

pub returns-in_ok-search_erased-in-Erases : goal.returns-in_ok-search_erased-in-Erases
returns-in_ok-search_erased-in-Erases g c =
    let made = c.in_ok-search_erased-in-Erases.ensures in
    erased_taken c.args.cmd.now (modal_of c.args.modal.now) (modal_of c.search_erased.new.modal) _ _ _ (search rules) (search rules) made.does made.modal
