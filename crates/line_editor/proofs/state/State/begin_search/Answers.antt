use Rattle.line_editor.specs.Modal.{modal_of}
use Rattle.line_editor.specs.Searching.{search_drawn, modal_at_search_start}
use Rattle.line_editor.specs.States.{value_of, setting_of}
use Rattle.line_editor.specs.Values.{close_groups}
use Rattle.std.proofs.Common.{length}
use Rattle.line_editor.proofs.DoesLemmas.{does_cut_by}
use Rattle.line_editor.proofs.state.State.begin_search.Goals as goal

pub returns-in_err-close_groups-clause-does : goal.returns-in_err-close_groups-clause-does
returns-in_err-close_groups-clause-does g c =
    let s = c.args.self.now in
    let q = modal_at_search_start c.args.dir (length (setting_of s).entries) (value_of s) (modal_of c.args.modal.now) in
    does_cut_by close_groups (search_drawn q) _ _ _ _ c.from_residual.ensures.1 c.in_err-close_groups.ensures.does
