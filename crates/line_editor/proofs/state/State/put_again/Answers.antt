use Rattle.line_edits.specs.Edits.{update_group}
use Rattle.line_editor.specs.Drawing.{refresh_effect}
use Rattle.line_editor.specs.Values.{then_do, edit_effect, close_groups}
use Rattle.line_editor.proofs.DoesLemmas.{does_both, does_cut_by}
use Rattle.line_editor.proofs.state.State.put_again.Goals as goal

pub returns-in_err-close_groups : goal.returns-in_err-close_groups
returns-in_err-close_groups g c =
    let put = edit_effect (update_group c.args.entry.now c.args.pos) in
    does_cut_by close_groups (then_do put refresh_effect) _ _ _ _ c.from_residual.ensures.1 c.in_err-close_groups.ensures.does

pub returns-in_err-put_entry : goal.returns-in_err-put_entry
returns-in_err-put_entry g c =
    let put = edit_effect (update_group c.args.entry.now c.args.pos) in
    does_both close_groups (then_do put refresh_effect) _ _ _ _ _ c.in_ok-close_groups.ensures.does
    (does_cut_by put refresh_effect _ _ _ _ c.from_residual-in_err-put_entry.ensures.1 c.in_err-put_entry.ensures.does)

pub returns : goal.returns
returns g c =
    let put = edit_effect (update_group c.args.entry.now c.args.pos) in
    does_both close_groups (then_do put refresh_effect) _ _ _ _ _ c.in_ok-close_groups.ensures.does
    (does_both put refresh_effect _ _ _ _ _ c.in_ok-put_entry.ensures.does c.refresh.ensures.does)
