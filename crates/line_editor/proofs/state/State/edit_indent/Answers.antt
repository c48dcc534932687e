use Rattle.std.proofs.Common.{refl}
use Rattle.line_edits.specs.Edits.{indent_steps}
use Rattle.line_editor.specs.Drawing.{refresh_effect}
use Rattle.line_editor.specs.Transforms.{indent_effect}
use Rattle.line_editor.specs.States.{value_of}
use Rattle.line_editor.proofs.EditLemmas.{edit_then, edit_refused}
use Rattle.line_editor.proofs.state.State.edit_indent.Goals as goal
use Rattle.line_editor.proofs.DoesLemmas.{stays_by}

pub returns-in_err-indent : goal.returns-in_err-indent
returns-in_err-indent g c =
    let s = c.args.self.now in
    let edit = indent_steps c.args.movement.now c.args.amount c.args.dedent in
    record {
      does = edit_refused (indent_effect c.args.movement.now c.args.amount c.args.dedent) refresh_effect
          edit (value_of s) s _ _ _ _ c.from_residual.ensures.1 refl refl c.in_err-indent.ensures refl refl (assumption);
    }

pub returns : goal.returns
returns g c =
    let s = c.args.self.now in
    let edit = indent_steps c.args.movement.now c.args.amount c.args.dedent in
    record {
      does = edit_then (indent_effect c.args.movement.now c.args.amount c.args.dedent) refresh_effect
          edit (value_of s) s _ _ _ _ _ _ refl refl c.in_ok-indent.ensures refl refl (stays_by refl refl refl refl refl refl) c.refresh.ensures.does;
    }
