-- A command that neither ends a line nor kills lets it go on.
use Rattle.std.proofs.Common.{◌≡◌, true}
use Rattle.std.specs.Prelude.{Ok}
use Rattle.line_keys.specs.declared.command.Cmd.{Cmd}
use Rattle.line_keys.specs.declared.command.Cmd.TheVariants.{EndOfFile}
use Rattle.line_editor.specs.Commands.{Means, outcome}
use Rattle.line_editor.specs.States.{is_obeyed}
use Rattle.line_editor.specs.Values.{Setting, Value}
use Rattle.line_editor.specs.declared.commands.Status.TheVariants.{Proceed}

pub obeyed_proceeds : (m : Means) (cmd : Cmd) (s : Setting) (v : Value) → is_obeyed cmd ≡ true → outcome m cmd s v ≡ Ok Proceed
obeyed_proceeds m EndOfFile s v h = cc
obeyed_proceeds m cmd s v h = cc
