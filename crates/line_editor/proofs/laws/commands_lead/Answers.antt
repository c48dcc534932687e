use Rattle.line_editor.proofs.CommandsLead.{commands_lead}
use Rattle.line_editor.proofs.laws.commands_lead.Goals as goal

pub returns : goal.returns
returns c = commands_lead
