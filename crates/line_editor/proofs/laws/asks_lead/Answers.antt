use Rattle.line_editor.proofs.CommandsLead.{asks_lead}
use Rattle.line_editor.proofs.laws.asks_lead.Goals as goal

pub returns : goal.returns
returns c = asks_lead
