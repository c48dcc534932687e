use Rattle.line_editor.proofs.LineLeads.{turn_leads}
use Rattle.line_editor.proofs.laws.turn_leads.Goals as goal

pub returns : goal.returns
returns c = turn_leads
