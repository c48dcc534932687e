use Rattle.line_editor.proofs.CommandsLead.{submitting_leads}
use Rattle.line_editor.proofs.laws.submitting_leads.Goals as goal

pub returns : goal.returns
returns c = submitting_leads
