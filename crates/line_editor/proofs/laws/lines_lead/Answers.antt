use Rattle.line_editor.proofs.LineLeads.{lines_lead}
use Rattle.line_editor.proofs.laws.lines_lead.Goals as goal

pub returns : goal.returns
returns c = lines_lead
