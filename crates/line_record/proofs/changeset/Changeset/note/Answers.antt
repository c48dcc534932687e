use Rattle.std.proofs.Common.{◌∙◌, ap}
use Rattle.line_record.specs.Items.{items_after_event}
use Rattle.line_record.specs.Log.{event_of}
use Rattle.line_record.proofs.DoneLemmas.{all_done}
use Rattle.line_record.proofs.NotedLemmas.{reported}
use Rattle.line_record.proofs.changeset.Changeset.note.Goals as goal

pub returns-clause-recorded : goal.returns-clause-recorded
returns-clause-recorded c =
    reported c.args.report c.args.self.now _
    (all_done c.note.new.self c.len-self-inside.result _ c.len-self-inside.ensures c.in_ok-note.ensures.ok ∙ ap (items_after_event (event_of c.args.report)) c.self.view_is)
