use Rattle.line_record.proofs.StandLemmas.{changed_stand}
use Rattle.sessions_program.proofs.edits.desk.Desk.replace.Goals as goal

pub invariant_of-self : goal.invariant_of-self
invariant_of-self c = record { stand = changed_stand c.replace.result c.args.self.now.stand c.as_str-here.ensures.utf8 c.replace.ensures }
