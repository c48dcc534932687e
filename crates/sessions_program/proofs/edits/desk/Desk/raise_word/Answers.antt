use Rattle.line_record.proofs.StandLemmas.{edited_stand}
use Rattle.sessions_program.proofs.edits.desk.Desk.raise_word.Goals as goal

pub invariant_of-self : goal.invariant_of-self
invariant_of-self c = record { stand = edited_stand c.edit_word.result c.args.self.now.stand c.as_str-text.ensures.utf8 c.edit_word.ensures }
