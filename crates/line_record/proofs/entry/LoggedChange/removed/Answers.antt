use Rattle.line_record.proofs.LogLemmas.{cuts_at}
use Rattle.line_record.proofs.entry.LoggedChange.removed.Goals as goal

pub range-requires : goal.range-requires
range-requires c =
    let k = cuts_at c.args.log.now c.args.self.now c.utf8.log c.requires in
    record { start_le_end = c.requires.removed; start_boundary = λ _. k.start; end_boundary = k.middle }
