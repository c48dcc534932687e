use Rattle.line_record.proofs.RecordLaws.{record_gives_the_text}
use Rattle.line_record.proofs.laws.replay.Goals as goal

pub returns : goal.returns
returns c = record_gives_the_text
