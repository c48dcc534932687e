use Rattle.line_buffer.proofs.EditLaws as EditLaws
use Rattle.line_buffer.proofs.laws.kills_what_is_copied.Goals as goal

pub returns : goal.returns
returns c = EditLaws.kills_what_is_copied
