use Rattle.line_editor.proofs.CompleteLemmas.{put_writes, put_left}
use Rattle.line_editor.proofs.completing.put.Goals as goal

pub returns-clause-writes : goal.returns-clause-writes
returns-clause-writes g c = put_writes _ _ _ _ _ _ _ c.as_str-text.ensures.utf8 c.requires.stand c.update.ensures.line

pub returns-clause-left : goal.returns-clause-left
returns-clause-left g c = put_left _ _ _ _ _ _ _ c.update.ensures.line
