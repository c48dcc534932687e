-- So many BS.
use Rattle.std.proofs.Common.{arith}
use Rattle.line_screen.proofs.Sendings.{sends_steps}
use Rattle.line_screen.proofs.drawing.sequences.send_short_move.Goals as goal

pub returns-then-old-new-le4 : goal.returns-then-old-new-le4
returns-then-old-new-le4 g c = sends_steps c.args.old c.args.new c.from-count.result c.if-old-new.true c.if-new-old.true (omega arith)
    (omega arith) c.send.ensures
