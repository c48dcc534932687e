use Rattle.std.specs.Prelude.{[], unwrap_or}
use Rattle.line_config.proofs.recorded.Recorded.over_writer.Given as goal

-- the log begins with what the writer has
abbrev pub ghost-since : goal.ghost-since
ghost-since g a = unwrap_or (g.W.Write.contents a.device.now) []
