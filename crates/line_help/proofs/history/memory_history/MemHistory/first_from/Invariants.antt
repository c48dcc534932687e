use Rattle.std.proofs.Common.{◌≡◌, drop}
use Rattle.line_help.specs.Search.{hit_by, first_from}
use Rattle.line_help.proofs.history.memory_history.MemHistory.first_from.Given as goal

abbrev pub invariant-loop-idx : goal.invariant-loop-idx
invariant-loop-idx l = first_from (hit_by l.anchored l.term) l.start (drop l.start l.self.entries) ≡ first_from (hit_by l.anchored l.term) l.idx (drop l.idx l.self.entries)
