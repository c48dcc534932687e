use Rattle.std.proofs.Common.{◌≡◌, take, reverse}
use Rattle.line_help.specs.Search.{hit_by, first_back}
use Rattle.line_help.proofs.history.memory_history.MemHistory.first_back.Given as goal

abbrev pub invariant-loop-idx : goal.invariant-loop-idx
invariant-loop-idx l = first_back (hit_by l.anchored l.term) (reverse (take l.count l.self.entries)) ≡ first_back (hit_by l.anchored l.term) (reverse (take l.idx l.self.entries))
