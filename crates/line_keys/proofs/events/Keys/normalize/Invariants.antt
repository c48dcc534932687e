use Rattle.std.proofs.Common.{◌≡◌, ◌++◌, map, take, drop}
use Rattle.line_keys.specs.Keys.{normal}
use Rattle.line_keys.proofs.events.Keys.normalize.Given as goal

abbrev pub invariant-loop-key : goal.invariant-loop-key
invariant-loop-key l = l.key-items ≡ map normal (take l.key-index l.fn.self) ++ drop l.key-index l.fn.self
