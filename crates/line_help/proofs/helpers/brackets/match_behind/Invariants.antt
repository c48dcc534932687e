use Rattle.std.proofs.Common.{◌≡◌, ◌+◌, ◌≤◌, drop}
use Rattle.line_help.specs.Brackets.{bytes_between}
use Rattle.line_help.proofs.MatchLemmas.{place_behind}
use Rattle.line_help.proofs.helpers.brackets.match_behind.Given as goal

abbrev pub invariant-loop-place : goal.invariant-loop-place
invariant-loop-place l = (l.unclosed ≤ l.place)
    × (place_behind (l.pos + 1) (bytes_between l.bracket l.matching 0 (drop (l.pos + 1) l.bytes))
    ≡ place_behind l.place (bytes_between l.bracket l.matching l.unclosed (drop l.place l.bytes)))
