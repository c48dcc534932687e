use Rattle.std.proofs.Common.{◌≡◌, ◌+◌, ◌≤◌, length, take, reverse}
use Rattle.line_help.specs.Brackets.{bytes_between}
use Rattle.line_help.proofs.MatchLemmas.{place_before}
use Rattle.line_help.proofs.helpers.brackets.match_before.Given as goal

abbrev pub invariant-loop-place : goal.invariant-loop-place
invariant-loop-place l = (l.unclosed + l.place ≤ length l.bytes)
    × (place_before (length (take l.pos l.bytes)) (bytes_between l.bracket l.matching 0 (reverse (take l.pos l.bytes)))
    ≡ place_before l.place (bytes_between l.bracket l.matching l.unclosed (reverse (take l.place l.bytes))))
