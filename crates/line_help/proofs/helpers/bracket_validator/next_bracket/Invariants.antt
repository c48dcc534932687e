use Rattle.std.proofs.Common.{◌≡◌, ◌+◌, ◌-◌, ◌≤◌, length, drop}
use Rattle.std.specs.List.{position_or_len}
use Rattle.line_help.specs.Brackets.{is_bracket}
use Rattle.line_help.proofs.helpers.bracket_validator.next_bracket.Given as goal

abbrev pub invariant-loop-place : goal.invariant-loop-place
invariant-loop-place l = record {
  bound : l.place ≤ length l.bytes;
  same : l.from + position_or_len is_bracket (drop l.from l.bytes) ≡ l.place + position_or_len is_bracket (drop l.place l.bytes);
}

abbrev pub decreases-loop-place : goal.decreases-loop-place
decreases-loop-place l = length l.bytes - l.place
