use Rattle.std.proofs.Common.{◌≡◌, ◌+◌, drop}
use Rattle.std.specs.List.{position_or_len}
use Rattle.line_help.specs.Brackets.{is_bracket}
use Rattle.line_help.proofs.helpers.bracket_validator.bracket_in_rest.Given as goal

abbrev pub invariant-loop-place : goal.invariant-loop-place
invariant-loop-place l = l.from + position_or_len is_bracket (drop l.from l.bytes) ≡ l.place + position_or_len is_bracket (drop l.place l.bytes)
