use Rattle.std.proofs.Common.{◌≡◌, ◌≤◌, ◌-◌, [], drop, reverse, length}
use Rattle.line_help.specs.Validation.{verdict_from}
use Rattle.line_help.proofs.helpers.bracket_validator.validate_brackets.Given as goal

abbrev pub invariant-loop-place : goal.invariant-loop-place
invariant-loop-place l = record {
  bound : l.place ≤ length l.bytes;
  so_far : verdict_from [] l.bytes ≡ verdict_from (reverse l.unclosed.items) (drop l.place l.bytes);
}

abbrev pub decreases-loop-place : goal.decreases-loop-place
decreases-loop-place l = length l.bytes - l.place
