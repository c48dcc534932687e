use Rattle.std.proofs.Common.{◌≡◌, ◌+◌, ◌-◌, ◌≤◌, length, drop, nat_eq}
use Rattle.std.specs.List.{common_prefix_len}
use Rattle.line_help.proofs.completion.common_prefix.common_len.Given as goal

abbrev pub invariant-loop-len : goal.invariant-loop-len
invariant-loop-len l = record {
  within : l.len ≤ length l.text;
  other_within : l.len ≤ length l.other;
  alike : common_prefix_len nat_eq l.text l.other ≡ l.len + common_prefix_len nat_eq (drop l.len l.text) (drop l.len l.other);
}

abbrev pub decreases-loop-len : goal.decreases-loop-len
decreases-loop-len l = length l.text - l.len
