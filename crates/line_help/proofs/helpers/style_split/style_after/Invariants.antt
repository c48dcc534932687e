use Rattle.std.proofs.Common.{◌≡◌, ◌≤◌, drop}
use Rattle.line_help.specs.SplitStyles.{style_after}
use Rattle.line_help.proofs.SplitLemmas.{reading}
use Rattle.line_help.proofs.helpers.style_split.style_after.Given as goal

abbrev pub invariant-loop-byte : goal.invariant-loop-byte
invariant-loop-byte l = record {
  small : l.number ≤ 999;
  read : style_after l.sequence l.style ≡ reading l.style l.changed l.begun l.number (drop l.byte-index l.sequence);
}
