use Rattle.std.proofs.Common.{◌≡◌, drop}
use Rattle.line_help.specs.SplitStyles.{final_len}
use Rattle.line_help.proofs.SplitLemmas.{counted}
use Rattle.line_help.proofs.helpers.style_split.final_len.Given as goal

abbrev pub invariant-loop-place : goal.invariant-loop-place
invariant-loop-place l = final_len l.bytes ≡ counted l.place (final_len (drop l.place l.bytes))
