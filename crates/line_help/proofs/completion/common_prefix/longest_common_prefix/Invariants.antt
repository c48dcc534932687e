use Rattle.std.proofs.Common.{◌≡◌, drop, map}
use denote.Text.{Utf8}
use denote.Shadow.{shadow}
use Rattle.line_help.specs.Completion.{common_to_all}
use Rattle.line_help.proofs.completion.common_prefix.longest_common_prefix.Given as goal

abbrev pub invariant-loop-other : goal.invariant-loop-other
invariant-loop-other g l = record {
  is_text : shadow (Utf8 l.common);
  left : common_to_all l.common (map (λ c. (g.C.Candidate.offers c).replacement) (drop l.other-index l.others))
      ≡ common_to_all l.initial.common (map (λ c. (g.C.Candidate.offers c).replacement) l.others);
}
