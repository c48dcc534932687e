use Rattle.std.proofs.Common.{◌≡◌, ◌++◌, map, take, string_bytes}
use Rattle.line_editor.specs.Candidates.{rows_of}
use Rattle.line_editor.proofs.candidates.push_rows.Given as goal

abbrev pub invariant-loop-candidate : goal.invariant-loop-candidate
invariant-loop-candidate g l =
    string_bytes l.text ≡ string_bytes l.initial.text ++ rows_of (map g.C.Candidate.offers (take l.candidate-index l.candidates))
