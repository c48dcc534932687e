use Rattle.std.proofs.Common.{rules, ◌≡◌, [], ◌∷◌, ◌++◌}
use Rattle.std.specs.Prelude.{string_bytes}
use Rattle.line_editor.proofs.CandidateLemmas.{row_more}
use Rattle.line_editor.proofs.candidates.push_rows.Goals as goal

pub loop-candidate-preserved : goal.loop-candidate-preserved
loop-candidate-preserved g c =
    let l = c.loop-candidate in
    let offers = g.C.Candidate.offers in
    let item = c.candidate-item.result in
    let more : string_bytes c.push_str.new.self ≡ (string_bytes l.text ++ 10 ∷ []) ++ (offers item).display = search rules in
    row_more offers (string_bytes c.args.text.now) (string_bytes l.text) (string_bytes c.push_str.new.self) c.args.candidates.now l.candidate-index item c.loop-candidate-test.true c.candidate-item.is l.invariant more
