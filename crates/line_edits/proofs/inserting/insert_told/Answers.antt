use Rattle.line_buffer.proofs.KeptLemmas.{kept_alone, insert_few}
use Rattle.line_buffer.proofs.LeftLemmas.{some_event}
use Rattle.line_edits.proofs.RingLemmas.{on_refusal}
use Rattle.line_edits.proofs.StepLemmas.{told_rewrites, stopped_rewrites}
use Rattle.line_edits.proofs.WrittenLemmas.{some_typed}
use Rattle.line_edits.proofs.inserting.insert_told.Goals as goal

pub returns-clause-rewrites : goal.returns-clause-rewrites
returns-clause-rewrites c = told_rewrites _ c.as_str-text.ensures.utf8 c.requires c.in_ok-insert.ensures.answer c.in_ok-insert.ensures.line c.in_ok-insert.ensures.told

pub returns-in_err-insert : goal.returns-in_err-insert
returns-in_err-insert c =
    let is = c.from_residual.ensures.1 in
    let some = some_event c.in_err-insert.ensures.left.stops in
    record {
      rewrites = stopped_rewrites _ c.from_residual.result is c.as_str-text.ensures.utf8 c.requires c.in_err-insert.ensures.left;
      kept = on_refusal _ c.from_residual.result is (kept_alone (insert_few c.args.ch c.args.n c.args.line.now) c.in_err-insert.ensures.left);
      refused = on_refusal _ c.from_residual.result is (some_typed c.args.ch c.args.n c.args.line.now some.0 some.1 some.2);
    }
