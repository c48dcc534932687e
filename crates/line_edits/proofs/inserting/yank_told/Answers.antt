use Rattle.line_buffer.proofs.KeptLemmas.{kept_alone, yank_few}
use Rattle.line_buffer.proofs.LeftLemmas.{some_event}
use Rattle.line_edits.proofs.RingLemmas.{on_refusal}
use Rattle.line_edits.proofs.StepLemmas.{told_rewrites, stopped_rewrites}
use Rattle.line_edits.proofs.WrittenLemmas.{some_yanked}
use Rattle.line_edits.proofs.inserting.yank_told.Goals as goal

pub returns-clause-rewrites : goal.returns-clause-rewrites
returns-clause-rewrites c = told_rewrites _ c.as_str-text.ensures.utf8 c.requires c.in_ok-yank.ensures.answer c.in_ok-yank.ensures.line c.in_ok-yank.ensures.told

pub returns-in_err-yank : goal.returns-in_err-yank
returns-in_err-yank c =
    let is = c.from_residual.ensures.1 in
    let some = some_event c.in_err-yank.ensures.left.stops in
    record {
      rewrites = stopped_rewrites _ c.from_residual.result is c.as_str-text.ensures.utf8 c.requires c.in_err-yank.ensures.left;
      kept = on_refusal _ c.from_residual.result is (kept_alone (yank_few c.args.text.now c.args.n c.args.line.now) c.in_err-yank.ensures.left);
      refused = on_refusal _ c.from_residual.result is (some_yanked c.args.text.now c.args.n c.args.line.now some.0 some.1 some.2);
    }
