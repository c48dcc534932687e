use Rattle.std.proofs.Common.{◌∙◌}
use Rattle.line_record.specs.Log.{edit_in, Spelt}
use Rattle.line_record.proofs.StepLemmas.{back_turn}
use Rattle.line_record.proofs.LogLemmas.{all_before, all_last}
use Rattle.line_record.proofs.entry.take_back.Goals as goal

pub take_back-requires-clause-stands : goal.take_back-requires-clause-stands
take_back-requires-clause-stands g c =
    (back_turn (edit_in c.args.log.now) c.args.entries.now _ _ c.in-Some.newest.now (g.L.EditedLine.value c.args.line.now) (g.L.EditedLine.value c.loop-newest.line)
    c.loop-newest.invariant.left c.in-Some.ensures.cases.0 c.loop-newest.invariant.line c.requires.stand).stands

pub take_back-requires-clause-spelt : goal.take_back-requires-clause-spelt
take_back-requires-clause-spelt g c = all_last (Spelt c.args.log.now) _ _ _ c.in-Some.ensures.cases.0 c.loop-newest.invariant.spelt

pub loop-newest-preserved : goal.loop-newest-preserved
loop-newest-preserved g c =
    let turn = back_turn (edit_in c.args.log.now) c.args.entries.now _ _ c.in-Some.newest.now (g.L.EditedLine.value c.args.line.now) (g.L.EditedLine.value c.loop-newest.line)
    c.loop-newest.invariant.left c.in-Some.ensures.cases.0 c.loop-newest.invariant.line c.requires.stand in
    record { left = turn.left; spelt = all_before (Spelt c.args.log.now) _ _ _ c.in-Some.ensures.cases.0 c.loop-newest.invariant.spelt; line = c.in_ok-take_back.ensures.line ∙ turn.line }
