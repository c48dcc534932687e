use Rattle.std.proofs.Common.{◌∙◌}
use Rattle.line_record.specs.declared.entry.LoggedChange.{LoggedChange}
use Rattle.line_record.specs.declared.entry.Kind.TheVariants.{Insertion}
use Rattle.line_record.specs.Log.{edit_in}
use Rattle.line_record.proofs.LogLemmas.{ahead_entry}
use Rattle.line_record.proofs.entry.make_anew.Goals as goal

abbrev nothing : LoggedChange
nothing = record { kind = Insertion; at = 0; start = 0; middle = 0; end = 0 }

pub make_anew-requires-clause-fits : goal.make_anew-requires-clause-fits
make_anew-requires-clause-fits g c =
    (ahead_entry (edit_in c.args.log.now) c.args.entries.now c.loop-change.change-index nothing (g.L.EditedLine.value c.args.line.now) (g.L.EditedLine.value c.loop-change.line)
    c.loop-change-test.true c.loop-change.invariant.line c.loop-change.invariant.fit).fits

pub loop-change-preserved : goal.loop-change-preserved
loop-change-preserved g c =
    let turn = ahead_entry (edit_in c.args.log.now) c.args.entries.now c.loop-change.change-index nothing (g.L.EditedLine.value c.args.line.now) (g.L.EditedLine.value c.loop-change.line)
    c.loop-change-test.true c.loop-change.invariant.line c.loop-change.invariant.fit in
    record { line = c.in_ok-make_anew.ensures.line ∙ turn.line; fit = turn.fit _ c.in_ok-make_anew.ensures.line }
