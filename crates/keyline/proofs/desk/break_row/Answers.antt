-- The new row is drawn, or the display failed.
use Rattle.std.proofs.Common.{◌∙◌, sym}
use Rattle.keyline.proofs.CloseLemmas.{row_drawn, row_rests, row_undrawn}
use Rattle.keyline.proofs.desk.break_row.Goals as goal

pub returns-then-breaks-clause-row : goal.returns-then-breaks-clause-row
returns-then-breaks-clause-row g c =
    row_drawn g.D.Sink.held g.D.Sink.waits g.D.Sink.has_failed _ _ _ c.write_and_flush.result (sym c.breaks.ensures ∙ c.if-breaks.true)
    c.write_and_flush.ensures.made c.write_and_flush.ensures.refused c.write_and_flush.ensures.fault

pub returns-then-breaks-clause-passes : goal.returns-then-breaks-clause-passes
returns-then-breaks-clause-passes g c =
    row_rests g.D.Sink.held g.D.Sink.waits g.D.Sink.has_failed _ _ c.write_and_flush.result c.write_and_flush.ensures.made c.write_and_flush.ensures.refused

pub returns-clause-row : goal.returns-clause-row
returns-clause-row g c = row_undrawn g.D.Sink.held g.D.Sink.waits g.D.Sink.has_failed _ _ (sym c.breaks.ensures ∙ c.if-breaks.false)
