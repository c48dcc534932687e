use Rattle.std.proofs.Common.{sym, ◌∙◌}
use Rattle.line_record.proofs.UndoLemmas.{undo_turn, nothing_left, ran_out, undoes_in_part}
use Rattle.line_record.proofs.changeset.Changeset.undo_items.Goals as goal

pub loop-preserved : goal.loop-preserved
loop-preserved g c =
    undo_turn c.args.n c.loop.counter c.args.self.now (g.L.EditedLine.value c.args.line.now) (g.L.EditedLine.value c.loop.line) _ c.loop.undone c.loop.self.done c.loop.self.undone _ c.in-Some.is_step
    c.loop.invariant c.loop-test.true (sym c.in-Some.is ∙ c.in_ok-is_step.ensures.answer) c.in_ok-is_step.ensures.items c.in_ok-is_step.ensures.back.line

pub returns-in-None : goal.returns-in-None
returns-in-None g c =
    nothing_left c.args.n c.loop.counter c.args.self.now (g.L.EditedLine.value c.args.line.now) (g.L.EditedLine.value c.loop.line) _ c.loop.undone c.loop.self.done c.loop.self.undone _
    c.loop.invariant (sym c.in-None.is ∙ c.in_ok-is_step.ensures.answer) c.in_ok-is_step.ensures.items c.in_ok-is_step.ensures.back.line

pub returns : goal.returns
returns g c = ran_out c.loop.invariant c.loop-test.false

pub returns-in_err-is_step : goal.returns-in_err-is_step
returns-in_err-is_step g c =
    undoes_in_part c.args.n c.loop.counter c.args.self.now (g.L.EditedLine.value c.args.line.now) (g.L.EditedLine.value c.loop.line) _ c.loop.undone
    c.loop.self _ _ c.from_residual.result c.from_residual.ensures.1 c.loop.invariant c.loop-test.true c.in_err-is_step.ensures.back.part
