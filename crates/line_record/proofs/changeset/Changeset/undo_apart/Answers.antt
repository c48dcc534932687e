use Rattle.std.proofs.Common.{refl, ap, ◌∙◌}
use Rattle.line_record.specs.Items.{lines_back, last_changes}
use Rattle.line_record.proofs.GapLemmas.{back_apart, nothing_undone, with_text_of}
use Rattle.line_record.proofs.changeset.Changeset.undo_apart.Goals as goal

pub returns : goal.returns
returns c =
    let cs = last_changes c.args.n c.args.self.now.done in
    record {
      answer = c.in_ok-undone.ensures.answer;
      items = c.in_ok-undone.ensures.items;
      back = record {
        line = c.in_ok-write.ensures.line ∙ ap (with_text_of c.args.line.now) (c.in_ok-undone.ensures.back.line ∙ ap (lines_back cs) c.in_ok-apart.ensures) ∙ back_apart cs c.args.line.now;
        part = tt;
      };
    }

pub returns-in_err-apart : goal.returns-in_err-apart
returns-in_err-apart c = nothing_undone c.args.n _ _ _ _ _ _ c.from_residual.ensures.1 c.requires.some refl

pub returns-in_err-undone : goal.returns-in_err-undone
returns-in_err-undone c = nothing_undone c.args.n _ _ _ _ _ _ c.from_residual-in_err-undone.ensures.1 c.requires.some refl

pub returns-in_err-write : goal.returns-in_err-write
returns-in_err-write c = nothing_undone c.args.n _ _ _ _ _ _ c.from_residual-in_err-write.ensures.1 c.requires.some c.in_err-write.ensures.kept
