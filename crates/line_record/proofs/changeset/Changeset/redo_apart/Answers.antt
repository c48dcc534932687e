use Rattle.std.proofs.Common.{ap, ◌∙◌}
use Rattle.line_record.specs.Items.{lines_ahead, nearest_changes}
use Rattle.line_record.proofs.GapLemmas.{ahead_apart, with_text_of}
use Rattle.line_record.proofs.changeset.Changeset.redo_apart.Goals as goal

pub returns : goal.returns
returns c =
    let cs = nearest_changes c.args.self.now.undone in
    record {
      answer = c.in_ok-redone.ensures.answer;
      items = c.in_ok-redone.ensures.items;
      anew = record {
        line = c.in_ok-write.ensures.line ∙ ap (with_text_of c.args.line.now) (c.in_ok-redone.ensures.anew.line ∙ ap (lines_ahead cs) c.in_ok-apart.ensures) ∙ ahead_apart cs c.args.line.now;
        part = tt;
      };
    }
