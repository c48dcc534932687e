use Rattle.std.proofs.Common.{rules, sym, ◌∙◌}
use Rattle.line_buffer.proofs.LeftLemmas.{stopped_killing, stopped_unmarked}
use Rattle.line_buffer.proofs.line_buffer.LineBuffer.kill_range.Goals as goal

pub returns-then-goes_by_clusters : goal.returns-then-goes_by_clusters
returns-then-goes_by_clusters g c =
    let cuts = c.delete_named.ensures in
    record {
      edits = record {
        answer = cuts.edits.answer;
        told = search rules;
        line = cuts.edits.line;
        left = stopped_unmarked _ _ _ _ _ _ _ _ _ (sym c.goes_by_clusters.ensures ∙ c.if-goes_by_clusters.true) cuts.edits.left;
        settings = cuts.edits.settings;
      };
      shrinks = cuts.shrinks;
    }

pub returns : goal.returns
returns g c =
    let cuts = c.delete_named-killed.ensures in
    record {
      edits = record {
        answer = cuts.edits.answer;
        told = search rules;
        line = cuts.edits.line;
        left = stopped_killing _ _ _ _ _ _ _ _ _ _ _ (sym c.goes_by_clusters.ensures ∙ c.if-goes_by_clusters.false) c.start_killing.ensures cuts.edits.left c.stop_killing.ensures;
        settings = cuts.edits.settings;
      };
      shrinks = cuts.shrinks;
    }
