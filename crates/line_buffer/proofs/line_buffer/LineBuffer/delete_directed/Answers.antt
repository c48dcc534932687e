use Rattle.std.proofs.Common.{[], rules, ap, ◌∙◌}
use Rattle.std.specs.List.{replace_range}
use Rattle.line_buffer.proofs.GapLemmas.{swaps_deletion}
use Rattle.line_buffer.proofs.line_buffer.LineBuffer.delete_directed.Goals as goal

pub returns : goal.returns
returns g c = record {
  told = search rules;
  replays = swaps_deletion _ _ _ _ c.requires.order c.requires.start c.requires.end
      (c.take_out.ensures ∙ ap (λ t. replace_range t c.args.range.start c.args.range.end []) (ap (λ l. l.text) c.self.view_is));
  line = search rules;
  refused = tt;
  kept = tt;
}
