use Rattle.std.proofs.Common.{rules, ap, ◌∙◌}
use Rattle.std.specs.List.{insert_slice}
use Rattle.line_buffer.proofs.ReplayLemmas.{swaps_insertion}
use Rattle.line_buffer.proofs.line_buffer.LineBuffer.insert_str.Goals as goal

pub returns-clause-edits : goal.returns-clause-edits
returns-clause-edits g c = record {
  told = search rules;
  replays = swaps_insertion _ _ _ _ c.requires.at c.utf8.text
      (c.in_ok-insert_str-2.ensures.bytes ∙ ap (λ t. insert_slice t c.args.idx c.args.text.now) (c.in_ok-reserve.ensures.bytes ∙ ap (λ l. l.text) c.self.view_is));
  line = search rules;
  refused = tt;
  kept = tt;
}
