-- Whether the history was saved is what `save_if` answered.
use Rattle.std.proofs.Common.{◌∙◌, rules}
use Rattle.keyline.proofs.OpenedLemmas.{unread_at_end}
use Rattle.keyline.proofs.session.Session.close.Goals as goal

pub returns : goal.returns
returns g c = record {
  saved = c.save_if-saved.result;
  saves = c.save_if-saved.ensures;
  ending_is = c.from-ending.ensures ∙ c.ending_after.ensures;
  source_is = search rules;
  ahead_is = search rules;
  unread_is = unread_at_end g.S.Source.feed c.args.self.desk.reader _ _ (search rules) (search rules);
  display_is = search rules;
  lines_are = search rules;
}
