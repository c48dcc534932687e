-- The session by options, over what is said of its keys, and then its writers flushed.
use Rattle.std.proofs.Common.{[], refl, subst, sym, unwrap_or}
use Rattle.line_config.specs.Adapters.{bytes_not_sent, bytes_sent}
use Rattle.line_config.specs.Feed.{Feed}
use Rattle.keyline.specs.Keeping.{KeepsRows}
use Rattle.keyline.specs.Program.{word_texts}
use Rattle.keyline.specs.SessionCalls.{history_loaded_from}
use Rattle.keyline.proofs.PlayedLemmas.{fails_still, fresh_coming, fresh_sink, handed_on, played}
use Rattle.keyline.proofs.program.play_with.Goals as goal

pub returns-clause-plays : goal.returns-clause-plays
returns-clause-plays g c =
    let devices = c.in-Ok.devices in
    let over = c.in-Ok.ensures in
    record {
      plays = λ agrees.
          rw (sym c.is_some.ensures)
          (played _ _ _ _ c.is_some.result c.args.config c.args.options.now (word_texts c.args.words) (unwrap_or (g.E.Write.contents c.args.display) []) (unwrap_or (g.W.Write.contents c.args.lines) []) c.args.old.now (g.K.Foretold.left c.args.keys []) g.K.Foretold.last
          c.new-2.result devices.source devices.display devices.lines c.new-3.result c.in-Ok-edit_with.played c.flush.new.self c.flush-2.new.self
          c.in-Ok-edit_with.ensures.edits (λ s. refl) c.new-2.ensures
          (fresh_coming g.K.Foretold.left c.args.keys _ _ _ _ over.source.reader_is over.source.unread over.source.none_given over.source.none_met) refl over.bound
          (fresh_sink _ _ _ over.display.sent over.display.unsent) (fresh_sink _ _ _ over.lines.sent over.lines.unsent) c.new-3.ensures.empty
          c.flush.ensures.held (fails_still c.flush.result _ _ c.flush.ensures.failure c.flush.ensures.for_good)
          c.flush-2.ensures.held (fails_still c.flush-2.result _ _ c.flush-2.ensures.failure c.flush-2.ensures.for_good) agrees);
      drawn = λ works. sym (fresh_sink (bytes_sent c.flush.new.self) (bytes_not_sent c.flush.new.self) _ refl (handed_on c.flush.result _ c.flush.ensures.failure works c.flush.ensures.waits));
      written = λ works. sym (fresh_sink (bytes_sent c.flush-2.new.self) (bytes_not_sent c.flush-2.new.self) _ refl (handed_on c.flush-2.result _ c.flush-2.ensures.failure works c.flush-2.ensures.waits));
    }

pub returns-clause-kept : goal.returns-clause-kept
returns-clause-kept g c =
    subst (λ (feed : Feed). KeepsRows g.T.Sink.held g.T.Sink.has_failed (history_loaded_from c.args.config feed) c.in-Ok-edit_with.played.history c.args.keeper.now c.edit_with.new.keeper)
    c.new-2.ensures (c.in-Ok-edit_with.ensures.kept (λ s. refl))
