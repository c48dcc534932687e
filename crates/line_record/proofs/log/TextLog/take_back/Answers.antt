use Rattle.std.proofs.Common.{ℕ, List, string_bytes, sym, subst, All, slice_range}
use Rattle.line_record.specs.declared.entry.LoggedChange.{LoggedChange}
use Rattle.line_record.specs.Change.{Change, AllStandIn}
use Rattle.line_record.specs.Items.{TakesBack}
use Rattle.line_record.specs.Log.{Spelt}
use Rattle.line_record.proofs.LogLemmas.{range_spelt, range_seen}
use Rattle.line_record.proofs.log.TextLog.take_back.Goals as goal

pub take_back-requires : goal.take_back-requires
take_back-requires g c = record {
  spelt = subst (λ (t : List ℕ). All (Spelt t) (slice_range c.deref-2.result.now c.args.first c.args.last)) (sym c.deref.ensures)
      (subst (λ (es : List LoggedChange). All (Spelt (string_bytes c.self.inside.text)) (slice_range es c.args.first c.args.last)) (sym c.deref-2.ensures.value)
      (range_spelt (string_bytes c.self.inside.text) c.self.inside.entries.items c.args.first c.args.last c.self.invariant));
  stand = subst (λ (es : List Change). AllStandIn es (g.L.EditedLine.value c.args.line.now).text)
      (sym (range_seen _ _ _ _ _ c.args.first c.args.last c.deref.ensures c.deref-2.ensures.value c.self.view_is)) c.requires.stand;
}

pub returns : goal.returns
returns g c = subst (λ (es : List Change). TakesBack es (g.L.EditedLine.value c.args.line.now) (g.L.EditedLine.value c.take_back.new.line) c.take_back.result)
    (range_seen _ _ _ _ _ c.args.first c.args.last c.deref.ensures c.deref-2.ensures.value c.self.view_is) c.take_back.ensures
