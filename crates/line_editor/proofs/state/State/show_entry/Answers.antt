use Rattle.std.proofs.Common.{refl}
use Rattle.line_editor.proofs.RecallLemmas.{entry_put, entry_refused}
use Rattle.line_editor.proofs.state.State.show_entry.Goals as goal
use Rattle.line_editor.proofs.DoesLemmas.{stays_by}

pub returns-in_err-update_grouped : goal.returns-in_err-update_grouped
returns-in_err-update_grouped g c = record {
  does = entry_refused c.args.index c.args.entry.now c.args.pos c.args.self.now _ _ _
      c.from_residual.ensures.1 c.set_history_index.ensures.place c.in_err-update_grouped.ensures refl refl (assumption);
}

pub returns : goal.returns
returns g c = record {
  does = entry_put c.args.index c.args.entry.now c.args.pos c.args.self.now _ _ _ _ c.set_history_index.ensures.place c.in_ok-update_grouped.ensures refl refl
      (stays_by refl refl c.set_history_index.ensures.history refl refl refl) c.refresh.ensures.does;
}
