use Rattle.std.proofs.Common.{rules, ◌≡◌, length, refl, ap}
use Rattle.line_editor.specs.States.{value_of, setting_of}
use Rattle.line_editor.proofs.RecallLemmas.{back_cut}
use Rattle.line_editor.proofs.state.State.come_back.Goals as goal
use Rattle.line_editor.proofs.DoesLemmas.{stays_by}

pub returns-in_err-restore : goal.returns-in_err-restore
returns-in_err-restore g c =
    let at : c.set_history_index.new.self.place ≡ length (setting_of c.args.self.now).entries = search rules in
    record {
      does = back_cut c.args.self.now _ _ _ _ c.from_residual.ensures.1 (ap (λ place. record (value_of c.args.self.now) { history = place }) at) refl
          (stays_by refl refl c.set_history_index.ensures.history refl refl refl) c.in_err-restore.ensures.does;
    }
