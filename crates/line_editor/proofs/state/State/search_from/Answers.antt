use Rattle.std.proofs.Common.{rules, refl, ap}
use Rattle.line_help.specs.Search.{hit_of}
use Rattle.line_editor.specs.States.{value_of}
use Rattle.line_editor.proofs.RecallLemmas.{found_shown}
use Rattle.line_editor.proofs.state.State.search_from.Goals as goal
use Rattle.line_editor.proofs.DoesLemmas.{stays_by}

pub returns : goal.returns
returns g c = record {
  does = found_shown c.args.dir c.args.place (hit_of c.in-Some.found) c.args.self.now _ _ _ (search rules)
      (ap (λ place. record (value_of c.args.self.now) { history = place }) c.set_history_index.ensures.place) refl (stays_by refl refl c.set_history_index.ensures.history refl refl refl) c.show_entry.ensures.does;
}
