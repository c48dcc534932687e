use Rattle.std.specs.Prelude.{option_map}
use Rattle.std.proofs.Common.{◌≤◌, length, sym, ap, subst, arith, ◌∙◌}
use Rattle.line_help.specs.Search.{hit_of}
use Rattle.line_editor.proofs.RecallLemmas.{recall_cut, recall_shown}
use Rattle.line_editor.proofs.state.State.recall_earlier.Goals as goal

pub returns-in_err-backup_on_leaving : goal.returns-in_err-backup_on_leaving
returns-in_err-backup_on_leaving g c = record { does = recall_cut c.args.index _ _ _ _ c.from_residual.ensures.1 c.in_err-backup_on_leaving.ensures.does }

pub returns : goal.returns
returns g c = record {
  does = recall_shown c.args.index (hit_of c.in-Some.found) _ _ _ _ _ (rw c.history.ensures at (sym c.get.ensures ∙ ap (option_map hit_of) c.in-Some.is))
      c.in_ok-backup_on_leaving.ensures.does c.show_entry.ensures.does;
}

pub show_entry-requires-clause-index : goal.show_entry-requires-clause-index
show_entry-requires-clause-index g c = subst (λ h. c.args.index ≤ length (g.Hi.History.entries h)) (sym c.in_ok-backup_on_leaving.ensures.does.stays.history_is) (omega (arith, c.requires))
