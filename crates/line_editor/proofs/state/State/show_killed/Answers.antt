use Rattle.std.proofs.Common.{◌≡◌, ◌⊎◌, sym, subst, ◌∙◌}
use Rattle.line_editor.specs.Drawing.{ask_anew_effect}
use Rattle.line_editor.specs.Killing.{taken_redraw}
use Rattle.line_editor.specs.States.{value_of}
use Rattle.line_editor.proofs.DoesLemmas.{does_cut_by}
use Rattle.line_editor.proofs.DrawnLemmas.{bare_if}
use Rattle.line_editor.proofs.HelpedLemmas.{taken_made, killed_drawn}
use Rattle.line_editor.specs.declared.way.Way.TheVariants.{AtEnd, Alone, Back, Inside, Whole}
use Rattle.line_editor.proofs.state.State.show_killed.Goals as goal
use Rattle.line_editor.specs.Inserting.{way_if_bare}
use Rattle.line_editor.specs.Values.{draw_effect}

pub returns-in_err-ask_anew : goal.returns-in_err-ask_anew
returns-in_err-ask_anew g c = record { does = does_cut_by ask_anew_effect (λ s v. draw_effect (taken_redraw (way_if_bare c.args.way v) c.args.count c.args.since.now s v) s v) _ _ _ _ c.from_residual.ensures.1 c.in_err-ask_anew.ensures.does }

pub returns-in-AtEnd : goal.returns-in-AtEnd
returns-in-AtEnd g c = record { does = taken_made c.args.count c.args.way c.args.since.now AtEnd _ _ _ _ _ (sym c.way_if_bare.ensures ∙ c.in-AtEnd.is) c.in_ok-ask_anew.ensures.does c.show_short_taken.ensures.does }

pub returns-in-Back : goal.returns-in-Back
returns-in-Back g c = record {
  does = taken_made c.args.count c.args.way c.args.since.now (Back c.in-Back.ch) _ _ _ _ _ (sym c.way_if_bare.ensures ∙ c.in-Back.is) c.in_ok-ask_anew.ensures.does c.show_erased.ensures.does;
}

pub returns-in-Inside : goal.returns-in-Inside
returns-in-Inside g c = record { does = taken_made c.args.count c.args.way c.args.since.now Inside _ _ _ _ _ (sym c.way_if_bare.ensures ∙ c.in-Inside.is) c.in_ok-ask_anew.ensures.does c.show_taken_out.ensures.does }

pub returns-in-Alone : goal.returns-in-Alone
returns-in-Alone g c = record {
  does = killed_drawn c.args.count c.args.way c.args.since.now _ _ _ _ _ (subst (λ w. (w ≡ Alone) ⊎ (w ≡ Whole)) c.way_if_bare.ensures c.in-Alone.is) c.in_ok-ask_anew.ensures.does c.draw_since.ensures.does;
}

pub show_short_taken-requires : goal.show_short_taken-requires
show_short_taken-requires g c = record { bare = bare_if c.args.way AtEnd (value_of c.ask_anew.new.self) (sym c.way_if_bare.ensures ∙ c.in-AtEnd.is) (λ e. cc) }

pub show_erased-requires : goal.show_erased-requires
show_erased-requires g c = record { bare = bare_if c.args.way (Back c.in-Back.ch) (value_of c.ask_anew.new.self) (sym c.way_if_bare.ensures ∙ c.in-Back.is) (λ e. cc) }

pub show_taken_out-requires : goal.show_taken_out-requires
show_taken_out-requires g c = record { bare = bare_if c.args.way Inside (value_of c.ask_anew.new.self) (sym c.way_if_bare.ensures ∙ c.in-Inside.is) (λ e. cc) }
