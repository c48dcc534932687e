use Rattle.std.proofs.Common.{◌≡◌, ◌⊎◌, ℕ, sym, subst, ◌∙◌}
use Rattle.line_editor.specs.Drawing.{ask_anew_effect}
use Rattle.line_editor.specs.Inserting.{put_redraw, way_if_bare}
use Rattle.line_editor.proofs.DoesLemmas.{does_cut_by}
use Rattle.line_editor.proofs.HelpedLemmas.{put_made, put_drawn}
use Rattle.line_editor.specs.declared.way.Way.TheVariants.{AtEnd, Alone, Back, Inside, Whole}
use Rattle.line_editor.proofs.state.State.show_inserted.Goals as goal
use Rattle.line_editor.specs.Values.{draw_effect}

pub returns-in_err-ask_anew : goal.returns-in_err-ask_anew
returns-in_err-ask_anew g c = record { does = does_cut_by ask_anew_effect (λ s v. draw_effect (put_redraw (way_if_bare c.args.way v) c.args.ch c.args.since.now s v) s v) _ _ _ _ c.from_residual.ensures.1 c.in_err-ask_anew.ensures.does }

pub returns-in-AtEnd : goal.returns-in-AtEnd
returns-in-AtEnd g c = record { does = put_made c.args.ch c.args.way c.args.since.now AtEnd _ _ _ _ _ (sym c.way_if_bare.ensures ∙ c.in-AtEnd.is) c.in_ok-ask_anew.ensures.does c.show_short_typed.ensures.does }

pub returns-in-Alone : goal.returns-in-Alone
returns-in-Alone g c = record { does = put_made c.args.ch c.args.way c.args.since.now Alone _ _ _ _ _ (sym c.way_if_bare.ensures ∙ c.in-Alone.is) c.in_ok-ask_anew.ensures.does c.show_appended.ensures.does }

pub returns-in-Inside : goal.returns-in-Inside
returns-in-Inside g c = record { does = put_made c.args.ch c.args.way c.args.since.now Inside _ _ _ _ _ (sym c.way_if_bare.ensures ∙ c.in-Inside.is) c.in_ok-ask_anew.ensures.does c.show_put_in.ensures.does }

pub returns-in-Back : goal.returns-in-Back
returns-in-Back g c = record {
  does = put_drawn c.args.ch c.args.way c.args.since.now _ _ _ _ _ (subst (λ w. ((d : ℕ) × (w ≡ Back d)) ⊎ (w ≡ Whole)) c.way_if_bare.ensures c.in-Back.is) c.in_ok-ask_anew.ensures.does c.draw_since.ensures.does;
}
