use Rattle.std.proofs.Common.{true, false, refl, sym, ap, ◌∙◌}
use Rattle.line_keys.specs.PhraseScripts.{is_vi_command}
use Rattle.line_editor.specs.Drawing.{since}
use Rattle.line_editor.specs.States.{value_of, setting_of}
use Rattle.line_editor.proofs.KnownLemmas.{yanked_known}
use Rattle.line_editor.proofs.YankLemmas.{at_anchor, yank_shown, yank_unshown, yank_refused}
use Rattle.line_editor.proofs.state.State.yank_noted.Goals as goal
use Rattle.line_editor.proofs.DoesLemmas.{stays_by}

pub invariant_of-self-then-is_some : goal.invariant_of-self-then-is_some
invariant_of-self-then-is_some g c =
    let s = c.args.self.now in
    record {
      is_known = yanked_known (g.Out.Renderer.canvas.ruler s.out).measure s.layout.prompt_size c.args.text.now c.args.n c.pos-pos.result _ _ s.recorded.line.text _ s.known _
          c.step_on-stepped.ensures.text c.pos-pos.ensures.value c.in_ok-put.ensures.writes.writes.line c.step_back.ensures.text c.known_within-self.ensures s.is_known;
    }

pub returns-in_err-put : goal.returns-in_err-put
returns-in_err-put g c =
    let s = c.args.self.now in
    record {
      does = yank_refused (is_vi_command c.args.input_state.now.mode c.args.input_state.now.input_mode)
          c.args.text.now c.args.anchor c.args.n s _ _ _ _ c.from_residual.ensures.1
          (at_anchor c.args.anchor s _ c.step_on-stepped.ensures.line c.step_on-stepped.ensures.text)
          c.in_err-put.ensures.writes c.in_err-put.ensures.refused refl refl (assumption);
    }

pub returns-then-is_some : goal.returns-then-is_some
returns-then-is_some g c =
    let s = c.args.self.now in
    record {
      does = yank_shown _ (is_vi_command c.args.input_state.now.mode c.args.input_state.now.input_mode) true
          c.args.text.now c.args.anchor c.args.n _ s _ _ _ _ _ _ (at_anchor c.args.anchor s _ c.step_on-stepped.ensures.line c.step_on-stepped.ensures.text)
          c.in_ok-put.ensures.writes (sym c.is_some.ensures ∙ c.if-is_some.true) refl refl
          c.is_vi_cmd_mode.ensures c.step_back.ensures.line c.step_back.ensures.text refl (stays_by refl refl refl refl refl refl)
          (c.since-since.ensures ∙ ap (λ place. since (setting_of s) place (value_of s)) c.place_at-from.ensures) c.refresh_since.ensures.does;
    }

pub returns-then-stepped : goal.returns-then-stepped
returns-then-stepped g c =
    let s = c.args.self.now in
    let vi = is_vi_command c.args.input_state.now.mode c.args.input_state.now.input_mode in
    record {
      does = yank_shown vi vi false c.args.text.now c.args.anchor c.args.n _ s _ _ _ _ _ _
          (at_anchor c.args.anchor s _ c.step_on-stepped.ensures.line c.step_on-stepped.ensures.text)
          c.in_ok-put.ensures.writes (sym c.is_some.ensures ∙ c.if-is_some.false)
          (sym c.step_on-stepped.ensures.stepped ∙ c.if-stepped.true) refl refl refl refl refl (stays_by refl refl refl refl refl refl)
          (c.since-since.ensures ∙ ap (λ place. since (setting_of s) place (value_of s)) c.place_at-from.ensures) c.refresh_since-then-stepped.ensures.does;
    }

pub returns-else-stepped : goal.returns-else-stepped
returns-else-stepped g c =
    let s = c.args.self.now in
    record {
      does = yank_unshown (is_vi_command c.args.input_state.now.mode c.args.input_state.now.input_mode) c.args.text.now c.args.anchor c.args.n s _ _ _ _
          (at_anchor c.args.anchor s _ c.step_on-stepped.ensures.line c.step_on-stepped.ensures.text)
          c.in_ok-put.ensures.writes (sym c.is_some.ensures ∙ c.if-is_some.false) (sym c.step_on-stepped.ensures.stepped ∙ c.if-stepped.false) refl refl refl
          (assumption);
    }
