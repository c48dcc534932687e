-- The drawings from a place on, by what was noted before a change.
use Rattle.std.proofs.Common.{◌≡◌, ℕ, ◌&&◌, Bool, true, false, not, is_some, List, [], Option, Some, None, refl, sym, ap, ◌∙◌, if◌then◌else◌}
use Rattle.std.proofs.lemmas.Option.{cond_some}
use Rattle.line_help.specs.declared.helpers.style.Style.{Style}
use Rattle.line_editor.specs.Drawing.{Since, line_spans, kept_upto, draw_effect_since, draw_effect_behind}
use Rattle.line_editor.specs.Redraws.{Redraw, Redraw.DrawnFrom}
use Rattle.line_editor.specs.RenderCalls.{Marks}
use Rattle.line_editor.specs.SharedStyles.{noted_styles, told_styles}
use Rattle.line_editor.specs.Sights.{drawn_spans}
use Rattle.line_editor.specs.Values.{Value, Setting, draw_effect, marks_seen, shown_hint}
use Rattle.line_editor.specs.Characters.{begins_apart_at}

-- a line that isn't marked has no styles
pub unmarked_line : (marks : Option Marks) (told : Bool) (prompt text : List ℕ) (place : ℕ) (info : List ℕ) → (drawn_spans (marks_seen false told marks) true prompt text place info).line ≡ []
unmarked_line None told prompt text place info = refl
unmarked_line (Some m) told prompt text place info = refl

pub no_line_spans : (s : Setting) (v : Value) → v.marked ≡ false → line_spans s v ≡ []
no_line_spans s v is =
    ap (λ x. (drawn_spans (marks_seen x (not (is_some v.hint)) s.marks) true s.prompt v.line.text v.line.place []).line) is
    ∙ unmarked_line s.marks (not (is_some v.hint)) s.prompt v.line.text v.line.place []

pub unmarked_noted : (from : ℕ) (s : Setting) (v : Value) → v.marked ≡ false → noted_styles from None ≡ told_styles from (line_spans s v)
unmarked_noted from s v is = ap (told_styles from) (sym (no_line_spans s v is))

pub since_noted : (b c : Bool) (from : ℕ) (styles told : List Style) (found : Since) → b ≡ true → c ≡ true → found ≡ record { from = from; styles = styles } → styles ≡ told
    → Some found ≡ (if b && c then Some (record { from = from; styles = told }) else None)
since_noted b c from styles told found h k made is = rw (h, k, made, is)

no_place : (b : Bool) (kept : ℕ) → None ≡ (if b then Some kept else None) → b ≡ false
no_place true kept h = cc
no_place false kept h = refl

module _ (since : Option Since) (s : Setting) (v : Value) where
  pub whole_unnoted : since ≡ None → draw_effect_behind s.prompt true s v ≡ draw_effect_since since s v
  whole_unnoted is = ap (λ o. draw_effect_since o s v) (sym is)

  module _ (before : Since) (is : since ≡ Some before) where
    abbrev drawn_at : ℕ → Redraw
    drawn_at from = DrawnFrom s.prompt from v.line.text v.line.place (shown_hint v)

    abbrev kept : ℕ
    kept = kept_upto before s v

    pub drawn_noted : (from : ℕ) → Some from ≡ (if (begins_apart_at v.line.text before.from && begins_apart_at v.line.text kept) then Some kept else None) → draw_effect (drawn_at from) s v ≡ draw_effect_since since s v
    drawn_noted from place =
        let found = cond_some ((begins_apart_at v.line.text before.from && begins_apart_at v.line.text kept)) kept from (sym place) in
        rw (is, found.0, found.1)

    pub whole_noted : None ≡ (if (begins_apart_at v.line.text before.from && begins_apart_at v.line.text kept) then Some kept else None) → draw_effect_behind s.prompt true s v ≡ draw_effect_since since s v
    whole_noted none =
        rw (is, no_place ((begins_apart_at v.line.text before.from && begins_apart_at v.line.text kept)) kept none)
