-- Lines in a loop, with one prompt, and with a prompt and columns for each.
use Rattle.std.proofs.Common.{◌≡◌, ℕ, suc, List, Result, Ok, Err, IsTrue, refl, sym, ap, ◌∙◌, subst}
use Rattle.line_config.specs.declared.errors.ReadlineError.{ReadlineError}
use Rattle.line_screen.specs.ScreenCalls.{NothingWaits, sink_of}
use Rattle.line_screen.specs.declared.renderer.ScreenRenderer.{ScreenRenderer}
use Rattle.keyline.specs.Desks.{TakesLine, TakesLines, desk_feed, session_state_of}
use Rattle.keyline.specs.Events.{session}
use Rattle.keyline.specs.SessionEffects.{KnownDevices, Went, Work, work}
use Rattle.keyline.specs.Sessions.{Given, LineGiven, each, for_line}
use Rattle.keyline.specs.declared.desk.Desk.{Desk}
use Rattle.keyline.proofs.SessionSteps.{Onward, onward_nowhere, onward_ok, onward_err}

pub along : {A B : Type 0} {x y : A} → x ≡ y → (f : A → B) → f x ≡ f y
along same f = ap f same

-- ---- one prompt

-- lines were taken, and this is handed in for the next one
pub record Underway {S H D L : Type 0} (k : KnownDevices S D L) (g h : Given) (first now : Desk S H D L) : Type 0 where
  pub onward : Onward k g (each g) (each g) first now
  pub given : IsTrue (desk_feed k now).told → h ≡ g
  pub custom : h.custom ≡ g.custom

module _ {S H D L : Type 0} (k : KnownDevices S D L) where
  pub underway_nowhere : (g : Given) (d : Desk S H D L) → Underway k g g d d
  underway_nowhere g d = record { onward = onward_nowhere k g (each g) d; given = λ t. refl; custom = refl }

  module _ (g h h' : Given) (first now next : Desk S H D L) (result : Result (List ℕ) ReadlineError) (before : Underway k g h first now) (line : TakesLine k h h' now next result) where
    pub underway_ok : (text : List ℕ) → result ≡ Ok text → (h'' : Given) → h'' ≡ h' → Underway k g h'' first next
    underway_ok text is h'' same = record {
      onward = onward_ok k g (each g) (each g) first now next h h' result before.onward before.given line text is;
      given = λ t. same ∙ (line.given t ∙ before.given (line.told t));
      custom = ap (λ (h : Given). h.custom) same ∙ (line.custom ∙ before.custom);
    }

    pub underway_err : (e : ReadlineError) → result ≡ Err e → TakesLines k g (each g) first next e
    underway_err e is = onward_err k g (each g) (each g) first now next h h' result before.onward before.given line e is before.custom

-- ---- a prompt and columns for each

-- the same where each line is handed its own
pub record Asking {S H D L : Type 0} (k : KnownDevices S D L) (g h : Given) (at at' : ℕ → LineGiven) (first now : Desk S H D L) : Type 0 where
  pub onward : Onward k g at at' first now
  pub given : IsTrue (desk_feed k now).told → (line : LineGiven) → for_line h line ≡ for_line g line
  pub custom : h.custom ≡ g.custom

module _ {S H D L : Type 0} (k : KnownDevices S D L) where
  pub asking_nowhere : (g : Given) (at : ℕ → LineGiven) (d : Desk S H D L) → Asking k g g at at d d
  asking_nowhere g at d = record { onward = onward_nowhere k g at d; given = λ t line. refl; custom = refl }

  -- at a desk with another renderer on the same display
  onward_redrawn : (g : Given) (at at' : ℕ → LineGiven) (first now : Desk S H D L) (out : ScreenRenderer D) → sink_of out ≡ sink_of now.out → Onward k g at at' first now → Onward k g at at' first (record now { out = out })
  onward_redrawn g at at' first now out same before = record {
    told = before.told;
    passes = record { display = λ t none. subst (NothingWaits k.waits k.show_failed) (sym same) (before.passes.display t none); lines = before.passes.lines };
    onward = λ t n b.
        let so = before.onward t n b in
        let lines = session so.0 g at' (session_state_of k now) in
        let P : Work D L → ReadlineError → D → Type 0 = λ end why display.
        Went k.shown k.written_in g.config.auto_add_history lines.events (work display now.lines now.history (desk_feed k now).coming) end (why ≡ lines.answer) (λ e. why ≡ e) in
        (so.0, so.1, λ end why r. so.2 end why (subst (P end why) same r));
  }

  module _ (g h h1 h2 : Given) (at at' : ℕ → LineGiven) (first now now1 next : Desk S H D L) (result : Result (List ℕ) ReadlineError) (before : Asking k g h at at' first now)
      (others : now1 ≡ record now { out = now1.out }) (same : sink_of now1.out ≡ sink_of now.out) (asked : h1 ≡ for_line h (at' 0)) (line : TakesLine k h1 h2 now1 next result) where
    onward_here : Onward k g at at' first now1
    onward_here = let P : Desk S H D L → Type 0 = Onward k g at at' first in subst P (sym others) (onward_redrawn g at at' first now now1.out same before.onward)

    given_here : IsTrue (desk_feed k now1).told → h1 ≡ for_line g (at' 0)
    given_here t = let P : Desk S H D L → Type 0 = λ d. IsTrue (desk_feed k d).told in asked ∙ before.given (subst P others t) (at' 0)

    custom_here : h1.custom ≡ g.custom
    custom_here = ap (λ (h : Given). h.custom) asked ∙ before.custom

    pub asking_ok : (text : List ℕ) → result ≡ Ok text → (at'' : ℕ → LineGiven) → at'' ≡ (λ line. at' (suc line))
        → (h' : Given) → ((line : LineGiven) → for_line h' line ≡ for_line h2 line) → h'.custom ≡ h2.custom → Asking k g h' at at'' first next
    asking_ok text is at'' later h' alike customs = record {
      onward = subst (λ at''. Onward k g at at'' first next) (sym later) (onward_ok k g at at' first now1 next h1 h2 result onward_here given_here line text is);
      given = λ t l. alike l ∙ ap (λ (h : Given). for_line h l) (line.given t ∙ given_here (line.told t));
      custom = customs ∙ (line.custom ∙ custom_here);
    }

    pub asking_err : (e : ReadlineError) → result ≡ Err e → TakesLines k g at first next e
    asking_err e is = onward_err k g at at' first now1 next h1 h2 result onward_here given_here line e is custom_here
