-- Lines one after the other make a session: a line in front of a session, and the line that ends it.
use Rattle.std.proofs.Common.{◌≡◌, ℕ, zero, suc, ◌<◌, List, refl, sym, ap, subst, append-nil, IsTrue, Result, Ok, Err, IfErr, OnOk, arith}
use Rattle.line_config.specs.declared.errors.ReadlineError.{ReadlineError, TheVariants.Handler}
use Rattle.script.proofs.ScriptLaws.{fault_or, ok_not_err}
use Rattle.line_keys.specs.CustomBindings.{HandlerFails}
use Rattle.keyline.specs.Desks.{PassesOn, TakesLine, TakesLines, DeskReason, desk_feed, session_state_of, work_of}
use Rattle.keyline.specs.Events.{Course, events_first, course_after_line, line_course, session}
use Rattle.keyline.specs.SessionEffects.{KnownDevices, AreDone, Went, Work}
use Rattle.keyline.specs.Sessions.{Given, LineGiven, SessionState, for_line}
use Rattle.keyline.specs.Shows.{EachShown}
use Rattle.keyline.specs.declared.desk.Desk.{Desk}
use Rattle.keyline.proofs.EventLemmas.{went_before, went_behind, went_cases, went_not, went_so, went_whole}
use Rattle.keyline.proofs.ShowCourse.{first_shown, sessions_show}

lower : (a b m : ℕ) → a < b → b < suc m → a < m
lower a b m less below = search arith

-- ---- the loop

module _ {S H D L : Type 0} (k : KnownDevices S D L) where
  -- a session from this desk on
  abbrev pub Onwards : ℕ → Given → (ℕ → LineGiven) → Desk S H D L → Work D L → ReadlineError → Type 0
  Onwards n g at d end why =
      let lines = session n g at (session_state_of k d) in
      Went k.shown k.written_in g.config.auto_add_history lines.events (work_of k d) end (why ≡ lines.answer) (λ e. why ≡ e)

-- lines were taken: what is read, drawn, kept and written from here on is, with them, what is so from the first desk on
pub record Onward {S H D L : Type 0} (k : KnownDevices S D L) (g : Given) (at at' : ℕ → LineGiven) (first now : Desk S H D L) : Type 0 where
  pub told : IsTrue (desk_feed k now).told → IsTrue (desk_feed k first).told
  pub passes : PassesOn k first now
  pub onward : IsTrue (desk_feed k now).told → (n : ℕ) → (desk_feed k first).bound < n → (m : ℕ) × ((desk_feed k now).bound < m)
      × ((end : Work D L) (why : ReadlineError) → Onwards k m g at' now end why → Onwards k n g at first end why)

module _ {S H D L : Type 0} (k : KnownDevices S D L) where
  pub onward_nowhere : (g : Given) (at : ℕ → LineGiven) (d : Desk S H D L) → Onward k g at at d d
  onward_nowhere g at d = record { told = λ t. t; passes = record { display = λ t none. none; lines = λ none. none }; onward = λ t n b. (n, b, λ end why r. r) }

  abbrev LineComes : Given → ℕ → Desk S H D L → Desk S H D L → Result (List ℕ) ReadlineError → Type 0
  LineComes g n now next result =
      let line = line_course n g (session_state_of k now) in
      Went k.shown k.written_in g.config.auto_add_history line.events (work_of k now) (work_of k next)
      ((result, session_state_of k next) ≡ line.answer) (λ e. result ≡ Err e)

  module _ (g : Given) (at : ℕ → LineGiven) (n : ℕ) (now next : Desk S H D L) where
    abbrev later : SessionState → Course ReadlineError
    later = session n g (λ line. at (suc line))

    -- what such a line's answer leads to
    abbrev Leads : Work D L → ReadlineError → Result (List ℕ) ReadlineError × SessionState → Type 0
    Leads end why answer =
        let c = events_first (line_course (suc n) (for_line g (at 0)) (session_state_of k now)).events (course_after_line later answer) in
        Went k.shown k.written_in g.config.auto_add_history c.events (work_of k now) end (why ≡ c.answer) (λ e. why ≡ e)

    -- a line that was accepted, and a session after it
    line_on : (said : List ℕ) → LineComes (for_line g (at 0)) (suc n) now next (Ok said)
        → (end : Work D L) (why : ReadlineError) → Onwards k n g (λ line. at (suc line)) next end why → Onwards k (suc n) g at now end why
    unfolding session
    line_on said w end why r = went_cases w (λ done whole. subst (Leads end why) whole (went_behind done r)) (λ cut. went_not (λ e is. ok_not_err said e is) cut)

    -- a line that wasn't
    line_off : (e : ReadlineError) → LineComes (for_line g (at 0)) (suc n) now next (Err e) → Onwards k (suc n) g at now (work_of k next) e
    unfolding session
    line_off e w =
        let line = line_course (suc n) (for_line g (at 0)) (session_state_of k now) in
        went_cases w
        (λ done whole. subst (Leads (work_of k next) e) whole
        (went_whole (subst (λ events. AreDone k.shown k.written_in g.config.auto_add_history events (work_of k now) (work_of k next)) (sym (append-nil line.events)) done) refl))
        (λ cut. went_before (course_after_line later line.answer).events (went_so (λ why is. ap (fault_or e) is) cut))

  module _ (g : Given) (at at' : ℕ → LineGiven) (first now next : Desk S H D L) (h h' : Given) (result : Result (List ℕ) ReadlineError)
      (before : Onward k g at at' first now) (given : IsTrue (desk_feed k now).told → h ≡ for_line g (at' 0)) (line : TakesLine k h h' now next result) where
    line_comes : (n : ℕ) → IsTrue (desk_feed k next).told → (desk_feed k now).bound < n → LineComes (for_line g (at' 0)) n now next result
    line_comes n t b = let P : Given → Type 0 = λ h. LineComes h n now next result in subst P (given (line.told t)) (line.goes t n b).went

    pub onward_ok : (text : List ℕ) → result ≡ Ok text → Onward k g at (λ line. at' (suc line)) first next
    onward_ok text is = record {
      told = λ t. before.told (line.told t);
      passes = record { display = λ t none. line.passes.display t (before.passes.display (line.told t) none); lines = λ none. line.passes.lines (before.passes.lines none) };
      onward = λ t n b. let so = before.onward (line.told t) n b in went t so.0 so.1 so.2;
    }
      where
        went : IsTrue (desk_feed k next).told → (m : ℕ) → (desk_feed k now).bound < m
            → {Q : Work D L → ReadlineError → Type 0}
            → ((end : Work D L) (why : ReadlineError) → Onwards k m g at' now end why → Q end why)
            → (m' : ℕ) × ((desk_feed k next).bound < m')
            × ((end : Work D L) (why : ReadlineError) → Onwards k m' g (λ line. at' (suc line)) next end why → Q end why)
        went t zero b so = absurd (search arith)
        went t (suc m) b so =
            let P : Result (List ℕ) ReadlineError → Type 0 = λ result. LineComes (for_line g (at' 0)) (suc m) now next result in
            let F : Result (List ℕ) ReadlineError → Type 0 = λ result. OnOk result ((desk_feed k next).bound < (desk_feed k now).bound) in (
              m,
              lower (desk_feed k next).bound (desk_feed k now).bound m (subst F is line.falls) b,
              λ end why r. so end why (line_on g at' m now next text (subst P is (line_comes (suc m) t b)) end why r),
            )

    pub onward_err : (e : ReadlineError) → result ≡ Err e → h.custom ≡ g.custom → TakesLines k g at first next e
    onward_err e is custom = record {
      goes = λ t n b.
          let so = before.onward (line.told t) n b in
          let w = ends t so.0 so.1 (so.2 (work_of k next) e) in
          record {
            went = w;
            shows = λ f rest. first_shown w.done w.others f (subst (EachShown f) w.split (sessions_show n g at (session_state_of k first) f rest));
          };
      passes = record { display = λ t none. line.passes.display t (before.passes.display (line.told t) none); lines = λ none. line.passes.lines (before.passes.lines none) };
      reason = let P : Result (List ℕ) ReadlineError → Type 0 = λ result. IfErr result (DeskReason k h next) in reason_kept e (subst P is line.reason);
    }
      where
        ends : IsTrue (desk_feed k next).told → (m : ℕ) → (desk_feed k now).bound < m → {Q : Type 0}
            → (Onwards k m g at' now (work_of k next) e → Q) → Q
        ends t zero b so = absurd (search arith)
        ends t (suc m) b so =
            let P : Result (List ℕ) ReadlineError → Type 0 = λ result. LineComes (for_line g (at' 0)) (suc m) now next result in
            so (line_off g at' m now next e (subst P is (line_comes (suc m) t b)))

        reason_kept : (e : ReadlineError) → DeskReason k h next e → DeskReason k g next e
        reason_kept Handler r = subst HandlerFails custom r
        reason_kept _ r = r
