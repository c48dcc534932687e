-- The end of a line: an exit for each fault, and the one where all went well.
use Rattle.std.proofs.Common.{◌≡◌, ℕ, append-nil, Bool, true, false, ◌&&◌, List, [], ◌∷◌, inl, inr, refl, sym, ap, ◌∙◌, subst, true≢false, IsTrue, Result, Ok, Err, IfErr, Global}
use Rattle.std.specs.Prelude.{IfOk, MatchResult, OnErr, OnOk, ⊤, String, if◌then◌else◌, string_bytes}
use Rattle.line_config.specs.declared.errors.ReadlineError.{ReadlineError, TheVariants.Display, TheVariants.Lines, TheVariants.Memory}
use Rattle.line_config.specs.Sending.{TakesBytes, Sends}
use Rattle.script.proofs.ScriptLaws.{err_in}
use Rattle.line_config.proofs.Taking.{takes_none}
use Rattle.line_editor.specs.LineRun.{breaks_after}
use Rattle.line_help.specs.History.{Filed, takes}
use Rattle.line_keys.specs.KeyFeeds.{Coming, answer_map}
use Rattle.line_screen.specs.ScreenCalls.{NothingWaits, Sent, CutSending, sink_of}
use Rattle.line_screen.specs.Drawing.{row_break, break_if}
use Rattle.line_screen.specs.declared.renderer.ScreenRenderer.{ScreenRenderer}
use Rattle.line_screen.proofs.WaitingLemmas.{sent_rests, unsent_rests}
use Rattle.keyline.specs.SessionEffects.{AreDone, Closes, DrawsEnd, CutSessionEvent, RowIsCut, RowIsDrawn, WantsMemory, Went, Work, breaks, work}
use Rattle.keyline.specs.Events.{SessionEvent, Breaks, Keeps, Writes, end_events}
use Rattle.keyline.specs.Sessions.{history_after, history_with_if, line_text}
use Rattle.keyline.proofs.EventLemmas.{none_done, remembered_none, went_stopped, went_whole}

-- ---- the end of a line on the display and in the history

module _ {D : Type 0} (shown : D → List ℕ) (show_failed : D → Bool) (adds : Bool) (outcome : Result (List ℕ) ReadlineError) (d d' : D) (h h' : Filed) where
  abbrev pub EndIsDrawn : Type 0
  EndIsDrawn = DrawsEnd shown show_failed adds outcome d d' h h' (Ok (tt {0}))

  abbrev pub EndIsCut : ReadlineError → Type 0
  EndIsCut e = DrawsEnd shown show_failed adds outcome d d' h h' {A = ⊤} (Err e)

module _ {D : Type 0} (held waits : D → List ℕ) (failed : D → Bool) where
  pub row_drawn : {A : Type 0} (asked : Bool) (old new : ScreenRenderer D) (result : Result A ReadlineError) → asked ≡ true → OnOk result (Sent held waits failed row_break old new) → OnErr result (CutSending held failed row_break old new) → IfErr result (λ e. e ≡ Display)
      → MatchResult result (λ _. RowIsDrawn held failed asked (sink_of old) (sink_of new)) (λ e. (e ≡ Display) × RowIsCut held failed asked (sink_of old) (sink_of new))
  row_drawn asked old new (Ok x) is sent unsent fault = record {
    drawn = subst (λ b. TakesBytes held (sink_of old) (sink_of new) (break_if b)) (sym is) sent.takes;
    works = sent.works;
    stays = λ no. absurd (true≢false (sym is ∙ no));
  }
  row_drawn asked old new (Err e) is sent unsent fault = (fault, (is, unsent.begins, unsent.fails))

  pub row_undrawn : (asked : Bool) (sink : D) → asked ≡ false → RowIsDrawn held failed asked sink sink
  row_undrawn asked sink is = record { drawn = subst (λ b. TakesBytes held sink sink (break_if b)) (sym is) (takes_none held sink sink refl); works = refl; stays = λ no. refl }

  pub row_rests : {A : Type 0} (old new : ScreenRenderer D) (result : Result A ReadlineError) → OnOk result (Sent held waits failed row_break old new) → OnErr result (CutSending held failed row_break old new)
      → NothingWaits waits failed (sink_of old) → NothingWaits waits failed (sink_of new)
  row_rests old new (Ok x) sent unsent none = sent_rests held waits failed row_break old new none sent
  row_rests old new (Err e) sent unsent none = unsent_rests held waits failed row_break old new unsent

module _ {D : Type 0} (shown : D → List ℕ) (show_failed : D → Bool) (adds : Bool) (outcome : Result (List ℕ) ReadlineError) (d d' : D) (h : Filed) where
  abbrev End : {A : Type 0} → Filed → Result A ReadlineError → Type 0
  End h' result = DrawsEnd shown show_failed adds outcome d d' h h' result

  abbrev Row : Type 0
  Row = RowIsDrawn shown show_failed (breaks outcome) d d'

  -- the display failed
  pub end_cut : {A : Type 0} (result : Result A ReadlineError) (e : ReadlineError) → result ≡ Err e → e ≡ Display → RowIsCut shown show_failed (breaks outcome) d d' → End h result
  end_cut result e is display cut = rw (is, display) (cut, refl)

  -- an accepted line is in the history, or memory ran out for it
  pub end_kept : {A : Type 0} (text : List ℕ) (h' : Filed) (result : Result A ReadlineError) → outcome ≡ Ok text → Row → OnOk result (h' ≡ history_with_if adds (text ∷ []) h) → OnErr result (h' ≡ h)
      → IfErr result (λ e. (e ≡ Memory) × IsTrue (adds && takes h text)) → End h' result
  end_kept text h' (Ok x) is row added kept fault = (row, subst (λ o. h' ≡ history_after adds o h) (sym is) added)
  end_kept text h' (Err e) is row added kept fault = rw fault.0 (row, subst (λ o. WantsMemory adds h o Memory) (sym is) (refl, fault.1), kept)

  -- no line was accepted
  pub end_other : (e : ReadlineError) → outcome ≡ Err e → Row → EndIsDrawn shown show_failed adds outcome d d' h h
  end_other e is row = (row, sym (ap (λ o. history_after adds o h) is))

-- ---- and the line that is written

module _ {D L : Type 0} (shown : D → List ℕ) (show_failed : D → Bool) (written_in : L → List ℕ) (write_failed : L → Bool) where
  abbrev Ends : Bool → Result (List ℕ) ReadlineError → (Coming → Work D L) → (Coming → Work D L) → Result (List ℕ) ReadlineError → Type 0
  Ends adds outcome old new result = Closes shown show_failed written_in write_failed adds outcome old new result

  -- the display failed at the new row, which is the first of an end's events
  undrawn_goes : {W : Type 0} {F : ReadlineError → Type 0} (adds : Bool) (outcome : Result (List ℕ) ReadlineError) (x y : Work D L) → IsTrue (breaks outcome)
      → CutSessionEvent shown written_in adds x Breaks Display y → F Display → Went shown written_in adds (end_events outcome) x y W F
  undrawn_goes adds (Ok text) x y asked cut is = went_stopped Breaks (Keeps text ∷ (Writes text ∷ [])) Display (none_done x) cut is
  undrawn_goes adds (Err e) x y asked cut is = rw asked (went_stopped Breaks [] Display (none_done x) cut is)

  -- a line that gets a new row isn't one that stays
  stays_not : (P : ReadlineError → Type 0) (outcome : Result (List ℕ) ReadlineError) → IsTrue (breaks outcome)
      → IfErr outcome (λ e. breaks_after e ≡ false → P e)
  stays_not P (Ok text) asked = tt
  stays_not P (Err e) asked = λ other. absurd (true≢false (sym asked ∙ other))

  closes_undrawn : (adds : Bool) (outcome : Result (List ℕ) ReadlineError) (d d' : D) (l : L) (h : Filed) → RowIsCut shown show_failed (breaks outcome) d d'
      → Ends adds outcome (work d l h) (work d' l h) (Err Display)
  closes_undrawn adds outcome d d' l h (asked, some, failed) = record {
    goes = λ coming. undrawn_goes adds outcome (work d l h coming) (work d' l h coming) asked (some, refl) refl;
    stays = stays_not _ outcome asked;
    reason = λ coming. inr (inl (refl, failed));
    display_is = λ coming. inl refl;
    lines_are = λ coming. inr refl;
  }

  abbrev Sums : Bool → List SessionEvent → Work D L → Work D L → Type 0
  Sums adds events old new = AreDone shown written_in adds events old new

  row_done : (adds : Bool) (d d' : D) (l : L) (h : Filed) (coming : Coming) → TakesBytes shown d d' row_break → Sums adds (Breaks ∷ []) (work d l h coming) (work d' l h coming)
  row_done adds d d' l h coming drawn = record { drawn = drawn; wrote = takes_none written_in l l refl; history_is = sym (remembered_none adds h); left_is = refl; answered = tt }

  -- the history could take no line
  closes_unkept : (adds : Bool) (text : List ℕ) (d d' : D) (l : L) (h : Filed)
      → TakesBytes shown d d' row_break → show_failed d' ≡ show_failed d → IsTrue (adds && takes h text)
      → Ends adds (Ok text) (work d l h) (work d' l h) (Err Memory)
  closes_unkept adds text d d' l h drawn works adding = record {
    goes = λ coming. went_stopped (Keeps text) (Writes text ∷ []) Memory (row_done adds d d' l h coming drawn) (adding, refl) refl;
    stays = tt;
    reason = λ coming. inr (inr (inr (refl, adding)));
    display_is = λ coming. inr works;
    lines_are = λ coming. inr refl;
  }

  -- the line's text and newline were written, or torn
  closes_written : {A : Type 0} (adds : Bool) (text : List ℕ) (d d' : D) (l l' : L) (h h' : Filed) (written : Result A ReadlineError)
      → TakesBytes shown d d' row_break → show_failed d' ≡ show_failed d → h' ≡ history_with_if adds (text ∷ []) h
      → Sends written_in write_failed (line_text text) l l' written → IfErr written (λ e. e ≡ Lines)
      → Ends adds (Ok text) (work d l h) (work d' l' h') (answer_map (λ u. text) written)
  closes_written adds text d d' l l' h h' (Ok x) drawn works kept wrote named = record {
    goes = λ coming.
        let lines = subst (TakesBytes written_in l l') (sym (append-nil (line_text text))) wrote.sent in
        went_whole (record { drawn = drawn; wrote = lines; history_is = kept; left_is = refl; answered = tt }) refl;
    stays = tt;
    reason = λ coming. tt;
    display_is = λ coming. inr works;
    lines_are = λ coming. inr wrote.works;
  }
  closes_written adds text d d' l l' h h' (Err e) drawn works kept wrote named = rw named (record {
    goes = λ coming.
        let row : Sums adds (Breaks ∷ (Keeps text ∷ [])) (work d l h coming) (work d' l h' coming) =
        record { drawn = drawn; wrote = takes_none written_in l l refl; history_is = kept; left_is = refl; answered = tt } in
        went_stopped (Writes text) [] Lines row (wrote.begins, refl) refl;
    stays = tt;
    reason = λ coming. inr (inr (inl (refl, wrote.err)));
    display_is = λ coming. inr works;
    lines_are = λ coming. inl refl;
  })

  -- no line was accepted
  closes_other : (adds : Bool) (e : ReadlineError) (d d' : D) (l : L) (h : Filed)
      → RowIsDrawn shown show_failed (breaks_after e) d d' → Ends adds (Err e) (work d l h) (work d' l h) (Err e)
  closes_other adds e d d' l h row = record {
    goes = λ coming. by coming (breaks_after e) row.drawn row.stays;
    stays = λ other. (ap (λ d. work d l h) (row.stays other), refl);
    reason = λ coming. inl (refl, row.works);
    display_is = λ coming. inr row.works;
    lines_are = λ coming. inr refl;
  }
    where
      by : (coming : Coming) (b : Bool) → TakesBytes shown d d' (break_if b) → (b ≡ false → d' ≡ d)
          → Went shown written_in adds (if b then Breaks ∷ [] else []) (work d l h coming) (work d' l h coming) (err_in (List ℕ) e ≡ Err e) (λ why. err_in (List ℕ) e ≡ Err why)
      by coming true drawn still = went_whole (row_done adds d d' l h coming drawn) refl
      by coming false drawn still = rw (still refl) (went_whole (none_done (work d l h coming)) refl)

  same_text : (text : List ℕ) (o : Result (String Global) ReadlineError) → IfOk o (λ line. string_bytes line ≡ text) → answer_map (λ line. text) o ≡ answer_map string_bytes o
  same_text text (Ok line) is = ap (λ t. Ok t) (sym is)
  same_text text (Err e) is = refl

  -- its end was drawn
  pub closes_accepted : (adds : Bool) (text : List ℕ) (outcome : Result (List ℕ) ReadlineError) (d d' : D) (l l' : L) (h h' : Filed) (result : Result (String Global) ReadlineError)
      → outcome ≡ Ok text → EndIsDrawn shown show_failed adds outcome d d' h h'
      → Sends written_in write_failed (line_text text) l l' result → IfErr result (λ e. e ≡ Lines) → IfOk result (λ line. string_bytes line ≡ text)
      → Ends adds outcome (work d l h) (work d' l' h') (answer_map string_bytes result)
  closes_accepted adds text outcome d d' l l' h h' result is end wrote named same =
      let drawn = subst (λ o. EndIsDrawn shown show_failed adds o d d' h h') is end in
      rw (is, sym (same_text text result same)) (closes_written adds text d d' l l' h h' result drawn.0.drawn drawn.0.works drawn.1 wrote named)

  pub closes_refused : (adds : Bool) (e : ReadlineError) (outcome : Result (List ℕ) ReadlineError) (d d' : D) (l : L) (h h' : Filed)
      → outcome ≡ Err e → EndIsDrawn shown show_failed adds outcome d d' h h' → Ends adds outcome (work d l h) (work d' l h') (Err e)
  closes_refused adds e outcome d d' l h h' is end =
      let drawn = subst (λ o. EndIsDrawn shown show_failed adds o d d' h h') is end in
      rw (is, drawn.1) (closes_other adds e d d' l h drawn.0)

  -- its end was cut
  pub closes_cut : (adds : Bool) (outcome : Result (List ℕ) ReadlineError) (d d' : D) (l : L) (h h' : Filed) (result : Result (List ℕ) ReadlineError) (e : ReadlineError)
      → result ≡ Err e → EndIsCut shown show_failed adds outcome d d' h h' e → Ends adds outcome (work d l h) (work d' l h') result
  closes_cut adds outcome d d' l h h' result Display is cut = rw (is, cut.1) (closes_undrawn adds outcome d d' l h cut.0)
  closes_cut adds (Ok text) d d' l h h' result Memory is cut = rw (is, cut.2) (closes_unkept adds text d d' l h cut.0.drawn cut.0.works cut.1.1)
  closes_cut adds (Err e) d d' l h h' result Memory is cut = absurd (cut.1.1)
  closes_cut adds outcome d d' l h h' result _ is cut = absurd cut
