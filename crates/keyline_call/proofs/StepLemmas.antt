-- What is told and given of a line.
use Rattle.std.proofs.Common.{◌≡◌, ◌≢◌, ◌∙◌, true, false, true≢false, ℕ, List, [], drop, refl, sym, ap, subst}
use Rattle.std.specs.Prelude.{Result, Ok, Err, IsErrAnd}
use Rattle.line_config.specs.declared.memory.VecSink.{VecSink}
use Rattle.line_help.specs.HistoryText.{text_to_save}
use Rattle.keyline_call.specs.Buffers.{BufferTexts, GivesTexts, buffer_texts, texts_wanted, with_lengths}
use Rattle.keyline_call.specs.Slots.{AreSlots}
use Rattle.keyline_call.specs.Statuses.{status_of_ending, is_open}
use Rattle.keyline_call.specs.CallSteps.{Gives, GivesBy, GivesEnd, GivesOpen, TakesMemory, accepted_text, open_text, texts_left, texts_open, with_end, with_open}
use Rattle.keyline_call.specs.declared.export.KeylineStep.{KeylineStep}
use Rattle.keyline_call.specs.declared.export.KeylineWants.{KeylineWants}
use Rattle.keyline_call.specs.declared.line.Left.{Left}
use Rattle.keyline_call.specs.declared.ring.Slots.{Slots}
use Rattle.keyline_call.specs.declared.status.CallStatus.{CallStatus}
use Rattle.keyline_call.specs.declared.status.CallStatus.TheVariants.{More, Room, Memory, Asked}

-- ---- the end of a line

module _ (held : VecSink → List ℕ) (sent keys : ℕ) (wants : KeylineWants) (left : Left) (old : BufferTexts) (step : KeylineStep) where
  pub memory_lacks : {A : Type 0} (result : Result A CallStatus) (e : CallStatus) → TakesMemory left → e ≡ Memory → IsErrAnd result (λ x. x ≡ e) → GivesEnd held sent keys wants left old old step step result
  memory_lacks (Ok done) e takes memory is = absurd is
  memory_lacks (Err x) e takes memory is = rw (is, memory) (takes, (refl, refl))

  module _ (slots : Slots) (are_slots : AreSlots left.ring slots) (new : BufferTexts) (step' : KeylineStep) where
    told_so : {A : Type 0} (result : Result A CallStatus) → step' ≡ with_lengths (texts_left held sent left slots) (with_end held keys left slots step) → GivesTexts (texts_wanted wants (texts_left held sent left slots)) old new result
        → GivesEnd held sent keys wants left old new step step' result
    told_so (Ok done) told h = record { slots = slots; are_slots = are_slots; step_is = told; texts = h }
    told_so (Err Room) told h = record { slots = slots; are_slots = are_slots; step_is = told; texts = h }
    told_so (Err _) told h = absurd h

    -- its lengths are told, and its texts are given or do not fit
    pub end_told : {A : Type 0} (given : BufferTexts) (result : Result A CallStatus) → GivesTexts (texts_wanted wants given) old new result → given.display ≡ drop sent (held left.display) → given.line ≡ accepted_text left
        → given.history ≡ text_to_save left.history → given.kills ≡ slots.texts.items → given.ends ≡ slots.ends.items → step' ≡ with_lengths given (with_end held keys left slots step)
        → GivesEnd held sent keys wants left old new step step' result
    end_told given result h display line history kills ends told =
        let fields : given ≡ buffer_texts given.display given.line given.history given.kills given.ends = refl in
        let is : given ≡ texts_left held sent left slots = fields ∙ rw (display, line, history, kills, ends) refl in
        told_so result (told ∙ ap (λ g. with_lengths g (with_end held keys left slots step)) is) (subst (λ g. GivesTexts (texts_wanted wants g) old new result) is h)

  -- ---- a line that is still open

  open_told_so : {A : Type 0} (new : BufferTexts) (step' : KeylineStep) (result : Result A CallStatus) → step' ≡ with_lengths (texts_open held sent left) (with_open held keys left step)
      → GivesTexts (texts_wanted wants (texts_open held sent left)) old new result → GivesOpen held sent keys wants left old new step step' result
  open_told_so new step' (Ok done) told h = record { step_is = told; texts = h }
  open_told_so new step' (Err Room) told h = record { step_is = told; texts = h }
  open_told_so new step' (Err _) told h = absurd h

  pub open_told : {A : Type 0} (new : BufferTexts) (step' : KeylineStep) (given : BufferTexts) (result : Result A CallStatus) → GivesTexts (texts_wanted wants given) old new result → given.display ≡ drop sent (held left.display)
      → given.line ≡ open_text left.open_line → given.history ≡ [] → given.kills ≡ [] → given.ends ≡ [] → step' ≡ with_lengths given (with_open held keys left step)
      → GivesOpen held sent keys wants left old new step step' result
  open_told new step' given result h display line history kills ends told =
      let fields : given ≡ buffer_texts given.display given.line given.history given.kills given.ends = refl in
      let is : given ≡ texts_open held sent left = fields ∙ rw (display, line, history, kills, ends) refl in
      open_told_so new step' result (told ∙ ap (λ g. with_lengths g (with_open held keys left step)) is) (subst (λ g. GivesTexts (texts_wanted wants g) old new result) is h)

-- ---- by how it ended

module _ (held : VecSink → List ℕ) (sent keys : ℕ) (wants : KeylineWants) (left : Left) (old new : BufferTexts) (step step' : KeylineStep) where
  ended : (status : CallStatus) (result : Result CallStatus CallStatus) → status ≢ Memory → is_open status ≡ false → GivesEnd held sent keys wants left old new step step' result → GivesBy held sent keys wants left old new step step' status result
  ended Memory result some other h = absurd (some refl)
  ended More result some other h = absurd (true≢false other)
  ended Asked result some other h = absurd (true≢false other)
  ended _ result some other h = h

  pub end_so : (A : Type 0) (done : A) (status : CallStatus) → status ≡ status_of_ending left.outcome → status ≢ Memory → is_open status ≡ false → GivesEnd held sent keys wants left old new step step' (Ok done)
      → Gives held sent keys wants left old new step step' (Ok status)
  end_so A done status is some other h =
      (is, subst (λ s. GivesBy held sent keys wants left old new step step' s (Ok status)) is (ended status (Ok status) some other h))

  pub end_not_so : (A : Type 0) (status e : CallStatus) (result : Result CallStatus CallStatus) → status ≡ status_of_ending left.outcome → status ≢ Memory → is_open status ≡ false → GivesEnd held sent keys wants left old new step step' {A = A} (Err e)
      → IsErrAnd result (λ x. x ≡ e) → Gives held sent keys wants left old new step step' result
  end_not_so A status e (Ok x) is some other h refused = absurd refused
  end_not_so A status e (Err x) is some other h refused =
      subst (λ y. Gives held sent keys wants left old new step step' (Err y)) (sym refused)
      (tt, subst (λ s. GivesBy held sent keys wants left old new step step' s (Err e)) is (ended status (Err e) some other h))

  open_by : (status : CallStatus) (result : Result CallStatus CallStatus) → is_open status ≡ true → GivesOpen held sent keys wants left old new step step' result → GivesBy held sent keys wants left old new step step' status result
  open_by More result more h = h
  open_by Asked result more h = h
  open_by _ result more h = absurd (true≢false (sym more))

  pub open_so : (A : Type 0) (done : A) (status : CallStatus) → status ≡ status_of_ending left.outcome → is_open status ≡ true → GivesOpen held sent keys wants left old new step step' (Ok done)
      → Gives held sent keys wants left old new step step' (Ok status)
  open_so A done status is more h =
      (is, subst (λ s. GivesBy held sent keys wants left old new step step' s (Ok status)) is (open_by status (Ok status) more h))

  pub open_not_so : (A : Type 0) (status e : CallStatus) (result : Result CallStatus CallStatus) → status ≡ status_of_ending left.outcome → is_open status ≡ true → GivesOpen held sent keys wants left old new step step' {A = A} (Err e)
      → IsErrAnd result (λ x. x ≡ e) → Gives held sent keys wants left old new step step' result
  open_not_so A status e (Ok x) is more h refused = absurd refused
  open_not_so A status e (Err x) is more h refused =
      subst (λ y. Gives held sent keys wants left old new step step' (Err y)) (sym refused)
      (tt, subst (λ s. GivesBy held sent keys wants left old new step step' s (Err e)) is (open_by status (Err e) more h))
