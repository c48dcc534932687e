-- What a kill that fails leaves of line, record and ring.
use Rattle.std.proofs.Common.{◌≡◌, ◌⊎◌, inl, inr, ℕ, List, [], ◌∷◌, ◌++◌, refl, ap, ◌∙◌, Bool, true, false, if◌then◌else◌, is_some, Result, Ok, Err, OnErr, IsErrAnd, IsUtf8, sym, subst}
use Rattle.line_buffer.specs.Edit.{StopsAt}
use Rattle.line_buffer.specs.Event.{ChangeEvent, TakesAll, StopsAmong, ChangeEvent.StartKilling, ChangeEvent.StopKilling}
use Rattle.line_buffer.specs.Line.{Line}
use Rattle.line_buffer.specs.Range.{range_of, goes_by_clusters, deletion_events, kill_events, kill_closing}
use Rattle.line_buffer.specs.declared.types.Movement.{Movement}
use Rattle.line_buffer.proofs.KeptLemmas.{KillCut, kill_cut}
use Rattle.line_record.specs.declared.joined.Joined.{Joined}
use Rattle.line_buffer.proofs.ReplayLemmas.{stops_wanting}
use Rattle.line_record.proofs.JoinedLaws.{refusals_leave_no_unmade_change}
use Rattle.line_record.specs.Held.{HeldItem}
use Rattle.line_record.specs.Items.{Items, ItemsStand, RecordsEventIn, record_refuses, record_on}
use Rattle.line_record.specs.Ring.{Ring, ring_step, ring_all, ring_refuses}
use Rattle.line_record.specs.RecordCourse.{record_after_events}
use Rattle.line_record.specs.Together.{joined_takes, joined_refuses}
use Rattle.line_edits.specs.Edits.{TookOrNot, ring_without_kill}
use Rattle.line_edits.specs.WriteSteps.{CutEvents, line_and_record}
use Rattle.line_edits.proofs.StepLemmas.{among}

abbrev hears : Ring → ChangeEvent → Ring → Type 0
hears r e q = q ≡ ring_step e r

-- the ring has heard what both were told
ring_told : {B : Type 0} (second : B → ChangeEvent → B → Type 0) (es : List ChangeEvent) (s t : Joined Ring B) → TakesAll (joined_takes hears second) s es t → t.first.now ≡ ring_all es s.first.now
ring_told second [] s t told = ap (λ (x : Joined Ring _). x.first.now) told
ring_told second (e ∷ es) s t (u, k, told) = ring_told second es u t told ∙ ap (ring_all es) k.1.0

module _ {B : Type 0} (second second_refuses : B → ChangeEvent → B → Type 0) where
  abbrev Refused : Joined Ring B → ChangeEvent → Joined Ring B → Type 0
  Refused = joined_refuses hears ring_refuses second_refuses

  -- the ring after an event that failed
  after_refusal : (e : ChangeEvent) (u v : Joined Ring B) → Refused u e v → (v.first.now ≡ u.first.now) ⊎ (v.first.now ≡ ring_step e u.first.now)
  after_refusal e u v (names, inl kept) = inl kept.0.0
  after_refusal e u v (names, inr took) = inr took.0

  abbrev Stopped : Movement → Line → Joined Ring B → Joined Ring B → List ℕ → List ℕ → Type 0
  Stopped movement l = StopsAmong (joined_takes hears second) (joined_refuses hears ring_refuses second_refuses) (kill_closing movement) (kill_events movement l)

  cut_of : (movement : Movement) (l : Line) {s t : Joined Ring B} {before after : List ℕ} (call : Stopped movement l s t before after) → KillCut (goes_by_clusters movement) (range_of movement l) l call.done call.refused
  cut_of movement l call = kill_cut (goes_by_clusters movement) (range_of movement l) l call.done call.never call.refused call.split call.change

  -- a kill that fails deletes something
  pub some_killed : (movement : Movement) (l : Line) {s t : Joined Ring B} {before after : List ℕ} → Stopped movement l s t before after → is_some (range_of movement l) ≡ true
  some_killed movement l call = ap is_some (cut_of movement l call).some

  -- the ring before and after the change, by whether the kill has marks
  ring_by : (plain : Bool) (change : ChangeEvent) (r between left after : Ring) → between ≡ ring_all (if plain then [] else StartKilling ∷ []) r
      → after ≡ ring_all (if plain then [] else StopKilling ∷ []) left → (left ≡ between) ⊎ (left ≡ ring_step change between)
      → (after ≡ ring_all (if plain then change ∷ [] else StartKilling ∷ change ∷ StopKilling ∷ []) r) ⊎ (after ≡ (if plain then r else record r { killing = false }))
  ring_by true change r between left after b a (inl kept) = inr (a ∙ kept ∙ b)
  ring_by true change r between left after b a (inr took) = inl (a ∙ took ∙ ap (ring_step change) b)
  ring_by false change r between left after b a (inl kept) = inr (a ∙ ap (ring_step StopKilling) (kept ∙ b))
  ring_by false change r between left after b a (inr took) = inl (a ∙ ap (ring_step StopKilling) (took ∙ ap (ring_step change) b))

  pub ring_stopped : (movement : Movement) (l : Line) {s t : Joined Ring B} {before after : List ℕ} → Stopped movement l s t before after → TookOrNot movement l s.first.now t.first.now
  ring_stopped movement l {s} {t} call =
      let cut = cut_of movement l call in
      let r = s.first.now in
      subst (λ o. (t.first.now ≡ ring_all (let events = deletion_events o l in if goes_by_clusters movement then events else StartKilling ∷ (events ++ (StopKilling ∷ []))) r) ⊎ (t.first.now ≡ ring_without_kill movement r)) (sym cut.some)
      (subst (λ e. (t.first.now ≡ ring_all (if goes_by_clusters movement then e ∷ [] else StartKilling ∷ e ∷ StopKilling ∷ []) r) ⊎ (t.first.now ≡ ring_without_kill movement r)) cut.change
      (ring_by (goes_by_clusters movement) call.refused r call.between.first.now call.left.first.now t.first.now
      (ring_told second call.done s call.between call.reported.told ∙ ap (λ es. ring_all es r) cut.marks) (ring_told second (kill_closing movement) call.left t call.closed.told)
      (after_refusal call.refused call.between call.left call.stopped)))

-- ---- line and record, of a ring and a record

marks_kept : (by_clusters : Bool) (text : List ℕ) (held : List HeldItem) → record_after_events (if by_clusters then [] else StopKilling ∷ []) text held ≡ held
unfolding record_after_events
marks_kept true text held = refl
marks_kept false text held = refl

-- both follow the same events
pub killed_among : (movement : Movement) {l after : Line} {s t : Joined Ring Items} → IsUtf8 l.text → ItemsStand s.second.now l.text
    → StopsAt (joined_takes hears RecordsEventIn) (joined_refuses hears ring_refuses record_refuses) (kill_closing movement) (kill_events movement l) s t l after
    → CutEvents (kill_events movement l) (line_and_record l s.second.now) (line_and_record after t.second.now)
unfolding stops_wanting
killed_among movement {l} {after} {s} {t} utf8 stand call =
    let kept = refusals_leave_no_unmade_change hears ring_refuses (kill_closing movement) (kill_events movement l) s t l.text after.text stand utf8 (stops_wanting call.stops) in
    among s.second.now t.second.now call (kept.held ∙ marks_kept (goes_by_clusters movement) after.text (record_after_events call.stops.done l.text (record_on s.second.now l.text)))

pub on_refusal : {A E P : Type 0} (e : E) (result : Result A E) → IsErrAnd result (λ x. x ≡ e) → P → OnErr result P
on_refusal e (Ok a) is p = tt
on_refusal e (Err x) is p = p
