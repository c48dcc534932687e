-- What a failed call leaves of a line: what the first of its events made of it.
use Rattle.std.proofs.Common.{◌≡◌, Bool, true, false, ℕ, ◌+◌, ◌-◌, ◌≤◌, List, [], ◌∷◌, ◌++◌, inl, length, refl, sym, subst, ap, ◌∙◌, arith, append_assoc, Result, Ok, Err, OnErr, IsErrAnd, min, slice_range, if◌then◌else◌}
use Rattle.std.specs.List.{replace_range}
use Rattle.std.specs.Result.{result_map_both}
use Rattle.std.proofs.lemmas.List.{drop_all}
use Rattle.std.proofs.lemmas.List.Edits.{length-between}
use Rattle.std.proofs.lemmas.Result.{on_err_weaker}
use Rattle.line_buffer.specs.declared.types.Direction.TheVariants.{Forward}
use Rattle.line_buffer.specs.Edit.{Edit, StopsAt, EditsLine, CutsLine, SameSettings}
use Rattle.line_buffer.specs.Event.{ChangeEvent, Replays, TellsOfChange, Reports, StopsAmong, wants_or, deletion, replacement, line_after_event, line_after_events}
use Rattle.line_buffer.specs.Event.ChangeEvent.{StartKilling, StopKilling}
use Rattle.line_buffer.specs.Line.{Line, with_replacement, without_range}
use Rattle.line_buffer.proofs.ReplayedLemmas.{replayed_deletion, replayed_replacement}
use Rattle.line_buffer.proofs.ReplayLemmas.{reports_nothing, reports_one, reports_then, stops_wanting}

pub carried_all-append : (es fs : List ChangeEvent) (l : Line) → line_after_events (es ++ fs) l ≡ line_after_events fs (line_after_events es l)
unfolding line_after_events
carried_all-append [] fs l = refl
carried_all-append (e ∷ es) fs l = carried_all-append es fs (line_after_event e l)

-- the first event was stopped
pub stopped_first : {S : Type 0} (takes stops : S → ChangeEvent → S → Type 0) (events never : List ChangeEvent) (e : ChangeEvent) (s t : S) (l m : Line)
    → events ≡ e ∷ never → TellsOfChange e → stops s e t → m ≡ l → StopsAt takes stops [] events s t l m
unfolding line_after_events
stopped_first takes stops events never e s t l m split change h same = record {
  stops = record {
    done = [];
    refused = e;
    never = never;
    split = split;
    change = change;
    between = s;
    reported = record { told = refl; replays = ap (λ x. x.text) same };
    left = t;
    stopped = h;
    closed = reports_nothing takes t m.text;
  };
  line = same;
}

-- no memory was found before anything was told
pub stopped_for_memory : {S : Type 0} (takes refuses : S → ChangeEvent → S → Type 0) (events never : List ChangeEvent) (e : ChangeEvent) (s : S) (l m : Line)
    → events ≡ e ∷ never → TellsOfChange e → m ≡ l → StopsAt takes (wants_or refuses) [] events s s l m
stopped_for_memory takes refuses events never e s l m split change same = stopped_first takes (wants_or refuses) events never e s s l m split change (inl refl) same

-- a call failed after others were made
pub stopped_later : {S : Type 0} {takes stops : S → ChangeEvent → S → Type 0} {closing es fs : List ChangeEvent} {s t u : S} {l k m : Line} → Reports takes es s t l.text k.text → k ≡ line_after_events es l
    → StopsAt takes stops closing fs t u k m → StopsAt takes stops closing (es ++ fs) s u l m
stopped_later {S} {takes} {stops} {closing} {es} {fs} {s} {t} {u} {l} {k} {m} told line x = record {
  stops = record {
    done = es ++ x.stops.done;
    refused = x.stops.refused;
    never = x.stops.never;
    split = ap (λ zs. es ++ zs) x.stops.split ∙ sym (append_assoc es x.stops.done (x.stops.refused ∷ x.stops.never));
    change = x.stops.change;
    between = x.stops.between;
    reported = reports_then told x.stops.reported;
    left = x.stops.left;
    stopped = x.stops.stopped;
    closed = x.stops.closed;
  };
  line = x.line ∙ ap (line_after_events x.stops.done) line ∙ sym (carried_all-append es x.stops.done l);
}

pub stopped_after_one : {S : Type 0} {takes stops : S → ChangeEvent → S → Type 0} {closing fs : List ChangeEvent} (e : ChangeEvent) {s t u : S} {l k m : Line} → takes s e t → Replays e l.text k.text → k ≡ line_after_event e l
    → StopsAt takes stops closing fs t u k m → StopsAt takes stops closing (e ∷ fs) s u l m
unfolding line_after_events
stopped_after_one {S} {takes} {stops} {closing} {fs} e {s} {t} {u} {l} {k} {m} told replays line x =
    stopped_later (reports_one takes e s t l.text k.text told replays) line x

-- a call that takes memory too
pub stopped_wanting : {S : Type 0} {takes refuses : S → ChangeEvent → S → Type 0} {closing es : List ChangeEvent} {s t : S} {l m : Line} → StopsAt takes refuses closing es s t l m
    → StopsAt takes (wants_or refuses) closing es s t l m
unfolding stops_wanting
stopped_wanting x = record { stops = stops_wanting x.stops; line = x.line }

-- the same, as other equations have the events and the line
pub stopped_as : {S : Type 0} {takes stops : S → ChangeEvent → S → Type 0} {closing es fs : List ChangeEvent} {s t : S} {l k m : Line} → es ≡ fs → l ≡ k
    → StopsAt takes stops closing es s t l m → StopsAt takes stops closing fs s t k m
stopped_as {S} {takes} {stops} {closing} {es} {fs} {s} {t} {l} {k} {m} e g h =
    subst (λ x. StopsAt takes stops closing fs s t x m) g (subst (λ x. StopsAt takes stops closing x s t l m) e h)

-- a failed kill is closed as one that was made
killing_stopped : {S : Type 0} {takes stops : S → ChangeEvent → S → Type 0} {es : List ChangeEvent} {s begun left t : S} {l m : Line} → takes s StartKilling begun → takes left StopKilling t
    → StopsAt takes stops [] es begun left l m → StopsAt takes stops (StopKilling ∷ []) (StartKilling ∷ (es ++ (StopKilling ∷ []))) s t l m
unfolding line_after_events
killing_stopped {S} {takes} {stops} {es} {s} {begun} {left} {t} {l} {m} start stop x = record {
  stops = record {
    done = StartKilling ∷ x.stops.done;
    refused = x.stops.refused;
    never = x.stops.never ++ (StopKilling ∷ []);
    split = ap (λ zs. StartKilling ∷ (zs ++ (StopKilling ∷ []))) x.stops.split
        ∙ ap (λ zs. StartKilling ∷ zs) (append_assoc x.stops.done (x.stops.refused ∷ x.stops.never) (StopKilling ∷ []));
    change = x.stops.change;
    between = x.stops.between;
    reported = reports_then (reports_one takes StartKilling s begun l.text l.text start refl) x.stops.reported;
    left = x.stops.left;
    stopped = x.stops.stopped;
    closed = reports_then x.stops.closed (reports_one takes StopKilling left t m.text m.text stop refl);
  };
  line = x.line;
}

pub stopped_killing : {S T E : Type 0} (r : Result T E) (takes stops : S → ChangeEvent → S → Type 0) (es : List ChangeEvent) (plain : Bool) (s begun left t : S) (l m : Line) → plain ≡ false
    → takes s StartKilling begun → OnErr r (StopsAt takes stops [] es begun left l m) → takes left StopKilling t
    → OnErr r (StopsAt takes stops (if plain then [] else StopKilling ∷ []) (if plain then es else StartKilling ∷ (es ++ (StopKilling ∷ []))) s t l m)
stopped_killing r takes stops es plain s begun left t l m e start stopped stop = rw e (on_err_weaker r (killing_stopped start stop) stopped)

-- a deletion by clusters stands between no marks
pub stopped_unmarked : {S T E : Type 0} (r : Result T E) (takes stops : S → ChangeEvent → S → Type 0) (es : List ChangeEvent) (plain : Bool) (s t : S) (l m : Line) → plain ≡ true
    → OnErr r (StopsAt takes stops [] es s t l m)
    → OnErr r (StopsAt takes stops (if plain then [] else StopKilling ∷ []) (if plain then es else StartKilling ∷ (es ++ (StopKilling ∷ []))) s t l m)
stopped_unmarked r takes stops es plain s t l m e stopped = rw e stopped

carried_settings : (es : List ChangeEvent) (l : Line) → SameSettings l (line_after_events es l)
unfolding line_after_events
carried_settings [] l = record { growth = refl; limit = refl }
carried_settings (e ∷ es) l = let rest = carried_settings es (line_after_event e l) in record { growth = rest.growth; limit = rest.limit }

stopped_settings : {S : Type 0} {takes stops : S → ChangeEvent → S → Type 0} {closing events : List ChangeEvent} {s t : S} {l m : Line} → StopsAt takes stops closing events s t l m → SameSettings l m
stopped_settings {S} {takes} {stops} {closing} {events} {s} {t} {l} {m} x = subst (SameSettings l) (sym x.line) (carried_settings x.stops.done l)

-- a failed call has made no edit: it owes where it stopped
pub edits_refused : {S A E : Type 0} {takes stops : S → ChangeEvent → S → Type 0} {closing : List ChangeEvent} {edit : Edit A} {s t : S} {l m : Line} (P : E → Type 0) (r : Result A E)
    → IsErrAnd r P → StopsAt takes stops closing edit.events s t l m → EditsLine takes stops closing edit s t l m r
edits_refused P (Ok a) is left = absurd is
edits_refused P (Err x) is left = record { answer = tt; told = tt; line = tt; left = left; settings = stopped_settings left }

pub cuts_refused : {S A E : Type 0} {takes stops : S → ChangeEvent → S → Type 0} {closing : List ChangeEvent} {edit : Edit A} {s t : S} {l m : Line} (P : E → Type 0) (r : Result A E)
    → IsErrAnd r P → StopsAt takes stops closing edit.events s t l m → length m.text ≤ length l.text → CutsLine takes stops closing edit s t l m r
cuts_refused P r is left shrinks = record { edits = edits_refused P r is left; shrinks = shrinks }

-- the same, seen in another way where it is answered
pub cuts_refused_seen : {S A B E : Type 0} {takes stops : S → ChangeEvent → S → Type 0} {closing : List ChangeEvent} {edit : Edit B} {s t : S} {l m : Line} (f : A → B) (P : E → Type 0) (r : Result A E)
    → IsErrAnd r P → StopsAt takes stops closing edit.events s t l m → length m.text ≤ length l.text → CutsLine takes stops closing edit s t l m (result_map_both f (λ (x : E). x) r)
cuts_refused_seen f P (Ok a) is left shrinks = absurd is
cuts_refused_seen f P (Err x) is left shrinks = cuts_refused P (Err x) is left shrinks

-- what failed has an event
pub some_event : {S : Type 0} {takes refuses : S → ChangeEvent → S → Type 0} {closing events : List ChangeEvent} {s t : S} {a b : List ℕ} → StopsAmong takes refuses closing events s t a b
    → (next : ChangeEvent) × (others : List ChangeEvent) × (events ≡ next ∷ others)
some_event {S} {takes} {refuses} {closing} {events} {s} {t} {a} {b} x = by x.done x.split
  where
    by : (done : List ChangeEvent) → events ≡ done ++ x.refused ∷ x.never → (next : ChangeEvent) × (others : List ChangeEvent) × (events ≡ next ∷ others)
    by [] split = (x.refused, x.never, split)
    by (e ∷ es) split = (e, es ++ x.refused ∷ x.never, split)

-- ---- an event as its call makes it

pub carried_deletion : (l : Line) (from : ℕ) → from ≤ l.place → l.place ≤ length l.text → line_after_event (deletion from l.place Forward l.text) l ≡ without_range from l.place l
carried_deletion l from le fits =
    let place : ℕ = l.place - min (length (slice_range l.text from l.place)) (l.place - from) in
    ap (λ t. record l { text = t; place = place }) (replayed_deletion l.text from l.place Forward le fits)
    ∙ ap (λ p. record l { text = replace_range l.text from l.place []; place = p })
    (let k : place ≡ from = omega (arith, length-between l.text from l.place fits, le) in k)

pub carried_deletion_of_all : (l : Line) → l.place ≤ length l.text → line_after_event (deletion 0 (length l.text) Forward l.text) l ≡ record l { text = []; place = 0 }
carried_deletion_of_all l fits =
    let place : ℕ = l.place - min (length (slice_range l.text 0 (length l.text))) (l.place - 0) in
    ap (λ t. record l { text = t; place = place }) (replayed_deletion l.text 0 (length l.text) Forward (omega arith) (omega arith) ∙ drop_all (length l.text) l.text (omega arith))
    ∙ ap (λ p. record l { text = []; place = p })
    (let k : place ≡ 0 = omega (arith, length-between l.text 0 (length l.text) (omega arith), fits) in k)

pub carried_replacement : (l : Line) (from upto : ℕ) (added : List ℕ) → from ≤ upto → upto ≤ length l.text
    → line_after_event (replacement from upto added l.text) l ≡ with_replacement from upto added l
carried_replacement l from upto added le fits =
    ap (λ t. record l { text = t; place = from + length added }) (replayed_replacement l.text from upto added le fits)
