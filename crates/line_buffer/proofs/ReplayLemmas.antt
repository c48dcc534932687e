-- Calls of several events: what they make of a listener and of a text.
use Rattle.std.proofs.Common.{◌≡◌, ℕ, ◌+◌, ◌-◌, arith, take, drop, List, [], ◌∷◌, ◌++◌, inr, refl, subst, ap, ◌∙◌, IsUtf8, IsCharBoundary}
use Rattle.std.specs.List.{replace_range, insert_slice}
use Rattle.line_buffer.specs.Event.{ChangeEvent, Swaps, Replays, TakesAll, Reports, StopsAmong, wants_or}

module _ {S : Type 0} (takes : S → ChangeEvent → S → Type 0) where
  TakesAll-append : (es fs : List ChangeEvent) (s t u : S) → TakesAll takes s es t → TakesAll takes t fs u → TakesAll takes s (es ++ fs) u
  TakesAll-append [] fs s t u e h = subst (λ x. TakesAll takes x fs u) e h
  TakesAll-append (e ∷ es) fs s t u h k = (h.0, h.1, TakesAll-append es fs h.0 t u h.2 k)

-- nothing told, nothing changed
pub reports_nothing : {S : Type 0} (takes : S → ChangeEvent → S → Type 0) (s : S) (a : List ℕ) → Reports takes [] s s a a
reports_nothing takes s a = record { told = refl; replays = refl }

pub reports_one : {S : Type 0} (takes : S → ChangeEvent → S → Type 0) (e : ChangeEvent) (s t : S) (a b : List ℕ) → takes s e t → Replays e a b → Reports takes (e ∷ []) s t a b
reports_one takes e s t a b h k = record { told = (t, h, refl); replays = (b, k, refl) }

-- one call after the other
pub reports_then : {S : Type 0} {takes : S → ChangeEvent → S → Type 0} {es fs : List ChangeEvent} {s t u : S} {a b c : List ℕ} → Reports takes es s t a b → Reports takes fs t u b c
    → Reports takes (es ++ fs) s u a c
reports_then {S} {takes} {es} {fs} {s} {t} {u} {a} {b} {c} x y = record {
  told = TakesAll-append takes es fs s t u x.told y.told;
  replays = TakesAll-append (λ a e b. Replays e a b) es fs a b c x.replays y.replays;
}

-- the failed event, as another equation has it
pub refused_as : {S : Type 0} (refuses : S → ChangeEvent → S → Type 0) {e f : ChangeEvent} {s t : S} → e ≡ f → wants_or refuses s e t → wants_or refuses s f t
refused_as refuses {e} {f} {s} {t} same h = subst (λ x. wants_or refuses s x t) same h

-- a call that takes memory too
unfoldable pub stops_wanting : {S : Type 0} {takes refuses : S → ChangeEvent → S → Type 0} {closing es : List ChangeEvent} {s t : S} {a b : List ℕ} → StopsAmong takes refuses closing es s t a b
    → StopsAmong takes (wants_or refuses) closing es s t a b
stops_wanting {S} {takes} {refuses} {closing} {es} {s} {t} {a} {b} x = record {
  done = x.done;
  refused = x.refused;
  never = x.never;
  split = x.split;
  change = x.change;
  between = x.between;
  reported = x.reported;
  left = x.left;
  stopped = inr x.stopped;
  closed = x.closed;
}

-- a text put in
pub swaps_insertion : (at : ℕ) (added before after : List ℕ) → IsCharBoundary before at → IsUtf8 added → after ≡ insert_slice before at added → Swaps at [] added before after
swaps_insertion at added before after b u e = record {
  stands = record {
    start = b;
    end = subst (IsCharBoundary before) (let k : at ≡ at + 0 = omega arith in k) b;
    bytes = ap (λ n. take n (drop at before)) (let k : (at + 0) - at ≡ 0 = omega arith in k);
    utf8 = u;
  };
  becomes = e ∙ ap (λ n. replace_range before at n added) (let k : at ≡ at + 0 = omega arith in k);
}
