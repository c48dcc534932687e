-- Laws of scripts: one after another goes, is cut, and is taken apart again.
use Rattle.std.proofs.Common.{◌≡◌, ◌⊎◌, inl, inr, Bool, true, false, refl, sym, ap, true≢false}
use Rattle.std.specs.Prelude.{Result, Ok, Err}
use Rattle.script.specs.Scripts.{Script, Ends, Asks, World, Goes, then}

abbrev pub is_ok : {X E : Type 0} → Result X E → Bool
is_ok (Ok x) = true
is_ok (Err e) = false

abbrev pub value_or : {X E : Type 0} → X → Result X E → X
value_or x (Ok y) = y
value_or x (Err e) = x

abbrev pub fault_or : {X E : Type 0} → E → Result X E → E
fault_or e (Ok y) = e
fault_or e (Err f) = f

abbrev pub ok_in : {E : Type 0} {X : Type 0} → X → Result X E
ok_in x = Ok x

abbrev pub err_in : (X : Type 0) {E : Type 0} → E → Result X E
err_in X e = Err e

pub ok_not_err : {X E Z : Type 0} (x : X) (e : E) → ok_in {E = E} x ≡ Err e → Z
ok_not_err x e is = absurd (true≢false (ap is_ok is))

module _ {A : Type 0} {R : A → Type 0} {S E : Type 0} (w : World A R S E) where
  pub then_goes : {X Y : Type 0} (p : Script A R X) (next : X → Script A R Y) (x : X) (r : Result Y E) (s t u : S)
      → Goes w p s (Ok x) t → Goes w (next x) t r u → Goes w (then p next) s r u
  then_goes (Ends y) next x r s t u is later = rw (ap (value_or x) is.0, is.1) at later
  then_goes (Asks ask more) next x r s t u (inl (y, v, made, goes)) later = inl (y, v, made, then_goes (more y) next x r v t u goes later)
  then_goes (Asks ask more) next x r s t u (inr (e, cut, is)) later = ok_not_err x e is

  pub then_cut : {X Y : Type 0} (p : Script A R X) (next : X → Script A R Y) (e : E) (s t : S)
      → Goes w p s (Err e) t → Goes w (then p next) s (Err e) t
  then_cut (Ends y) next e s t is = ok_not_err y e (sym is.0)
  then_cut {X} {Y} (Asks ask more) next e s t (inl (y, v, made, goes)) = inl (y, v, made, then_cut (more y) next e v t goes)
  then_cut {X} {Y} (Asks ask more) next e s t (inr (f, cut, is)) = inr (f, cut, ap (λ (r : Result X E). err_in Y (fault_or e r)) is)

-- one script after another is taken apart again
module _ {A : Type 0} {R : A → Type 0} {S E X Y : Type 0} (w : World A R S E) (next : X → Script A R Y) where
  pub parted : (p : Script A R X) (s u : S) (r : Result Y E) → Goes w (then p next) s r u
      → ((x : X) × (t : S) × Goes w p s (Ok x) t × Goes w (next x) t r u) ⊎ ((e : E) × Goes w p s (Err e) u × (r ≡ Err e))
  parted (Ends y) s u r goes = inl (y, s, (refl, refl), goes)
  parted (Asks ask later) s u r (inl (y, v, made, goes)) = elim (parted (later y) v u r goes) [
    | inl h ↦ inl (h.0, h.1, inl (y, v, made, h.2), h.3)
    | inr h ↦ inr (h.0, inl (y, v, made, h.1), h.2)
  ]
  parted (Asks ask later) s u r (inr (e, cut, is)) = inr (e, inr (e, cut, refl), is)
