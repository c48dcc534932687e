-- What calls of a sink take, one after the other, also if one of them fails.
use Rattle.std.proofs.Common.{◌≡◌, ℕ, Bool, List, [], ◌++◌, Result, Ok, Err, IsTrue, refl, sym, ap, ◌∙◌, subst, append-nil, append_assoc}
use Rattle.std.specs.Result.{OnErr, IsErrAnd}
use Rattle.line_config.specs.Sending.{TakesBytes, TakesSome, AppendsSome, Sends}

pub takes_none : {D : Type 0} (held : D → List ℕ) (a b : D) → b ≡ a → TakesBytes held a b []
takes_none held a b same = ap held same ∙ sym (append-nil (held a))

pub takes_then : {D : Type 0} (held : D → List ℕ) (a b c : D) (xs ys : List ℕ) → TakesBytes held a b xs → TakesBytes held b c ys → TakesBytes held a c (xs ++ ys)
takes_then held a b c xs ys first second = second ∙ ap (λ zs. zs ++ ys) first ∙ append_assoc (held a) xs ys

-- a write that succeeded, and a flush after what was taken
pub takes_write : {D : Type 0} (held : D → List ℕ) (a b : D) (bytes xs : List ℕ) → bytes ≡ xs → held b ≡ held a ++ bytes → TakesBytes held a b xs
takes_write held a b bytes xs same ok = ok ∙ ap (λ zs. held a ++ zs) same

pub takes_flush : {D : Type 0} (held : D → List ℕ) (a b c : D) (xs : List ℕ) → TakesBytes held a b xs → held c ≡ held b → TakesBytes held a c xs
takes_flush held a b c xs taken kept = kept ∙ taken

-- ---- a beginning of some bytes

-- some of them are some of more
pub begins_more : (before xs ys after : List ℕ) → AppendsSome before xs after → AppendsSome before (xs ++ ys) after
begins_more before xs ys after some = record {
  taken = some.taken;
  rest = some.rest ++ ys;
  split = ap (λ zs. zs ++ ys) some.split ∙ append_assoc some.taken some.rest ys;
  held = some.held;
}

-- ---- a sink that took a beginning

pub some_of_write : {D : Type 0} (held : D → List ℕ) (a b : D) (bytes xs : List ℕ) → bytes ≡ xs → AppendsSome (held a) bytes (held b)
    → TakesSome held a b xs
some_of_write held a b bytes xs same some = subst (λ zs. AppendsSome (held a) zs (held b)) same some

pub some_of_more : {D : Type 0} (held : D → List ℕ) (a b : D) (xs ys : List ℕ) → TakesSome held a b xs → TakesSome held a b (xs ++ ys)
some_of_more held a b xs ys some = begins_more (held a) xs ys (held b) some

pub some_of_all : {D : Type 0} (held : D → List ℕ) (a b : D) (xs : List ℕ) → TakesBytes held a b xs → TakesSome held a b xs
some_of_all held a b xs taken = record { taken = xs; rest = []; split = sym (append-nil xs); held = taken }

-- all of some, and then some of others
pub some_then : {D : Type 0} (held : D → List ℕ) (a b c : D) (xs ys : List ℕ) → TakesBytes held a b xs → TakesSome held b c ys → TakesSome held a c (xs ++ ys)
some_then held a b c xs ys taken some = record {
  taken = xs ++ some.taken;
  rest = some.rest;
  split = ap (λ zs. xs ++ zs) some.split ∙ sym (append_assoc xs some.taken some.rest);
  held = some.held ∙ ap (λ zs. zs ++ some.taken) taken ∙ append_assoc (held a) xs some.taken;
}

pub on_err : {T E P : Type 0} (r : Result T E) → P → OnErr r P
on_err (Ok x) p = tt
on_err (Err e) p = p

-- ---- calls that make others

module _ {D : Type 0} (held : D → List ℕ) (failed : D → Bool) where
  -- a call was answered, and the next one sends what is left
  pub sends_then : {A E : Type 0} (xs ys : List ℕ) {a b c : D} {r : Result A E}
      → TakesBytes held a b xs → failed b ≡ failed a → Sends held failed ys b c r → Sends held failed (xs ++ ys) a c r
  sends_then xs ys {a = a} {b = b} {c = c} {r = Ok x} took works s = record { sent = takes_then held a b c xs ys took s.sent; works = s.works ∙ works; err = tt; begins = tt }
  sends_then xs ys {a = a} {b = b} {c = c} {r = Err e} took works s = record { sent = tt; works = tt; err = s.err; begins = some_then held a b c xs ys took s.begins }

  -- a call failed, and that is the end
  pub sends_refused : {A E : Type 0} (Q : E → Type 0) (bytes : List ℕ) {a b : D} {r : Result A E}
      → IsErrAnd r Q → IsTrue (failed b) → TakesSome held a b bytes → Sends held failed bytes a b r
  sends_refused Q bytes {a = a} {b = b} {r = Ok x} refused fails some = absurd refused
  sends_refused Q bytes {a = a} {b = b} {r = Err e} refused fails some = record { sent = tt; works = tt; err = fails; begins = some }

  pub sends_cut : {A E : Type 0} (Q : E → Type 0) (xs ys : List ℕ) {a b : D} {r : Result A E}
      → IsErrAnd r Q → IsTrue (failed b) → TakesSome held a b xs → Sends held failed (xs ++ ys) a b r
  sends_cut Q xs ys {a = a} {b = b} refused fails some = sends_refused Q (xs ++ ys) refused fails (some_of_more held a b xs ys some)

  -- what was sent is passed on
  pub sends_flushed : {A E : Type 0} (xs : List ℕ) {a b c : D} {r : Result A E}
      → TakesBytes held a b xs → failed b ≡ failed a → Sends held failed [] b c r → Sends held failed xs a c r
  sends_flushed xs {a = a} {b = b} {c = c} {r = r} took works s = subst (λ bytes. Sends held failed bytes a c r) (append-nil xs) (sends_then xs [] took works s)

  -- ---- piece after piece: of all of it this is still to be sent
  pub record Underway (all rest : List ℕ) (old new : D) : Type 0 where
    pub done : List ℕ
    pub split : all ≡ done ++ rest
    pub taken : TakesBytes held old new done
    pub works : failed new ≡ failed old

  pub underway_start : (all : List ℕ) (a : D) → Underway all all a a
  underway_start all a = record { done = []; split = refl; taken = takes_none held a a refl; works = refl }

  pub underway_on : (all piece rest : List ℕ) {a b c : D} → Underway all (piece ++ rest) a b → TakesBytes held b c piece → failed c ≡ failed b → Underway all rest a c
  underway_on all piece rest {a = a} {b = b} {c = c} u took works = record {
    done = u.done ++ piece;
    split = u.split ∙ sym (append_assoc u.done piece rest);
    taken = takes_then held a b c u.done piece u.taken took;
    works = works ∙ u.works;
  }

  pub underway_some : (all piece rest : List ℕ) {a b c : D} → Underway all (piece ++ rest) a b → TakesSome held b c piece → TakesSome held a c all
  underway_some all piece rest {a = a} {b = b} {c = c} u some =
      subst (TakesSome held a c) (sym u.split) (some_then held a b c u.done (piece ++ rest) u.taken (some_of_more held b c piece rest some))

  pub underway_end : (all : List ℕ) {a b : D} → Underway all [] a b → TakesBytes held a b all
  underway_end all {a = a} {b = b} u = subst (TakesBytes held a b) (sym (u.split ∙ append-nil u.done)) u.taken
