-- A run: the bytes of an entry up to its first newline or backslash.
use Rattle.std.proofs.Common.{◌≡◌, ℕ, zero, suc, ◌+◌, ◌-◌, ◌<◌, ◌≤◌, Bool, false, List, [], ◌∷◌, ◌++◌, length, take, drop, refl, sym, ap, ◌∙◌, subst, get_or, arith, append-nil, Result, Ok, Err, IsTrue, IfErr}
use Rattle.std.specs.Prelude.{◌==◌}
use Rattle.std.specs.Result.{IsErrAnd}
use Rattle.std.proofs.lemmas.Bool.{or_parts, false_from_ne_true}
use Rattle.std.proofs.lemmas.List.{take_all, take_more, drop_all, drop_more, length-drop, drop-drop, take-append-drop}
use Rattle.std.proofs.lemmas.Grind.{flat_map-append}
use Rattle.memchr.specs.Find.{Nowhere, Passes, is_byte2}
use Rattle.line_config.specs.Sending.{TakesBytes, TakesSome}
use Rattle.line_config.specs.declared.errors.ReadlineError.{ReadlineError, TheVariants.HistoryText}
use Rattle.line_config.proofs.Taking.{Underway, takes_then, some_then, some_of_more, underway_end, underway_on, underway_some}
use Rattle.line_help.specs.HistoryText.{escaped_byte, escaped_entry, SendsRun}

plain_byte : (b : ℕ) → is_byte2 10 92 b ≡ false → escaped_byte b ≡ b ∷ []
plain_byte b none = let parts = or_parts (b == 10) (b == 92) none in rw (parts.0, parts.1) refl

-- no newline and no backslash stands before a place
abbrev pub IsRun : List ℕ → ℕ → Type 0
IsRun xs n = Nowhere (Passes (is_byte2 10 92) xs) 0 n

-- a run is written as it is
run_is : (xs : List ℕ) (n : ℕ) → n ≤ length xs → IsRun xs n → escaped_entry (take n xs) ≡ take n xs
run_is xs zero fits run = refl
run_is [] (suc n) fits run = absurd (omega arith)
run_is (x ∷ xs) (suc n) fits run =
    ap (λ bytes. bytes ++ escaped_entry (take n xs)) (plain_byte x (false_from_ne_true _ (run 0 (omega arith) (omega arith))))
    ∙ ap (λ bytes. x ∷ bytes) (run_is xs n (omega arith) (λ k low high. run (suc k) (omega arith) (omega arith)))

pub all_is : (xs : List ℕ) → IsRun xs (length xs) → escaped_entry xs ≡ xs
all_is xs run = subst (λ ys. escaped_entry ys ≡ ys) (take_all (length xs) xs (omega arith)) (run_is xs (length xs) (omega arith) run)

-- a run and what follows it
split_at : (xs : List ℕ) (n : ℕ) → n < length xs → IsRun xs n
    → escaped_entry xs ≡ take n xs ++ (escaped_byte (get_or xs n 0) ++ escaped_entry (drop (n + 1) xs))
split_at xs n fits run =
    ap escaped_entry (sym (take-append-drop n xs)) ∙ flat_map-append escaped_byte (take n xs) (drop n xs)
    ∙ rw (run_is xs n (omega arith) run, drop_more xs n 0 fits) refl

taken_at : (xs : List ℕ) (n : ℕ) → n < length xs → IsRun xs n → escaped_entry (take (n + 1) xs) ≡ take n xs ++ escaped_byte (get_or xs n 0)
taken_at xs n fits run =
    rw (take_more xs n 0 fits, flat_map-append escaped_byte (take n xs) (get_or xs n 0 ∷ []), run_is xs n (omega arith) run, append-nil) refl

module _ {D : Type 0} (held : D → List ℕ) (failed : D → Bool) (bytes : List ℕ) where
  pub run_refused : (Q : ReadlineError → Type 0) {a b : D} {r : Result ℕ ReadlineError}
      → IsErrAnd r Q → IfErr r (λ e. e ≡ HistoryText) → IsTrue (failed b) → TakesSome held a b (escaped_entry bytes)
      → SendsRun held failed bytes a b r
  run_refused Q {r = Ok n} refused fault fails some = absurd refused
  run_refused Q {r = Err e} refused fault fails some = record { count = tt; sent = tt; works = tt; err = fails; begins = some; fault = fault }

  pub run_begun : (n : ℕ) {a b : D} → n < length bytes → IsRun bytes n → TakesSome held a b (take n bytes) → TakesSome held a b (escaped_entry bytes)
  run_begun n {a = a} {b = b} fits run some =
      subst (TakesSome held a b) (sym (split_at bytes n fits run))
      (some_of_more held a b (take n bytes) (escaped_byte (get_or bytes n 0) ++ escaped_entry (drop (n + 1) bytes)) some)

  pub escape_begun : (n : ℕ) {a b c : D} → n < length bytes → IsRun bytes n → TakesBytes held a b (take n bytes) → TakesSome held b c (escaped_byte (get_or bytes n 0))
      → TakesSome held a c (escaped_entry bytes)
  escape_begun n {a = a} {b = b} {c = c} fits run took some =
      subst (TakesSome held a c) (sym (split_at bytes n fits run))
      (some_then held a b c (take n bytes) (escaped_byte (get_or bytes n 0) ++ escaped_entry (drop (n + 1) bytes)) took
      (some_of_more held b c (escaped_byte (get_or bytes n 0)) (escaped_entry (drop (n + 1) bytes)) some))

  pub run_sent : (n : ℕ) (a b c : D) → n < length bytes → IsRun bytes n → TakesBytes held a b (take n bytes)
      → TakesBytes held b c (escaped_byte (get_or bytes n 0)) → TakesBytes held a c (escaped_entry (take (n + 1) bytes))
  run_sent n a b c fits run took more =
      subst (TakesBytes held a c) (sym (taken_at bytes n fits run)) (takes_then held a b c (take n bytes) (escaped_byte (get_or bytes n 0)) took more)

  -- ---- run after run: this is sent of the entry's text

  abbrev pub Sent : ℕ → D → D → Type 0
  Sent n a b = Underway held failed (escaped_entry bytes) (escaped_entry (drop n bytes)) a b

  -- the bytes from a place on, as a slice of them is
  rest_is : (n : ℕ) → take (length bytes - n) (drop n bytes) ≡ drop n bytes
  rest_is n = take_all (length bytes - n) (drop n bytes) (subst (λ k. k ≤ length bytes - n) (sym (length-drop n bytes)) (omega arith))

  pub run_cut : (n : ℕ) {a b c : D} → Sent n a b → TakesSome held b c (escaped_entry (take (length bytes - n) (drop n bytes)))
      → TakesSome held a c (escaped_entry bytes)
  run_cut n {a = a} {b = b} {c = c} under some =
      let text = escaped_entry (drop n bytes) in
      underway_some held failed (escaped_entry bytes) text [] (subst (λ left. Underway held failed (escaped_entry bytes) left a b) (sym (append-nil text)) under)
      (subst (λ ys. TakesSome held b c (escaped_entry ys)) (rest_is n) some)

  pub run_done : (n m : ℕ) {a b c : D} → Sent n a b → TakesBytes held b c (escaped_entry (take m (take (length bytes - n) (drop n bytes)))) → failed c ≡ failed b
      → Sent (n + m) a c
  run_done n m {a = a} {b = b} {c = c} under took works =
      let left = drop n bytes in
      let parted : escaped_entry left ≡ escaped_entry (take m left) ++ escaped_entry (drop (n + m) bytes) =
      ap escaped_entry (sym (take-append-drop m left)) ∙ flat_map-append escaped_byte (take m left) (drop m left)
      ∙ ap (λ ys. escaped_entry (take m left) ++ escaped_entry ys) (drop-drop m n bytes) in
      underway_on held failed (escaped_entry bytes) (escaped_entry (take m left)) (escaped_entry (drop (n + m) bytes))
      (subst (λ text. Underway held failed (escaped_entry bytes) text a b) parted under)
      (subst (λ ys. TakesBytes held b c (escaped_entry (take m ys))) (rest_is n) took) works

  pub runs_done : (n : ℕ) {a b : D} → length bytes ≤ n → Sent n a b → TakesBytes held a b (escaped_entry bytes)
  runs_done n {a = a} {b = b} past under =
      underway_end held failed (escaped_entry bytes) (subst (λ ys. Underway held failed (escaped_entry bytes) (escaped_entry ys) a b) (drop_all n bytes past) under)
