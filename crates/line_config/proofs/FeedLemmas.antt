-- Calls of a source, one after the other.
use Rattle.std.proofs.Common.{◌≡◌, ℕ, ◌+◌, ◌-◌, ◌^◌, ◌≤◌, Bool, List, [], ◌++◌, length, take, drop, Option, Some, None, IsTrue, append_assoc, take-append-drop, ◌∙◌, refl, ap, sym, arith}
use Rattle.std.specs.Io.KnownBytes.{Consumes, IsAtEnd}
use Rattle.std.proofs.lemmas.List.{length-take-le, length-drop}
use Rattle.line_config.specs.declared.device.Last.{Last, TheVariants.End}
use Rattle.line_config.specs.Adapters.{feed_of, to_come}
use Rattle.line_config.specs.Feed.{Fills, GivesBytes}
use Rattle.line_config.specs.Foretold.{Foretells, HeldBefore}

-- what remains after a read: nothing if it met the end or a failure, otherwise what follows its bytes
comes : {R : Type 0} (told : R → List ℕ → Option Last → Bool) (left : R → List ℕ → List ℕ) (last : Last) (old new : R) (given bytes now : List ℕ)
    (later : Option Last) → now ≡ given ++ bytes → HeldBefore told left last old new given bytes later → bytes ++ to_come later (left new now) ≡ left old given
comes told left last old new given bytes now None noted held = rw noted (sym held.coming)
comes told left last old new given bytes now (Some x) noted held =
    ap (λ zs. bytes ++ zs) (sym (held.spent x refl).0) ∙ sym held.coming

ends : {R : Type 0} (told : R → List ℕ → Option Last → Bool) (left : R → List ℕ → List ℕ) (last : Last) (old new : R) (given bytes now : List ℕ)
    (later : Option Last) → bytes ≡ [] → (x : Last) × (later ≡ Some x) → HeldBefore told left last old new given bytes later
    → (bytes ++ to_come later (left new now) ≡ []) × (later ≡ Some last)
ends told left last old new given bytes now later none some held =
    let is = some.1 in (rw (is, none) refl, is ∙ ap Some (held.spent some.0 is).1)

-- the first of the bytes that were read are given
pub gives_front : {R : Type 0} (told : R → List ℕ → Option Last → Bool) (left : R → List ℕ → List ℕ) (last : Last) (r : R) (given unread later : List ℕ)
    (met : Option Last) (count : ℕ) (n : ℕ) → n ≤ length unread → later ≡ drop n unread
    → GivesBytes (feed_of told left last r given unread met count) (feed_of told left last r given later met count) (take n unread)
gives_front told left last r given unread later met count n bound is =
    let parts : unread ≡ take n unread ++ later = sym (take-append-drop n unread) ∙ ap (λ bytes. take n unread ++ bytes) (sym is) in
    let rest : length later ≡ length unread - n = ap length is ∙ length-drop n unread in
    record {
      gives = λ t. (t, ap (λ bytes. bytes ++ to_come met (left r given)) parts ∙ append_assoc (take n unread) later _);
      last = refl;
      failed = refl;
      falls = omega (arith, rest, bound, length-take-le n unread bound);
    }

-- a read gave these bytes, or met this: if what is said holds after it, it held before, and the same
-- bytes remain
pub fills_by : {R : Type 0} (remaining : R → Option (List ℕ)) (told : R → List ℕ → Option Last → Bool) (left : R → List ℕ → List ℕ) (last : Last)
    → Foretells remaining told left last → (old new : R) (given unread bytes now : List ℕ) (met later : Option Last) (count more : ℕ)
    → unread ≡ [] → met ≡ None → now ≡ given ++ bytes → Consumes (remaining old) (remaining new) bytes → ((x : Last) → later ≡ Some x → bytes ≡ [])
    → (later ≡ Some End → IsAtEnd (remaining new))
    → (bytes ≡ [] → (x : Last) × (later ≡ Some x)) → 2 ^ 63 - more + length bytes ≤ 2 ^ 63 - count
    → Fills (feed_of told left last old given unread met count) (feed_of told left last new now bytes later more) bytes later
fills_by remaining told left last foretells old new given unread bytes now met later count more empty unmet noted consumed none at_end some bound =
    let held : IsTrue (told new now later) → HeldBefore told left last old new given bytes later =
    λ t. foretells old new given bytes later consumed none at_end (let u : IsTrue (told new (given ++ bytes) later) = rw noted at t in u) in
    rw (empty, unmet) (record {
      told = λ t. (held t).told_before;
      coming = λ t. comes told left last old new given bytes now later noted (held t);
      spent = λ empty t. ends told left last old new given bytes now later empty (some empty) (held t);
      last = refl;
      bound = omega (arith, bound);
    })
