-- Some bound sequence begins with given keys exactly if some sequence of these keys and more is bound.
use Rattle.std.proofs.Common.{◌≡◌, ◌↔◌, Bool, true, false, cond, ◌||◌, List, [], ◌∷◌, ◌++◌, length, take, drop, refl, sym, ap, ◌∙◌, true≢false, Option, Some, IsTrue}
use Rattle.std.specs.Prelude.{IsSome, option_map, find as first_passing}
use Rattle.std.proofs.lemmas.Bool.{or_right}
use Rattle.std.proofs.lemmas.List.{take-append-drop}
use Rattle.std.proofs.Math.Seq.{take-append_seam}
use Rattle.line_keys.specs.declared.key.KeyEvent.{KeyEvent}
use Rattle.line_keys.specs.declared.events.Event.{Event, TheVariants.KeySeq}
use Rattle.line_keys.specs.Events.{begins_with, find, begins, has_event}
use Rattle.line_keys.proofs.SameEventsLemmas.{same_event-decides, same_keys-decides}

-- a sequence that begins with the keys is these and its rest
begins_as : (keys : List KeyEvent) (e : Event) → begins_with keys e ≡ true → (rest : List KeyEvent) × (e ≡ KeySeq (keys ++ rest))
begins_as keys (KeySeq sequence) h =
    let front : keys ≡ take (length keys) sequence = (same_keys-decides keys (take (length keys) sequence)).0 h in
    (drop (length keys) sequence, ap KeySeq (sym (take-append-drop (length keys) sequence) ∙ ap (λ (xs : List KeyEvent). xs ++ drop (length keys) sequence) (sym front)))
begins_as keys e h = absurd (true≢false (sym h))

as_begins : (keys rest : List KeyEvent) → begins_with keys (KeySeq (keys ++ rest)) ≡ true
as_begins keys rest = (same_keys-decides keys (take (length keys) (keys ++ rest))).1 (sym (take-append_seam keys rest))

module _ {H : Type 0} where
  still_some : (b : Bool) (x : Event × H) (later : Option (Event × H)) → IsSome (option_map (λ (y : Event × H). y.1) later)
      → IsSome (option_map (λ (y : Event × H). y.1) (cond b (Some x) later))
  still_some true x later h = refl
  still_some false x later h = h

  abbrev Continued : List KeyEvent → List (Event × H) → Type 0
  Continued keys entries = (rest : List KeyEvent) × IsSome (find (KeySeq (keys ++ rest)) entries)

  finds : (keys : List KeyEvent) (entries : List (Event × H)) → begins keys entries ≡ true → Continued keys entries
  finds keys [] h = absurd (true≢false (sym h))
  finds keys (x ∷ entries) h = by (begins_with keys x.0) refl h (finds keys entries)
    where
      by : (now : Bool) → begins_with keys x.0 ≡ now → (now || begins keys entries) ≡ true → (begins keys entries ≡ true → Continued keys entries) → Continued keys (x ∷ entries)
      by true is begun tail =
          let w = begins_as keys x.0 is in
          let same : has_event (KeySeq (keys ++ w.0)) x ≡ true = (same_event-decides x.0 (KeySeq (keys ++ w.0))).1 w.1 in
          (w.0, rw same refl)
      by false is begun tail =
          let w = tail begun in
          (w.0, still_some (has_event (KeySeq (keys ++ w.0)) x) x (first_passing (has_event (KeySeq (keys ++ w.0))) entries) w.1)

  found : (keys rest : List KeyEvent) (entries : List (Event × H)) → IsSome (find (KeySeq (keys ++ rest)) entries) → begins keys entries ≡ true
  found keys rest [] h = absurd (true≢false (sym h))
  found keys rest (x ∷ entries) h = by (has_event (KeySeq (keys ++ rest)) x) refl h (found keys rest entries)
    where
      by : (same : Bool) → has_event (KeySeq (keys ++ rest)) x ≡ same
          → IsSome (option_map (λ (y : Event × H). y.1) (cond same (Some x) (first_passing (has_event (KeySeq (keys ++ rest))) entries)))
          → (IsSome (find (KeySeq (keys ++ rest)) entries) → begins keys entries ≡ true) → (begins_with keys x.0 || begins keys entries) ≡ true
      by true is some tail =
          let at : x.0 ≡ KeySeq (keys ++ rest) = (same_event-decides x.0 (KeySeq (keys ++ rest))).0 is in
          ap (λ (b : Bool). b || begins keys entries) (ap (begins_with keys) at ∙ as_begins keys rest)
      by false is some tail = ap (λ (b : Bool). begins_with keys x.0 || b) (tail some) ∙ or_right (begins_with keys x.0) true refl

  pub begins_both_ways : (keys : List KeyEvent) (entries : List (Event × H)) → IsTrue (begins keys entries) ↔ ((rest : List KeyEvent) × IsSome (find (KeySeq (keys ++ rest)) entries))
  begins_both_ways keys entries = (finds keys entries, λ w. found keys w.0 entries w.1)
