-- What a writer notes of calls one after the other.
use Rattle.std.proofs.Common.{◌≡◌, ℕ, List, [], ◌∷◌, ◌++◌, take, Option, Some, None, Result, Ok, sym, ap, subst, ◌∙◌, append-nil, append_assoc}
use Rattle.std.proofs.lemmas.List.{append_cancel_left}
use Rattle.std.specs.Io.KnownBytes.{Keeps, Appends, WriteAppends}
use Rattle.std.specs.declared.io.Error.{Error}
use Rattle.line_config.specs.DeviceCalls.{DeviceCall}
use Rattle.line_config.specs.Parts.{Notes, calls_of, took, inner_of}
use Rattle.line_config.proofs.KnownLemmas.{keeps_same}
use Rattle.line_config.proofs.TryLemmas.{since_same, since_then}
use Rattle.line_config.specs.declared.recorded.Recorded.{Recorded}

appends_none : (a b : Option (List ℕ)) → Keeps a b → Appends a b []
appends_none None b kept = tt
appends_none (Some xs) None kept = absurd kept
appends_none (Some xs) (Some ys) kept = kept ∙ sym (append-nil xs)

appends_then : (a b c : Option (List ℕ)) (xs ys : List ℕ) → Appends a b xs → Appends b c ys → Appends a c (xs ++ ys)
appends_then None b c xs ys first second = tt
appends_then (Some ws) None c xs ys first second = absurd first
appends_then (Some ws) (Some vs) None xs ys first second = absurd second
appends_then (Some ws) (Some vs) (Some us) xs ys first second = second ∙ ap (λ zs. zs ++ ys) first ∙ append_assoc ws xs ys

module _ {W : Type 0} (contents : W → Option (List ℕ)) where
  pub notes_same : (a : Recorded W) → Notes contents a a
  notes_same a =
      let own = contents (inner_of a) in
      record { more = []; noted = sym (append-nil (took a)); writer = appends_none own own (keeps_same own); calls = since_same (calls_of a) }

  pub notes_some : (a b : Recorded W) (bytes : List ℕ) (call : DeviceCall) → took b ≡ took a ++ bytes → Appends (contents (inner_of a)) (contents (inner_of b)) bytes
      → calls_of b ≡ call ∷ calls_of a → Notes contents a b
  notes_some a b bytes call took-more got noted =
      record { more = bytes; noted = took-more; writer = got; calls = record { others = call ∷ []; noted = noted } }

  pub notes_none : (a b : Recorded W) (call : DeviceCall) → took b ≡ took a → Keeps (contents (inner_of a)) (contents (inner_of b)) → calls_of b ≡ call ∷ calls_of a
      → Notes contents a b
  notes_none a b call same kept noted =
      notes_some a b [] call (same ∙ sym (append-nil (took a))) (appends_none (contents (inner_of a)) (contents (inner_of b)) kept) noted

  pub notes_written : (a b : Recorded W) (result : Result ℕ Error) (n : ℕ) (bytes : List ℕ) (call : DeviceCall) → result ≡ Ok n
      → WriteAppends (Some (took a)) (Some (took b)) result bytes → WriteAppends (contents (inner_of a)) (contents (inner_of b)) result bytes
      → calls_of b ≡ call ∷ calls_of a → Notes contents a b
  notes_written a b result n bytes call is took-more got noted = notes_some a b (take n bytes) call (rw is at took-more) (rw is at got) noted

  pub notes_then : (a b c : Recorded W) → Notes contents a b → Notes contents b c → Notes contents a c
  notes_then a b c first second = record {
    more = first.more ++ second.more;
    noted = second.noted ∙ ap (λ zs. zs ++ second.more) first.noted ∙ append_assoc (took a) first.more second.more;
    writer = appends_then (contents (inner_of a)) (contents (inner_of b)) (contents (inner_of c)) first.more second.more first.writer second.writer;
    calls = since_then first.calls second.calls;
  }

  -- all that waited was noted, so the writer below has it
  pub notes_all : (a b : Recorded W) (bytes rest : List ℕ) → Notes contents a b → took b ++ rest ≡ took a ++ bytes → rest ≡ []
      → Appends (contents (inner_of a)) (contents (inner_of b)) bytes
  notes_all a b bytes rest notes all none =
      let same : took a ++ notes.more ≡ took a ++ bytes = sym notes.noted ∙ sym (append-nil (took b)) ∙ ap (λ zs. took b ++ zs) (sym none) ∙ all in
      subst (Appends (contents (inner_of a)) (contents (inner_of b))) (append_cancel_left (took a) notes.more bytes same) notes.writer

pub ruleset on_notes = (notes_same, notes_none, notes_some, notes_then, notes_all)
