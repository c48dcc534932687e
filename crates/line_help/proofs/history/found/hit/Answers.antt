use Rattle.std.proofs.Common.{◌≡◌, ◌≤◌, ℕ, List, ◌++◌, Option, Some, None, true, drop, take, length, refl, sym, ap, ◌∙◌, subst, arith, eqb}
use Rattle.std.specs.Prelude.{MatchOption, IfSome}
use Rattle.std.specs.List.{starts_with}
use Rattle.std.specs.Str.{IsUtf8, IsCharBoundary}
use Rattle.std.specs.Str.Pattern.{FindsText, MatchBeginsAt}
use Rattle.std.proofs.lemmas.Bool.Decides.{Decides-eqb}
use Rattle.std.proofs.lemmas.List.{length-append}
use Rattle.std.proofs.lemmas.Slice.Eq.{starts_is}
use Rattle.std.proofs.lemmas.Str.{IsCharBoundary-from_take}
use Rattle.std.proofs.lemmas.Str.Pattern.{starts_text}
use Rattle.std.proofs.Math.Seq.{take-append_seam}
use Rattle.line_help.specs.Search.{first_hit}
use Rattle.line_help.proofs.SearchLemmas.{nowhere, first_place}
use Rattle.line_help.proofs.history.found.hit.Goals as goal

found_is : (term text : List ℕ) (r : Option ℕ) → MatchOption r (FindsText term text None) (MatchBeginsAt (FindsText term) text) → r ≡ first_hit term text
found_is term text None lacks = sym (nowhere term text lacks)
found_is term text (Some i) found = sym (first_place term text i (drop (found.0) text) found.3.0 found.1.0 found.1.1.split)

found_cuts : (term text : List ℕ) (r : Option ℕ) → MatchOption r (FindsText term text None) (MatchBeginsAt (FindsText term) text) → IfSome r (λ pos. IsCharBoundary text pos)
found_cuts term text None lacks = tt
found_cuts term text (Some i) found = found.3

-- a text ends at a boundary of each text that begins with it
cuts_after : (term text : List ℕ) → starts_with eqb text term ≡ true → IsUtf8 term → IsUtf8 text → IsCharBoundary text (length term)
cuts_after term text begins term_utf8 text_utf8 =
    let split : text ≡ term ++ drop (length term) text = (starts_is Decides-eqb text term (starts_with eqb text term) refl).0 begins in
    let front : take (length term) text ≡ term = ap (take (length term)) split ∙ take-append_seam term (drop (length term) text) in
    let few : length term ≤ length text = rw (ap length split ∙ length-append term (drop (length term) text)) (omega arith) in
    IsCharBoundary-from_take text (length term) text_utf8 few (subst IsUtf8 (sym front) term_utf8)

pub returns-then-not-anchored : goal.returns-then-not-anchored
returns-then-not-anchored c = record {
  place = rw (c.if-not-anchored.true) (found_is c.args.term.now c.args.entry.now c.find.result c.find.ensures.cases);
  boundary = found_cuts c.args.term.now c.args.entry.now c.find.result c.find.ensures.cases;
}

pub returns-then-starts_with : goal.returns-then-starts_with
returns-then-starts_with c =
    let e = starts_text c.starts_with.result c.args.term.now c.args.entry.now c.starts_with.ensures.cases in
    record {
      place = rw (c.if-not-anchored.false, ← e, c.if-starts_with.true);
      boundary = cuts_after c.args.term.now c.args.entry.now (sym e ∙ c.if-starts_with.true) c.utf8.term c.utf8.entry;
    }

pub returns-else-starts_with-clause-place : goal.returns-else-starts_with-clause-place
returns-else-starts_with-clause-place c =
    let e = starts_text c.starts_with.result c.args.term.now c.args.entry.now c.starts_with.ensures.cases in
    rw (c.if-not-anchored.false, ← e, c.if-starts_with.false)
