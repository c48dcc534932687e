use Rattle.std.proofs.Common.{◌≡◌, ℕ, ◌+◌, ◌≤◌, List, subst, drop, length, arith, encode_utf8}
use Rattle.line_buffer.specs.Clusters.{IsPart}
use Rattle.line_buffer.specs.Line.{Line}
use Rattle.line_buffer.proofs.PartLemmas.{part_behind}
use Rattle.line_buffer.proofs.line_buffer.LineBuffer.hit_forward.Goals as goal

carried : (l m : Line) → l ≡ m → (past i len : ℕ) (raw text : List ℕ) → text ≡ drop past raw → raw ≡ l.text → past ≤ length raw → IsPart text i len → IsPart m.text (past + i) len
carried l m same past i len raw text e f le h =
    subst (λ x. IsPart x.text (past + i) len) same (subst (λ t. IsPart t (past + i) len) f (part_behind raw past i len le (subst (λ t. IsPart t i len) e h)))

pub returns-in-Some-clause-part : goal.returns-in-Some-clause-part
returns-in-Some-clause-part c =
    carried _ _ c.self.view_is c.unwrap_or-past.result c.in-Some.i (length (encode_utf8 c.args.c)) c.deref.result.now c.range_from.result.now c.range_from.ensures.value c.deref.ensures
    (omega (arith, c.range_from.ensures.len)) c.in-Some.ensures.part
