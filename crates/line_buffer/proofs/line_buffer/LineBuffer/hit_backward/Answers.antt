use Rattle.std.proofs.Common.{◌≡◌, ℕ, ◌+◌, ◌≤◌, List, take, length, Option, Some, None, subst, ap, ◌∙◌, IfSome, IsCharBoundary, encode_utf8}
use Rattle.line_buffer.specs.Clusters.{IsPart}
use Rattle.line_buffer.specs.Line.{Line}
use Rattle.line_buffer.proofs.PartLemmas.{part_before, slice_range-front}
use Rattle.line_buffer.proofs.line_buffer.LineBuffer.hit_backward.Goals as goal

carried : (l m : Line) → l ≡ m → IsCharBoundary l.text l.place → (text : List ℕ) → text ≡ take l.place l.text → (len : ℕ) (o : Option ℕ)
    → IfSome o (λ i. IsPart text i len) → IfSome o (λ i. IsPart m.text i len) × IfSome o (λ i. i + len ≤ m.place)
carried l m same b text e len None h = (tt, tt)
carried l m same b text e len (Some i) h =
    subst (λ x. IsPart x.text i len × (i + len ≤ x.place)) same (part_before l.text l.place i len b (subst (λ t. IsPart t i len) e h))

pub returns-clause-part : goal.returns-clause-part
returns-clause-part c =
    (carried _ _ c.self.view_is c.self.invariant c.range.result.now (c.range.ensures.value ∙ slice_range-front _ _ ∙ ap (take c.self.inside.pos) c.deref.ensures)
    (length (encode_utf8 c.args.c)) c.nth_hit_back.result c.nth_hit_back.ensures.part).0

pub returns-clause-earlier : goal.returns-clause-earlier
returns-clause-earlier c =
    (carried _ _ c.self.view_is c.self.invariant c.range.result.now (c.range.ensures.value ∙ slice_range-front _ _ ∙ ap (take c.self.inside.pos) c.deref.ensures)
    (length (encode_utf8 c.args.c)) c.nth_hit_back.result c.nth_hit_back.ensures.part).1
