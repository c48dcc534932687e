use Rattle.std.proofs.Common.{string_bytes, refl, subst, IsUtf8, IsCharBoundary}
use Rattle.line_buffer.proofs.CutLemmas.{at_seam}
use Rattle.line_buffer.proofs.gap_buffer.GapBuffer.gap.Goals as goal

pub returns-clause-boundary : goal.returns-clause-boundary
returns-clause-boundary c =
    subst (λ v. IsCharBoundary v.0.text v.1) c.self.view_is (at_seam _ (string_bytes c.self.inside.before) c.self.inside.after.now _ refl refl (subst IsUtf8 c.as_bytes-after.ensures.value c.as_bytes-after.ensures.utf8))
