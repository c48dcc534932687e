use Rattle.std.proofs.Common.{subst, IsUtf8}
use Rattle.std.proofs.lemmas.Str.{IsUtf8-append, IsUtf8-string_bytes}
use Rattle.line_buffer.proofs.gap_buffer.GapBuffer.after.Goals as goal

pub returns-clause-utf8 : goal.returns-clause-utf8
returns-clause-utf8 c =
    subst (λ v. IsUtf8 v.0.text) c.self.view_is (IsUtf8-append _ _ (IsUtf8-string_bytes c.self.inside.before) (subst IsUtf8 c.as_bytes-after.ensures.value c.as_bytes-after.ensures.utf8))
