use Rattle.std.proofs.Common.{subst, ap, IsCharBoundary}
use Rattle.std.proofs.lemmas.Str.{IsCharBoundary-start, IsUtf8-string_bytes}
use Rattle.line_buffer.proofs.line_buffer.LineBuffer.move_buffer_start.Goals as goal

pub set_pos-requires : goal.set_pos-requires
set_pos-requires c = subst (λ bs. IsCharBoundary bs 0) (ap (λ l. l.text) c.self.view_is) (IsCharBoundary-start _ (IsUtf8-string_bytes c.self.inside.buf))
