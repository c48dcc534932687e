use Rattle.std.proofs.lemmas.Str.{IsUtf8-string_bytes}
use Rattle.line_editor.proofs.QueryLemmas.{last_dropped}
use Rattle.line_editor.proofs.modal_state.drop_last.Goals as goal

pub returns-in-Some : goal.returns-in-Some
returns-in-Some c = last_dropped _ _ c.in-Some.last (IsUtf8-string_bytes c.args.text.now) c.as_scalar.ensures.scalar c.in-Some.ensures.bytes
