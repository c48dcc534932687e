use Rattle.std.proofs.Common.{sym, arith}
use Rattle.line_help.proofs.FileNameLemmas.{behind_quote}
use Rattle.line_help.proofs.completion.file_names.typed_path.Goals as goal

pub overflow_add-place : goal.overflow_add-place
overflow_add-place c =
    let at = behind_quote c.args.text.now (c.in-Some.place, c.in-Some.quote) c.utf8.text (sym c.in-Some.ensures) in
    omega (arith, at.0)

pub quoted-requires : goal.quoted-requires
quoted-requires c = (behind_quote c.args.text.now (c.in-Some.place, c.in-Some.quote) c.utf8.text (sym c.in-Some.ensures)).1
