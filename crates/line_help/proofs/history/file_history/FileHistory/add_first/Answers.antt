use Rattle.std.proofs.Common.{◌≡◌, true, refl, rules, sym}
use Rattle.std.specs.Prelude.{bytes_eq}
use Rattle.line_help.specs.HistoryText.{header}
use Rattle.line_help.proofs.LoadLemmas.{header_row}
use Rattle.line_help.proofs.history.file_history.FileHistory.add_first.Goals as goal

pub returns-then-eq : goal.returns-then-eq
returns-then-eq c =
    let e : bytes_eq c.args.row.now header ≡ true = search rules in
    record { answer = sym e; added = rw e refl; text = header_row c.args.row.now e; kept = tt; fault = tt }
