use Rattle.std.proofs.Common.{sym, false}
use Rattle.std.proofs.lemmas.Str.Pattern.{starts_text}
use Rattle.line_help.specs.Search.{hit_of}
use Rattle.line_help.proofs.SearchLemmas.{anchored_begins}
use Rattle.line_help.proofs.helpers.hint.HistoryHinterHinter.hint.Goals as goal

-- what the search found begins with the line
pub returns-in-None : goal.returns-in-None
returns-in-None g c =
    let begins = anchored_begins c.args.line.now c.if-place-len.start (g.Hi.History.entries c.history-2.result.now) (hit_of c.in-Some.found) (sym c.in-Some.ensures.found) in
    let lacks = starts_text false c.args.line.now c.in-Some.found.entry.now c.in-None.ensures.cases in
    record { answer = cc; fault = tt }
