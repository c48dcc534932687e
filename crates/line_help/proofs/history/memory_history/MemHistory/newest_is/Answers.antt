use Rattle.std.proofs.Common.{◌≡◌, length, rules}
use Rattle.line_help.proofs.SearchLemmas.{newest_last}
use Rattle.line_help.proofs.history.memory_history.MemHistory.newest_is.Goals as goal

pub returns-in-Some : goal.returns-in-Some
returns-in-Some c =
    let entries = c.self.inside.entries.items in
    let n : length entries ≡ c.self.inside.entries.len = search rules in
    let e = newest_last c.args.text.now entries c.in-Some.entry.now c.in-Some.ensures.item.3.0 in
    rw (← c.self.view_is, e, n, ← c.in-Some.ensures.lookup, ← c.text.ensures, ← c.as_str.ensures.value) c.eq.ensures
