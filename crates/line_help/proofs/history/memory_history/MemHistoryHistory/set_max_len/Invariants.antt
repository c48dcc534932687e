use Rattle.std.proofs.Common.{◌≡◌, drop}
use Rattle.line_help.proofs.history.memory_history.MemHistoryHistory.set_max_len.Given as goal

abbrev pub invariant-loop : goal.invariant-loop
invariant-loop l = record {
  entries : l.self-inside.entries.items ≡ drop l.counter l.fn.self.entries;
  max_len : l.self-inside.max_len ≡ l.len;
  ignore_space : l.self-inside.ignore_space ≡ l.fn.self.settings.ignore_space;
  ignore_dups : l.self-inside.ignore_dups ≡ l.fn.self.settings.ignore_dups;
}
