use Rattle.std.proofs.Common.{◌≡◌, string_bytes}
use Rattle.std.specs.Str.Iter.{chars_rest}
use Rattle.line_help.specs.HistoryText.{unescaped_row}
use Rattle.line_help.proofs.EscapeLemmas.{progress}
use Rattle.line_help.proofs.history.escapes.unescaped.Given as goal

abbrev pub invariant-loop-c : goal.invariant-loop-c
invariant-loop-c l = record {
  can_next : (goal.iterator-loop-c).can_next l.c-iterator;
  is_finite : (goal.iterator-loop-c).is_finite l.c-iterator;
  read : unescaped_row l.row ≡ progress l.escape (string_bytes l.text) (chars_rest l.c-iterator);
}
