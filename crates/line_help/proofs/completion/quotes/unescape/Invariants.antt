use Rattle.std.proofs.Common.{◌≡◌, [], string_bytes, false}
use Rattle.std.specs.Str.Iter.{chars_rest}
use Rattle.line_help.proofs.QuoteLemmas.{unescaping}
use Rattle.line_help.proofs.completion.quotes.unescape.Given as goal

abbrev pub invariant-loop-c : goal.invariant-loop-c
invariant-loop-c l = record {
  can_next : (goal.iterator-loop-c).can_next l.c-iterator;
  is_finite : (goal.iterator-loop-c).is_finite l.c-iterator;
  read : unescaping l.esc false [] l.input ≡ unescaping l.esc l.escapes (string_bytes l.text) (chars_rest l.c-iterator);
}
