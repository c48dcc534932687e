use Rattle.std.proofs.Common.{◌≡◌, ℕ, Bool, [], string_bytes}
use Rattle.std.specs.Str.Iter.{chars_rest}
use Rattle.line_help.specs.Quotes.{Tells}
use Rattle.line_help.proofs.QuoteLemmas.{escaping}
use Rattle.line_help.proofs.completion.quotes.escape.Given as goal

abbrev pub invariant-loop-c : goal.invariant-loop-c
invariant-loop-c g l = record {
  can_next : (goal.iterator-loop-c g).can_next l.c-iterator;
  is_finite : (goal.iterator-loop-c g).is_finite l.c-iterator;
  same : l.is_break_char ≡ l.fn.is_break_char;
  read : (breaks : ℕ → Bool) → Tells (goal.F-post g l.fn.is_break_char) breaks
      → escaping l.esc breaks [] (string_bytes l.fn.input) ≡ escaping l.esc breaks (string_bytes l.text) (chars_rest l.c-iterator);
}
