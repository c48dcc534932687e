use Rattle.std.proofs.Common.{◌≡◌, ℕ, Bool, take, length}
use denote.Text.{Utf8}
use denote.Shadow.{shadow}
use Rattle.line_help.specs.Quotes.{Tells}
use Rattle.line_help.specs.Completion.{word_start}
use Rattle.line_help.proofs.completion.word_before.extract_word.Given as goal

abbrev pub invariant-loop-before : goal.invariant-loop-before
invariant-loop-before g l = record {
  is_text : shadow (Utf8 l.rest);
  front : take (length l.rest) l.text ≡ l.rest;
  same : l.is_break_char ≡ l.fn.is_break_char;
  start : (breaks : ℕ → Bool) → Tells (goal.F-post g l.fn.is_break_char) breaks → word_start l.esc_char breaks l.text ≡ word_start l.esc_char breaks l.rest;
}

abbrev pub decreases-loop-before : goal.decreases-loop-before
decreases-loop-before g l = length l.rest
