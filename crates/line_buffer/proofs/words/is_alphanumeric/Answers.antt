use Rattle.std.proofs.Common.{sym, ◌∙◌, arith}
use Rattle.std.proofs.lemmas.Bool.Decides.{nat_tests}
use Rattle.unicode_segmentation.proofs.AsciiLemmas.{is_alphanumeric_ascii}
use Rattle.line_buffer.proofs.words.is_alphanumeric.Goals as goal

pub returns-then-is_ascii : goal.returns-then-is_ascii
returns-then-is_ascii c = c.is_ascii_alphanumeric.ensures.value ∙ is_alphanumeric_ascii c.args.c (grind (arith, nat_tests, sym c.if-is_ascii.ensures))
