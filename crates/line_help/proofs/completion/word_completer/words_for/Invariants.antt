use Rattle.std.proofs.Common.{◌≡◌, map, take}
use Rattle.std.specs.Prelude.{string_bytes}
use Rattle.line_help.specs.Completion.{words_for}
use Rattle.line_help.proofs.completion.word_completer.words_for.Given as goal

abbrev pub invariant-loop-word : goal.invariant-loop-word
invariant-loop-word l = map string_bytes l.found.items ≡ words_for l.beginning (map string_bytes (take l.word-index l.words))
