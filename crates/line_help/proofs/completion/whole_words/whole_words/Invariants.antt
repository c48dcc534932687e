use Rattle.std.proofs.Common.{◌≡◌, map, take}
use Rattle.std.specs.Prelude.{string_bytes}
use Rattle.line_help.specs.Completion.{word_offered}
use Rattle.line_help.proofs.completion.whole_words.whole_words.Given as goal

abbrev pub invariant-loop-word : goal.invariant-loop-word
invariant-loop-word l = l.found.items ≡ map (word_offered l.end) (map string_bytes (take l.word-index l.words))
