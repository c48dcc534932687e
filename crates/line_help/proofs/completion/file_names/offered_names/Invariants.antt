use Rattle.std.proofs.Common.{◌≡◌, ◌++◌, drop}
use Rattle.line_help.specs.FileNames.{offered_names}
use Rattle.line_help.proofs.completion.file_names.offered_names.Given as goal

abbrev pub invariant-loop-listed : goal.invariant-loop-listed
invariant-loop-listed l = l.pairs.items ++ offered_names l.quote l.folder l.name (drop l.listed-index l.all) ≡ offered_names l.quote l.folder l.name l.all
