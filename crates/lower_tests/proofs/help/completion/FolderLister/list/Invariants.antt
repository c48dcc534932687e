use Rattle.std.proofs.Common.{◌≡◌, map, take}
use Rattle.lower_tests.proofs.help.completion.FolderLister.list.Given as goal

abbrev pub invariant-loop-name : goal.invariant-loop-name
invariant-loop-name l = l.all.items ≡ map (λ p. record { name = p.0.now; is_dir = p.1 }) (take l.name-index l.names)
