use Rattle.std.proofs.Common.{◌≡◌, ◌++◌, map, take}
use Rattle.keyline.proofs.invocation.append.Given as goal

abbrev pub invariant-loop-word : goal.invariant-loop-word
invariant-loop-word g l =
    map (λ w. w.now) l.texts.items ≡ map (λ w. w.now) l.initial.texts.items ++ map g.S.AsStr.text (take l.word-index l.words)
