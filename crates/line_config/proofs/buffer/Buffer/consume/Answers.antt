-- What is given goes from the front of what is held.
use Rattle.std.proofs.Common.{ℕ, arith}
use Rattle.std.proofs.lemmas.List.{length-take, length-drop}
use Rattle.line_config.proofs.BufferLemmas.{slice_range-later}
use Rattle.line_config.proofs.buffer.Buffer.consume.Goals as goal

pub invariant_of-self : goal.invariant_of-self
invariant_of-self g c =
    let w = c.args.self.now in
    record { ordered = omega (arith, c.requires, w.ordered, length-take {A = ℕ}, length-drop {A = ℕ}); within = w.within }

pub returns : goal.returns
returns g c =
    let w = c.args.self.now in
    slice_range-later w.bytes w.start w.end c.args.amount (omega (arith, c.requires, w.ordered, length-take {A = ℕ}, length-drop {A = ℕ}))
