-- What is put after the held bytes follows them.
use Rattle.std.proofs.Common.{◌≤◌, ◌∙◌, ◌≡◌, ◌++◌, ℕ, List, ap, arith, length, take}
use Rattle.std.proofs.lemmas.Grind.{common_steps}
use Rattle.line_config.specs.Parts.{bytes_in}
use Rattle.line_config.proofs.BufferLemmas.{slice_range-put_mid}
use Rattle.line_config.proofs.buffer.Buffer.append.Goals as goal

pub returns-clause-bytes : goal.returns-clause-bytes
returns-clause-bytes g c =
    let w = c.args.self.now in
    let n = c.min-count.result in
    let copied = c.copy_from_slice.new.self in
    let within : w.end ≤ length w.bytes = omega arith in
    let fits : n ≤ length copied = grind (arith, common_steps) in
    let same : take n copied ≡ take n c.args.bytes.now = grind (arith, common_steps) in
    slice_range-put_mid w.bytes copied w.start w.end _ n w.ordered within fits ∙ ap (λ (t : List ℕ). bytes_in w ++ t) same
