use Rattle.std.proofs.Common.{◌≡◌, ℕ, ◌≤◌, take, drop, refl, sym, subst, arith}
use Rattle.std.specs.List.{position_or_len}
use Rattle.std.proofs.lemmas.Simd.{zip2_splat, splat_is_map, length-chunk}
use lib.Lanes.{chunk}
use Rattle.line_help.specs.Brackets.{is_bracket}
use Rattle.line_help.proofs.LaneLemmas.{both, first_found, found_within}
use Rattle.line_help.proofs.helpers.bracket_validator.lanes_before_bracket.Goals as goal

pub returns : goal.returns
returns c =
    let v = chunk c.args.at 16 c.args.bytes.now in
    let long = length-chunk c.args.at 16 c.args.bytes.now c.requires in
    let folded = zip2_splat {Y = ℕ} _ v 16 32 long in
    let found : c.lowest_lane.result ≡ position_or_len is_bracket (take 16 (drop c.args.at c.args.bytes.now)) =
    first_found is_bracket _ refl c.args.bytes.now c.args.at 16 _ _ c.requires (omega arith) c.type_inv.bytes
    (both _ _ _ v (both _ _ _ v (both _ _ _ v (zip2_splat {Y = ℕ} _ v 16 254 long) (splat_is_map v 16 40 long)) (both _ _ _ v folded (splat_is_map v 16 123 long))) (both _ _ _ v folded (splat_is_map v 16 125 long)))
    c.lowest_lane.ensures in
    record { count = found; bound = subst (λ n. n ≤ 16) (sym found) (found_within is_bracket c.args.bytes.now c.args.at 16 c.requires) }
