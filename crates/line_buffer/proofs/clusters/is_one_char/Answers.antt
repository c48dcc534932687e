use Rattle.std.proofs.Common.{length, sym, ◌∙◌, eqb-true}
use Rattle.line_buffer.proofs.ClusterLemmas.{one_char}
use Rattle.line_buffer.proofs.clusters.is_one_char.Goals as goal

pub returns-in-Some : goal.returns-in-Some
returns-in-Some c = λ long.
    one_char c.args.text.now _ c.in-Some.first c.utf8.text (sym c.chars.ensures.rest ∙ c.in-Some.ensures.steps.0)
    (sym c.len_utf8.ensures.len ∙ eqb-true c.len_utf8.result (length c.args.text.now) long)
