use lib.Utf8.{encode}
use Rattle.std.proofs.Common.{◌∙◌, sym}
use Rattle.line_help.proofs.SplitLemmas.{final_boundary, no_bracket}
use Rattle.line_help.proofs.helpers.style_split.sequence_in.Goals as goal

pub returns-in_err-body : goal.returns-in_err-body
unfolding encode
returns-in_err-body c = rw c.from_residual.ensures (no_bracket c.args.after.now c.in_err-body.ensures.cases)

pub split_at-requires : goal.split_at-requires
split_at-requires c =
    rw (← c.as_bytes.ensures.value)
    (final_boundary c.as_bytes.result.now c.in_ok-len.len c.as_bytes.ensures.utf8 (sym c.final_len.ensures ∙ c.in_ok-len.was))
