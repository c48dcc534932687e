use Rattle.std.proofs.Common.{◌-◌, drop, ap, sym, ◌∙◌, slice_get}
use Rattle.line_buffer.specs.Words.{edges_of, kinds}
use Rattle.line_buffer.specs.declared.types.At.TheVariants.{BeforeEnd}
use Rattle.line_buffer.proofs.NextRunLemmas.{behind_first, no_first_cluster}
use Rattle.line_buffer.proofs.StopLemmas.{clusters-empty}
use Rattle.line_buffer.proofs.words.nth_last.Goals as goal

pub nth_edge-requires : goal.nth_edge-requires
nth_edge-requires c = record {
  boundary = (behind_first c.args.text.now (c.in_ok-first.field-0-0, c.in_ok-first.first.now) c.utf8.text c.in_ok-first.ensures.value).0;
  some = c.requires;
}

pub returns-in_err-first : goal.returns-in_err-first
returns-in_err-first c =
    c.from_residual.ensures
    ∙ sym (ap (λ xs. slice_get (edges_of BeforeEnd (kinds c.args.word (drop 1 xs))) (c.args.n - 1)) (clusters-empty c.args.text.now (no_first_cluster c.args.text.now c.utf8.text c.in_err-first.ensures.value)))

pub returns : goal.returns
returns c =
    c.nth_edge.ensures
    ∙ ap (λ xs. slice_get (edges_of BeforeEnd (kinds c.args.word xs)) (c.args.n - 1)) (sym (behind_first c.args.text.now (c.in_ok-first.field-0-0, c.in_ok-first.first.now) c.utf8.text c.in_ok-first.ensures.value).1)
