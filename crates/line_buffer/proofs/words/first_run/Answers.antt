use Rattle.std.proofs.Common.{take, get_or, sym, ap, ◌∙◌, arith}
use Rattle.std.specs.List.{list_all}
use Rattle.line_buffer.specs.Printable.{is_printable}
use Rattle.line_buffer.specs.Words.{is_word_byte}
use Rattle.line_buffer.proofs.NextRunLemmas.{begins_in_word, begins_before_last, begins_in_cluster, no_first_cluster}
use Rattle.line_buffer.proofs.words.first_run.Goals as goal

pub returns-then-has : goal.returns-then-has
returns-then-has c =
    begins_in_word c.args.word c.args.text.now c.word_upto-count.result c.utf8.text c.if-count-gt0.true (omega (arith, c.if-count-bytes.true, c.as_bytes-bytes.ensures.len))
    (ap (λ bs. is_printable (get_or bs c.word_upto-count.result 0)) (sym c.as_bytes-bytes.ensures.value) ∙ sym c.if-has.ensures)
    (ap (λ bs. list_all (is_word_byte c.args.word) (take c.word_upto-count.result bs)) (sym c.as_bytes-bytes.ensures.value) ∙ c.word_upto-count.ensures.run)

pub returns-then-count-gt1 : goal.returns-then-count-gt1
returns-then-count-gt1 c =
    begins_before_last c.args.word c.args.text.now c.word_upto-count.result c.utf8.text (omega (arith, c.if-count-gt1.true)) (omega (arith, c.word_upto-count.ensures.bound, c.as_bytes-bytes.ensures.len))
    (ap (λ bs. list_all (is_word_byte c.args.word) (take c.word_upto-count.result bs)) (sym c.as_bytes-bytes.ensures.value) ∙ c.word_upto-count.ensures.run)

pub returns-in_err-cluster : goal.returns-in_err-cluster
returns-in_err-cluster c = rw c.from_residual.ensures (no_first_cluster c.args.text.now c.utf8.text c.in_err-cluster.ensures.value)

pub returns : goal.returns
returns c = begins_in_cluster c.args.word c.args.text.now (c.in_ok-cluster.field-0-0, c.in_ok-cluster.cluster.now) c.kind_of.result c.utf8.text c.in_ok-cluster.ensures.value c.kind_of.ensures
