use Rattle.std.proofs.Common.{◌-◌, drop, get_or, sym, ap, ◌∙◌, arith}
use Rattle.std.specs.List.{list_all}
use Rattle.line_buffer.specs.Printable.{is_printable}
use Rattle.line_buffer.specs.Words.{is_word_byte}
use Rattle.line_buffer.proofs.WordRunLemmas.{ends_in_word, ends_behind_first, ends_in_cluster, no_cluster}
use Rattle.line_buffer.proofs.words.last_run.Goals as goal

pub returns-then-has : goal.returns-then-has
returns-then-has c =
    ends_in_word c.args.word c.args.text.now c.word_from-start.result c.utf8.text c.if-start-gt0.true (omega (arith, c.if-start-bytes.true, c.as_bytes-bytes.ensures.len))
    (ap (λ bs. is_printable (get_or bs (c.word_from-start.result - 1) 0)) (sym c.as_bytes-bytes.ensures.value) ∙ sym c.if-has.ensures)
    (ap (λ bs. list_all (is_word_byte c.args.word) (drop c.word_from-start.result bs)) (sym c.as_bytes-bytes.ensures.value) ∙ c.word_from-start.ensures.run)

pub returns-then-start-bytes-2 : goal.returns-then-start-bytes-2
returns-then-start-bytes-2 c =
    ends_behind_first c.args.word c.args.text.now c.word_from-start.result c.utf8.text (omega (arith, c.if-start-bytes-2.true, c.as_bytes-bytes.ensures.len))
    (ap (λ bs. list_all (is_word_byte c.args.word) (drop c.word_from-start.result bs)) (sym c.as_bytes-bytes.ensures.value) ∙ c.word_from-start.ensures.run)

pub returns-in_err-start : goal.returns-in_err-start
returns-in_err-start c = rw c.from_residual.ensures (no_cluster c.args.text.now c.utf8.text c.in_err-start.ensures.value)

pub returns : goal.returns
returns c = ends_in_cluster c.args.word c.args.text.now c.in_ok-start.start c.in_ok-start.cluster.now c.kind_of.result c.utf8.text c.in_ok-start.ensures.value c.kind_of.ensures
