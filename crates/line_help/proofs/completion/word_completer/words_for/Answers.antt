use Rattle.std.proofs.Common.{◌∙◌, sym, ap, nat_eq}
use Rattle.std.specs.Prelude.{string_bytes}
use Rattle.std.specs.List.{starts_with}
use Rattle.line_config.proofs.Taking.{on_err}
use Rattle.line_help.proofs.WordLemmas.{word_taken, word_passed, word_found}
use Rattle.line_help.proofs.completion.word_completer.words_for.Goals as goal
use Rattle.line_help.proofs.completion.word_completer.words_for.Goals.{then-begins_with+in_ok-from_str+in_ok-push, else-begins_with}

pub loop-word-preserved : goal.loop-word-preserved
loop-word-preserved c =
    let begins = ap (λ text. starts_with nat_eq text c.args.beginning.now) (sym c.as_str.ensures.value) ∙ sym c.begins_with.ensures in
    elim c.if-begins_with.branch [
      | then-begins_with+in_ok-from_str+in_ok-push w ↦
          rw (w.found-is, w.in_ok-push.ensures.items)
          (word_taken string_bytes c.args.beginning.now c.args.words.now c.loop-word.found.items c.loop-word.word-index c.word-item.result w.in_ok-from_str.field-0
          c.loop-word-test.true c.word-item.is (begins ∙ w.if-begins_with.true) (w.in_ok-from_str.ensures.ok ∙ w.as_str-then-begins_with.ensures.value) c.loop-word.invariant)
      | else-begins_with w ↦
          rw w.found-is (word_passed string_bytes c.args.beginning.now c.args.words.now c.loop-word.found.items c.loop-word.word-index c.word-item.result
          c.loop-word-test.true c.word-item.is (begins ∙ w.if-begins_with.false) c.loop-word.invariant)
    ]

pub returns-in_err-from_str-clause-memory : goal.returns-in_err-from_str-clause-memory
returns-in_err-from_str-clause-memory c =
    let begins = ap (λ text. starts_with nat_eq text c.args.beginning.now) (sym c.as_str.ensures.value) ∙ (sym c.begins_with.ensures ∙ c.if-begins_with.true) in
    on_err c.from_residual.result
    (word_found string_bytes c.args.beginning.now c.args.words.now c.loop-word.word-index c.word-item.result c.loop-word-test.true c.word-item.is begins)

pub returns-in_err-push-clause-memory : goal.returns-in_err-push-clause-memory
returns-in_err-push-clause-memory c =
    let begins = ap (λ text. starts_with nat_eq text c.args.beginning.now) (sym c.as_str.ensures.value) ∙ (sym c.begins_with.ensures ∙ c.if-begins_with.true) in
    on_err c.from_residual-in_err-push.result
    (word_found string_bytes c.args.beginning.now c.args.words.now c.loop-word.word-index c.word-item.result c.loop-word-test.true c.word-item.is begins)
