use Rattle.std.proofs.Common.{◌∙◌, ◌++◌, sym, ap}
use Rattle.line_help.proofs.FileNameLemmas.{name_taken, name_skipped}
use Rattle.line_help.proofs.completion.file_names.offered_names.Goals as goal
use Rattle.line_help.proofs.completion.file_names.offered_names.Goals.{then-begins_with+in_ok-offered_name+in_ok-push, else-begins_with}

pub loop-listed-preserved : goal.loop-listed-preserved
loop-listed-preserved c =
    elim c.if-begins_with.branch [
      | then-begins_with+in_ok-offered_name+in_ok-push w ↦
          let begins = sym c.begins_with.ensures ∙ w.if-begins_with.true in
          rw (w.pairs-is, w.in_ok-push.ensures.items, w.in_ok-offered_name.ensures.pair)
          (sym (name_taken c.args.quote c.args.folder.now c.args.name.now c.args.all.now c.loop-listed.listed-index c.listed-item.result c.loop-listed.pairs.items
          c.loop-listed-test.true c.listed-item.is begins) ∙ c.loop-listed.invariant)
      | else-begins_with w ↦
          let begins = sym c.begins_with.ensures ∙ w.if-begins_with.false in
          rw w.pairs-is
          (ap (λ rest. c.loop-listed.pairs.items ++ rest)
          (sym (name_skipped c.args.quote c.args.folder.now c.args.name.now c.args.all.now c.loop-listed.listed-index c.listed-item.result
          c.loop-listed-test.true c.listed-item.is begins)) ∙ c.loop-listed.invariant)
    ]
