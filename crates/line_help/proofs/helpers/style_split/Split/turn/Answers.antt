use Rattle.std.proofs.Common.{◌≡◌, ◌≢◌, ◌-◌, ◌<◌, true, arith}
use Rattle.line_help.proofs.SplitLemmas.{differ_more}
use Rattle.line_help.proofs.helpers.style_split.Split.turn.Goals as goal
use Rattle.line_help.proofs.helpers.style_split.Split.turn.Goals.{then-self-len+in_ok-push, else-self-len}

pub returns-clause-differ : goal.returns-clause-differ
returns-clause-differ c =
    let other : c.args.self.now.style ≢ c.args.style =
    λ e. let same : c.same_style.result ≡ true = c.same_style.ensures.1 e in cc in
    elim c.if-self-len.branch [
      | then-self-len+in_ok-push w ↦
          let some : 0 < c.len-len.result - c.args.self.now.start = omega (arith, w.if-self-len.true) in
          rw (w.self-is, w.in_ok-push.ensures.items) (differ_more _ _ _ _ c.requires.differ some other)
      | else-self-len w ↦ rw (w.self-is, c.requires.first (omega (arith, w.if-self-len.false))) tt
    ]
