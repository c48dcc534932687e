use Rattle.std.proofs.Common.{◌≡◌, ◌<◌, true, sym, ◌∙◌, arith}
use Rattle.std.proofs.lemmas.Bool.{not-false, not-true}
use Rattle.line_editor.specs.SharedStyles.{same_style}
use Rattle.line_editor.proofs.SharedLemmas.{stops_by, ends_by, goes_by, spent_old_by, spent_new_by}
use Rattle.line_editor.proofs.shared_styles.shared_styles.Goals as goal
use Rattle.line_editor.proofs.shared_styles.shared_styles.Goals.{else-both-gt0-via-then-both-gt0+else-ne, else-both-gt0-via-else-both-gt0, in-Some-Some+then-both-gt0+then-ne, in_default, in_default-2}

pub returns-then-left-both : goal.returns-then-left-both
returns-then-left-both c =
    let l = c.loop-a in
    let a = c.in-Some-Some.a.now in
    let b = c.in-Some-Some.b.now in
    let k = c.min-both.result in
    let same : 0 < k → same_style a.style b.style ≡ true = elim c.else-both-gt0.branch [
      | else-both-gt0-via-then-both-gt0+else-ne w ↦ λ some. not-false (same_style a.style b.style) (sym w.ne.ensures ∙ w.if-ne.false)
      | else-both-gt0-via-else-both-gt0 w ↦ λ some. absurd (omega (arith, some, w.if-both-gt0.false))
    ] in
    ends_by c.args.upto c.args.old.now c.args.new.now l.left l.old.now l.old_used l.new.now l.new_used l.invariant a b c.in-Some-Some.ensures.value c.in-Some-Some.ensures'.value
    k (omega (arith, c.min-both.ensures)) (omega (arith, c.min-both.ensures)) same (omega (arith, c.if-left-both.true))

pub loop-a-preserved : goal.loop-a-preserved
loop-a-preserved c =
    let l = c.loop-a in
    let a = c.in-Some-Some.a.now in
    let b = c.in-Some-Some.b.now in
    let k = c.min-both.result in
    let same : 0 < k → same_style a.style b.style ≡ true = elim c.else-both-gt0.branch [
      | else-both-gt0-via-then-both-gt0+else-ne w ↦ λ some. not-false (same_style a.style b.style) (sym w.ne.ensures ∙ w.if-ne.false)
      | else-both-gt0-via-else-both-gt0 w ↦ λ some. absurd (omega (arith, some, w.if-both-gt0.false))
    ] in
    goes_by c.args.upto c.args.old.now c.args.new.now l.left l.old.now l.old_used l.new.now l.new_used l.invariant a b c.in-Some-Some.ensures.value c.in-Some-Some.ensures'.value
    k (omega (arith, c.min-both.ensures)) (omega (arith, c.min-both.ensures)) same (omega (arith, c.if-left-both.false)) _ _ _ _
    c.behind.ensures.spans c.behind.ensures.used c.behind-in-Some-Some.ensures.spans c.behind-in-Some-Some.ensures.used

pub returns : goal.returns
returns c =
    let l = c.loop-a in
    elim c.match-first.branch [
      | in-Some-Some+then-both-gt0+then-ne w ↦
          stops_by c.args.upto c.args.old.now c.args.new.now l.left l.old.now l.old_used l.new.now l.new_used l.invariant w.in-Some-Some.a.now w.in-Some-Some.b.now w.in-Some-Some.ensures.value w.in-Some-Some.ensures'.value
          w.min-both.result (omega (arith, w.min-both.ensures)) (omega (arith, w.min-both.ensures)) (omega (arith, w.if-both-gt0.true)) (not-true (same_style w.in-Some-Some.a.now.style w.in-Some-Some.b.now.style) (sym w.ne.ensures ∙ w.if-ne.true))
      | in_default w ↦ spent_new_by c.args.upto c.args.old.now c.args.new.now l.left l.old.now l.old_used l.new.now l.new_used l.invariant w.in_default.ensures'.value
      | in_default-2 w ↦ spent_old_by c.args.upto c.args.old.now c.args.new.now l.left l.old.now l.old_used l.new.now l.new_used l.invariant w.in_default.ensures.value
    ]
