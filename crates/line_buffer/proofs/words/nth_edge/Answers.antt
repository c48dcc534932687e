use Rattle.std.proofs.Common.{◌<◌, ◌-◌, ◌∷◌, drop, length, ap, sym, ◌∙◌, arith, slice_get}
use Rattle.line_buffer.specs.Words.{edges_of, kinds}
use Rattle.line_buffer.proofs.NextRunLemmas.{clusters_at-empty, run_behind}
use Rattle.line_buffer.proofs.WordLemmas.{turn_missed, turn_found, turn_passed}
use Rattle.line_buffer.proofs.words.nth_edge.Goals as goal
use Rattle.line_buffer.proofs.words.nth_edge.Goals.{in-Some-edge_between+else-missing-eq0, in_default-edge_between}

pub returns-in_err-last : goal.returns-in_err-last
returns-in_err-last c =
    c.from_residual.ensures
    ∙ sym (ap (λ xs. slice_get (edges_of c.args.at (kinds c.args.word xs)) (c.args.n - 1))
    (clusters_at-empty c.args.from (drop c.args.from c.args.text.now) (ap length (sym c.range_from.ensures.value) ∙ c.in_err-last.ensures)))

pub returns : goal.returns
returns c =
    sym (c.loop-last.invariant.found ∙ ap (λ xs. slice_get (edges_of c.args.at (c.loop-last.left ∷ kinds c.args.word xs)) (c.loop-last.missing - 1))
    (clusters_at-empty c.loop-last.place (drop c.loop-last.place c.args.text.now) (ap length (sym c.range_from-in-loop-last.ensures.value) ∙ c.in_default.ensures)))

pub loop-last-init : goal.loop-last-init
loop-last-init c =
    let run = run_behind c.args.word c.args.text.now c.args.from c.in_ok-last.last c.in_ok-last.end c.in_ok-last.kind _ c.range_from.ensures.value c.requires.boundary.0 c.in_ok-last.ensures in
    record { some = c.requires.some; boundary = run.boundary; found = ap (λ xs. slice_get xs (c.args.n - 1)) (run.first c.args.at) }

pub loop-last-preserved : goal.loop-last-preserved
loop-last-preserved c =
    let run = run_behind c.args.word c.args.text.now c.loop-last.place c.in-Some.last c.in-Some.end c.in-Some.kind _ c.range_from-in-loop-last.ensures.value c.loop-last.invariant.boundary.0 c.in-Some.ensures in
    elim c.match-edge_between.branch [
      | in-Some-edge_between+else-missing-eq0 w ↦
          let more : 0 < c.loop-last.missing - 1 = omega (arith, w.if-missing-eq0.false) in
          record {
            some = rw w.missing-is more;
            boundary = run.boundary;
            found = rw w.missing-is (turn_passed _ _ _ _ (run.splits c.args.at c.loop-last.left) c.loop-last.missing c.loop-last.invariant.found _ (sym c.edge_between.ensures ∙ w.in-Some-edge_between.is) more);
          }
      | in_default-edge_between w ↦ record {
        some = rw w.missing-is c.loop-last.invariant.some;
        boundary = run.boundary;
        found = rw w.missing-is (turn_missed _ _ _ _ (run.splits c.args.at c.loop-last.left) c.loop-last.missing c.loop-last.invariant.found (sym c.edge_between.ensures ∙ w.in_default-edge_between.is));
      }
    ]

pub loop-last-smaller : goal.loop-last-smaller
loop-last-smaller c =
    let run = run_behind c.args.word c.args.text.now c.loop-last.place c.in-Some.last c.in-Some.end c.in-Some.kind _ c.range_from-in-loop-last.ensures.value c.loop-last.invariant.boundary.0 c.in-Some.ensures in
    omega (arith, run.boundary.0, run.some)

pub returns-then-missing-eq0 : goal.returns-then-missing-eq0
returns-then-missing-eq0 c =
    let run = run_behind c.args.word c.args.text.now c.loop-last.place c.in-Some.last c.in-Some.end c.in-Some.kind _ c.range_from-in-loop-last.ensures.value c.loop-last.invariant.boundary.0 c.in-Some.ensures in
    turn_found _ _ _ _ (run.splits c.args.at c.loop-last.left) c.loop-last.missing c.loop-last.invariant.found _ (sym c.edge_between.ensures ∙ c.in-Some-edge_between.is) c.if-missing-eq0.true
