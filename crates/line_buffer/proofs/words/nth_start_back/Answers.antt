use Rattle.std.proofs.Common.{◌<◌, ◌-◌, ◌∷◌, ◌++◌, [], reverse, ap, sym, ◌∙◌, arith, subst, slice_get}
use Rattle.std.proofs.lemmas.Str.{IsCharBoundary-end}
use Rattle.line_buffer.specs.Clusters.{clusters}
use Rattle.line_buffer.specs.Words.{EndsInRun, edges_of, kinds}
use Rattle.line_buffer.specs.declared.types.At.TheVariants.{Start}
use Rattle.line_buffer.proofs.PartLemmas.{boundary_before, slice_range-front}
use Rattle.line_buffer.proofs.StopLemmas.{clusters-empty}
use Rattle.line_buffer.proofs.WordLemmas.{turn_missed, turn_found, turn_passed}
use Rattle.line_buffer.proofs.WordRunLemmas.{run_split, blank_end}
use Rattle.line_buffer.proofs.words.nth_start_back.Goals as goal

pub loop-start-init : goal.loop-start-init
loop-start-init c = record {
  some = c.requires;
  boundary = IsCharBoundary-end c.args.text.now;
  found = ap (λ xs. slice_get (reverse xs) (c.args.n - 1)) (blank_end c.args.word c.args.text.now);
}

pub loop-start-preserved : goal.loop-start-preserved
loop-start-preserved c =
    let run = subst (λ t. EndsInRun c.args.word t c.in-Some.start c.in-Some.kind) (c.range.ensures.value ∙ slice_range-front c.args.text.now c.loop-start.end) c.in-Some.ensures in
    record {
      some = c.loop-start.invariant.some;
      boundary = boundary_before c.args.text.now c.loop-start.end c.in-Some.start c.loop-start.invariant.boundary run.start;
      found = turn_missed _ _ _ _ (run_split c.args.word c.args.text.now c.loop-start.end c.in-Some.start c.in-Some.kind c.loop-start.right run) c.loop-start.missing c.loop-start.invariant.found (sym c.edge_between.ensures ∙ c.in_default-edge_between.is);
    }

pub returns-then-missing-eq0 : goal.returns-then-missing-eq0
returns-then-missing-eq0 c =
    let run = subst (λ t. EndsInRun c.args.word t c.in-Some.start c.in-Some.kind) (c.range.ensures.value ∙ slice_range-front c.args.text.now c.loop-start.end) c.in-Some.ensures in
    turn_found _ _ _ _ (run_split c.args.word c.args.text.now c.loop-start.end c.in-Some.start c.in-Some.kind c.loop-start.right run) c.loop-start.missing c.loop-start.invariant.found _ (sym c.edge_between.ensures ∙ c.in-Some-edge_between.is) c.if-missing-eq0.true

pub loop-start-preserved-else-missing-eq0 : goal.loop-start-preserved-else-missing-eq0
loop-start-preserved-else-missing-eq0 c =
    let run = subst (λ t. EndsInRun c.args.word t c.in-Some.start c.in-Some.kind) (c.range.ensures.value ∙ slice_range-front c.args.text.now c.loop-start.end) c.in-Some.ensures in
    let more : 0 < c.loop-start.missing - 1 = omega (arith, c.if-missing-eq0.false) in
    record {
      some = more;
      boundary = boundary_before c.args.text.now c.loop-start.end c.in-Some.start c.loop-start.invariant.boundary run.start;
      found = turn_passed _ _ _ _ (run_split c.args.word c.args.text.now c.loop-start.end c.in-Some.start c.in-Some.kind c.loop-start.right run) c.loop-start.missing c.loop-start.invariant.found _ (sym c.edge_between.ensures ∙ c.in-Some-edge_between.is) more;
    }

pub returns : goal.returns
returns c =
    sym (c.loop-start.invariant.found
    ∙ ap (λ xs. slice_get (reverse (edges_of Start (kinds c.args.word xs ++ (c.loop-start.end, c.loop-start.right) ∷ []))) (c.loop-start.missing - 1))
    (ap clusters (sym (c.range.ensures.value ∙ slice_range-front c.args.text.now c.loop-start.end)) ∙ clusters-empty c.range.result.now c.in_default.ensures))
