use Rattle.std.proofs.Common.{◌≡◌, sym, ap, ◌∙◌, subst, find, All, option_map}
use Rattle.std.proofs.lemmas.List.Elements.{All-head, All-tail}
use Rattle.unicode_segmentation.specs.Iter.{grapheme_indices_left}
use Rattle.line_buffer.specs.Clusters.{clusters}
use Rattle.line_buffer.specs.Words.{is_alphanumeric_cluster}
use Rattle.line_buffer.proofs.LetterCaseLemmas.{found_here, found_later}
use Rattle.line_buffer.proofs.PartLemmas.{IsPartAt, All-IsPartAt}
use Rattle.line_buffer.proofs.letter_case.first_alphanumeric.Goals as goal

pub loop-i-init : goal.loop-i-init
loop-i-init c =
    let e : clusters c.args.text.now ≡ grapheme_indices_left c.into_iter-i-iterator.result =
    sym (ap grapheme_indices_left c.into_iter-i-iterator.ensures.into_iter_gives ∙ c.grapheme_indices-i-items.ensures.left) in
    record {
      found = ap (find (λ x. is_alphanumeric_cluster x.1)) e;
      parts = subst (All (IsPartAt c.args.text.now)) e (All-IsPartAt c.args.text.now c.utf8.text);
    }

pub loop-i-preserved : goal.loop-i-preserved
loop-i-preserved c = record {
  found = found_later _ _ _ _ (c.in-Some.i, c.in-Some.cluster.now) c.loop-i.invariant.found c.in-Some.ensures.steps (sym c.is_alphanumeric_cluster.ensures ∙ c.if-is_alphanumeric_cluster.false);
  parts = All-tail (IsPartAt c.args.text.now) (c.in-Some.i, c.in-Some.cluster.now) _ (subst (All (IsPartAt c.args.text.now)) c.in-Some.ensures.steps c.loop-i.invariant.parts);
}

pub returns-then-is_alphanumeric_cluster-clause-value : goal.returns-then-is_alphanumeric_cluster-clause-value
returns-then-is_alphanumeric_cluster-clause-value c =
    sym (ap (option_map (λ x. x.0)) (found_here _ _ _ _ (c.in-Some.i, c.in-Some.cluster.now) c.loop-i.invariant.found c.in-Some.ensures.steps (sym c.is_alphanumeric_cluster.ensures ∙ c.if-is_alphanumeric_cluster.true)))

pub returns-then-is_alphanumeric_cluster-clause-boundary : goal.returns-then-is_alphanumeric_cluster-clause-boundary
returns-then-is_alphanumeric_cluster-clause-boundary c =
    (All-head (IsPartAt c.args.text.now) (c.in-Some.i, c.in-Some.cluster.now) _ (subst (All (IsPartAt c.args.text.now)) c.in-Some.ensures.steps c.loop-i.invariant.parts)).start
