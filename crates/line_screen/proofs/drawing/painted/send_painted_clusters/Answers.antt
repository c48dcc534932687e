-- The clusters of a row, and the letters between them.
use Rattle.std.proofs.Common.{◌≡◌, [], ◌++◌, length, true, refl, sym, ap, append-nil, ◌∙◌}
use Rattle.std.specs.List.{concat}
use Rattle.unicode_segmentation.specs.Grapheme.{graphemes, is_grapheme_break}
use Rattle.unicode_segmentation.specs.Iter.{graphemes_left}
use Rattle.unicode_segmentation.proofs.SegmentsLemmas.{concat-segments}
use Rattle.line_screen.specs.Colours.{painted_letters, painted_clusters, spans_in, brush_paints, skip}
use Rattle.line_screen.specs.Measure.{widths_by}
use Rattle.line_screen.proofs.Runs.{so_far_start, so_far_on, so_far_cut, so_far_then}
use Rattle.line_screen.proofs.PaintCode.{next_other, letters_taken, tail_dropped}
use Rattle.line_screen.proofs.drawing.painted.send_painted_clusters.Goals as goal
use Rattle.line_screen.proofs.Parts.{items_painted_after}

pub loop-cluster-init : goal.loop-cluster-init
loop-cluster-init g c =
    let same : graphemes_left c.into_iter-cluster-iterator.result ≡ graphemes true c.args.row.now =
    ap graphemes_left c.into_iter-cluster-iterator.ensures.into_iter_gives ∙ c.graphemes-cluster-items.ensures.left in
    record {
      letters = [];
      rest_is = c.as_bytes-rest.ensures.value ∙ sym c.as_bytes-tail.ensures.value;
      tail_is = c.as_bytes-tail.ensures.value ∙ sym (ap concat same ∙ concat-segments (is_grapheme_break true) c.args.row.now c.utf8.row);
      holds = rw same (so_far_start c.requires.inside);
    }

pub returns-in_err-col : goal.returns-in_err-col
returns-in_err-col g c =
    let wide = widths_by c.args.grid.mode c.args.grid.tab c.args.grid.columns in
    let spans = spans_in (brush_paints g.H.Highlighter.marks c.args.brush.now) c.loop-cluster.left in
    let front = c.split_at.result.0.now in
    let so_far = c.loop-cluster.invariant in
    so_far_cut _ (items_painted_after wide spans front c.in-Some.cluster.now) _ (rw (← letters_taken so_far refl c.split_at.ensures.front) at so_far.holds)
    (next_other wide spans front c.in-Some.ensures.steps (sym c.if-not-is_letter.ensures) refl) c.in_err-col.ensures c.from_residual.ensures.1

pub loop-cluster-preserved-then-not-is_letter : goal.loop-cluster-preserved-then-not-is_letter
loop-cluster-preserved-then-not-is_letter g c =
    let wide = widths_by c.args.grid.mode c.args.grid.tab c.args.grid.columns in
    let spans = spans_in (brush_paints g.H.Highlighter.marks c.args.brush.now) c.loop-cluster.left in
    let cluster = c.in-Some.cluster.now in
    let front = c.split_at.result.0.now in
    let so_far = c.loop-cluster.invariant in
    record {
      letters = [];
      rest_is = refl;
      tail_is = tail_dropped so_far c.in-Some.ensures.steps c.split_at-in-loop-cluster.ensures.back;
      holds = so_far_on (items_painted_after wide spans front cluster) (rw (← letters_taken so_far refl c.split_at.ensures.front) at so_far.holds)
          (next_other wide spans front c.in-Some.ensures.steps (sym c.if-not-is_letter.ensures)
          (c.skip-left.ensures ∙ ap (skip (length cluster)) c.skip.ensures)) c.in_ok-col.ensures;
    }

pub returns : goal.returns
returns g c =
    let wide = widths_by c.args.grid.mode c.args.grid.tab c.args.grid.columns in
    let spans = spans_in (brush_paints g.H.Highlighter.marks c.args.brush.now) c.loop-cluster.left in
    let so_far = c.loop-cluster.invariant in
    let none = c.in-None.ensures.steps.0 in
    let whole = so_far.rest_is ∙ ap (λ xs. so_far.letters ++ xs) (so_far.tail_is ∙ ap concat none) ∙ append-nil so_far.letters in
    so_far_then so_far.holds (ap (painted_clusters wide spans so_far.letters) none ∙ ap (painted_letters spans) (sym whole)) c.send_spans.ensures
