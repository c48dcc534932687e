-- A cluster that is no letter and no tab.
use Rattle.std.proofs.Common.{[], ◌∷◌}
use Rattle.line_screen.specs.Measure.{cluster_width}
use Rattle.line_screen.specs.Styles.{numbers}
use Rattle.line_screen.proofs.Items.{other_by}
use Rattle.line_screen.proofs.PaintRuns.{sends_fenced}
use Rattle.line_screen.proofs.drawing.painted.send_painted_cluster.Goals as goal

pub returns-in-Some-cluster_columns : goal.returns-in-Some-cluster_columns
returns-in-Some-cluster_columns g c =
    let other = other_by (cluster_width c.args.grid.mode c.args.grid.columns) c.args.grid.tab c.args.cluster.now in
    rw (← c.if-is_letter.ensures, other, ← c.tab_of.ensures, c.in_default.is, ← c.cluster_columns.ensures, c.in-Some-cluster_columns.is)
    (sends_fenced (numbers c.args.style) c.args.cluster.now c.in-Some-cluster_columns.width c.args.col c.send_tinted.ensures)

pub returns-in-None : goal.returns-in-None
returns-in-None g c =
    let other = other_by (cluster_width c.args.grid.mode c.args.grid.columns) c.args.grid.tab c.args.cluster.now in
    rw (← c.if-is_letter.ensures, other, ← c.tab_of.ensures, c.in_default.is, ← c.cluster_columns.ensures, c.in-None.is)
    (sends_fenced (numbers c.args.style) (0x3F ∷ []) 1 c.args.col c.send_tinted-in-None.ensures)
