use Rattle.std.proofs.Common.{◌-◌}
use Rattle.line_help.specs.Paints.{first_mark}
use Rattle.line_editor.specs.SharedStyles.{most_spans}
use Rattle.line_editor.proofs.SharedLemmas.{Collected}
use Rattle.line_editor.proofs.shared_styles.first_spans.Given as goal

abbrev pub invariant-loop-count : goal.invariant-loop-count
invariant-loop-count g l =
    let spans = (g.H.Highlighter.marks l.fn.highlighter).paints l.fn.part l.fn.text in
    Collected l.fn.upto (spans first_mark) l.first l.count l.left (spans l.mark)

abbrev pub decreases-loop-count : goal.decreases-loop-count
decreases-loop-count g l = most_spans - l.count
