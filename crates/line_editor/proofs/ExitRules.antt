-- What the exits of edits go by.
use Rattle.line_editor.proofs.HelpedLemmas.{fault_told}
use Rattle.line_editor.proofs.ObeyLemmas.{obeyed_proceeds}
use Rattle.line_editor.proofs.RefusedLemmas.{refused_is_drawing}
use Rattle.line_editor.proofs.SinceLemmas.{unmarked_noted}
use Rattle.line_editor.proofs.StopsLemmas.{stops_drawing, broken_refused, stops_editing, stops_edited, stops_taken_back, stops_taking}

-- where the steps of a failed edit stop, what a hook's fault is told as, and what is noted of a line
-- without styles
pub ruleset exits = (stops_drawing, broken_refused, stops_editing, stops_edited, stops_taken_back, stops_taking, fault_told, refused_is_drawing, unmarked_noted, obeyed_proceeds)
