use Rattle.std.proofs.Common.{map}
use Rattle.line_editor.specs.Candidates.{turn_effect}
use Rattle.line_editor.specs.Values.{close_groups}
use Rattle.line_editor.proofs.DoesLemmas.{does_cut_by}
use Rattle.line_editor.proofs.state.State.begin_cycle.Goals as goal

pub returns-in_err-close_groups-clause-does : goal.returns-in_err-close_groups-clause-does
returns-in_err-close_groups-clause-does g c =
    does_cut_by close_groups (turn_effect 0 (record { start = c.args.start; candidates = map g.H.Candidate.Candidate.offers c.args.candidates.now })) _ _ _ _ c.from_residual.ensures.1 c.in_err-close_groups.ensures.does
