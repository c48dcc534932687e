use Rattle.std.proofs.Common.{◌≡◌, inr}
use Rattle.line_record.specs.Ring.{ring_step, ring_refuses}
use Rattle.line_record.proofs.JoinedLaws.{joined_held, joined_stand, joined_stand_refused, joined_names_refused}
use Rattle.line_record.specs.Items.{RecordsEventIn, record_refuses}
use Rattle.line_edits.proofs.RingLemmas.{on_refusal, ring_stopped, some_killed, killed_among}
use Rattle.line_edits.proofs.StepLemmas.{rewrites_refused}
use Rattle.line_buffer.proofs.KeptLemmas.{kill_kept}
use Rattle.line_edits.proofs.killing.kill_told.Goals as goal

pub returns-clause-rewrites : goal.returns-clause-rewrites
returns-clause-rewrites c = record {
  writes = record {
    answers = c.in_ok-kill_range.ensures.edits.answer;
    line = c.in_ok-kill_range.ensures.edits.line;
    held = joined_held (λ s e t. t ≡ ring_step e s) c.requires.stand c.as_str-text.ensures.utf8 c.in_ok-kill_range.ensures.edits.told;
    stand = joined_stand (λ s e t. t ≡ ring_step e s) c.requires.stand c.as_str-text.ensures.utf8 c.in_ok-kill_range.ensures.edits.told;
  };
  left = tt;
}

pub returns-in_err-kill_range-clause-rewrites : goal.returns-in_err-kill_range-clause-rewrites
returns-in_err-kill_range-clause-rewrites c =
    rewrites_refused _ c.from_residual.result c.from_residual.ensures.1 (joined_stand_refused (λ s e t. t ≡ ring_step e s) ring_refuses c.requires.stand c.as_str-text.ensures.utf8 c.in_err-kill_range.ensures.edits.left.stops)
    (inr (killed_among c.args.movement.now c.as_str-text.ensures.utf8 c.requires.stand c.in_err-kill_range.ensures.edits.left))

pub returns-in_err-kill_range-clause-refused_ring : goal.returns-in_err-kill_range-clause-refused_ring
returns-in_err-kill_range-clause-refused_ring c =
    on_refusal _ c.from_residual.result c.from_residual.ensures.1 (ring_stopped RecordsEventIn record_refuses _ _ c.in_err-kill_range.ensures.edits.left.stops)

pub returns-in_err-kill_range-clause-refused : goal.returns-in_err-kill_range-clause-refused
returns-in_err-kill_range-clause-refused c =
    on_refusal _ c.from_residual.result c.from_residual.ensures.1 (some_killed RecordsEventIn record_refuses _ _ c.in_err-kill_range.ensures.edits.left.stops)

pub returns-in_err-kill_range-clause-kept : goal.returns-in_err-kill_range-clause-kept
returns-in_err-kill_range-clause-kept c =
    on_refusal _ c.from_residual.result c.from_residual.ensures.1 (kill_kept c.args.movement.now c.in_err-kill_range.ensures.edits.left)

pub returns-in_err-kill_range-clause-names : goal.returns-in_err-kill_range-clause-names
returns-in_err-kill_range-clause-names c =
    joined_names_refused (λ s e t. t ≡ ring_step e s) ring_refuses RecordsEventIn record_refuses c.in_err-kill_range.ensures.edits.left.stops
