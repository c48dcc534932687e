use Rattle.std.specs.Prelude.{◌≡◌}
use Rattle.line_record.specs.Items.{RecordsEventIn, record_refuses}
use Rattle.line_record.specs.Ring.{ring_step, ring_refuses}
use Rattle.line_record.proofs.JoinedLaws.{joined_stand, joined_stand_refused, joined_names_refused}
use Rattle.sessions_program.proofs.edits.desk.kill_both.Goals as goal

pub returns-in_err-kill-clause-stand : goal.returns-in_err-kill-clause-stand
returns-in_err-kill-clause-stand c =
    joined_stand_refused (λ s e t. t ≡ ring_step e s) ring_refuses c.requires c.as_str-text.ensures.utf8 c.in_err-kill.ensures.edits.left.stops

pub returns-in_err-kill-clause-names : goal.returns-in_err-kill-clause-names
returns-in_err-kill-clause-names c =
    joined_names_refused (λ s e t. t ≡ ring_step e s) ring_refuses RecordsEventIn record_refuses c.in_err-kill.ensures.edits.left.stops

pub returns-clause-stand : goal.returns-clause-stand
returns-clause-stand c = joined_stand (λ s e t. t ≡ ring_step e s) c.requires c.as_str-text.ensures.utf8 c.in_ok-kill.ensures.edits.told
