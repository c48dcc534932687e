-- The answers of the tests' handlers.
use Rattle.std.specs.Prelude.{ℕ, ◌==◌, ◌&&◌, nat_lt, length, Some, None, false, if◌then◌else◌}
use Rattle.line_buffer.specs.declared.types.Movement.TheVariants.{ForwardChar, BackwardChar}
use Rattle.line_keys.specs.declared.command.Cmd.TheVariants.{CompleteHint, Kill, TransposeWords, Undo}
use Rattle.stand_ins.specs.declared.handlers.OneWay.{OneWay}
use Rattle.stand_ins.specs.declared.handlers.OneWay.TheVariants.{Count, Nothing, Fails, WantsMemory}
use Rattle.line_keys.specs.CustomBindings.{Meaning}
use Rattle.line_keys.specs.Replies.{gives, gives_at_once}

abbrev pub hint_or_kill : ℕ → Meaning
hint_or_kill most s =
    if length s.seen.line == 0 then record { answer = None; takes = false }
    else if nat_lt most s.count then gives_at_once None
    else if s.seen.hinted && (s.seen.place == length s.seen.line)
    then gives_at_once (Some CompleteHint)
    else if s.positive then gives_at_once (Some (Kill (ForwardChar s.count)))
    else gives_at_once (Some (Kill (BackwardChar s.count)))

abbrev pub one_way : OneWay → Meaning
one_way Count s =
    gives_at_once (Some (if s.positive then Undo s.count else TransposeWords s.count))
one_way Nothing s = gives_at_once None
one_way Fails s = record { answer = None; takes = false }
one_way WantsMemory s = gives None
