-- The next command of a line: a phrase, after which a group may begin, and the ring before the
-- command.
use Rattle.std.specs.Prelude.{Bool, true, false, if◌then◌else◌}
use Rattle.line_keys.specs.declared.command.Cmd.{Cmd}
use Rattle.line_keys.specs.declared.command.Cmd.TheVariants.{Replace}
use Rattle.line_keys.specs.Commands.{flags_of}
use Rattle.line_keys.specs.CustomBindings.{Custom}
use Rattle.line_keys.specs.InputStates.{phrase}
use Rattle.line_keys.specs.PhraseScripts.{Input, PhrasePart, answer_part, show_then, and_then}
use Rattle.line_keys.specs.Refreshing.{Shown}
use Rattle.line_keys.specs.Refreshing.Ask.{DoingInsert}
use Rattle.line_record.specs.Ring.{Ring}
use Rattle.line_record.specs.declared.kill_ring.Action.TheVariants.{Other}

-- each change-to begins a group
abbrev pub begins_group : Cmd → Bool
begins_group (Replace movement text) = true
begins_group cmd = false

abbrev pub with_group_begun : Cmd → Input → Shown → PhrasePart Cmd
with_group_begun cmd input shown =
    if begins_group cmd then show_then DoingInsert (λ seen. answer_part cmd) else answer_part cmd

abbrev pub line_phrase : Custom → Input → Shown → PhrasePart Cmd
line_phrase custom input shown = and_then input shown (phrase custom input shown) with_group_begun

-- most commands end a run of kills
abbrev pub ring_after_reset : Cmd → Ring → Ring
ring_after_reset cmd r = if (flags_of cmd).resets_ring then record r { last = Other } else r
