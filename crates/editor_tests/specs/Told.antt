-- The lines of a session with the program's options, by the definition of a session.
use Rattle.std.specs.Prelude.{◌≡◌, ℕ, ◌<◌, ◌^◌, List, None}
use Rattle.std.specs.List.{flat_map}
use Rattle.line_config.specs.declared.device.Last.TheVariants.{End}
use Rattle.keyline.specs.Events.{lines_written, session}
use Rattle.keyline.specs.Program.{config_of, given_with, nothing_bound, start_by}
use Rattle.keyline.specs.Sessions.{each, lines_text}
use Rattle.keyline.specs.declared.options.Options.{Options}

-- the lines that its events write, each with its newline, over this history's text and these keys
abbrev pub AreLines : Options → List ℕ → List ℕ → List ℕ → Type 0
AreLines options old keys lines = (n : ℕ) → 2 ^ 63 < n
    → let g = given_with (config_of options) nothing_bound options None in
    let start = start_by (config_of options) old keys End in
    lines ≡ lines_text (flat_map lines_written (session n g (each g) start).events)
