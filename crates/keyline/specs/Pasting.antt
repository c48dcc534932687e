-- A text that is pasted, and one that is then entered.
use Rattle.std.specs.Prelude.{◌≡◌, ◌≢◌, ℕ, suc, Bool, true, List, [], ◌∷◌, ◌++◌, None, Ok}
use Rattle.std.specs.Str.{IsUtf8}
use Rattle.line_buffer.specs.Insertions.{with_text_at_cursor}
use Rattle.line_buffer.specs.Line.{Line}
use Rattle.line_config.specs.declared.device.Last.{Last}
use Rattle.line_keys.specs.declared.events.Event.{Event}
use Rattle.line_keys.specs.declared.events.Event.TheVariants.{Any}
use Rattle.line_keys.specs.CustomBindings.{Custom}
use Rattle.line_keys.specs.Events.{single}
use Rattle.line_editor.specs.Commands.{in_vi_command, means_of}
use Rattle.line_editor.specs.LineScripts.{LineState, played_from, turn_script, turns_script}
use Rattle.line_editor.specs.Modal.{is_at_rest}
use Rattle.line_editor.specs.Values.{Setting}
use Rattle.line_editor.specs.Yanking.{behind_yank}
use Rattle.line_editor.specs.declared.commands.Status.TheVariants.{Proceed}
use Rattle.line_screen.specs.KeyGrammar.{marker, paste_start, start_marker, HaveNoMarker}
use Rattle.keyline.specs.Events.{line_play_in}
use Rattle.keyline.specs.Sessions.{Given, SessionState, coming_from}

-- ESC [ 2 0 0 ~, the text, and ESC [ 2 0 1 ~
abbrev pub paste_bytes : List ℕ → List ℕ
paste_bytes text = start_marker ++ text ++ marker

-- a text that stays as it is: UTF-8, without CR, and without the mark that ends it
pub record IsPasteable (text : List ℕ) : Type 0 where
  pub utf8 : IsUtf8 text
  pub no_return : (before after : List ℕ) → text ≢ before ++ 0x0D ∷ after
  pub no_marker : HaveNoMarker text

-- a text goes to the cursor, and the cursor after it; in Vi's command mode onto its last cluster
abbrev pub line_with_paste : Bool → List ℕ → Line → Line
line_with_paste vi [] l = l
line_with_paste vi (byte ∷ bytes) l = behind_yank vi (with_text_at_cursor (byte ∷ bytes) l)

-- a text that is pasted between two phrases goes to the cursor of the line, if no binding is for it
-- and no search stands. Everything that follows it remains
abbrev pub PastesGoIn : Type 0
PastesGoIn = (n : ℕ) (s : Setting) (custom : Custom) (k : LineState) (text more : List ℕ)
    (last : Last) → custom.answers (single paste_start) ≡ None → custom.answers Any ≡ None
    → k.value.line.growth ≡ true → is_at_rest k.modal.standing ≡ true → IsPasteable text
    → k.coming ≡ coming_from k.input.mode (paste_bytes text ++ more) last
    → let p = played_from s (turn_script (suc (suc n)) custom) k in
    let vi = in_vi_command (means_of k.input k.ring) in
    (p.answer ≡ Ok Proceed) × (p.rest.coming ≡ coming_from k.input.mode more last)
    × (p.rest.value.line ≡ line_with_paste vi text k.value.line)

abbrev pub IsUnbound : Custom → Type 0
IsUnbound custom = (event : Event) → custom.answers event ≡ None

-- If nothing is bound and there is no helper, a text pasted at an empty line that may grow, between
-- two phrases, and then entered is accepted, if no search stands. This holds whatever else the
-- state is: the last change and search, any input mode, the ring, the record and the history.
abbrev pub PastesAreAccepted : Type 0
PastesAreAccepted = (n : ℕ) (s : Setting) (custom : Custom) (k : LineState) (text more : List ℕ)
    (last : Last) → s.hooks ≡ None → IsUnbound custom
    → k.value.line.text ≡ [] → k.value.line.growth ≡ true
    → is_at_rest k.modal.standing ≡ true → IsPasteable text
    → k.coming ≡ coming_from k.input.mode (paste_bytes text ++ 0x0D ∷ more) last
    → let p = played_from s (turns_script (suc (suc n)) custom) k in
    (p.answer ≡ Ok text) × (p.rest.coming ≡ coming_from k.input.mode more last)

-- and so is one with which a line of a session begins
abbrev pub PastedLinesAreAccepted : Type 0
PastedLinesAreAccepted = (n : ℕ) (g : Given) (x : SessionState) (text more : List ℕ) (last : Last)
    → g.helping.hooks ≡ None → IsUnbound g.custom → IsPasteable text
    → x.coming ≡ coming_from g.config.edit_mode (paste_bytes text ++ 0x0D ∷ more) last
    → let p = line_play_in (suc (suc n)) g x in
    (p.answer ≡ Ok text) × (p.rest.coming ≡ coming_from g.config.edit_mode more last)
