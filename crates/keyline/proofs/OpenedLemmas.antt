-- What an open session passes in, its state before the first line, and what is left when it is closed.
use Rattle.std.proofs.Common.{◌≡◌, ℕ, List, Option, ap, refl, ◌∙◌, Bool, [], subst, sym, string_bytes}
use Rattle.line_config.specs.Feed.{AlwaysTold, Feed, fresh_feed}
use Rattle.line_config.specs.declared.config.Config.{Config}
use Rattle.line_config.specs.declared.device.Last.{Last, TheVariants.End}
use Rattle.line_keys.specs.CustomBindings.{Custom, custom_of, Meaning}
use Rattle.line_screen.specs.ScreenCalls.{Screen, screen_of}
use Rattle.keyline.specs.Desks.{desk_feed, session_state_of}
use Rattle.keyline.specs.SessionEffects.{KnownDevices}
use Rattle.keyline.specs.Program.{EditHelper, edit_helping, start_by, EditsBy, helper_of, nothing_bound}
use Rattle.keyline.specs.SessionCalls.{Opens, history_loaded_from, RunsSession}
use Rattle.keyline.specs.Sessions.{coming_from, given_of, Given}
use Rattle.keyline.specs.declared.desk.Desk.{Desk}
use Rattle.line_keys.specs.declared.events.Event.{Event}
use Rattle.keyline.specs.declared.options.Options.{Options}
use Rattle.keyline.specs.declared.session.Ended.{Ended}
use Rattle.line_keys.specs.KeyFeeds.{bytes_to_come}
use Rattle.line_screen.specs.Reader.{coming_in, byte_ahead_of, source_of}
use Rattle.line_screen.specs.Reading.{with_kept}
use Rattle.line_screen.specs.declared.reading.reader.KeyReader.{KeyReader}
use Rattle.line_screen.proofs.Outcomes.{unread_in}

-- what is passed in, part by part
pub given_as : (config config' : Config) (custom custom' : Custom) (prompt prompt' : List ℕ) (screen screen' : Screen) (helper helper' : Option EditHelper)
    → config' ≡ config → custom' ≡ custom → prompt' ≡ prompt → screen' ≡ screen → helper' ≡ helper
    → given_of config' custom' prompt' screen' (edit_helping helper') ≡ given_of config custom prompt screen (edit_helping helper)
given_as config config' custom custom' prompt prompt' screen screen' helper helper' config_is custom_is prompt_is screen_is helper_is =
    rw (config_is, custom_is, prompt_is, screen_is, helper_is) refl

module _ {F S H D L : Type 0} (text_of : F → Feed) (k : KnownDevices S D L) where
  -- over this history's text and these keys
  pub state_first : (config : Config) (history : F) (helper : Option H) (source : S) (columns : ℕ) (display : D) (lines : L) (desk : Desk S H D L) (old bytes : List ℕ) (last : Last)
      → Opens text_of k.feed config history helper source columns display lines desk → AlwaysTold text_of → text_of history ≡ fresh_feed old End
      → (k.feed source).coming ≡ bytes → (k.feed source).last ≡ last → session_state_of k desk ≡ start_by config old bytes last
  state_first config history helper source columns display lines desk old bytes last opens always text_is coming_is last_is =
      let loaded = history_loaded_from config (fresh_feed old End) in
      let filed : desk.history ≡ loaded = opens.loaded.history_is always ∙ ap (λ (f : Feed). history_loaded_from config f) text_is in
      let coming : (desk_feed k desk).coming ≡ coming_from config.edit_mode bytes last =
      opens.coming ∙ (ap (λ bs. coming_from config.edit_mode bs (k.feed source).last) coming_is ∙ ap (λ l. coming_from config.edit_mode bytes l) last_is) in
      rw (opens.ring, opens.query, filed, coming) refl

-- ---- opened by options, and run

pub none_bound : {D : Type 0} (bindings : List (Event × D)) (means : D → Meaning) → bindings ≡ [] → custom_of bindings means ≡ nothing_bound
none_bound bindings means none = ap (λ b. custom_of b means) none

module _ {F S D L T : Type 0} (loads : F → Feed) (k : KnownDevices S D L) (held : T → List ℕ) (failed : T → Bool) where
  pub edited : (asked : Bool) (config : Config) (options : Options) (words : Option (List (List ℕ))) (history : F) (source : S) (display : D) (lines : L) (text text' : T) (ended : Ended S D L T)
      (desk : Desk S EditHelper D L) (config' : Config) (custom : Custom) (prompt : List ℕ) (helper : Option EditHelper)
      → Opens loads k.feed config history helper source options.columns display lines desk
      → RunsSession k held failed asked (given_of config' custom prompt (screen_of desk.out) (edit_helping desk.helper)) desk text' ended
      → config' ≡ config → prompt ≡ string_bytes options.prompt → helper ≡ helper_of config options words → text' ≡ text → custom ≡ nothing_bound
      → EditsBy loads k held failed asked config options words history source display lines text ended
  edited asked config options words history source display lines text text' ended desk config' custom prompt helper opens runs config_is prompt_is helper_is text_is custom_is =
      let given : given_of config' custom prompt (screen_of desk.out) (edit_helping desk.helper) ≡ given_of config nothing_bound (string_bytes options.prompt) (screen_of desk.out) (edit_helping desk.helper) =
      given_as config config' nothing_bound custom (string_bytes options.prompt) prompt (screen_of desk.out) (screen_of desk.out) desk.helper desk.helper
      config_is custom_is prompt_is refl refl in
      let runs' = subst (λ (x : Given). RunsSession k held failed asked x desk text' ended) given runs in
      record {
        desk = desk;
        opens = subst (λ (x : Option EditHelper). Opens loads k.feed config history x source options.columns display lines desk) helper_is opens;
        runs = subst (λ (x : T). RunsSession k held failed asked (given_of config nothing_bound (string_bytes options.prompt) (screen_of desk.out) (edit_helping desk.helper)) desk x ended) text_is runs';
      }

-- ---- closed

-- a reader's remaining bytes are the byte that was read ahead, and then those of its source
pub unread_at_end : {S : Type 0} (feed : S → Feed) (r : KeyReader S) (source : S) (ahead : Option ℕ) → source ≡ source_of r → ahead ≡ byte_ahead_of r
    → bytes_to_come (coming_in feed r) ≡ (with_kept ahead (feed source)).coming
unread_at_end {S} feed r source ahead source_is ahead_is =
    unread_in feed r
    ∙ (ap (λ (s : S). (with_kept (byte_ahead_of r) (feed s)).coming) (sym source_is) ∙ ap (λ a. (with_kept a (feed source)).coming) (sym ahead_is))
