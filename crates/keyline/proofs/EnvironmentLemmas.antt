-- Settings from which the environment may have taken the colours.
use Rattle.std.proofs.Common.{Bool, true, false, inl, inr, refl, subst, if◌then◌else◌}
use Rattle.line_config.specs.Feed.{Feed}
use Rattle.line_config.specs.declared.config.Config.{Config}
use Rattle.line_config.specs.declared.errors.ReadlineError.{ReadlineError, TheVariants.HistoryText, TheVariants.Memory, TheVariants.Reader}
use Rattle.keyline.specs.SessionCalls.{LoadRefused, RefusesText}
use Rattle.keyline.specs.Program.{IsByEnvironment, config_without_colours}

pub coloured_or_not : (asked : Bool) (config : Config) → IsByEnvironment config (if asked then config_without_colours config else config)
coloured_or_not true config = inr refl
coloured_or_not false config = inl refl

-- colours have no part in the loading of a history
text_refused : (config : Config) (text left : Feed) (why : ReadlineError) → RefusesText (config_without_colours config) text left why → RefusesText config text left why
text_refused config text left why r = record { answer = r.answer; behind = r.behind }

uncoloured_refused : (config : Config) (text left : Feed) (why : ReadlineError) → LoadRefused (config_without_colours config) text left why → LoadRefused config text left why
uncoloured_refused config text left Reader h = (h.0, λ told. text_refused config text left Reader (h.1 told))
uncoloured_refused config text left HistoryText h = (h.0, λ told. text_refused config text left HistoryText (h.1 told))
uncoloured_refused config text left Memory h = h
uncoloured_refused config text left _ h = absurd h

pub load_refused : (config by : Config) (text left : Feed) (why : ReadlineError) → IsByEnvironment config by → LoadRefused by text left why → LoadRefused config text left why
load_refused config by text left why (inl same) h = subst (λ (c : Config). LoadRefused c text left why) same h
load_refused config by text left why (inr none) h = uncoloured_refused config text left why (subst (λ (c : Config). LoadRefused c text left why) none h)
