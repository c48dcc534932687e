-- An edit that fails, as the display's error.
use Rattle.std.specs.Prelude.{Bool}
use Rattle.line_config.specs.declared.errors.ReadlineError.{ReadlineError, TheVariants.Display, TheVariants.Helper, TheVariants.Memory}
use Rattle.line_keys.specs.Refreshing.{IsDrawFault}
use Rattle.line_editor.specs.States.{reason_of}

pub refused_is_drawing : (failed : Bool) (hook : Type 0) (e : ReadlineError) → reason_of failed hook e → IsDrawFault e
refused_is_drawing failed hook Display h = tt
refused_is_drawing failed hook Helper h = tt
refused_is_drawing failed hook Memory h = tt
refused_is_drawing failed hook _ h = absurd h
