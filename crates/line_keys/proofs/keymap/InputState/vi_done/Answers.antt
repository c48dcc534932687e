use Rattle.std.proofs.Common.{arith, refl}
use Rattle.std.specs.Option.{option_map_or}
use Rattle.line_keys.specs.declared.command.Cmd.TheVariants.{Move, Unknown}
use Rattle.line_keys.specs.PhraseScripts.{answer_part}
use Rattle.line_keys.specs.Vi.{command_table}
use Rattle.line_keys.proofs.Asking.{key_asked, none_asked}
use Rattle.line_keys.proofs.Following.{ask_stops, ask_follows, becomes_follows, ends_follow, granted_follows, then_stops, then_follows, silent_follows, whole_read, raised_follows}
use Rattle.line_keys.proofs.keymap.InputState.vi_done.Goals as goal

pub returns-in-Some-Repeat : goal.returns-in-Some-Repeat
unfolding command_table
returns-in-Some-Repeat g c =
    let is = rw (c.in-Some-Repeat.field-0-is) at c.in-Some-Repeat.ensures in
    record {
      phrase = rw (← c.times-n.ensures, ← is, ← c.typed_count.ensures) (granted_follows _ _ c.repeated.ensures);
      asks = none_asked _ _ _;
      bindings = refl;
    }

pub returns-in-Some-Give : goal.returns-in-Some-Give
unfolding command_table
returns-in-Some-Give g c =
    let is = rw (c.in-Some-Give.field-0-is) at c.in-Some-Give.ensures in
    record { phrase = rw (← c.times-n.ensures, ← is) (ends_follow _ _ _ _ _ _ _ refl); asks = none_asked _ _ _; bindings = refl }

pub returns-in-Some-Again : goal.returns-in-Some-Again
unfolding command_table
returns-in-Some-Again g c = record { phrase = ends_follow _ _ _ _ _ _ _ (grind arith); asks = none_asked _ _ _; bindings = refl }

pub returns-in-Some-Back : goal.returns-in-Some-Back
unfolding command_table
returns-in-Some-Back g c = record { phrase = ends_follow _ _ _ _ _ _ _ (grind arith); asks = none_asked _ _ _; bindings = refl }

pub returns-in-Some-Turn : goal.returns-in-Some-Turn
unfolding command_table
returns-in-Some-Turn g c =
    let is = rw (c.in-Some-Turn.field-0-is) at c.in-Some-Turn.ensures in
    record { phrase = rw (← c.times-n.ensures, ← is) (becomes_follows refl (ends_follow _ _ _ _ _ _ _ refl)); asks = none_asked _ _ _; bindings = refl }

pub returns-in-Some-Replace : goal.returns-in-Some-Replace
unfolding command_table
returns-in-Some-Replace g c =
    let is = rw (c.in-Some-Replace.field-0-is) at c.in-Some-Replace.ensures in
    record {
      phrase = rw (← c.times-n.ensures, ← is) (whole_read _ c.replacement.ensures.reads);
      asks = key_asked _ _ _ _ c.replacement.ensures.asks;
      bindings = refl;
    }

pub returns-in_err-doing_insert-in-Some-Insert : goal.returns-in_err-doing_insert-in-Some-Insert
unfolding command_table
returns-in_err-doing_insert-in-Some-Insert g c =
    let is = rw (c.in-Some-Insert.field-0-is) at c.in-Some-Insert.ensures in
    record {
      phrase = rw (← c.times-n.ensures, ← is) (raised_follows c.from_residual.ensures.1 (becomes_follows refl (ask_stops _ _ _ (λ shown. answer_part c.in-Some-Insert.cmd) _ _ _ _ _ c.in_err-doing_insert-in-Some-Insert.ensures)));
      asks = none_asked _ _ _;
      bindings = refl;
    }

pub returns-in_ok-doing_insert-in-Some-Insert : goal.returns-in_ok-doing_insert-in-Some-Insert
unfolding command_table
returns-in_ok-doing_insert-in-Some-Insert g c =
    let is = rw (c.in-Some-Insert.field-0-is) at c.in-Some-Insert.ensures in
    record {
      phrase = rw (← c.times-n.ensures, ← is) (becomes_follows refl (ask_follows _ _ _ (λ shown. answer_part c.in-Some-Insert.cmd) _ _ _ _ _ _ _ _ _ c.in_ok-doing_insert-in-Some-Insert.ensures (ends_follow _ _ _ _ _ _ _ refl)));
      asks = none_asked _ _ _;
      bindings = refl;
    }

pub returns-in_err-movement-in-Some-Search : goal.returns-in_err-movement-in-Some-Search
unfolding command_table
returns-in_err-movement-in-Some-Search g c =
    let is = rw (c.in-Some-Search.field-0-is) at c.in-Some-Search.ensures in
    record {
      phrase = rw (← c.times-n.ensures, ← is) (raised_follows c.from_residual-in_err-movement-in-Some-Search.ensures.1 (then_stops _ _ _ (λ m input shown. answer_part (option_map_or Move m Unknown)) _ _ _ _ _ _ _ (silent_follows c.in_err-movement-in-Some-Search.ensures.sought)));
      asks = key_asked _ _ _ _ c.in_err-movement-in-Some-Search.ensures.asks;
      bindings = c.in_err-movement-in-Some-Search.ensures.bindings;
    }

pub returns-in_ok-movement-in-Some-Search : goal.returns-in_ok-movement-in-Some-Search
unfolding command_table
returns-in_ok-movement-in-Some-Search g c =
    let is = rw (c.in-Some-Search.field-0-is) at c.in-Some-Search.ensures in
    record {
      phrase = rw (← c.times-n.ensures, ← is) (then_follows _ _ _ (λ m input shown. answer_part (option_map_or Move m Unknown)) _ _ _ _ _ _ _ _ _ _ _ (silent_follows c.in_ok-movement-in-Some-Search.ensures.sought) (ends_follow _ _ _ _ _ _ _ (grind arith)));
      asks = key_asked _ _ _ _ c.in_ok-movement-in-Some-Search.ensures.asks;
      bindings = c.in_ok-movement-in-Some-Search.ensures.bindings;
    }

pub returns-in-Some-Operate : goal.returns-in-Some-Operate
unfolding command_table
returns-in-Some-Operate g c =
    let is = rw (c.in-Some-Operate.field-0-is) at c.in-Some-Operate.ensures in
    record {
      phrase = rw (← c.times-n.ensures, ← is) c.vi_operation.ensures.phrase;
      asks = c.vi_operation.ensures.asks;
      bindings = c.vi_operation.ensures.bindings;
    }

pub returns-in-None : goal.returns-in-None
unfolding command_table
returns-in-None g c = record { phrase = rw (← c.times-n.ensures, ← c.in-None.ensures) c.common.ensures.phrase; asks = c.common.ensures.asks; bindings = refl }
