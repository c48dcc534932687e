use Rattle.std.proofs.Common.{◌∙◌, ◌-◌, sym, ap, arith, rules, length, string_bytes}
use Rattle.std.proofs.lemmas.Str.Pattern.{split_parts}
use Rattle.line_config.proofs.Taking.{on_err}
use Rattle.line_help.specs.SplitStyles.{style_after, styles_so_far}
use Rattle.line_help.proofs.SplitLemmas.{as_styles, as_text, escape_left, escape_step, last_left, last_step, sequence_step, some_left}
use Rattle.line_help.proofs.helpers.style_split.split_styles.Goals as goal

pub loop-front-preserved-in-Some-sequence_in : goal.loop-front-preserved-in-Some-sequence_in
loop-front-preserved-in-Some-sequence_in c =
    let rest = c.loop-front.rest.now in
    let split = c.loop-front.split in
    let so_far = styles_so_far (length (string_bytes split.text)) split.start split.spans.items split.style in
    let parts = rw c.in-Some.is at (split_parts 0x1B rest c.split_once.result c.split_once.ensures.cases (omega arith)) in
    let found = c.in-Some-sequence_in.ensures in
    let sequence = c.in-Some-sequence_in.sequence.now in
    let style = c.style_after-style.ensures ∙ ap (λ bytes. style_after bytes c.loop-front.style) c.as_bytes.ensures.value in
    record {
      utf8 = search rules;
      text = rw c.in_ok-put.ensures.text
          (c.loop-front.invariant.text ∙ sequence_step as_text (string_bytes split.text) rest c.in-Some.front.now c.in-Some.after.now sequence c.in-Some-sequence_in.behind.now parts.0 parts.1 found.0 found.1);
      styles = rw (style, c.in_ok-put.ensures.styles)
          (c.loop-front.invariant.styles ∙ sequence_step (as_styles c.loop-front.style) so_far rest c.in-Some.front.now c.in-Some.after.now sequence c.in-Some-sequence_in.behind.now parts.0 parts.1 found.0 found.1);
      stands = c.in_ok-put.ensures.stands;
    }

pub loop-front-preserved : goal.loop-front-preserved
loop-front-preserved c =
    let rest = c.loop-front.rest.now in
    let split = c.loop-front.split in
    let so_far = styles_so_far (length (string_bytes split.text)) split.start split.spans.items split.style in
    let parts = rw c.in-Some.is at (split_parts 0x1B rest c.split_once.result c.split_once.ensures.cases (omega arith)) in
    record {
      utf8 = search rules;
      text = rw (c.in_ok-put-in-None.ensures.text, c.in_ok-put.ensures.text)
          (c.loop-front.invariant.text ∙ escape_step as_text (string_bytes split.text) rest c.in-Some.front.now c.in-Some.after.now parts.0 parts.1 c.in-None.ensures);
      styles = rw (c.in_ok-put-in-None.ensures.styles, c.in_ok-put.ensures.styles)
          (c.loop-front.invariant.styles ∙ escape_step (as_styles c.loop-front.style) so_far rest c.in-Some.front.now c.in-Some.after.now parts.0 parts.1 c.in-None.ensures);
      stands = c.in_ok-put-in-None.ensures.stands;
    }

pub returns-clause-parts : goal.returns-clause-parts
returns-clause-parts c =
    let rest = c.loop-front.rest.now in
    let split = c.loop-front.split in
    let last = c.turn.new.self in
    let so_far = styles_so_far (length (string_bytes split.text)) split.start split.spans.items split.style in
    let none = rw c.in_default.is at (split_parts 0x1B rest c.split_once.result c.split_once.ensures.cases (omega arith)) in
    record {
      bytes = c.turn.ensures.text ∙ c.in_ok-put-2.ensures.text ∙ sym (c.loop-front.invariant.text ∙ last_step as_text (string_bytes split.text) rest none);
      rest = length (string_bytes last.text) - last.start;
      styles = c.loop-front.invariant.styles ∙ last_step (as_styles c.loop-front.style) so_far rest none
          ∙ sym (c.in_ok-turn.ensures.styles ∙ c.in_ok-put-2.ensures.styles)
          ∙ ap (styles_so_far (length (string_bytes last.text)) last.start last.spans.items) (c.in_ok-turn.ensures.style ∙ c.plain-2.ensures);
      differ = rw c.plain-2.ensures at c.in_ok-turn.ensures.differ;
    }

pub returns-in_err-put-clause-memory : goal.returns-in_err-put-clause-memory
returns-in_err-put-clause-memory c =
    let rest = c.loop-front.rest.now in
    let parts = rw c.in-Some.is at (split_parts 0x1B rest c.split_once.result c.split_once.ensures.cases (omega arith)) in
    on_err c.from_residual.result
    (some_left c.args.shown.now (string_bytes c.loop-front.split.text) rest c.in-Some.front.now _ c.loop-front.invariant.text parts.0 parts.1 c.in_err-put.ensures.memory)

pub returns-in_err-put-in-None-clause-memory : goal.returns-in_err-put-in-None-clause-memory
returns-in_err-put-in-None-clause-memory c =
    let rest = c.loop-front.rest.now in
    let parts = rw c.in-Some.is at (split_parts 0x1B rest c.split_once.result c.split_once.ensures.cases (omega arith)) in
    on_err c.from_residual-in_err-put-in-None.result
    (escape_left c.args.shown.now (string_bytes c.loop-front.split.text) rest c.in-Some.front.now c.in-Some.after.now c.loop-front.invariant.text parts.0 parts.1 c.in-None.ensures)

pub returns-in_err-put-2-clause-memory : goal.returns-in_err-put-2-clause-memory
returns-in_err-put-2-clause-memory c =
    let rest = c.loop-front.rest.now in
    let none = rw c.in_default.is at (split_parts 0x1B rest c.split_once.result c.split_once.ensures.cases (omega arith)) in
    on_err c.from_residual-in_err-put-2.result
    (last_left c.args.shown.now (string_bytes c.loop-front.split.text) rest c.loop-front.invariant.text none c.in_err-put-2.ensures.memory)

pub returns-in_err-turn-clause-memory : goal.returns-in_err-turn-clause-memory
returns-in_err-turn-clause-memory c =
    let rest = c.loop-front.rest.now in
    let old = string_bytes c.loop-front.split.text in
    let none = rw c.in_default.is at (split_parts 0x1B rest c.split_once.result c.split_once.ensures.cases (omega arith)) in
    on_err c.from_residual-in_err-turn.result
    (rw (c.loop-front.invariant.text ∙ last_step as_text old rest none ∙ sym c.in_ok-put-2.ensures.text) c.in_err-turn.ensures.memory)
