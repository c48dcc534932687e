use Rattle.std.proofs.Common.{rules, ◌≡◌, sym, ap, ◌∙◌, arith, length, drop, ◌+◌, ◌-◌, slice_range}
use Rattle.std.proofs.lemmas.List.Edits.{length-between}
use Rattle.line_buffer.specs.declared.types.Direction.TheVariants.{Forward}
use Rattle.line_buffer.specs.Event.ChangeEvent.{Delete}
use Rattle.line_buffer.specs.Indent.{row_event}
use Rattle.line_buffer.specs.Event.{deletion, line_after_event, InsertStr}
use Rattle.line_buffer.proofs.CutLemmas.{drop_replaced}
use Rattle.line_buffer.proofs.gap_buffer.GapBuffer.change_row.Goals as goal

pub returns-then-dedent-clause-rest : goal.returns-then-dedent-clause-rest
returns-then-dedent-clause-rest g c =
    let long = length-between c.args.self.now.0.text c.args.self.now.1 (c.gap-gap.result + c.margin_len-taken.result) (omega (arith, c.margin_len-taken.ensures.boundary.0, c.gap-gap.ensures.value)) in
    ap (λ v. drop (c.args.end - c.margin_len-taken.result) v.0.text) c.in_ok-remove.ensures.value
    ∙ drop_replaced _ _ _ _ _ _ (c.args.end - (c.args.self.now.1 + c.margin_len-taken.result)) (omega (arith, c.margin_len-taken.ensures.bound))
    (omega (arith, long, c.gap-gap.ensures.value, c.margin_len-taken.ensures.bound)) c.gap-gap.ensures.boundary.0

pub returns-clause-rest : goal.returns-clause-rest
returns-clause-rest g c =
    ap (λ v. drop (c.args.end + length c.args.margin.now) v.0.text) c.in_ok-insert.ensures.value
    ∙ drop_replaced _ _ _ _ _ _ (c.args.end - c.args.self.now.1) (omega (arith, c.requires.order)) (omega (arith, c.requires.order)) c.gap-gap.ensures.boundary.0

pub returns-then-dedent-clause-edits : goal.returns-then-dedent-clause-edits
returns-then-dedent-clause-edits g c =
    let text = c.args.self.now.0.text in
    let gap = c.args.self.now.1 in
    let told : deletion gap (c.gap-gap.result + c.margin_len-taken.result) Forward text ≡ row_event c.args.margin.now c.args.dedent gap (slice_range text gap c.args.end) =
    ap (λ n. deletion gap (n + c.margin_len-taken.result) Forward text) c.gap-gap.ensures.value
    ∙ ap (λ x. Delete gap x Forward) c.margin_len-taken.ensures.value
    ∙ sym (ap (λ d. row_event c.args.margin.now d gap (slice_range text gap c.args.end)) c.if-dedent.true) in
    record {
      told = search rules;
      replays = search rules;
      line = ap (λ v. v.0) c.in_ok-remove.ensures.value ∙ ap (λ e. line_after_event e c.args.self.now.0) told;
      refused = tt;
      kept = tt;
    }

pub returns-clause-edits : goal.returns-clause-edits
returns-clause-edits g c =
    let gap = c.args.self.now.1 in
    record {
      told = search rules;
      replays = search rules;
      line = ap (λ v. v.0) {y = (line_after_event (InsertStr gap c.args.margin.now) c.args.self.now.0, gap + length c.args.margin.now)} c.in_ok-insert.ensures.value
          ∙ sym (ap (λ d. line_after_event (row_event c.args.margin.now d gap (slice_range c.args.self.now.0.text gap c.args.end)) c.args.self.now.0) c.if-dedent.false);
      refused = tt;
      kept = tt;
    }
