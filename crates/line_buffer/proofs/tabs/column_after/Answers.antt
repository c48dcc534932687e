use Rattle.std.proofs.Common.{◌≡◌, ◌+◌, lit<, Some, None, sym, ap, ap₂, ◌∙◌, arith}
use Rattle.std.proofs.lemmas.Str.Pattern.{find_char}
use Rattle.line_buffer.specs.Width.{tab_end, column_after, width_of}
use Rattle.line_buffer.proofs.TabColumns.{past, begins, goes_on, part_is, rest_goes_on, column_turn, column_plain}
use Rattle.line_buffer.proofs.tabs.column_after.Goals as goal

pub loop-tab-init : goal.loop-tab-init
loop-tab-init c = (
  begins c.from-col.result c.args.text.now c.utf8.text (omega (arith, c.from-col.ensures, c.ranges.first)),
  ap (λ k. column_after c.args.mode (Some c.args.stops) k c.args.text.now) (sym c.from-col.ensures),
)

pub loop-tab-preserved : goal.loop-tab-preserved
loop-tab-preserved c =
    let first = find_char 9 _ (Some _) c.in-Some.ensures.cases (lit< tt) in
    let walk = c.loop-tab.invariant.0 in
    let part = part_is c.args.text.now _ _ walk c.utf8.text _ c.range_from.ensures.value _ first c.range.result.now c.range.ensures.value in
    let width : c.from.result ≡ width_of c.args.mode _ = c.from.ensures ∙ c.width-width.ensures ∙ ap (width_of c.args.mode) part in
    let next : c.tab_end-col.result ≡ past c.args.mode c.args.stops c.loop-tab.col c.range_from.result.now c.in-Some.tab =
    c.tab_end-col.ensures.value ∙ ap (λ w. tab_end c.args.stops (c.loop-tab.col + w)) width in (
      goes_on c.args.text.now _ _ walk c.utf8.text _ c.range_from.ensures.value _ first c.tab_end-col.result (omega (arith, c.tab_end-col.ensures.near, width)),
      c.loop-tab.invariant.1 ∙ ap (column_after c.args.mode (Some c.args.stops) c.loop-tab.col) (sym c.range_from.ensures.value)
          ∙ column_turn c.args.mode c.args.stops c.loop-tab.col _ _ first
          ∙ ap₂ (column_after c.args.mode (Some c.args.stops)) (sym next) (rest_goes_on c.args.text.now _ _ walk c.utf8.text _ c.range_from.ensures.value _ first),
    )

pub returns : goal.returns
returns c =
    let none = find_char 9 _ None c.in_default.ensures.cases (lit< tt) in
    let rest = c.range_from-2.ensures.value ∙ sym c.range_from.ensures.value in
    sym (c.loop-tab.invariant.1 ∙ ap (column_after c.args.mode (Some c.args.stops) c.loop-tab.col) (sym c.range_from.ensures.value)
    ∙ column_plain c.args.mode c.args.stops c.loop-tab.col c.range_from.result.now none
    ∙ ap (λ w. c.loop-tab.col + w) (ap (width_of c.args.mode) (sym rest) ∙ sym (c.from-2.ensures ∙ c.width.ensures)))
