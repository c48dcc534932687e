use Rattle.std.proofs.Common.{◌≡◌, ◌+◌, ◌<◌, ◌≤◌, lit<, Some, None, sym, ap, ◌∙◌, subst, arith, zero-add, drop, IsCharBoundary}
use Rattle.std.proofs.lemmas.Str.{IsCharBoundary-from_rest}
use Rattle.std.proofs.lemmas.Str.Pattern.{find_char}
use Rattle.line_buffer.specs.Columns.{place_at_column}
use Rattle.line_buffer.specs.Width.{tab_end, width_of}
use Rattle.line_buffer.proofs.TabColumns.{past, begins, goes_on, part_is, inside, at_tab, boundary_in_part, place_before_tab, place_after_tab, place_plain}
use Rattle.line_buffer.proofs.columns.boundary_among_tabs.Goals as goal

pub loop-tab-init : goal.loop-tab-init
loop-tab-init c = (
  begins c.from-col.result c.args.row.now c.utf8.row (omega (arith, c.from-col.ensures, c.ranges.first)),
  ap (λ k. place_at_column c.args.mode (Some c.args.stops) k c.args.column c.args.row.now) (sym c.from-col.ensures) ∙ sym (zero-add _),
)

pub returns-then-column-next-clause-value : goal.returns-then-column-next-clause-value
returns-then-column-next-clause-value c =
    let first = find_char 9 _ (Some _) c.in-Some.ensures.cases (lit< tt) in
    let walk = c.loop-tab.invariant.0 in
    let part = part_is c.args.row.now _ _ walk c.utf8.row _ c.range_from.ensures.value _ first c.range-part.result.now c.range-part.ensures.value in
    let width : c.from.result ≡ width_of c.args.mode _ = c.from.ensures ∙ c.width.ensures ∙ ap (width_of c.args.mode) part in
    let next : c.tab_end-next.result ≡ past c.args.mode c.args.stops c.loop-tab.col c.range_from.result.now c.in-Some.tab =
    c.tab_end-next.ensures.value ∙ ap (λ w. tab_end c.args.stops (c.loop-tab.col + w)) width in
    sym (c.loop-tab.invariant.1 ∙ ap (λ k. c.loop-tab.start + k)
    (ap (place_at_column c.args.mode (Some c.args.stops) c.loop-tab.col c.args.column) (sym c.range_from.ensures.value)
    ∙ place_before_tab c.args.mode c.args.stops c.args.row.now _ _ walk c.utf8.row _ c.range_from.ensures.value _ first c.args.column (subst (λ n. c.args.column < n) next c.if-column-next.true)
    ∙ ap (place_at_column c.args.mode None c.loop-tab.col c.args.column) (sym part) ∙ sym c.boundary_at_column.ensures.value))

pub loop-tab-preserved : goal.loop-tab-preserved
loop-tab-preserved c =
    let first = find_char 9 _ (Some _) c.in-Some.ensures.cases (lit< tt) in
    let walk = c.loop-tab.invariant.0 in
    let part = part_is c.args.row.now _ _ walk c.utf8.row _ c.range_from.ensures.value _ first c.range-part.result.now c.range-part.ensures.value in
    let width : c.from.result ≡ width_of c.args.mode _ = c.from.ensures ∙ c.width.ensures ∙ ap (width_of c.args.mode) part in
    let next : c.tab_end-next.result ≡ past c.args.mode c.args.stops c.loop-tab.col c.range_from.result.now c.in-Some.tab =
    c.tab_end-next.ensures.value ∙ ap (λ w. tab_end c.args.stops (c.loop-tab.col + w)) width in
    let rest = place_after_tab c.args.mode c.args.stops c.args.row.now _ _ walk c.utf8.row _ c.range_from.ensures.value _ first c.args.column (subst (λ n. n ≤ c.args.column) next c.if-column-next.false) in (
      goes_on c.args.row.now _ _ walk c.utf8.row _ c.range_from.ensures.value _ first c.tab_end-next.result (omega (arith, c.tab_end-next.ensures.near, width)),
      c.loop-tab.invariant.1 ∙ ap (λ t. c.loop-tab.start + place_at_column c.args.mode (Some c.args.stops) c.loop-tab.col c.args.column t) (sym c.range_from.ensures.value)
          ∙ rest ∙ ap (λ k. c.loop-tab.start + (c.in-Some.tab + 1) + place_at_column c.args.mode (Some c.args.stops) k c.args.column (drop (c.loop-tab.start + (c.in-Some.tab + 1)) c.args.row.now)) (sym next),
    )

pub returns-clause-value : goal.returns-clause-value
returns-clause-value c =
    let none = find_char 9 _ None c.in_default.ensures.cases (lit< tt) in
    let rest = c.range_from-2.ensures.value ∙ sym c.range_from.ensures.value in
    sym (c.loop-tab.invariant.1 ∙ ap (λ k. c.loop-tab.start + k)
    (ap (place_at_column c.args.mode (Some c.args.stops) c.loop-tab.col c.args.column) (sym c.range_from.ensures.value)
    ∙ place_plain c.args.mode c.args.stops c.loop-tab.col c.args.column c.range_from.result.now c.range_from.utf8 none
    ∙ ap (place_at_column c.args.mode None c.loop-tab.col c.args.column) (sym rest) ∙ sym c.boundary_at_column-2.ensures.value))

pub range-part-requires-clause-end_boundary : goal.range-part-requires-clause-end_boundary
range-part-requires-clause-end_boundary c =
    let first = find_char 9 _ (Some _) c.in-Some.ensures.cases (lit< tt) in
    at_tab c.args.row.now _ _ c.loop-tab.invariant.0 c.utf8.row _ c.range_from.ensures.value _ first

pub returns-then-column-next-clause-boundary : goal.returns-then-column-next-clause-boundary
returns-then-column-next-clause-boundary c =
    let first = find_char 9 _ (Some _) c.in-Some.ensures.cases (lit< tt) in
    let walk = c.loop-tab.invariant.0 in
    let part = part_is c.args.row.now _ _ walk c.utf8.row _ c.range_from.ensures.value _ first c.range-part.result.now c.range-part.ensures.value in
    boundary_in_part c.args.row.now _ _ walk c.utf8.row _ c.range_from.ensures.value _ first _ c.boundary_at_column.result part c.boundary_at_column.ensures.boundary

pub returns-clause-boundary : goal.returns-clause-boundary
returns-clause-boundary c =
    IsCharBoundary-from_rest c.args.row.now c.loop-tab.start c.boundary_at_column-2.result c.loop-tab.invariant.0.boundary.0
    (subst (λ t. IsCharBoundary t c.boundary_at_column-2.result) c.range_from-2.ensures.value c.boundary_at_column-2.ensures.boundary)

pub loop-tab-smaller : goal.loop-tab-smaller
loop-tab-smaller c =
    let first = find_char 9 _ (Some _) c.in-Some.ensures.cases (lit< tt) in
    omega (arith, inside c.args.row.now _ _ c.loop-tab.invariant.0 c.utf8.row _ c.range_from.ensures.value _ first)
