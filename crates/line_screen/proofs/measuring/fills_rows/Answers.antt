use Rattle.std.proofs.Common.{◌≡◌, ◌+◌, ◌/◌, suc, take, ap, sym, subst, ◌∙◌, arith}
use Rattle.line_screen.specs.Measure.{measure_of}
use Rattle.line_screen.proofs.CellsBefore.{wide_inside, wide_more}
use Rattle.line_screen.proofs.WideRuns.{Leads, enough_wide, one_wide}
use Rattle.line_screen.proofs.measuring.fills_rows.Goals as goal

pub loop-init : goal.loop-init
loop-init c = λ from leads. leads

pub loop-preserved : goal.loop-preserved
loop-preserved c = λ from leads.
    let grid = c.args.grid in
    let measured = measure_of grid.mode grid.tab grid.columns in
    let front = take c.in-Some.front c.args.text.now in
    let col = (measured front from).col in
    let next : c.loop.counter + 1 ≡ suc c.loop.counter = omega arith in
    let here : (measured (take c.loop.place c.args.text.now) from).col ≡ _ =
    ap (λ t. (measured t from).col) c.in-Some.ensures.0
    ∙ wide_more grid.mode grid.tab grid.columns (omega (arith, grid.room)) grid.room front c.in-Some.c from c.in-Some.ensures.1 (sym c.if-not-is_wide.ensures) in
    c.loop.invariant from
    (subst (Leads grid.columns c.loop.counter) (sym here)
    (one_wide grid.columns c.loop.counter col (wide_inside grid.mode grid.tab grid.columns (omega (arith, grid.room)) front from) (subst (λ n. Leads grid.columns n col) next leads)))

pub returns : goal.returns
returns c = λ is from.
    let grid = c.args.grid in
    let col = (measure_of grid.mode grid.tab grid.columns (take c.loop.place c.args.text.now) from).col in
    let spent : suc (grid.columns / 2) ≡ c.loop.counter = omega arith in
    c.loop.invariant from (subst (λ n. Leads grid.columns n col) spent (enough_wide grid.columns col))
