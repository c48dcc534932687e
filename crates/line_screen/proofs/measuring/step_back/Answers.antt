use Rattle.std.proofs.Common.{◌≡◌, ◌++◌, ◌∙◌, take, ap, sym, arith}
use Rattle.std.specs.Prelude.{encode_utf8}
use Rattle.line_buffer.specs.Cells.{origin}
use Rattle.line_screen.specs.Measure.{measure_of}
use Rattle.line_screen.proofs.CellsBefore.{apart_of, one_less, own_narrow, own_some}
use Rattle.line_screen.proofs.measuring.step_back.Goals as goal

pub cell_at-requires-clause-some : goal.cell_at-requires-clause-some
cell_at-requires-clause-some c =
    let grid = c.args.grid in
    let found = c.in_ok-found.found in
    own_some grid.mode grid.tab grid.columns (omega (arith, grid.room)) found.1 c.measure_in-own.result (apart_of (take found.0 c.args.text.now) found.1 c.in_ok-found.ensures.1)
    (c.measure_in-own.ensures ∙ ap (λ t. measure_of grid.mode grid.tab grid.columns t origin) c.encode_utf8.ensures.value) (omega (arith, c.if-own-gt0.false))

pub cell_at-requires-clause-narrow : goal.cell_at-requires-clause-narrow
cell_at-requires-clause-narrow c =
    let grid = c.args.grid in
    let found = c.in_ok-found.found in
    own_narrow grid.mode grid.tab grid.columns (omega (arith, grid.room)) found.1 c.measure_in-own.result (apart_of (take found.0 c.args.text.now) found.1 c.in_ok-found.ensures.1)
    (c.measure_in-own.ensures ∙ ap (λ t. measure_of grid.mode grid.tab grid.columns t origin) c.encode_utf8.ensures.value) (omega (arith, c.if-own-gt0.false))

pub returns : goal.returns
returns c = λ from known.
    let grid = c.args.grid in
    let measured = measure_of grid.mode grid.tab grid.columns in
    let found = c.in_ok-found.found in
    one_less grid.mode grid.tab grid.columns (omega (arith, grid.room)) (take found.0 c.args.text.now) found.1 from c.args.end c.measure_in-own.result c.in_ok-there.there c.in_ok-found.ensures.1
    (known ∙ ap (λ t. measured t from) c.in_ok-found.ensures.0)
    (c.measure_in-own.ensures ∙ ap (λ t. measured t origin) c.encode_utf8.ensures.value)
    (omega (arith, c.if-own-gt0.false)) (λ there low same e. c.in_ok-there.ensures from there low same e)
