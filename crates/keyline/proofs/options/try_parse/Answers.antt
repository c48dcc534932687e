use Rattle.std.proofs.Common.{List, map, subst, inr}
use Rattle.clap.specs.Words.{Row, app_of}
use Rattle.keyline.specs.Options.{Chooses, ChoosesNone}
use Rattle.keyline.proofs.OptionsLemmas.{fails_by, fails_with, no_faults, rows_are}
use Rattle.keyline.proofs.options.try_parse.Goals as goal

pub returns-in-Some-clause-gives : goal.returns-in-Some-clause-gives
returns-in-Some-clause-gives g c =
    let words = map g.S.AsStr.text c.args.words.now in
    let line = app_of c.in_ok-command_line.field-0 in
    let rows = rows_are line words c.in_ok-matches.matches c.in_ok-command_line.ensures c.in_ok-matches.ensures.matches in (
      no_faults line words c.in_ok-command_line.ensures c.in_ok-matches.ensures.kinds,
      subst (λ (r : List Row). Chooses r c.in-Some.options) rows (rw c.in-Some.is at c.in_ok-options.ensures.choice),
    )

pub returns-clause-gives : goal.returns-clause-gives
returns-clause-gives g c =
    let words = map g.S.AsStr.text c.args.words.now in
    let line = app_of c.in_ok-command_line.field-0 in
    let rows = rows_are line words c.in_ok-matches.matches c.in_ok-command_line.ensures c.in_ok-matches.ensures.matches in
    inr (inr (c.in_ok-none_chosen-in-None.ensures, subst ChoosesNone rows (rw c.in-None.is at c.in_ok-options.ensures.choice)))

pub returns-in_err-matches-clause-gives : goal.returns-in_err-matches-clause-gives
returns-in_err-matches-clause-gives g c =
    let words = map g.S.AsStr.text c.args.words.now in
    let error = c.in_err-matches.field-0.0 in
    let kinds = fails_by (app_of c.in_ok-command_line.field-0) words error c.in_ok-command_line.ensures c.in_err-matches.ensures.kinds in
    fails_with words error c.from_residual-in_err-matches.result kinds c.from_residual-in_err-matches.ensures.1
