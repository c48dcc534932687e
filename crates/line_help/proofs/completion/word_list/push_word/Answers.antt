use Rattle.std.specs.Result.{is_ok}
use Rattle.std.proofs.Common.{◌≡◌, ◌<◌, ◌∙◌, sym, ap, length, rules}
use Rattle.line_help.proofs.LoadLemmas.{empty_is_utf8, read_utf8, unread_utf8}
use Rattle.line_help.proofs.completion.word_list.push_word.Goals as goal

pub returns-then-is_empty-clause-text : goal.returns-then-is_empty-clause-text
returns-then-is_empty-clause-text c =
    let none : length c.args.row.now ≡ 0 = search rules in
    empty_is_utf8 c.args.row.now none

pub returns-clause-text : goal.returns-clause-text
returns-clause-text c =
    read_utf8 _ _ c.args.row.now c.from_utf8.result c.from_utf8.ensures.cases (sym c.map_err.ensures.variant ∙ ap is_ok c.in_ok-text.was) (λ text p. p.1)

pub returns-in_err-text-clause-fault : goal.returns-in_err-text-clause-fault
returns-in_err-text-clause-fault c =
    let bad = unread_utf8 _ _ c.args.row.now c.from_utf8.result c.from_utf8.ensures.cases (sym c.map_err.ensures.variant ∙ ap is_ok c.in_err-text.was) (λ fault p. p.0) in
    let some : 0 < length c.args.row.now = search rules in
    rw bad (search rules)

pub returns-in_err-from_str-clause-fault : goal.returns-in_err-from_str-clause-fault
returns-in_err-from_str-clause-fault c =
    let good = read_utf8 _ _ c.args.row.now c.from_utf8.result c.from_utf8.ensures.cases (sym c.map_err.ensures.variant ∙ ap is_ok c.in_ok-text.was) (λ text p. p.1) in
    let some : 0 < length c.args.row.now = search rules in
    rw good (search rules)

pub returns-in_err-push-clause-fault : goal.returns-in_err-push-clause-fault
returns-in_err-push-clause-fault c =
    let good = read_utf8 _ _ c.args.row.now c.from_utf8.result c.from_utf8.ensures.cases (sym c.map_err.ensures.variant ∙ ap is_ok c.in_ok-text.was) (λ text p. p.1) in
    let some : 0 < length c.args.row.now = search rules in
    rw good (search rules)
