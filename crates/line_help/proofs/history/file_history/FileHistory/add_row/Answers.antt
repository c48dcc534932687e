use Rattle.std.proofs.Common.{◌≡◌, ◌<◌, length, rules}
use Rattle.std.proofs.lemmas.Str.{is_utf8-from_IsUtf8}
use Rattle.line_help.proofs.LoadLemmas.{empty_is_utf8, unread_utf8, good_text, good_fault}
use Rattle.line_help.proofs.history.file_history.FileHistory.add_row.Goals as goal

pub returns-then-is_empty : goal.returns-then-is_empty
returns-then-is_empty c =
    let none : length c.args.row.now ≡ 0 = search rules in
    record { answer = search rules; added = search rules; text = empty_is_utf8 c.args.row.now none; kept = search rules; fault = search rules }

pub returns-in_default : goal.returns-in_default
returns-in_default c =
    let some : 0 < length c.args.row.now = search rules in
    let bad = unread_utf8 _ _ c.args.row.now c.from_utf8.result c.from_utf8.ensures.cases (search rules) (λ fault p. p.0) in
    record { answer = search rules; added = search rules; text = search rules; kept = search rules; fault = (rw bad (search rules), some) }

pub returns-in_err-entry : goal.returns-in_err-entry
returns-in_err-entry c =
    let some : 0 < length c.args.row.now = search rules in
    record {
      answer = search rules;
      added = search rules;
      text = search rules;
      kept = search rules;
      fault = good_fault c.args.row.now c.from_residual.result (is_utf8-from_IsUtf8 c.args.row.now c.in-Ok.ensures.cases.1) some (search rules);
    }

pub returns-in-Some : goal.returns-in-Some
returns-in-Some c =
    let some : 0 < length c.args.row.now = search rules in
    let utf8 = is_utf8-from_IsUtf8 c.args.row.now c.in-Ok.ensures.cases.1 in
    record {
      answer = search rules;
      added = search rules;
      text = good_text c.args.row.now c.add_owned.result utf8;
      kept = search rules;
      fault = good_fault c.args.row.now c.add_owned.result utf8 some c.add_owned.ensures.grows.fault;
    }

pub returns-in-None : goal.returns-in-None
returns-in-None c =
    let some : 0 < length c.args.row.now = search rules in
    let utf8 = is_utf8-from_IsUtf8 c.args.row.now c.in-Ok.ensures.cases.1 in
    record {
      answer = search rules;
      added = search rules;
      text = good_text c.args.row.now c.add.result utf8;
      kept = search rules;
      fault = good_fault c.args.row.now c.add.result utf8 some c.add.ensures.grows.fault;
    }
