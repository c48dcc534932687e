use Rattle.std.proofs.Common.{◌≡◌, ◌+◌, Some, None, arith}
use Rattle.std.proofs.lemmas.Str.Pattern.{rfind_char}
use Rattle.line_help.proofs.FileNameLemmas.{folder_len, slash_last, no_slash}
use Rattle.line_help.proofs.completion.file_names.split_path.Goals as goal

pub returns-in-Some : goal.returns-in-Some
returns-in-Some c =
    let at = rfind_char 47 c.args.path.now (Some c.in-Some.place) c.in-Some.ensures.cases (omega arith) in
    let e : folder_len c.args.path.now ≡ c.in-Some.place + 1 = slash_last c.args.path.now c.in-Some.place at.0 at.1 at.2 in
    record { folder = rw e c.split_at.ensures.front; name = rw e c.split_at.ensures.back }

pub returns-in-None : goal.returns-in-None
returns-in-None c =
    let none = rfind_char 47 c.args.path.now None c.in-None.ensures.cases (omega arith) in
    let e : folder_len c.args.path.now ≡ 0 = no_slash c.args.path.now none in
    record { folder = rw e; name = rw e }
