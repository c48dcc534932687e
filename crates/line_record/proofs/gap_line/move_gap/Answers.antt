use Rattle.std.proofs.Common.{rules, ◌≡◌, ◌≤◌, ◌∙◌, ap, length, reverse}
use Rattle.std.proofs.lemmas.Result.{on_ok_weaker}
use Rattle.line_record.proofs.GapLemmas.{moved_on}
use Rattle.line_record.proofs.gap_line.move_gap.Goals as goal

pub returns-else-to-len-clause-before : goal.returns-else-to-len-clause-before
returns-else-to-len-clause-before c =
    let held : c.len-else-to-len.result ≡ length c.args.before.now.items = search rules in
    let more : c.len-else-to-len.result ≤ c.args.to = search rules in
    on_ok_weaker c.pass-else-to-len.result
    (λ is. is ∙ (moved_on c.args.before.now.items c.args.after.now.items c.args.to c.len-else-to-len.result held more c.requires).0) c.pass-else-to-len.ensures.to

pub returns-else-to-len-clause-after : goal.returns-else-to-len-clause-after
returns-else-to-len-clause-after c =
    let held : c.len-else-to-len.result ≡ length c.args.before.now.items = search rules in
    let more : c.len-else-to-len.result ≤ c.args.to = search rules in
    on_ok_weaker c.pass-else-to-len.result
    (λ is. ap reverse is ∙ (moved_on c.args.before.now.items c.args.after.now.items c.args.to c.len-else-to-len.result held more c.requires).1) c.pass-else-to-len.ensures.from
