use Rattle.std.proofs.Common.{rules, ◌≡◌, ◌-◌, ◌++◌, length, vec_len, drop, ap, ◌∙◌}
use Rattle.line_record.proofs.GapLemmas.{turned, last_part}
use Rattle.line_record.proofs.gap_line.pass.Goals as goal

pub returns-clause-to : goal.returns-clause-to
returns-clause-to c =
    let given : vec_len c.args.from.now ≡ length c.args.from.now.items = search rules in
    let held : vec_len c.args.to.now ≡ length c.args.to.now.items = search rules in
    let long : vec_len c.extend_from_slice.new.self ≡ length c.extend_from_slice.new.self.items = search rules in
    let passed = drop (length c.args.from.now.items - c.args.count) c.args.from.now.items in
    let items : c.extend_from_slice.new.self.items ≡ c.args.to.now.items ++ passed =
    c.in_ok-extend_from_slice.ensures.items
    ∙ ap (λ l. c.args.to.now.items ++ l) (last_part c.args.from.now.items c.deref.result.now c.len.result c.args.count c.deref.ensures.value (c.len.ensures ∙ given)) in
    turned c.args.to.now.items passed c.reverse.new.self c.deref_mut.result.now c.extend_from_slice.new.self.items c.len-start.result c.extend_from_slice.new.self.len
    c.deref_mut.ensures.value items (c.len-start.ensures ∙ held) c.reverse.ensures.after long
