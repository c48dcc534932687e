use Rattle.std.proofs.Common.{◌<◌, map, [], length, string_bytes, ap, sym, ◌∙◌, rules, slice_set}
use Rattle.std.proofs.Math.Seq.{map-set_same}
use Rattle.std.proofs.lemmas.List.{map-set, get_or-map}
use Rattle.std.proofs.lemmas.Result.{on_ok_weaker, on_err_weaker}
use Rattle.line_record.specs.Ring.{joined_text}
use Rattle.line_record.proofs.kill_ring.join_slot.Goals as goal

pub returns-clause-ok : goal.returns-clause-ok
returns-clause-ok c =
    let slots = map string_bytes c.args.slots.now.items in
    let inside : c.args.index < length c.args.slots.now.items = search rules in
    on_ok_weaker c.join.result
    (λ is. map-set string_bytes c.args.slots.now.items c.args.index c.join.new.slot
    ∙ ap (slice_set slots c.args.index) (is ∙ ap (joined_text c.args.mode c.args.text.now)
    (ap string_bytes c.index_mut.ensures.value ∙ sym (get_or-map string_bytes c.args.slots.now.items c.args.index _ [] inside))))
    c.join.ensures.ok

pub returns-clause-kept : goal.returns-clause-kept
returns-clause-kept c =
    on_err_weaker c.join.result
    (λ is. map-set_same string_bytes c.args.slots.now.items c.args.index c.join.new.slot _ (is ∙ ap string_bytes c.index_mut.ensures.value))
    c.join.ensures.kept
