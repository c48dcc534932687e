use Rattle.std.proofs.Common.{◌≡◌, sym, Some, None}
use Rattle.std.specs.Prelude.{position}
use Rattle.line_keys.specs.Events.{has_event}
use Rattle.line_keys.proofs.Places.{place_below, found_at, found_nowhere, unbound_at_place, nothing_unbound, map_remove}
use Rattle.line_keys.proofs.binding.unbind_in.Goals as goal

pub returns-in-Some : goal.returns-in-Some
returns-in-Some g c =
    let at : position (has_event c.args.event) c.args.entries.now.items ≡ Some c.in-Some.i = sym (rw c.as_slice.ensures.value at c.in-Some.ensures) in
    record {
      old = found_at c.args.event c.args.entries.now.items c.in-Some.i c.remove-handler.result c.remove-handler.result at c.remove-handler.ensures.value;
      unbound = λ is. rw c.remove-handler.ensures.items (unbound_at_place c.args.event c.args.entries.now.items c.in-Some.i c.remove-handler.result at is.distinct);
      map = λ is. rw c.remove-handler.ensures.items (map_remove c.args.entries.now.items c.in-Some.i (place_below c.args.event c.args.entries.now.items c.in-Some.i c.remove-handler.result at) is);
    }

pub returns : goal.returns
returns g c =
    let at : position (has_event c.args.event) c.args.entries.now.items ≡ None = sym (rw c.as_slice.ensures.value at c.in-None.ensures) in
    record { old = found_nowhere c.args.event c.args.entries.now.items at; unbound = λ is. nothing_unbound c.args.event c.args.entries.now.items at; map = λ is. is }
