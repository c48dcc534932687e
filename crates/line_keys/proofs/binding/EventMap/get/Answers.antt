use Rattle.std.proofs.Common.{◌≡◌, Some, None, get_or, sym}
use Rattle.std.specs.Prelude.{position}
use Rattle.line_keys.specs.Events.{has_event}
use Rattle.line_keys.proofs.Places.{found_at, found_nowhere, normal_if_found}
use Rattle.line_keys.proofs.binding.EventMap.get.Goals as goal

pub returns-in-Some : goal.returns-in-Some
returns-in-Some g c =
    let at : position (has_event c.args.event.now) c.args.self.now ≡ Some c.in-Some.i = sym (rw (c.as_slice.ensures.value, c.self.view_is) at c.in-Some.ensures) in
    let entry : c.index.result.now ≡ get_or c.args.self.now c.in-Some.i c.index.result.now = rw c.self.view_is at c.index.ensures in
    record {
      found = found_at c.args.event.now c.args.self.now c.in-Some.i c.index.result.now c.index.result.now at entry;
      normal = normal_if_found c.args.event.now c.args.self.now (rw c.self.view_is at c.self.invariant);
    }

pub returns-in-None : goal.returns-in-None
returns-in-None g c =
    let at : position (has_event c.args.event.now) c.args.self.now ≡ None = sym (rw (c.as_slice.ensures.value, c.self.view_is) at c.in-None.ensures) in
    record {
      found = found_nowhere c.args.event.now c.args.self.now at;
      normal = normal_if_found c.args.event.now c.args.self.now (rw c.self.view_is at c.self.invariant);
    }
