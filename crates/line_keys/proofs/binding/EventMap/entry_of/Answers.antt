use Rattle.std.proofs.Common.{◌≡◌, Some, None, get_or, sym}
use Rattle.std.specs.Prelude.{position}
use Rattle.line_keys.specs.Events.{single, has_event}
use Rattle.line_keys.proofs.Places.{entry_at, found_at, found_nowhere}
use Rattle.line_keys.proofs.binding.EventMap.entry_of.Goals as goal

pub returns-in-Some : goal.returns-in-Some
returns-in-Some g c =
    let at : position (has_event (single c.args.key)) c.args.self.now ≡ Some c.in-Some.i = sym (rw (c.as_slice.ensures.value, c.self.view_is) at c.in-Some.ensures) in
    let entry : c.index.result.now ≡ get_or c.args.self.now c.in-Some.i c.index.result.now = rw c.self.view_is at c.index.ensures in
    record {
      found = found_at (single c.args.key) c.args.self.now c.in-Some.i c.index.result.now c.index.result.now at entry;
      event = entry_at (single c.args.key) c.args.self.now c.in-Some.i c.index.result.now c.index.result.now at entry;
    }

pub returns-in-None-clause-found : goal.returns-in-None-clause-found
returns-in-None-clause-found g c =
    let at : position (has_event (single c.args.key)) c.args.self.now ≡ None = sym (rw (c.as_slice.ensures.value, c.self.view_is) at c.in-None.ensures) in
    found_nowhere (single c.args.key) c.args.self.now at
