use Rattle.std.proofs.Common.{◌≡◌, ap, sym, refl, ◌∙◌, Some, None, rules}
use Rattle.std.specs.Prelude.{position}
use Rattle.line_keys.specs.Events.{has_event}
use Rattle.line_keys.proofs.Places.{place_below, found_at, found_nowhere, bound_at_place, bound_behind, map_set, map_push}
use Rattle.line_keys.proofs.binding.bind_in.Goals as goal

pub returns-in-Some : goal.returns-in-Some
returns-in-Some g c =
    let at : position (has_event c.args.event) c.args.entries.now.items ≡ Some c.in-Some.i = sym (rw c.as_slice.ensures.value at c.in-Some.ensures) in
    record {
      old = ap Some c.replace.ensures.value ∙ found_at c.args.event c.args.entries.now.items c.in-Some.i c.index_mut.result.now c.index_mut.result.now at c.index_mut.ensures.value;
      bound = rw (← c.replace.ensures.after) (bound_at_place c.args.event c.args.entries.now.items c.in-Some.i c.index_mut.result.now (c.index_mut.result.now.0, c.replace.new.dest) at
          (ap (λ b. b.0) c.index_mut.ensures.value));
      refused = tt;
      kept = tt;
      map = λ normal is. map_set c.args.entries.now.items c.in-Some.i c.index_mut.result.now (c.index_mut.result.now.0, c.replace.new.dest)
          (place_below c.args.event c.args.entries.now.items c.in-Some.i c.index_mut.result.now at) (ap (λ b. b.0) c.index_mut.ensures.value) is;
    }

pub returns-in_ok-push-in-None : goal.returns-in_ok-push-in-None
returns-in_ok-push-in-None g c =
    let at : position (has_event c.args.event) c.args.entries.now.items ≡ None = sym (rw c.as_slice.ensures.value at c.in-None.ensures) in
    record {
      old = found_nowhere c.args.event c.args.entries.now.items at;
      bound = rw c.in_ok-push-in-None.ensures.items (bound_behind c.args.event c.args.entries.now.items (c.args.event, c.args.handler) at refl);
      refused = tt;
      kept = tt;
      map = λ normal is. rw c.in_ok-push-in-None.ensures.items (map_push c.args.entries.now.items (c.args.event, c.args.handler) normal at is);
    }

pub returns-in_err-push-in-None-clause-map : goal.returns-in_err-push-in-None-clause-map
returns-in_err-push-in-None-clause-map g c normal is = rw c.in_err-push-in-None.ensures.items is

pub returns-in_err-push-in-None-clause-refused : goal.returns-in_err-push-in-None-clause-refused
returns-in_err-push-in-None-clause-refused g c =
    let at : position (has_event c.args.event) c.args.entries.now.items ≡ None = sym (rw c.as_slice.ensures.value at c.in-None.ensures) in
    let nowhere = found_nowhere c.args.event c.args.entries.now.items at in
    search rules
