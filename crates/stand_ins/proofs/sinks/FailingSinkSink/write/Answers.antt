-- A write that fails has taken the first of the bytes.
use Rattle.std.proofs.Common.{sym, take, drop, take-append-drop, rules}
use Rattle.stand_ins.proofs.sinks.FailingSinkSink.write.Goals as goal

pub returns-then-self-2-clause-begins : goal.returns-then-self-2-clause-begins
returns-then-self-2-clause-begins c =
    let n = c.put-count.result in
    record {
      taken = take n c.args.bytes.now;
      rest = drop n c.args.bytes.now;
      split = sym (take-append-drop n c.args.bytes.now);
      held = search rules;
    }
