use Rattle.std.proofs.Common.{string_bytes, sym, ap, is_some, unwrap_or}
use Rattle.line_record.specs.Log.{event_of}
use Rattle.line_record.proofs.LogLemmas.{entry_at, read, join_none, join_made}
use Rattle.line_record.proofs.log.TextLog.join.Goals as goal

pub joined-requires : goal.joined-requires
joined-requires c =
    (entry_at (string_bytes c.self.inside.text) c.self.inside.entries.items c.args.self.now c.args.index c.index.result.now c.self.invariant c.self.view_is
    c.requires c.index.ensures).spelt.added

pub returns-in_default : goal.returns-in_default
returns-in_default c =
    let none = join_none _ _ _ _ _ _ _
    (read (event_of c.args.report) (string_bytes c.self.inside.text) c.self.inside.entries.items c.args.self.now c.args.index c.index.result.now c.joined.result c.self.invariant c.self.view_is c.requires
    c.index.ensures c.joined.ensures) c.in_default.is in
    record { answer = sym (ap is_some none); value = sym (ap (λ o. unwrap_or o c.args.self.now) none); kept = tt }

pub returns : goal.returns
returns c =
    let made = join_made _ _ _ _ _ _ _ _ c.in-Some.at c.in-Some.before _ _
    (read (event_of c.args.report) (string_bytes c.self.inside.text) c.self.inside.entries.items c.args.self.now c.args.index c.index.result.now c.joined.result c.self.invariant c.self.view_is c.requires
    c.index.ensures c.joined.ensures) c.in-Some.is c.in_ok-grow.ensures.ok c.removed.ensures c.added.ensures in
    record { answer = sym (ap is_some made); value = sym (ap (λ o. unwrap_or o c.args.self.now) made); kept = tt }
