use Rattle.std.proofs.Common.{◌≡◌, length, take, string_bytes, ap, ◌∙◌, rules}
use Rattle.std.specs.String.{string_len}
use Rattle.std.proofs.lemmas.Str.{IsUtf8-string_bytes}
use Rattle.line_record.specs.declared.entry.LoggedChange.{LoggedChange}
use Rattle.line_record.proofs.LogLemmas.{log_cut, place_between}
use Rattle.line_record.proofs.SpanLemmas.{place_is}
use Rattle.line_record.proofs.log.TextLog.truncate.Goals as goal

pub truncate-requires : goal.truncate-requires
truncate-requires c =
    let text = string_bytes c.self.inside.text in
    let count : string_len c.self.inside.text ≡ length text = search rules in
    let is = place_is (λ (x : LoggedChange). x.start) text _ c.self.inside.entries.items c.args.n _ _ c.place-end.ensures c.deref.ensures.value (c.len.ensures ∙ count) in
    let between = place_between text c.self.inside.entries.items c.args.n _ (IsUtf8-string_bytes c.self.inside.text) c.self.invariant is in
    λ _. (between.0, λ _. between.1)

pub invariant_of-self : goal.invariant_of-self
invariant_of-self c =
    let text = string_bytes c.self.inside.text in
    let count : string_len c.self.inside.text ≡ length text = search rules in
    let is = place_is (λ (x : LoggedChange). x.start) text _ c.self.inside.entries.items c.args.n _ _ c.place-end.ensures c.deref.ensures.value (c.len.ensures ∙ count) in
    (log_cut text _ c.self.inside.entries.items _ c.args.n _ c.self.invariant is c.truncate.ensures.bytes c.truncate-2.ensures.items).are

pub returns : goal.returns
returns c =
    let text = string_bytes c.self.inside.text in
    let count : string_len c.self.inside.text ≡ length text = search rules in
    let is = place_is (λ (x : LoggedChange). x.start) text _ c.self.inside.entries.items c.args.n _ _ c.place-end.ensures c.deref.ensures.value (c.len.ensures ∙ count) in
    (log_cut text _ c.self.inside.entries.items _ c.args.n _ c.self.invariant is c.truncate.ensures.bytes c.truncate-2.ensures.items).items ∙ ap (take c.args.n) c.self.view_is
