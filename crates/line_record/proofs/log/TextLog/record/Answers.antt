use Rattle.std.proofs.Common.{◌≡◌, ◌+◌, ◌++◌, ◌∷◌, [], length, take, string_bytes, ap, sym, ◌∙◌, subst, rules, append_assoc, IsCharBoundary}
use Rattle.std.specs.String.{string_len}
use Rattle.std.proofs.lemmas.List.{length-append, length-take-le}
use Rattle.std.proofs.lemmas.Str.{IsUtf8-string_bytes}
use Rattle.line_record.specs.declared.entry.LoggedChange.{LoggedChange}
use Rattle.line_record.specs.Log.{edit_from, edits_in}
use Rattle.line_record.proofs.LogLemmas.{log_put, place_between, LogIs}
use Rattle.line_record.proofs.SpanLemmas.{place_is}
use Rattle.line_record.proofs.log.TextLog.record.Goals as goal

pub truncate-requires : goal.truncate-requires
truncate-requires c =
    let text = string_bytes c.self.inside.text in
    let count : string_len c.reserve.new.self ≡ length (string_bytes c.reserve.new.self) = search rules in
    let is = place_is (λ (x : LoggedChange). x.start) text _ c.self.inside.entries.items c.args.n _ _ c.place-start.ensures (c.deref.ensures.value ∙ c.reserve-2.ensures.items) (c.len.ensures ∙ count ∙ ap length c.reserve.ensures.bytes) in
    let between = subst (λ t. IsCharBoundary t c.place-start.result) (sym c.reserve.ensures.bytes)
    (place_between text c.self.inside.entries.items c.args.n _ (IsUtf8-string_bytes c.self.inside.text) c.self.invariant is) in
    λ _. (between.0, λ _. between.1)

put : (c : goal.In_ok-push) → LogIs (string_bytes c.push_str-2.new.self) c.push.new.self.items
    (take c.args.n (edits_in (string_bytes c.self.inside.text) c.self.inside.entries.items) ++ (edit_from c.args.kind c.args.at c.args.removed.now c.args.added.now ∷ []))
put c =
    let text = string_bytes c.self.inside.text in
    let start = c.place-start.result in
    let count : string_len c.reserve.new.self ≡ length (string_bytes c.reserve.new.self) = search rules in
    let count_middle : string_len c.push_str.new.self ≡ length (string_bytes c.push_str.new.self) = search rules in
    let count_end : string_len c.push_str-2.new.self ≡ length (string_bytes c.push_str-2.new.self) = search rules in
    let is = place_is (λ (x : LoggedChange). x.start) text _ c.self.inside.entries.items c.args.n _ _ c.place-start.ensures (c.deref.ensures.value ∙ c.reserve-2.ensures.items) (c.len.ensures ∙ count ∙ ap length c.reserve.ensures.bytes) in
    let between = place_between text c.self.inside.entries.items c.args.n _ (IsUtf8-string_bytes c.self.inside.text) c.self.invariant is in
    let half : string_bytes c.push_str.new.self ≡ take start text ++ c.args.removed.now =
    c.in_ok-push_str.ensures.bytes ∙ ap (λ t. t ++ c.args.removed.now) (c.truncate.ensures.bytes ∙ ap (take start) c.reserve.ensures.bytes) in
    let whole : string_bytes c.push_str-2.new.self ≡ take start text ++ (c.args.removed.now ++ c.args.added.now) =
    c.in_ok-push_str-2.ensures.bytes ∙ ap (λ t. t ++ c.args.added.now) half ∙ append_assoc (take start text) c.args.removed.now c.args.added.now in
    let middle : c.len-middle.result ≡ start + length c.args.removed.now =
    c.len-middle.ensures ∙ count_middle ∙ ap length half ∙ length-append (take start text) c.args.removed.now ∙ ap (λ k. k + length c.args.removed.now) (length-take-le start text between.0) in
    let x : LoggedChange = record { kind = c.args.kind; at = c.args.at; start = start; middle = c.len-middle.result; end = c.len-end.result } in
    log_put text _ c.args.removed.now c.args.added.now c.self.inside.entries.items _ c.args.n x c.self.invariant (IsUtf8-string_bytes c.self.inside.text)
    is whole middle (c.len-end.ensures ∙ count_end) c.utf8.removed c.utf8.added (c.in_ok-push.ensures.items ∙ ap (λ es. es ++ (x ∷ [])) (c.truncate-2.ensures.items ∙ ap (take c.args.n) c.reserve-2.ensures.items))

pub invariant_of-self-2 : goal.invariant_of-self-2
invariant_of-self-2 c = (put c).are

pub returns-clause-ok : goal.returns-clause-ok
returns-clause-ok c = (put c).items ∙ ap (λ es. take c.args.n es ++ (edit_from c.args.kind c.args.at c.args.removed.now c.args.added.now ∷ [])) c.self.view_is
