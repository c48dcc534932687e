use Rattle.std.proofs.Common.{◌≡◌, ◌+◌, ◌++◌, ◌∷◌, [], length, take, drop, string_bytes, ap, sym, ◌∙◌, subst, rules, arith, get_or, refl, IsCharBoundary}
use Rattle.std.specs.String.{string_len}
use Rattle.std.proofs.lemmas.List.{length-take-le}
use Rattle.std.proofs.lemmas.Str.{IsUtf8-string_bytes}
use Rattle.line_record.specs.Log.{edit_in, edits_in, change_with_text}
use Rattle.line_record.proofs.LogLemmas.{entry_at, cuts_at, place_in_cut, log_grown, LogIs}
use Rattle.line_record.proofs.log.TextLog.grow.Goals as goal

pub truncate-requires : goal.truncate-requires
truncate-requires c =
    let text = string_bytes c.self.inside.text in
    let here = entry_at text c.self.inside.entries.items c.args.self.now c.args.index c.index.result.now c.self.invariant c.self.view_is c.requires
    c.index.ensures in
    let end = subst (λ t. IsCharBoundary t c.index.result.now.end) (sym c.reserve.ensures.bytes) (cuts_at text c.index.result.now (IsUtf8-string_bytes c.self.inside.text) here.spelt).end in
    λ _. (end.0, λ _. end.1)

pub put_in-requires : goal.put_in-requires
put_in-requires c =
    let text = string_bytes c.self.inside.text in
    let x = c.index.result.now in
    let here = entry_at text c.self.inside.entries.items c.args.self.now c.args.index x c.self.invariant c.self.view_is c.requires c.index.ensures in
    subst (λ t. IsCharBoundary t c.seam.result) (sym (c.truncate.ensures.bytes ∙ ap (take x.end) c.reserve.ensures.bytes))
    (place_in_cut text x c.args.before c.seam.result (IsUtf8-string_bytes c.self.inside.text) here.spelt c.seam.ensures)

pub overflow_add-last : goal.overflow_add-last
overflow_add-last c =
    let text = string_bytes c.self.inside.text in
    let x = c.index.result.now in
    let here = entry_at text c.self.inside.entries.items c.args.self.now c.args.index x c.self.invariant c.self.view_is c.requires c.index.ensures in
    let count : string_len c.truncate.new.self ≡ length (string_bytes c.truncate.new.self) = search rules in
    let cut : length (string_bytes c.truncate.new.self) ≡ x.end = ap length (c.truncate.ensures.bytes ∙ ap (take x.end) c.reserve.ensures.bytes) ∙ length-take-le x.end text here.spelt.inside in
    omega (arith, c.len-end.type_inv, c.len-end.ensures, c.in_ok-push_str.ensures.len, c.in_ok-put_in.ensures.len, count, cut, here.spelt.added)

put : (c : goal.In_ok-push) → LogIs (string_bytes c.push_str.new.self) c.push.new.self.items (take c.args.index (edits_in (string_bytes c.self.inside.text) c.self.inside.entries.items)
    ++ (change_with_text c.args.at c.args.before c.args.removed.now c.args.added.now (edit_in (string_bytes c.self.inside.text) c.index.result.now) ∷ []))
put c =
    let text = string_bytes c.self.inside.text in
    let x = c.index.result.now in
    let here = entry_at text c.self.inside.entries.items c.args.self.now c.args.index x c.self.invariant c.self.view_is c.requires c.index.ensures in
    let count : string_len c.push_str.new.self ≡ length (string_bytes c.push_str.new.self) = search rules in
    let cut : string_bytes c.truncate.new.self ≡ take x.end text = c.truncate.ensures.bytes ∙ ap (take x.end) c.reserve.ensures.bytes in
    let whole : string_bytes c.push_str.new.self ≡ ((take c.seam.result (take x.end text) ++ c.args.removed.now) ++ drop c.seam.result (take x.end text)) ++ c.args.added.now =
    c.in_ok-push_str.ensures.bytes ∙ ap (λ t. t ++ c.args.added.now) (c.in_ok-put_in.ensures.bytes ∙ ap (λ t. (take c.seam.result t ++ c.args.removed.now) ++ drop c.seam.result t) cut) in
    log_grown text (string_bytes c.push_str.new.self) c.args.removed.now c.args.added.now c.self.inside.entries.items c.push.new.self.items c.args.index c.args.at c.seam.result
    (x.middle + length c.args.removed.now) c.len-end.result c.args.before x c.self.invariant (IsUtf8-string_bytes c.self.inside.text) here c.seam.ensures whole refl (c.len-end.ensures ∙ count)
    c.utf8.removed c.utf8.added (c.in_ok-push.ensures.items ∙ ap (λ es. es ++ (record { kind = x.kind; at = c.args.at; start = x.start; middle = x.middle + length c.args.removed.now; end = c.len-end.result } ∷ [])) c.truncate-2.ensures.items)

pub invariant_of-self-2 : goal.invariant_of-self-2
invariant_of-self-2 c = (put c).are

pub returns-clause-ok : goal.returns-clause-ok
returns-clause-ok c = λ d.
    let text = string_bytes c.self.inside.text in
    let x = c.index.result.now in
    let here = entry_at text c.self.inside.entries.items c.args.self.now c.args.index x c.self.invariant c.self.view_is c.requires c.index.ensures in
    (put c).items ∙ ap (λ y. take c.args.index (edits_in text c.self.inside.entries.items) ++ (change_with_text c.args.at c.args.before c.args.removed.now c.args.added.now y ∷ [])) (sym (here.edit d))
    ∙ ap (λ es. take c.args.index es ++ (change_with_text c.args.at c.args.before c.args.removed.now c.args.added.now (get_or es c.args.index d) ∷ [])) c.self.view_is
