use Rattle.std.proofs.Common.{◌≡◌, ◌++◌, map, take, length, sym, ap, ◌∙◌}
use Rattle.std.specs.Prelude.{string_bytes}
use Rattle.std.proofs.lemmas.List.{take-map, length-map}
use Rattle.line_editor.specs.Candidates.{rows_of, more_row}
use Rattle.line_editor.proofs.candidates.list_text.Goals as goal

pub returns : goal.returns
returns g c =
    let offers = g.C.Candidate.offers in
    let all = c.args.candidates.now in
    let limit = c.args.limit in
    let rows : string_bytes c.push_rows.new.text ≡ rows_of (take limit (map offers all)) =
    c.in_ok-push_rows.ensures.rows ∙ ap (λ t. t ++ rows_of (map offers c.first_of.result.now)) c.new-text.ensures.bytes ∙ ap (λ xs. rows_of (map offers xs)) c.first_of.ensures ∙ ap rows_of (sym (take-map offers limit all)) in
    let more : string_bytes c.push_more.new.text ≡ string_bytes c.push_rows.new.text ++ more_row limit (length all) = c.in_ok-push_more.ensures.more in
    more ∙ ap (λ t. t ++ more_row limit (length all)) rows ∙ ap (λ n. rows_of (take limit (map offers all)) ++ more_row limit n) (sym (length-map all offers))
