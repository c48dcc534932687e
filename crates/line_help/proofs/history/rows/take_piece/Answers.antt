use Rattle.std.proofs.Common.{◌≡◌, ◌==◌, ◌∙◌, ◌++◌, ap, take}
use Rattle.std.specs.List.{list_any, position_or_len}
use Rattle.line_help.proofs.RowLemmas.{front_free}
use Rattle.line_help.proofs.history.rows.take_piece.Goals as goal

pub returns : goal.returns
returns g c =
    let ready = g.S.Source.buffered c.args.source.now in
    let count = c.row_len-count.result in
    let len : count ≡ position_or_len (λ b. b == 10) ready = c.row_len-count.ensures ∙ ap (position_or_len (λ b. b == 10)) c.buffer-bytes.ensures in
    record {
      piece = take count ready;
      given = c.consume.ensures;
      row = c.in_ok-extend_from_slice.ensures.items ∙ ap (λ bytes. c.args.row.now.items ++ take count bytes) c.buffer-bytes.ensures;
      inside = ap (λ k. list_any (λ b. b == 10) (take k ready)) len ∙ front_free (λ b. b == 10) ready;
    }
