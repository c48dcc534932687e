use Rattle.std.proofs.Common.{◌≡◌, ◌++◌, ◌∙◌, take, ap, sym}
use Rattle.std.specs.Prelude.{encode_utf8}
use Rattle.line_buffer.proofs.PartLemmas.{slice_range-front}
use Rattle.line_editor.specs.Characters.{stands_apart}
use Rattle.line_screen.proofs.KnownLemmas.{take_before}
use Rattle.line_screen.proofs.measuring.last_apart.Goals as goal

pub returns : goal.returns
returns c =
    let text = c.args.text.now in
    let bytes = encode_utf8 c.in_ok-c.c in
    let front = c.as_str-front.result.now in
    let whole : take c.args.near text ≡ front ++ bytes =
    sym (slice_range-front text c.args.near) ∙ sym c.range.ensures.value ∙ sym c.chars-characters.ensures.rest ∙ c.in_ok-c.ensures.steps ∙ ap (λ t. t ++ bytes) (sym c.as_str-front.ensures) in
    let same = take_before c.args.near text front bytes whole in
    (whole ∙ ap (λ t. t ++ bytes) same, ap (λ t. stands_apart t c.in_ok-c.c) (sym same) ∙ sym c.if-not-stands_apart.ensures)
