-- A prompt with control sequences, as the program takes it under --extended.
use Rattle.std.specs.Prelude.{ℕ, suc, Bool, if◌then◌else◌, List, [], ◌∷◌}
use Rattle.line_editor.specs.SharedStyles.{same_style}
use Rattle.line_help.specs.Paints.{plain}
use Rattle.line_help.specs.SplitStyles.{pieces_after, styles_of, text_of}
use Rattle.line_help.specs.declared.helpers.style.Span.{Span}
use Rattle.line_help.specs.declared.helpers.style.Style.{Style}

-- a byte of this style before spans; before none it needs one if it isn't plain
abbrev pub byte_before : Style → List Span → List Span
byte_before s [] = if same_style s plain then [] else record { len = 1; style = s } ∷ []
byte_before s (span ∷ spans) = if same_style s span.style
    then record span { len = suc span.len } ∷ spans
    else record { len = 1; style = s } ∷ (span ∷ spans)

abbrev pub spans_of : List Style → List Span
spans_of [] = []
spans_of (s ∷ styles) = byte_before s (spans_of styles)

abbrev pub prompt_text : Bool → List ℕ → List ℕ
prompt_text extended prompt = if extended then text_of (pieces_after 0 prompt) else prompt

abbrev pub prompt_spans : Bool → List ℕ → List Span
prompt_spans extended prompt =
    if extended then spans_of (styles_of plain (pieces_after 0 prompt)) else []
