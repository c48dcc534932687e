use Rattle.std.proofs.Common.{Some, sym, ap, ◌∙◌}
use Rattle.line_help.specs.Highlights.{with_bold_byte}
use Rattle.line_help.proofs.HighlightLemmas.{bold_shown}
use Rattle.line_help.proofs.helpers.bracket_highlighter.MatchingBracketHighlighterHighlighter.highlight.Goals as goal

-- the line with its match in bold and blue is the line with styles put in
pub returns-in_ok-shown-in-Some : goal.returns-in_ok-shown-in-Some
returns-in_ok-shown-in-Some c =
    let found = ap (with_bold_byte c.args.line.now) c.in-Some.ensures.found in
    record {
      reply = record { answer = ap (λ text. Some text) (sym (c.in_ok-shown-in-Some.ensures ∙ found)); fault = tt };
      styled = bold_shown c.args.line.now _ c.in-Some.matching c.in-Some.place c.in-Some.ensures.stands c.in_ok-shown-in-Some.ensures;
    }
