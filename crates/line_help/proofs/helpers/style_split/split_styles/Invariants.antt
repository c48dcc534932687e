use Rattle.std.proofs.Common.{◌≡◌, ◌++◌, length, string_bytes}
use denote.Text.{Utf8}
use denote.Shadow.{shadow}
use Rattle.line_help.specs.Paints.{plain}
use Rattle.line_help.specs.SplitStyles.{pieces_after, text_of, styles_of, styles_so_far, SpansStand}
use Rattle.line_help.proofs.helpers.style_split.split_styles.Given as goal

abbrev pub invariant-loop-front : goal.invariant-loop-front
invariant-loop-front l = record {
  utf8 : shadow (Utf8 l.rest);
  text : text_of (pieces_after 0 l.shown) ≡ string_bytes l.split.text ++ text_of (pieces_after 0 l.rest);
  styles : styles_of plain (pieces_after 0 l.shown)
      ≡ styles_so_far (length (string_bytes l.split.text)) l.split.start l.split.spans.items l.split.style ++ styles_of l.style (pieces_after 0 l.rest);
  stands : SpansStand (length (string_bytes l.split.text)) l.split.start l.split.spans.items l.split.style;
}

abbrev pub decreases-loop-front : goal.decreases-loop-front
decreases-loop-front l = length l.rest
