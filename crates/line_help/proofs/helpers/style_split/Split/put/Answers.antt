use Rattle.std.proofs.Common.{◌∙◌, ap, length, length-append, string_bytes}
use Rattle.line_help.proofs.SplitLemmas.{put_styles}
use Rattle.line_help.proofs.helpers.style_split.Split.put.Goals as goal

pub returns-clause-styles : goal.returns-clause-styles
returns-clause-styles c =
    let before = c.turn.new.self in
    let text = c.args.text.now in
    put_styles (length (string_bytes before.text)) before.start (length text) (length (string_bytes c.push_str.new.self)) before.spans.items before.style
    c.args.style _ (ap length c.in_ok-push_str.ensures.bytes ∙ length-append (string_bytes before.text) text)
    c.in_ok-turn.ensures.start c.in_ok-turn.ensures.style c.in_ok-turn.ensures.styles
