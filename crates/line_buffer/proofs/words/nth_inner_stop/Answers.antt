use Rattle.std.proofs.lemmas.Str.{IsCharBoundary-start}
use Rattle.line_buffer.proofs.words.nth_inner_stop.Goals as goal

pub nth_edge-requires-clause-boundary : goal.nth_edge-requires-clause-boundary
nth_edge-requires-clause-boundary c = IsCharBoundary-start c.args.text.now c.utf8.text

pub nth_edge-requires-in_default : goal.nth_edge-requires-in_default
nth_edge-requires-in_default c = record { boundary = IsCharBoundary-start c.args.text.now c.utf8.text; some = c.requires }
