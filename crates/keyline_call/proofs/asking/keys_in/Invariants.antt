use Rattle.std.proofs.Common.{◌≡◌, ◌++◌}
use Rattle.std.specs.Prelude.{option_map}
use Rattle.line_config.specs.contracts.memory.SliceSourceSource.TheImpl as slice_source
use Rattle.line_screen.specs.Reader.{coming_in, feed_in}
use Rattle.keyline_call.specs.Asks.{keys_alone, keys_in}
use Rattle.keyline_call.proofs.asking.keys_in.Given as goal

abbrev pub invariant-loop-key : goal.invariant-loop-key
invariant-loop-key l = keys_in l.fn.mode l.fn.row ≡ option_map (λ keys. l.keys.items ++ keys) (keys_alone (coming_in slice_source.ghosts.feed l.reader))

abbrev pub decreases-loop-key : goal.decreases-loop-key
decreases-loop-key l = (feed_in slice_source.ghosts.feed l.reader).bound
