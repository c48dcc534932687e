use Rattle.std.specs.Prelude.{true}
use Rattle.line_keys.specs.CustomKeys.{rest_of_sequence, key_sequence}
use Rattle.line_keys.specs.InputStates.{situation_in, Follows}
use Rattle.line_keys.specs.Requests.{AsksInOrder, IsKey}
use Rattle.line_keys.proofs.keymap.InputState.custom_seq_binding.Given as goal

-- what follows the rest of the sequence follows the whole of it, and each key was requested with the flag
abbrev pub invariant-loop-alloc : goal.invariant-loop-alloc
invariant-loop-alloc g l =
    let s = situation_in l.fn.self g.D.Decides.decides (g.W.Refresher.display.shown l.fn.wrt) l.fn.count.n l.fn.count.positive in
    ((rdr : _) (result : _)
    → Follows g.W.Refresher.display s.custom (rest_of_sequence s l.keys.items) l.fn.wrt s.input l.fn.wrt s.input (g.R.RawReader.feed l.rdr) (g.R.RawReader.feed rdr) result
    → Follows g.W.Refresher.display s.custom (key_sequence s l.fn.key) l.fn.wrt s.input l.fn.wrt s.input (g.R.RawReader.feed l.fn.rdr) (g.R.RawReader.feed rdr) result)
    × AsksInOrder g.R.RawReader.asked (IsKey true) l.fn.rdr l.rdr

abbrev pub decreases-loop-alloc : goal.decreases-loop-alloc
decreases-loop-alloc g l = (g.R.RawReader.feed l.rdr).bound
