use Rattle.std.proofs.Common.{refl, ◌∙◌}
use Rattle.line_config.specs.contracts.memory.SliceSourceSource.TheImpl as slice_source
use Rattle.line_screen.specs.Reader.{coming_in}
use Rattle.keyline_call.proofs.AskLemmas.{last_key, one_more}
use Rattle.keyline_call.proofs.asking.keys_in.Goals as goal

pub loop-key-preserved : goal.loop-key-preserved
loop-key-preserved c =
    one_more _ c.loop-key.keys.items c.push.new.self.items c.in-Ok.key (coming_in slice_source.ghosts.feed c.loop-key.reader) (coming_in slice_source.ghosts.feed c.next_key.new.self) c.next_key.result
    c.loop-key.invariant (c.next_key.ensures.reads.taken refl) c.in-Ok.is c.in_ok-push-in-Ok.ensures.items

pub returns-in-Err : goal.returns-in-Err
returns-in-Err c =
    c.ended.ensures ∙ last_key _ c.loop-key.keys.items c.in-Err.why (coming_in slice_source.ghosts.feed c.loop-key.reader) (coming_in slice_source.ghosts.feed c.next_key.new.self) c.next_key.result
    c.loop-key.invariant (c.next_key.ensures.reads.taken refl) c.in-Err.is
