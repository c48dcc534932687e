use Rattle.std.proofs.Common.{string_bytes, rules}
use Rattle.line_record.proofs.RingLemmas.{put_mapped}
use Rattle.line_record.proofs.kill_ring.put_slot.Goals as goal

pub returns-then-index-len-clause-ok : goal.returns-then-index-len-clause-ok
returns-then-index-len-clause-ok c = put_mapped string_bytes c.args.slots.now.items c.args.index c.in_ok-text.text _ (search rules) (search rules)
