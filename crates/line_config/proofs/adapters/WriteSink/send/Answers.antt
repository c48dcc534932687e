-- The flush comes last.
use Rattle.line_config.proofs.TryLemmas.{flush_ends}
use Rattle.line_config.proofs.adapters.WriteSink.send.Goals as goal

pub returns-clause-flushed : goal.returns-clause-flushed
returns-clause-flushed g c = (flush_ends c.flush_retrying.result _ _ _ c.send_to.ensures.writer.calls c.flush_retrying.ensures.tries).0

pub returns-clause-cause : goal.returns-clause-cause
returns-clause-cause g c = (flush_ends c.flush_retrying.result _ _ _ c.send_to.ensures.writer.calls c.flush_retrying.ensures.tries).1
