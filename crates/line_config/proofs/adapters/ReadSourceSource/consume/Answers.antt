-- Bytes that were read before are given.
use Rattle.line_config.specs.Adapters.{gave, reader_of, bytes_not_given}
use Rattle.line_config.proofs.FeedLemmas.{gives_front}
use Rattle.line_config.proofs.adapters.ReadSourceSource.consume.Goals as goal

pub returns-clause-bytes : goal.returns-clause-bytes
returns-clause-bytes g c =
    let s = c.args.self.now in
    gives_front g.K.Foretold.told g.K.Foretold.left g.K.Foretold.last (reader_of s) (gave s) (bytes_not_given s) _ s.met s.count c.args.amount c.requires c.consume.ensures
