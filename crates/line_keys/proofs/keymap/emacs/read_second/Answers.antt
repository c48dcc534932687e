use Rattle.std.proofs.Common.{◌≡◌}
use Rattle.std.specs.Prelude.{Err}
use Rattle.line_keys.specs.Emacs.{second_command}
use Rattle.line_keys.proofs.KeyReads.{made_of_read, not_made}
use Rattle.line_keys.proofs.Following.{raised}
use Rattle.line_keys.proofs.keymap.emacs.read_second.Goals as goal

pub returns-in_err-second : goal.returns-in_err-second
returns-in_err-second g c =
    let is : c.from_residual.result ≡ Err c.in_err-second.field-0.0 = raised _ _ c.from_residual.ensures.1 in
    record { reads = rw is (not_made _ _ _ _ c.in_err-second.ensures.reads); asks = c.in_err-second.ensures.asks }

pub returns-clause-reads : goal.returns-clause-reads
returns-clause-reads g c = rw c.second_command.ensures (made_of_read (second_command c.args.count.n c.args.count.positive) _ _ _ c.in_ok-second.ensures.reads)

pub returns-clause-asks : goal.returns-clause-asks
returns-clause-asks g c = c.in_ok-second.ensures.asks
