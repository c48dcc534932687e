use Rattle.std.proofs.Common.{◌≡◌}
use Rattle.std.specs.Prelude.{Err}
use Rattle.line_keys.specs.Emacs.{move_to_char}
use Rattle.line_keys.specs.Keys.{char_with, none}
use Rattle.line_keys.specs.ViMotions.{search_of}
use Rattle.line_keys.proofs.KeyReads.{made_of_read, not_made}
use Rattle.line_keys.proofs.Following.{raised}
use Rattle.line_keys.proofs.keymap.emacs.char_search.Goals as goal

pub returns-in_err-key : goal.returns-in_err-key
returns-in_err-key g c =
    let is : c.from_residual.result ≡ Err c.in_err-key.field-0.0 = raised _ _ c.from_residual.ensures.1 in
    record { reads = rw is (not_made _ _ _ _ c.in_err-key.ensures.reads); asks = c.in_err-key.ensures.asks }

pub returns : goal.returns
returns g c = record {
  reads = rw (c.searched.ensures, c.plain_char.ensures) (made_of_read (λ next. move_to_char c.args.n (search_of c.args.search) (char_with none next)) _ _ _ c.in_ok-key.ensures.reads);
  asks = c.in_ok-key.ensures.asks;
}
