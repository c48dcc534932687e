use Rattle.std.proofs.Common.{◌≡◌, Err, length, vec_len, rules}
use Rattle.line_config.specs.declared.errors.ReadlineError.TheVariants.{Memory, Reader}
use Rattle.line_help.proofs.RowLemmas.{no_piece, row_cut, row_ends, row_goes_on, row_unkept, text_ends}
use Rattle.line_help.proofs.history.rows.RowReader.read.Goals as goal

pub loop-byte-preserved : goal.loop-byte-preserved
loop-byte-preserved g c = record {
  so =
      row_goes_on _ _ _ _ c.loop-byte.invariant.so _ c.if-byte-eq10.false (rw c.in-Some.is at c.in_ok-byte.ensures) _ _
      (rw c.in_ok-push.ensures.items at c.in_ok-take_piece.ensures);
  unmet = search rules;
}

pub returns-in_err-byte : goal.returns-in_err-byte
returns-in_err-byte g c =
    let is : c.from_residual.result ≡ Err Reader = search rules in
    rw is (row_cut _ _ _ _ c.loop-byte.invariant.so _ _ c.loop-byte.invariant.unmet c.in_err-byte.ensures)

pub returns-then-byte-eq10 : goal.returns-then-byte-eq10
returns-then-byte-eq10 g c =
    row_ends _ _ _ _ c.loop-byte.invariant.so _ _ c.loop-byte.invariant.unmet c.drop_return.ensures (rw (c.in-Some.is, c.if-byte-eq10.true) at c.in_ok-byte.ensures)

pub returns-in_err-push : goal.returns-in_err-push
returns-in_err-push g c =
    let is : c.from_residual-in_err-push.result ≡ Err Memory = search rules in
    rw is
    (row_unkept _ _ _ _ c.loop-byte.invariant.so _ c.if-byte-eq10.false (rw c.in-Some.is at c.in_ok-byte.ensures) _ _ (no_piece _ _) _ _ c.loop-byte.invariant.unmet)

pub returns-in_err-take_piece : goal.returns-in_err-take_piece
returns-in_err-take_piece g c =
    let is : c.from_residual-in_err-take_piece.result ≡ Err Memory = search rules in
    rw is
    (row_unkept _ _ _ _ c.loop-byte.invariant.so _ c.if-byte-eq10.false (rw c.in-Some.is at c.in_ok-byte.ensures) _ _
    (rw c.in_ok-push.ensures.items at c.take_piece.ensures) _ _ c.loop-byte.invariant.unmet)

pub returns : goal.returns
returns g c =
    let v : vec_len c.loop-byte.self.row ≡ length c.loop-byte.self.row.items = search rules in
    text_ends _ _ _ _ c.loop-byte.invariant.so c.is_empty.result (rw v at c.is_empty.ensures) (rw c.in_default.is at c.in_ok-byte.ensures)
