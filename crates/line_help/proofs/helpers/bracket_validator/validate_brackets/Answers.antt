use Rattle.std.proofs.Common.{rules}
use Rattle.line_help.proofs.ValidationLemmas.{not_closed_found, unpaired_found, wants_for, opening_stands, closing_stands}
use Rattle.line_help.proofs.helpers.bracket_validator.validate_brackets.Goals as goal

pub returns-then-partner-byte-clause-verdict : goal.returns-then-partner-byte-clause-verdict
returns-then-partner-byte-clause-verdict c =
    not_closed_found _ _ c.loop-place.unclosed.items c.pop.new.self.items _ c.in-Some.bracket _ _ c.as_bytes-bytes.ensures.value c.loop-place.invariant.so_far c.loop-place-test.true c.in-Some.ensures.items
    c.if-is_opening.ensures c.if-is_closing.ensures c.partner.ensures c.if-partner-byte.true c.in_ok-message-in-Some.ensures

pub returns-in-None-clause-verdict : goal.returns-in-None-clause-verdict
returns-in-None-clause-verdict c =
    unpaired_found _ _ c.loop-place.unclosed.items _ _ c.as_bytes-bytes.ensures.value c.loop-place.invariant.so_far c.loop-place-test.true (search (rules, c.in-None.ensures.cases))
    c.if-is_opening.ensures c.if-is_closing.ensures c.in_ok-message-in-None.ensures

pub returns-in_err-push-clause-fault : goal.returns-in_err-push-clause-fault
returns-in_err-push-clause-fault c = wants_for _ c.from_residual.ensures.1 (opening_stands _ _ _ c.as_bytes-bytes.ensures.value c.loop-place-test.true c.if-is_opening.ensures)

pub returns-in_err-message-in-Some-clause-fault : goal.returns-in_err-message-in-Some-clause-fault
returns-in_err-message-in-Some-clause-fault c =
    wants_for _ c.from_residual-in_err-message-in-Some.ensures.1 (closing_stands _ _ _ c.as_bytes-bytes.ensures.value c.loop-place-test.true c.if-is_opening.ensures c.if-is_closing.ensures)

pub returns-in_err-message-in-None-clause-fault : goal.returns-in_err-message-in-None-clause-fault
returns-in_err-message-in-None-clause-fault c =
    wants_for _ c.from_residual-in_err-message-in-None.ensures.1 (closing_stands _ _ _ c.as_bytes-bytes.ensures.value c.loop-place-test.true c.if-is_opening.ensures c.if-is_closing.ensures)
