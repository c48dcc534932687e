use Rattle.keyline_files.proofs.CallLemmas.{cut_back_after, on_err, on_err_map, quietly_then}
use Rattle.std.proofs.Common.{inl}
use Rattle.keyline_files.proofs.append.append_row.Goals as goal

pub returns-in_err-seen-clause-refused : goal.returns-in_err-seen-clause-refused
returns-in_err-seen-clause-refused g c =
    on_err c.from_residual-in_err-seen.result (inl (quietly_then c.lock_named.ensures.quiet c.look.ensures.quiet))

pub returns-in-Err-clause-refused : goal.returns-in-Err-clause-refused
returns-in-Err-clause-refused g c = inl (quietly_then c.lock_named.ensures.quiet c.look.ensures.quiet)

pub returns-clause-refused : goal.returns-clause-refused
returns-clause-refused g c =
    on_err_map c.write_whole.result
    (cut_back_after (quietly_then c.lock_named.ensures.quiet c.look.ensures.quiet)) c.write_whole.ensures.refused
