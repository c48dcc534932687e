-- The header, and then the rows.
use Rattle.std.proofs.Common.{◌≡◌, ◌==◌, ◌∷◌, Bool, [], sym, true, false, rules, subst}
use Rattle.std.specs.Prelude.{if◌then◌else◌}
use Rattle.line_config.specs.Sending.{Sends}
use Rattle.line_config.proofs.Taking.{sends_then, sends_cut, sends_refused}
use Rattle.line_help.specs.HistoryText.{rows_text, saved_text}
use Rattle.line_help.proofs.history.file_history.FileHistory.save_to.Goals as goal

pub returns-in_err-put-clause-saves : goal.returns-in_err-put-clause-saves
returns-in_err-put-clause-saves g c =
    let held = g.S.Sink.held in
    let failed = g.S.Sink.has_failed in
    let entries = c.args.self.now.kept.entries in
    let is_new : (c.args.self.now.unsaved == 0) ≡ false = search rules in
    let Saved : Bool → Type 0 = λ none. Sends held failed (if none then [] else saved_text entries) c.args.sink.now c.put.new.sink c.from_residual.result in
    record {
      nothing = λ none. absurd (let k : true ≡ false = rw none at is_new in cc);
      sends = subst Saved (sym is_new)
          (sends_cut held failed _ (35 ∷ 86 ∷ 50 ∷ 10 ∷ []) (rows_text entries) c.from_residual.ensures.1 c.in_err-put.ensures.sends.err c.in_err-put.ensures.sends.begins);
      saved = search rules;
      kept = search rules;
      fault = search rules;
    }

pub returns-in_err-write_rows-clause-saves : goal.returns-in_err-write_rows-clause-saves
returns-in_err-write_rows-clause-saves g c =
    let held = g.S.Sink.held in
    let failed = g.S.Sink.has_failed in
    let entries = c.args.self.now.kept.entries in
    let is_new : (c.args.self.now.unsaved == 0) ≡ false = search rules in
    let Saved : Bool → Type 0 = λ none. Sends held failed (if none then [] else saved_text entries) c.args.sink.now c.write_rows.new.sink c.from_residual-in_err-write_rows.result in
    record {
      nothing = λ none. absurd (let k : true ≡ false = rw none at is_new in cc);
      sends = subst Saved (sym is_new)
          (sends_then held failed (35 ∷ 86 ∷ 50 ∷ 10 ∷ []) (rows_text entries) c.in_ok-put.ensures.sends.sent c.in_ok-put.ensures.sends.works
          (sends_refused held failed _ (rows_text entries) c.from_residual-in_err-write_rows.ensures.1 c.in_err-write_rows.ensures.sends.sends.err c.in_err-write_rows.ensures.sends.sends.begins));
      saved = search rules;
      kept = search rules;
      fault = search rules;
    }
