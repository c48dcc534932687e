use Rattle.std.proofs.Common.{refl, ◌∙◌, encode_utf8}
use Rattle.line_buffer.specs.Event.{replacement}
use Rattle.line_record.specs.Items.{record_on}
use Rattle.line_edits.proofs.StepLemmas.{unchanged_rewrites}
use Rattle.line_edits.proofs.WrittenLemmas.{recorded_one}
use Rattle.line_edits.proofs.replace_chars.put_over.Goals as goal

pub returns-clause-rewrites : goal.returns-clause-rewrites
returns-clause-rewrites c =
    let told = c.in_ok-replace.ensures.told.on _ _ c.requires.stand c.as_str-text.ensures.utf8 c.in_ok-replace.ensures.replays in
    record {
      writes = record {
        answers = refl;
        line = rw c.encode_utf8.ensures.value at (rw c.pos-at.ensures.value at c.in_ok-replace.ensures.line);
        held = rw c.encode_utf8.ensures.value at (rw c.pos-at.ensures.value at (told.held
            ∙ recorded_one (replacement c.pos-at.result c.args.end c.encode_utf8.result.now c.args.line.now.text) c.args.line.now.text (record_on c.args.changes.now c.args.line.now.text)));
        stand = told.stand;
      };
      left = tt;
    }

pub returns-in_err-replace-clause-rewrites : goal.returns-in_err-replace-clause-rewrites
returns-in_err-replace-clause-rewrites c =
    unchanged_rewrites (replacement c.args.line.now.place c.args.end (encode_utf8 c.args.ch) c.args.line.now.text) _ c.from_residual.result c.from_residual.ensures.1 tt c.as_str-text.ensures.utf8 c.requires.stand
    (rw c.encode_utf8.ensures.value at (rw c.pos-at.ensures.value at c.in_err-replace.ensures.refused)) c.in_err-replace.ensures.kept
