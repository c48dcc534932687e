use Rattle.std.proofs.Common.{refl, ◌∙◌}
use Rattle.line_buffer.proofs.CutLemmas.{start_replaced}
use Rattle.line_buffer.specs.Event.{InsertStr}
use Rattle.line_record.specs.Items.{record_on}
use Rattle.line_edits.proofs.StepLemmas.{unchanged_rewrites}
use Rattle.line_edits.proofs.WrittenLemmas.{recorded_one}
use Rattle.line_edits.proofs.inserting.text_told.Goals as goal

pub insert_str-requires-clause-cursor : goal.insert_str-requires-clause-cursor
insert_str-requires-clause-cursor c = rw c.pos-at.ensures.value (start_replaced _ _ _ _ c.as_str-text.ensures.utf8 c.utf8.text c.pos-at.ensures.boundary c.pos-at.ensures.boundary)

pub returns-clause-rewrites : goal.returns-clause-rewrites
returns-clause-rewrites c =
    let told = c.in_ok-insert_str.ensures.edits.told.on _ _ c.requires c.as_str-text.ensures.utf8 c.in_ok-insert_str.ensures.edits.replays in
    record {
      writes = record {
        answers = refl;
        line = rw c.pos-at.ensures.value at c.in_ok-insert_str.ensures.edits.line;
        held = rw c.pos-at.ensures.value at (told.held ∙ recorded_one (InsertStr c.pos-at.result c.args.text.now) c.args.line.now.text (record_on c.args.changes.now c.args.line.now.text));
        stand = told.stand;
      };
      left = tt;
    }

pub returns-in_err-insert_str-clause-rewrites : goal.returns-in_err-insert_str-clause-rewrites
returns-in_err-insert_str-clause-rewrites c =
    unchanged_rewrites (InsertStr c.args.line.now.place c.args.text.now) _ c.from_residual.result c.from_residual.ensures.1 tt c.as_str-text.ensures.utf8 c.requires
    (rw c.pos-at.ensures.value at c.in_err-insert_str.ensures.edits.refused) c.in_err-insert_str.ensures.edits.kept
