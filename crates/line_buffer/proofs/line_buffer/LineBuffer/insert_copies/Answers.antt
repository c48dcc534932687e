use Rattle.std.proofs.Common.{refl, []}
use Rattle.std.specs.List.{repeat}
use Rattle.line_buffer.specs.Event.{InsertStr}
use Rattle.line_buffer.proofs.InsertionLemmas.{told_where_room}
use Rattle.line_buffer.proofs.LeftLemmas.{stopped_for_memory}
use Rattle.line_buffer.proofs.line_buffer.LineBuffer.insert_copies.Goals as goal

pub returns-in_default : goal.returns-in_default
returns-in_default g c =
    let added = repeat c.args.n c.args.text.now in let told = InsertStr c.args.self.now.place added in
    record {
      answer = tt;
      told = tt;
      line = tt;
      left = stopped_for_memory _ _ _ [] told _ _ _ (told_where_room told added c.args.self.now c.if-not-has_room_for.ensures) tt refl;
      settings = record { growth = refl; limit = refl };
    }
