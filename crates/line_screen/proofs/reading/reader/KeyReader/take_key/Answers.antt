use Rattle.std.proofs.Common.{rules, refl, ap}
use Rattle.line_keys.specs.KeyFeeds.InputItem.{Key as KeyItem}
use Rattle.line_screen.specs.Reading.{feed_with_ahead}
use Rattle.line_screen.proofs.ItemReads.{out_of_place, stops_call, key_fault}
use Rattle.line_screen.proofs.Outcomes.{key_refusal}
use Rattle.line_screen.proofs.reading.reader.KeyReader.take_key.Goals as goal

pub returns-then-self : goal.returns-then-self
returns-then-self g c =
    let feed = g.S.Source.feed in
    let old = c.args.self.now in
    let new = c.refuse.new.self in
    rw c.refuse.ensures.why
    (record {
      reads = out_of_place KeyItem (feed_with_ahead feed old.bytes) (feed_with_ahead feed new.bytes) old.mode new.mode old.announced new.announced old.refused new.refused
          (search rules) (search rules) (search rules) (ap (feed_with_ahead feed) c.refuse.ensures.bytes) c.refuse.ensures.mode c.refuse.ensures.announced
          c.refuse.ensures.refused;
      kept = search rules;
      memory = search rules;
    })

pub returns-in-Err : goal.returns-in-Err
returns-in-Err g c =
    let feed = g.S.Source.feed in
    let old = c.args.self.now in
    let new = c.refuse-in-Err.new.self in
    rw c.refuse-in-Err.ensures.why
    (record {
      reads = stops_call KeyItem feed _ c.key.new.self c.in-Err.why (feed_with_ahead feed old.bytes) (feed_with_ahead feed new.bytes) old.mode new.mode old.announced new.announced old.refused new.refused
          c.in-Err.ensures.reads (key_refusal _ c.in-Err.ensures.reads.refused) (key_fault _ c.in-Err.ensures.reads.refused) (search rules) (search rules) (search rules) refl refl
          (ap (feed_with_ahead feed) c.refuse-in-Err.ensures.bytes) c.refuse-in-Err.ensures.announced c.refuse-in-Err.ensures.refused;
      kept = search rules;
      memory = search rules;
    })
