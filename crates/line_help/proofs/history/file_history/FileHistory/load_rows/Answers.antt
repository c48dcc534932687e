use Rattle.std.proofs.Common.{◌≡◌, ◌≢◌, ◌∙◌, ◌≤◌, ℕ, List, Ok, Err, ap, arith, le_trans, take, rules, IsTrue}
use Rattle.line_config.specs.Feed.{Feed, GivesBytes}
use Rattle.line_config.proofs.Taking.{on_err}
use Rattle.line_config.specs.declared.errors.ReadlineError.TheVariants.{Memory}
use Rattle.line_help.proofs.LoadLemmas.{EndsLoad, bad_row_ends, loads_some, memory_row, one_row_on, row_fault}
use Rattle.line_help.proofs.RowLemmas.{StandsWhole, none_read, stands_whole, still_met}
use Rattle.line_help.proofs.history.file_history.FileHistory.load_rows.Goals as goal

less_given : (old new : Feed) (bytes : List ℕ) → GivesBytes old new bytes → new.bound ≤ old.bound
less_given old new bytes given = omega arith

-- a row that stands whole in what the source has
pub loop-ready-preserved-then-count-ready : goal.loop-ready-preserved-then-count-ready
loop-ready-preserved-then-count-ready g c =
    let last = (g.S.Source.feed c.args.source.now).last in
    let text = (g.S.Source.feed c.args.source.now).coming in
    let here = (g.S.Source.feed c.loop-ready.source).coming in
    let onward = (g.S.Source.feed c.consume.new.self).coming in
    let i = c.loop-ready.invariant in
    record {
      told = λ told. i.told (c.consume.ensures.gives told).0;
      last = c.consume.ensures.last ∙ i.last;
      bound = le_trans (less_given _ _ _ c.consume.ensures) i.bound;
      ended = still_met c.loop-ready.rows.ended _ _ _ i.ended c.consume.ensures;
      works = c.consume.ensures.failed ∙ i.works;
      under = λ told.
          let given = c.consume.ensures.gives told in
          let w = stands_whole c.buffer-ready.result.now here onward _ c.row_len-count.result c.row_len-count.ensures c.if-count-ready.true
          (rw (← c.buffer-ready.ensures) at given.1) c.row_end.ensures.value in
          let utf8 = c.in_ok-taken.ensures.text in
          one_row_on c.args.escapes c.loop-ready.whole c.in_ok-taken.taken last text here onward _ c.args.self.now c.loop-ready.self c.add_row-lent.new.self utf8 (w.rows last) w.behind (w.good utf8)
          c.in_ok-taken.ensures.added c.in_ok-taken.ensures.answer (i.under given.0);
    }

-- one that was read
pub loop-ready-preserved : goal.loop-ready-preserved
loop-ready-preserved g c =
    let last = (g.S.Source.feed c.args.source.now).last in
    let text = (g.S.Source.feed c.args.source.now).coming in
    let here = (g.S.Source.feed c.loop-ready.source).coming in
    let onward = (g.S.Source.feed c.read.new.source).coming in
    let i = c.loop-ready.invariant in
    record {
      told = λ told. i.told (c.read.ensures.told told);
      last = c.read.ensures.last ∙ i.last;
      bound = le_trans c.read.ensures.keeps i.bound;
      ended = c.read.ensures.ended;
      works = c.in_ok-read.ensures.failure;
      under = λ told.
          let utf8 = c.in_ok-added.ensures.text in
          let r = rw (c.if-not-branch.false, i.last, ← c.deref.ensures.value) at c.in_ok-read.ensures.row told in
          let is = c.in_ok-read.ensures.behind told (ap (λ b. Ok b) c.if-not-branch.false) in
          let good = c.in_ok-read.ensures.good told (ap (λ b. Ok b) c.if-not-branch.false) (rw c.deref.ensures.value at utf8) in
          one_row_on c.args.escapes c.loop-ready.whole c.in_ok-added.added last text here onward c.deref.result.now c.args.self.now c.loop-ready.self c.add_row.new.self utf8 r is good
          c.in_ok-added.ensures.added c.in_ok-added.ensures.answer (i.under (c.read.ensures.told told));
    }

pub returns-in_err-taken : goal.returns-in_err-taken
returns-in_err-taken g c =
    let last = (g.S.Source.feed c.args.source.now).last in
    let text = (g.S.Source.feed c.args.source.now).coming in
    let here = (g.S.Source.feed c.loop-ready.source).coming in
    let onward = (g.S.Source.feed c.consume.new.self).coming in
    let i = c.loop-ready.invariant in
    let row = take c.row_end.result (take c.row_len-count.result c.buffer-ready.result.now) in
    let whole : IsTrue (g.S.Source.feed c.consume.new.self).told → StandsWhole here onward row = λ told.
    stands_whole c.buffer-ready.result.now here onward row c.row_len-count.result c.row_len-count.ensures c.if-count-ready.true
    (rw (← c.buffer-ready.ensures) at (c.consume.ensures.gives told).1) c.row_end.ensures.value in
    let fault : c.from_residual.result ≡ Err (row_fault row) = search rules in
    let ends : IsTrue (g.S.Source.feed c.consume.new.self).told → c.from_residual.result ≢ Err Memory → EndsLoad c.args.escapes last text onward c.args.self.now c.loop-ready.self c.from_residual.result =
    λ told f.
    bad_row_ends c.args.escapes c.loop-ready.whole last text here onward row c.args.self.now c.loop-ready.self c.from_residual.result ((whole told).rows last) (whole told).behind fault f
    (i.under (c.consume.ensures.gives told).0) in
    record {
      answer = λ told f. (ends told f).answer;
      history = λ told f. c.in_err-taken.ensures.kept ∙ (ends told f).history;
      left = λ told f. (ends told f).left;
      part = λ told.
          rw c.in_err-taken.ensures.kept
          (on_err c.from_residual.result (loads_some c.args.escapes _ _ _ _ c.args.self.now c.loop-ready.self (i.under (c.consume.ensures.gives told).0).part (whole told).lost));
      memory = λ told h. (i.under (c.consume.ensures.gives told).0).good onward ((whole told).good (memory_row row (search rules)) onward (none_read onward));
      fault = search rules;
      failure = search rules;
      told = λ told. i.told (c.consume.ensures.gives told).0;
      last = c.consume.ensures.last ∙ i.last;
      keeps = le_trans (less_given _ _ _ c.consume.ensures) i.bound;
    }

pub returns-in_err-read : goal.returns-in_err-read
returns-in_err-read g c = record {
  answer = search rules;
  history = search rules;
  left = search rules;
  part = λ told.
      on_err c.from_residual-in_err-read.result
      (loads_some c.args.escapes _ _ _ _ c.args.self.now c.loop-ready.self (c.loop-ready.invariant.under (c.read.ensures.told told)).part (c.read.ensures.lost told));
  memory = λ told h.
      (c.loop-ready.invariant.under (c.read.ensures.told told)).good (g.S.Source.feed c.read.new.source).coming (c.in_err-read.ensures.memory told (search rules));
  fault = search rules;
  failure = search rules;
  told = λ told. c.loop-ready.invariant.told (c.read.ensures.told told);
  last = c.read.ensures.last ∙ c.loop-ready.invariant.last;
  keeps = le_trans c.read.ensures.keeps c.loop-ready.invariant.bound;
}

pub returns-in_err-added : goal.returns-in_err-added
returns-in_err-added g c = record {
  answer = search rules;
  history = search rules;
  left = search rules;
  part = λ told.
      rw c.in_err-added.ensures.kept
      (on_err c.from_residual-in_err-added.result
      (loads_some c.args.escapes _ _ _ _ c.args.self.now c.loop-ready.self (c.loop-ready.invariant.under (c.read.ensures.told told)).part (c.read.ensures.lost told)));
  memory = λ told h.
      let utf8 = memory_row c.deref.result.now (search rules) in
      let coming = (g.S.Source.feed c.read.new.source).coming in
      (c.loop-ready.invariant.under (c.read.ensures.told told)).good coming
      (c.in_ok-read.ensures.good told (ap (λ b. Ok b) c.if-not-branch.false) (rw c.deref.ensures.value at utf8) coming (none_read coming));
  fault = search rules;
  failure = search rules;
  told = λ told. c.loop-ready.invariant.told (c.read.ensures.told told);
  last = c.read.ensures.last ∙ c.loop-ready.invariant.last;
  keeps = le_trans c.read.ensures.keeps c.loop-ready.invariant.bound;
}
