use Rattle.std.proofs.Common.{◌∙◌, Ok, sym, ap, le_trans, rules}
use Rattle.line_config.proofs.Taking.{on_err}
use Rattle.line_help.proofs.LoadLemmas.{left_more_text, load_steps, loads_behind_first, loads_none, memory_row}
use Rattle.line_help.proofs.RowLemmas.{none_read}
use Rattle.line_help.proofs.history.file_history.FileHistory.load_from.Goals as goal

pub returns-in_err-read : goal.returns-in_err-read
returns-in_err-read g c = record {
  answer = search rules;
  history = search rules;
  left = search rules;
  part = λ told. on_err c.from_residual.result (loads_none _ _ _ c.args.self.now (c.read.ensures.lost told));
  memory = search rules;
  fault = search rules;
  failure = search rules;
  told = c.read.ensures.told;
  last = c.read.ensures.last;
  keeps = c.read.ensures.keeps;
}

pub returns-in_err-escapes : goal.returns-in_err-escapes
returns-in_err-escapes g c =
    let onward = (g.S.Source.feed c.read.new.source).coming in
    record {
      answer = search (rules, load_steps);
      history = search (rules, load_steps);
      left = search rules;
      part = λ told.
          rw c.in_err-escapes.ensures.kept
          (on_err c.from_residual-in_err-escapes.result (loads_none _ _ _ c.args.self.now (c.read.ensures.lost told)));
      memory = λ told h.
          let utf8 = memory_row c.deref.result.now (search rules) in
          c.in_ok-read.ensures.good told (ap (λ b. Ok b) c.if-not-branch.false) (rw c.deref.ensures.value at utf8) onward (none_read onward);
      fault = search rules;
      failure = search rules;
      told = c.read.ensures.told;
      last = c.read.ensures.last;
      keeps = c.read.ensures.keeps;
    }

pub returns-in_err-whole : goal.returns-in_err-whole
returns-in_err-whole g c =
    let last = (g.S.Source.feed c.args.source.now).last in
    let text = (g.S.Source.feed c.args.source.now).coming in
    let onward = (g.S.Source.feed c.read.new.source).coming in
    let row = c.deref.result.now in
    let utf8 = c.in_ok-escapes.ensures.text in
    record {
      answer = search (rules, load_steps);
      history = search (rules, load_steps);
      left = λ told f.
          let before = c.load_rows.ensures.told told in
          let r = rw (c.if-not-branch.false, ← c.deref.ensures.value) at c.in_ok-read.ensures.row before in
          let is = c.in_ok-read.ensures.behind before (ap (λ b. Ok b) c.if-not-branch.false) in
          (rw c.in_ok-read.ensures.last at c.in_err-whole.ensures.left told (search rules)) ∙ sym (left_more_text last text onward row utf8 r is);
      part = λ told.
          let before = c.load_rows.ensures.told told in
          let r = rw (c.if-not-branch.false, ← c.deref.ensures.value) at c.in_ok-read.ensures.row before in
          let is = c.in_ok-read.ensures.behind before (ap (λ b. Ok b) c.if-not-branch.false) in
          let part = rw c.in_ok-read.ensures.last at c.in_err-whole.ensures.part told in
          on_err c.from_residual-in_err-whole.result
          (loads_behind_first last text onward _ row c.args.self.now c.add_first.new.self c.load_rows.new.self c.in_ok-escapes.escapes utf8 c.in_ok-escapes.ensures.answer r is c.in_ok-escapes.ensures.added part);
      memory = λ told h.
          let before = c.load_rows.ensures.told told in
          c.in_ok-read.ensures.good before (ap (λ b. Ok b) c.if-not-branch.false) (rw c.deref.ensures.value at utf8) _ (c.in_err-whole.ensures.memory told (search rules));
      fault = search rules;
      failure = search rules;
      told = λ told. c.read.ensures.told (c.load_rows.ensures.told told);
      last = c.load_rows.ensures.last ∙ c.read.ensures.last;
      keeps = le_trans c.load_rows.ensures.keeps c.read.ensures.keeps;
    }
