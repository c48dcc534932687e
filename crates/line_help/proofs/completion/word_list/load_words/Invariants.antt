use Rattle.std.proofs.Common.{◌≡◌, ◌≤◌, ◌++◌, IsTrue, map, false}
use Rattle.std.specs.Prelude.{string_bytes}
use Rattle.line_help.specs.HistoryText.{EndIsMet, entries_of, has_bad_row, rest_after_load, text_rows}
use Rattle.line_help.proofs.RowLemmas.{GoodUpTo}
use Rattle.line_help.proofs.completion.word_list.load_words.Given as goal

abbrev pub invariant-loop-rows : goal.invariant-loop-rows
invariant-loop-rows g l = record {
  told : IsTrue (g.S.Source.feed l.source).told → IsTrue (g.S.Source.feed l.fn.source).told;
  last : (g.S.Source.feed l.source).last ≡ (g.S.Source.feed l.fn.source).last;
  bound : (g.S.Source.feed l.source).bound ≤ (g.S.Source.feed l.fn.source).bound;
  ended : EndIsMet l.rows.ended (g.S.Source.feed l.source);
  good : IsTrue (g.S.Source.feed l.source).told → GoodUpTo (g.S.Source.feed l.fn.source).coming (g.S.Source.feed l.source).coming;
  words : IsTrue (g.S.Source.feed l.source).told
      → map string_bytes l.words.items ++ entries_of false (text_rows (g.S.Source.feed l.fn.source).last (g.S.Source.feed l.source).coming)
      ≡ entries_of false (text_rows (g.S.Source.feed l.fn.source).last (g.S.Source.feed l.fn.source).coming);
  bad : IsTrue (g.S.Source.feed l.source).told
      → has_bad_row (text_rows (g.S.Source.feed l.fn.source).last (g.S.Source.feed l.source).coming)
      ≡ has_bad_row (text_rows (g.S.Source.feed l.fn.source).last (g.S.Source.feed l.fn.source).coming);
  left : IsTrue (g.S.Source.feed l.source).told
      → rest_after_load (g.S.Source.feed l.fn.source).last (g.S.Source.feed l.source).coming
      ≡ rest_after_load (g.S.Source.feed l.fn.source).last (g.S.Source.feed l.fn.source).coming;
}

abbrev pub decreases-loop-rows : goal.decreases-loop-rows
decreases-loop-rows g l = (g.S.Source.feed l.source).bound
