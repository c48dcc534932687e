use Rattle.std.proofs.Common.{rules, sym, ap, ◌∙◌}
use Rattle.line_buffer.proofs.LeftLemmas.{edits_refused, stopped_first, stopped_for_memory}
use Rattle.std.proofs.lemmas.Bool.{cond-true}
use Rattle.line_buffer.proofs.TranspositionLemmas.{transposes, exchange_event}
use Rattle.line_buffer.specs.Transpositions.{later_first}
use Rattle.line_buffer.proofs.line_buffer.LineBuffer.transpose_chars.Goals as goal

pub returns-in_err-swapped-clause-edits : goal.returns-in_err-swapped-clause-edits
returns-in_err-swapped-clause-edits g c =
    edits_refused _ _ c.from_residual.ensures.1
    (stopped_for_memory _ _ _ _ _ _ _ _ (cond-true _ _ _ (transposes c.args.self.now _ c.pos.ensures.value c.if-pos-eq0.false c.if-not-has_two_clusters.ensures)) tt c.clusters_at_cursor-from.ensures.line)

pub returns-in_err-replace-clause-edits : goal.returns-in_err-replace-clause-edits
returns-in_err-replace-clause-edits g c =
    edits_refused _ _ c.from_residual-in_err-replace.ensures.1 (stopped_first _ _ _ _ _ _ _ _ _
    (exchange_event _ _ _ _ (transposes c.args.self.now _ c.pos.ensures.value c.if-pos-eq0.false c.if-not-has_two_clusters.ensures) c.clusters_at_cursor-from.ensures.value c.clusters_at_cursor-from.ensures.line
    (c.as_str-2.ensures.value ∙ c.in_ok-swapped.ensures ∙ ap (later_first c.clusters_at_cursor-from.result) c.as_str.ensures.value)) tt c.in_err-replace.ensures.refused (c.in_err-replace.ensures.kept ∙ c.clusters_at_cursor-from.ensures.line))

pub returns-clause-edits : goal.returns-clause-edits
returns-clause-edits g c = record {
  answer = sym (transposes c.args.self.now _ c.pos.ensures.value c.if-pos-eq0.false c.if-not-has_two_clusters.ensures);
  told = search rules;
  line = search rules;
  left = tt;
  settings = search rules;
}
