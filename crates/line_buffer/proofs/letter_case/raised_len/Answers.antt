use Rattle.std.proofs.Common.{ap, sym, ◌∙◌, ◌+◌, length, option_map, unwrap_or}
use Rattle.std.proofs.lemmas.Str.{IsCharBoundary-start}
use Rattle.line_buffer.specs.Clusters.{clusters}
use Rattle.line_buffer.specs.LetterCase.{uppercase_len}
use Rattle.line_buffer.proofs.ChainLemmas.{nth_or_last-map}
use Rattle.line_buffer.proofs.letter_case.raised_len.Goals as goal

pub returns-in-Some-clause-value : goal.returns-in-Some-clause-value
returns-in-Some-clause-value c =
    ap (λ o. unwrap_or (option_map (λ x. x.0 + length x.1) o) 0) c.in-Some.ensures.value
    ∙ ap (λ o. unwrap_or o 0) (sym (nth_or_last-map (λ x. x.0 + length x.1) 1 (clusters c.args.word.now)))
    ∙ ap (λ a. uppercase_len a c.args.word.now) (sym c.in-Capitalize.is)

pub returns-in-None-clause-value : goal.returns-in-None-clause-value
returns-in-None-clause-value c =
    ap (λ o. unwrap_or (option_map (λ x. x.0 + length x.1) o) 0) c.in-None.ensures.value
    ∙ ap (λ o. unwrap_or o 0) (sym (nth_or_last-map (λ x. x.0 + length x.1) 1 (clusters c.args.word.now)))
    ∙ ap (λ a. uppercase_len a c.args.word.now) (sym c.in-Capitalize.is)

pub returns-in-None-clause-boundary : goal.returns-in-None-clause-boundary
returns-in-None-clause-boundary c = IsCharBoundary-start _ c.utf8.word

pub returns-in-Lowercase-clause-boundary : goal.returns-in-Lowercase-clause-boundary
returns-in-Lowercase-clause-boundary c = IsCharBoundary-start _ c.utf8.word
