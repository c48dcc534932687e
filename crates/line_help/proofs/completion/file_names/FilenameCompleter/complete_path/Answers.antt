use Rattle.std.proofs.Common.{◌≡◌, ◌∙◌, List, Option, Some, sym, ap, rules}
use Rattle.std.specs.Prelude.{option_map}
use Rattle.std.proofs.lemmas.List.{map-id}
use Rattle.std.specs.Ordering.{is_lt}
use Rattle.std.proofs.lemmas.List.Sorted.{answers_always}
use Rattle.line_help.specs.Completion.{Offered, Completion}
use Rattle.line_help.specs.FileNames.{is_displayed_before, list_in_order_by}
use Rattle.line_help.proofs.FileNameLemmas.{display_order}
use Rattle.line_help.proofs.SortLemmas.{sorted_is}
use Rattle.line_help.proofs.completion.file_names.FilenameCompleter.complete_path.Goals as goal

pub returns-clause-reply : goal.returns-clause-reply
returns-clause-reply g c =
    let compares = answers_always _ (λ a r. is_lt r ≡ is_displayed_before a.0.now a.1.0.now) _ (λ f a r f' k. search rules) in
    let pairs = c.in_ok-start.pairs.items in
    let in_order = sorted_is is_displayed_before display_order pairs c.sort_by.new.self.items
    (c.in_ok-sort_by.ensures.sorted is_displayed_before display_order compares)
    (c.in_ok-sort_by.ensures.stable is_displayed_before display_order compares) in
    let Found : List Offered → Option Completion = λ offered. Some (record { start = c.in_ok-start.start; candidates = offered }) in
    record {
      answer = ap (option_map (λ (c : Completion). record c { candidates = list_in_order_by is_displayed_before c.candidates })) c.in_ok-start.ensures.answer ∙ ap Found (ap (list_in_order_by is_displayed_before) (map-id pairs) ∙ sym in_order ∙ sym (map-id c.sort_by.new.self.items));
      fault = tt;
    }

pub returns-clause-sorted : goal.returns-clause-sorted
returns-clause-sorted g c =
    c.in_ok-sort_by.ensures.sorted is_displayed_before display_order
    (answers_always _ (λ a r. is_lt r ≡ is_displayed_before a.0.now a.1.0.now) _ (λ f a r f' k. search rules))
