use Rattle.std.proofs.Common.{◌≡◌, ◌-◌, ◌+◌, Some, None, lit<, sym, ap, ◌∙◌, arith}
use Rattle.std.proofs.lemmas.Str.Pattern.{find_char}
use Rattle.line_buffer.proofs.RowWalkLemmas.{walks_down_init, walks_down_turn}
use Rattle.line_buffer.proofs.rows.nth_start_below.Goals as goal
use Rattle.line_buffer.proofs.ChainLemmas.{search_ended, search_spent}
use Rattle.line_buffer.proofs.RowStartLemmas.{behind_none}
use Rattle.line_buffer.specs.Rows.{behind_newlines}

pub loop-init : goal.loop-init
loop-init c = let all : c.args.n - 0 ≡ c.args.n = omega arith in walks_down_init c.args.text.now c.args.n _ all c.utf8.text

pub range_from-requires : goal.range_from-requires
range_from-requires c = λ _. c.loop.invariant.here

pub loop-preserved : goal.loop-preserved
loop-preserved c =
    let one : c.args.n - c.loop.counter ≡ (c.args.n - (c.loop.counter + 1)) + 1 = omega arith in
    walks_down_turn _ _ _ _ _ _ c.range_from.result.now _ c.loop.invariant c.utf8.text one c.range_from.ensures.value (find_char 10 _ (Some _) c.in-Some.ensures.cases (lit< tt))

pub returns-after-loop-clause-value : goal.returns-after-loop-clause-value
returns-after-loop-clause-value c =
    let spent : c.args.n - c.loop.counter ≡ 0 = omega arith in
    search_spent _ _ _ _ c.loop.invariant.answer spent

pub returns-in-None-clause-value : goal.returns-in-None-clause-value
returns-in-None-clause-value c =
    search_ended _ _ _ _ c.loop.invariant.answer
    (ap (behind_newlines c.loop.start) (sym c.range_from.ensures.value)
    ∙ behind_none c.loop.start c.range_from.result.now (find_char 10 _ None c.in-None.ensures.cases (lit< tt)))
