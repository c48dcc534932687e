-- A phrase played to its end, which only the input can fail, for worked rows: its answer, what is kept,
-- what was asked of the display in order, and the remaining input.
use Rattle.std.specs.Prelude.{List, [], ◌∷◌, Result, Ok, Err}
use Rattle.line_config.specs.declared.errors.ReadlineError.{ReadlineError}
use Rattle.script.specs.Played.{Played as PlayedBy, play_of as played_by}
use Rattle.line_keys.specs.KeyFeeds.{item_at, behind, Coming}
use Rattle.line_keys.specs.InputStates.{Stage, stage}
use Rattle.line_keys.specs.PhraseScripts.{Input, KeyAsk, Answer, KeyScript, Needs, Shows, Reads, Becomes, Refuses}
use Rattle.line_keys.specs.Refreshing.{Shown, Ask}

pub record Played (X : Type 0) : Type 0 where
  pub answer : Result X ReadlineError
  pub input : Input
  pub asks : List Ask
  pub rest : Coming

-- nothing changes what is shown
abbrev answer_of : Stage Shown → (ask : KeyAsk) → Result (Answer ask) ReadlineError
answer_of s Needs = Ok tt
answer_of s (Shows ask) = Ok s.wrt
answer_of s (Reads item) = item_at item s.coming
answer_of s (Becomes input) = Ok tt
answer_of s (Refuses why) = Err why

abbrev left_of : Stage Shown → KeyAsk → Stage Shown
left_of s (Reads item) = record s { coming = behind item s.coming }
left_of s (Becomes input) = record s { input = input }
left_of s ask = s

abbrev pub played_all : {X : Type 0} → Shown → Input → Coming → KeyScript X → PlayedBy KeyAsk (Stage Shown) ReadlineError X
played_all shown input c steps = played_by (record { answer = answer_of; left = left_of }) steps (stage shown input c)

abbrev shown_asks : List KeyAsk → List Ask
shown_asks [] = []
shown_asks (Shows ask ∷ asks) = ask ∷ shown_asks asks
shown_asks (ask ∷ asks) = shown_asks asks

abbrev pub played : {X : Type 0} → Shown → Input → Coming → KeyScript X → Played X
played shown input c steps =
    let p = played_all shown input c steps in
    record { answer = p.answer; input = p.rest.input; asks = shown_asks p.asks; rest = p.rest.coming }
