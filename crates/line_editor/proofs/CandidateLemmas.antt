-- What the helper's candidates make of a state.
use Rattle.std.specs.Prelude.{get_or, Option, None, Some, option_map, option_and_then, slice_get, Result, Ok, Err, IsErrAnd, IsFalse, IfOk, OnOk}
use Rattle.std.proofs.Common.{◌≡◌, ℕ, ◌+◌, ◌<◌, ◌≤◌, ◌==◌, arith, Bool, true, false, if◌then◌else◌, List, [], ◌∷◌, ◌++◌, map, take, length, refl, sym, ap, ◌∙◌, subst}
use Rattle.std.proofs.lemmas.Bool.{cond-true, cond-false}
use Rattle.std.proofs.lemmas.Bool.Decides.{nat_tests}
use Rattle.std.proofs.lemmas.Option.{slice_get-map, slice_get_read, slice_get_past}
use Rattle.std.proofs.lemmas.List.{append_assoc, map_more, flat_map_more}
use Rattle.line_config.specs.declared.errors.ReadlineError.{ReadlineError}
use Rattle.line_buffer.specs.Line.{Line}
use Rattle.line_help.specs.Completion.{Offered, Completion, unless_empty}
use Rattle.line_help.specs.declared.completion as completions
use Rattle.line_help.specs.declared.helpers.hint as hints
use Rattle.line_help.specs.declared.helpers.highlight as highlights
use Rattle.line_help.specs.declared.helpers.validate as verdicts
use Rattle.line_help.specs.declared.history as histories
use Rattle.line_keys.specs.declared.command.Cmd.{Cmd}
use Rattle.line_keys.specs.declared.command.CmdKind.TheVariants.{Other}
use Rattle.line_editor.specs.Candidates.{rows_of, list_text, list_shown, candidate_at}
use Rattle.line_editor.specs.Completing.{begins_word, completion_from, candidates_given, candidates_asked}
use Rattle.line_editor.specs.Drawing.{message_effect}
use Rattle.line_editor.specs.ModalCommands.{then_meets}
use Rattle.line_editor.specs.Modal.{Modal, Meeting, next_of}
use Rattle.line_editor.specs.States.{value_of, setting_of, fails_by, Does, Meets}
use Rattle.line_editor.specs.Values.{Value, Setting, Transition, then_do, completion_reply}
use Rattle.line_editor.specs.declared.modal_state.Next.{Next}
use Rattle.line_editor.specs.declared.renderer as renderers
use Rattle.line_editor.specs.declared.state.State.{State}
use Rattle.line_editor.proofs.CompleteLemmas.{asked_made, asked_refused}
use Rattle.line_editor.proofs.DoesLemmas.{does_as, does_both, does_cut_by, setting_stays}
use Rattle.line_editor.proofs.MeetLemmas.{taken_then}
use Rattle.line_editor.proofs.StopsLemmas.{IsHelpFault}

-- a row more of a list
pub row_more : {C : Type 0} (offers : C → Offered) (first before after : List ℕ) (all : List C) (i : ℕ) (c : C) → i < length all → c ≡ get_or all i c
    → before ≡ first ++ rows_of (map offers (take i all)) → after ≡ (before ++ 10 ∷ []) ++ (offers c).display → after ≡ first ++ rows_of (map offers (take (i + 1) all))
row_more offers first before after all i c inside is so more =
    let row = λ (o : Offered). 10 ∷ o.display in
    let one : after ≡ before ++ row (offers c) = more ∙ append_assoc before (10 ∷ []) (offers c).display in
    let whole : map offers (take (i + 1) all) ≡ map offers (take i all) ++ offers c ∷ [] = map_more offers all i c inside ∙ ap (λ x. map offers (take i all) ++ offers x ∷ []) (sym is) in
    one ∙ ap (λ t. t ++ row (offers c)) so ∙ flat_map_more row first (map offers (take i all)) (offers c) ∙ ap (λ xs. first ++ rows_of xs) (sym whole)

-- ---- the candidate at an index

pub offered_at : {C : Type 0} (offers : C → Offered) (all : List C) (i : ℕ) (c : C) → i < length all → c ≡ get_or all i c → slice_get (map offers all) i ≡ Some (offers c)
offered_at offers all i c inside is = slice_get-map offers all i ∙ ap (option_map offers) (slice_get_read all (length all) i c refl inside is)

pub none_offered : {C : Type 0} (offers : C → Offered) (all : List C) (i : ℕ) → length all ≤ i → slice_get (map offers all) i ≡ None
none_offered offers all i past = slice_get-map offers all i ∙ ap (option_map offers) (slice_get_past all i past)

-- there is no word for it
pub put_nowhere : {C : Type 0} (offers : C → Offered) (all : List C) (i start : ℕ) (l : Line) (b : Bool) → b ≡ begins_word start l → b ≡ false → candidate_at i (completion_from offers start all) l ≡ None
put_nowhere offers all i start l b is apart = cond-false (begins_word start l) (option_and_then (λ (p : Offered). unless_empty p.replacement) (slice_get (map offers all) i)) None (sym is ∙ apart)

-- there is one
pub put_there : {C : Type 0} (offers : C → Offered) (all : List C) (i start : ℕ) (l : Line) (b : Bool) (o : Option Offered) → b ≡ begins_word start l → b ≡ true → slice_get (map offers all) i ≡ o
    → candidate_at i (completion_from offers start all) l ≡ option_and_then (λ (p : Offered). unless_empty p.replacement) o
put_there offers all i start l b o is begins found = cond-true (begins_word start l) (option_and_then (λ (p : Offered). unless_empty p.replacement) (slice_get (map offers all) i)) None (sym is ∙ begins) ∙ ap (option_and_then (λ (p : Offered). unless_empty p.replacement)) found

abbrev text_by : List ℕ → Bool → Option (List ℕ)
text_by text b = if b then None else Some text

-- an empty text isn't put
pub text_put_if : (text : List ℕ) (b : Bool) → (length text == 0) ≡ b → unless_empty text ≡ text_by text b
text_put_if [] b h = ap (text_by []) h
text_put_if (byte ∷ bytes) b h = let some : (length (byte ∷ bytes) == 0) ≡ false = grind (arith, nat_tests) in ap (text_by (byte ∷ bytes)) (sym some ∙ h)

-- the helper is asked, and its candidates decide what is done
abbrev pub asking : (Completion → Transition) → Transition
asking later s v = then_do candidates_asked (later (candidates_given (completion_reply s v))) s v

module _ {Out H Hi K T : Type 0} {renderer : renderers.Renderer.Ghosts Out} {completer : completions.Completer.Ghosts H K} {candidate : completions.Candidate.Ghosts K}
    {hinter : hints.Hinter.Ghosts H T} {hint : hints.Hint.Ghosts T} {highlighter : highlights.Highlighter.Ghosts H} {validator : verdicts.Validator.Ghosts H} {history : histories.History.Ghosts Hi} where
  pub asking_refused : {A : Type 0} (later : Completion → Transition) (s : State Out H Hi K T renderer completer candidate hinter hint highlighter validator history) (e : ReadlineError) (result : Result A ReadlineError)
      → IsErrAnd result (λ x. x ≡ e) → IsHelpFault (completion_reply (setting_of s) (value_of s)) e → Does (asking later) s s result
  asking_refused later s e result is why =
      let done = later (candidates_given (completion_reply (setting_of s) (value_of s))) in
      does_as (then_do candidates_asked done) (asking later) s s result refl (does_cut_by candidates_asked done s s e result is (asked_refused s e why))

  pub asking_made : {A : Type 0} (later : Completion → Transition) (found : Completion) (s t : State Out H Hi K T renderer completer candidate hinter hint highlighter validator history) (result : Result A ReadlineError)
      → found ≡ candidates_given (completion_reply (setting_of s) (value_of s)) → IsFalse (fails_by (completion_reply (setting_of s) (value_of s))) → Does (later found) s t result → Does (asking later) s t result
  asking_made {A} later found s t result same works does =
      let given : Completion = candidates_given (completion_reply (setting_of s) (value_of s)) in
      does_as (then_do candidates_asked (later given)) (asking later) s t result refl
      (does_both candidates_asked (later given) s s t (tt {0}) result (asked_made s (tt {0}) works) (subst (λ (f : Completion). Does {A = A} (later f) s t result) same does))

  -- a list is drawn
  pub list_drawn : {A : Type 0} (limit : ℕ) (candidates : List Offered) (text : List ℕ) (s t : State Out H Hi K T renderer completer candidate hinter hint highlighter validator history) (result : Result A ReadlineError)
      → text ≡ list_text limit candidates → Does (message_effect (Some text) Other) s t result → Does (list_shown limit candidates) s t result
  list_drawn {A} limit candidates text s t result is h =
      taken_then (message_effect (Some (list_text limit candidates)) Other) s t result (subst (λ x. Does {A = A} (message_effect (Some x) Other) s t result) is h)

  -- an edit, and then what is made of a command
  met_same : {B : Type 0} (first : Transition) (met : Setting → Value → Meeting) (s m : State Out H Hi K T renderer completer candidate hinter hint highlighter validator history) (y : B) → Does first s m (Ok y)
      → met (setting_of m) (value_of m) ≡ met (setting_of s) (first (setting_of s) (value_of s)).value
  met_same first met s m y h = ap (λ (a : Setting). met a (value_of m)) (setting_stays s m h.stays) ∙ ap (met (setting_of s)) h.value

  pub met_then : {B : Type 0} (first : Transition) (met : Setting → Value → Meeting) (cmd : Cmd) (s m t : State Out H Hi K T renderer completer candidate hinter hint highlighter validator history) (x : Modal) (y : B)
      (result : Result Next ReadlineError) → Does first s m (Ok y) → Meets met (next_of cmd) m t x result → Meets (then_meets first met) (next_of cmd) s t x result
  met_then first met cmd s m t x y result h k = record {
    does = does_both first (λ (a : Setting) (v : Value). (met a v).effect) s m t y result h k.does;
    modal_is = subst (λ (z : Meeting). OnOk result (x ≡ z.modal)) (met_same first met s m y h) k.modal_is;
    next = subst (λ (z : Meeting). IfOk result (λ n. next_of cmd n ≡ z.next)) (met_same first met s m y h) k.next;
  }

  pub met_cut : {B : Type 0} (first : Transition) (met : Setting → Value → Meeting) (cmd : Cmd) (s t : State Out H Hi K T renderer completer candidate hinter hint highlighter validator history) (x : Modal) (e : ReadlineError)
      (result : Result Next ReadlineError) → IsErrAnd result (λ z. z ≡ e) → Does {A = B} first s t (Err e) → Meets (then_meets first met) (next_of cmd) s t x result
  met_cut first met cmd s t x e (Ok n) is h = absurd is
  met_cut first met cmd s t x e (Err fault) is h = record {
    does = does_cut_by first (λ (a : Setting) (v : Value). (met a v).effect) s t e (Err fault) is h;
    modal_is = tt;
    next = tt;
  }
