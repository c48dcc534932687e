-- What replay leaves, as a function: of any events that replay, and of the events of each edit.
use Rattle.std.proofs.Common.{◌≡◌, ℕ, ◌+◌, ◌-◌, ◌≤◌, Bool, true, false, List, [], ◌∷◌, ◌++◌, length, Option, None, Some, refl, sym, ap, ◌∙◌, arith, IfSome, slice_range, if◌then◌else◌, encode_utf8}
use Rattle.std.specs.List.{replace_range, insert_slice, repeat}
use Rattle.std.proofs.lemmas.List.{append-nil, drop_all}
use Rattle.std.proofs.lemmas.List.Edits.{length-between}
use Rattle.line_buffer.specs.declared.range.TextSpan.{TextSpan}
use Rattle.line_buffer.specs.declared.types.Direction.{Direction, TheVariants.Forward}
use Rattle.line_buffer.specs.declared.types.Movement.{Movement}
use Rattle.line_buffer.specs.Event.{ChangeEvent, deletion, replacement, text_after_event, text_after_events, line_after_event, line_after_events, InsertStr}
use Rattle.line_buffer.specs.Event.ChangeEvent.{StartKilling, StopKilling}
use Rattle.line_buffer.specs.Indent.{indent}
use Rattle.line_buffer.specs.Insertions.{text_that_fits, update, insert, yank, without_before, yank_pop}
use Rattle.line_buffer.specs.Line.{Line}
use Rattle.line_buffer.specs.Range.{IsSpanOf, range_of, deletion_events, deletion_line, kill_events, kill, goes_by_clusters}
use Rattle.line_buffer.proofs.InsertionLemmas.{insert_cases, yank_cases}

pub replayed_all-append : (es fs : List ChangeEvent) (a : List ℕ) → text_after_events (es ++ fs) a ≡ text_after_events fs (text_after_events es a)
unfolding text_after_events
replayed_all-append [] fs a = refl
replayed_all-append (e ∷ es) fs a = replayed_all-append es fs (text_after_event e a)

pub replayed_all-none : (a : List ℕ) → text_after_events [] a ≡ a
unfolding text_after_events
replayed_all-none a = refl

pub replayed_all-one : (e : ChangeEvent) (a : List ℕ) → text_after_events (e ∷ []) a ≡ text_after_event e a
unfolding text_after_events
replayed_all-one e a = refl

pub replayed_all-first : (e : ChangeEvent) (es : List ChangeEvent) (a : List ℕ) → text_after_events (e ∷ es) a ≡ text_after_events es (text_after_event e a)
unfolding text_after_events
replayed_all-first e es a = refl

pub replayed_deletion : (text : List ℕ) (from upto : ℕ) (direction : Direction) → from ≤ upto → upto ≤ length text → text_after_event (deletion from upto direction text) text ≡ replace_range text from upto []
replayed_deletion text from upto direction le fits =
    ap (λ n. replace_range text from n []) (let k : from + length (slice_range text from upto) ≡ upto = omega (arith, length-between text from upto fits, le) in k)

pub replayed_insertion : (text : List ℕ) (at : ℕ) (added : List ℕ) → text_after_event (InsertStr at added) text ≡ insert_slice text at added
replayed_insertion text at added = ap (λ n. replace_range text at n added) (let k : at + 0 ≡ at = omega arith in k)

pub replayed_replacement : (text : List ℕ) (from upto : ℕ) (added : List ℕ) → from ≤ upto → upto ≤ length text → text_after_event (replacement from upto added text) text ≡ replace_range text from upto added
replayed_replacement text from upto added le fits =
    ap (λ n. replace_range text from n added) (let k : from + length (slice_range text from upto) ≡ upto = omega (arith, length-between text from upto fits, le) in k)

-- the new text of an update is what is kept of it
pub update_replayed : (text : List ℕ) (l : Line) → text_after_events (update text 0 l).events l.text ≡ text_that_fits text l
update_replayed text l =
    replayed_all-first _ _ l.text ∙ replayed_all-one _ _
    ∙ ap (λ t. text_after_event (InsertStr 0 (text_that_fits text l)) t) (replayed_deletion l.text 0 (length l.text) Forward (omega arith) (omega arith) ∙ drop_all (length l.text) l.text (omega arith))
    ∙ append-nil (text_that_fits text l)

pub insert_replayed : (c n : ℕ) (l : Line) → text_after_events (insert c n l).events l.text ≡ (insert c n l).line.text
insert_replayed c n l =
    insert_cases (λ x. text_after_events x.events l.text ≡ x.line.text) c n l (replayed_all-none l.text)
    (λ one. replayed_all-one _ l.text ∙ replayed_insertion l.text l.place (encode_utf8 c))
    (replayed_all-one _ l.text ∙ replayed_insertion l.text l.place (repeat n (encode_utf8 c)))

pub yank_replayed : (text : List ℕ) (n : ℕ) (l : Line) → text_after_events (yank text n l).events l.text ≡ (yank text n l).line.text
yank_replayed text n l =
    yank_cases (λ x. text_after_events x.events l.text ≡ x.line.text) text n l (replayed_all-none l.text) (replayed_all-one _ l.text ∙ replayed_insertion l.text l.place (repeat n text))

pub yank_pop_replayed : (size : ℕ) (text : List ℕ) (l : Line) → l.place ≤ length l.text → text_after_events (yank_pop size text l).events l.text ≡ (yank_pop size text l).line.text
yank_pop_replayed size text l fits =
    replayed_all-first _ _ l.text ∙ ap (text_after_events (yank text 1 (without_before size l)).events) (replayed_deletion l.text (l.place - size) l.place Forward (omega arith) fits)
    ∙ yank_replayed text 1 (without_before size l)

-- a part taken out
pub deletion_replayed : (o : Option TextSpan) (l : Line) → IfSome o (IsSpanOf l.text) → text_after_events (deletion_events o l) l.text ≡ (deletion_line o l).text
deletion_replayed None l h = replayed_all-none l.text
deletion_replayed (Some span) l h = replayed_all-one _ l.text ∙ replayed_deletion l.text span.from span.upto span.direction h.order h.end.0

pub kill_replayed : (movement : Movement) (l : Line) → IfSome (range_of movement l) (IsSpanOf l.text) → text_after_events (kill_events movement l) l.text ≡ (kill movement l).line.text
kill_replayed movement l h =
    let events : List ChangeEvent = deletion_events (range_of movement l) l in
    elim (goes_by_clusters movement) as (λ b. text_after_events (if b then events else StartKilling ∷ (events ++ (StopKilling ∷ []))) l.text ≡ (kill movement l).line.text) [
      | true ↦ deletion_replayed (range_of movement l) l h
      | false ↦
          replayed_all-first StartKilling (events ++ (StopKilling ∷ [])) l.text ∙ replayed_all-append events (StopKilling ∷ []) l.text
          ∙ replayed_all-one StopKilling (text_after_events events l.text) ∙ deletion_replayed (range_of movement l) l h
    ]

pub carried_text : (es : List ChangeEvent) (l : Line) → (line_after_events es l).text ≡ text_after_events es l.text
unfolding line_after_events text_after_events
carried_text [] l = refl
carried_text (e ∷ es) l = carried_text es (line_after_event e l)

-- the rows that are moved
pub indent_replayed : (movement : Movement) (amount : ℕ) (dedent : Bool) (l : Line) → text_after_events (indent movement amount dedent l).events l.text ≡ (indent movement amount dedent l).line.text
indent_replayed movement amount dedent l = sym (carried_text (indent movement amount dedent l).events l)
