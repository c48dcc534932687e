-- Edits that leave the line as it was if they fail: those of one event, and kills.
use Rattle.std.proofs.Common.{◌≡◌, ◌≤◌, ℕ, List, [], ◌∷◌, ◌++◌, length, refl, ap, subst, ◌∙◌, arith, length-append, Bool, true, false, if◌then◌else◌, Option, Some, None}
use Rattle.line_buffer.specs.declared.range.TextSpan.{TextSpan}
use Rattle.line_buffer.specs.declared.types.Movement.{Movement}
use Rattle.line_buffer.specs.Edit.{StopsAt}
use Rattle.line_buffer.specs.Event.{ChangeEvent, TellsOfChange, deletion, line_after_events, ChangeEvent.StartKilling, ChangeEvent.StopKilling}
use Rattle.line_buffer.specs.Insertions.{insert, yank}
use Rattle.line_buffer.specs.Line.{Line}
use Rattle.line_buffer.specs.Range.{range_of, goes_by_clusters, deletion_events, kill_events, kill_closing}
use Rattle.line_buffer.proofs.InsertionLemmas.{insert_cases, yank_cases}

-- of one event at most none was made
pub none_done : {events : List ChangeEvent} (done never : List ChangeEvent) (refused : ChangeEvent) → length events ≤ 1 → events ≡ done ++ refused ∷ never → done ≡ []
none_done [] never refused few split = refl
none_done (e ∷ done) never refused few split = absurd (omega (arith, few, ap length split, length-append done (refused ∷ never)))

-- an edit of one event at most leaves the line as it was if it fails
pub kept_alone : {S : Type 0} {takes stops : S → ChangeEvent → S → Type 0} {closing events : List ChangeEvent} {s t : S} {l m : Line} → length events ≤ 1
    → StopsAt takes stops closing events s t l m → m ≡ l
unfolding line_after_events
kept_alone {l = l} few x = x.line ∙ ap (λ es. line_after_events es l) (none_done x.stops.done x.stops.never x.stops.refused few x.stops.split)

pub insert_few : (c n : ℕ) (l : Line) → length (insert c n l).events ≤ 1
insert_few c n l = insert_cases (λ x. length x.events ≤ 1) c n l (omega arith) (λ one. omega arith) (omega arith)

pub yank_few : (text : List ℕ) (n : ℕ) (l : Line) → length (yank text n l).events ≤ 1
yank_few text n l = yank_cases (λ x. length x.events ≤ 1) text n l (omega arith) (omega arith)

-- ---- kills

-- where a kill is cut, its one change is the one that failed: before it stands nothing, or a mark
pub record KillCut (plain : Bool) (range : Option TextSpan) (l : Line) (done : List ChangeEvent) (refused : ChangeEvent) : Type 0 where
  pub span : TextSpan
  pub some : range ≡ Some span
  pub change : refused ≡ deletion span.from span.upto span.direction l.text
  pub marks : done ≡ (if plain then [] else StartKilling ∷ [])

pub kill_cut : (plain : Bool) (range : Option TextSpan) (l : Line) (done never : List ChangeEvent) (refused : ChangeEvent)
    → (if plain then deletion_events range l else StartKilling ∷ (deletion_events range l ++ (StopKilling ∷ []))) ≡ done ++ refused ∷ never → TellsOfChange refused → KillCut plain range l done refused
kill_cut true (Some span) l [] never refused is tells = record { span = span; some = refl; change = cc; marks = refl }
kill_cut false (Some span) l (x ∷ []) never refused is tells = record { span = span; some = refl; change = cc; marks = cc }
kill_cut false (Some span) l (x ∷ y ∷ []) never refused is tells = let mark : refused ≡ StopKilling = cc in absurd (subst TellsOfChange mark tells)
kill_cut false None l (x ∷ []) never refused is tells = let mark : refused ≡ StopKilling = cc in absurd (subst TellsOfChange mark tells)
kill_cut false range l [] never refused is tells = let mark : refused ≡ StartKilling = cc in absurd (subst TellsOfChange mark tells)
kill_cut _ _ l done never refused is tells = absurd (omega (arith, ap length is, length-append done (refused ∷ never)))

mark_kept : (plain : Bool) (l : Line) → line_after_events (if plain then [] else StartKilling ∷ []) l ≡ l
unfolding line_after_events
mark_kept true l = refl
mark_kept false l = refl

-- no change is made before that of a kill
pub kill_kept : {S : Type 0} {takes stops : S → ChangeEvent → S → Type 0} (movement : Movement) {s t : S} {l m : Line}
    → StopsAt takes stops (kill_closing movement) (kill_events movement l) s t l m → m ≡ l
kill_kept movement {l = l} x =
    let cut = kill_cut (goes_by_clusters movement) (range_of movement l) l x.stops.done x.stops.never x.stops.refused x.stops.split x.stops.change in
    x.line ∙ ap (λ es. line_after_events es l) cut.marks ∙ mark_kept (goes_by_clusters movement) l
