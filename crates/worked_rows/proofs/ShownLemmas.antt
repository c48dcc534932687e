-- If the test holds, each moment of a session, and of each row, shows what is to be shown.
use Rattle.std.proofs.Common.{◌≡◌, ℕ, suc, Bool, true, false, nat_eq, nat_le, ◌+◌, length, bytes_eq, ◌&&◌, cond, List, [], ◌∷◌, ◌++◌, Option, None, Some, refl, subst}
use Rattle.std.proofs.lemmas.Bool.{and_parts, eqb-true, false≢true}
use Rattle.std.proofs.lemmas.Slice.Eq.{bytes_eq-Decides}
use Rattle.line_buffer.specs.declared.layout.Position.{Position}
use Rattle.line_editor.specs.RenderCalls.{Marks}
use Rattle.line_editor.specs.Redraws.{Redraw}
use Rattle.line_editor.specs.Sights.{sight_with}
use Rattle.line_screen.specs.ScreenCalls.{Screen}
use Rattle.line_screen.specs.Display.{Display, Placed}
use Rattle.keyline.specs.Events.{SessionEvent, Begins, Breaks, Draws, Hears, Helped, Keeps, Rests, Takes, Writes}
use Rattle.keyline.specs.Shows.{EachShown, Face, HasMeaning, MomentShown, below, blank, face_on_new_row, face_with_drawing}
use Rattle.worked_rows.specs.Playing.{Row, agrees, course_of, differing, screen_in}
use Rattle.worked_rows.specs.Showing.{AllShown, EachFaceShown, all_broken, all_drawn, all_mean, all_rest, all_rested, each_shown, has_above, is_row_shown, is_shown, meaning_of, rested, same_cells, same_placed, same_position, session_shown, short, unshown}

position-is : (a b : Position) → same_position a b ≡ true → a ≡ b
position-is a b h =
    let p = and_parts (nat_eq a.col b.col) (nat_eq a.row b.row) h in
    let col = eqb-true a.col b.col p.0 in
    let row = eqb-true a.row b.row p.1 in
    λ i. record { col = col i; row = row i }

placed-is : (a b : Placed) → same_placed a b ≡ true → a ≡ b
placed-is a b h =
    let p = and_parts (nat_eq a.row b.row) (nat_eq a.col b.col && (nat_eq a.width b.width && (bytes_eq a.bytes b.bytes && bytes_eq a.style b.style))) h in
    let q = and_parts (nat_eq a.col b.col) (nat_eq a.width b.width && (bytes_eq a.bytes b.bytes && bytes_eq a.style b.style)) p.1 in
    let r = and_parts (nat_eq a.width b.width) (bytes_eq a.bytes b.bytes && bytes_eq a.style b.style) q.1 in
    let s = and_parts (bytes_eq a.bytes b.bytes) (bytes_eq a.style b.style) r.1 in
    let row = eqb-true a.row b.row p.0 in
    let col = eqb-true a.col b.col q.0 in
    let width = eqb-true a.width b.width r.0 in
    let bytes = (bytes_eq-Decides a.bytes b.bytes).0 s.0 in
    let style = (bytes_eq-Decides a.style b.style).0 s.1 in
    λ i. record { row = row i; col = col i; width = width i; bytes = bytes i; style = style i }

cells-are : (xs ys : List Placed) → same_cells xs ys ≡ true → xs ≡ ys
cells-are [] [] h = refl
cells-are [] (b ∷ ys) h = absurd (false≢true h)
cells-are (a ∷ xs) [] h = absurd (false≢true h)
cells-are (a ∷ xs) (b ∷ ys) h =
    let p = and_parts (same_placed a b) (same_cells xs ys) h in
    let first = placed-is a b p.0 in
    let rest = cells-are xs ys p.1 in
    λ i. first i ∷ rest i

-- ---- of one display

no-style : (style : List ℕ) → nat_eq (length style) 0 ≡ true → style ≡ []
no-style [] h = refl
no-style (c ∷ style) h = (let e : suc (length style) ≡ 0 = eqb-true (suc (length style)) 0 h in absurd (cc))

moment-is : (f : Face) (marks : Option Marks) (given : Bool) (prompt text : List ℕ) (place : ℕ) (o : Option Display)
    → meaning_of f ≡ o → is_shown f (sight_with marks given prompt text place f.seen.info) o ≡ true
    → MomentShown f marks given prompt text place
moment-is f marks given prompt text place None is h = absurd (false≢true h)
moment-is f marks given prompt text place (Some d) is h =
    let p = and_parts _ _ h in
    let q = and_parts _ _ p.1 in
    let r = and_parts _ _ q.1 in
    record {
      means = record { display = d; means = is; over_is = cells-are _ _ r.0 };
      shows = record { cells = cells-are _ _ p.0; cursor = position-is _ _ q.0; pen = no-style d.pen r.1 };
    }

meaning-is : (f : Face) (o : Option Display) → meaning_of f ≡ o → has_above f o ≡ true → HasMeaning f
meaning-is f None is h = absurd (false≢true h)
meaning-is f (Some d) is h = record { display = d; means = is; over_is = cells-are _ _ h }

-- a new row has a meaning, and the next line begins below it
break-is : (f : Face) (later : List SessionEvent) (o : Option Display) → meaning_of f ≡ o → has_above f o ≡ true
    → EachShown (rested f o) later → (m : HasMeaning f) × EachShown (below f m.display) later
break-is f later None is h x = absurd (false≢true h)
break-is f later (Some d) is h x = (record { display = d; means = is; over_is = cells-are _ _ h }, x)

-- ---- of all of them

all-so : (fs : List Face) (a b : List SessionEvent) → ((f : Face) → EachShown f a → EachShown f b)
    → EachFaceShown fs a → EachFaceShown fs b
all-so [] a b so h = tt
all-so (f ∷ fs) a b so h = (so f h.0, all-so fs a b so h.1)

draws-are : (marks : Option Marks) (redraw : Redraw) (sent : List (List ℕ)) (later : List SessionEvent) (fs : List Face)
    → all_mean (all_drawn marks redraw sent fs) ≡ true → EachFaceShown (all_drawn marks redraw sent fs) later
    → EachFaceShown fs (Draws marks redraw sent ∷ later)
draws-are marks redraw sent later [] h x = tt
draws-are marks redraw sent later (f ∷ fs) h x =
    let p = and_parts _ _ h in
    ((λ low. (meaning-is (face_with_drawing f marks redraw sent) _ refl p.0, x.0)), draws-are marks redraw sent later fs p.1 x.1)

rests-are : (marks : Option Marks) (given : Bool) (prompt text : List ℕ) (place : ℕ) (later : List SessionEvent) (fs : List Face)
    → all_rest fs marks given prompt text place ≡ true → EachFaceShown fs later
    → EachFaceShown fs (Rests marks given prompt text place ∷ later)
rests-are marks given prompt text place later [] h x = tt
rests-are marks given prompt text place later (f ∷ fs) h x =
    let p = and_parts _ _ h in (
      (moment-is f marks given prompt text place _ refl p.0, x.0),
      rests-are marks given prompt text place later fs p.1 x.1,
    )

breaks-are : (later : List SessionEvent) (fs : List Face)
    → all_mean (all_broken fs) ≡ true → EachFaceShown (all_rested (all_broken fs)) later
    → EachFaceShown fs (Breaks ∷ later)
breaks-are later [] h x = tt
breaks-are later (f ∷ fs) h x =
    let p = and_parts _ _ h in
    (break-is (face_on_new_row f) later _ refl p.0 x.0, breaks-are later fs p.1 x.1)

faces-are : (events : List SessionEvent) (fs : List Face) → each_shown fs events ≡ true → EachFaceShown fs events
faces-are [] [] h = tt
faces-are [] (f ∷ fs) h = (tt, faces-are [] fs refl)
faces-are (Begins s ∷ later) fs h =
    let x = faces-are later (blank s ∷ fs) h in
    all-so fs later (Begins s ∷ later) (λ f y. ((λ same. y), (λ is. x.0))) x.1
faces-are (Draws marks redraw sent ∷ later) fs h =
    let p = and_parts _ _ h in draws-are marks redraw sent later fs p.0 (faces-are later _ p.1)
faces-are (Rests marks given prompt text place ∷ later) fs h =
    let p = and_parts _ _ h in rests-are marks given prompt text place later fs p.0 (faces-are later fs p.1)
faces-are (Breaks ∷ later) fs h =
    let p = and_parts _ _ h in breaks-are later fs p.0 (faces-are later _ p.1)
faces-are (Takes ∷ later) fs h = all-so fs later (Takes ∷ later) (λ f y. y) (faces-are later fs h)
faces-are (Helped fails takes ∷ later) fs h =
    all-so fs later (Helped fails takes ∷ later) (λ f y. y) (faces-are later fs h)
faces-are (Hears item ∷ later) fs h = all-so fs later (Hears item ∷ later) (λ f y. y) (faces-are later fs h)
faces-are (Keeps line ∷ later) fs h = all-so fs later (Keeps line ∷ later) (λ f y. y) (faces-are later fs h)
faces-are (Writes line ∷ later) fs h = all-so fs later (Writes line ∷ later) (λ f y. y) (faces-are later fs h)

pub session-is : (s : Screen) (events : List SessionEvent) → session_shown events ≡ true → EachShown (blank s) events
session-is s [] h = absurd (false≢true h)
session-is s (Begins t ∷ later) h =
    let x = (faces-are later (blank t ∷ []) h).0 in
    ((λ same. subst (λ u. EachShown (blank u) later) same x), (λ is. x))
session-is s (Draws marks redraw sent ∷ later) h = absurd (false≢true h)
session-is s (Rests marks given prompt text place ∷ later) h = absurd (false≢true h)
session-is s (Breaks ∷ later) h = absurd (false≢true h)
session-is s (Takes ∷ later) h = absurd (false≢true h)
session-is s (Helped fails takes ∷ later) h = absurd (false≢true h)
session-is s (Hears item ∷ later) h = absurd (false≢true h)
session-is s (Keeps line ∷ later) h = absurd (false≢true h)
session-is s (Writes line ∷ later) h = absurd (false≢true h)

not_one_more : (n : ℕ) (ns : List ℕ) → n ∷ ns ≡ [] → ⊥
not_one_more n ns h = absurd (cc)

rest-shown : (row : Row) (rows : List Row) (b : Bool) → cond b (unshown rows) (row.number ∷ unshown rows) ≡ [] → (b ≡ true) × (unshown rows ≡ [])
rest-shown row rows true h = (refl, h)
rest-shown row rows false h = absurd (not_one_more _ _ h)

pub all_shown : (rows : List Row) → unshown rows ≡ [] → AllShown rows
all_shown [] h = tt
all_shown (row ∷ rows) h =
    let p = rest-shown row rows (is_row_shown row) h in
    (session-is (screen_in row) (course_of row).events p.0, all_shown rows p.1)

-- ---- a list in two parts: one computation takes only so many steps

short-step : (b : Bool) (row : Row) (xs ys : List Row)
    → AllShown (cond b (row ∷ xs) xs) → (AllShown xs → AllShown ys) → AllShown (cond b (row ∷ ys) ys)
short-step true row xs ys h go = (h.0, go h.1)
short-step false row xs ys h go = go h

pub both_shown : (xs ys : List Row) → AllShown (short xs) → AllShown (short ys) → AllShown (short (xs ++ ys))
both_shown [] ys h k = k
both_shown (row ∷ rows) ys h k =
    short-step (nat_le (length row.keys + length row.lines) 2000) row (short rows) (short (rows ++ ys)) h
    (λ r. both_shown rows ys r k)

given-step : (b : Bool) (n : ℕ) (xs ys : List ℕ)
    → cond b xs (n ∷ xs) ≡ [] → (xs ≡ [] → ys ≡ []) → cond b ys (n ∷ ys) ≡ []
given-step true n xs ys h go = go h
given-step false n xs ys h go = absurd (not_one_more _ _ h)

pub both_given : (xs ys : List Row) → differing xs ≡ [] → differing ys ≡ [] → differing (xs ++ ys) ≡ []
both_given [] ys h k = k
both_given (row ∷ rows) ys h k =
    given-step (agrees row (course_of row)) row.number (differing rows) (differing (rows ++ ys)) h
    (λ r. both_given rows ys r k)
