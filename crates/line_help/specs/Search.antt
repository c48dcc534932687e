-- Searches in a history.
use Rattle.std.specs.Prelude.{◌≡◌, ◌<◌, ℕ, suc, ◌+◌, ◌==◌, ◌||◌, nat_le, Bool, true, false, if◌then◌else◌, List, [], ◌∷◌, length, take, drop, reverse, eqb, Option, Some, None, option_map, slice_get, IfSome, IsCharBoundary, ◌≢◌, ◌↔◌, ◌-◌, ◌≤◌, ◌++◌, All}
use Rattle.std.specs.List.{starts_with}
use Rattle.line_help.specs.declared.history.search.SearchResult.{SearchResult}
use Rattle.line_help.specs.declared.history.search.SearchDirection.{SearchDirection}
use Rattle.line_help.specs.declared.history.search.SearchDirection.TheVariants.{Forward, Reverse}

-- an entry found: its text, its index in the history, and the place in it, in bytes
pub record Hit : Type 0 where
  pub entry : List ℕ
  pub idx : ℕ
  pub pos : ℕ

abbrev pub hit_of : SearchResult → Hit
hit_of found = record { entry = found.entry.now; idx = found.idx; pos = found.pos }

-- the first place of the term in the text, in bytes
abbrev pub first_hit : List ℕ → List ℕ → Option ℕ
first_hit term [] = if length term == 0 then Some 0 else None
first_hit term (b ∷ bs) =
    if starts_with eqb (b ∷ bs) term then Some 0 else option_map suc (first_hit term bs)

-- the first place of a term in an entry; or the place after it, if the entry begins with it
abbrev pub hit_by : Bool → List ℕ → List ℕ → Option ℕ
hit_by false term text = first_hit term text
hit_by true term text = if starts_with eqb text term then Some (length term) else None

abbrev pub hit_or : Option ℕ → List ℕ → ℕ → Option Hit → Option Hit
hit_or None entry idx other = other
hit_or (Some pos) entry idx other = Some (record { entry = entry; idx = idx; pos = pos })

-- the first of these entries with a hit, if the first of them has this index in the history
abbrev pub first_from : (List ℕ → Option ℕ) → ℕ → List (List ℕ) → Option Hit
first_from test idx [] = None
first_from test idx (entry ∷ entries) =
    hit_or (test entry) entry idx (first_from test (idx + 1) entries)

-- the same of entries that are newest first: an entry's index is the number of those after it
abbrev pub first_back : (List ℕ → Option ℕ) → List (List ℕ) → Option Hit
first_back test [] = None
first_back test (entry ∷ entries) =
    hit_or (test entry) entry (length entries) (first_back test entries)

-- the nearest entry with a hit, from the place `start` on
abbrev pub nearest : SearchDirection → (List ℕ → Option ℕ) → ℕ → List (List ℕ) → Option Hit
nearest Forward test start entries = first_from test start (drop start entries)
nearest Reverse test start entries = first_back test (reverse (take (start + 1) entries))

-- the result of a search: nothing for an empty term or an index past the last entry
abbrev pub search_hit : Bool → List ℕ → ℕ → SearchDirection → List (List ℕ) → Option Hit
search_hit anchored term start direction entries =
    if length term == 0 || nat_le (length entries) start then None
    else nearest direction (hit_by anchored term) start entries

-- a search of these entries has this result; the place in its entry is a character boundary
pub record Finds (search : List (List ℕ) → Option Hit) (entries : List (List ℕ))
    (result : Option SearchResult) : Type 0 where
  pub found : option_map hit_of result ≡ search entries
  pub inside : IfSome result (λ hit. hit.idx < length entries)
  pub boundary : IfSome result (λ hit. IsCharBoundary hit.entry.now hit.pos)

-- the entry at an index, with its hit at its start
abbrev pub entry_at : ℕ → List (List ℕ) → Option Hit
entry_at idx entries =
    option_map (λ entry. record { entry = entry; idx = idx; pos = 0 }) (slice_get entries idx)

-- the term is in the entry at a place
abbrev pub TermAt : List ℕ → List ℕ → ℕ → Type 0
TermAt term entry pos =
    (front : List ℕ) × (rest : List ℕ) × (entry ≡ front ++ (term ++ rest)) × (pos ≡ length front)

-- the entry has the term: anywhere, or, for an anchored search, at its start
abbrev pub HasTerm : Bool → List ℕ → List ℕ → Type 0
HasTerm false term entry = (pos : ℕ) × TermAt term entry pos
HasTerm true term entry = TermAt term entry 0

-- the hit's place: the term's first place, or, for an anchored search, its end at the start
abbrev pub IsHit : Bool → List ℕ → List ℕ → ℕ → Type 0
IsHit false term entry pos =
    TermAt term entry pos × ((other : ℕ) → TermAt term entry other → pos ≤ other)
IsHit true term entry pos = TermAt term entry 0 × (pos ≡ length term)

-- the entry between these is the one at `start` or comes after it in the direction; and P holds of
-- the entries on the way to it, with the one at `start`
abbrev pub Along : (List ℕ → Type 0) → SearchDirection → ℕ → (before after : List (List ℕ)) → Type 0
Along P Forward start before after = (start ≤ length before) × All P (drop start before)
Along P Reverse start before after =
    (length before ≤ start) × All P (take (start - length before) after)

-- the hit's entry is at the hit's index in the history, and no entry on the way to it has the term
pub record IsNearest (anchored : Bool) (term : List ℕ) (start : ℕ) (direction : SearchDirection)
    (entries : List (List ℕ)) (hit : Hit) : Type 0 where
  pub some : term ≢ []
  pub within : start < length entries
  pub before : List (List ℕ)
  pub after : List (List ℕ)
  pub split : entries ≡ before ++ (hit.entry ∷ after)
  pub place : hit.idx ≡ length before
  pub here : IsHit anchored term hit.entry hit.pos
  pub none_nearer : Along (λ entry. ¬ HasTerm anchored term entry) direction start before after

-- a search returns the nearest hit, and nothing if there is none
abbrev pub NearestIsFound : Type 0
NearestIsFound = (anchored : Bool) (term : List ℕ) (start : ℕ) (direction : SearchDirection)
    (entries : List (List ℕ)) (hit : Hit)
    → (search_hit anchored term start direction entries ≡ Some hit)
    ↔ IsNearest anchored term start direction entries hit
