-- Brackets: which bytes they are, and which texts of them are balanced.
use Rattle.std.specs.Prelude.{◌≡◌, ℕ, ◌==◌, ◌&&◌, ◌||◌, Bool, true, false, if◌then◌else◌, List, [], ◌∷◌, ◌++◌, suc, ◌+◌, ◌-◌, not, nat_le, length, take, drop, reverse, Option, Some, None, option_map, slice_get, ◌↔◌}
use Rattle.std.specs.List.{list_any}
use Rattle.std.specs.Option.{option_or}

-- each opening bracket with its closing one: ( ), [ ], { }
abbrev pub all_kinds : List (ℕ × ℕ)
all_kinds = (40, 41) ∷ ((91, 93) ∷ ((123, 125) ∷ []))

abbrev pub is_opening : ℕ → Bool
is_opening byte = list_any (λ kind. byte == kind.0) all_kinds

abbrev pub is_closing : ℕ → Bool
is_closing byte = list_any (λ kind. byte == kind.1) all_kinds

abbrev pub is_bracket : ℕ → Bool
is_bracket byte = is_opening byte || is_closing byte

-- the other bracket of a bracket's kind; of any other byte the byte itself
abbrev pub partner_in : List (ℕ × ℕ) → ℕ → ℕ
partner_in [] byte = byte
partner_in (kind ∷ others) byte =
    if byte == kind.0 then kind.1 else if byte == kind.1 then kind.0 else partner_in others byte

abbrev pub partner : ℕ → ℕ
partner byte = partner_in all_kinds byte

-- a text in which the brackets of some kinds are balanced, whatever else it has. It is empty, or
-- begins with a byte that is none of these brackets, or with an opening bracket, a balanced text
-- and the closing bracket of that kind
pub data Balanced (kinds : List (ℕ × ℕ)) : List ℕ → Type 0 where
  empty : Balanced kinds []
  other : (byte : ℕ) (text : List ℕ) → list_any (λ kind. byte == kind.0) kinds ≡ false
      → list_any (λ kind. byte == kind.1) kinds ≡ false
      → Balanced kinds text → Balanced kinds (byte ∷ text)
  pair : (opening closing : ℕ) (inner text : List ℕ)
      → list_any (λ kind. (opening == kind.0) && (closing == kind.1)) kinds ≡ true
      → Balanced kinds inner → Balanced kinds text
      → Balanced kinds (opening ∷ (inner ++ (closing ∷ text)))

-- ---- the bracket at the cursor, and its match

abbrev pub where_it_is : (ℕ × ℕ → Bool) → Option (ℕ × ℕ) → Option (ℕ × ℕ)
where_it_is test None = None
where_it_is test (Some found) = if test found then Some found else None

-- the bracket at a place, with the place
abbrev pub bracket_at : List ℕ → ℕ → Option (ℕ × ℕ)
bracket_at line place = where_it_is (λ found. is_bracket found.0)
    (option_map (λ byte. (byte, place)) (slice_get line place))

-- the bracket at the cursor, or the one right before it
abbrev pub bracket_near : List ℕ → ℕ → Option (ℕ × ℕ)
bracket_near line pos =
    option_or (bracket_at line pos) (if pos == 0 then None else bracket_at line (pos - 1))

-- the bracket whose match is to be shown. With the cursor after the line it is the last byte, if
-- that closes; else the bracket near the cursor, if there is text on the side of its match
abbrev pub bracket_to_match : List ℕ → ℕ → Option (ℕ × ℕ)
bracket_to_match line pos =
    let last : ℕ = length line - 1 in
    if nat_le (length line) pos then where_it_is (λ b. is_closing b.0) (bracket_at line last)
    else where_it_is (λ b. not (b.1 == (if is_closing b.0 then 0 else last)))
    (bracket_near line pos)

-- how many bytes are between the bracket `same`, right before these, and its match `mate`, if so
-- many more brackets of their kind are open
abbrev pub bytes_between : ℕ → ℕ → ℕ → List ℕ → Option ℕ
bytes_between same mate unclosed [] = None
bytes_between same mate unclosed (byte ∷ bytes) = if (byte == mate) && (unclosed == 0) then Some 0
    else option_map suc (bytes_between same mate (if byte == mate then unclosed - 1
    else if byte == same then unclosed + 1 else unclosed) bytes)

-- the place of the match of a bracket at a place: after an opening one, before a closing one
abbrev pub match_place : List ℕ → ℕ → ℕ → Option ℕ
match_place line pos bracket =
    if is_opening bracket then option_map (λ n. pos + 1 + n)
    (bytes_between bracket (partner bracket) 0 (drop (pos + 1) line))
    else if is_closing bracket then option_map (λ n. length (take pos line) - 1 - n)
    (bytes_between bracket (partner bracket) 0 (reverse (take pos line))) else None

-- an opening bracket's match is exactly its partner behind a text balanced in their kind
abbrev pub OpeningIsMatched : Type 0
OpeningIsMatched = (line : List ℕ) (pos opening place : ℕ) → is_opening opening ≡ true
    → (match_place line pos opening ≡ Some place) ↔ ((between : List ℕ) × (after : List ℕ)
    × (drop (pos + 1) line ≡ between ++ (partner opening ∷ after))
    × Balanced ((opening, partner opening) ∷ []) between × (place ≡ pos + 1 + length between))

-- the same for a closing bracket, whose match is before such a text
abbrev pub ClosingIsMatched : Type 0
ClosingIsMatched = (line : List ℕ) (pos closing place : ℕ) → is_closing closing ≡ true
    → (match_place line pos closing ≡ Some place) ↔ ((before : List ℕ) × (between : List ℕ)
    × (take pos line ≡ before ++ (partner closing ∷ between))
    × Balanced ((partner closing, closing) ∷ []) between × (place ≡ length before))
