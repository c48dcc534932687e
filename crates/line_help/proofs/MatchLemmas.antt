-- The match of a bracket: one step of looking for it, in each direction.
use Rattle.std.proofs.Common.{◌≡◌, ℕ, suc, ◌+◌, ◌-◌, ◌<◌, Bool, true, false, List, [], ◌∷◌, length, drop, take, reverse, refl, ap, Option, Some, None, option_map, slice_index_or, arith}
use Rattle.std.specs.Prelude.{if◌then◌else◌, ◌==◌, ◌&&◌}
use Rattle.std.proofs.lemmas.List.{drop_more, take_more, reverse-append}
use Rattle.line_help.specs.Brackets.{bytes_between}

-- how many brackets of one kind are open after a byte, if this many were before it
abbrev open_count_after : ℕ → ℕ → ℕ → ℕ → ℕ
open_count_after same mate byte unclosed =
    if byte == mate then unclosed - 1 else if byte == same then unclosed + 1 else unclosed

-- the place where so many bytes stand before it from a place on
abbrev pub place_behind : ℕ → Option ℕ → Option ℕ
place_behind place between = option_map (λ n. place + n) between

-- the place where so many bytes stand between it and a place
abbrev pub place_before : ℕ → Option ℕ → Option ℕ
place_before place between = option_map (λ n. place - 1 - n) between

one_behind : (place : ℕ) (here : Bool) (later : Option ℕ) → place_behind place (if here then Some 0 else option_map suc later) ≡ (if here then Some place else place_behind (place + 1) later)
one_behind place true later = ap (λ n. Some n) (omega arith)
one_behind place false None = refl
one_behind place false (Some n) = ap (λ n. Some n) (omega arith)

one_before : (place : ℕ) (here : Bool) (later : Option ℕ) → place_before (place + 1) (if here then Some 0 else option_map suc later) ≡ (if here then Some place else place_before place later)
one_before place true later = ap (λ n. Some n) (omega arith)
one_before place false None = refl
one_before place false (Some n) = ap (λ n. Some n) (omega arith)

pub behind_step : (same other unclosed : ℕ) (bytes : List ℕ) (place : ℕ) → place < length bytes
    → place_behind place (bytes_between same other unclosed (drop place bytes))
    ≡ (if (slice_index_or bytes place 0 == other) && (unclosed == 0) then Some place
    else place_behind (place + 1) (bytes_between same other (open_count_after same other (slice_index_or bytes place 0) unclosed) (drop (place + 1) bytes)))
behind_step same other unclosed bytes place within = rw (drop_more bytes place 0 within) (one_behind place _ _)

pub before_step : (same other unclosed : ℕ) (bytes : List ℕ) (place : ℕ) → place < length bytes
    → place_before (place + 1) (bytes_between same other unclosed (reverse (take (place + 1) bytes)))
    ≡ (if (slice_index_or bytes place 0 == other) && (unclosed == 0) then Some place
    else place_before place (bytes_between same other (open_count_after same other (slice_index_or bytes place 0) unclosed) (reverse (take place bytes))))
before_step same other unclosed bytes place within =
    rw (take_more bytes place 0 within, reverse-append (take place bytes) (slice_index_or bytes place 0 ∷ [])) (one_before place _ _)

pub ruleset behind_steps = (behind_step)

pub ruleset before_steps = (before_step)
