-- The places of a character in a text, and the places to which searches for a character lead.
use Rattle.std.specs.Prelude.{ℕ, ◌+◌, ◌==◌, List, [], ◌∷◌, length, map, reverse, filter, take, drop, chars, encode_utf8, Option, None, option_map, unwrap_or}
use Rattle.std.specs.List.{last_or}
use Rattle.line_buffer.specs.declared.types.CharSearch.{CharSearch}
use Rattle.line_buffer.specs.declared.types.CharSearch.TheVariants.{Forward, ForwardBefore, Backward, BackwardAfter}
use Rattle.line_buffer.specs.Line.{Line, text_before}
use Rattle.line_buffer.specs.Clusters.{nth_or_last, place_forward}

unfoldable pub chars_placed : ℕ → List ℕ → List (ℕ × ℕ)
chars_placed at [] = []
chars_placed at (c ∷ cs) = (at, c) ∷ chars_placed (at + length (encode_utf8 c)) cs

-- the characters of a text, each with the place of its first byte
abbrev pub placed_chars : List ℕ → List (ℕ × ℕ)
placed_chars text = chars_placed 0 (chars text)

-- the places of a character in a text
abbrev pub hits : ℕ → List ℕ → List ℕ
hits c text = map (λ x. x.0) (filter (λ x. x.1 == c) (placed_chars text))

-- the place of a text's last character
abbrev pub last_char : List ℕ → ℕ
last_char text = unwrap_or (option_map (λ x. x.0) (last_or None (placed_chars text))) 0

-- the n-th place of a character after the cluster at the cursor
abbrev pub hit_forward : ℕ → ℕ → Line → Option ℕ
hit_forward c n l =
    let past = unwrap_or (place_forward 1 l) l.place in
    option_map (λ i. past + i) (nth_or_last n (hits c (drop past l.text)))

-- before the cursor, the nearest first
abbrev pub hit_backward : ℕ → ℕ → Line → Option ℕ
hit_backward c n l = nth_or_last n (reverse (hits c (text_before l)))

-- the character that a search looks for
abbrev pub searched_char : CharSearch → ℕ
searched_char (Forward c) = c
searched_char (ForwardBefore c) = c
searched_char (Backward c) = c
searched_char (BackwardAfter c) = c

-- the place of the character that a search finds
abbrev pub hit : CharSearch → ℕ → Line → Option ℕ
hit (Forward c) n l = hit_forward c n l
hit (ForwardBefore c) n l = hit_forward c n l
hit (Backward c) n l = hit_backward c n l
hit (BackwardAfter c) n l = hit_backward c n l

-- the cursor's new place: the hit's, one character before it, or right after it
abbrev pub search_place : CharSearch → ℕ → Line → Option ℕ
search_place (ForwardBefore c) n l = option_map (λ i. last_char (take i l.text)) (hit_forward c n l)
search_place (BackwardAfter c) n l =
    option_map (λ i. i + length (encode_utf8 c)) (hit_backward c n l)
search_place search n l = hit search n l
