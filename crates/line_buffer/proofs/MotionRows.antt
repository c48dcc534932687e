-- The motions of the definitions, computed at some lines.
use Rattle.std.proofs.Common.{◌≡◌, ℕ, true, List, [], ◌∷◌, Some, None, refl, ap, codes, encode_utf8_all}
use Rattle.unicode_segmentation.specs.Segments.{with_offsets}
use Rattle.unicode_segmentation.proofs.Computing.{unicode_segmentation}
use Rattle.line_buffer.specs.declared.types.At.{At, TheVariants.Start, TheVariants.BeforeEnd, TheVariants.AfterEnd}
use Rattle.line_buffer.specs.declared.types.CharSearch.{CharSearch, TheVariants.Forward, TheVariants.ForwardBefore, TheVariants.Backward, TheVariants.BackwardAfter}
use Rattle.line_buffer.specs.declared.types.Word.{Word, TheVariants.Big, TheVariants.Emacs, TheVariants.Vi}
use Rattle.line_buffer.specs.Clusters.{nth_or_last, place_forward, place_backward}
use Rattle.line_buffer.specs.Hits.{search_place, chars_placed}
use Rattle.line_buffer.specs.Line.{Line}
use Rattle.line_buffer.specs.Rows.{row_start, row_end}
use Rattle.line_buffer.specs.Words.{stops_back, prev_word, next_word}

abbrev at : List ℕ → ℕ → Line
at text place = record { text = text; place = place; growth = true; limit = 0 }

abbrev mixed : List ℕ
mixed = codes "alpha ,beta/rho; mu"

abbrev pair : List ℕ
pair = codes "one two"

-- its stops by words of Vi, the last first
mixed_stops : stops_back Vi mixed ≡ 17 ∷ 15 ∷ 12 ∷ 11 ∷ 7 ∷ 6 ∷ 0 ∷ []
unfolding unicode_segmentation with_offsets
mixed_stops = refl

-- from start to start, back to the text's, over 6 starts and over all
earlier_starts :
    (prev_word Vi 1 (at mixed 19) ≡ Some 17)
    × (prev_word Vi 1 (at mixed 17) ≡ Some 15)
    × (prev_word Vi 1 (at mixed 15) ≡ Some 12)
    × (prev_word Vi 1 (at mixed 12) ≡ Some 11)
    × (prev_word Vi 1 (at mixed 11) ≡ Some 7)
    × (prev_word Vi 1 (at mixed 7) ≡ Some 6)
    × (prev_word Vi 1 (at mixed 6) ≡ Some 0)
    × (prev_word Vi 1 (at mixed 0) ≡ None)
    × (prev_word Vi 6 (at mixed 19) ≡ Some 6)
    × (prev_word Vi 40 (at mixed 19) ≡ Some 0)
    × (prev_word Big 2 (at mixed 19) ≡ Some 6)
unfolding unicode_segmentation with_offsets
earlier_starts = (ap (nth_or_last 1) mixed_stops, refl, refl, refl, refl, refl, refl, refl, ap (nth_or_last 6) mixed_stops, ap (nth_or_last 40) mixed_stops, refl)

-- after a word's end, to the next start, to a word's last character and to the next word's; then the last cluster, and none more
words_of_two :
    (next_word AfterEnd Emacs 1 (at pair 0) ≡ Some 3)
    × (next_word Start Vi 1 (at pair 0) ≡ Some 4)
    × (next_word BeforeEnd Vi 1 (at pair 0) ≡ Some 2)
    × (next_word BeforeEnd Vi 1 (at pair 2) ≡ Some 6)
    × (next_word Start Vi 1 (at pair 4) ≡ Some 6)
    × (next_word Start Vi 1 (at pair 6) ≡ None)
    × (next_word Start Emacs 2 (at pair 0) ≡ Some 7)
unfolding unicode_segmentation
words_of_two = (refl, refl, refl, refl, refl, refl, refl)

-- a count of 0 finds nothing, on any line
no_clusters : (l : Line) → (place_forward 0 l ≡ None) × (place_backward 0 l ≡ None)
no_clusters l = (refl, refl)

no_words : (at : At) (word : Word) (l : Line) → (next_word at word 0 l ≡ None) × (prev_word word 0 l ≡ None)
no_words at word l = (refl, refl)

no_hits : (search : CharSearch) (l : Line) → search_place search 0 l ≡ None
no_hits (Forward c) l = refl
no_hits _ l = refl

-- a mark with its letter, a flag, and each side of the cursor cut by itself
clusters_by_place :
    (place_backward 1 (at (encode_utf8_all (0x65 ∷ 0x301 ∷ [])) 3) ≡ Some 0)
    × (place_forward 1 (at (encode_utf8_all (0x1F1F7 ∷ 0x1F1FA ∷ 0x61 ∷ [])) 0) ≡ Some 8)
    × (place_forward 1 (at (encode_utf8_all (0x65 ∷ 0x301 ∷ [])) 1) ≡ Some 3)
unfolding unicode_segmentation
clusters_by_place = (refl, refl, refl)

-- on to a character, before it, back to it, and after it
found_by_search :
    (search_place (Forward 111) 1 (at pair 0) ≡ Some 6)
    × (search_place (ForwardBefore 111) 9 (at pair 0) ≡ Some 5)
    × (search_place (Backward 111) 1 (at pair 6) ≡ Some 0)
    × (search_place (BackwardAfter 111) 1 (at pair 6) ≡ Some 1)
unfolding unicode_segmentation chars_placed
found_by_search = (refl, refl, refl, refl)

rows_of_places :
    (row_start (codes "a\nbcd\ne") 4 ≡ 2)
    × (row_end (codes "a\nbcd\ne") 3 ≡ 5)
rows_of_places = (refl, refl)

-- a search looks at characters: it finds no mark in a cluster, and stops inside of one
hits_in_clusters :
    (search_place (Forward 0x301) 1 (at (encode_utf8_all (0x65 ∷ 0x301 ∷ 0x65 ∷ [])) 0) ≡ None)
    × (search_place (ForwardBefore 120) 1 (at (encode_utf8_all (0x65 ∷ 0x301 ∷ 120 ∷ [])) 0) ≡ Some 1)
unfolding unicode_segmentation chars_placed
hits_in_clusters = (refl, refl)

-- an underscore with a mark, an emoji of three, a line's end of two
longer_clusters :
    (next_word Start Vi 1 (at (encode_utf8_all (95 ∷ 0x301 ∷ 97 ∷ [])) 0) ≡ Some 3)
    × (place_forward 1 (at (encode_utf8_all (0x1F469 ∷ 0x200D ∷ 0x1F52C ∷ 97 ∷ [])) 0) ≡ Some 11)
    × (place_backward 1 (at (codes "a\r\nb") 3) ≡ Some 1)
unfolding unicode_segmentation
longer_clusters = (refl, refl, refl)
