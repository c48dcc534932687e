-- What words in other letters, and words exchanged, tell leads to the text that they leave.
use Rattle.std.proofs.Common.{◌≡◌, ℕ, ◌+◌, ◌≤◌, ◌==◌, not, nat_le, Bool, true, false, List, [], ◌∷◌, length, Option, None, Some, refl, ap, ◌∙◌, arith, cond, if◌then◌else◌}
use Rattle.std.specs.Prelude.{IsUtf8, IsCharBoundary, IfSome, All, find, option_map, slice_range, unwrap_or}
use Rattle.std.specs.List.{replace_range}
use Rattle.std.proofs.lemmas.Bool.{leb-true, and_parts}
use Rattle.line_buffer.proofs.CutLemmas.{length-replace_range}
use Rattle.std.proofs.lemmas.List.Elements.{All-head, All-tail}
use Rattle.std.proofs.lemmas.Str.{IsUtf8-drop, IsCharBoundary-from_rest}
use Rattle.line_buffer.specs.Clusters.{clusters}
use Rattle.line_buffer.specs.LetterCase.{word_to_edit, word_in_case, recase, edit_word as recased_in}
use Rattle.line_buffer.specs.Line.{Line, text_after, with_cursor_at}
use Rattle.line_buffer.specs.Event.{replacement, text_after_event, text_after_events}
use Rattle.line_buffer.specs.Transpositions.{WordPair, after_words, before_words, words_around, swap as swapped_in, transposes_words, transpose_words as exchanged_in, before_transposed}
use Rattle.line_buffer.specs.Words.{is_alphanumeric_cluster, prev_word, next_word}
use Rattle.line_buffer.specs.declared.types.At.TheVariants.{AfterEnd}
use Rattle.line_buffer.specs.declared.types.Word.TheVariants.{Emacs}
use Rattle.line_buffer.specs.declared.types.WordAction.{WordAction}
use Rattle.line_buffer.proofs.PartLemmas.{IsPartAt, All-IsPartAt}
use Rattle.line_buffer.proofs.ReplayedLemmas.{replayed_all-none, replayed_all-one, replayed_all-first, replayed_replacement}
use Rattle.line_buffer.proofs.SpanLemmas.{IsEarlier, IsLater, prev_word-earlier, next_word-later}

-- ---- motions by words

moved_on : (o : Option ℕ) (l : Line) → IsCharBoundary l.text l.place → IfSome o (IsLater l) → IsLater l (with_cursor_at o l).place
moved_on None l b h = (b, omega arith)
moved_on (Some i) l b h = h

moved_back : (o : Option ℕ) (l : Line) → IsCharBoundary l.text l.place → IfSome o (IsEarlier l) → IsEarlier l (with_cursor_at o l).place
moved_back None l b h = (b, omega arith)
moved_back (Some i) l b h = h

after_later : (n : ℕ) (l : Line) → IsUtf8 l.text → IsCharBoundary l.text l.place → IsLater l (after_words n l).place
unfolding after_words
after_later n l u b = moved_on (next_word AfterEnd Emacs n l) l b (next_word-later l u b AfterEnd Emacs n)

before_earlier : (n : ℕ) (l : Line) → IsUtf8 l.text → IsCharBoundary l.text l.place → IsEarlier l (before_words n l).place
unfolding before_words
before_earlier n l u b = moved_back (prev_word Emacs n l) l b (prev_word-earlier l u b Emacs n)

-- ---- words exchanged

record Lies (p : WordPair) (text : List ℕ) : Type 0 where
  first : p.first.0 ≤ p.first.1
  second : p.second.0 ≤ p.second.1
  inside : p.second.1 ≤ length text

words_lie : (n : ℕ) (l : Line) → IsUtf8 l.text → IsCharBoundary l.text l.place → Lies (words_around n l) l.text
unfolding after_words before_words
words_lie n l u b =
    let behind = after_later n l u b in
    let second = before_earlier 1 (after_words n l) u behind.0 in
    let first = before_earlier n (before_words 1 (after_words n l)) u second.0 in
    let past = after_later 1 (before_words n (before_words 1 (after_words n l))) u first.0 in
    record { first = past.1; second = second.1; inside = behind.0.0 }

swap_replays : (p : WordPair) (l : Line) → Lies p l.text → p.first.1 ≤ p.second.0 → text_after_events (swapped_in p l).events l.text ≡ (swapped_in p l).line.text
swap_replays p l lies apart =
    let first : List ℕ = slice_range l.text p.first.0 p.first.1 in
    let second : List ℕ = slice_range l.text p.second.0 p.second.1 in
    let between : List ℕ = replace_range l.text p.second.0 p.second.1 first in
    let long = length-replace_range l.text p.second.0 p.second.1 first lies.second lies.inside in
    replayed_all-first _ _ l.text ∙ replayed_all-one _ _
    ∙ ap (text_after_event (replacement p.first.0 p.first.1 second between)) (replayed_replacement l.text p.second.0 p.second.1 first lies.second lies.inside)
    ∙ replayed_replacement between p.first.0 p.first.1 second lies.first (omega (arith, long, lies.second, lies.inside, apart))

pub transpose_words_replays : (n : ℕ) (l : Line) → IsUtf8 l.text → IsCharBoundary l.text l.place → text_after_events (exchanged_in n l).events l.text ≡ (exchanged_in n l).line.text
unfolding after_words before_words
transpose_words_replays n l u b = by_test (transposes_words n l) refl
  where
    by_test : (t : Bool) → transposes_words n l ≡ t → text_after_events (if t then (swapped_in (words_around n l) l).events else []) l.text ≡ (if t then (swapped_in (words_around n l) l).line else before_transposed n l).text
    by_test true e =
        let p : WordPair = words_around n l in
        swap_replays p l (words_lie n l u b) (leb-true p.first.1 p.second.0 (and_parts (not (p.first.0 == p.second.0)) (nat_le p.first.1 p.second.0) e).1)
    by_test false e = replayed_all-none l.text

-- ---- a word in other letters

found_one : {A : Type 0} (P : A → Type 0) (p : A → Bool) (xs : List A) → All P xs → IfSome (find p xs) P
found_one P p [] h = tt
found_one P p (x ∷ xs) h = by_test (p x) (found_one P p xs (All-tail P x xs h))
  where
    by_test : (t : Bool) → IfSome (find p xs) P → IfSome (cond t (Some x) (find p xs)) P
    by_test true later = All-head P x xs h
    by_test false later = later

abbrev IsWordIn : List ℕ → ℕ × ℕ → Type 0
IsWordIn text word = (word.0 ≤ word.1) × (word.1 ≤ length text)

end_lies : (l : Line) → IsUtf8 l.text → IsCharBoundary l.text l.place → IsLater l (unwrap_or (next_word AfterEnd Emacs 1 l) l.place)
end_lies l u b = moved_on (next_word AfterEnd Emacs 1 l) l b (next_word-later l u b AfterEnd Emacs 1)

word_lies : (o : Option (ℕ × List ℕ)) (l : Line) → IsUtf8 l.text → IsCharBoundary l.text l.place → IfSome o (IsPartAt (text_after l))
    → IfSome (option_map (λ i. (i, unwrap_or (next_word AfterEnd Emacs 1 (record l { place = i })) i)) (option_map (λ x. l.place + x.0) o)) (IsWordIn l.text)
word_lies None l u b h = tt
word_lies (Some x) l u b h =
    let end = end_lies (record l { place = l.place + x.0 }) u (IsCharBoundary-from_rest l.text l.place x.0 b.0 h.start) in
    (end.1, end.0.0)

recase_replays : (action : WordAction) (o : Option (ℕ × ℕ)) (l : Line) → IfSome o (IsWordIn l.text) → text_after_events (recase action o l).events l.text ≡ (recase action o l).line.text
recase_replays action None l h = replayed_all-none l.text
recase_replays action (Some word) l h = replayed_all-one _ l.text ∙ replayed_replacement l.text word.0 word.1 (word_in_case action (slice_range l.text word.0 word.1)) h.0 h.1

pub edit_word_replays : (action : WordAction) (l : Line) → IsUtf8 l.text → IsCharBoundary l.text l.place → text_after_events (recased_in action l).events l.text ≡ (recased_in action l).line.text
edit_word_replays action l u b =
    recase_replays action (word_to_edit l) l (word_lies (find (λ x. is_alphanumeric_cluster x.1) (clusters (text_after l))) l u b
    (found_one (IsPartAt (text_after l)) (λ x. is_alphanumeric_cluster x.1) (clusters (text_after l)) (All-IsPartAt (text_after l) (IsUtf8-drop l.text l.place u b))))
