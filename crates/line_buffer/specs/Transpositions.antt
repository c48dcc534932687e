-- Transpositions of two parts of a text: the clusters at the cursor, or the words around it.
use Rattle.std.specs.Prelude.{⊤, ℕ, ◌+◌, ◌==◌, ◌&&◌, not, nat_lt, nat_le, true, Bool, if◌then◌else◌, List, [], ◌∷◌, ◌++◌, length, slice_range, unwrap_or}
use Rattle.std.specs.List.{replace_range}
use Rattle.unicode_segmentation.specs.Grapheme.{graphemes}
use Rattle.line_buffer.specs.declared.types.At.TheVariants.{AfterEnd}
use Rattle.line_buffer.specs.declared.types.Word.TheVariants.{Emacs}
use Rattle.line_buffer.specs.Clusters.{place_forward, place_backward}
use Rattle.line_buffer.specs.Edit.{Edit}
use Rattle.line_buffer.specs.Line.{Line, text_before, text_after, with_cursor_at, with_replacement}
use Rattle.line_buffer.specs.Event.{replacement}
use Rattle.line_buffer.specs.Words.{prev_word, next_word}

-- the cursor between the two clusters to transpose: one cluster back at the text's end
abbrev pub between_clusters : Line → Line
between_clusters l = if l.place == length l.text then with_cursor_at (place_backward 1 l) l else l

-- where the cluster before a place starts, the place, and where the cluster after it ends
abbrev pub clusters_at : Line → ℕ × ℕ × ℕ
clusters_at l =
    (unwrap_or (place_backward 1 l) l.place, l.place, unwrap_or (place_forward 1 l) l.place)

-- how many clusters are before the cursor and after it, each text split by itself
abbrev pub clusters_around : Line → ℕ
clusters_around l = length (graphemes true (text_before l)) + length (graphemes true (text_after l))

-- the cursor is after a cluster, and there are at least two
abbrev pub transposes_chars : Line → Bool
transposes_chars l = not (l.place == 0) && nat_lt 1 (clusters_around l)

-- two adjacent parts, the later one first
abbrev pub later_first : ℕ × ℕ × ℕ → List ℕ → List ℕ
later_first parts text = slice_range text parts.1 parts.2 ++ slice_range text parts.0 parts.1

abbrev pub transpose_chars : Line → Edit Bool
transpose_chars l =
    let parts = clusters_at (between_clusters l) in
    let swapped = later_first parts l.text in
    record {
      answer = transposes_chars l;
      events = if transposes_chars l then replacement parts.0 parts.2 swapped l.text ∷ [] else [];
      line = if transposes_chars l then with_replacement parts.0 parts.2 swapped l else l;
    }

-- the cursor after the n-th later end of a word, and at the n-th earlier start of one
unfoldable pub after_words : ℕ → Line → Line
after_words n l = with_cursor_at (next_word AfterEnd Emacs n l) l

unfoldable pub before_words : ℕ → Line → Line
before_words n l = with_cursor_at (prev_word Emacs n l) l

-- two parts of a text, each by its start and its end
pub record WordPair : Type 0 where
  pub first : ℕ × ℕ
  pub second : ℕ × ℕ

-- the word at or after the cursor, the n-th by its end, and the one n words before it
abbrev pub words_around : ℕ → Line → WordPair
words_around n l =
    let last = after_words n l in
    let second = before_words 1 last in
    let first = before_words n second in
    record {
      first = (first.place, (after_words 1 first).place);
      second = (second.place, last.place);
    }

-- the cursor after the first of these words
abbrev pub before_transposed : ℕ → Line → Line
before_transposed n l = record l { place = (words_around n l).first.1 }

-- the later part first, so that the earlier one is still at its place; the cursor goes after both
abbrev pub swap : WordPair → Line → Edit ⊤
swap p l =
    let first = slice_range l.text p.first.0 p.first.1 in
    let second = slice_range l.text p.second.0 p.second.1 in
    let between = replace_range l.text p.second.0 p.second.1 first in
    record {
      answer = tt;
      events = replacement p.second.0 p.second.1 first l.text
          ∷ (replacement p.first.0 p.first.1 second between ∷ []);
      line = record l
          { text = replace_range between p.first.0 p.first.1 second; place = p.second.1 };
    }

-- the words are two, one before the other
abbrev pub transposes_words : ℕ → Line → Bool
transposes_words n l =
    let p = words_around n l in not (p.first.0 == p.second.0) && nat_le p.first.1 p.second.0

-- the cursor moves after the first word, where the events begin, and stays there if there are none
abbrev pub transpose_words : ℕ → Line → Edit Bool
transpose_words n l =
    let swapped = swap (words_around n l) l in
    record {
      answer = transposes_words n l;
      events = if transposes_words n l then swapped.events else [];
      line = if transposes_words n l then swapped.line else before_transposed n l;
    }
