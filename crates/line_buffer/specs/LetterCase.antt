-- Changes of the case of a word's letters.
use Rattle.std.specs.Prelude.{ℕ, ◌+◌, List, [], ◌∷◌, ◌++◌, length, take, drop, slice_range, find, Bool, true, false, Option, None, Some, option_map, unwrap_or}
use Rattle.std.specs.Str.{str_to_ascii_lowercase, str_to_ascii_uppercase}
use Rattle.line_buffer.specs.declared.types.At.TheVariants.{AfterEnd}
use Rattle.line_buffer.specs.declared.types.Word.TheVariants.{Emacs}
use Rattle.line_buffer.specs.declared.types.WordAction.{WordAction}
use Rattle.line_buffer.specs.declared.types.WordAction.TheVariants.{Capitalize, Lowercase, Uppercase}
use Rattle.line_buffer.specs.Clusters.{clusters, cluster_ends, nth_or_last}
use Rattle.line_buffer.specs.Edit.{Edit}
use Rattle.line_buffer.specs.Line.{Line, text_after, with_replacement}
use Rattle.line_buffer.specs.Event.{replacement}
use Rattle.line_buffer.specs.Words.{is_alphanumeric_cluster, next_word}

-- the place of the first cluster of a word at the cursor or after it
abbrev pub word_at_or_after : Line → Option ℕ
word_at_or_after l =
    option_map (λ x. l.place + x.0)
    (find (λ x. is_alphanumeric_cluster x.1) (clusters (text_after l)))

-- that word's place and end, if there is one
abbrev pub word_to_edit : Line → Option (ℕ × ℕ)
word_to_edit l =
    option_map (λ i. (i, unwrap_or (next_word AfterEnd Emacs 1 (record l { place = i })) i))
    (word_at_or_after l)

-- how many bytes at the front of a word become uppercase; the others become lowercase
abbrev pub uppercase_len : WordAction → List ℕ → ℕ
uppercase_len Capitalize word = unwrap_or (nth_or_last 1 (cluster_ends word)) 0
uppercase_len Lowercase word = 0
uppercase_len Uppercase word = length word

-- only ASCII letters change
abbrev pub word_in_case : WordAction → List ℕ → List ℕ
word_in_case action word =
    str_to_ascii_uppercase (take (uppercase_len action word) word)
    ++ str_to_ascii_lowercase (drop (uppercase_len action word) word)

abbrev pub recase : WordAction → Option (ℕ × ℕ) → Line → Edit Bool
recase action None l = record { answer = false; events = []; line = l }
recase action (Some word) l =
    let edited = word_in_case action (slice_range l.text word.0 word.1) in
    record {
      answer = true;
      events = replacement word.0 word.1 edited l.text ∷ [];
      line = with_replacement word.0 word.1 edited l;
    }

abbrev pub edit_word : WordAction → Line → Edit Bool
edit_word action l = recase action (word_to_edit l) l
