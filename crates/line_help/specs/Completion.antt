-- A completer's answer: where the word starts, and what may replace it; and an update of the line.
use Rattle.std.specs.Prelude.{◌≡◌, ◌⊎◌, ℕ, List, [], map, Result, OnOk, OnErr, ◌==◌, Bool, false, if◌then◌else◌, ◌∷◌, length, reverse, Option, Some, None, encode_utf8_all, take, nat_eq, ◌≢◌, IsTrue, ◌++◌, IsUtf8, All, filter, drop, nat_lt}
use Rattle.std.specs.Global.{Vec}
use Rattle.line_buffer.specs.Event.{ChangeEvent, Replays, replacement}
use Rattle.line_buffer.specs.Line.{Line, with_replacement}
use Rattle.std.specs.List.{list_any, common_prefix_len, starts_with}
use Rattle.std.specs.Option.{option_map_or}
use Rattle.std.specs.Str.{chars}
use Rattle.std.specs.Char.{IsScalar, is_whitespace}
use Rattle.line_help.specs.Quotes.{text_without_escapes, text_with_escapes}
use Rattle.line_help.specs.declared.completion.quotes.Quote.{Quote}
use Rattle.line_help.specs.declared.completion.quotes.Quote.TheVariants.{Single}
use Rattle.line_keys.specs.Replies.{Reply}
use Rattle.std.specs.Fmt.Cut.{floor_char_boundary}

-- a candidate: the text to list, the text to insert, and the one to insert if it is the only one
pub record Offered : Type 0 where
  pub display : List ℕ
  pub replacement : List ℕ
  pub alone : List ℕ

pub record Completion : Type 0 where
  pub start : ℕ
  pub candidates : List Offered

-- a text to list and to insert
abbrev pub text_offered : List ℕ → Offered
text_offered text = record { display = text; replacement = text; alone = text }

-- a word, which ends in a text if there is no other candidate
abbrev pub word_offered : List ℕ → List ℕ → Offered
word_offered end word = record { display = word; replacement = word; alone = word ++ end }

abbrev pub nothing_offered : Completion
nothing_offered = record { start = 0; candidates = [] }

-- where the word starts, and the texts of its candidates
abbrev pub completion_by : {C : Type 0} → (C → Offered) → ℕ × Vec C → Completion
completion_by offers found = record { start = found.0; candidates = map offers found.1.items }

-- a text replaced the line from a place to the cursor, after the listener was notified. Or the line
-- stays, and so does the listener, unless it failed on the change
pub record Updates {L A E : Type 0} (takes refuses : L → ChangeEvent → L → Type 0)
    (start : ℕ) (elected : List ℕ) (listener listener' : L)
    (line line' : Line) (result : Result A E) : Type 0 where
  pub told : OnOk result
      (takes listener (replacement start line.place elected line.text) listener')
  pub replays : OnOk result
      (Replays (replacement start line.place elected line.text) line.text line'.text)
  pub becomes : OnOk result (line' ≡ with_replacement start line.place elected line)
  pub refused : OnErr result ((listener' ≡ listener)
      ⊎ refuses listener (replacement start line.place elected line.text) listener')
  pub stays : OnErr result (line' ≡ line)

-- whether a character is the escape
abbrev pub is_escape : Option ℕ → ℕ → Bool
is_escape esc c = option_map_or (λ e. c == e) esc false

-- the text before the last word, both read from the end: from the nearest unescaped break on
abbrev pub before_word : Option ℕ → (ℕ → Bool) → List ℕ → List ℕ
before_word esc breaks [] = []
before_word esc breaks (c ∷ []) = if breaks c then c ∷ [] else []
before_word esc breaks (c ∷ (d ∷ cs)) = if breaks c
    then (if is_escape esc d then before_word esc breaks cs else c ∷ (d ∷ cs))
    else before_word esc breaks (d ∷ cs)

-- where the last word of a text begins
abbrev pub word_start : Option ℕ → (ℕ → Bool) → List ℕ → ℕ
word_start esc breaks text =
    length (encode_utf8_all (reverse (before_word esc breaks (reverse (chars text)))))

-- what ends a word in a shell: space, tab, newline, " \ ' ` @ $ > < = ; | & { ( and NUL
abbrev pub break_characters : List ℕ
break_characters =
    32 ∷ 9 ∷ 10 ∷ 34 ∷ 92 ∷ 39 ∷ 96 ∷ 64 ∷ 36 ∷ 62 ∷ 60 ∷ 61 ∷ 59 ∷ 124 ∷ 38 ∷ 123 ∷ 40 ∷ 0 ∷ []

-- those that keep their meaning between double quotes: " $ \ `
abbrev pub double_quote_characters : List ℕ
double_quote_characters = 34 ∷ 36 ∷ 92 ∷ 96 ∷ []

abbrev pub is_among : List ℕ → ℕ → Bool
is_among cs c = list_any (λ d. c == d) cs

-- the common prefix of two texts, in whole characters
abbrev pub common_beginning : List ℕ → List ℕ → List ℕ
common_beginning text other =
    take (floor_char_boundary text (common_prefix_len nat_eq text other)) text

abbrev pub common_to_all : List ℕ → List (List ℕ) → List ℕ
common_to_all text [] = text
common_to_all text (other ∷ others) = common_to_all (common_beginning text other) others

abbrev pub unless_empty : List ℕ → Option (List ℕ)
unless_empty [] = None
unless_empty (b ∷ bs) = Some (b ∷ bs)

-- the common prefix of a single text is the text, even if it is empty
abbrev pub longest_common_prefix : List (List ℕ) → Option (List ℕ)
longest_common_prefix [] = None
longest_common_prefix (text ∷ []) = Some text
longest_common_prefix (text ∷ (other ∷ others)) = unless_empty (common_to_all text (other ∷ others))

-- an escaped text, unescaped, is the text again, if the escape character is itself escaped
abbrev pub EscapesComeBack : Type 0
EscapesComeBack = (text : List ℕ) (esc : ℕ) (breaks : ℕ → Bool) (quote : Quote)
    → IsUtf8 text → IsScalar esc → IsTrue (breaks esc) → quote ≢ Single
    → text_without_escapes (text_with_escapes text (Some esc) breaks quote) (Some esc) ≡ text

-- one text is a prefix of another
abbrev pub BeginsText : List ℕ → List ℕ → Type 0
BeginsText front text = (rest : List ℕ) × (text ≡ front ++ rest)

-- the common prefix is a text and a prefix of each; each other text that is so is a prefix of it
abbrev pub CommonBeginningIsLongest : Type 0
CommonBeginningIsLongest = (text : List ℕ) (others : List (List ℕ)) → IsUtf8 text →
    IsUtf8 (common_to_all text others)
    × All (BeginsText (common_to_all text others)) (text ∷ others)
    × ((front : List ℕ) → IsUtf8 front → All (BeginsText front) (text ∷ others)
    → BeginsText front (common_to_all text others))

abbrev pub words_for : List ℕ → List (List ℕ) → List (List ℕ)
words_for beginning words = filter (λ word. starts_with nat_eq word beginning) words

-- the completion of a text's last word by words, each as it is offered; candidates take memory
abbrev pub words_reply : (List ℕ → Offered) → List (List ℕ) → List ℕ → Reply Completion
words_reply offers words text =
    let start : ℕ = word_start None is_whitespace text in
    let offered : List Offered = map offers (words_for (drop start text) words) in record {
      answer = Some (record { start = start; candidates = offered });
      takes = nat_lt 0 (length offered);
    }

-- words, and what ends one that is the only candidate
pub record WholeWords : Type 0 where
  pub words : List (List ℕ)
  pub end : List ℕ
