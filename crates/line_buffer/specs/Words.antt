-- Where words start and end, and the places to which motions by words lead.
use Rattle.std.specs.Prelude.{◌≡◌, ℕ, ◌+◌, ◌==◌, ◌<◌, Bool, true, false, not, ◌||◌, if◌then◌else◌, List, [], ◌∷◌, ◌++◌, length, map, reverse, take, drop, chars, IsCharBoundary, bytes_eq, Option, None, Some, option_map, option_to_list}
use Rattle.std.specs.List.{list_all, last_or}
use Rattle.std.specs.Char.{is_ascii_alphanumeric, is_ascii_graphic, is_whitespace}
use Rattle.unicode_segmentation.specs.Grapheme.{graphemes}
use Rattle.unicode_segmentation.specs.Segments.{is_alphanumeric, with_offsets}
use Rattle.line_buffer.specs.declared.types.At.{At}
use Rattle.line_buffer.specs.declared.types.At.TheVariants.{Start, BeforeEnd, AfterEnd}
use Rattle.line_buffer.specs.declared.types.Word.{Word}
use Rattle.line_buffer.specs.declared.types.Word.TheVariants.{Big, Emacs, Vi}
use Rattle.line_buffer.specs.declared.words.ClusterKind.{ClusterKind}
use Rattle.line_buffer.specs.declared.words.ClusterKind.TheVariants.{Blank, InWord, Other}
use Rattle.line_buffer.specs.Line.{Line, text_before, text_after}
use Rattle.line_buffer.specs.Clusters.{clusters, nth_or_last}

-- all its characters are Alphabetic or numbers
abbrev pub is_alphanumeric_cluster : List ℕ → Bool
is_alphanumeric_cluster cluster = list_all is_alphanumeric (chars cluster)

abbrev pub has_no_whitespace : List ℕ → Bool
has_no_whitespace cluster = list_all (λ c. not (is_whitespace c)) (chars cluster)

-- the kind of a cluster: part of a word, blank, or for Vi also part of a run of other clusters
abbrev pub kind_of : Word → List ℕ → ClusterKind
kind_of Emacs cluster = if is_alphanumeric_cluster cluster then InWord else Blank
kind_of Big cluster = if has_no_whitespace cluster then InWord else Blank
kind_of Vi cluster =
    if is_alphanumeric_cluster cluster || bytes_eq cluster (95 ∷ []) then InWord
    else (if has_no_whitespace cluster then Other else Blank)

-- the visible bytes of ASCII that are in a word, as clusters of one byte
abbrev pub is_word_byte : Word → ℕ → Bool
is_word_byte Emacs byte = is_ascii_alphanumeric byte
is_word_byte Big byte = is_ascii_graphic byte
is_word_byte Vi byte = is_ascii_alphanumeric byte || (byte == 95)

-- a word starts between clusters of these kinds
abbrev pub starts_between : ClusterKind → ClusterKind → Bool
starts_between x Blank = false
starts_between InWord InWord = false
starts_between Other Other = false
starts_between x y = true

-- the clusters of a text by their places and kinds
abbrev pub kinds : Word → List (ℕ × List ℕ) → List (ℕ × ClusterKind)
kinds word pieces = map (λ x. (x.0, kind_of word x.1)) pieces

-- the clusters of a text from a place on are of one kind, and what stands before the place is cut
-- into clusters as it is alone
pub record EndsInRun (word : Word) (text : List ℕ) (at : ℕ) (kind : ClusterKind) : Type 0 where
  pub start : IsCharBoundary text at
  pub shorter : at < length text
  pub later : List ℕ
  pub splits : kinds word (clusters text) ≡
      kinds word (clusters (take at text)) ++ map (λ i. (i, kind)) (at ∷ later)

-- the place between two neighbours, if such a motion can stop there; a word ends where one would
-- start in the other direction
abbrev pub edge_between : At → ℕ × ClusterKind → ℕ × ClusterKind → Option ℕ
edge_between Start x y = if starts_between x.1 y.1 then Some y.0 else None
edge_between BeforeEnd x y = if starts_between y.1 x.1 then Some x.0 else None
edge_between AfterEnd x y = if starts_between y.1 x.1 then Some y.0 else None

-- the places at which such a motion can stop inside a text
abbrev pub edges_of : At → List (ℕ × ClusterKind) → List ℕ
edges_of at (x ∷ (y ∷ xs)) = option_to_list (edge_between at x y) ++ edges_of at (y ∷ xs)
edges_of at _ = []

-- the clusters of a text that stands at this place
abbrev pub clusters_at : ℕ → List ℕ → List (ℕ × List ℕ)
clusters_at from text = with_offsets from (graphemes true text)

-- the first clusters of a text are of one kind, and the last of them stands from `last` to `end`:
-- a motion over the text can stop before the first, if something stands there, and where it can
-- over the last and the clusters of the text behind it
pub record BeginsInRun (word : Word) (text : List ℕ) (last end : ℕ) (kind : ClusterKind) : Type 0
  where
    pub boundary : IsCharBoundary text end
    pub some : last < end
    pub first : (at : At) (from : ℕ) → edges_of at (kinds word (clusters_at from text))
        ≡ edges_of at ((from + last, kind) ∷ kinds word (clusters_at (from + end) (drop end text)))
    pub splits : (at : At) (from : ℕ) (left : ℕ × ClusterKind)
        → edges_of at (left ∷ kinds word (clusters_at from text))
        ≡ option_to_list (edge_between at left (from, kind)) ++
        edges_of at ((from + last, kind) ∷ kinds word (clusters_at (from + end) (drop end text)))

-- the start of a text and its end, if it isn't empty
abbrev pub text_start : List ℕ → List ℕ
text_start text = if length text == 0 then [] else 0 ∷ []

abbrev pub text_end : List ℕ → List ℕ
text_end text = if length text == 0 then [] else length text ∷ []

-- where a motion back over a text can stop, nearest first: at each start of a word or of the text
abbrev pub stops_back : Word → List ℕ → List ℕ
stops_back word text = reverse (text_start text ++ edges_of Start (kinds word (clusters text)))

-- where a motion over a text can stop inside it: at each start of a word, after its end, or at its
-- last cluster (never at the text's first one). With Emacs words the place after the end counts as
-- the last cluster
abbrev pub inner_stops : At → Word → List ℕ → List ℕ
inner_stops BeforeEnd Emacs text = edges_of AfterEnd (kinds Emacs (clusters text))
inner_stops BeforeEnd word text = edges_of BeforeEnd (kinds word (drop 1 (clusters text)))
inner_stops at word text = edges_of at (kinds word (clusters text))

-- where it stops at last: at the end, or at the place of the last cluster, unless it is the first
abbrev pub last_stop : At → Word → List ℕ → List ℕ
last_stop AfterEnd word text = text_end text
last_stop at Emacs text = text_end text
last_stop at word text =
    option_to_list (option_map (λ x. x.0) (last_or None (drop 1 (clusters text))))

abbrev pub stops_forward : At → Word → List ℕ → List ℕ
stops_forward at word text = inner_stops at word text ++ last_stop at word text

-- the place of the n-th earlier word
abbrev pub prev_word : Word → ℕ → Line → Option ℕ
prev_word word n l = nth_or_last n (stops_back word (text_before l))

-- the place of the n-th later word
abbrev pub next_word : At → Word → ℕ → Line → Option ℕ
next_word at word n l =
    option_map (λ i. l.place + i) (nth_or_last n (stops_forward at word (text_after l)))
