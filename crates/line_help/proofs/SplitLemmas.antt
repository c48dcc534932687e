-- Splitting a text with control sequences: what each step of its loops leaves.
use Rattle.std.proofs.Common.{cond, ◌≡◌, ◌≢◌, ◌<◌, ◌≤◌, ℕ, zero, suc, ◌+◌, ◌-◌, ◌==◌, true, false, List, [], ◌∷◌, ◌++◌, length, length-append, get_or, map, replicate, Option, None, Some, option_map, refl, sym, ap, ◌∙◌, append_assoc, arith, ne_eqb, subst}
use Rattle.std.proofs.Math.Seq.{take-append_seam}
use Rattle.std.specs.Str.{IsUtf8, IsCharBoundary}
use Rattle.std.proofs.lemmas.Bool.{cond_both}
use Rattle.std.proofs.lemmas.Str.{IsCharBoundary-after_ascii}
use Rattle.std.proofs.lemmas.Grind.{common_steps}
use Rattle.std.proofs.lemmas.List.{append-nil, length-replicate, replicate-append-replicate}
use Rattle.std.proofs.lemmas.List.Sums.{sum_by-cons}
use Rattle.std.specs.Prelude.{sum_by}
use Rattle.std.specs.Int.{is_in_range}
use Rattle.line_help.specs.declared.helpers.style.Span.{Span}
use Rattle.line_help.specs.declared.helpers.style.Style.{Style}
use Rattle.line_help.specs.declared.helpers.style_split.Open.{Open}
use Rattle.line_help.specs.declared.helpers.style_split.Open.TheVariants.{Kind, Index, Parts, OnePart, TwoParts}
use Rattle.line_help.specs.Paints.{plain, span_styles}
use Rattle.line_help.specs.SplitStyles.{Piece, TextStays, SpansFit, final_len, sequence_len, pieces_after, style_after_numbers, numbers_in, style_after, text_of, styles_of, Differ, open_numbers, styles_so_far}
use Rattle.line_help.specs.SplitStyles.Piece.{Byte, Sequence}
use Rattle.line_help.proofs.FoundLemmas.{mapped}

-- ---- the end of a control sequence

-- such a length, if it counts from a place
abbrev pub counted : ℕ → Option ℕ → Option ℕ
counted place found = option_map (λ n. place + n) found

-- its last byte is an ASCII one
record EndsAt (bs : List ℕ) (n : ℕ) : Type 0 where
  some : 0 < n
  within : n ≤ length bs
  ascii : get_or bs (n - 1) 0 < 128

one_more : (b : ℕ) (bs : List ℕ) (m n : ℕ) → EndsAt bs m → n ≡ suc m → EndsAt (b ∷ bs) n
one_more b bs m n ends e =
    let some : 0 < m = ends.some in
    let back : suc m - 1 ≡ suc (m - 1) = omega arith in
    rw e (record { some = omega arith; within = omega (arith, ends.within); ascii = rw back ends.ascii })

below : (b : ℕ) → is_in_range 0x40 0x7E b ≡ true → b < 128
below b is = grind (arith, common_steps)

ends_at : (bs : List ℕ) (n : ℕ) → final_len bs ≡ Some n → EndsAt bs n
ends_at [] n e = cc
ends_at (b ∷ bs) n e =
    cond_both (is_in_range 0x40 0x7E b) (Some 1) (cond (is_in_range 0x20 0x3F b) (option_map suc (final_len bs)) None)
    (λ found. found ≡ Some n → EndsAt (b ∷ bs) n)
    (λ final same. let one : n ≡ 1 = cc in rw one (record { some = omega arith; within = omega arith; ascii = below b final }))
    (λ _. cond_both (is_in_range 0x20 0x3F b) (option_map suc (final_len bs)) None (λ found. found ≡ Some n → EndsAt (b ∷ bs) n)
    (λ _ more. let found = mapped suc (final_len bs) n more in one_more b bs found.0 n (ends_at bs found.0 found.1) found.2) (λ _ none. absurd cc)) e

pub final_boundary : (bs : List ℕ) (n : ℕ) → IsUtf8 bs → final_len bs ≡ Some n → IsCharBoundary bs n
final_boundary bs n utf8 e =
    let ends = ends_at bs n e in
    let back : (n - 1) + 1 ≡ n = omega (arith, ends.some) in
    subst (λ k. IsCharBoundary bs k) back (IsCharBoundary-after_ascii bs (n - 1) utf8 (omega (arith, ends.some, ends.within)) ends.ascii)

pub no_bracket : (after : List ℕ) → ((rest : List ℕ) → after ≢ 0x5B ∷ rest) → sequence_len 0x1B after ≡ 0
no_bracket [] none = refl
no_bracket (c ∷ bs) none =
    let other : (c == 0x5B) ≡ false = ne_eqb c 0x5B (λ e. none bs (ap (λ d. d ∷ bs) e)) in
    rw other refl

-- ---- the numbers of a sequence

-- the style at its end, if these bytes are left
abbrev pub read_by : Style → Style → Open → Option (List ℕ) → Style
read_by s changed begun None = s
read_by s changed begun (Some ns) = style_after_numbers 0 (open_numbers begun ++ ns) changed

abbrev pub reading : Style → Style → Open → ℕ → List ℕ → Style
reading s changed begun n bs = read_by s changed begun (numbers_in n bs)

-- a number is taken
abbrev pub TakesNumber : Style → Open → ℕ → Style → Open → Type 0
TakesNumber changed begun n after left = (ns : List ℕ)
    → style_after_numbers 0 (open_numbers begun ++ (n ∷ ns)) changed ≡ style_after_numbers 0 (open_numbers left ++ ns) after

-- a colour that has begun and isn't whole changes nothing
pub none_begun : (s : Style) (begun : Open) → style_after_numbers 0 (open_numbers begun ++ []) s ≡ s
none_begun s (Kind true) = refl
none_begun s (Index true) = refl
none_begun s (Parts true) = refl
none_begun s (OnePart true r) = refl
none_begun s (TwoParts true r g) = refl
none_begun s begun = refl

pub at_end : (s changed after : Style) (begun left : Open) (n : ℕ) (bs : List ℕ) → TakesNumber changed begun n after left
    → reading s changed begun n (0x6D ∷ bs) ≡ after
at_end s changed after begun left n bs takes = takes [] ∙ none_begun after left

-- ---- spans

pub differ_more : (spans : List Span) (n : ℕ) (s t : Style) → Differ spans s → 0 < n → s ≢ t
    → Differ (spans ++ (record { len = n; style = s } ∷ [])) t
differ_more [] n s t differ some other = (some, other)
differ_more (span ∷ []) n s t differ some other = (differ.0, differ.1, (some, other))
differ_more (span ∷ (next ∷ spans)) n s t differ some other =
    (differ.0, differ.1, differ_more (next ∷ spans) n s t differ.2 some other)

pub put_styles : (len start n more : ℕ) (spans : List Span) (stands s : Style) (styles : List Style) → more ≡ len + n → start ≤ len → stands ≡ s
    → styles_so_far len start spans stands ≡ styles → styles_so_far more start spans stands ≡ styles ++ replicate n s
put_styles len start n more spans stands s styles e within is so_far =
    let grown : more - start ≡ (len - start) + n = omega arith in
    rw (grown, ← is, ← so_far) (ap (λ later. span_styles spans ++ later) (sym (replicate-append-replicate (len - start) n stands))
    ∙ sym (append_assoc (span_styles spans) (replicate (len - start) stands) (replicate n stands)))

-- ---- pieces

no_sequence : (b : ℕ) (bs : List ℕ) → b ≢ 0x1B → sequence_len b bs ≡ 0
no_sequence b [] other = refl
no_sequence b (c ∷ bs) other = rw (ne_eqb b 0x1B other) refl

pub front_pieces : (front tail : List ℕ) → ((i : ℕ) → i < length front → get_or front i 0 ≢ 0x1B)
    → pieces_after 0 (front ++ tail) ≡ map Byte front ++ pieces_after 0 tail
front_pieces [] tail none = refl
front_pieces (b ∷ bs) tail none =
    rw (no_sequence b (bs ++ tail) (none 0 (omega arith)))
    (ap (λ pieces. Byte b ∷ pieces) (front_pieces bs tail (λ i below. none (suc i) (omega arith))))

pub text_of_front : (front : List ℕ) (pieces : List Piece) → text_of (map Byte front ++ pieces) ≡ front ++ text_of pieces
text_of_front [] pieces = refl
text_of_front (b ∷ bs) pieces = ap (λ text. b ∷ text) (text_of_front bs pieces)

pub styles_of_front : (s : Style) (front : List ℕ) (pieces : List Piece)
    → styles_of s (map Byte front ++ pieces) ≡ replicate (length front) s ++ styles_of s pieces
styles_of_front s [] pieces = refl
styles_of_front s (b ∷ bs) pieces = ap (λ styles. s ∷ styles) (styles_of_front s bs pieces)

passed_whole : (sequence behind : List ℕ) → pieces_after (length sequence) (sequence ++ behind) ≡ pieces_after 0 behind
passed_whole [] behind = refl
passed_whole (b ∷ bs) behind = passed_whole bs behind

-- no ESC stands in a text
abbrev pub NoEscape : List ℕ → Type 0
NoEscape text = (i : ℕ) → i < length text → get_or text i 0 ≢ 0x1B

-- what pieces give, byte by byte: the text, or the style of each byte
pub record Bytewise {X : Type 0} (given : List Piece → List X) : Type 0 where
  of_bytes : List ℕ → List X
  of_none : given [] ≡ []
  of_front : (front : List ℕ) (pieces : List Piece) → given (map Byte front ++ pieces) ≡ of_bytes front ++ given pieces

abbrev pub as_text : Bytewise text_of
as_text = record { of_bytes = λ bytes. bytes; of_none = refl; of_front = text_of_front }

abbrev pub as_styles : (s : Style) → Bytewise (styles_of s)
as_styles s = record { of_bytes = λ bytes. replicate (length bytes) s; of_none = refl; of_front = styles_of_front s }

module _ {X : Type 0} {given : List Piece → List X} (by : Bytewise given) (old : List X) (rest front : List ℕ) where
  step : (tail : List ℕ) → rest ≡ front ++ tail → NoEscape front → old ++ given (pieces_after 0 rest) ≡ (old ++ by.of_bytes front) ++ given (pieces_after 0 tail)
  step tail split none =
      ap (λ text. old ++ given (pieces_after 0 text)) split
      ∙ ap (λ pieces. old ++ given pieces) (front_pieces front tail none)
      ∙ ap (λ xs. old ++ xs) (by.of_front front (pieces_after 0 tail))
      ∙ sym (append_assoc old (by.of_bytes front) (given (pieces_after 0 tail)))

  -- one turn of the loop
  pub sequence_step : (after sequence behind : List ℕ) → rest ≡ front ++ (0x1B ∷ after) → NoEscape front → after ≡ 0x5B ∷ (sequence ++ behind)
      → sequence_len 0x1B after ≡ suc (length sequence) → old ++ given (pieces_after 0 rest) ≡ (old ++ by.of_bytes front) ++ given (Sequence sequence ∷ pieces_after 0 behind)
  sequence_step after sequence behind split none cut found =
      step (0x1B ∷ after) split none ∙ rw (found, cut, take-append_seam sequence behind, passed_whole sequence behind) refl

  pub escape_step : (after : List ℕ) → rest ≡ front ++ (0x1B ∷ after) → NoEscape front → sequence_len 0x1B after ≡ 0
      → old ++ given (pieces_after 0 rest) ≡ ((old ++ by.of_bytes front) ++ by.of_bytes (0x1B ∷ [])) ++ given (pieces_after 0 after)
  escape_step after split none lone =
      step (0x1B ∷ after) split none
      ∙ rw lone (ap (λ xs. (old ++ by.of_bytes front) ++ xs) (by.of_front (0x1B ∷ []) (pieces_after 0 after))
      ∙ sym (append_assoc (old ++ by.of_bytes front) (by.of_bytes (0x1B ∷ [])) (given (pieces_after 0 after))))

-- the last one
pub last_step : {X : Type 0} {given : List Piece → List X} (by : Bytewise given) (old : List X) (rest : List ℕ) → NoEscape rest
    → old ++ given (pieces_after 0 rest) ≡ old ++ by.of_bytes rest
last_step by old rest none =
    step by old rest rest [] (sym (append-nil rest)) none ∙ ap (λ xs. (old ++ by.of_bytes rest) ++ xs) by.of_none ∙ append-nil (old ++ by.of_bytes rest)

-- ---- what is left of a text

length_first : (old front tail : List ℕ) → 0 < length front → 0 < length ((old ++ front) ++ tail)
length_first old front tail some =
    rw (length-append (old ++ front) tail, length-append old front) (omega (arith, some))

pub some_left : (whole old rest front tail : List ℕ) → text_of (pieces_after 0 whole) ≡ old ++ text_of (pieces_after 0 rest) → rest ≡ front ++ tail
    → NoEscape front → 0 < length front → 0 < length (text_of (pieces_after 0 whole))
some_left whole old rest front tail left split none some =
    rw (left, split, step as_text old (front ++ tail) front tail refl none) (length_first old front (text_of (pieces_after 0 tail)) some)

pub escape_left : (whole old rest front after : List ℕ) → text_of (pieces_after 0 whole) ≡ old ++ text_of (pieces_after 0 rest)
    → rest ≡ front ++ (0x1B ∷ after) → NoEscape front → sequence_len 0x1B after ≡ 0 → 0 < length (text_of (pieces_after 0 whole))
escape_left whole old rest front after left split none lone =
    rw (left ∙ escape_step as_text old rest front after split none lone)
    (length_first (old ++ front) (0x1B ∷ []) (text_of (pieces_after 0 after)) (omega arith))

pub last_left : (whole old rest : List ℕ) → text_of (pieces_after 0 whole) ≡ old ++ text_of (pieces_after 0 rest) → NoEscape rest → 0 < length rest
    → 0 < length (text_of (pieces_after 0 whole))
last_left whole old rest left none some = some_left whole old rest rest [] left (sym (append-nil rest)) none some

-- ---- laws

abbrev AllPlain : List Style → Type 0
AllPlain [] = Unit {0}
AllPlain (s ∷ ss) = (s ≡ plain) × AllPlain ss

plain_run : (n : ℕ) → AllPlain (replicate n plain)
plain_run zero = tt
plain_run (suc n) = (refl, plain_run n)

first_plain : (n : ℕ) (s : Style) (later : List Style) → 0 < n → AllPlain (replicate n s ++ later) → s ≡ plain
first_plain zero s later some all = absurd (omega arith)
first_plain (suc n) s later some all = all.0

later_plain : (n : ℕ) (s : Style) (later : List Style) → AllPlain (replicate n s ++ later) → AllPlain later
later_plain zero s later all = all
later_plain (suc n) s later all = later_plain n s later all.1

no_spans : (spans : List Span) (rest : List Style) → AllPlain (span_styles spans ++ rest) → Differ spans plain → spans ≡ []
no_spans [] rest all differ = refl
no_spans (span ∷ []) rest all differ =
    absurd (differ.1 (first_plain span.len span.style ([] ++ rest) differ.0 (rw append_assoc at all)))
no_spans (span ∷ (next ∷ spans)) rest all differ =
    let none = no_spans (next ∷ spans) rest (later_plain span.len span.style (span_styles (next ∷ spans) ++ rest) (rw append_assoc at all)) differ.2 in cc

pub text_stays : TextStays
text_stays shown text spans splits none =
    let plain_styles : span_styles spans ++ replicate splits.rest plain ≡ replicate (length shown) plain =
    sym splits.styles ∙ last_step (as_styles plain) [] shown none in (
      splits.bytes ∙ last_step as_text [] shown none,
      no_spans spans (replicate splits.rest plain) (rw plain_styles (plain_run (length shown))) splits.differ,
    )

as_many : (s : Style) (pieces : List Piece) → length (styles_of s pieces) ≡ length (text_of pieces)
as_many s [] = refl
as_many s (Byte b ∷ pieces) = ap (λ n. suc n) (as_many s pieces)
as_many s (Sequence sequence ∷ pieces) = as_many (style_after sequence s) pieces

bytes_of_spans : (spans : List Span) → length (span_styles spans) ≡ sum_by (λ span. span.len) spans
bytes_of_spans [] = refl
bytes_of_spans (span ∷ spans) =
    length-append (replicate span.len span.style) (span_styles spans)
    ∙ ap (λ n. n + length (span_styles spans)) (length-replicate span.len span.style)
    ∙ ap (λ n. span.len + n) (bytes_of_spans spans)
    ∙ sym (sum_by-cons (λ (s : Span). s.len) span spans)

pub spans_fit : SpansFit
spans_fit shown text spans splits =
    let whole = ap length splits.styles ∙ length-append (span_styles spans) (replicate splits.rest plain) in
    rw (splits.bytes, ← bytes_of_spans spans) (omega (arith, as_many plain (pieces_after 0 shown), whole))
