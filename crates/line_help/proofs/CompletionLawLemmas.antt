-- The laws of completion.
use Rattle.std.proofs.Common.{◌≡◌, ◌≢◌, ℕ, ◌≤◌, Bool, true, false, List, [], ◌∷◌, ◌++◌, length, take, drop, nat_eq, Some, refl, sym, ap, ◌∙◌, arith, ne_eqb, append_assoc, length-append}
use Rattle.std.specs.Prelude.{encode_utf8_all, IsUtf8, IsCharBoundary}
use Rattle.std.proofs.lemmas.Bool.{and_from, and_parts, cond_both}
use Rattle.std.specs.Str.{chars, all_scalars}
use Rattle.std.specs.Char.{IsScalar}
use lib.Utf8.{scalar}
use Rattle.std.specs.List.{common_prefix_len}
use Rattle.std.proofs.lemmas.List.{take-append-drop, take_at, take-take, append-nil}
use Rattle.std.proofs.lemmas.List.Elements.{All-nil, All-cons, All-head, All-tail}
use Rattle.std.proofs.lemmas.List.Sums.{common_prefix_len-le}
use Rattle.std.proofs.lemmas.Str.{chars-encodes, encodes-chars, scalars-chars, IsUtf8-take, IsCharBoundary-from_take}
use Rattle.line_help.specs.Completion.{common_beginning, common_to_all, EscapesComeBack, BeginsText, CommonBeginningIsLongest}
use Rattle.line_help.proofs.CommonPrefixLemmas.{last_cut_le, last_cut_boundary, last_cut_greatest, alike, long}
use Rattle.line_help.specs.Quotes.{text_without_escapes, unescaped_chars, escaped_chars}
use Rattle.line_help.specs.declared.completion.quotes.Quote.TheVariants.{Single}
use Rattle.line_help.proofs.QuoteLemmas.{escaped_one, plain_char}
use Rattle.std.specs.Fmt.Cut.{floor_char_boundary}

-- escapes, character by character
read_back : (esc : ℕ) (breaks : ℕ → Bool) → breaks esc ≡ true → (cs : List ℕ) → unescaped_chars esc (escaped_chars esc breaks cs) ≡ cs
read_back esc breaks is [] = refl
read_back esc breaks is (c ∷ cs) =
    let rest = escaped_chars esc breaks cs in
    cond_both (breaks c) (esc ∷ c ∷ []) (c ∷ []) (λ front. unescaped_chars esc (front ++ rest) ≡ c ∷ cs)
    (λ _. escaped_one esc c rest ∙ ap (λ ds. c ∷ ds) (read_back esc breaks is cs))
    (λ e.
    let ne : c ≢ esc = λ same. let t : true ≡ false = sym is ∙ ap breaks (sym same) ∙ e in absurd cc in
    plain_char esc c rest (ne_eqb c esc ne) ∙ ap (λ ds. c ∷ ds) (read_back esc breaks is cs))

all_scalar : (esc : ℕ) (breaks : ℕ → Bool) → IsScalar esc → (cs : List ℕ) → all_scalars cs ≡ true → all_scalars (escaped_chars esc breaks cs) ≡ true
all_scalar esc breaks s [] h = refl
all_scalar esc breaks s (c ∷ cs) h =
    let parts = and_parts (scalar c) (all_scalars cs) h in
    let rest = escaped_chars esc breaks cs in
    let left : all_scalars (c ∷ rest) ≡ true = and_from (scalar c) (all_scalars rest) parts.0 (all_scalar esc breaks s cs parts.1) in
    cond_both (breaks c) (esc ∷ c ∷ []) (c ∷ []) (λ front. all_scalars (front ++ rest) ≡ true) (λ e. and_from (scalar esc) (all_scalars (c ∷ rest)) s left) (λ e. left)

comes_back : (text : List ℕ) (esc : ℕ) (breaks : ℕ → Bool) → IsUtf8 text → IsScalar esc → breaks esc ≡ true → text_without_escapes (encode_utf8_all (escaped_chars esc breaks (chars text))) (Some esc) ≡ text
comes_back text esc breaks u s is =
    ap (λ cs. encode_utf8_all (unescaped_chars esc cs)) (chars-encodes (escaped_chars esc breaks (chars text)) (all_scalar esc breaks s (chars text) (scalars-chars text u)))
    ∙ ap encode_utf8_all (read_back esc breaks is (chars text))
    ∙ encodes-chars text u

pub escapes_come_back_holds : EscapesComeBack
escapes_come_back_holds text esc breaks Single u s is not_single = absurd (not_single refl)
escapes_come_back_holds text esc breaks quote u s is not_single = comes_back text esc breaks u s is

-- what two texts have in common
begins_on : (a b c : List ℕ) → BeginsText a b → BeginsText b c → BeginsText a c
begins_on a b c p q = (p.0 ++ q.0, q.1 ∙ ap (λ t. t ++ q.0) p.1 ∙ append_assoc a p.0 q.0)

common_is_longest : (text other front : List ℕ) → IsUtf8 text → IsUtf8 front → BeginsText front text → BeginsText front other → BeginsText front (common_beginning text other)
common_is_longest text other front u v a b =
    let m = common_prefix_len nat_eq text other in
    let n = floor_char_boundary text m in
    let k = length front in
    let taken : take k text ≡ front = ap (take k) a.1 ∙ take_at front a.0 k refl in
    let fits : k ≤ length text = rw a.1 (omega (arith, length-append front a.0)) in
    let alike_so_far : k ≤ m = rw (a.1, b.1) (long front a.0 b.0) in
    let cut : IsCharBoundary text k = IsCharBoundary-from_take text k u fits (rw taken v) in
    let le : k ≤ n = last_cut_greatest text k m cut alike_so_far in
    let again : take k (take n text) ≡ front = take-take k n text le ∙ taken in
    (drop k (take n text), sym (take-append-drop k (take n text)) ∙ ap (λ t. t ++ drop k (take n text)) again)

pub common_beginning_is_longest_holds : CommonBeginningIsLongest
common_beginning_is_longest_holds text [] u =
    (u, All-cons (BeginsText text) text [] ([], sym (append-nil text)) (All-nil (BeginsText text)), λ front v all. All-head (BeginsText front) text [] all)
common_beginning_is_longest_holds text (other ∷ others) u =
    let m = common_prefix_len nat_eq text other in
    let n = floor_char_boundary text m in
    let first = common_beginning text other in
    let left = common_beginning_is_longest_holds first others (IsUtf8-take text n u (last_cut_boundary text m u (common_prefix_len-le nat_eq text other).0)) in
    let whole = common_to_all first others in
    let begins_other : BeginsText first other = (drop n other, sym (take-append-drop n other) ∙ ap (λ t. t ++ drop n other) (sym (alike n text other (last_cut_le text m)))) in
    let in_first : BeginsText whole first = All-head (BeginsText whole) first others left.1 in (
      left.0,
      All-cons (BeginsText whole) text (other ∷ others) (begins_on whole first text in_first (drop n text, sym (take-append-drop n text)))
          (All-cons (BeginsText whole) other others (begins_on whole first other in_first begins_other) (All-tail (BeginsText whole) first others left.1)),
      λ front v all.
          let rest = All-tail (BeginsText front) text (other ∷ others) all in
          left.2 front v (All-cons (BeginsText front) first others
          (common_is_longest text other front u v (All-head (BeginsText front) text (other ∷ others) all) (All-head (BeginsText front) other others rest))
          (All-tail (BeginsText front) other others rest)),
    )
