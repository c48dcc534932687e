-- A text read from its end, for the word before a place.
use Rattle.std.proofs.Common.{◌≡◌, ℕ, ◌<◌, ◌≤◌, Bool, true, false, List, [], ◌∷◌, ◌++◌, length, take, reverse, Option, refl, sym, ap, ◌∙◌, arith}
use Rattle.std.specs.Prelude.{slice_get, encode_utf8, encode_utf8_all, IsUtf8, IsCharBoundary}
use Rattle.std.specs.Option.{option_map_or}
use Rattle.std.specs.Str.{chars}
use Rattle.std.specs.Char.{IsScalar}
use Rattle.std.proofs.lemmas.Str.{chars-append, chars-nil, encodes-chars, IsUtf8-append, IsUtf8-encode, length-encode, len_utf8_bounds, IsCharBoundary-from_take}
use Rattle.std.proofs.lemmas.List.{reverse-append, reverse-reverse, append-nil, length-append, length-take, take-take, take_at}
use Rattle.line_help.proofs.QuoteLemmas.{chars_step}
use Rattle.line_help.specs.Completion.{is_escape, before_word, word_start}

-- whether the nearest character is the escape, if characters are read from the end
abbrev is_escaped : Option ℕ → List ℕ → Bool
is_escaped esc cs = option_map_or (is_escape esc) (slice_get cs 0) false

one_char : (c : ℕ) → IsScalar c → chars (encode_utf8 c) ≡ c ∷ []
one_char c scalar = ap chars (sym (append-nil (encode_utf8 c))) ∙ chars_step c [] scalar ∙ ap (λ cs. c ∷ cs) chars-nil

pub chars_back : (text before : List ℕ) (c : ℕ) → text ≡ before ++ encode_utf8 c → IsUtf8 before → IsScalar c → reverse (chars text) ≡ c ∷ reverse (chars before)
chars_back text before c e u scalar =
    ap (λ t. reverse (chars t)) e
    ∙ ap reverse (chars-append before (encode_utf8 c) u ∙ ap (λ cs. chars before ++ cs) (one_char c scalar))
    ∙ reverse-append (chars before) (c ∷ [])

pub last_char : (esc : Option ℕ) (text before : List ℕ) (c : ℕ) → text ≡ before ++ encode_utf8 c → IsUtf8 before → IsScalar c → is_escaped esc (reverse (chars text)) ≡ is_escape esc c
last_char esc text before c e u scalar = rw (chars_back text before c e u scalar) refl

plain_char : (esc : Option ℕ) (breaks : ℕ → Bool) (c : ℕ) (cs : List ℕ) → breaks c ≡ false → before_word esc breaks (c ∷ cs) ≡ before_word esc breaks cs
plain_char esc breaks c [] is = rw is refl
plain_char esc breaks c (d ∷ cs) is = rw is refl

pub plain_back : (esc : Option ℕ) (breaks : ℕ → Bool) (text before : List ℕ) (c : ℕ) → text ≡ before ++ encode_utf8 c → IsUtf8 before → IsScalar c → breaks c ≡ false → word_start esc breaks text ≡ word_start esc breaks before
plain_back esc breaks text before c e u scalar is =
    ap (λ cs. length (encode_utf8_all (reverse (before_word esc breaks cs)))) (chars_back text before c e u scalar)
    ∙ ap (λ cs. length (encode_utf8_all (reverse cs))) (plain_char esc breaks c (reverse (chars before)) is)

pub escaped_back : (esc : Option ℕ) (breaks : ℕ → Bool) (text before front : List ℕ) (c d : ℕ) → text ≡ before ++ encode_utf8 c → before ≡ front ++ encode_utf8 d → IsUtf8 before → IsUtf8 front → IsScalar c → IsScalar d
    → breaks c ≡ true → is_escape esc d ≡ true → word_start esc breaks text ≡ word_start esc breaks front
escaped_back esc breaks text before front c d e f u v scalar scalar' is escape =
    ap (λ cs. length (encode_utf8_all (reverse (before_word esc breaks cs)))) (chars_back text before c e u scalar ∙ ap (λ cs. c ∷ cs) (chars_back before front d f v scalar'))
    ∙ rw (is, escape) refl

stops : (esc : Option ℕ) (breaks : ℕ → Bool) (c : ℕ) (cs : List ℕ) → breaks c ≡ true → is_escaped esc cs ≡ false → before_word esc breaks (c ∷ cs) ≡ c ∷ cs
stops esc breaks c [] is plain = rw is refl
stops esc breaks c (d ∷ cs) is plain = rw (is, plain) refl

pub break_back : (esc : Option ℕ) (breaks : ℕ → Bool) (text before : List ℕ) (c : ℕ) → text ≡ before ++ encode_utf8 c → IsUtf8 before → IsScalar c → breaks c ≡ true → is_escaped esc (reverse (chars before)) ≡ false → word_start esc breaks text ≡ length text
break_back esc breaks text before c e u scalar is plain =
    let back = chars_back text before c e u scalar in
    let whole : IsUtf8 text = rw e (IsUtf8-append before (encode_utf8 c) u (IsUtf8-encode c scalar)) in
    ap (λ cs. length (encode_utf8_all (reverse (before_word esc breaks cs)))) back
    ∙ ap (λ cs. length (encode_utf8_all (reverse cs))) (stops esc breaks c (reverse (chars before)) is plain ∙ sym back)
    ∙ ap (λ cs. length (encode_utf8_all cs)) (reverse-reverse (chars text))
    ∙ ap length (encodes-chars text whole)

pub nothing_left : (esc : Option ℕ) (breaks : ℕ → Bool) (text : List ℕ) → text ≡ [] → word_start esc breaks text ≡ 0
nothing_left esc breaks text e = rw (e, chars-nil) refl

pub no_char : (esc : Option ℕ) (text : List ℕ) → text ≡ [] → is_escaped esc (reverse (chars text)) ≡ false
no_char esc text e = rw (e, chars-nil) refl

-- what stands before a last character is shorter, and begins the text
pub shorter : (rest before : List ℕ) (c : ℕ) → rest ≡ before ++ encode_utf8 c → length before < length rest
shorter rest before c e = rw e (omega (arith, length-append before (encode_utf8 c), length-encode c, len_utf8_bounds c))

pub front_step : (text rest before more : List ℕ) → take (length rest) text ≡ rest → rest ≡ before ++ more → take (length before) text ≡ before
front_step text rest before more front e =
    let le : length before ≤ length rest = rw e (omega (arith, length-append before more)) in
    sym (take-take (length before) (length rest) text le)
    ∙ ap (take (length before)) (front ∙ e)
    ∙ take_at before more (length before) refl

pub cut_here : (text rest : List ℕ) → IsUtf8 text → IsUtf8 rest → take (length rest) text ≡ rest → IsCharBoundary text (length rest)
cut_here text rest u v front =
    let long : length rest ≤ length text = omega (arith, length-take (length rest) text, ap length front) in
    IsCharBoundary-from_take text (length rest) u long (rw front v)

pub ruleset text_ends = (last_char, no_char)
