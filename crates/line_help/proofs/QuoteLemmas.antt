-- Escapes are read and written character by character, quotes byte by byte.
use Rattle.std.proofs.Common.{cond, subst, length-drop, ◌≡◌, ◌≢◌, ℕ, ◌+◌, ◌==◌, ◌&&◌, Bool, true, false, List, [], ◌∷◌, ◌++◌, Option, None, Some, refl, sym, ap, ◌∙◌, append_assoc, arith, ◌<◌, length, get_or, drop, ne_eqb}
use Rattle.std.proofs.lemmas.Bool.{cond_both, eq-eqb}
use Rattle.std.proofs.lemmas.List.{append-nil, drop_more}
use Rattle.std.proofs.lemmas.Str.{chars-append, chars_past_char, chars-nil, IsUtf8-encode}
use Rattle.std.specs.Char.{IsScalar}
use Rattle.std.specs.Prelude.{encode_utf8, encode_utf8_all}
use Rattle.std.specs.Str.{chars}
use Rattle.line_help.specs.Quotes.{unescaped_chars, escaped_chars, closes_quote, escapes_at, quote_after, open_behind, unclosed_quote}
use Rattle.line_help.specs.declared.completion.quotes.Quote.{Quote}
use Rattle.line_help.specs.declared.completion.quotes.Quote.TheVariants.{Double, Single, None as Unquoted}

pub chars_step : (c : ℕ) (rest : List ℕ) → IsScalar c → chars (encode_utf8 c ++ rest) ≡ c ∷ chars rest
chars_step c rest scalar =
    chars-append (encode_utf8 c) rest (IsUtf8-encode c scalar)
    ∙ ap (λ cs. cs ++ chars rest) (chars_past_char (encode_utf8 c) [] c (IsUtf8-encode c scalar) (sym (append-nil (encode_utf8 c))) ∙ ap (λ cs. c ∷ cs) chars-nil)

-- the characters still to be read, where an escape was taken or not
abbrev pub waiting : Bool → ℕ → List ℕ → List ℕ
waiting false esc cs = cs
waiting true esc cs = esc ∷ cs

-- the whole text where so much was put out and these bytes are still to be read
abbrev pub unescaping : ℕ → Bool → List ℕ → List ℕ → List ℕ
unescaping esc escapes out rest = out ++ encode_utf8_all (unescaped_chars esc (waiting escapes esc (chars rest)))

pub plain_char : (esc c : ℕ) (cs : List ℕ) → (c == esc) ≡ false → unescaped_chars esc (c ∷ cs) ≡ c ∷ unescaped_chars esc cs
plain_char esc c [] ne = rw ne refl
plain_char esc c (d ∷ cs) ne = rw ne refl

pub escaped_one : (esc c : ℕ) (cs : List ℕ) → unescaped_chars esc (esc ∷ (c ∷ cs)) ≡ c ∷ unescaped_chars esc cs
escaped_one esc c cs = rw (eq-eqb esc esc refl) refl

pub escape_taken : (esc c : ℕ) (escapes : Bool) (out rest : List ℕ) → IsScalar c → c ≡ esc → escapes ≡ false → unescaping esc escapes out (encode_utf8 c ++ rest) ≡ unescaping esc true out rest
escape_taken esc c escapes out rest scalar is no_escape =
    rw no_escape (ap (λ cs. out ++ encode_utf8_all (unescaped_chars esc cs)) (chars_step c rest scalar ∙ ap (λ d. d ∷ chars rest) is))

pub char_escaped : (esc c : ℕ) (escapes : Bool) (out rest : List ℕ) → IsScalar c → escapes ≡ true → unescaping esc escapes out (encode_utf8 c ++ rest) ≡ unescaping esc false (out ++ encode_utf8 c) rest
char_escaped esc c escapes out rest scalar is =
    rw is (ap (λ cs. out ++ encode_utf8_all (unescaped_chars esc (esc ∷ cs))) (chars_step c rest scalar)
    ∙ ap (λ cs. out ++ encode_utf8_all cs) (escaped_one esc c (chars rest))
    ∙ sym (append_assoc out (encode_utf8 c) (encode_utf8_all (unescaped_chars esc (chars rest)))))

pub char_kept : (esc c : ℕ) (escapes : Bool) (out rest : List ℕ) → IsScalar c → escapes ≡ false → c ≢ esc → unescaping esc escapes out (encode_utf8 c ++ rest) ≡ unescaping esc escapes (out ++ encode_utf8 c) rest
char_kept esc c escapes out rest scalar is ne =
    rw is (ap (λ cs. out ++ encode_utf8_all (unescaped_chars esc cs)) (chars_step c rest scalar)
    ∙ ap (λ cs. out ++ encode_utf8_all cs) (plain_char esc c (chars rest) (ne_eqb c esc ne))
    ∙ sym (append_assoc out (encode_utf8 c) (encode_utf8_all (unescaped_chars esc (chars rest)))))

end_of : (esc : ℕ) (escapes : Bool) → encode_utf8_all (unescaped_chars esc (waiting escapes esc [])) ≡ []
end_of esc false = refl
end_of esc true = rw (eq-eqb esc esc refl) refl

pub all_unescaped : (esc : ℕ) (escapes : Bool) (out rest : List ℕ) → rest ≡ [] → unescaping esc escapes out rest ≡ out
all_unescaped esc escapes out rest e =
    ap (λ r. unescaping esc escapes out r) e
    ∙ ap (λ cs. out ++ encode_utf8_all (unescaped_chars esc (waiting escapes esc cs))) chars-nil
    ∙ ap (λ t. out ++ t) (end_of esc escapes)
    ∙ append-nil out

pub ruleset unescape_steps = (escape_taken, char_escaped, char_kept, all_unescaped)

-- the same of an escaped text
abbrev pub escaping : ℕ → (ℕ → Bool) → List ℕ → List ℕ → List ℕ
escaping esc breaks out rest = out ++ encode_utf8_all (escaped_chars esc breaks (chars rest))

pub break_escaped : (esc c : ℕ) (breaks : ℕ → Bool) (out rest : List ℕ) → IsScalar c → breaks c ≡ true → escaping esc breaks out (encode_utf8 c ++ rest) ≡ escaping esc breaks ((out ++ encode_utf8 esc) ++ encode_utf8 c) rest
break_escaped esc c breaks out rest scalar is =
    ap (λ cs. out ++ encode_utf8_all (escaped_chars esc breaks cs)) (chars_step c rest scalar)
    ∙ rw is (sym (append_assoc out (encode_utf8 esc) (encode_utf8 c ++ encode_utf8_all (escaped_chars esc breaks (chars rest)))) ∙ sym (append_assoc (out ++ encode_utf8 esc) (encode_utf8 c) (encode_utf8_all (escaped_chars esc breaks (chars rest)))))

pub other_kept : (esc c : ℕ) (breaks : ℕ → Bool) (out rest : List ℕ) → IsScalar c → breaks c ≡ false → escaping esc breaks out (encode_utf8 c ++ rest) ≡ escaping esc breaks (out ++ encode_utf8 c) rest
other_kept esc c breaks out rest scalar is =
    ap (λ cs. out ++ encode_utf8_all (escaped_chars esc breaks cs)) (chars_step c rest scalar)
    ∙ rw is (sym (append_assoc out (encode_utf8 c) (encode_utf8_all (escaped_chars esc breaks (chars rest)))))

pub all_escaped : (esc : ℕ) (breaks : ℕ → Bool) (out rest : List ℕ) → rest ≡ [] → escaping esc breaks out rest ≡ out
all_escaped esc breaks out rest e =
    ap (λ r. escaping esc breaks out r) e
    ∙ ap (λ cs. out ++ encode_utf8_all (escaped_chars esc breaks cs)) chars-nil
    ∙ append-nil out

pub ruleset escape_steps = (break_escaped, other_kept, all_escaped)

-- the quote that is open after bytes still to be read, where a backslash before them escapes or not
abbrev pub scanning : Bool → Option (ℕ × Quote) → ℕ → List ℕ → Option (ℕ × Quote)
scanning false within place bs = open_behind within place bs
scanning true within place [] = within
scanning true within place (b ∷ bs) = open_behind within (place + 1) bs

-- whether a backslash is an escape in a quote
abbrev pub escapes_in : Quote → Bool
escapes_in quote = escapes_at (Some (0, quote))

no_quote : (place : ℕ) (within : Option (ℕ × Quote)) → escapes_at within ≡ true → quote_after place 92 within ≡ within
no_quote place None is = refl
no_quote place (Some (at, Double)) is = refl
no_quote place (Some (at, Single)) is = absurd cc
no_quote place (Some (at, Unquoted)) is = refl

pub backslash_read : (within : Option (ℕ × Quote)) (place : ℕ) (bs : List ℕ) → escapes_at within ≡ true → scanning false within place (92 ∷ bs) ≡ scanning true within (place + 1) bs
backslash_read within place [] is = no_quote place within is
backslash_read within place (b ∷ bs) is =
    let two : place + 2 ≡ (place + 1) + 1 = omega arith in
    rw is (ap (λ p. open_behind within p bs) two)

pub byte_read : (within : Option (ℕ × Quote)) (place b : ℕ) (bs : List ℕ) → (b == 92 && escapes_at within) ≡ false → scanning false within place (b ∷ bs) ≡ scanning false (quote_after place b within) (place + 1) bs
byte_read within place b [] other = refl
byte_read within place b (c ∷ cs) other = rw other refl

-- an open quote stands in the text: the byte at its place is one that closes its kind
abbrev pub StandsIn : List ℕ → Option (ℕ × Quote) → Type 0
StandsIn text None = Unit {0}
StandsIn text (Some within) = (within.0 < length text) × (closes_quote within.1 (get_or text within.0 0) ≡ true)

after_byte : (text : List ℕ) (place : ℕ) (within : Option (ℕ × Quote)) → place < length text → StandsIn text within → StandsIn text (quote_after place (get_or text place 0) within)
after_byte text place None inside stands =
    cond_both (get_or text place 0 == 34) (Some (place, Double)) (cond (get_or text place 0 == 39) (Some (place, Single)) None) (StandsIn text)
    (λ e. (inside, e))
    (λ _. cond_both (get_or text place 0 == 39) (Some (place, Single)) None (StandsIn text) (λ e. (inside, e)) (λ _. tt))
after_byte text place (Some within) inside stands = cond_both (closes_quote within.1 (get_or text place 0)) None (Some within) (StandsIn text) (λ e. tt) (λ e. stands)

at_front : (text : List ℕ) (place b : ℕ) (bs : List ℕ) → drop place text ≡ b ∷ bs → (place < length text) × (get_or text place 0 ≡ b) × (drop (place + 1) text ≡ bs)
at_front text place b bs e =
    let inside : place < length text = omega (arith, length-drop place text, ap length e) in
    let f : get_or text place 0 ∷ drop (place + 1) text ≡ b ∷ bs = sym (drop_more text place 0 inside) ∙ e in
    (inside, cc, cc)

stands_behind : (text : List ℕ) (within : Option (ℕ × Quote)) (place : ℕ) (bs : List ℕ) → drop place text ≡ bs → StandsIn text within → StandsIn text (open_behind within place bs)
stands_behind text within place [] e stands = stands
stands_behind text within place (b ∷ []) e stands =
    let at = at_front text place b [] e in
    subst (λ c. StandsIn text (quote_after place c within)) at.1 (after_byte text place within at.0 stands)
stands_behind text within place (b ∷ (c ∷ bs)) e stands =
    let at = at_front text place b (c ∷ bs) e in
    let next = at_front text (place + 1) c bs at.2 in
    let two : (place + 1) + 1 ≡ place + 2 = omega arith in
    cond_both (b == 92 && escapes_at within) (open_behind within (place + 2) bs) (open_behind (quote_after place b within) (place + 1) (c ∷ bs)) (StandsIn text)
    (λ _. stands_behind text within (place + 2) bs (ap (λ n. drop n text) (sym two) ∙ next.2) stands)
    (λ _. stands_behind text (quote_after place b within) (place + 1) (c ∷ bs) at.2
    (subst (λ d. StandsIn text (quote_after place d within)) at.1 (after_byte text place within at.0 stands)))

pub unclosed_stands : (text : List ℕ) → StandsIn text (unclosed_quote text)
unclosed_stands text = stands_behind text None 0 text refl tt
