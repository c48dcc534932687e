-- The quote that is open at a text's end.
use Rattle.std.proofs.Common.{◌≡◌, ◌≢◌, ℕ, ◌+◌, ◌==◌, ◌&&◌, ◌⊎◌, inl, inr, Bool, true, false, List, [], ◌∷◌, ◌++◌, length, Option, Some, None, refl, sym, ap, ◌∙◌, subst, append_assoc, length-append, arith, ne_eqb, if◌then◌else◌}
use Rattle.std.specs.Prelude.{unwrap_or}
use Rattle.std.proofs.lemmas.Option.{none-some}
use Rattle.std.proofs.lemmas.Bool.{and_right, eqb-false, eqb-true}
use Rattle.std.proofs.lemmas.List.{append-nil}
use Rattle.line_help.specs.Quotes.{closes_quote, escapes_at, quote_after, open_behind, unclosed_quote, Within, nothing_within, byte_within, pair_within, Closed, nothing_closed, byte_closed, pair_closed, between_double, between_single, UpToBackslash, Unclosed, OpensAt, UnclosedQuoteIsOpen}
use Rattle.line_help.specs.declared.completion.quotes.Quote.{Quote}
use Rattle.line_help.specs.declared.completion.quotes.Quote.TheVariants.{Double, Single, None as Unquoted}
use Rattle.line_help.proofs.QuoteLemmas.{byte_read, escapes_in}

-- ---- reading by parts

-- the mark that closes a quote, and whether a backslash escapes in it
record Marks (quote : Quote) (mark : ℕ) (escaping : Bool) : Type 0 where
  closing : (b : ℕ) → closes_quote quote b ≡ (b == mark)
  escapes : escapes_in quote ≡ escaping

double_marks : Marks Double 34 true
double_marks = record { closing = λ b. refl; escapes = refl }

single_marks : Marks Single 39 false
single_marks = record { closing = λ b. refl; escapes = refl }

pair_read : (within : Option (ℕ × Quote)) (place b : ℕ) (rest : List ℕ) → escapes_at within ≡ true → open_behind within place (92 ∷ (b ∷ rest)) ≡ open_behind within (place + 2) rest
pair_read within place b rest h = rw h refl

no_escape : (b : ℕ) (escaping : Bool) → (escaping ≡ true → b ≢ 92) → (b == 92 && escaping) ≡ false
no_escape b true h = ap (λ a. a && true) (ne_eqb b 92 (h refl))
no_escape b false h = and_right (b == 92) false refl

within_read : {mark : ℕ} {escaping : Bool} {inner : List ℕ} → Within mark escaping inner → (quote : Quote) → Marks quote mark escaping → (p place : ℕ) (more : List ℕ)
    → open_behind (Some (p, quote)) place (inner ++ more) ≡ open_behind (Some (p, quote)) (place + length inner) more
within_read nothing_within quote k p place more = ap (λ n. open_behind (Some (p, quote)) n more) (omega arith)
within_read {mark = mark} {escaping = escaping} (byte_within b text ne esc w) quote k p place more =
    let test : (b == 92 && escapes_in quote) ≡ false = ap (λ e. b == 92 && e) k.escapes ∙ no_escape b escaping esc in
    let stays : quote_after place b (Some (p, quote)) ≡ Some (p, quote) = ap (λ c. if c then None else Some (p, quote)) (k.closing b ∙ ne_eqb b mark ne) in
    let count : place + 1 + length text ≡ place + length (b ∷ text) = omega arith in
    byte_read (Some (p, quote)) place b (text ++ more) test
    ∙ ap (λ w. open_behind w (place + 1) (text ++ more)) stays
    ∙ within_read w quote k p (place + 1) more
    ∙ ap (λ n. open_behind (Some (p, quote)) n more) count
within_read (pair_within b text is w) quote k p place more =
    let count : place + 2 + length text ≡ place + length (92 ∷ (b ∷ text)) = omega arith in
    pair_read (Some (p, quote)) place b (text ++ more) (k.escapes ∙ is) ∙ within_read w quote k p (place + 2) more ∙ ap (λ n. open_behind (Some (p, quote)) n more) count

between_count : (place mark : ℕ) (inner text : List ℕ) → place + 1 + length inner + 1 + length text ≡ place + length (mark ∷ (inner ++ (mark ∷ text)))
between_count place mark inner text = omega (arith, length-append inner (mark ∷ text))

no_mark : (place b : ℕ) → b ≢ 34 → b ≢ 39 → quote_after place b None ≡ None
no_mark place b n34 n39 = rw (ne_eqb b 34 n34, ne_eqb b 39 n39) refl

closed_read : {front : List ℕ} → Closed front → (place : ℕ) (more : List ℕ) → open_behind None place (front ++ more) ≡ open_behind None (place + length front) more
closed_read nothing_closed place more = ap (λ n. open_behind None n more) (omega arith)
closed_read (byte_closed b text n34 n39 n92 c) place more =
    let count : place + 1 + length text ≡ place + length (b ∷ text) = omega arith in
    byte_read None place b (text ++ more) (ap (λ a. a && true) (ne_eqb b 92 n92))
    ∙ ap (λ w. open_behind w (place + 1) (text ++ more)) (no_mark place b n34 n39)
    ∙ closed_read c (place + 1) more
    ∙ ap (λ n. open_behind None n more) count
closed_read (pair_closed b text c) place more =
    let count : place + 2 + length text ≡ place + length (92 ∷ (b ∷ text)) = omega arith in
    pair_read None place b (text ++ more) refl ∙ closed_read c (place + 2) more ∙ ap (λ n. open_behind None n more) count
closed_read (between_double inner text w c) place more =
    byte_read None place 34 ((inner ++ (34 ∷ text)) ++ more) refl
    ∙ ap (open_behind (Some (place, Double)) (place + 1)) (append_assoc inner (34 ∷ text) more)
    ∙ within_read w Double double_marks place (place + 1) (34 ∷ (text ++ more))
    ∙ byte_read (Some (place, Double)) (place + 1 + length inner) 34 (text ++ more) refl
    ∙ closed_read c (place + 1 + length inner + 1) more
    ∙ ap (λ n. open_behind None n more) (between_count place 34 inner text)
closed_read (between_single inner text w c) place more =
    byte_read None place 39 ((inner ++ (39 ∷ text)) ++ more) refl
    ∙ ap (open_behind (Some (place, Single)) (place + 1)) (append_assoc inner (39 ∷ text) more)
    ∙ within_read w Single single_marks place (place + 1) (39 ∷ (text ++ more))
    ∙ byte_read (Some (place, Single)) (place + 1 + length inner) 39 (text ++ more) refl
    ∙ closed_read c (place + 1 + length inner + 1) more
    ∙ ap (λ n. open_behind None n more) (between_count place 39 inner text)

-- what a text in two parts is read as, from where its first part leads
rest_read : (text front rest : List ℕ) → text ≡ front ++ rest → Closed front → unclosed_quote text ≡ open_behind None (length front) rest
rest_read text front rest e c = ap (open_behind None 0) e ∙ closed_read c 0 rest ∙ ap (λ n. open_behind None n rest) (omega arith)

stays_open : {mark : ℕ} {escaping : Bool} {rest : List ℕ} → Within mark escaping rest → (quote : Quote) → Marks quote mark escaping → (p place : ℕ) → open_behind (Some (p, quote)) place rest ≡ Some (p, quote)
stays_open {rest = rest} w quote k p place = ap (open_behind (Some (p, quote)) place) (sym (append-nil rest)) ∙ within_read w quote k p place []

double_stays : (rest : List ℕ) → UpToBackslash (Within 34 true) rest → (p place : ℕ) → open_behind (Some (p, Double)) place rest ≡ Some (p, Double)
double_stays rest (inl w) p place = stays_open w Double double_marks p place
double_stays rest (inr (front, e, w)) p place = ap (open_behind (Some (p, Double)) place) e ∙ within_read w Double double_marks p place (92 ∷ [])

opened : (text : List ℕ) (place : ℕ) (quote : Quote) → OpensAt text place quote → unclosed_quote text ≡ Some (place, quote)
opened text place Double (front, mark, rest, e, p, c, u) =
    rest_read text front (34 ∷ rest) (e ∙ ap (λ b. front ++ (b ∷ rest)) u.0) c
    ∙ byte_read None (length front) 34 rest refl
    ∙ double_stays rest u.1 (length front) (length front + 1)
    ∙ ap (λ n. Some (n, Double)) (sym p)
opened text place Single (front, mark, rest, e, p, c, u) =
    rest_read text front (39 ∷ rest) (e ∙ ap (λ b. front ++ (b ∷ rest)) u.0) c
    ∙ byte_read None (length front) 39 rest refl
    ∙ stays_open u.1 Single single_marks (length front) (length front + 1)
    ∙ ap (λ n. Some (n, Single)) (sym p)
opened text place Unquoted (front, mark, rest, e, p, c, u) = absurd u

none_open : (text : List ℕ) → UpToBackslash Closed text → unclosed_quote text ≡ None
none_open text (inl c) = rest_read text text [] (sym (append-nil text)) c
none_open text (inr (front, e, c)) = rest_read text front (92 ∷ []) e c

-- ---- each text has its parts

abbrev Outcome : List ℕ → Type 0
Outcome text = UpToBackslash Closed text ⊎ ((place : ℕ) × (quote : Quote) × OpensAt text place quote)

-- what begins within a quote: it isn't closed, or the mark follows somewhere
abbrev WithinFirst : ℕ → Bool → (List ℕ → Type 0) → List ℕ → Type 0
WithinFirst mark escaping U text = U text ⊎ ((inner : List ℕ) × (after : List ℕ) × (text ≡ inner ++ (mark ∷ after)) × Within mark escaping inner × Outcome after)

backslash_onto : (P : List ℕ → Type 0) (piece : List ℕ) → ((text : List ℕ) → P text → P (piece ++ text)) → (text : List ℕ) → UpToBackslash P text → UpToBackslash P (piece ++ text)
backslash_onto P piece f text (inl w) = inl (f text w)
backslash_onto P piece f text (inr (front, e, w)) = inr (piece ++ front, ap (λ t. piece ++ t) e ∙ sym (append_assoc piece front (92 ∷ [])), f front w)

outcome_onto : (piece : List ℕ) → ((text : List ℕ) → Closed text → Closed (piece ++ text)) → (text : List ℕ) → Outcome text → Outcome (piece ++ text)
outcome_onto piece f text (inl u) = inl (backslash_onto Closed piece f text u)
outcome_onto piece f text (inr (place, quote, (front, mark, rest, e, p, c, u))) =
    inr (length (piece ++ front), quote, (piece ++ front, mark, rest, ap (λ t. piece ++ t) e ∙ sym (append_assoc piece front (mark ∷ rest)), refl, f front c, u))

within_onto : (mark : ℕ) (escaping : Bool) (U : List ℕ → Type 0) (piece : List ℕ) → ((text : List ℕ) → Within mark escaping text → Within mark escaping (piece ++ text))
    → ((text : List ℕ) → U text → U (piece ++ text)) → (text : List ℕ) → WithinFirst mark escaping U text → WithinFirst mark escaping U (piece ++ text)
within_onto mark escaping U piece f g text (inl u) = inl (g text u)
within_onto mark escaping U piece f g text (inr (inner, after, e, w, outcome)) = inr (piece ++ inner, after, ap (λ t. piece ++ t) e ∙ sym (append_assoc piece inner (mark ∷ after)), f inner w, outcome)

abbrev DoubleFirst : List ℕ → Type 0
DoubleFirst text = WithinFirst 34 true (UpToBackslash (Within 34 true)) text

abbrev SingleFirst : List ℕ → Type 0
SingleFirst text = WithinFirst 39 false (Within 39 false) text

record Parts (text : List ℕ) : Type 0 where
  outside : Outcome text
  double : DoubleFirst text
  single : SingleFirst text

-- a mark, and what begins after it
marked : (quote : Quote) (mark : ℕ) (escaping : Bool) (U : List ℕ → Type 0) → ((text : List ℕ) → U text → Unclosed quote mark text)
    → ((inner text : List ℕ) → Within mark escaping inner → Closed text → Closed (mark ∷ (inner ++ (mark ∷ text)))) → (text : List ℕ) → WithinFirst mark escaping U text → Outcome (mark ∷ text)
marked quote mark escaping U un wrap text (inl u) = inr (0, quote, ([], mark, text, refl, refl, nothing_closed, un text u))
marked quote mark escaping U un wrap text (inr (inner, after, e, w, outcome)) =
    let piece = mark ∷ (inner ++ (mark ∷ [])) in
    let joined : (t : List ℕ) → (inner ++ (mark ∷ [])) ++ t ≡ inner ++ (mark ∷ t) = λ t. append_assoc inner (mark ∷ []) t in
    let onto = λ (t : List ℕ) (c : Closed t). subst (λ x. Closed (mark ∷ x)) (sym (joined t)) (wrap inner t w c) in
    subst (λ x. Outcome (mark ∷ x)) (joined after ∙ sym e) (outcome_onto piece onto after outcome)

outside_at : (b : ℕ) (text : List ℕ) → Parts text → b ≢ 92 → (x y : Bool) → (b == 34) ≡ x → (b == 39) ≡ y → Outcome (b ∷ text)
outside_at b text p n92 true y e f =
    subst (λ c. Outcome (c ∷ text)) (sym (eqb-true b 34 e)) (marked Double 34 true (UpToBackslash (Within 34 true)) (λ t u. (refl, u)) between_double text p.double)
outside_at b text p n92 false true e f =
    subst (λ c. Outcome (c ∷ text)) (sym (eqb-true b 39 f)) (marked Single 39 false (Within 39 false) (λ t u. (refl, u)) between_single text p.single)
outside_at b text p n92 false false e f =
    outcome_onto (b ∷ []) (λ t c. byte_closed b t (eqb-false b 34 e) (eqb-false b 39 f) n92 c) text p.outside

within_at : (mark : ℕ) (escaping : Bool) (U : List ℕ → Type 0) (b : ℕ) (text : List ℕ) → (escaping ≡ true → b ≢ 92) → ((text : List ℕ) → b ≢ mark → U text → U (b ∷ text))
    → Outcome text → WithinFirst mark escaping U text → (x : Bool) → (b == mark) ≡ x → WithinFirst mark escaping U (b ∷ text)
within_at mark escaping U b text esc g outcome first true e = inr ([], text, ap (λ c. c ∷ text) (eqb-true b mark e), nothing_within, outcome)
within_at mark escaping U b text esc g outcome first false e =
    let ne = eqb-false b mark e in
    within_onto mark escaping U (b ∷ []) (λ t w. byte_within b t ne esc w) (λ t u. g t ne u) text first

single_at : (b : ℕ) (text : List ℕ) → Parts text → SingleFirst (b ∷ text)
single_at b text p =
    let esc : false ≡ true → b ≢ 92 = λ h. absurd cc in
    within_at 39 false (Within 39 false) b text esc (λ t ne u. byte_within b t ne esc u) p.outside p.single (b == 39) refl

double_at : (b : ℕ) (text : List ℕ) → b ≢ 92 → Parts text → DoubleFirst (b ∷ text)
double_at b text n92 p =
    within_at 34 true (UpToBackslash (Within 34 true)) b text (λ h. n92) (λ t ne u. backslash_onto (Within 34 true) (b ∷ []) (λ s w. byte_within b s ne (λ h. n92) w) t u) p.outside p.double (b == 34) refl

abbrev AfterBackslash : List ℕ → Type 0
AfterBackslash text = Outcome (92 ∷ text) × DoubleFirst (92 ∷ text)

before_byte : (c : ℕ) (rest : List ℕ) → Parts rest → AfterBackslash (c ∷ rest)
before_byte c rest p = (
  outcome_onto (92 ∷ (c ∷ [])) (λ t k. pair_closed c t k) rest p.outside,
  within_onto 34 true (UpToBackslash (Within 34 true)) (92 ∷ (c ∷ [])) (λ t w. pair_within c t refl w)
      (λ t u. backslash_onto (Within 34 true) (92 ∷ (c ∷ [])) (λ s w. pair_within c s refl w) t u) rest p.double,
)

next : (b : ℕ) (text : List ℕ) → Parts text → AfterBackslash text → (x : Bool) → (b == 92) ≡ x → Parts (b ∷ text)
next b text p escaped true e =
    let same : 92 ≡ b = sym (eqb-true b 92 e) in
    record {
      outside = subst (λ c. Outcome (c ∷ text)) same escaped.0;
      double = subst (λ c. DoubleFirst (c ∷ text)) same escaped.1;
      single = single_at b text p;
    }
next b text p escaped false e =
    let n92 = eqb-false b 92 e in
    record { outside = outside_at b text p n92 (b == 34) (b == 39) refl refl; double = double_at b text n92 p; single = single_at b text p }

parts : (text : List ℕ) → Parts text
parts [] = record { outside = inl (inl nothing_closed); double = inl (inl nothing_within); single = inl nothing_within }
parts (b ∷ []) = next b [] (parts []) (inl (inr ([], refl, nothing_closed)), inl (inr ([], refl, nothing_within))) (b == 92) refl
parts (b ∷ (c ∷ rest)) = next b (c ∷ rest) (parts (c ∷ rest)) (before_byte c rest (parts rest)) (b == 92) refl

-- ---- the law

found_open : (text : List ℕ) (place : ℕ) (quote : Quote) → Outcome text → unclosed_quote text ≡ Some (place, quote) → OpensAt text place quote
found_open text place quote (inl c) e = absurd (none-some _ (sym (none_open text c) ∙ e))
found_open text place quote (inr (p, q, at)) e =
    let same : (p, q) ≡ (place, quote) = ap (λ o. unwrap_or o (p, q)) (sym (opened text p q at) ∙ e) in
    subst (λ (w : ℕ × Quote). OpensAt text w.0 w.1) same at

all_closed : (text : List ℕ) → Outcome text → unclosed_quote text ≡ None → UpToBackslash Closed text
all_closed text (inl c) e = c
all_closed text (inr (p, q, at)) e = absurd (none-some _ (sym e ∙ opened text p q at))

pub unclosed_quote_is_open : UnclosedQuoteIsOpen
unclosed_quote_is_open text = (λ place quote. (found_open text place quote (parts text).outside, opened text place quote), (all_closed text (parts text).outside, none_open text))
