-- The match of a bracket, and the texts in which the brackets of one kind are balanced.
use Rattle.std.proofs.Common.{◌≡◌, ◌≢◌, ℕ, zero, suc, ◌+◌, ◌-◌, Bool, true, false, List, [], ◌∷◌, ◌++◌, length, take, drop, reverse, refl, sym, ap, ◌∙◌, append_assoc, Option, Some, None, option_map, arith, length-append}
use Rattle.std.specs.Prelude.{◌==◌, ◌&&◌}
use Rattle.std.proofs.Math.Bool.{or-false}
use Rattle.std.proofs.lemmas.Bool.{and_parts, eq-eqb, eqb-true, ne_eqb, or_from, or_parts}
use Rattle.std.proofs.lemmas.List.{reverse-append, reverse-reverse, length-reverse}
use Rattle.line_help.specs.Brackets.{partner, Balanced, empty, other, pair, bytes_between, match_place, OpeningIsMatched, ClosingIsMatched}
use Rattle.line_help.proofs.BalanceLemmas.{Kind, are_kind, kind_of_opening, kind_of_closing, brackets_differ}
use Rattle.line_help.proofs.FoundLemmas.{mapped}

-- balanced in the brackets of one kind
abbrev One : ℕ → ℕ → List ℕ → Type 0
One s o text = Balanced ((s, o) ∷ []) text

-- one byte
here_step : (s o b : ℕ) (text : List ℕ) → (b == o) ≡ true → bytes_between s o 0 (b ∷ text) ≡ Some 0
here_step s o b text h = rw h refl

closing_step : (s o d b : ℕ) (text : List ℕ) → (b == o) ≡ true → bytes_between s o (suc d) (b ∷ text) ≡ option_map suc (bytes_between s o d text)
closing_step s o d b text h =
    let some : (suc d == 0) ≡ false = ne_eqb (suc d) 0 (λ e. absurd (omega arith)) in
    let less : suc d - 1 ≡ d = omega arith in
    rw (h, some, less) refl

opening_step : (s o d b : ℕ) (text : List ℕ) → (b == o) ≡ false → (b == s) ≡ true → bytes_between s o d (b ∷ text) ≡ option_map suc (bytes_between s o (suc d) text)
opening_step s o d b text h i =
    let more : d + 1 ≡ suc d = omega arith in
    rw (h, i, more) refl

other_step : (s o d b : ℕ) (text : List ℕ) → (b == o) ≡ false → (b == s) ≡ false → bytes_between s o d (b ∷ text) ≡ option_map suc (bytes_between s o d text)
other_step s o d b text h i = rw (h, i) refl

in_one_kind : (s o : ℕ) → are_kind ((s, o) ∷ []) s o ≡ true
in_one_kind s o = rw (eq-eqb s s refl, eq-eqb o o refl) refl

-- the brackets `o` that close so many brackets are found, the last of them after so many bytes
abbrev Ends : ℕ → ℕ → ℕ → List ℕ → ℕ → Type 0
Ends s o zero text n = (between : List ℕ) × (after : List ℕ) × (text ≡ between ++ (o ∷ after)) × One s o between × (n ≡ length between)
Ends s o (suc d) text n = (between : List ℕ) × (rest : List ℕ) × (m : ℕ) × (text ≡ between ++ (o ∷ rest)) × One s o between × Ends s o d rest m × (n ≡ length between + suc m)

ends_behind_other : (s o d b : ℕ) (text : List ℕ) (n : ℕ) → (b == o) ≡ false → (b == s) ≡ false → Ends s o d text n → Ends s o d (b ∷ text) (suc n)
ends_behind_other s o zero b text n h i ends =
    (b ∷ ends.0, ends.1, ap (λ t. b ∷ t) ends.2, other b ends.0 (or_from (b == s) false i refl) (or_from (b == o) false h refl) ends.3, ap (λ k. suc k) ends.4)
ends_behind_other s o (suc d) b text n h i ends =
    (b ∷ ends.0, ends.1, ends.2, ap (λ t. b ∷ t) ends.3, other b ends.0 (or_from (b == s) false i refl) (or_from (b == o) false h refl) ends.4, ends.5, omega (arith, ends.6))

ends_behind_pair : (s o d : ℕ) (inner rest : List ℕ) (m : ℕ) → One s o inner → Ends s o d rest m → Ends s o d (s ∷ (inner ++ (o ∷ rest))) (suc (length inner + suc m))
ends_behind_pair s o zero inner rest m balanced ends =
    let e : s ∷ (inner ++ (o ∷ rest)) ≡ (s ∷ (inner ++ (o ∷ ends.0))) ++ (o ∷ ends.1) = rw (ends.2, append_assoc) refl in
    let n : suc (length inner + suc m) ≡ length (s ∷ (inner ++ (o ∷ ends.0))) = omega (arith, length-append inner (o ∷ ends.0), ends.4) in
    (s ∷ (inner ++ (o ∷ ends.0)), ends.1, e, pair s o inner ends.0 (in_one_kind s o) balanced ends.3, n)
ends_behind_pair s o (suc d) inner rest m balanced ends =
    let e : s ∷ (inner ++ (o ∷ rest)) ≡ (s ∷ (inner ++ (o ∷ ends.0))) ++ (o ∷ ends.1) = rw (ends.3, append_assoc) refl in
    let n : suc (length inner + suc m) ≡ length (s ∷ (inner ++ (o ∷ ends.0))) + suc ends.2 = omega (arith, length-append inner (o ∷ ends.0), ends.6) in
    (s ∷ (inner ++ (o ∷ ends.0)), ends.1, ends.2, e, pair s o inner ends.0 (in_one_kind s o) balanced ends.4, ends.5, n)

moved : (s o d : ℕ) (text new : List ℕ) (n m : ℕ) → new ≡ text → m ≡ n → Ends s o d text n → Ends s o d new m
moved s o d text new n m e f ends = rw (e, f) ends

ends_at_byte : (s o d b : ℕ) (text : List ℕ) (n : ℕ) → ((d n : ℕ) → bytes_between s o d text ≡ Some n → Ends s o d text n)
    → (p q : Bool) → (b == o) ≡ p → (b == s) ≡ q → bytes_between s o d (b ∷ text) ≡ Some n → Ends s o d (b ∷ text) n
ends_at_byte s o zero b text n later true q i j h =
    let none : Some 0 ≡ Some n = sym (here_step s o b text i) ∙ h in
    ([], text, ap (λ c. c ∷ text) (eqb-true b o i), empty, cc)
ends_at_byte s o (suc d) b text n later true q i j h =
    let found : (m : ℕ) × (bytes_between s o d text ≡ Some m) × (n ≡ suc m) = mapped suc _ n (sym (closing_step s o d b text i) ∙ h) in
    ([], text, found.0, ap (λ c. c ∷ text) (eqb-true b o i), empty, later d found.0 found.1, omega (arith, found.2))
ends_at_byte s o d b text n later false true i j h =
    let found : (m : ℕ) × (bytes_between s o (suc d) text ≡ Some m) × (n ≡ suc m) = mapped suc _ n (sym (opening_step s o d b text i j) ∙ h) in
    let ends : Ends s o (suc d) text found.0 = later (suc d) found.0 found.1 in
    let e : b ≡ s = eqb-true b s j in
    let count : n ≡ suc (length ends.0 + suc ends.2) = omega (arith, found.2, ends.6) in
    moved s o d _ (b ∷ text) _ n (ap (λ c. c ∷ text) e ∙ ap (λ t. s ∷ t) ends.3) count (ends_behind_pair s o d ends.0 ends.1 ends.2 ends.4 ends.5)
ends_at_byte s o d b text n later false false i j h =
    let found : (m : ℕ) × (bytes_between s o d text ≡ Some m) × (n ≡ suc m) = mapped suc _ n (sym (other_step s o d b text i j) ∙ h) in
    moved s o d (b ∷ text) (b ∷ text) (suc found.0) n refl found.2 (ends_behind_other s o d b text found.0 i j (later d found.0 found.1))

found_ends : (s o d : ℕ) (text : List ℕ) (n : ℕ) → bytes_between s o d text ≡ Some n → Ends s o d text n
found_ends s o d [] n h = absurd cc
found_ends s o d (b ∷ text) n h = ends_at_byte s o d b text n (λ e m i. found_ends s o e text m i) _ _ refl refl h

map_none : (x : Option ℕ) → x ≡ option_map (λ n. 0 + n) x
map_none None = refl
map_none (Some n) = ap (λ k. Some k) (omega arith)

map_one : (k : ℕ) (x : Option ℕ) → option_map suc (option_map (λ n. k + n) x) ≡ option_map (λ n. suc k + n) x
map_one k None = refl
map_one k (Some n) = ap (λ j. Some j) (omega arith)

map_pair : (a b c : ℕ) (x : Option ℕ) → c ≡ a + suc b → option_map suc (option_map (λ n. a + n) (option_map suc (option_map (λ n. b + n) x))) ≡ option_map (λ n. suc c + n) x
map_pair a b c None h = refl
map_pair a b c (Some n) h = ap (λ j. Some j) (omega arith)

balanced_between : {s o : ℕ} {text : List ℕ} → One s o text → s ≢ o → (d : ℕ) (more : List ℕ) → bytes_between s o d (text ++ more) ≡ option_map (λ n. length text + n) (bytes_between s o d more)
balanced_between empty ne d more = map_none _
balanced_between {s = s} {o = o} (other b text i h balanced) ne d more =
    other_step s o d b (text ++ more) (or_parts (b == o) false h).0 (or_parts (b == s) false i).0
    ∙ ap (λ x. option_map suc x) (balanced_between balanced ne d more)
    ∙ map_one (length text) (bytes_between s o d more)
balanced_between {s = s} {o = o} (pair t c inner text k inside behind) ne d more =
    let tests : ((t == s) ≡ true) × ((c == o) ≡ true) = and_parts (t == s) (c == o) (sym (or-false ((t == s) && (c == o))) ∙ k) in
    let differ : (t == o) ≡ false = ne_eqb t o (λ e. ne (sym (eqb-true t s tests.0) ∙ e)) in
    let inner_passes : bytes_between s o (suc d) ((inner ++ (c ∷ text)) ++ more) ≡ option_map (λ n. length inner + n) (bytes_between s o (suc d) (c ∷ (text ++ more))) =
    rw append_assoc (balanced_between inside ne (suc d) (c ∷ (text ++ more))) in
    let behind_passes : bytes_between s o (suc d) (c ∷ (text ++ more)) ≡ option_map suc (option_map (λ n. length text + n) (bytes_between s o d more)) =
    closing_step s o d c (text ++ more) tests.1 ∙ ap (λ x. option_map suc x) (balanced_between behind ne d more) in
    opening_step s o d t ((inner ++ (c ∷ text)) ++ more) differ tests.0
    ∙ ap (λ x. option_map suc x) (inner_passes ∙ ap (λ x. option_map (λ n. length inner + n) x) behind_passes)
    ∙ map_pair (length inner) (length text) (length (inner ++ (c ∷ text))) (bytes_between s o d more) (length-append inner (c ∷ text))

-- the same brackets, read from the end
joined : {s o : ℕ} {first : List ℕ} → One s o first → (second : List ℕ) → One s o second → One s o (first ++ second)
joined empty second balanced = balanced
joined (other b text h i balanced) second later = other b (text ++ second) h i (joined balanced second later)
joined (pair t c inner text k inside behind) second later = rw append_assoc (pair t c inner (text ++ second) k inside (joined behind second later))

turned : {s o : ℕ} {text : List ℕ} → One s o text → One o s (reverse text)
turned empty = empty
turned (other b text h i balanced) = rw (reverse-append (b ∷ []) text) (joined (turned balanced) (b ∷ []) (other b [] i h empty))
turned {s = s} {o = o} (pair t c inner text k inside behind) =
    let tests : ((t == s) ≡ true) × ((c == o) ≡ true) = and_parts (t == s) (c == o) (sym (or-false ((t == s) && (c == o))) ∙ k) in
    let kind : are_kind ((o, s) ∷ []) c t ≡ true = rw (tests.0, tests.1) refl in
    let e : reverse (t ∷ (inner ++ (c ∷ text))) ≡ reverse text ++ (c ∷ (reverse inner ++ (t ∷ []))) =
    rw (reverse-append (t ∷ []) (inner ++ (c ∷ text)), reverse-append inner (c ∷ text), reverse-append (c ∷ []) text, append_assoc, append_assoc) refl in
    rw e (joined (turned behind) (c ∷ (reverse inner ++ (t ∷ []))) (pair c t (reverse inner) [] kind (turned inside) empty))

behind_is : (rest : List ℕ) (pos s o place : ℕ) → option_map (λ n. pos + 1 + n) (bytes_between s o 0 rest) ≡ Some place
    → (between : List ℕ) × (after : List ℕ) × (rest ≡ between ++ (o ∷ after)) × One s o between × (place ≡ pos + 1 + length between)
behind_is rest pos s o place h =
    let found : (n : ℕ) × (bytes_between s o 0 rest ≡ Some n) × (place ≡ pos + 1 + n) = mapped (λ n. pos + 1 + n) _ place h in
    let ends : Ends s o 0 rest found.0 = found_ends s o 0 rest found.0 found.1 in
    (ends.0, ends.1, ends.2, ends.3, omega (arith, found.2, ends.4))

is_behind : (rest between after : List ℕ) (pos s o place : ℕ) → s ≢ o → rest ≡ between ++ (o ∷ after) → One s o between → place ≡ pos + 1 + length between
    → option_map (λ n. pos + 1 + n) (bytes_between s o 0 rest) ≡ Some place
is_behind rest between after pos s o place ne e balanced h =
    let found : bytes_between s o 0 rest ≡ Some (length between + 0) =
    ap (λ t. bytes_between s o 0 t) e ∙ balanced_between balanced ne 0 (o ∷ after) ∙ ap (λ x. option_map (λ n. length between + n) x) (here_step s o o after (eq-eqb o o refl)) in
    ap (λ x. option_map (λ n. pos + 1 + n) x) found ∙ ap (λ k. Some k) (omega (arith, h))

pub opening_law : OpeningIsMatched
opening_law line pos opening place h =
    let kind : Kind opening (partner opening) = kind_of_opening opening h in
    let e : match_place line pos opening ≡ option_map (λ n. pos + 1 + n) (bytes_between opening (partner opening) 0 (drop (pos + 1) line)) = rw h refl in (
      λ found. behind_is (drop (pos + 1) line) pos opening (partner opening) place (sym e ∙ found),
      λ m. e ∙ is_behind (drop (pos + 1) line) m.0 m.1 pos opening (partner opening) place (brackets_differ opening (partner opening) kind) m.2 m.3 m.4,
    )

before_is : (text : List ℕ) (s o place : ℕ) → option_map (λ n. length text - 1 - n) (bytes_between s o 0 (reverse text)) ≡ Some place
    → (before : List ℕ) × (between : List ℕ) × (text ≡ before ++ (o ∷ between)) × One o s between × (place ≡ length before)
before_is text s o place h =
    let found : (n : ℕ) × (bytes_between s o 0 (reverse text) ≡ Some n) × (place ≡ length text - 1 - n) = mapped (λ n. length text - 1 - n) _ place h in
    let ends : Ends s o 0 (reverse text) found.0 = found_ends s o 0 (reverse text) found.0 found.1 in
    let e : reverse (ends.0 ++ (o ∷ ends.1)) ≡ reverse ends.1 ++ (o ∷ reverse ends.0) =
    rw (reverse-append ends.0 (o ∷ ends.1), reverse-append (o ∷ []) ends.1, append_assoc) refl in
    let f : text ≡ reverse ends.1 ++ (o ∷ reverse ends.0) = sym (reverse-reverse text) ∙ ap (λ t. reverse t) ends.2 ∙ e in
    let n : length text ≡ length (reverse ends.1) + suc (length (reverse ends.0)) = ap (λ t. length t) f ∙ length-append (reverse ends.1) (o ∷ reverse ends.0) in
    (reverse ends.1, reverse ends.0, f, turned ends.3, omega (arith, found.2, ends.4, n, length-reverse ends.0))

is_before : (text before between : List ℕ) (s o place : ℕ) → s ≢ o → text ≡ before ++ (o ∷ between) → One o s between → place ≡ length before
    → option_map (λ n. length text - 1 - n) (bytes_between s o 0 (reverse text)) ≡ Some place
is_before text before between s o place ne e balanced h =
    let f : reverse text ≡ reverse between ++ (o ∷ reverse before) =
    ap (λ t. reverse t) e ∙ rw (reverse-append before (o ∷ between), reverse-append (o ∷ []) between, append_assoc) refl in
    let found : bytes_between s o 0 (reverse text) ≡ Some (length (reverse between) + 0) =
    ap (λ t. bytes_between s o 0 t) f ∙ balanced_between (turned balanced) ne 0 (o ∷ reverse before)
    ∙ ap (λ x. option_map (λ n. length (reverse between) + n) x) (here_step s o o (reverse before) (eq-eqb o o refl)) in
    let n : length text ≡ length before + suc (length between) = ap (λ t. length t) e ∙ length-append before (o ∷ between) in
    ap (λ x. option_map (λ n. length text - 1 - n) x) found ∙ ap (λ k. Some k) (omega (arith, h, n, length-reverse between))

pub closing_law : ClosingIsMatched
closing_law line pos closing place h =
    let kind : Kind (partner closing) closing = kind_of_closing closing h in
    let e : match_place line pos closing ≡ option_map (λ n. length (take pos line) - 1 - n) (bytes_between closing (partner closing) 0 (reverse (take pos line))) = rw (kind.not_opening, h) refl in (
      λ found. before_is (take pos line) closing (partner closing) place (sym e ∙ found),
      λ m. e ∙ is_before (take pos line) m.0 m.1 closing (partner closing) place (λ same. brackets_differ (partner closing) closing kind (sym same)) m.2 m.3 m.4,
    )
