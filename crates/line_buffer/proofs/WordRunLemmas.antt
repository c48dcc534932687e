-- The last clusters of a text that are of one kind: a run of bytes of ASCII in a word, or the last cluster alone.
use Rattle.std.proofs.Common.{◌≡◌, ℕ, ◌+◌, ◌-◌, ◌==◌, ◌<◌, ◌≤◌, ◌⊎◌, inl, inr, Bool, true, false, not, ◌&&◌, ◌||◌, if◌then◌else◌, List, [], ◌∷◌, ◌++◌, length, map, take, drop, reverse, get_or, Option, None, Some, refl, sym, ap, ap₂, ◌∙◌, subst, arith, append_assoc, IsUtf8, chars, option_to_list, bytes_eq}
use Rattle.std.specs.Char.{is_ascii_alphanumeric, is_whitespace}
use Rattle.std.specs.List.{last_or, list_all, concat}
use Rattle.std.proofs.Math.Seq.{get_or-append_seam}
use Rattle.std.proofs.lemmas.Bool.{and_from, and_parts, cases_lt}
use Rattle.std.proofs.lemmas.Bool.Decides.{nat_tests}
use Rattle.std.proofs.lemmas.List.{reverse-append, reverse-reverse, length-append, length-take-le, length-drop, drop_more, map-append, append-nil, take_at, take_all, take-take, length-take, take-append-drop}
use Rattle.std.proofs.lemmas.List.Folds.{list_all-append}
use Rattle.std.proofs.lemmas.Str.{IsUtf8-encode, encode_ascii, IsCharBoundary-after_ascii}
use Rattle.unicode_segmentation.proofs.TextLemmas.{chars-encode_utf8}
use Rattle.unicode_segmentation.specs.Grapheme.{is_grapheme_break, graphemes}
use Rattle.unicode_segmentation.specs.Segments.{is_alphanumeric}
use Rattle.unicode_segmentation.proofs.AsciiLemmas.{is_alphanumeric_ascii}
use Rattle.unicode_segmentation.proofs.SegmentsLemmas.{concat-segments, nil_from-with_offsets}
use Rattle.line_buffer.specs.Clusters.{clusters}
use Rattle.line_buffer.specs.Printable.{is_printable}
use Rattle.line_buffer.specs.Words.{EndsInRun, kind_of, kinds, is_word_byte, edges_of, edge_between}
use Rattle.line_buffer.specs.declared.types.At.{At, TheVariants.Start, TheVariants.BeforeEnd, TheVariants.AfterEnd}
use Rattle.line_buffer.specs.declared.types.Word.{Word, TheVariants.Big, TheVariants.Emacs, TheVariants.Vi}
use Rattle.line_buffer.specs.declared.words.ClusterKind.{ClusterKind, TheVariants.Blank, TheVariants.InWord, TheVariants.Other}
use Rattle.line_buffer.proofs.FrontLemmas.{clusters_front, ends_or_not}
use Rattle.line_buffer.proofs.JoinLemmas.{clusters-letters, printable_ascii}
use Rattle.line_buffer.proofs.LetterLemmas.{printable_scalar}
use Rattle.line_buffer.proofs.PartingLemmas.{chars_last}
use Rattle.line_buffer.proofs.WordLemmas.{edges_of-snoc}

reversed_all : (p : ℕ → Bool) (xs : List ℕ) → list_all p xs ≡ true → list_all p (reverse xs) ≡ true
reversed_all p [] h = refl
reversed_all p (x ∷ xs) h =
    let parts = and_parts (p x) (list_all p xs) h in
    ap (list_all p) (reverse-append (x ∷ []) xs) ∙ list_all-append p (reverse xs) (x ∷ [])
    ∙ and_from (list_all p (reverse xs)) (p x && true) (reversed_all p xs parts.1) (and_from (p x) true parts.0 refl)

-- ---- bytes of a word
word_bounds : (word : Word) (c : ℕ) → is_word_byte word c ≡ true → (33 ≤ c) × (c < 127)
word_bounds Emacs c h = grind (arith, nat_tests, h)
word_bounds _ c h = grind (arith, nat_tests, h)

pub word_printable : (word : Word) (c : ℕ) → is_word_byte word c ≡ true → is_printable c ≡ true
word_printable word c h = let bounds = word_bounds word c h in grind (arith, nat_tests, bounds.0, bounds.1)

word_ascii : (word : Word) (c : ℕ) → is_word_byte word c ≡ true → c < 128
word_ascii word c h = let bounds = word_bounds word c h in omega (arith, bounds.1)

one_char : (c : ℕ) → c < 128 → chars (c ∷ []) ≡ c ∷ []
one_char c l = ap chars (sym (encode_ascii c l)) ∙ chars-encode_utf8 c (IsUtf8-encode c (grind (arith, nat_tests, l)))

is_letter : (c : ℕ) → c < 128 → list_all is_alphanumeric (chars (c ∷ [])) ≡ (is_ascii_alphanumeric c && true)
is_letter c l = ap (list_all is_alphanumeric) (one_char c l) ∙ ap (λ b. b && true) (sym (is_alphanumeric_ascii c l))

no_space : (word : Word) (c : ℕ) → is_word_byte word c ≡ true → is_whitespace c ≡ false
no_space word c h = let bounds = word_bounds word c h in grind (arith, nat_tests, bounds.0, bounds.1)

one_of : (a b : Bool) → (a || b) ≡ true → ((a && true) || (b && true)) ≡ true
one_of a b h = grind (arith, nat_tests)

pub kind_of_word_byte : (word : Word) (c : ℕ) → is_word_byte word c ≡ true → kind_of word (c ∷ []) ≡ InWord
kind_of_word_byte Emacs c h = ap (λ b. if b then InWord else Blank) (is_letter c (word_ascii Emacs c h) ∙ ap (λ b. b && true) h)
kind_of_word_byte Big c h =
    ap (λ b. if b then InWord else Blank) (ap (list_all (λ d. not (is_whitespace d))) (one_char c (word_ascii Big c h)) ∙ ap (λ b. not b && true) (no_space Big c h))
kind_of_word_byte Vi c h =
    ap (λ b. if b then InWord else (if list_all (λ d. not (is_whitespace d)) (chars (c ∷ [])) then Other else Blank))
    (ap (λ b. b || bytes_eq (c ∷ []) (95 ∷ [])) (is_letter c (word_ascii Vi c h)) ∙ one_of (is_ascii_alphanumeric c) (c == 95) h)

-- the last of two bytes at a text's end
byte_off : (word : Word) (text most front : List ℕ) (last previous : ℕ) → IsUtf8 text → text ≡ most ++ last ∷ [] → most ≡ front ++ previous ∷ [] → is_printable previous ≡ true → is_word_byte word last ≡ true
    → IsUtf8 most × (clusters text ≡ clusters most ++ (length most, last ∷ []) ∷ [])
byte_off word text most front last previous u came earlier p q =
    let r = word_printable word last q in
    let first = chars_last text most last u (printable_scalar last r) (came ∙ ap (λ bs. most ++ bs) (sym (encode_ascii last (printable_ascii last r)))) in
    let second = chars_last most front previous first.0 (printable_scalar previous p) (earlier ∙ ap (λ bs. front ++ bs) (sym (encode_ascii previous (printable_ascii previous p)))) in
    let all : chars text ≡ chars front ++ previous ∷ last ∷ [] = first.1 ∙ ap (λ cs. cs ++ last ∷ []) second.1 ∙ append_assoc (chars front) (previous ∷ []) (last ∷ []) in
    (first.0, clusters-letters text most front last previous first.0 all second.1 p r)

-- the clusters behind the printable byte, the bytes after it in the other order
abbrev Run : Word → List ℕ → ℕ → List ℕ → Type 0
Run word front w rs = (later : List ℕ) × (kinds word (clusters (front ++ w ∷ reverse rs)) ≡ kinds word (clusters (front ++ w ∷ [])) ++ map (λ i. (i, InWord)) ((length front + 1) ∷ later))

bytes_run : (word : Word) (front : List ℕ) (w v : ℕ) (rs : List ℕ) → IsUtf8 (front ++ w ∷ reverse (v ∷ rs)) → is_printable w ≡ true → list_all (is_word_byte word) (v ∷ rs) ≡ true → Run word front w (v ∷ rs)
bytes_run word front w v [] u hw h =
    let parts = and_parts (is_word_byte word v) true h in
    let off = byte_off word (front ++ w ∷ (v ∷ [])) (front ++ w ∷ []) front v w u (sym (append_assoc front (w ∷ []) (v ∷ []))) refl hw parts.0 in
    let place : length (front ++ w ∷ []) ≡ length front + 1 = omega (arith, length-append front (w ∷ [])) in (
      [],
      ap (kinds word) off.1 ∙ map-append (λ x. (x.0, kind_of word x.1)) (clusters (front ++ w ∷ [])) ((length (front ++ w ∷ []), v ∷ []) ∷ [])
          ∙ ap₂ (λ n k. kinds word (clusters (front ++ w ∷ [])) ++ (n, k) ∷ []) place (kind_of_word_byte word v parts.0),
    )
bytes_run word front w v (r ∷ rs) u hw h =
    let parts = and_parts (is_word_byte word v) (list_all (is_word_byte word) (r ∷ rs)) h in
    let most = front ++ w ∷ reverse (r ∷ rs) in
    let is : front ++ w ∷ reverse (v ∷ (r ∷ rs)) ≡ most ++ v ∷ [] = ap (λ t. front ++ w ∷ t) (reverse-append (v ∷ []) (r ∷ rs)) ∙ sym (append_assoc front (w ∷ reverse (r ∷ rs)) (v ∷ [])) in
    let earlier : most ≡ (front ++ w ∷ reverse rs) ++ r ∷ [] = ap (λ t. front ++ w ∷ t) (reverse-append (r ∷ []) rs) ∙ sym (append_assoc front (w ∷ reverse rs) (r ∷ [])) in
    let previous = word_printable word r (and_parts (is_word_byte word r) (list_all (is_word_byte word) rs) parts.1).0 in
    let off = byte_off word (front ++ w ∷ reverse (v ∷ (r ∷ rs))) most (front ++ w ∷ reverse rs) v r u is earlier previous parts.0 in
    let inner = bytes_run word front w r rs off.0 hw parts.1 in
    let first = kinds word (clusters (front ++ w ∷ [])) in (
      inner.0 ++ length most ∷ [],
      ap (kinds word) off.1 ∙ map-append (λ x. (x.0, kind_of word x.1)) (clusters most) ((length most, v ∷ []) ∷ [])
          ∙ ap₂ (λ xs k. xs ++ (length most, k) ∷ []) inner.1 (kind_of_word_byte word v parts.0)
          ∙ append_assoc first (map (λ i. (i, InWord)) ((length front + 1) ∷ inner.0)) ((length most, InWord) ∷ [])
          ∙ ap (λ t. first ++ (length front + 1, InWord) ∷ t) (sym (map-append (λ i. (i, InWord)) inner.0 (length most ∷ []))),
    )

split_bytes : (word : Word) (text front ws : List ℕ) (w : ℕ) → IsUtf8 text → text ≡ front ++ w ∷ ws → 0 < length ws → is_printable w ≡ true → list_all (is_word_byte word) ws ≡ true → EndsInRun word text (length front + 1) InWord
split_bytes word text front ws w u is some hw h = by (reverse ws) (sym (reverse-reverse ws)) (reversed_all (is_word_byte word) ws h)
  where
    long : length text ≡ length front + 1 + length ws
    long = omega (arith, ap length is, length-append front (w ∷ ws))

    here : get_or text (length front) 0 ≡ w
    here = ap (λ t. get_or t (length front) 0) is ∙ get_or-append_seam front w ws 0

    begin : take (length front + 1) text ≡ front ++ w ∷ []
    begin = ap (take (length front + 1)) (is ∙ sym (append_assoc front (w ∷ []) ws)) ∙ take_at (front ++ w ∷ []) ws (length front + 1) (length-append front (w ∷ []))

    by : (rs : List ℕ) → ws ≡ reverse rs → list_all (is_word_byte word) rs ≡ true → EndsInRun word text (length front + 1) InWord
    by [] e k = absurd (omega (arith, some, ap length e))
    by (v ∷ rs) e k =
        let same : text ≡ front ++ w ∷ reverse (v ∷ rs) = is ∙ ap (λ t. front ++ w ∷ t) e in
        let run = bytes_run word front w v rs (subst IsUtf8 same u) hw k in
        record {
          start = IsCharBoundary-after_ascii text (length front) u (omega (arith, long)) (omega (arith, here, printable_ascii w hw));
          shorter = omega (arith, long, some);
          later = run.0;
          splits = ap (λ t. kinds word (clusters t)) same ∙ run.1 ∙ ap (λ t. kinds word (clusters t) ++ map (λ i. (i, InWord)) ((length front + 1) ∷ run.0)) (sym begin);
        }

-- such bytes behind a printable one
ends_behind : (word : Word) (text : List ℕ) (i : ℕ) → IsUtf8 text → i + 1 < length text → is_printable (get_or text i 0) ≡ true → list_all (is_word_byte word) (drop (i + 1) text) ≡ true → EndsInRun word text (i + 1) InWord
ends_behind word text i u l p h =
    let some : 0 < length (drop (i + 1) text) = omega (arith, l, length-drop (i + 1) text) in
    subst (λ n. EndsInRun word text (n + 1) InWord) (length-take-le i text (omega (arith, l)))
    (split_bytes word text (take i text) (drop (i + 1) text) (get_or text i 0) u (sym (take-append-drop i text) ∙ ap (λ t. take i text ++ t) (drop_more text i 0 (omega (arith, l)))) some p h)

pub ends_in_word : (word : Word) (text : List ℕ) (start : ℕ) → IsUtf8 text → 0 < start → start < length text → is_printable (get_or text (start - 1) 0) ≡ true → list_all (is_word_byte word) (drop start text) ≡ true → EndsInRun word text start InWord
ends_in_word word text start u l m p h =
    let same : start - 1 + 1 ≡ start = omega (arith, l) in
    subst (λ n. EndsInRun word text n InWord) same
    (ends_behind word text (start - 1) u (omega (arith, l, m)) p (subst (λ n. list_all (is_word_byte word) (drop n text) ≡ true) (sym same) h))

-- the first byte may be joined to what stands before it
pub ends_behind_first : (word : Word) (text : List ℕ) (start : ℕ) → IsUtf8 text → start + 1 < length text → list_all (is_word_byte word) (drop start text) ≡ true → EndsInRun word text (start + 1) InWord
ends_behind_first word text start u l h =
    let parts = and_parts (is_word_byte word (get_or text start 0)) (list_all (is_word_byte word) (drop (start + 1) text)) (sym (ap (list_all (is_word_byte word)) (drop_more text start 0 (omega (arith, l)))) ∙ h) in
    ends_behind word text start u l (word_printable word (get_or text start 0) parts.0) parts.1

-- ---- the last cluster alone
pub ends_in_cluster : (word : Word) (text : List ℕ) (start : ℕ) (cluster : List ℕ) (kind : ClusterKind) → IsUtf8 text → Some (start, cluster) ≡ last_or None (take 1 (reverse (clusters text)))
    → kind ≡ kind_of word cluster → EndsInRun word text start kind
ends_in_cluster word text start cluster kind u found is = elim (ends_or_not (clusters text)) [
  | inl e ↦ absurd (let none : Some (start, cluster) ≡ None = found ∙ ap (λ xs. last_or None (take 1 (reverse xs))) e in cc)
  | inr h ↦ at_last h.0 h.1 h.2
]
  where
    at_last : (new : List (ℕ × List ℕ)) (x : ℕ × List ℕ) → clusters text ≡ new ++ x ∷ [] → EndsInRun word text start kind
    at_last new x e =
        let same : Some (start, cluster) ≡ Some x = found ∙ ap (λ xs. last_or None (take 1 (reverse xs))) e ∙ ap (λ xs. last_or None (take 1 xs)) (reverse-append new (x ∷ [])) in
        let last : clusters text ≡ new ++ (start, cluster) ∷ [] = e ∙ ap (λ y. new ++ y ∷ []) (let q : x ≡ (start, cluster) = cc in q) in
        let front = clusters_front text start cluster new u last in
        record {
          start = front.0;
          shorter = by_order (cases_lt start (length text)) front.1 last;
          later = [];
          splits = ap (kinds word) last ∙ map-append (λ y. (y.0, kind_of word y.1)) new ((start, cluster) ∷ []) ∙ ap₂ (λ ys k. kinds word ys ++ (start, k) ∷ []) (sym front.1) (sym is);
        }
      where
        by_order : (start < length text) ⊎ (length text ≤ start) → clusters (take start text) ≡ new → clusters text ≡ new ++ (start, cluster) ∷ [] → start < length text
        by_order (inl l) c d = l
        by_order (inr q) c d =
            let whole : take start text ≡ text = take_all start text (omega (arith, q)) in
            let twice : new ≡ new ++ (start, cluster) ∷ [] = sym c ∙ ap clusters whole ∙ d in
            absurd (omega (arith, ap length twice, length-append new ((start, cluster) ∷ [])))

pub no_cluster : (text : List ℕ) → IsUtf8 text → None ≡ last_or None (take 1 (reverse (clusters text))) → length text ≡ 0
no_cluster text u found = elim (ends_or_not (clusters text)) [
  | inl e ↦ ap length (sym (concat-segments (is_grapheme_break true) text u)) ∙ ap (λ ps. length (concat ps)) (nil_from-with_offsets 0 (graphemes true text) e)
  | inr h ↦ absurd (let some : None ≡ Some h.1 = found ∙ ap (λ xs. last_or None (take 1 (reverse xs))) h.2 ∙ ap (λ xs. last_or None (take 1 xs)) (reverse-append h.0 (h.1 ∷ [])) in cc)
]

-- ---- the starts of words around such clusters
pub no_edge : (at : At) (kind : ClusterKind) (i j : ℕ) → edge_between at (i, kind) (j, kind) ≡ None
no_edge Start Blank i j = refl
no_edge BeforeEnd Blank i j = refl
no_edge AfterEnd Blank i j = refl
no_edge _ _ i j = refl

run_edges : (xs : List (ℕ × ClusterKind)) (kind : ClusterKind) (at : ℕ) (later : List ℕ) (y : ℕ × ClusterKind)
    → edges_of Start ((xs ++ map (λ i. (i, kind)) (at ∷ later)) ++ y ∷ []) ≡ edges_of Start (xs ++ (at, kind) ∷ []) ++ option_to_list (edge_between Start (at, kind) y)
run_edges xs kind at [] y = ap (edges_of Start) (append_assoc xs ((at, kind) ∷ []) (y ∷ [])) ∙ edges_of-snoc Start xs (at, kind) y
run_edges xs kind at (i ∷ later) y =
    ap (λ zs. edges_of Start (zs ++ y ∷ [])) (sym (append_assoc xs ((at, kind) ∷ []) (map (λ j. (j, kind)) (i ∷ later))))
    ∙ run_edges (xs ++ (at, kind) ∷ []) kind i later y
    ∙ ap (λ zs. zs ++ option_to_list (edge_between Start (at, kind) y))
    (ap (edges_of Start) (append_assoc xs ((at, kind) ∷ []) ((i, kind) ∷ [])) ∙ edges_of-snoc Start xs (at, kind) (i, kind)
    ∙ ap (λ o. edges_of Start (xs ++ (at, kind) ∷ []) ++ option_to_list o) (no_edge Start kind at i) ∙ append-nil (edges_of Start (xs ++ (at, kind) ∷ [])))

reverse_option : (o : Option ℕ) → reverse (option_to_list o) ≡ option_to_list o
reverse_option None = refl
reverse_option (Some i) = refl

pub run_split : (word : Word) (text : List ℕ) (end at : ℕ) (kind right : ClusterKind) → EndsInRun word (take end text) at kind
    → reverse (edges_of Start (kinds word (clusters (take end text)) ++ (end, right) ∷ [])) ≡ option_to_list (edge_between Start (at, kind) (end, right)) ++ reverse (edges_of Start (kinds word (clusters (take at text)) ++ (at, kind) ∷ []))
run_split word text end at kind right run =
    let front = take at (take end text) in
    let edge = option_to_list (edge_between Start (at, kind) (end, right)) in
    ap (λ xs. reverse (edges_of Start (xs ++ (end, right) ∷ []))) run.splits
    ∙ ap reverse (run_edges (kinds word (clusters front)) kind at run.later (end, right))
    ∙ reverse-append (edges_of Start (kinds word (clusters front) ++ (at, kind) ∷ [])) edge
    ∙ ap₂ (λ zs bs. zs ++ reverse (edges_of Start (kinds word (clusters bs) ++ (at, kind) ∷ []))) (reverse_option (edge_between Start (at, kind) (end, right))) (take-take at end text (omega (arith, run.shorter, length-take end text)))

-- nothing starts at the text's end
pub blank_end : (word : Word) (text : List ℕ) → edges_of Start (kinds word (clusters text)) ≡ edges_of Start (kinds word (clusters (take (length text) text)) ++ (length text, Blank) ∷ [])
blank_end word text =
    sym (ap (λ bs. edges_of Start (kinds word (clusters bs) ++ (length text, Blank) ∷ [])) (take_all (length text) text (omega arith))
    ∙ behind (kinds word (clusters text)))
  where
    behind : (xs : List (ℕ × ClusterKind)) → edges_of Start (xs ++ (length text, Blank) ∷ []) ≡ edges_of Start xs
    behind [] = refl
    behind (x ∷ []) = refl
    behind (x ∷ (y ∷ xs)) = ap (λ zs. option_to_list (edge_between Start x y) ++ zs) (behind (y ∷ xs))
