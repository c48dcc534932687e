-- The first clusters of a text that are of one kind: a run of bytes of ASCII in a word, or the first cluster alone.
use Rattle.std.proofs.Common.{◌≡◌, ℕ, suc, ◌+◌, ◌-◌, ◌<◌, ◌≤◌, true, List, [], ◌∷◌, ◌++◌, length, take, drop, get_or, None, Some, refl, sym, ap, ap₂, ◌∙◌, subst, arith, IsUtf8, IsCharBoundary, encode_utf8, option_to_list, add-zero}
use Rattle.std.specs.List.{last_or, list_all, concat}
use Rattle.std.proofs.lemmas.Bool.{and_parts}
use Rattle.std.proofs.lemmas.List.{take-append-drop, length-take-le, drop-drop, drop_more}
use Rattle.std.proofs.lemmas.List.Folds.{list_all_more}
use Rattle.std.proofs.lemmas.Str.{encode_ascii, IsUtf8-past_char, IsCharBoundary-from_rest}
use Rattle.unicode_segmentation.specs.Grapheme.{is_grapheme_break, graphemes}
use Rattle.unicode_segmentation.specs.Segments.{with_offsets}
use Rattle.unicode_segmentation.proofs.SegmentsLemmas.{AllPieces, segments_nonempty, concat-segments, nil_from-with_offsets}
use Rattle.line_buffer.specs.Clusters.{clusters}
use Rattle.line_buffer.specs.Printable.{is_printable}
use Rattle.line_buffer.specs.Words.{BeginsInRun, clusters_at, kind_of, kinds, is_word_byte, edges_of, edge_between}
use Rattle.line_buffer.specs.declared.types.At.{At}
use Rattle.line_buffer.specs.declared.types.Word.{Word}
use Rattle.line_buffer.specs.declared.words.ClusterKind.{ClusterKind, TheVariants.InWord}
use Rattle.line_buffer.proofs.LetterLemmas.{first_letter}
use Rattle.line_buffer.proofs.RestLemmas.{graphemes_rest}
use Rattle.line_buffer.proofs.StopLemmas.{clusters-empty}
use Rattle.line_buffer.proofs.JoinLemmas.{printable_ascii}
use Rattle.line_buffer.proofs.WordRunLemmas.{kind_of_word_byte, word_printable, no_edge}

-- ---- the first cluster alone
begins_in_piece : (word : Word) (text p : List ℕ) (ps : List (List ℕ)) → IsUtf8 text → graphemes true text ≡ p ∷ ps → BeginsInRun word text 0 (length p) (kind_of word p)
unfolding with_offsets
begins_in_piece word text p ps u is = record {
  boundary = rest.0;
  some = (subst (AllPieces (λ q. 0 < length q)) is (segments_nonempty (is_grapheme_break true) text)).0;
  first = λ at from. ap (edges_of at) (shape from) ∙ place at from;
  splits = λ at from left. ap (λ xs. edges_of at (left ∷ xs)) (shape from) ∙ ap (λ zs. option_to_list (edge_between at left (from, kind_of word p)) ++ zs) (place at from);
}
  where
    rest : IsCharBoundary text (length p) × (graphemes true (drop (length p) text) ≡ ps)
    rest = graphemes_rest text p ps u is

    behind : ℕ → List (ℕ × ClusterKind)
    behind from = kinds word (clusters_at (from + length p) (drop (length p) text))

    shape : (from : ℕ) → kinds word (clusters_at from text) ≡ (from, kind_of word p) ∷ behind from
    shape from = ap (λ gs. kinds word (with_offsets from gs)) is ∙ ap (λ gs. (from, kind_of word p) ∷ kinds word (with_offsets (from + length p) gs)) (sym rest.1)

    place : (at : At) (from : ℕ) → edges_of at ((from, kind_of word p) ∷ behind from) ≡ edges_of at ((from + 0, kind_of word p) ∷ behind from)
    place at from = ap (λ n. edges_of at ((n, kind_of word p) ∷ behind from)) (sym (add-zero from))

first_piece : (text p : List ℕ) (ps : List (List ℕ)) (x : ℕ × List ℕ) → graphemes true text ≡ p ∷ ps → Some x ≡ last_or None (take 1 (clusters text)) → x.1 ≡ p
unfolding with_offsets
first_piece text p ps x is found =
    let e : Some x ≡ Some (0, p) = found ∙ ap (λ gs. last_or None (take 1 (with_offsets 0 gs))) is in
    ap (λ y. y.1) (let q : x ≡ (0, p) = cc in q)

no_first : (text : List ℕ) (x : ℕ × List ℕ) → graphemes true text ≡ [] → Some x ≡ last_or None (take 1 (clusters text)) → ⊥
unfolding with_offsets
no_first text x is found = let e : Some x ≡ None = found ∙ ap (λ gs. last_or None (take 1 (with_offsets 0 gs))) is in cc

pub begins_in_cluster : (word : Word) (text : List ℕ) (x : ℕ × List ℕ) (kind : ClusterKind) → IsUtf8 text → Some x ≡ last_or None (take 1 (clusters text)) → kind ≡ kind_of word x.1 → BeginsInRun word text 0 (length x.1) kind
begins_in_cluster word text x kind u found is = by (graphemes true text) refl
  where
    by : (gs : List (List ℕ)) → graphemes true text ≡ gs → BeginsInRun word text 0 (length x.1) kind
    by [] e = absurd (no_first text x e found)
    by (p ∷ ps) e =
        let same = first_piece text p ps x e found in
        subst (λ k. BeginsInRun word text 0 (length x.1) k) (sym is) (subst (λ q. BeginsInRun word text 0 (length q) (kind_of word q)) (sym same) (begins_in_piece word text p ps u e))

pub no_first_cluster : (text : List ℕ) → IsUtf8 text → None ≡ last_or None (take 1 (clusters text)) → length text ≡ 0
unfolding with_offsets
no_first_cluster text u found = by (graphemes true text) refl
  where
    by : (gs : List (List ℕ)) → graphemes true text ≡ gs → length text ≡ 0
    by [] e = ap length (sym (concat-segments (is_grapheme_break true) text u)) ∙ ap (λ ps. length (concat ps)) e
    by (p ∷ ps) e = absurd (let some : None ≡ Some (0, p) = found ∙ ap (λ gs. last_or None (take 1 (with_offsets 0 gs))) e in cc)

pub clusters_at-empty : (from : ℕ) (text : List ℕ) → length text ≡ 0 → clusters_at from text ≡ []
unfolding with_offsets
clusters_at-empty from text none = ap (with_offsets from) (nil_from-with_offsets 0 (graphemes true text) (clusters-empty text none))

-- the clusters behind the first
pub behind_first : (text : List ℕ) (x : ℕ × List ℕ) → IsUtf8 text → Some x ≡ last_or None (take 1 (clusters text)) → IsCharBoundary text (length x.1) × (drop 1 (clusters text) ≡ clusters_at (length x.1) (drop (length x.1) text))
unfolding with_offsets
behind_first text x u found = by (graphemes true text) refl
  where
    by : (gs : List (List ℕ)) → graphemes true text ≡ gs → IsCharBoundary text (length x.1) × (drop 1 (clusters text) ≡ clusters_at (length x.1) (drop (length x.1) text))
    by [] e = absurd (no_first text x e found)
    by (p ∷ ps) e =
        let same = first_piece text p ps x e found in
        let rest = graphemes_rest text p ps u e in
        let long : 0 + length p ≡ length p = omega arith in
        subst (λ q. IsCharBoundary text (length q) × (drop 1 (clusters text) ≡ clusters_at (length q) (drop (length q) text))) (sym same)
        (rest.0, ap (λ gs. drop 1 (with_offsets 0 gs)) e ∙ ap₂ with_offsets long (sym rest.1))

-- ---- one run after another of the same kind
runs_join : (word : Word) (text : List ℕ) (last end later upto : ℕ) (kind : ClusterKind) → BeginsInRun word text last end kind → BeginsInRun word (drop end text) later upto kind → BeginsInRun word text (end + later) (end + upto) kind
runs_join word text last end later upto kind one two = record {
  boundary = IsCharBoundary-from_rest text end upto one.boundary.0 two.boundary;
  some = omega (arith, two.some);
  first = λ at from. one.first at from ∙ on at from;
  splits = λ at from left. one.splits at from left ∙ ap (λ zs. option_to_list (edge_between at left (from, kind)) ++ zs) (on at from);
}
  where
    on : (at : At) (from : ℕ) → edges_of at ((from + last, kind) ∷ kinds word (clusters_at (from + end) (drop end text)))
        ≡ edges_of at ((from + (end + later), kind) ∷ kinds word (clusters_at (from + (end + upto)) (drop (end + upto) text)))
    on at from =
        let place : from + end + later ≡ from + (end + later) = omega arith in
        let behind : from + end + upto ≡ from + (end + upto) = omega arith in
        two.splits at (from + end) (from + last, kind)
        ∙ ap (λ o. option_to_list o ++ edges_of at ((from + end + later, kind) ∷ kinds word (clusters_at (from + end + upto) (drop upto (drop end text))))) (no_edge at kind (from + last) (from + end))
        ∙ ap₂ (λ i j. edges_of at ((i, kind) ∷ kinds word (clusters_at j (drop upto (drop end text))))) place behind
        ∙ ap (λ bs. edges_of at ((from + (end + later), kind) ∷ kinds word (clusters_at (from + (end + upto)) bs))) (drop-drop upto end text)

-- ---- bytes of a word
in_front : (c : ℕ) (text : List ℕ) → is_printable c ≡ true → c ∷ text ≡ encode_utf8 c ++ text
in_front c text h = ap (λ bs. bs ++ text) (sym (encode_ascii c (printable_ascii c h)))

byte_first : (word : Word) (w v : ℕ) (text : List ℕ) → IsUtf8 (w ∷ (v ∷ text)) → is_word_byte word w ≡ true → is_printable v ≡ true → BeginsInRun word (w ∷ (v ∷ text)) 0 1 InWord
byte_first word w v text u hw hv =
    let p = word_printable word w hw in
    begins_in_cluster word (w ∷ (v ∷ text)) (0, w ∷ []) InWord u
    (sym (first_letter (w ∷ (v ∷ text)) (v ∷ text) text w v u (in_front w (v ∷ text) p) (in_front v text hv) p hv))
    (sym (kind_of_word_byte word w hw))

-- such bytes before a printable one
bytes_first : (word : Word) (w : ℕ) (more : List ℕ) (v : ℕ) (rest : List ℕ) → IsUtf8 (w ∷ (more ++ v ∷ rest)) → is_word_byte word w ≡ true → list_all (is_word_byte word) more ≡ true → is_printable v ≡ true
    → BeginsInRun word (w ∷ (more ++ v ∷ rest)) (length more) (length more + 1) InWord
bytes_first word w [] v rest u hw h hv = byte_first word w v rest u hw hv
bytes_first word w (m ∷ more) v rest u hw h hv =
    let parts = and_parts (is_word_byte word m) (list_all (is_word_byte word) more) h in
    let text = w ∷ (m ∷ (more ++ v ∷ rest)) in
    let later = bytes_first word m more v rest (IsUtf8-past_char text (m ∷ (more ++ v ∷ rest)) w u (in_front w (m ∷ (more ++ v ∷ rest)) (word_printable word w hw))) parts.0 parts.1 hv in
    let joined = runs_join word text 0 1 (length more) (length more + 1) InWord (byte_first word w m (more ++ v ∷ rest) u hw (word_printable word m parts.0)) later in
    let last : 1 + length more ≡ suc (length more) = omega arith in
    let end : 1 + (length more + 1) ≡ suc (length more) + 1 = omega arith in
    subst (λ n. BeginsInRun word text n (suc (length more) + 1) InWord) last (subst (λ n. BeginsInRun word text (1 + length more) n InWord) end joined)

pub begins_in_word : (word : Word) (text : List ℕ) (count : ℕ) → IsUtf8 text → 0 < count → count < length text → is_printable (get_or text count 0) ≡ true → list_all (is_word_byte word) (take count text) ≡ true → BeginsInRun word text (count - 1) count InWord
begins_in_word word text count u l m p h = by (take count text) (sym (take-append-drop count text) ∙ ap (λ t. take count text ++ t) (drop_more text count 0 m)) (length-take-le count text (omega (arith, m))) h
  where
    by : (front : List ℕ) → text ≡ front ++ get_or text count 0 ∷ drop (count + 1) text → length front ≡ count → list_all (is_word_byte word) front ≡ true → BeginsInRun word text (count - 1) count InWord
    by [] e n k = absurd (omega (arith, l, n))
    by (w ∷ more) e n k =
        let parts = and_parts (is_word_byte word w) (list_all (is_word_byte word) more) k in
        let last : length more ≡ count - 1 = omega (arith, n) in
        let end : length more + 1 ≡ count = omega (arith, n) in
        subst (λ i. BeginsInRun word text i count InWord) last (subst (λ i. BeginsInRun word text (length more) i InWord) end
        (subst (λ t. BeginsInRun word t (length more) (length more + 1) InWord) (sym e) (bytes_first word w more (get_or text count 0) (drop (count + 1) text) (subst IsUtf8 e u) parts.0 parts.1 p)))

-- what follows may be joined to the last byte
pub begins_before_last : (word : Word) (text : List ℕ) (count : ℕ) → IsUtf8 text → 1 < count → count ≤ length text → list_all (is_word_byte word) (take count text) ≡ true → BeginsInRun word text (count - 2) (count - 1) InWord
begins_before_last word text count u l m h =
    let same : count - 1 + 1 ≡ count = omega (arith, l) in
    let one : count - 1 - 1 ≡ count - 2 = omega arith in
    let parts = and_parts (list_all (is_word_byte word) (take (count - 1) text)) (is_word_byte word (get_or text (count - 1) 0))
    (sym (list_all_more (is_word_byte word) text (count - 1) 0 (omega (arith, l, m))) ∙ ap (λ n. list_all (is_word_byte word) (take n text)) same ∙ h) in
    subst (λ n. BeginsInRun word text n (count - 1) InWord) one
    (begins_in_word word text (count - 1) u (omega (arith, l)) (omega (arith, l, m)) (word_printable word (get_or text (count - 1) 0) parts.1) parts.0)

-- a run in what follows a place, as a run of the text
pub record RunBehind (word : Word) (text : List ℕ) (place last end : ℕ) (kind : ClusterKind) : Type 0 where
  pub boundary : IsCharBoundary text (place + end)
  pub some : last < end
  pub first : (at : At) → edges_of at (kinds word (clusters_at place (drop place text))) ≡ edges_of at ((place + last, kind) ∷ kinds word (clusters_at (place + end) (drop (place + end) text)))
  pub splits : (at : At) (left : ℕ × ClusterKind) → edges_of at (left ∷ kinds word (clusters_at place (drop place text)))
      ≡ option_to_list (edge_between at left (place, kind)) ++ edges_of at ((place + last, kind) ∷ kinds word (clusters_at (place + end) (drop (place + end) text)))

pub run_behind : (word : Word) (text : List ℕ) (place last end : ℕ) (kind : ClusterKind) (rest : List ℕ) → rest ≡ drop place text → place ≤ length text → BeginsInRun word rest last end kind → RunBehind word text place last end kind
run_behind word text place last end kind rest is fits b =
    let run = subst (λ t. BeginsInRun word t last end kind) is b in
    record {
      boundary = IsCharBoundary-from_rest text place end fits run.boundary;
      some = run.some;
      first = λ at. run.first at place ∙ ap (λ bs. edges_of at ((place + last, kind) ∷ kinds word (clusters_at (place + end) bs))) (drop-drop end place text);
      splits = λ at left. run.splits at place left
          ∙ ap (λ bs. option_to_list (edge_between at left (place, kind)) ++ edges_of at ((place + last, kind) ∷ kinds word (clusters_at (place + end) bs))) (drop-drop end place text);
    }
