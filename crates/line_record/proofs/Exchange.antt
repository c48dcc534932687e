-- One text at a place exchanged for another: it can be exchanged back, and one exchange right after another is one.
use Rattle.std.proofs.Common.{◌≡◌, ℕ, ◌+◌, ◌-◌, List, [], ◌++◌, length, take, drop, refl, sym, ap, subst, subst₂, ◌∙◌, append_assoc, arith, length-append, IsUtf8, IsCharBoundary}
use Rattle.std.proofs.Math.Seq.{take-append_seam, drop-append_seam, drop-append-add}
use Rattle.std.proofs.lemmas.List.{take-append-drop, length-take-le, drop-drop}
use Rattle.std.proofs.lemmas.Str.{IsUtf8-nil, IsUtf8-append, IsUtf8-take, IsUtf8-drop, IsUtf8-between, IsCharBoundary-at_seam}
use Rattle.line_record.specs.Change.{text_with_exchange}
use Rattle.line_buffer.specs.Event.{StandsAt, Swaps}

-- a text in three parts, the first two of which end between characters
pub record Parts (at : ℕ) (part text : List ℕ) : Type 0 where
  pub front : List ℕ
  pub rest : List ℕ
  pub whole : text ≡ front ++ (part ++ rest)
  pub place : length front ≡ at
  pub front_utf8 : IsUtf8 front
  pub rest_utf8 : IsUtf8 rest
  pub part_utf8 : IsUtf8 part

exchanged_parts : (front part rest other : List ℕ) → text_with_exchange (length front) part other (front ++ (part ++ rest)) ≡ front ++ (other ++ rest)
exchanged_parts front part rest other =
    let a : take (length front) (front ++ (part ++ rest)) ≡ front = take-append_seam front (part ++ rest) in
    let b : drop (length front + length part) (front ++ (part ++ rest)) ≡ rest = drop-append-add front (part ++ rest) (length part) ∙ drop-append_seam part rest in
    rw (a, b) (append_assoc front other rest)

stand_parts : (front part rest other : List ℕ) → IsUtf8 part → IsUtf8 rest → IsUtf8 other → StandsAt (length front) part other (front ++ (part ++ rest))
stand_parts front part rest other p r o = record {
  start = IsCharBoundary-at_seam _ front (part ++ rest) refl (IsUtf8-append part rest p r);
  end = subst (IsCharBoundary (front ++ (part ++ rest))) (length-append front part) (IsCharBoundary-at_seam _ (front ++ part) rest (sym (append_assoc front part rest)) r);
  bytes =
      let n : length front + length part - length front ≡ length part = omega arith in
      rw n (ap (take (length part)) (drop-append_seam front (part ++ rest)) ∙ take-append_seam part rest);
  utf8 = o;
}

parts_of : (at : ℕ) (part other text : List ℕ) → StandsAt at part other text → IsUtf8 text → Parts at part text
parts_of at part other text s u =
    let n : at + length part - at ≡ length part = omega arith in
    let middle : take (length part) (drop at text) ≡ part = sym (ap (λ k. take k (drop at text)) n) ∙ s.bytes in
    let behind : drop at text ≡ part ++ drop (at + length part) text =
    sym (take-append-drop (length part) (drop at text)) ∙ ap (λ xs. xs ++ drop (length part) (drop at text)) middle ∙ ap (λ xs. part ++ xs) (drop-drop (length part) at text) in
    record {
      front = take at text;
      rest = drop (at + length part) text;
      whole = sym (take-append-drop at text) ∙ ap (λ xs. take at text ++ xs) behind;
      place = length-take-le at text s.start.0;
      front_utf8 = IsUtf8-take text at u s.start;
      rest_utf8 = IsUtf8-drop text (at + length part) u s.end;
      part_utf8 = subst IsUtf8 s.bytes (IsUtf8-between text at (at + length part) u (omega arith) s.start s.end);
    }

-- the text after an exchange, from which it can be exchanged back
pub record Exchanged (at : ℕ) (from to text : List ℕ) : Type 0 where
  pub stand : StandsAt at to from (text_with_exchange at from to text)
  pub back : text_with_exchange at to from (text_with_exchange at from to text) ≡ text
  pub utf8 : IsUtf8 (text_with_exchange at from to text)

pub exchanged : (at : ℕ) (from to text : List ℕ) → StandsAt at from to text → IsUtf8 text → Exchanged at from to text
exchanged at from to text s u =
    let p = parts_of at from to text s u in
    let now : text_with_exchange at from to text ≡ p.front ++ (to ++ p.rest) =
    ap (text_with_exchange at from to) p.whole ∙ ap (λ k. text_with_exchange k from to (p.front ++ (from ++ p.rest))) (sym p.place) ∙ exchanged_parts p.front from p.rest to in
    record {
      stand = subst (λ t. StandsAt at to from t) (sym now) (subst (λ k. StandsAt k to from (p.front ++ (to ++ p.rest))) p.place (stand_parts p.front to p.rest from s.utf8 p.rest_utf8 p.part_utf8));
      back = ap (text_with_exchange at to from) now ∙ ap (λ k. text_with_exchange k to from (p.front ++ (to ++ p.rest))) (sym p.place) ∙ exchanged_parts p.front to p.rest from ∙ sym p.whole;
      utf8 = subst IsUtf8 (sym now) (IsUtf8-append p.front (to ++ p.rest) p.front_utf8 (IsUtf8-append to p.rest s.utf8 p.rest_utf8));
    }

-- an exchange of `other` for `more` right after `now`, which stands where `was` stood: both are one exchange
pub record Joined (at : ℕ) (was now longer_was longer_now before after : List ℕ) (place : ℕ) : Type 0 where
  pub stand : StandsAt place longer_now longer_was after
  pub back : text_with_exchange place longer_now longer_was after ≡ text_with_exchange at now was before

joined_parts : (front now other rest was more : List ℕ) → IsUtf8 now → IsUtf8 rest → IsUtf8 was → IsUtf8 other → IsUtf8 more
    → Joined (length front) was now (was ++ other) (now ++ more) (front ++ (now ++ (other ++ rest))) (front ++ (now ++ (more ++ rest))) (length front)
joined_parts front now other rest was more un ur uw uo um = record {
  stand = subst (λ t. StandsAt (length front) (now ++ more) (was ++ other) (front ++ t)) (append_assoc now more rest)
      (stand_parts front (now ++ more) rest (was ++ other) (IsUtf8-append now more un um) ur (IsUtf8-append was other uw uo));
  back = ap (λ t. text_with_exchange (length front) (now ++ more) (was ++ other) (front ++ t)) (sym (append_assoc now more rest))
      ∙ exchanged_parts front (now ++ more) rest (was ++ other)
      ∙ ap (λ t. front ++ t) (append_assoc was other rest)
      ∙ sym (exchanged_parts front now (other ++ rest) was);
}

after_part : (at : ℕ) (part text : List ℕ) → (p : Parts at part text) → drop (at + length part) text ≡ p.rest
after_part at part text p =
    let n : at + length part ≡ length (p.front ++ part) = sym (length-append p.front part ∙ ap (λ k. k + length part) p.place) in
    ap (λ k. drop k text) n ∙ ap (drop (length (p.front ++ part))) (p.whole ∙ sym (append_assoc p.front part p.rest)) ∙ drop-append_seam (p.front ++ part) p.rest

at_part : (at : ℕ) (part text : List ℕ) → (p : Parts at part text) → drop at text ≡ part ++ p.rest
at_part at part text p = ap (λ k. drop k text) (sym p.place) ∙ ap (drop (length p.front)) p.whole ∙ drop-append_seam p.front (part ++ p.rest)

pub joined_right : (from at : ℕ) (was now other more before after : List ℕ) → StandsAt at now was before → IsUtf8 before → Swaps from other more before after
    → from ≡ at + length now
    → Joined at was now (was ++ other) (now ++ more) before after at
joined_right from at was now other more before after s u w is =
    let p = parts_of at now was before s u in
    let q = parts_of from other more before w.stands u in
    let behind : p.rest ≡ other ++ q.rest = sym (after_part at now before p) ∙ ap (λ k. drop k before) (sym is) ∙ at_part from other before q in
    let whole : before ≡ p.front ++ (now ++ (other ++ q.rest)) = p.whole ∙ ap (λ r. p.front ++ (now ++ r)) behind in
    let seam : from ≡ length (p.front ++ now) = is ∙ sym (length-append p.front now ∙ ap (λ k. k + length now) p.place) in
    let made : after ≡ p.front ++ (now ++ (more ++ q.rest)) =
    w.becomes ∙ ap (text_with_exchange from other more) (whole ∙ sym (append_assoc p.front now (other ++ q.rest)))
    ∙ ap (λ k. text_with_exchange k other more ((p.front ++ now) ++ (other ++ q.rest))) seam
    ∙ exchanged_parts (p.front ++ now) other q.rest more
    ∙ append_assoc p.front now (more ++ q.rest) in
    subst₂ (λ b a. Joined at was now (was ++ other) (now ++ more) b a at) (sym whole) (sym made)
    (subst (λ k. Joined k was now (was ++ other) (now ++ more) (p.front ++ (now ++ (other ++ q.rest))) (p.front ++ (now ++ (more ++ q.rest))) k) p.place
    (joined_parts p.front now other q.rest was more p.part_utf8 q.rest_utf8 s.utf8 q.part_utf8 w.stands.utf8))

-- a text that goes from right before the place where `was` went
joined_left_parts : (front other rest was : List ℕ) → IsUtf8 rest → IsUtf8 was → IsUtf8 other
    → Joined (length (front ++ other)) was [] (other ++ was) [] (front ++ (other ++ rest)) (front ++ rest) (length front)
joined_left_parts front other rest was ur uw uo = record {
  stand = stand_parts front [] rest (other ++ was) IsUtf8-nil ur (IsUtf8-append other was uo uw);
  back = exchanged_parts front [] rest (other ++ was)
      ∙ ap (λ t. front ++ t) (append_assoc other was rest)
      ∙ sym (append_assoc front other (was ++ rest))
      ∙ sym (exchanged_parts (front ++ other) [] rest was)
      ∙ ap (text_with_exchange (length (front ++ other)) [] was) (append_assoc front other rest);
}

pub joined_left : (at place : ℕ) (was other before after : List ℕ) → StandsAt place [] was before → IsUtf8 before → Swaps at other [] before after
    → at + length other ≡ place
    → Joined place was [] (other ++ was) [] before after at
joined_left at place was other before after s u w e =
    let q = parts_of at other [] before w.stands u in
    let seam : length (q.front ++ other) ≡ place = length-append q.front other ∙ ap (λ k. k + length other) q.place ∙ e in
    let made : after ≡ q.front ++ q.rest =
    w.becomes ∙ ap (text_with_exchange at other []) q.whole ∙ ap (λ k. text_with_exchange k other [] (q.front ++ (other ++ q.rest))) (sym q.place)
    ∙ exchanged_parts q.front other q.rest [] in
    subst₂ (λ b a. Joined place was [] (other ++ was) [] b a at) (sym q.whole) (sym made)
    (subst₂ (λ k j. Joined k was [] (other ++ was) [] (q.front ++ (other ++ q.rest)) (q.front ++ q.rest) j) seam q.place
    (joined_left_parts q.front other q.rest was q.rest_utf8 s.utf8 q.part_utf8))
