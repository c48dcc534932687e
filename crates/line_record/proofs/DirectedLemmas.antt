-- The parts of a text that are taken from the cursor on, or up to it.
use Rattle.std.proofs.Common.{◌≡◌, ℕ, ◌+◌, ◌-◌, ◌≤◌, ◌==◌, ◌⊎◌, inl, inr, Bool, true, false, length, Option, None, Some, refl, arith, IsUtf8, IsCharBoundary, IfSome, option_map, encode_utf8, if◌then◌else◌, nat_lt}
use Rattle.line_buffer.specs.declared.range.TextSpan.{TextSpan}
use Rattle.line_buffer.specs.declared.types.CharSearch.TheVariants.{Forward as Onto, ForwardBefore, Backward as BackOnto, BackwardAfter}
use Rattle.line_buffer.specs.declared.types.Direction.TheVariants.{Forward, Backward}
use Rattle.line_buffer.specs.declared.types.Movement.{Movement}
use Rattle.line_buffer.specs.declared.types.Movement.TheVariants.{BeginningOfLine, EndOfLine, BackwardWord, ForwardWord, ViCharSearch, BeginningOfBuffer, EndOfBuffer}
use Rattle.line_buffer.specs.Hits.{hit}
use Rattle.line_buffer.specs.Line.{Line}
use Rattle.line_buffer.specs.Range.{IsSpanOf, range_of, up_to_cursor, from_cursor}
use Rattle.line_buffer.specs.Rows.{row_start, row_end}
use Rattle.line_buffer.specs.Words.{prev_word, next_word}
use Rattle.line_buffer.proofs.SpanLemmas.{range_spans}
use Rattle.line_record.specs.Laws.{is_directed}

pub record Onward (l : Line) (span : TextSpan) : Type 0 where
  pub direction : span.direction ≡ Forward
  pub from : span.from ≡ l.place
  pub later : l.place ≤ span.upto
  pub end : IsCharBoundary l.text span.upto

pub record Back (l : Line) (span : TextSpan) : Type 0 where
  pub direction : span.direction ≡ Backward
  pub upto : span.upto ≡ l.place
  pub earlier : span.from ≤ l.place
  pub start : IsCharBoundary l.text span.from

abbrev pub IsDirected : Line → TextSpan → Type 0
IsDirected l span = Onward l span ⊎ Back l span

-- it begins at the cursor and goes on, or ends there and goes back
abbrev Turns : Line → TextSpan → Type 0
Turns l span = ((span.direction ≡ Forward) × (span.from ≡ l.place)) ⊎ ((span.direction ≡ Backward) × (span.upto ≡ l.place))

module _ (l : Line) where
  onward : (f : ℕ → ℕ) (o : Option ℕ) → IfSome (option_map (λ i. from_cursor (f i) l) o) (Turns l)
  onward f None = tt
  onward f (Some i) = inl (refl, refl)

  back : (f : ℕ → ℕ) (o : Option ℕ) → IfSome (option_map (λ i. up_to_cursor (f i) l) o) (Turns l)
  back f None = tt
  back f (Some i) = inr (refl, refl)

  one_of_two : (a b : Bool) (x y : TextSpan) → Turns l x → Turns l y → IfSome (if a then Some x else (if b then Some y else None)) (Turns l)
  one_of_two true b x y p q = p
  one_of_two false true x y p q = q
  one_of_two false false x y p q = tt

  one_or_none : (a : Bool) (x : TextSpan) → Turns l x → IfSome (if a then None else Some x) (Turns l)
  one_or_none true x p = tt
  one_or_none false x p = p

  turns : (m : Movement) → is_directed m ≡ true → IfSome (range_of m l) (Turns l)
  turns EndOfLine d =
      let end = row_end l.text l.place in
      one_of_two (nat_lt l.place end) (nat_lt end (length l.text)) (from_cursor end l) (from_cursor (end + 1) l) (inl (refl, refl)) (inl (refl, refl))
  turns BeginningOfLine d =
      let start = row_start l.text l.place in
      one_of_two (nat_lt start l.place) (nat_lt 0 l.place) (up_to_cursor start l) (up_to_cursor (l.place - 1) l) (inr (refl, refl)) (inr (refl, refl))
  turns EndOfBuffer d = one_or_none (l.place == length l.text) (from_cursor (length l.text) l) (inl (refl, refl))
  turns BeginningOfBuffer d = one_or_none (l.place == 0) (up_to_cursor 0 l) (inr (refl, refl))
  turns (BackwardWord n word) d = back (λ i. i) (prev_word word n l)
  turns (ForwardWord n at word) d = onward (λ i. i) (next_word at word n l)
  turns (ViCharSearch n (Onto c)) d = onward (λ i. i + length (encode_utf8 c)) (hit (Onto c) n l)
  turns (ViCharSearch n (ForwardBefore c)) d = onward (λ i. i) (hit (ForwardBefore c) n l)
  turns (ViCharSearch n (BackOnto c)) d = back (λ i. i) (hit (BackOnto c) n l)
  turns (ViCharSearch n (BackwardAfter c)) d = back (λ i. i + length (encode_utf8 c)) (hit (BackwardAfter c) n l)
  turns _ d = cc

  with_turn : (o : Option TextSpan) → IfSome o (IsSpanOf l.text) → IfSome o (Turns l) → IfSome o (IsDirected l)
  with_turn None s t = tt
  with_turn (Some span) s (inl t) = inl (record { direction = t.0; from = t.1; later = omega (arith, s.order, t.1); end = s.end })
  with_turn (Some span) s (inr t) = inr (record { direction = t.0; upto = t.1; earlier = omega (arith, s.order, t.1); start = s.start })

pub directed : (m : Movement) (l : Line) → is_directed m ≡ true → IsUtf8 l.text → IsCharBoundary l.text l.place → IfSome (range_of m l) (IsDirected l)
directed m l d u b = with_turn l (range_of m l) (range_spans l u b m) (turns l m d)
