-- Bytes have no more keys and pastes than they are.
use Rattle.std.proofs.Common.{◌≡◌, ℕ, suc, ◌+◌, ◌≤◌, Bool, true, false, cond, List, [], ◌∷◌, ◌++◌, Option, None, Some, length, refl, ap, arith, codes, ◌&&◌, ◌||◌, ◌==◌, nat_lt, take, slice_index}
use Rattle.line_config.specs.declared.device.Last.{Last}
use Rattle.line_config.specs.declared.settings.EditMode.{EditMode, TheVariants.Vi}
use Rattle.line_keys.specs.declared.key.KeyEvent.{KeyEvent}
use Rattle.line_keys.specs.Keys.{alt, key_of, none}
use Rattle.line_screen.specs.Input.{AtBad, AtFailure, Chars, Continuation, Next, Over, Stop, after_byte, chars_of, in_char, lead_in, lead_rows, value_with, is_scalar}
use Rattle.line_screen.specs.KeyGrammar.{Cut, Key, Paste, Readings, Stops, announces, byte_is, coming_of, esc, in_escape, in_paste, in_sequence, keeps_byte, lone_escape, marker, paste_with_char, readings}
use Rattle.line_screen.specs.Sequences.{awaits_more, sequence_key}
use Rattle.keyline.specs.Sessions.{coming_from}
use Rattle.keyline.specs.SessionLaws.{keys_and_pastes}

abbrev size : Chars → ℕ
size (Next c behind rest) = suc (size rest)
size (Over stop left) = 0

abbrev items : Readings → ℕ
items (Key k behind rest) = suc (items rest)
items (Paste text behind rest) = suc (items rest)
items other = 0

items_are : (bytes : List ℕ) (r : Readings) → keys_and_pastes (coming_of bytes r) ≡ items r
items_are bytes (Key k behind rest) = ap suc (items_are behind rest)
items_are bytes (Paste text behind rest) = ap suc (items_are behind rest)
items_are bytes (Cut stop left) = refl
items_are bytes (Stops stop left) = refl

-- ---- at most so many, also by the choice of an `if`

record Few {A : Type 0} (count : A → ℕ) (x : A) (n : ℕ) : Type 0 where
  at_most : count x ≤ n

few_if : {A : Type 0} {count : A → ℕ} {x y : A} {n : ℕ} (b : Bool) → Few count x n → Few count y n → Few count (cond b x y) n
few_if true h g = h
few_if false h g = g

few_more : {A : Type 0} {count : A → ℕ} {x : A} {n : ℕ} → Few count x n → Few count x (suc n)
few_more h = record { at_most = omega arith }

few_next : (c : ℕ) (behind : List ℕ) {x : Chars} {n : ℕ} → Few size x n → Few size (Next c behind x) (suc n)
few_next c behind h = record { at_most = omega arith }

few_over : (stop : Stop) (left : List ℕ) {n : ℕ} → Few size (Over stop left) n
few_over stop left = record { at_most = omega arith }

few_key : (k : KeyEvent) (behind : List ℕ) {x : Readings} {n : ℕ} → Few items x n → Few items (Key k behind x) (suc n)
few_key k behind h = record { at_most = omega arith }

-- ---- characters

mutual
  size_of : (bytes : List ℕ) (last : Last) → Few size (chars_of bytes last) (length bytes)
  size_of [] last = record { at_most = omega arith }
  size_of (byte ∷ bytes) last =
      few_if (nat_lt byte 0x80) (few_next byte bytes (size_of bytes last)) (few_more (size_in (lead_in lead_rows byte) bytes last))

  size_in : (o : Option Continuation) (bytes : List ℕ) (last : Last) → Few size (in_char o bytes last) (length bytes)
  size_in None bytes last = record { at_most = omega arith }
  size_in (Some awaited) [] last = record { at_most = omega arith }
  size_in (Some awaited) (byte ∷ bytes) last =
      let value = value_with awaited.value byte in
      few_if (nat_lt byte awaited.least || nat_lt awaited.greatest byte) (few_over AtBad bytes)
      (few_if (awaited.more == 0) (few_if (is_scalar value) (few_next value bytes (size_of bytes last)) (few_over AtBad bytes)) (few_more (size_in (Some (after_byte awaited byte)) bytes last)))

-- ---- keys and pastes

lone_few : (mode : EditMode) (here : List ℕ) (stop : Stop) (left : List ℕ) (again : Readings) → items again ≤ 0 → items (lone_escape mode here stop left again) ≤ 1
lone_few mode [] AtFailure left again h = omega arith
lone_few Vi (byte ∷ bytes) stop left again h = omega arith
lone_few _ _ _ left again h = omega arith

mutual
  few : (mode : EditMode) (chars : Chars) → Few items (readings mode chars) (size chars)
  few mode (Next c behind rest) = few_if (c == 0x1B) (few_escape mode behind rest (few mode rest)) (few_key (key_of c none) behind (few mode rest))
  few mode (Over stop left) = record { at_most = omega arith }

  few_escape : (mode : EditMode) (here : List ℕ) (chars : Chars) {again : Readings} → Few items again (size chars) → Few items (in_escape mode here chars again) (suc (size chars))
  few_escape mode here (Next c behind rest) h =
      few_if (byte_is 0x5B here) (few_more (few_more (few_sequence mode (codes "[") rest))) (few_if (byte_is 0x4F here) (few_more (few_more (few_sequence mode (codes "O") rest)))
      (few_if (keeps_byte mode here) (few_key esc here h) (few_more (few_key (key_of c alt) behind (few mode rest)))))
  few_escape mode here (Over stop left) {again} h = record { at_most = lone_few mode here stop left again h.at_most }

  few_sequence : (mode : EditMode) (text : List ℕ) (chars : Chars) → Few items (in_sequence mode text chars) (size chars)
  few_sequence mode text (Next c behind rest) =
      let k = sequence_key (text ++ c ∷ []) in
      few_if (awaits_more (text ++ c ∷ [])) (few_more (few_sequence mode (text ++ c ∷ []) rest)) (few_key k behind (few_if (announces k) (few_paste mode [] false 0 rest) (few mode rest)))
  few_sequence mode text (Over stop left) = record { at_most = omega arith }

  few_paste : (mode : EditMode) (text : List ℕ) (after_return : Bool) (matched : ℕ) (chars : Chars) → Few items (in_paste mode text after_return matched chars) (size chars)
  few_paste mode text after_return matched (Next c behind rest) =
      let held = text ++ take matched marker in
      let more : Few items (readings mode rest) (size rest) = few mode rest in
      few_if (c == slice_index marker matched) (few_if (matched == 5) (record { at_most = omega arith }) (few_more (few_paste mode text after_return (matched + 1) rest)))
      (few_if (c == 0x1B) (few_more (few_paste mode held false 1 rest)) (few_more (few_paste mode (paste_with_char held (after_return && (matched == 0)) c) (c == 0x0D) 0 rest)))
  few_paste mode text after_return matched (Over stop left) = record { at_most = omega arith }

pub few_in_bytes : (mode : EditMode) (bytes : List ℕ) (last : Last) → keys_and_pastes (coming_from mode bytes last) ≤ length bytes
few_in_bytes mode bytes last =
    let few_chars = (few mode (chars_of bytes last)).at_most in
    let few_bytes = (size_of bytes last).at_most in
    let are = items_are bytes (readings mode (chars_of bytes last)) in omega arith
