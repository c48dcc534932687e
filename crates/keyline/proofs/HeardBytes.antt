-- Bytes after which the source fails read as the first keys and pastes of more bytes.
use Rattle.std.proofs.Common.{◌≡◌, ℕ, Bool, true, false, ◌||◌, nat_lt, ◌==◌, if◌then◌else◌, List, [], ◌∷◌, ◌++◌, take, Option, Some, None, refl, arith}
use Rattle.std.specs.Prelude.{⊤, slice_index, codes, ◌&&◌, ◌+◌}
use Rattle.line_config.specs.declared.device.Last.{Last, TheVariants.Failed}
use Rattle.line_config.specs.declared.settings.EditMode.{EditMode, TheVariants.Emacs, TheVariants.Vi}
use Rattle.line_keys.specs.KeyFeeds.{Coming, Pressed, Pasted, CutOff, Ends as NoMore, Refused}
use Rattle.line_keys.specs.KeyFeeds.LastItem.{End as EndItem}
use Rattle.line_keys.specs.Keys.{key_of, none, alt}
use Rattle.line_keys.specs.declared.key.KeyEvent.{KeyEvent}
use Rattle.line_screen.specs.Input.{Chars, Next, Over, Stop, AtEnd, AtBad, AtFailure, Torn, Inside, Continuation, chars_of, in_char, is_scalar, lead_in, lead_rows, value_with, after_byte}
use Rattle.line_screen.specs.KeyGrammar.{Readings, Key, Paste, Cut, Stops, readings, lone_escape, in_escape, in_sequence, in_paste, byte_is, esc, keeps_byte, marker, paste_with_char, announces, inside, coming_of}
use Rattle.line_screen.specs.Sequences.{awaits_more, sequence_key}
use Rattle.std.proofs.lemmas.Bool.Decides.{nat_tests}
use Rattle.keyline.specs.Sessions.{coming_from}

-- the keys and pastes of the one are the first of the other; the bytes, and what stands after them,
-- don't matter
abbrev pub Agrees : Coming → Coming → Type 0
Agrees (Pressed bytes k rest) (Pressed others next left) = (k ≡ next) × Agrees rest left
Agrees (Pasted bytes text rest) (Pasted others next left) = (text ≡ next) × Agrees rest left
Agrees (Pressed bytes k rest) coming = ⊥
Agrees (Pasted bytes text rest) coming = ⊥
Agrees heard coming = ⊤

-- what comes doesn't end in the end of the input
abbrev pub NeverEnds : Coming → Type 0
NeverEnds (Pressed bytes k rest) = NeverEnds rest
NeverEnds (Pasted bytes text rest) = NeverEnds rest
NeverEnds (CutOff bytes EndItem left) = ⊥
NeverEnds (NoMore bytes EndItem left) = ⊥
NeverEnds (Refused bytes why) = ⊥
NeverEnds coming = ⊤

-- the keys and pastes of the one are the first of the other, and the one ends in no end of the input
abbrev pub Opens : Coming → Coming → Type 0
Opens heard coming = Agrees heard coming × NeverEnds heard

-- ---- characters

-- what stands here and there begins with one byte, if with any
abbrev SameFirst : List ℕ → List ℕ → Type 0
SameFirst here there = (wanted : ℕ) → byte_is wanted here ≡ byte_is wanted there

-- both begin with a byte that is no character's alone
abbrev High : List ℕ → List ℕ → Type 0
High (b ∷ bs) (d ∷ ds) = ((d == 0x5B) ≡ false) × ((d == 0x4F) ≡ false)
High here there = ⊥

-- the one ends here: nothing more is there, or it is inside what is no whole character
abbrev Cuts : Stop → List ℕ → List ℕ → Type 0
Cuts AtFailure here there = here ≡ []
Cuts AtBad here there = High here there
Cuts Torn here there = High here there
Cuts stop here there = ⊥

-- the characters of the one are the first of the other, or it ends before that
data CharsOpen : List ℕ → Chars → List ℕ → Chars → Type 0 where
  next : (c : ℕ) (behind beyond : List ℕ) {here there : List ℕ} {rest more : Chars} → SameFirst here there → CharsOpen behind rest beyond more → CharsOpen here (Next c behind rest) there (Next c beyond more)
  over : (stop : Stop) (left : List ℕ) {here there : List ℕ} {chars : Chars} → Cuts stop here there → CharsOpen here (Over stop left) there chars

open_by : {here there : List ℕ} {x y x' y' : Chars} (b : Bool) → (b ≡ true → CharsOpen here x there x') → (b ≡ false → CharsOpen here y there y') → CharsOpen here (if b then x else y) there (if b then x' else y')
open_by true p q = p refl
open_by false p q = q refl

no_byte : (byte wanted : ℕ) → nat_lt wanted 0x80 ≡ true → nat_lt byte 0x80 ≡ false → (byte == wanted) ≡ false
no_byte byte wanted low high = grind (arith, nat_tests)

mutual
  chars_open : (bytes more : List ℕ) (last : Last) → CharsOpen bytes (chars_of bytes Failed) (bytes ++ more) (chars_of (bytes ++ more) last)
  chars_open [] more last = over AtFailure [] refl
  chars_open (byte ∷ bytes) more last =
      open_by (nat_lt byte 0x80) (λ low. next byte bytes (bytes ++ more) (λ wanted. refl) (chars_open bytes more last))
      (λ high. char_opens (lead_in lead_rows byte) byte bytes (bytes ++ more) (no_byte byte 0x5B refl high, no_byte byte 0x4F refl high) bytes more last)

  char_opens : (awaited : Option Continuation) (b : ℕ) (bs ds : List ℕ) → ((b == 0x5B) ≡ false) × ((b == 0x4F) ≡ false) → (bytes more : List ℕ) (last : Last)
      → CharsOpen (b ∷ bs) (in_char awaited bytes Failed) (b ∷ ds) (in_char awaited (bytes ++ more) last)
  char_opens None b bs ds high bytes more last = over AtBad bytes high
  char_opens (Some awaited) b bs ds high [] more last = over Torn [] high
  char_opens (Some awaited) b bs ds high (byte ∷ bytes) more last =
      let v : ℕ = value_with awaited.value byte in
      open_by (nat_lt byte awaited.least || nat_lt awaited.greatest byte) (λ is. over AtBad bytes high)
      (λ is. open_by (awaited.more == 0)
      (λ is. open_by (is_scalar v) (λ is. next v bytes (bytes ++ more) (λ wanted. refl) (chars_open bytes more last)) (λ is. over AtBad bytes high))
      (λ is. char_opens (Some (after_byte awaited byte)) b bs ds high bytes more last))

-- ---- keys and pasted texts

record ReadingsOpen (one other : Readings) : Type 0 where
  opens : (bytes others : List ℕ) → Opens (coming_of bytes one) (coming_of others other)

key_opens : (k : KeyEvent) (behind beyond : List ℕ) {rest more : Readings} → ReadingsOpen rest more → ReadingsOpen (Key k behind rest) (Key k beyond more)
key_opens k behind beyond on = record { opens = λ bytes others. (let later = on.opens behind beyond in ((refl, later.0), later.1)) }

paste_opens_on : (text behind beyond : List ℕ) {rest more : Readings} → ReadingsOpen rest more → ReadingsOpen (Paste text behind rest) (Paste text beyond more)
paste_opens_on text behind beyond on = record { opens = λ bytes others. (let later = on.opens behind beyond in ((refl, later.0), later.1)) }

keys_by : {x y x' y' : Readings} (b : Bool) → ReadingsOpen x x' → ReadingsOpen y y' → ReadingsOpen (if b then x else y) (if b then x' else y')
keys_by true p q = p
keys_by false p q = q

-- after ESC: by the first byte, which is one on both sides
escape_by : {x y z w x' y' z' w' : Readings} (mode : EditMode) (here there : List ℕ) → SameFirst here there → ReadingsOpen x x' → ReadingsOpen y y' → ReadingsOpen z z' → ReadingsOpen w w'
    → ReadingsOpen (if byte_is 0x5B here then x else if byte_is 0x4F here then y else if keeps_byte mode here then z else w)
    (if byte_is 0x5B there then x' else if byte_is 0x4F there then y' else if keeps_byte mode there then z' else w')
escape_by Emacs here there same p q r s = rw (same 0x5B, same 0x4F, same 0x1B) (keys_by (byte_is 0x5B there) p (keys_by (byte_is 0x4F there) q (keys_by (byte_is 0x1B there) r s)))
escape_by Vi here there same p q r s = rw (same 0x5B, same 0x4F) (keys_by (byte_is 0x5B there) p (keys_by (byte_is 0x4F there) q r))

-- Vi's Esc before what is no whole character, which is whole or not there
high_vi : (here there : List ℕ) (stop : Stop) (left : List ℕ) (chars : Chars) {again again' : Readings} → High here there → ReadingsOpen again again' → ReadingsOpen (lone_escape Vi here stop left again) (in_escape Vi there chars again')
high_vi (b ∷ bs) (d ∷ ds) stop left (Over other rest) high on = key_opens esc (b ∷ bs) (d ∷ ds) on
high_vi (b ∷ bs) (d ∷ ds) stop left (Next c beyond more) high on = rw high.0 rw high.1 (key_opens esc (b ∷ bs) (d ∷ ds) on)
high_vi [] there stop left chars high on = absurd high
high_vi (b ∷ bs) [] stop left chars high on = absurd high

lone_opens : (mode : EditMode) (here there : List ℕ) (stop : Stop) (left : List ℕ) (chars : Chars) {again again' : Readings} → Cuts stop here there → ReadingsOpen again again'
    → ReadingsOpen (lone_escape mode here stop left again) (in_escape mode there chars again')
lone_opens mode here there AtFailure left chars is on = rw is (record { opens = λ bytes others. (tt, tt) })
lone_opens Vi here there AtBad left chars high on = high_vi here there AtBad left chars high on
lone_opens Vi here there Torn left chars high on = high_vi here there Torn left chars high on
lone_opens Emacs (b ∷ bs) there AtBad left chars high on = record { opens = λ bytes others. (tt, tt) }
lone_opens Emacs (b ∷ bs) there Torn left chars high on = record { opens = λ bytes others. (tt, tt) }
lone_opens Emacs [] there _ left chars high on = absurd high
lone_opens mode here there _ left chars is on = absurd is

-- where the one ends
ends_open : (stop : Stop) (here there left : List ℕ) (other : Readings) → Cuts stop here there → ReadingsOpen (Stops stop left) other × ReadingsOpen (Stops (inside stop) left) other × ReadingsOpen (Cut stop left) other
ends_open AtEnd here there left other is = absurd is
ends_open Inside here there left other is = absurd is
ends_open _ here there left other is = (record { opens = λ bytes others. (tt, tt) }, record { opens = λ bytes others. (tt, tt) }, record { opens = λ bytes others. (tt, tt) })

mutual
  readings_open : {here there : List ℕ} {x y : Chars} (mode : EditMode) → CharsOpen here x there y → ReadingsOpen (readings mode x) (readings mode y)
  readings_open mode (next c behind beyond same on) =
      let again = readings_open mode on in keys_by (c == 0x1B) (escape_opens mode on again) (key_opens (key_of c none) behind beyond again)
  readings_open {here} {there} {y = y} mode (over stop left is) = (ends_open stop here there left (readings mode y) is).0

  escape_opens : {here there : List ℕ} {x y : Chars} {again again' : Readings} (mode : EditMode) → CharsOpen here x there y → ReadingsOpen again again' → ReadingsOpen (in_escape mode here x again) (in_escape mode there y again')
  escape_opens {here} {there} mode (next c behind beyond same on) again =
      escape_by mode here there same (sequence_opens mode (codes "[") on) (sequence_opens mode (codes "O") on) (key_opens esc here there again) (key_opens (key_of c alt) behind beyond (readings_open mode on))
  escape_opens {here} {there} {y = y} mode (over stop left is) again = lone_opens mode here there stop left y is again

  sequence_opens : {here there : List ℕ} {x y : Chars} (mode : EditMode) (text : List ℕ) → CharsOpen here x there y → ReadingsOpen (in_sequence mode text x) (in_sequence mode text y)
  sequence_opens mode text (next c behind beyond same on) =
      let k = sequence_key (text ++ c ∷ []) in
      keys_by (awaits_more (text ++ c ∷ [])) (sequence_opens mode (text ++ c ∷ []) on) (key_opens k behind beyond (keys_by (announces k) (paste_opens mode [] false 0 on) (readings_open mode on)))
  sequence_opens {here} {there} {y = y} mode text (over stop left is) = (ends_open stop here there left (in_sequence mode text y) is).1

  paste_opens : {here there : List ℕ} {x y : Chars} (mode : EditMode) (text : List ℕ) (after_return : Bool) (matched : ℕ) → CharsOpen here x there y
      → ReadingsOpen (in_paste mode text after_return matched x) (in_paste mode text after_return matched y)
  paste_opens mode text after_return matched (next c behind beyond same on) =
      let held = text ++ take matched marker in
      keys_by (c == slice_index marker matched) (keys_by (matched == 5) (paste_opens_on text behind beyond (readings_open mode on)) (paste_opens mode text after_return (matched + 1) on))
      (keys_by (c == 0x1B) (paste_opens mode held false 1 on) (paste_opens mode (paste_with_char held (after_return && (matched == 0)) c) (c == 0x0D) 0 on))
  paste_opens {here} {there} {y = y} mode text after_return matched (over stop left is) = (ends_open stop here there left (in_paste mode text after_return matched y) is).2

-- what comes of bytes after which the source fails, and of more bytes
pub bytes_open : (mode : EditMode) (bytes more : List ℕ) (last : Last) → Opens (coming_from mode bytes Failed) (coming_from mode (bytes ++ more) last)
bytes_open mode bytes more last = (readings_open mode (chars_open bytes more last)).opens bytes (bytes ++ more)
