-- The keys and pastes of an input that is cut in two.
use Rattle.std.proofs.Common.{◌≡◌, ℕ, ◌+◌, ◌==◌, ◌&&◌, Bool, true, false, if◌then◌else◌, IsTrue, List, [], ◌∷◌, ◌++◌, take, codes, refl, sym, ap, ◌∙◌, subst, slice_index}
use Rattle.line_config.specs.declared.device.Last.TheVariants.{End}
use Rattle.line_config.specs.declared.settings.EditMode.{EditMode, TheVariants.Emacs, TheVariants.Vi}
use Rattle.line_keys.specs.declared.key.KeyCode.TheVariants.{BracketedPasteStart, Char, Esc, Left}
use Rattle.line_keys.specs.KeyFeeds.{Coming, Pressed, Pasted, CutOff, Ends, End as AtItsEnd, bytes_to_come}
use Rattle.line_keys.specs.declared.key.KeyEvent.{KeyEvent}
use Rattle.line_keys.specs.Keys.{key_of, key_with, none, alt}
use Rattle.line_screen.specs.KeyGrammar.{readings_then, Readings, Key, Paste, Cut, Stops, readings, lone_escape, in_escape, in_sequence, in_paste, are_whole, announces, byte_is, coming_of, esc, inside, keeps_byte, marker, paste_with_char}
use Rattle.line_screen.specs.Input.{Chars, Next, Over, Stop, AtEnd, AtFailure, Inside, ReadsFirst, chars_of}
use Rattle.line_screen.specs.Sequences.{awaits_more, sequence_key}
use Rattle.line_screen.proofs.FollowingLemmas.{whole_keys_stay}
use Rattle.line_screen.proofs.Outcomes.{unread_of}
use Rattle.line_screen.proofs.ReadChars.{chars_are_encoded}
use Rattle.keyline.specs.SessionLaws.{coming_then, CutsAreFree}
use Rattle.keyline.specs.Sessions.{coming_from}

-- ---- no byte is left where whole keys end

data BareChars : List ℕ → Chars → Type 0 where
  next : (c : ℕ) (behind : List ℕ) {here : List ℕ} {rest : Chars} → BareChars behind rest → BareChars here (Next c behind rest)
  no_more : (stop : Stop) (left : List ℕ) {here : List ℕ} → (stop ≡ AtEnd → here ≡ []) → BareChars here (Over stop left)

bare_chars : (bytes : List ℕ) (chars : Chars) → chars_of bytes End ≡ chars → BareChars bytes chars
bare_chars bytes (Next c behind rest) is =
    let r : ReadsFirst End bytes (Next c behind rest) = subst (ReadsFirst End bytes) is (chars_are_encoded bytes End) in
    next c behind (bare_chars behind rest (sym r.2))
bare_chars bytes (Over AtEnd left) is =
    let r : ReadsFirst End bytes (Over AtEnd left) = subst (ReadsFirst End bytes) is (chars_are_encoded bytes End) in no_more AtEnd left (λ e. r.0)
bare_chars bytes (Over _ left) is = no_more _ left (λ e. cc)

data Bare : List ℕ → Readings → Type 0 where
  key : (k : KeyEvent) (behind : List ℕ) {here : List ℕ} {rest : Readings} → Bare behind rest → Bare here (Key k behind rest)
  paste : (text behind : List ℕ) {here : List ℕ} {rest : Readings} → Bare behind rest → Bare here (Paste text behind rest)
  cut : (stop : Stop) (left : List ℕ) {here : List ℕ} → Bare here (Cut stop left)
  stops : (stop : Stop) (left : List ℕ) {here : List ℕ} → (stop ≡ AtEnd → here ≡ []) → Bare here (Stops stop left)

bare_by : {here : List ℕ} {x y : Readings} (b : Bool) → Bare here x → Bare here y → Bare here (if b then x else y)
bare_by true p q = p
bare_by false p q = q

bare_inside : {here : List ℕ} (stop : Stop) (left : List ℕ) → Bare here (Stops (inside stop) left)
bare_inside AtEnd left = stops Inside left (λ e. cc)
bare_inside _ left = stops _ left (λ e. cc)

bare_alone : {outer here : List ℕ} {again : Readings} (mode : EditMode) (stop : Stop) (left : List ℕ) → (stop ≡ AtEnd → here ≡ []) → Bare here again → Bare outer (lone_escape mode here stop left again)
bare_alone {here = []} mode AtFailure left is on = stops AtFailure left (λ e. cc)
bare_alone {here = []} mode _ left is on = key esc [] on
bare_alone {here = b ∷ bs} Vi stop left is on = key esc (b ∷ bs) on
bare_alone {here = b ∷ bs} Emacs stop left is on = stops stop left (λ e. (let none = is e in absurd (cc)))

mutual
  bare : {here : List ℕ} {chars : Chars} (mode : EditMode) → BareChars here chars → Bare here (readings mode chars)
  bare mode (next c behind is) = bare_by (c == 0x1B) (bare_escape mode is (bare mode is)) (key (key_of c none) behind (bare mode is))
  bare mode (no_more stop left is) = stops stop left is

  bare_escape : {outer here : List ℕ} {chars : Chars} {again : Readings} (mode : EditMode) → BareChars here chars → Bare here again → Bare outer (in_escape mode here chars again)
  bare_escape {here = here} mode (next c behind is) on =
      bare_by (byte_is 0x5B here) (bare_sequence mode (codes "[") is)
      (bare_by (byte_is 0x4F here) (bare_sequence mode (codes "O") is) (bare_by (keeps_byte mode here) (key esc here on) (key (key_of c alt) behind (bare mode is))))
  bare_escape mode (no_more stop left is) on = bare_alone mode stop left is on

  bare_sequence : {outer here : List ℕ} {chars : Chars} (mode : EditMode) (text : List ℕ) → BareChars here chars → Bare outer (in_sequence mode text chars)
  bare_sequence mode text (next c behind is) =
      let k = sequence_key (text ++ c ∷ []) in
      bare_by (awaits_more (text ++ c ∷ [])) (bare_sequence mode (text ++ c ∷ []) is) (key k behind (bare_by (announces k) (bare_paste mode [] false 0 is) (bare mode is)))
  bare_sequence mode text (no_more stop left is) = bare_inside stop left

  bare_paste : {outer here : List ℕ} {chars : Chars} (mode : EditMode) (text : List ℕ) (after_return : Bool) (matched : ℕ) → BareChars here chars → Bare outer (in_paste mode text after_return matched chars)
  bare_paste mode text after_return matched (next c behind is) =
      let held = text ++ take matched marker in
      bare_by (c == slice_index marker matched) (bare_by (matched == 5) (paste text behind (bare mode is)) (bare_paste mode text after_return (matched + 1) is))
      (bare_by (c == 0x1B) (bare_paste mode held false 1 is) (bare_paste mode (paste_with_char held (after_return && (matched == 0)) c) (c == 0x0D) 0 is))
  bare_paste mode text after_return matched (no_more stop left is) = cut stop left

-- ---- the law

coming_follows : {here : List ℕ} {r : Readings} (more : List ℕ) (following : Readings) → Bare here r → IsTrue (are_whole r)
    → coming_of (here ++ more) (readings_then r more following) ≡ coming_then (coming_of here r) (coming_of more following)
coming_follows {here} more following (key k behind {rest = rest} is) whole =
    ap (λ bytes. Pressed (here ++ bytes) k (coming_of (behind ++ more) (readings_then rest more following))) (sym (unread_of more following))
    ∙ ap (Pressed (here ++ bytes_to_come (coming_of more following)) k) (coming_follows more following is whole)
coming_follows {here} more following (paste text behind {rest = rest} is) whole =
    ap (λ bytes. Pasted (here ++ bytes) text (coming_of (behind ++ more) (readings_then rest more following))) (sym (unread_of more following))
    ∙ ap (Pasted (here ++ bytes_to_come (coming_of more following)) text) (coming_follows more following is whole)
coming_follows more following (stops AtEnd left is) whole = ap (λ bytes. coming_of (bytes ++ more) following) (is refl)
coming_follows more following _ whole = absurd (cc)

pub cuts_are_free : CutsAreFree
cuts_are_free mode bytes more last free whole =
    let first = chars_of bytes End in
    ap (coming_of (bytes ++ more)) (whole_keys_stay mode bytes more last free whole)
    ∙ coming_follows more (readings mode (chars_of more last)) (bare mode (bare_chars bytes first refl)) whole

-- ---- worked rows: `a`, the left key, then `b`

over : Coming
over = Ends [] AtItsEnd []

typed : List ℕ → ℕ → Coming → Coming
typed bytes c = Pressed bytes (key_with (Char c) none)

left_key : List ℕ
left_key = 0x1B ∷ codes "[D"

cut_behind_a_key : coming_then (coming_from Emacs (0x61 ∷ left_key) End) (coming_from Emacs (codes "b") End)
    ≡ typed (0x61 ∷ left_key ++ codes "b") 0x61 (Pressed (left_key ++ codes "b") (key_with Left none) (typed (codes "b") 0x62 over))
unfolding typed left_key over
cut_behind_a_key = refl

not_cut : coming_from Emacs (0x61 ∷ left_key ++ codes "b") End
    ≡ typed (0x61 ∷ left_key ++ codes "b") 0x61 (Pressed (left_key ++ codes "b") (key_with Left none) (typed (codes "b") 0x62 over))
unfolding typed left_key over
not_cut = refl

-- behind ESC what follows tells which key it is
cut_behind_esc : coming_then (coming_from Emacs (0x1B ∷ []) End) (coming_from Emacs (codes "b") End) ≡ Pressed (0x1B ∷ codes "b") (key_with Esc none) (typed (codes "b") 0x62 over)
unfolding typed over
cut_behind_esc = refl

alt_b : coming_from Emacs (0x1B ∷ codes "b") End ≡ Pressed (0x1B ∷ codes "b") (key_with (Char 0x62) alt) over
unfolding over
alt_b = refl

-- inside a key the input is over; inside a paste that stands for all that comes
cut_inside_a_key : coming_then (coming_from Vi (0x1B ∷ codes "[") End) (coming_from Vi (codes "D") End) ≡ typed (codes "D") 0x44 over
unfolding typed over
cut_inside_a_key = refl

cut_inside_a_paste : coming_then (coming_from Vi (0x1B ∷ codes "[200~a") End) (coming_from Vi (codes "b") End)
    ≡ Pressed (0x1B ∷ codes "[200~ab") (key_with BracketedPasteStart none) (CutOff (codes "a") AtItsEnd [])
unfolding lib.Utf8.encode
cut_inside_a_paste = refl
