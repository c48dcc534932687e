-- Keys of the caller's own: rows, their keys, and what is bound.
use Rattle.std.proofs.Common.{◌≡◌, ◌≢◌, ◌∙◌, inl, inr, Bool, true, false, ℕ, suc, ◌+◌, ◌-◌, ◌≤◌, List, [], ◌∷◌, ◌++◌, length, take, drop, refl, sym, ap, subst, arith, append_assoc}
use Rattle.std.specs.Prelude.{Option, Some, None, Result, Ok, Err, cond, nat_lt, option_map}
use Rattle.std.specs.List.{position, position_or_len}
use Rattle.std.proofs.lemmas.Bool.{ltb-false}
use Rattle.std.proofs.lemmas.List.{drop_all, take_all, take_rest}
use Rattle.line_config.specs.declared.errors.ReadlineError.{ReadlineError}
use Rattle.line_config.specs.declared.errors.ReadlineError.TheVariants.{PasteOutOfPlace}
use Rattle.script.proofs.ScriptLaws.{ok_not_err}
use Rattle.line_keys.specs.KeyFeeds.{ReadAs, Coming, Pressed, Pasted, CutOff, Ends, Refused, key_at, behind, refusal_of}
use Rattle.line_keys.specs.KeyFeeds.InputItem.{Key}
use Rattle.line_keys.specs.declared.key.KeyEvent.{KeyEvent}
use Rattle.keyline_call.specs.Asks.{in_front, is_zero, keys_alone, none_more, rows_of}

-- ---- the keys of a row

pub key_taken : (c c' : Coming) (k : KeyEvent) → ReadAs Key (key_at c) (behind Key c) (Ok k) c' → keys_alone c ≡ option_map (λ keys. k ∷ keys) (keys_alone c')
key_taken (Pressed bytes p rest) c' k (inl (is, at)) =
    let same : k ≡ p = cc in
    rw (same, at) refl
key_taken (Pasted bytes text rest) c' k (inl (is, at)) = ok_not_err k PasteOutOfPlace is
key_taken (CutOff bytes last left) c' k (inl (is, at)) = ok_not_err k PasteOutOfPlace is
key_taken (Ends bytes last left) c' k (inl (is, at)) = ok_not_err k _ is
key_taken (Refused bytes why) c' k (inl (is, at)) = ok_not_err k _ is
key_taken c c' k (inr (e, left, never, is, at)) = absurd never

pub keys_ended : (c c' : Coming) (e : ReadlineError) → ReadAs {X = KeyEvent} Key (key_at c) (behind Key c) (Err e) c' → keys_alone c ≡ none_more e
keys_ended (Pressed bytes p rest) c' e (inl (is, at)) = ok_not_err p e (sym is)
keys_ended (Pasted bytes text rest) c' e (inl (is, at)) = let same : e ≡ PasteOutOfPlace = cc in rw same refl
keys_ended (CutOff bytes last left) c' e (inl (is, at)) = let same : e ≡ PasteOutOfPlace = cc in rw same refl
keys_ended (Ends bytes last left) c' e (inl (is, at)) = let same : e ≡ refusal_of last = cc in rw same refl
keys_ended (Refused bytes why) c' e (inl (is, at)) = let same : e ≡ why = cc in rw same refl
keys_ended c c' e (inr (d, left, never, is, at)) = absurd never

-- a key more
more : (done : List KeyEvent) (k : KeyEvent) (o : Option (List KeyEvent)) → option_map (λ keys. done ++ keys) (option_map (λ keys. k ∷ keys) o) ≡ option_map (λ keys. (done ++ k ∷ []) ++ keys) o
more done k None = refl
more done k (Some keys) = ap (λ (x : List KeyEvent). Some x) (sym (append_assoc done (k ∷ []) keys))

pub one_more : (all : Option (List KeyEvent)) (done done' : List KeyEvent) (k : KeyEvent) (c c' : Coming) (r : Result KeyEvent ReadlineError) → all ≡ option_map (λ keys. done ++ keys) (keys_alone c)
    → ReadAs Key (key_at c) (behind Key c) r c' → r ≡ Ok k → done' ≡ done ++ k ∷ [] → all ≡ option_map (λ keys. done' ++ keys) (keys_alone c')
one_more all done done' k c c' r is reads ok pushed =
    is ∙ (ap (λ o. option_map (λ keys. done ++ keys) o) (key_taken c c' k (subst (λ (x : Result KeyEvent ReadlineError). ReadAs Key (key_at c) (behind Key c) x c') ok reads))
    ∙ (more done k (keys_alone c') ∙ ap (λ (d : List KeyEvent). option_map (λ keys. d ++ keys) (keys_alone c')) (sym pushed)))

pub last_key : (all : Option (List KeyEvent)) (done : List KeyEvent) (e : ReadlineError) (c c' : Coming) (r : Result KeyEvent ReadlineError) → all ≡ option_map (λ keys. done ++ keys) (keys_alone c)
    → ReadAs Key (key_at c) (behind Key c) r c' → r ≡ Err e → option_map (λ keys. done ++ keys) (none_more e) ≡ all
last_key all done e c c' r is reads err =
    sym (is ∙ ap (λ o. option_map (λ keys. done ++ keys) o) (keys_ended c c' e (subst (λ (x : Result KeyEvent ReadlineError). ReadAs Key (key_at c) (behind Key c) x c') err reads)))

-- ---- rows

abbrev place : List ℕ → ℕ
place text = position_or_len is_zero text

abbrev Cut : ℕ → List ℕ → Type 0
Cut byte bytes = rows_of (byte ∷ bytes) ≡ take (place (byte ∷ bytes)) (byte ∷ bytes) ∷ rows_of (drop (place (byte ∷ bytes) + 1) (byte ∷ bytes))

cut_here : (byte : ℕ) (bytes : List ℕ) → is_zero byte ≡ true → Cut byte bytes
cut_here byte bytes is = rw is refl

cut_last : (byte : ℕ) → is_zero byte ≡ false → Cut byte []
cut_last byte is = rw is refl

cut_later : (byte next : ℕ) (bytes : List ℕ) → is_zero byte ≡ false → Cut next bytes → Cut byte (next ∷ bytes)
cut_later byte next bytes is later =
    let rest : List ℕ = next ∷ bytes in
    let n : ℕ = place rest in
    let one : suc n ≡ 1 + n = omega arith in
    let two : suc (n + 1) ≡ 1 + n + 1 = omega arith in
    let taken : (byte ∷ take n rest) ∷ rows_of (drop (n + 1) rest) ≡ take (1 + n) (byte ∷ rest) ∷ rows_of (drop (1 + n + 1) (byte ∷ rest)) =
    ap (λ (m : ℕ). take m (byte ∷ rest) ∷ rows_of (drop (n + 1) rest)) one ∙ ap (λ (m : ℕ). take (1 + n) (byte ∷ rest) ∷ rows_of (drop m (byte ∷ rest))) two in
    rw is (ap (in_front byte) later ∙ taken)

chosen : {X : Type 0} (b : Bool) → (b ≡ true → X) → (b ≡ false → X) → X
chosen true f _ = f refl
chosen false _ g = g refl

cut : (byte : ℕ) (bytes : List ℕ) → Cut byte bytes
cut byte [] = chosen (is_zero byte) (cut_here byte []) (cut_last byte)
cut byte (next ∷ bytes) = chosen (is_zero byte) (cut_here byte (next ∷ bytes)) (λ is. cut_later byte next bytes is (cut next bytes))

found : (at n : ℕ) (b : Bool) → Some at ≡ cond b (Some n) None → at ≡ n
found at n true is = cc
found at n false is = absurd (cc)

lost : (n : ℕ) (b : Bool) → ◌≡◌ {A = Option ℕ} None (cond b (Some n) None) → b ≡ false
lost n true is = absurd (cc)
lost n false is = refl

pub cut_some : (text : List ℕ) (at : ℕ) → Some at ≡ position is_zero text → rows_of text ≡ take at text ∷ rows_of (take (length text - (at + 1)) (drop (at + 1) text))
cut_some [] at is = absurd (cc)
cut_some (byte ∷ bytes) at is =
    let text : List ℕ = byte ∷ bytes in
    let same : at ≡ place text = found at (place text) (nat_lt (place text) (length text)) is in
    subst (λ (n : ℕ). rows_of text ≡ take n text ∷ rows_of (take (length text - (n + 1)) (drop (n + 1) text))) (sym same)
    (cut byte bytes ∙ ap (λ (x : List ℕ). take (place text) text ∷ rows_of x) (sym (take_rest text (place text + 1))))

pub cut_none : (text : List ℕ) → text ≢ [] → ◌≡◌ {A = Option ℕ} None (position is_zero text) → rows_of text ≡ text ∷ []
cut_none [] some is = absurd (some refl)
cut_none (byte ∷ bytes) some is =
    let text : List ℕ = byte ∷ bytes in
    let long : length text ≤ place text = ltb-false (place text) (length text) (lost (place text) (nat_lt (place text) (length text)) is) in
    cut byte bytes ∙ (ap (λ (x : List ℕ). x ∷ rows_of (drop (place text + 1) text)) (take_all (place text) text long)
    ∙ ap (λ (x : List ℕ). text ∷ rows_of x) (drop_all (place text + 1) text (omega (arith, long))))
