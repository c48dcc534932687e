-- What a call sends that makes others, one after the other.
use Rattle.std.proofs.Common.{◌≡◌, ℕ, ◌+◌, ◌==◌, nat_le, Bool, List, [], ◌∷◌, ◌++◌, length, ◌∙◌, refl, sym, ap, Result, Ok, Err, if◌then◌else◌, subst, zero, suc, ◌-◌, ◌<◌, ◌≤◌, nat_lt, true, ◌&&◌, arith, false}
use Rattle.std.specs.Prelude.{decimal, replicate, take}
use Rattle.std.specs.Result.{IsErrAnd}
use Rattle.std.proofs.lemmas.Bool.{ne_eqb, false≢true, and_from, eq-eqb, lt-ltb, le-leb}
use Rattle.line_config.specs.declared.device.DeviceFailed.{DeviceFailed}
use Rattle.line_config.specs.Sending.{Sends}
use Rattle.line_config.proofs.Taking.{Underway, underway_on, underway_some, underway_end, sends_then, sends_refused, sends_flushed, sends_cut}
use Rattle.line_screen.specs.Drawing.{control_sequence, no_style, in_fence, SendsTo, move_bytes, short_move}
use Rattle.line_buffer.specs.declared.layout.Position.{Position}
use Rattle.line_screen.proofs.Parts.{is_step_back}

-- so many BS, of four
abbrev four_steps : List ℕ
four_steps = 0x08 ∷ 0x08 ∷ 0x08 ∷ 0x08 ∷ []

steps : (n : ℕ) → n ≤ 4 → take n four_steps ≡ replicate n 0x08
steps zero h = refl
steps (suc zero) h = refl
steps (suc (suc zero)) h = refl
steps (suc (suc (suc zero))) h = refl
steps (suc (suc (suc (suc zero)))) h = refl
steps (suc (suc (suc (suc (suc n))))) h = absurd (omega arith)

module _ {D : Type 0} {held : D → List ℕ} {failed : D → Bool} where
  -- the same bytes
  pub sends_as : {A E : Type 0} {xs ys : List ℕ} {a b : D} {r : Result A E} → xs ≡ ys → Sends held failed xs a b r → Sends held failed ys a b r
  sends_as {a = a} {b = b} {r = r} is s = subst (λ bytes. Sends held failed bytes a b r) is s

  -- another answer
  pub sends_answer : {X Y E F : Type 0} {xs : List ℕ} {a b : D} {x : X} {y : Y} → Sends {A = X} {E = E} held failed xs a b (Ok x)
      → Sends {A = Y} {E = F} held failed xs a b (Ok y)
  sends_answer s = record { sent = s.sent; works = s.works; err = tt; begins = tt }

  -- a call was answered, and others send what is left
  pub sent_then : {X A E F : Type 0} {xs ys : List ℕ} {a b c : D} {x : X} {r : Result A E}
      → Sends {A = X} {E = F} held failed xs a b (Ok x) → Sends held failed ys b c r → Sends held failed (xs ++ ys) a c r
  sent_then {xs = xs} {ys = ys} one rest = sends_then held failed xs ys one.sent one.works rest

  -- the same if the others send no bytes, as a flush
  pub sent_flushed : {X A E F : Type 0} {xs : List ℕ} {a b c : D} {x : X} {r : Result A E}
      → Sends {A = X} {E = F} held failed xs a b (Ok x) → Sends held failed [] b c r → Sends held failed xs a c r
  sent_flushed {xs = xs} one rest = sends_flushed held failed xs one.sent one.works rest

  -- a call failed, and that is the end
  pub sent_failed : {X A E F : Type 0} {xs : List ℕ} {a b : D} {e : F} {r : Result A E} (Q : E → Type 0)
      → Sends {A = X} held failed xs a b (Err e) → IsErrAnd r Q → Sends held failed xs a b r
  sent_failed {xs = xs} Q one refused = sends_refused held failed Q xs refused one.err one.begins

  pub sent_cut : {X A E F : Type 0} {xs : List ℕ} {a b : D} {e : F} {r : Result A E} (Q : E → Type 0) (ys : List ℕ)
      → Sends {A = X} held failed xs a b (Err e) → IsErrAnd r Q → Sends held failed (xs ++ ys) a b r
  sent_cut {xs = xs} Q ys one refused = sends_cut held failed Q xs ys refused one.err one.begins

  -- a sequence whose number isn't 0
  pub sends_control : {A : Type 0} (count final : ℕ) {a b : D} {r : Result A DeviceFailed}
      → (count ≡ 0 → ⊥) → Sends held failed (0x1B ∷ 0x5B ∷ (decimal count ++ final ∷ [])) a b r → Sends held failed (control_sequence count final) a b r
  sends_control count final not_none s = sends_as
      (ap (λ none. if none then [] else (0x1B ∷ 0x5B ∷ (decimal count ++ final ∷ []))) (sym (ne_eqb count 0 not_none))) s

  pub sends_steps : {A : Type 0} (old new : Position) (n : ℕ) {a b : D} {r : Result A DeviceFailed} → old.row ≡ new.row → new.col < old.col → n ≤ 4 → n ≡ old.col - new.col
      → Sends held failed (take n four_steps) a b r → Sends held failed (short_move old new) a b r
  sends_steps old new n row low few is s =
      let back : is_step_back old new ≡ true =
      and_from (old.row == new.row) (nat_lt new.col old.col && nat_le old.col (new.col + 4)) (eq-eqb old.row new.row row)
      (and_from (nat_lt new.col old.col) (nat_le old.col (new.col + 4)) (lt-ltb new.col old.col low) (le-leb old.col (new.col + 4) (omega arith))) in
      sends_as (steps n few ∙ ap (λ m. replicate m 0x08) is ∙ ap (λ t. if t then replicate (old.col - new.col) 0x08 else move_bytes old new) (sym back)) s

  -- the same, where a column is answered
  pub sent_to_then : {X F : Type 0} {xs ys : List ℕ} {column columns : ℕ} {a b c : D} {x : X} {r : Result ℕ DeviceFailed}
      → Sends {A = X} {E = F} held failed xs a b (Ok x) → SendsTo ys column columns held failed b c r → SendsTo (xs ++ ys) column columns held failed a c r
  sent_to_then one rest = record { sends = sent_then one rest.sends; next = rest.next; inside = rest.inside }

  pub sent_to_failed : {X F : Type 0} {xs : List ℕ} {column columns : ℕ} {a b : D} {e : F} {r : Result ℕ DeviceFailed} (Q : DeviceFailed → Type 0)
      → Sends {A = X} held failed xs a b (Err e) → IsErrAnd r Q → SendsTo xs column columns held failed a b r
  sent_to_failed {r = Ok x} Q one refused = absurd refused
  sent_to_failed {r = Err e} Q one refused = record { sends = sent_failed Q one refused; next = tt; inside = tt }

  pub sent_to_cut : {X F : Type 0} {xs : List ℕ} {column columns : ℕ} {a b : D} {e : F} {r : Result ℕ DeviceFailed} (Q : DeviceFailed → Type 0) (ys : List ℕ)
      → Sends {A = X} held failed xs a b (Err e) → IsErrAnd r Q → SendsTo (xs ++ ys) column columns held failed a b r
  sent_to_cut {r = Ok x} Q ys one refused = absurd refused
  sent_to_cut {r = Err e} Q ys one refused = record { sends = sent_cut Q ys one refused; next = tt; inside = tt }

  -- ---- a text that is sent in pieces

  -- the next call sends all that is left
  pub sends_rest : {A E : Type 0} {all before rest : List ℕ} {a b c : D} {r : Result A E} → Underway held failed all before a b → before ≡ rest
      → Sends held failed rest b c r → Sends held failed all a c r
  sends_rest {rest = rest} u is s = sends_as (sym (u.split ∙ ap (λ bs. u.done ++ bs) is)) (sends_then held failed u.done rest u.taken u.works s)

  -- all of it was sent
  pub sends_end : {A E : Type 0} {all before : List ℕ} {a b : D} {x : A} → Underway held failed all before a b → before ≡ []
      → Sends {A = A} {E = E} held failed all a b (Ok x)
  sends_end {all = all} {a = a} {b = b} u is = record {
    sent = underway_end held failed all (subst (λ rest. Underway held failed all rest a b) is u);
    works = u.works;
    err = tt;
    begins = tt;
  }

  -- the call that sends the next piece failed
  pub sends_part : {X A E F : Type 0} {all before piece : List ℕ} {a b c : D} {e : F} {r : Result A E} (Q : E → Type 0) (rest : List ℕ)
      → Underway held failed all before a b → before ≡ piece ++ rest
      → Sends {A = X} held failed piece b c (Err e) → IsErrAnd r Q → Sends held failed all a c r
  sends_part {all = all} {piece = piece} {a = a} {b = b} Q rest u is s refused =
      sends_refused held failed Q all refused s.err (underway_some held failed all piece rest (subst (λ left. Underway held failed all left a b) is u) s.begins)

  -- the next piece was sent
  pub underway_then : {X F : Type 0} {all before piece rest : List ℕ} {a b c : D} {x : X} → Underway held failed all before a b → before ≡ piece ++ rest
      → Sends {A = X} {E = F} held failed piece b c (Ok x) → Underway held failed all rest a c
  underway_then {all = all} {piece = piece} {rest = rest} {a = a} {b = b} u is s =
      underway_on held failed all piece rest (subst (λ left. Underway held failed all left a b) is u) s.sent s.works

-- a text's fence
pub fence_of : (text bytes : List ℕ) → false ≡ (length text == 0) → in_fence text bytes ≡ (no_style ++ bytes) ++ no_style
fence_of [] bytes some = absurd (false≢true some)
fence_of (c ∷ text) bytes some = refl
