-- Calls that are repeated, and what the last of them shows.
use Rattle.std.proofs.Common.{◌≡◌, ℕ, zero, suc, ◌+◌, ◌-◌, ◌^◌, List, [], ◌∷◌, ◌++◌, Result, Ok, Err, refl, sym, ap, ◌∙◌, append_assoc, append-nil, add-one}
use Rattle.std.specs.Prelude.{⊤, OnOk, OnErr}
use Rattle.std.specs.IoError.{error_kind}
use Rattle.std.specs.declared.io.Error.{Error}
use Rattle.std.specs.declared.io.ErrorKind.{ErrorKind, TheVariants.Interrupted}
use Rattle.line_config.specs.DeviceCalls.{Answers, DeviceCall, Moves, Flushes, EndsWithCall, IsWriteFailure, IsFlush, MoreCalls, Tries, again, flush_interrupted, flushes, move_interrupted, bytes_moved, moves}

pub again_none : (call : DeviceCall) (before : List DeviceCall) → before ≡ again 0 call before
unfolding again
again_none call before = refl

pub again_more : (n : ℕ) (call c : DeviceCall) (before calls now : List DeviceCall) → calls ≡ again n call before → now ≡ c ∷ calls → c ≡ call
    → now ≡ again (n + 1) call before
unfolding again
again_more n call c before calls now so_far noted same = rw (add-one n, noted, so_far, same) refl

again_less : (n m : ℕ) (call : DeviceCall) (before : List DeviceCall) → n ≡ m + 1 → again n call before ≡ call ∷ again m call before
unfolding again
again_less n m call before is = rw (is, add-one m) refl

-- as does the last one that may be made
pub tries_out : (interrupted : DeviceCall) (IsLast : DeviceCall → Type 0) (n : ℕ) (old calls : List DeviceCall) → calls ≡ again n interrupted old
    → n ≡ 2 ^ 64 - 1 → IsLast interrupted → Tries interrupted old calls IsLast
tries_out interrupted IsLast n old calls so_far all last = record {
  tries = 2 ^ 64 - 2;
  call = interrupted;
  noted = so_far ∙ again_less n (2 ^ 64 - 2) interrupted old (all ∙ refl);
  last = last;
  given_up = λ same. refl;
}

-- ---- what an interrupted call is noted as

pub interrupted_move : (result : Result ℕ Error) (e : Error) (bytes : List ℕ) → result ≡ Err e → error_kind e ≡ Interrupted → moves result bytes ≡ move_interrupted
interrupted_move result e bytes is kind = rw is (ap (λ (k : ErrorKind). Moves (Err k)) kind)

pub interrupted_flush : (result : Result ⊤ Error) (e : Error) → result ≡ Err e → error_kind e ≡ Interrupted → flushes result ≡ flush_interrupted
interrupted_flush result e is kind = rw is (ap (λ (k : ErrorKind). Flushes (Err k)) kind)

-- and it moves nothing
pub moved_none : (result : Result ℕ Error) (e : Error) (bytes before after : List ℕ) → result ≡ Err e → after ≡ before ++ bytes_moved result bytes → after ≡ before
moved_none result e bytes before after is took = let none : after ≡ before ++ [] = rw is at took in none ∙ append-nil before

-- ---- what the last call shows

-- tries are calls
again_parts : (n : ℕ) (call : DeviceCall) (before : List DeviceCall) → (others : List DeviceCall) × (again n call before ≡ others ++ before)
unfolding again
again_parts zero call before = ([], refl)
again_parts (suc n) call before = let rest = again_parts n call before in (call ∷ rest.0, ap (λ cs. call ∷ cs) rest.1)

pub since_same : (a : List DeviceCall) → MoreCalls a a
since_same a = record { others = []; noted = refl }

pub since_then : {a b c : List DeviceCall} → MoreCalls a b → MoreCalls b c → MoreCalls a c
since_then {a} {b} {c} first second = record {
  others = second.others ++ first.others;
  noted = second.noted ∙ ap (λ cs. second.others ++ cs) first.noted ∙ sym (append_assoc second.others first.others a);
}

pub ends_since : (Is : DeviceCall → Type 0) (a b c : List DeviceCall) → MoreCalls a b → EndsWithCall Is b c → EndsWithCall Is a c
ends_since Is a b c first second = record {
  call = second.call;
  others = second.others ++ first.others;
  noted = second.noted ∙ ap (λ cs. second.call ∷ cs) (ap (λ cs. second.others ++ cs) first.noted ∙ sym (append_assoc second.others first.others a));
  last = second.last;
}

pub ends_tries : (interrupted : DeviceCall) (a b c : List DeviceCall) (IsLast Is : DeviceCall → Type 0) → MoreCalls a b → Tries interrupted b c IsLast
    → ((call : DeviceCall) → IsLast call → Is call) → EndsWithCall Is a c
ends_tries interrupted a b c IsLast Is first t so =
    let parts = again_parts t.tries interrupted b in
    ends_since Is a b c first (record { call = t.call; others = parts.0; noted = t.noted ∙ ap (λ cs. t.call ∷ cs) parts.1; last = so t.call t.last })

-- a write that failed has failed its writer
pub write_fails : {A : Type 0} (bytes : List ℕ) (result : Result ℕ A) (e : A) → result ≡ Err e → (c : DeviceCall) → Answers (Moves (Ok (bytes_moved result bytes))) IsWriteFailure result c → IsWriteFailure c
write_fails bytes result e is c answers = rw is at answers

-- a flush after other calls
pub flush_ends : {E : Type 0} (result : Result ⊤ E) (a b c : List DeviceCall) → MoreCalls a b → Tries flush_interrupted b c (Answers (Flushes (Ok tt)) IsWriteFailure result)
    → OnOk result (EndsWithCall IsFlush a c) × OnErr result (EndsWithCall IsWriteFailure a c)
flush_ends (Ok x) a b c first t = (ends_tries flush_interrupted a b c IsFlush IsFlush first t (λ call is. is), tt)
flush_ends (Err e) a b c first t = (tt, ends_tries flush_interrupted a b c IsWriteFailure IsWriteFailure first t (λ call is. is))
