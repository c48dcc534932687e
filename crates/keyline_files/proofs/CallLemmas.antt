-- Calls that change no file.
use Rattle.std.proofs.Common.{inr, ◌≡◌, ℕ, List, [], ◌∷◌, ◌++◌, Result, Ok, Err, refl, sym, ap, ◌∙◌, append_assoc}
use Rattle.std.specs.Prelude.{OnErr}
use Rattle.std.proofs.lemmas.List.Elements.{All-nil, All-cons, All-append}
use Rattle.std.specs.declared.io.ErrorKind.{ErrorKind}
use Rattle.keyline_files.specs.declared.device.Request.{Request}
use Rattle.keyline_files.specs.FileCalls.{CutsBackAfter, FileCall, Did, IsQuiet, LeavesFile, Quietly}

pub quietly_none : (old : List FileCall) → Quietly old old
quietly_none old = record { others = []; quiet = All-nil IsQuiet; noted = refl }

pub quietly_more : {what : Request} {bytes : List ℕ} {answer : Result ℕ ErrorKind} {old mid new : List FileCall} →
    new ≡ Did what bytes answer ∷ mid → IsQuiet (Did what bytes answer) → Quietly old mid → Quietly old new
quietly_more {what} {bytes} {answer} noted quiet before = record {
  others = Did what bytes answer ∷ before.others;
  quiet = All-cons IsQuiet (Did what bytes answer) before.others quiet before.quiet;
  noted = cc;
}

pub quietly_then : {old mid new : List FileCall} → Quietly old mid → Quietly mid new → Quietly old new
quietly_then first second = record {
  others = second.others ++ first.others;
  quiet = All-append IsQuiet second.others first.others second.quiet first.quiet;
  noted = second.noted ∙ (ap (λ cs. second.others ++ cs) first.noted ∙ sym (append_assoc second.others first.others _));
}

pub cut_back_after : {old mid new : List FileCall} → Quietly old mid → CutsBackAfter mid new → LeavesFile old new
cut_back_after first cut = inr (record {
  before = cut.before;
  text = cut.text;
  answer = cut.answer;
  undone = cut.undone;
  quiet = quietly_then first cut.quiet;
  refused = cut.refused;
  noted = cut.noted;
})

pub on_err : {A E : Type 0} {P : Type 0} → (r : Result A E) → P → OnErr r P
on_err (Ok x) p = tt
on_err (Err e) p = p

pub on_err_map : {A E : Type 0} {P Q : Type 0} → (r : Result A E) → (P → Q) → OnErr r P → OnErr r Q
on_err_map (Ok x) f on = tt
on_err_map (Err e) f on = f on
