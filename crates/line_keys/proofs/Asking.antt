-- Requests of a reader, one after the other.
use Rattle.std.proofs.Common.{Bool, false, refl, sym, subst}
use Rattle.line_config.specs.declared.settings.EditMode.{EditMode, TheVariants.Emacs, TheVariants.Vi}
use Rattle.line_keys.specs.Requests.{Request, NextKey, WaitForInput, PastedText, Asked, AsksInOrder, nothing, then, Begins, IsKey, IsLater, abort_in, first_request}

module _ {S : Type 0} (asked : Asked S) where
  pub none_asked : (Is : Request → Type 0) (s : S) → AsksInOrder asked Is s s
  none_asked Is s = nothing

  joined : (Is : Request → Type 0) (s t u : S) → AsksInOrder asked Is s t → AsksInOrder asked Is t u → AsksInOrder asked Is s u
  joined Is s t u before nothing = before
  joined Is s t u before (then r v w after is made) = then r v u (joined Is s t v before after) is made

  pub keys_asked : (flag : Bool) (s t : S) → AsksInOrder asked (IsKey flag) s t → AsksInOrder asked IsLater s t
  keys_asked flag s t nothing = nothing
  keys_asked flag s t (then r u v before is made) = then r u t (keys_asked flag s u before) (subst IsLater (sym is) tt) made

  pub key_asked : (flag : Bool) (s t : S) → asked s (NextKey flag) t → AsksInOrder asked IsLater s t
  key_asked flag s t made = then (NextKey flag) s t nothing tt made

  pub text_asked : (s t : S) → asked s PastedText t → AsksInOrder asked IsLater s t
  text_asked s t made = then PastedText s t nothing tt made

  pub keys_then : (flag : Bool) (s t u : S) → AsksInOrder asked (IsKey flag) s t → AsksInOrder asked IsLater t u → AsksInOrder asked IsLater s u
  keys_then flag s t u before after = joined IsLater s t u (keys_asked flag s t before) after

  pub key_then : (flag : Bool) (s t u : S) → asked s (NextKey flag) t → AsksInOrder asked IsLater t u → AsksInOrder asked IsLater s u
  key_then flag s t u made after = joined IsLater s t u (key_asked flag s t made) after

  pub one_more : (flag : Bool) (s t u : S) → AsksInOrder asked (IsKey flag) s t → asked t (NextKey flag) u → AsksInOrder asked (IsKey flag) s u
  one_more flag s t u before made = then (NextKey flag) t u before refl made

  pub one_asked : (flag : Bool) (s t : S) → asked s (NextKey flag) t → AsksInOrder asked (IsKey flag) s t
  one_asked flag s t made = one_more flag s s t nothing made

  pub first_asked : (r : Request) (s t : S) → asked s r t → Begins asked r IsLater s t
  first_asked r s t made = record { begun = t; first = made; later = nothing }

  pub first_then : (r : Request) (s t u : S) → asked s r t → AsksInOrder asked IsLater t u → Begins asked r IsLater s u
  first_then r s t u made after = record { begun = t; first = made; later = after }

  pub begun_asked : (flag : Bool) (s t : S) → Begins asked (NextKey flag) IsLater s t → AsksInOrder asked IsLater s t
  begun_asked flag s t begins = joined IsLater s begins.begun t (key_asked flag s begins.begun begins.first) begins.later

  -- without the flag either mode waits
  pub waits_first : (mode : EditMode) (s t : S) → Begins asked (first_request (abort_in mode false) false) IsLater s t → Begins asked (WaitForInput false) IsLater s t
  waits_first Emacs s t begins = begins
  waits_first Vi s t begins = begins
