-- The requests that are made of a reader, one after the other.
use Rattle.std.specs.Prelude.{◌≡◌, ⊤, Bool, true, false}
use Rattle.line_config.specs.declared.settings.EditMode.{EditMode}
use Rattle.line_config.specs.declared.settings.EditMode.TheVariants.{Emacs, Vi}

-- a call that reads, with its flag
pub data Request : Type 0 where
  NextKey : (single_esc_abort : Bool) → Request
  WaitForInput : (single_esc_abort : Bool) → Request
  NextChar : Request
  PastedText : Request

-- what a reader says of its requests: the states before and after each
abbrev pub Asked : Type 0 → Type 1
Asked S = S → Request → S → Type 0

-- requests of one kind, as many as there may be, lead from the first state to the second
pub data AsksInOrder {S : Type 0} (asked : Asked S) (Is : Request → Type 0) (s : S) : S
    → Type 0 where
  nothing : AsksInOrder asked Is s s
  then : (r : Request) (t u : S) → AsksInOrder asked Is s t → Is r → asked t r u
      → AsksInOrder asked Is s u

-- one request, then others of one kind
pub record Begins {S : Type 0} (asked : Asked S) (r : Request) (Is : Request → Type 0)
    (s t : S) : Type 0 where
  pub begun : S
  pub first : asked s r begun
  pub later : AsksInOrder asked Is begun t

abbrev pub IsKey : Bool → Request → Type 0
IsKey single_esc_abort r = r ≡ NextKey single_esc_abort

-- a request behind the first one of a command: a key or a pasted text
abbrev pub IsLater : Request → Type 0
IsLater (NextKey single_esc_abort) = ⊤
IsLater PastedText = ⊤
IsLater r = ⊥

-- the flag of a command's first request: Vi waits for the rest of a sequence
abbrev pub abort_in : EditMode → Bool → Bool
abort_in Emacs single_esc_abort = single_esc_abort
abort_in Vi single_esc_abort = false

-- the first request of a command: a key if external prints are ignored, else a report
abbrev pub first_request : (single_esc_abort ignore_external_print : Bool) → Request
first_request single_esc_abort true = NextKey single_esc_abort
first_request single_esc_abort false = WaitForInput single_esc_abort
