-- What is answered to an error that words give, and which errors they give.
use Rattle.std.proofs.Common.{◌≡◌, List, [], inl, inr, refl, sym, subst, true, Result, Ok, Err, IsErrAnd, MatchResult}
use Rattle.clap.specs.Words.{App, HasKind, HasMatchesOf, IsAmong, Text, fault_of, found_of, is_simple, kind_of, matches_of, rows_of}
use Rattle.clap.specs.Faults.{is_simple_and_free}
use Rattle.clap.specs.declared.error.Error.{Error}
use Rattle.clap.specs.declared.parser.matches.ArgMatches.{ArgMatches}
use Rattle.clap.specs.declared.error.kind.ErrorKind.{ErrorKind}
use Rattle.clap.proofs.OnLiterals.{clap_on_literals}
use Rattle.keyline.specs.Options.{ParsesTo, FailsBy, Says, command_line}
use Rattle.keyline.specs.declared.options.Options.{Options}
use Rattle.keyline.specs.declared.options.Parsed.{Parsed, TheVariants.Run, TheVariants.Help, TheVariants.Usage, TheVariants.Memory}

-- an error is answered as its kind says
pub answered : (words : List Text) (kind : ErrorKind) (r : Parsed) → FailsBy words kind → Says kind r → ParsesTo words r
answered words kind (Run options) fails says = absurd says
answered words kind Memory fails says = tt
answered words kind (Help text) (inl memory) says = cc
answered words kind (Help text) (inr (inl among)) says = subst (λ k. IsAmong k (fault_of command_line words)) says among
answered words kind (Help text) (inr (inr chosen)) says = cc
answered words kind (Usage text) (inl memory) says = absurd (says.1 memory)
answered words kind (Usage text) (inr (inl among)) says = inl (kind, among, says.0)
answered words kind (Usage text) (inr (inr chosen)) says = inr chosen.1

pub is_simple_line : is_simple command_line ≡ true
unfolding command_line clap_on_literals
is_simple_line = refl

pub is_free_line : is_simple_and_free command_line ≡ true
unfolding command_line clap_on_literals
is_free_line = refl

-- the line's rows and faults, over a command that is the program's
pub rows_are : (app : App) (words : List Text) (m : ArgMatches) → app ≡ command_line → HasMatchesOf app words m
    → rows_of (found_of m) ≡ matches_of command_line words
rows_are app words m is has = (subst (λ a. HasMatchesOf a words m) is has is_simple_line).0

pub no_faults : (app : App) (words : List Text) → app ≡ command_line → (is_simple_and_free app ≡ true → fault_of app words ≡ [])
    → fault_of command_line words ≡ []
no_faults app words is none = subst (λ a. is_simple_and_free a ≡ true → fault_of a words ≡ []) is none is_free_line

pub fails_by : (app : App) (words : List Text) (e : Error) → app ≡ command_line → (is_simple_and_free app ≡ true → HasKind (fault_of app words) e)
    → FailsBy words (kind_of e)
fails_by app words e is kinds = elim (subst (λ a. is_simple_and_free a ≡ true → HasKind (fault_of a words) e) is kinds is_free_line) [
  | inl memory ↦ inl memory
  | inr among ↦ inr (inl among)
]

pub fails_with : (words : List Text) (e : Error) (r : Result Options Error) → FailsBy words (kind_of e) → IsErrAnd r (λ x. x ≡ e)
    → MatchResult r (λ options. ParsesTo words (Run options)) (λ error. FailsBy words (kind_of error))
fails_with words e (Ok options) fails same = absurd same
fails_with words e (Err x) fails same = subst (λ (y : Error). FailsBy words (kind_of y)) (sym same) fails
