-- Paths cut at their last slash, and listed names one after the other.
use Rattle.std.proofs.Common.{◌≡◌, ◌≢◌, ℕ, ◌+◌, ◌-◌, ◌<◌, ◌==◌, not, true, false, List, [], ◌∷◌, ◌++◌, length, get_or, drop, Some, refl, sym, arith, append_assoc, ne_eqb}
use Rattle.std.specs.Prelude.{nat_eq, IsUtf8, IsCharBoundary}
use Rattle.std.specs.List.{starts_with, suffix_len}
use Rattle.std.specs.Cmp.{IsStrictWeakOrder}
use Rattle.std.specs.Cmp.Lexicographic.{nat_list_cmp_total}
use Rattle.std.proofs.lemmas.List.{drop_more}
use Rattle.std.proofs.lemmas.List.Sorted.{ranks_by}
use Rattle.std.proofs.lemmas.List.Sums.{suffix_len_is}
use Rattle.std.proofs.lemmas.Str.{IsCharBoundary-after_ascii}
use Rattle.line_help.specs.Completion.{Offered}
use Rattle.line_help.specs.Quotes.{closes_quote, unclosed_quote}
use Rattle.line_help.specs.FileNames.{Named, offered_name, offered_names, is_displayed_before}
use Rattle.line_help.specs.declared.completion.quotes.Quote.{Quote}
use Rattle.line_help.specs.declared.completion.quotes.Quote.TheVariants.{Double, Single, None as Unquoted}
use Rattle.line_help.proofs.QuoteLemmas.{StandsIn, unclosed_stands}

-- the length of the folder of a path
abbrev pub folder_len : List ℕ → ℕ
folder_len path = length path - suffix_len (λ b. not (b == 47)) path

-- where the folder of a path ends
pub slash_last : (path : List ℕ) (k : ℕ) → k < length path → get_or path k 0 ≡ 47 → ((i : ℕ) → k < i → i < length path → get_or path i 0 ≢ 47) → folder_len path ≡ k + 1
slash_last path k inside is after =
    let test = λ (b : ℕ). not (b == 47) in
    let at : (k + 1) - 1 ≡ k = omega arith in
    let len : suffix_len test path ≡ length path - (k + 1) =
    suffix_len_is test path (k + 1) 0 (omega arith) (λ i lo hi. rw (ne_eqb (get_or path i 0) 47 (after i (omega arith) hi)) refl) (λ _. rw (at, is) refl) in
    omega (arith, len)

pub no_slash : (path : List ℕ) → ((i : ℕ) → i < length path → get_or path i 0 ≢ 47) → folder_len path ≡ 0
no_slash path none =
    let test = λ (b : ℕ). not (b == 47) in
    let len : suffix_len test path ≡ length path - 0 =
    suffix_len_is test path 0 0 (omega arith) (λ i lo hi. rw (ne_eqb (get_or path i 0) 47 (none i hi)) refl) (λ h. absurd (omega arith)) in
    omega (arith, len)

-- after an open quote a text may be cut
close_is_ascii : (quote : Quote) (b : ℕ) → closes_quote quote b ≡ true → b < 128
close_is_ascii Double b e = grind arith
close_is_ascii Single b e = grind arith
close_is_ascii Unquoted b e = cc

pub behind_quote : (text : List ℕ) (within : ℕ × Quote) → IsUtf8 text → unclosed_quote text ≡ Some within → (within.0 < length text) × IsCharBoundary text (within.0 + 1)
behind_quote text within u e =
    let stands : StandsIn text (Some within) = rw e at (unclosed_stands text) in
    (stands.0, IsCharBoundary-after_ascii text within.0 u stands.0 (close_is_ascii within.1 (get_or text within.0 0) stands.1))

-- one name more
pub name_taken : (quote : Quote) (folder name : List ℕ) (all : List Named) (i : ℕ) (named : Named) (done : List Offered) → i < length all → named ≡ get_or all i named → starts_with nat_eq named.name name ≡ true
    → done ++ offered_names quote folder name (drop i all) ≡ (done ++ (offered_name quote folder named ∷ [])) ++ offered_names quote folder name (drop (i + 1) all)
name_taken quote folder name all i named done inside is begins =
    rw (drop_more all i named inside, ← is, begins) (sym (append_assoc done (offered_name quote folder named ∷ []) (offered_names quote folder name (drop (i + 1) all))))

pub name_skipped : (quote : Quote) (folder name : List ℕ) (all : List Named) (i : ℕ) (named : Named) → i < length all → named ≡ get_or all i named → starts_with nat_eq named.name name ≡ false
    → offered_names quote folder name (drop i all) ≡ offered_names quote folder name (drop (i + 1) all)
name_skipped quote folder name all i named inside is begins = rw (drop_more all i named inside, ← is, begins) refl

pub display_order : IsStrictWeakOrder is_displayed_before
display_order = ranks_by nat_list_cmp_total (λ (offered : Offered). offered.display)
