-- The comparisons of keys and of events hold if and only if they are the same.
use Rattle.std.proofs.Common.{◌≡◌, List, eqb, refl, sym, ap, subst, true, true≢false}
use Rattle.std.specs.Prelude.{Bool, Decides}
use Rattle.std.specs.Cmp.{unsigned_Decides}
use Rattle.std.specs.Cmp.Lexicographic.{pointwise, pointwise_decides}
use Rattle.std.proofs.lemmas.Bool.Decides.{Decides-and}
use Rattle.line_keys.specs.declared.events.Event.{Event, TheVariants.Any, TheVariants.KeySeq, TheVariants.Mouse}
use Rattle.line_keys.specs.declared.key.KeyEvent.{KeyEvent}
use Rattle.line_keys.specs.declared.key.KeyCode.{KeyCode}
use Rattle.line_keys.specs.declared.key.KeyCode.TheVariants.{UnknownEscSeq, Backspace, BackTab, BracketedPasteStart, BracketedPasteEnd, Char, Delete, Down, End, Enter, Esc, F, Home, Insert, Left, Null, PageDown, PageUp, Right, Tab, Up}
use Rattle.line_keys.specs.Events.{same_event}
use Rattle.line_keys.specs.contracts.key.KeyCodePartialEq.TheImpl as code_eq
use Rattle.line_keys.specs.Keys.{same_key}

abbrev same_code : KeyCode → KeyCode → Bool
same_code = (code_eq.ghosts).eq

same_code-itself : (a : KeyCode) → same_code a a ≡ true
same_code-itself (Char c) = (unsigned_Decides c c).1 refl
same_code-itself (F n) = (unsigned_Decides n n).1 refl
same_code-itself a = refl

same_code-equal : (a b : KeyCode) → same_code a b ≡ true → a ≡ b
same_code-equal UnknownEscSeq UnknownEscSeq h = refl
same_code-equal Backspace Backspace h = refl
same_code-equal BackTab BackTab h = refl
same_code-equal BracketedPasteStart BracketedPasteStart h = refl
same_code-equal BracketedPasteEnd BracketedPasteEnd h = refl
same_code-equal (Char c) (Char d) h = ap Char ((unsigned_Decides c d).0 h)
same_code-equal Delete Delete h = refl
same_code-equal Down Down h = refl
same_code-equal End End h = refl
same_code-equal Enter Enter h = refl
same_code-equal Esc Esc h = refl
same_code-equal (F m) (F n) h = ap F ((unsigned_Decides m n).0 h)
same_code-equal Home Home h = refl
same_code-equal Insert Insert h = refl
same_code-equal Left Left h = refl
same_code-equal Null Null h = refl
same_code-equal PageDown PageDown h = refl
same_code-equal PageUp PageUp h = refl
same_code-equal Right Right h = refl
same_code-equal Tab Tab h = refl
same_code-equal Up Up h = refl
same_code-equal a b h = absurd (true≢false (sym h))

pub same_code-decides : (a b : KeyCode) → Decides (same_code a b) (a ≡ b)
same_code-decides a b =
    (same_code-equal a b, λ e. subst (λ c. same_code a c ≡ true) e (same_code-itself a))

pub same_key-decides : (a b : KeyEvent) → Decides (same_key a b) (a ≡ b)
same_key-decides a b =
    let both =
    Decides-and (same_code a.0 b.0) (eqb a.1.0 b.1.0)
    (same_code-decides a.0 b.0) (unsigned_Decides a.1.0 b.1.0)
    in (
      λ h. let p = both.0 h in λ i. record { 0 = p.0 i; 1 = record { 0 = p.1 i } },
      λ e. both.1 (ap (λ (k : KeyEvent). k.0) e, ap (λ (k : KeyEvent). k.1.0) e),
    )

pub same_keys-decides : (xs ys : List KeyEvent) → Decides (pointwise same_key xs ys) (xs ≡ ys)
same_keys-decides = pointwise_decides same_key-decides

same_event-itself : (a : Event) → same_event a a ≡ true
same_event-itself (KeySeq keys) = (same_keys-decides keys keys).1 refl
same_event-itself a = refl

same_event-equal : (a b : Event) → same_event a b ≡ true → a ≡ b
same_event-equal Any Any h = refl
same_event-equal Mouse Mouse h = refl
same_event-equal (KeySeq xs) (KeySeq ys) h = ap KeySeq ((same_keys-decides xs ys).0 h)
same_event-equal a b h = absurd (true≢false (sym h))

pub same_event-decides : (a b : Event) → Decides (same_event a b) (a ≡ b)
same_event-decides a b =
    (same_event-equal a b, λ e. subst (λ c. same_event a c ≡ true) e (same_event-itself a))
