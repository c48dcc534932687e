-- Tables one after the other.
use Rattle.std.proofs.Common.{◌≡◌, ℕ, Bool, true, false, List, [], ◌∷◌, ◌++◌, refl, sym, ap, ◌∙◌, if◌then◌else◌}
use Rattle.std.specs.Prelude.{Option, Some, None, ◌==◌, ◌&&◌}
use Rattle.std.specs.Option.{option_or}
use Rattle.line_keys.specs.declared.key.KeyCode.{KeyCode}
use Rattle.line_keys.specs.declared.key.KeyEvent.{KeyEvent}
use Rattle.line_keys.specs.declared.keymap.vi.motion.Motion.{Motion as MotionKey}
use Rattle.line_keys.specs.Tables.{Row, first_row, look}
use Rattle.line_keys.specs.ViTables.{motion_rows, change_motion_rows}

or_by : {X : Type 0} (b : Bool) (x : X) (o p : Option X) → (if b then Some x else option_or o p) ≡ option_or (if b then Some x else o) p
or_by true x o p = refl
or_by false x o p = refl

first-append : {X : Type 0} (n : ℕ) (p : Bool) (code : KeyCode) (bits : ℕ) (xs ys : List (Row X))
    → first_row n p code bits (xs ++ ys) ≡ option_or (first_row n p code bits xs) (first_row n p code bits ys)
first-append n p code bits [] ys = refl
first-append n p code bits (x ∷ xs) ys =
    ap (λ o. if (bits == x.modifiers.0) && (x.fits code && x.stands) then Some (x.gives code n p) else o) (first-append n p code bits xs ys)
    ∙ or_by ((bits == x.modifiers.0) && (x.fits code && x.stands)) (x.gives code n p) (first_row n p code bits xs) (first_row n p code bits ys)

module _ {X : Type 0} (n : ℕ) (p : Bool) (k : KeyEvent) (xs ys : List (Row X)) where
  pub in_first : (x : X) → Some x ≡ look n p k xs → Some x ≡ look n p k (xs ++ ys)
  in_first x is = sym (first-append n p k.0 k.1.0 xs ys ∙ ap (λ o. option_or o (look n p k ys)) (sym is))

  pub in_rest : (o : Option X) → None ≡ look n p k xs → o ≡ look n p k ys → o ≡ look n p k (xs ++ ys)
  in_rest o none is = is ∙ sym (first-append n p k.0 k.1.0 xs ys ∙ ap (λ q. option_or q (look n p k ys)) (sym none))

-- ---- motions

module _ (n : ℕ) (k : KeyEvent) where
  pub change_first : (motion : MotionKey) → Some motion ≡ look n true k change_motion_rows
      → Some motion ≡ option_or (look n true k change_motion_rows) (look n true k motion_rows)
  change_first motion is = ap (λ o. option_or o (look n true k motion_rows)) is

  pub motion_then : (o : Option MotionKey) → None ≡ look n true k change_motion_rows → o ≡ look n true k motion_rows
      → o ≡ option_or (look n true k change_motion_rows) (look n true k motion_rows)
  motion_then o none is = is ∙ ap (λ p. option_or p (look n true k motion_rows)) none
