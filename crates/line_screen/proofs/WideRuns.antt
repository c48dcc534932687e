-- Wide characters fill rows from their first cells on, after enough of them.
use Rattle.std.proofs.Common.{◌≡◌, ℕ, zero, suc, ◌+◌, ◌*◌, ◌/◌, ◌%◌, ◌<◌, ◌≤◌, ◌==◌, nat_le, ◌⊎◌, inl, inr, ⊎_elim, Bool, true, false, refl, arith, if◌then◌else◌}
use Rattle.std.proofs.lemmas.Bool.{eqb-true, eqb-false}
use Rattle.line_screen.specs.Drawing.{fitted_col, left_col}

-- the column after a wide character
abbrev pub wide_col : ℕ → ℕ → ℕ
wide_col columns col = left_col columns (fitted_col columns 2 col + 2)

-- an even column, and none without cells before it if each row's last cell stays empty
abbrev pub Settled : ℕ → ℕ → Type 0
Settled columns col = (col % 2 ≡ 0) × (columns % 2 ≡ 1 → 0 < col)

-- so many wide characters lead there
abbrev pub Leads : ℕ → ℕ → ℕ → Type 0
Leads columns zero col = Settled columns col
Leads columns (suc n) col = (col % 2 ≡ 0) ⊎ (columns ≤ col + 2 * n)

step_by : (columns n col : ℕ) → col < columns → (b c : Bool) → nat_le (col + 2) columns ≡ b → ((if b then col else 0) + 2 == columns) ≡ c → Leads columns (suc n) col
    → Leads columns n (if c then 0 else ((if b then col else 0) + 2))
step_by columns zero col low true true fits full h =
    let is = eqb-true (col + 2) columns full in
    (refl, λ odd. ⊎_elim (λ even. absurd (omega (arith, is, even, odd))) (λ more. absurd (omega (arith, more, low))) h)
step_by columns zero col low true false fits full h =
    (⊎_elim (λ even. omega (arith, even)) (λ more. absurd (omega (arith, more, low))) h, λ odd. omega arith)
step_by columns zero col low false true fits full h = let is = eqb-true 2 columns full in (refl, λ odd. absurd (omega (arith, is, odd)))
step_by columns zero col low false false fits full h = (refl, λ odd. omega arith)
step_by columns (suc n) col low b true fits full h = inl refl
step_by columns (suc n) col low true false fits full h = ⊎_elim (λ even. inl (omega (arith, even))) (λ more. inr (omega (arith, more))) h
step_by columns (suc n) col low false false fits full h = inl refl

pub one_wide : (columns n col : ℕ) → col < columns → Leads columns (suc n) col → Leads columns n (wide_col columns col)
one_wide columns n col low h = step_by columns n col low (nat_le (col + 2) columns) (fitted_col columns 2 col + 2 == columns) refl refl h

-- those of half a row, and one more, do so from any column
enough_by : (columns col : ℕ) (b : Bool) → (col % 2 == 0) ≡ b → Leads columns (suc (columns / 2)) col
enough_by columns col true e = inl (eqb-true (col % 2) 0 e)
enough_by columns col false e = let odd = eqb-false (col % 2) 0 e in inr (grind arith)

pub enough_wide : (columns col : ℕ) → Leads columns (suc (columns / 2)) col
enough_wide columns col = enough_by columns col (col % 2 == 0) refl
