-- Quoted keys insert the characters that they were sent as.
use Rattle.std.proofs.Common.{◌≡◌, ◌+◌, ◌-◌, ℕ, Bool, true, false, not, ◌||◌, refl, ap, sym, arith, eqb-true}
use Rattle.std.specs.Prelude.{◌==◌, nat_lt, nat_le}
use Rattle.std.proofs.lemmas.Bool.Decides.{nat_tests}
use Rattle.std.specs.Char.{is_control}
use Rattle.line_keys.specs.declared.command.Cmd.TheVariants.{SelfInsert}
use Rattle.line_keys.specs.Keys.{none, key_of}
use Rattle.line_keys.specs.Common.{QuotedAsSent, control_of, quoted_command}

low_told : (c : ℕ) → nat_lt c 0x20 ≡ true → control_of (c + 0x40) ≡ SelfInsert 1 c
low_told c low =
    let from : nat_le 0x40 (c + 0x40) ≡ true = grind (arith, nat_tests) in
    let to : nat_le (c + 0x40) 0x5F ≡ true = grind (arith, nat_tests) in
    let back : (c + 0x40) - 0x40 ≡ c = omega arith in
    rw (from, to, back) refl

-- by what a control character isn't
control_told : (c : ℕ) (del tab cr esc low : Bool) → (c == 0x08) ≡ false → (c == 0x7F) ≡ del → (c == 0x09) ≡ tab → (c == 0x0D) ≡ cr
    → (c == 0x1B) ≡ esc → nat_lt c 0x20 ≡ low → is_control c ≡ true → nat_lt c 0x80 ≡ true → quoted_command (key_of c none) ≡ SelfInsert 1 c
control_told c true tab cr esc low bs is nt nr ne nl con less = rw (con, bs, is) (ap (SelfInsert 1) (sym (eqb-true c 0x7F is)))
control_told c false true cr esc low bs nd is nr ne nl con less = rw (con, bs, nd, is) (ap (SelfInsert 1) (sym (eqb-true c 0x09 is)))
control_told c false false true esc low bs nd nt is ne nl con less = rw (con, bs, nd, nt, is) (ap (SelfInsert 1) (sym (eqb-true c 0x0D is)))
control_told c false false false true low bs nd nt nr is nl con less = rw (con, bs, nd, nt, nr, is) (ap (SelfInsert 1) (sym (eqb-true c 0x1B is)))
control_told c false false false false true bs nd nt nr ne is con less = rw (con, bs, nd, nt, nr, ne, is) (low_told c is)
control_told c false false false false false bs nd nt nr ne is con less = absurd (grind (arith, nat_tests))

told_by : (c : ℕ) (con : Bool) → is_control c ≡ con → (c == 0x08) ≡ false → nat_lt c 0x80 || not con ≡ true → quoted_command (key_of c none) ≡ SelfInsert 1 c
told_by c true is bs told =
    let less : nat_lt c 0x80 ≡ true = grind arith in
    control_told c (c == 0x7F) (c == 0x09) (c == 0x0D) (c == 0x1B) (nat_lt c 0x20) bs refl refl refl refl refl is less
told_by c false is bs told = rw is refl

pub quoted_as_sent : QuotedAsSent
quoted_as_sent c told =
    let bs : (c == 0x08) ≡ false = grind arith in
    told_by c (is_control c) refl bs (grind arith)
