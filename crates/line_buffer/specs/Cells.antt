-- The cells of the display: the first one, and the order in which they are read. The order is total
-- and agrees with equality.
use Rattle.line_buffer.specs.declared.layout.Position.{Position}
use Rattle.std.proofs.Common.{◌≡◌, ◌==◌, ◌&&◌, Bool, ◌∙◌}
use Rattle.std.proofs.Math.Bool.{and_comm}
use Rattle.std.specs.Ordering.{eq_by_cmp, nat_cmp, on, then_cmp}
use Rattle.std.specs.declared.cmp.Ordering.{Ordering}
use Rattle.std.specs.Cmp.{IsTotalOrder, then_total, on_total, nat_cmp_total, unsigned_ties, both_tied}

abbrev pub origin : Position
origin = record { col = 0; row = 0 }

-- by rows, and within a row by columns
abbrev pub reading_order : Position → Position → Ordering
reading_order = then_cmp (on (λ p. p.row) nat_cmp) (on (λ p. p.col) nat_cmp)

abbrev pub same_cell : Position → Position → Bool
same_cell x y = (x.col == y.col) && (x.row == y.row)

pub reading_order_total : IsTotalOrder reading_order
reading_order_total =
    then_total (on_total (λ p. p.row) nat_cmp_total) (on_total (λ p. p.col) nat_cmp_total)

pub reading_order_ties : (x y : Position) → same_cell x y ≡ eq_by_cmp reading_order x y
reading_order_ties x y =
    and_comm (x.col == y.col) (x.row == y.row)
    ∙ both_tied (x.row == y.row) (x.col == y.col) (nat_cmp x.row y.row) (nat_cmp x.col y.col)
    (unsigned_ties x.row y.row) (unsigned_ties x.col y.col)
