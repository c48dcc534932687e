-- Plain texts are simple ones: what needs the one end of a text has the other.
use Rattle.std.proofs.Common.{◌≡◌, ℕ, ◌==◌, Bool, true, false, List, [], ◌∷◌, length, refl}
use Rattle.std.proofs.lemmas.Bool.{and_parts, and_from, or_right}
use Rattle.line_buffer.specs.Printable.{is_printable, is_plain_byte, is_plain, is_simple, at_simple_end, is_typed_at_end}

pub plain_simple : (text : List ℕ) → is_plain text ≡ true → is_simple text ≡ true
plain_simple [] h = refl
plain_simple (byte ∷ text) h =
    let parts = and_parts (is_plain_byte byte) (is_plain text) h in
    and_from _ _ (or_right (byte == 9) _ parts.0) (plain_simple text parts.1)

pub plain_at_end : (tabs : Bool) (text : List ℕ) (place : ℕ) → (place == length text) ≡ true → is_plain text ≡ true → at_simple_end tabs text place ≡ true
plain_at_end true text place end plain = and_from (place == length text) _ end (plain_simple text plain)
plain_at_end false text place end plain = and_from (place == length text) _ end plain

pub typed_at_any : (tabs : Bool) (c : ℕ) (text : List ℕ) (place : ℕ) → is_typed_at_end tabs c text place ≡ true → is_typed_at_end true c text place ≡ true
typed_at_any true c text place h = h
typed_at_any false c text place h =
    let parts = and_parts (is_printable c) (at_simple_end false text place) h in
    let end = and_parts (place == length text) (is_plain text) parts.1 in
    and_from (is_printable c) _ parts.0 (plain_at_end true text place end.0 end.1)
