-- Insertions of texts.
use Rattle.std.specs.Prelude.{⊤, ℕ, ◌+◌, ◌-◌, ◌==◌, Bool, not, ◌&&◌, ◌||◌, nat_le, nat_lt, if◌then◌else◌, slice_index, List, [], ◌∷◌, length, take, min, Option, None, Some, encode_utf8}
use Rattle.std.specs.List.{insert_slice, repeat}
use Rattle.std.specs.Fmt.Cut.{floor_char_boundary}
use Rattle.line_buffer.specs.declared.types.Direction.TheVariants.{Forward}
use Rattle.line_buffer.specs.Edit.{Edit}
use Rattle.line_buffer.specs.Event.{ChangeEvent, InsertChar, deletion, InsertStr}
use Rattle.line_buffer.specs.Line.{Line, without_range}

-- the byte at a place continues the character before it
abbrev pub is_inside_char : List ℕ → ℕ → Bool
is_inside_char text at =
    nat_lt at (length text) && nat_le 128 (slice_index text at) && nat_lt (slice_index text at) 192

-- `count` more bytes fit, for the calls that respect the limit
abbrev pub has_room : ℕ → Line → Bool
has_room count l = l.growth || nat_le (length l.text + count) l.limit

-- the whole text, or its longest prefix in whole characters that fits the limit
abbrev pub text_that_fits : List ℕ → Line → List ℕ
text_that_fits text l =
    if l.growth || nat_le (length text) l.limit then text
    else take (floor_char_boundary text l.limit) text

abbrev pub update : List ℕ → ℕ → Line → Edit ⊤
update text pos l =
    let kept = text_that_fits text l in
    record {
      answer = tt;
      events = deletion 0 (length l.text) Forward l.text ∷ (InsertStr 0 kept ∷ []);
      line = record l { text = kept; place = min pos (length kept) };
    }

-- an edit that isn't made if the text doesn't fit
abbrev pub Insertion : Type 0
Insertion = Edit (Option Bool)

-- nothing is inserted
abbrev pub no_insertion : Line → Insertion
no_insertion l = record { answer = None; events = []; line = l }

-- a text inserted at the cursor, the cursor after it
abbrev pub with_text_at_cursor : List ℕ → Line → Line
with_text_at_cursor added l =
    record l { text = insert_slice l.text l.place added; place = l.place + length added }

-- the text is inserted if it fits; the answer is whether that is at the text's end
abbrev pub insertion_by : ChangeEvent → List ℕ → Line → Insertion
insertion_by told added l =
    if has_room (length added) l then record {
      answer = Some (l.place == length l.text);
      events = told ∷ [];
      line = with_text_at_cursor added l;
    }
    else no_insertion l

-- n copies of a text
abbrev pub insertion_of : List ℕ → ℕ → Line → Insertion
insertion_of text n l = insertion_by (InsertStr l.place (repeat n text)) (repeat n text) l

-- n copies of a character
abbrev pub insert : ℕ → ℕ → Line → Insertion
insert c n l =
    if n == 1 then insertion_by (InsertChar l.place c) (encode_utf8 c) l
    else insertion_of (encode_utf8 c) n l

-- n copies of a text that isn't empty
abbrev pub yank : List ℕ → ℕ → Line → Insertion
yank text n l = if length text == 0 then no_insertion l else insertion_of text n l

-- `count` bytes precede the cursor, and begin at a character boundary
abbrev pub can_take_before : ℕ → Line → Bool
can_take_before count l = nat_le count l.place && not (is_inside_char l.text (l.place - count))

-- the line without the `size` bytes before the cursor
abbrev pub without_before : ℕ → Line → Line
without_before size l = without_range (l.place - size) l.place l

-- a text in place of the `size` bytes before the cursor
abbrev pub yank_pop : ℕ → List ℕ → Line → Insertion
yank_pop size text l =
    let put = yank text 1 (without_before size l) in
    record put { events = deletion (l.place - size) l.place Forward l.text ∷ put.events }
