-- Worked rows of the last drawings.
use Rattle.std.specs.Prelude.{◌≡◌, ℕ, false, List, [], ◌∷◌, ◌++◌, Option, None, Some, codes, refl}
use Rattle.line_buffer.specs.declared.layout.GraphemeClusterMode.TheVariants as Modes
use Rattle.line_config.specs.declared.settings.BellStyle.TheVariants as Bells
use Rattle.line_screen.specs.ScreenCalls.{Screen, widths}
use Rattle.line_screen.specs.Display.{Display, Placed, meaning}
use Rattle.keyline_call.specs.Laws.{last_drawing}

plain : List ℕ
plain = 0x1B ∷ codes "[m"

-- CR ESC [ J, and a line drawn after the prompt "> "
drawn : List ℕ → List ℕ
drawn line = 0x0D ∷ (0x1B ∷ (codes "[J" ++ (plain ++ (codes "> " ++ (plain ++ (line ++ (plain ++ plain)))))))

-- `a` is typed: its byte comes after the drawing of the empty line
typed_row : last_drawing (drawn [] ++ codes "a") ≡ Some (drawn [] ++ codes "a")
unfolding plain drawn
typed_row = refl

-- `a` is pasted: the line is drawn again, with it
pasted_row : last_drawing (drawn [] ++ drawn (codes "a")) ≡ Some (drawn (codes "a"))
unfolding plain drawn
pasted_row = refl

-- of a line of two rows the last drawing begins behind the way up
upward_row : last_drawing (drawn [] ++ (0x1B ∷ codes "[1A") ++ drawn (codes "a")) ≡ Some (drawn (codes "a"))
unfolding plain drawn
upward_row = refl

pub no_drawing_row : last_drawing (codes "a" ++ 0x0D ∷ 0x0A ∷ 0x1B ∷ codes "[J") ≡ None
no_drawing_row = refl

-- ---- both show the same below other text

eighty : Screen
eighty = record { columns = 80; mode = Modes.Unicode; bell = Bells.Audible; colours = false; tab = None }

above_it : List ℕ
above_it = codes "ok" ++ 0x0D ∷ 0x0A ∷ []

cell : ℕ → ℕ → ℕ → Placed
cell row col c = record { row = row; col = col; width = 1; bytes = c ∷ []; style = [] }

both : Option Display
both = Some (record { placed = cell 0 0 0x6F ∷ cell 0 1 0x6B ∷ cell 1 0 0x3E ∷ cell 1 1 0x20 ∷ cell 1 2 0x61 ∷ []; cursor = record { col = 3; row = 1 }; pen = [] })

typed_shows : meaning 80 (widths eighty).cluster (above_it ++ (drawn [] ++ codes "a")) ≡ both
unfolding plain drawn eighty above_it cell both
typed_shows = refl

pasted_shows : meaning 80 (widths eighty).cluster (above_it ++ drawn (codes "a")) ≡ both
unfolding plain drawn eighty above_it cell both
pasted_shows = refl
