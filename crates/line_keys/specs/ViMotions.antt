-- Vi's searches for a character, and the motion after an operator.
use Rattle.std.specs.Prelude.{ℕ, Option, Some, None, option_map, if◌then◌else◌}
use Rattle.line_buffer.specs.declared.types.CharSearch.{CharSearch}
use Rattle.line_buffer.specs.declared.types.CharSearch.TheVariants as sought
use Rattle.line_buffer.specs.declared.types.Movement.{Movement}
use Rattle.line_buffer.specs.declared.types.Movement.TheVariants.{WholeLine, ViCharSearch}
use Rattle.line_keys.specs.declared.key.KeyCode.TheVariants.{Char}
use Rattle.line_keys.specs.declared.key.KeyEvent.{KeyEvent}
use Rattle.line_keys.specs.declared.keymap.vi.motion.Motion.{Motion}
use Rattle.line_keys.specs.declared.keymap.vi.motion.Motion.TheVariants.{Go, Seek, Again, Back}
use Rattle.line_keys.specs.declared.keymap.vi.motion.Search.{Search}
use Rattle.line_keys.specs.declared.keymap.vi.motion.Search.TheVariants.{Forward, ForwardBefore, Backward, BackwardAfter}
use Rattle.line_keys.specs.KeyFeeds.{Key}
use Rattle.line_keys.specs.Keys.{char_with, key_with, none, same_key}
use Rattle.line_keys.specs.PhraseScripts.{Input, PhrasePart, answer_part, keep_then, with_read, and_then}
use Rattle.line_keys.specs.ViTables.{motion_of}
use Rattle.line_keys.specs.Refreshing.{Shown}
use Rattle.line_keys.specs.Counts.{count_and_key, count_times}

abbrev pub search_of : Search → ℕ → CharSearch
search_of Forward = sought.Forward
search_of ForwardBefore = sought.ForwardBefore
search_of Backward = sought.Backward
search_of BackwardAfter = sought.BackwardAfter

abbrev pub opposite : CharSearch → CharSearch
opposite (sought.Forward c) = sought.Backward c
opposite (sought.ForwardBefore c) = sought.BackwardAfter c
opposite (sought.Backward c) = sought.Forward c
opposite (sought.BackwardAfter c) = sought.ForwardBefore c

-- the movement by a search, if there is one
abbrev pub search_movement : ℕ → Option CharSearch → Option Movement
search_movement n s = option_map (λ x. ViCharSearch n x) s

-- a search that names its character is remembered
abbrev pub search_part : Search → ℕ → Input → Option ℕ → PhrasePart (Option Movement)
search_part way n input (Some c) = keep_then (record input { search = Some (search_of way c) })
    (answer_part (Some (ViCharSearch n (search_of way c))))
search_part way n input None = answer_part None

-- the movement to a character, which is that of the next key
abbrev pub search_of_next_key : Search → ℕ → Input → PhrasePart (Option Movement)
search_of_next_key way n input = with_read Key (λ k. search_part way n input (char_with none k))

-- ---- motions

-- a key that is no motion gives none, and neither does a search if none is remembered
abbrev pub motion_done : ℕ → Input → Option Motion → PhrasePart (Option Movement)
motion_done n input (Some (Go movement)) = answer_part (Some movement)
motion_done n input (Some (Seek search)) = search_of_next_key search n input
motion_done n input (Some Again) = answer_part (search_movement n input.search)
motion_done n input (Some Back) = answer_part (search_movement n (option_map opposite input.search))
motion_done n input None = answer_part None

-- the motion after c is that of a change
abbrev pub motion_by : KeyEvent → ℕ → Input → KeyEvent → PhrasePart (Option Movement)
motion_by operator n input k =
    motion_done n input (motion_of (same_key operator (key_with (Char 0x63) none)) n k)

-- the operator's key again stands for the row; a second count is multiplied by the operator's
abbrev pub motion_after : KeyEvent → ℕ → Input → Shown → KeyEvent → PhrasePart (Option Movement)
motion_after operator n input shown k =
    if same_key k operator then answer_part (Some WholeLine)
    else and_then input shown (count_and_key input.mode k)
    (λ f input shown. motion_by operator (count_times n f.0) input f.1)

-- the motion after an operator's key, if the operator has this count
abbrev pub vi_motion : KeyEvent → ℕ → Input → Shown → PhrasePart (Option Movement)
vi_motion operator n input shown = with_read Key (motion_after operator n input shown)
