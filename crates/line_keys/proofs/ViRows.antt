-- Worked rows of Vi's keys: each is what the definitions compute.
use Rattle.std.proofs.Common.{◌≡◌, ℕ, List, [], ◌∷◌, Some, None, false, length, refl}
use Rattle.std.specs.Fmt.{digits}
use Rattle.std.specs.Prelude.{codes, Ok, Option}
use Rattle.line_buffer.specs.declared.types.At.TheVariants.{Start, AfterEnd}
use Rattle.line_buffer.specs.declared.types.CharSearch.TheVariants.{Forward, Backward}
use Rattle.line_buffer.specs.declared.types.Movement.TheVariants.{BackwardChar, ForwardChar, ForwardWord, ViCharSearch, WholeLine}
use Rattle.line_buffer.specs.declared.types.Word.TheVariants.{Vi as ViWord}
use Rattle.line_config.specs.declared.settings.EditMode.TheVariants.{Vi}
use Rattle.line_keys.specs.declared.command.Cmd.{Cmd}
use Rattle.line_keys.specs.declared.command.Cmd.TheVariants.{Insert as InsertText, Kill, Move, Noop, Replace, SelfInsert, Unknown}
use Rattle.line_keys.specs.declared.command.InputMode.{InputMode}
use Rattle.line_keys.specs.declared.command.InputMode.TheVariants.{Command, Insert, Replace as Overwriting}
use Rattle.line_keys.specs.declared.key.KeyCode.TheVariants.{BracketedPasteStart, Char}
use Rattle.line_keys.specs.CustomBindings.{Custom}
use Rattle.line_keys.specs.Common.{common_action}
use Rattle.line_keys.specs.Counts.{rest_of_count}
use Rattle.line_keys.specs.CustomKeys.{key_sequence, rest_of_sequence}
use Rattle.line_keys.specs.Keys.{key_with, none, alt}
use Rattle.line_keys.specs.InputStates.{phrase}
use Rattle.line_keys.specs.KeyFeeds.{Key, Paste, Coming, Pressed, Pasted, Ends, End}
use Rattle.line_keys.specs.PhraseScripts.{Input, steps, answer_part, memory_then, with_read, from_key, show_then, keep_then, reply_then, and_then, KeyAsk, Needs, Reads, Becomes}
use Rattle.line_keys.specs.Vi.{vi_command, vi_counted, command_table, vi_insert, insert_table}
use Rattle.line_keys.specs.ViTables.{action_of, insert_action, motion_of}
use Rattle.line_keys.specs.Refreshing.{Shown, Line, Prompted, DoneInserting}
use Rattle.line_keys.proofs.Played.{Played, played, played_all}

abbrev nothing_bound : Custom
nothing_bound = record { answers = λ e. None; begins = λ keys. false }

abbrev in_mode : InputMode → Input
in_mode mode = record { mode = Vi; input_mode = mode; last = Noop; search = None; modal_commands = false }

-- an empty line, and the text that was inserted last
abbrev empty_line : Option (List ℕ) → Shown
empty_line last = record { line = []; place = 0; hinted = false; completion = None; last_insert = last }

abbrev typed : List ℕ → Coming
typed [] = Ends [] End []
typed (c ∷ text) = Pressed [] (key_with (Char c) none) (typed text)

abbrev read_by : Input → Option (List ℕ) → Coming → Played Cmd
read_by input last c = played (empty_line last) input c (steps (phrase nothing_bound input (empty_line last)) 9)

-- from command mode, with nothing remembered
abbrev commanded : List ℕ → Played Cmd
commanded text = read_by (in_mode Command) None (typed text)

-- ---- operators and counts

counts_are_multiplied : (commanded (codes "3d2w")).answer ≡ Ok (Kill (ForwardWord 6 Start ViWord))
unfolding answer_part rest_of_sequence memory_then with_read from_key show_then keep_then reply_then and_then rest_of_count key_sequence vi_command vi_counted command_table vi_insert insert_table insert_action common_action action_of motion_of
counts_are_multiplied = refl

all_is_read : (commanded (codes "3d2w")).rest ≡ Ends [] End []
unfolding answer_part rest_of_sequence memory_then with_read from_key show_then keep_then reply_then and_then rest_of_count key_sequence vi_command vi_counted command_table vi_insert insert_table insert_action common_action action_of motion_of
all_is_read = refl

each_count_is_prompted : (commanded (codes "3d2w")).asks ≡ Prompted (codes "(arg: 3) ") ∷ Line ∷ Prompted (codes "(arg: 2) ") ∷ Line ∷ []
unfolding answer_part rest_of_sequence memory_then with_read from_key show_then keep_then reply_then and_then rest_of_count key_sequence vi_command vi_counted command_table vi_insert insert_table insert_action common_action action_of motion_of digits
each_count_is_prompted = refl

the_greatest_count : (commanded (codes "9999d9999h")).answer ≡ Ok (Kill (BackwardChar 65535))
unfolding answer_part rest_of_sequence memory_then with_read from_key show_then keep_then reply_then and_then rest_of_count key_sequence vi_command vi_counted command_table vi_insert insert_table insert_action common_action action_of motion_of
the_greatest_count = refl

a_change_keeps_the_blanks : (commanded (codes "cw")).answer ≡ Ok (Replace (ForwardWord 1 AfterEnd ViWord) None)
unfolding answer_part rest_of_sequence memory_then with_read from_key show_then keep_then reply_then and_then rest_of_count key_sequence vi_command vi_counted command_table vi_insert insert_table insert_action common_action action_of motion_of
a_change_keeps_the_blanks = refl

a_change_of_the_row : (commanded (codes "cc")).answer ≡ Ok (Replace WholeLine None)
unfolding answer_part rest_of_sequence memory_then with_read from_key show_then keep_then reply_then and_then rest_of_count key_sequence vi_command vi_counted command_table vi_insert insert_table insert_action common_action action_of motion_of
a_change_of_the_row = refl

a_change_by_no_motion : (commanded (codes "cz")).answer ≡ Ok Unknown
unfolding answer_part rest_of_sequence memory_then with_read from_key show_then keep_then reply_then and_then rest_of_count key_sequence vi_command vi_counted command_table vi_insert insert_table insert_action common_action action_of motion_of
a_change_by_no_motion = refl

a_change_inserts : (commanded (codes "cw")).input.input_mode ≡ Insert
unfolding answer_part rest_of_sequence memory_then with_read from_key show_then keep_then reply_then and_then rest_of_count key_sequence vi_command vi_counted command_table vi_insert insert_table insert_action common_action action_of motion_of
a_change_inserts = refl

a_change_by_no_motion_inserts : (commanded (codes "cz")).input.input_mode ≡ Insert
unfolding answer_part rest_of_sequence memory_then with_read from_key show_then keep_then reply_then and_then rest_of_count key_sequence vi_command vi_counted command_table vi_insert insert_table insert_action common_action action_of motion_of
a_change_by_no_motion_inserts = refl

an_operator_behind_a_count_is_no_motion : (commanded (codes "d2d")).answer ≡ Ok Unknown
unfolding answer_part rest_of_sequence memory_then with_read from_key show_then keep_then reply_then and_then rest_of_count key_sequence vi_command vi_counted command_table vi_insert insert_table insert_action common_action action_of motion_of
an_operator_behind_a_count_is_no_motion = refl

-- ---- searches

abbrev after_a_search : Input
after_a_search = (commanded (codes "fx")).input

a_search : (commanded (codes "fx")).answer ≡ Ok (Move (ViCharSearch 1 (Forward 120)))
unfolding answer_part rest_of_sequence memory_then with_read from_key show_then keep_then reply_then and_then rest_of_count key_sequence vi_command vi_counted command_table vi_insert insert_table insert_action common_action action_of motion_of
a_search = refl

the_same_search : (read_by after_a_search None (typed (codes ";"))).answer ≡ Ok (Move (ViCharSearch 1 (Forward 120)))
unfolding answer_part rest_of_sequence memory_then with_read from_key show_then keep_then reply_then and_then rest_of_count key_sequence vi_command vi_counted command_table vi_insert insert_table insert_action common_action action_of motion_of
the_same_search = refl

the_search_the_other_way : (read_by after_a_search None (typed (codes ","))).answer ≡ Ok (Move (ViCharSearch 1 (Backward 120)))
unfolding answer_part rest_of_sequence memory_then with_read from_key show_then keep_then reply_then and_then rest_of_count key_sequence vi_command vi_counted command_table vi_insert insert_table insert_action common_action action_of motion_of
the_search_the_other_way = refl

no_search_is_remembered : (commanded (codes ";")).answer ≡ Ok Noop
unfolding answer_part rest_of_sequence memory_then with_read from_key show_then keep_then reply_then and_then rest_of_count key_sequence vi_command vi_counted command_table vi_insert insert_table insert_action common_action action_of motion_of
no_search_is_remembered = refl

-- ---- the last change

no_change_is_remembered : (commanded (codes ".")).answer ≡ Ok Noop
unfolding answer_part rest_of_sequence memory_then with_read from_key show_then keep_then reply_then and_then rest_of_count key_sequence vi_command vi_counted command_table vi_insert insert_table insert_action common_action action_of motion_of
no_change_is_remembered = refl

abbrev after_replacing : Input
after_replacing = (commanded (codes "R")).input

replacing_turns_to_replace_mode : after_replacing.input_mode ≡ Overwriting
unfolding answer_part rest_of_sequence memory_then with_read from_key show_then keep_then reply_then and_then rest_of_count key_sequence vi_command vi_counted command_table vi_insert insert_table insert_action common_action action_of motion_of
replacing_turns_to_replace_mode = refl

replaced_once_more : (text : List ℕ) → length text ≡ 70000
    → (read_by (record after_replacing { input_mode = Command }) (Some text) (typed (codes "."))).answer ≡ Ok (Replace (ForwardChar 65535) (Some text))
unfolding answer_part rest_of_sequence memory_then with_read from_key show_then keep_then reply_then and_then rest_of_count key_sequence vi_command vi_counted command_table vi_insert insert_table insert_action common_action action_of motion_of
replaced_once_more text long = rw long refl

the_last_change_with_a_count : (read_by (commanded (codes "x")).input None (typed (codes "4."))).answer ≡ Ok (Kill (ForwardChar 4))
unfolding answer_part rest_of_sequence memory_then with_read from_key show_then keep_then reply_then and_then rest_of_count key_sequence vi_command vi_counted command_table vi_insert insert_table insert_action common_action action_of motion_of
the_last_change_with_a_count = refl

-- ---- what takes memory

-- a change is kept without memory, except one that holds a text
abbrev all_asked : Coming → List KeyAsk
all_asked c = (played_all (empty_line None) (in_mode Command) c (steps (phrase nothing_bound (in_mode Command) (empty_line None)) 9)).asks

a_deletion_takes_none : all_asked (typed (codes "x")) ≡ Reads Key ∷ Becomes (record (in_mode Command) { last = Kill (ForwardChar 1) }) ∷ []
unfolding answer_part rest_of_sequence memory_then with_read from_key show_then keep_then reply_then and_then rest_of_count key_sequence vi_command vi_counted command_table vi_insert insert_table insert_action common_action action_of motion_of
a_deletion_takes_none = refl

a_pasted_text_takes_some : all_asked (Pressed [] (key_with BracketedPasteStart none) (Pasted [] (codes "a") (Ends [] End [])))
    ≡ Reads Key ∷ Reads Paste ∷ Needs ∷ Becomes (record (in_mode Command) { last = InsertText 1 (codes "a") }) ∷ []
unfolding answer_part rest_of_sequence memory_then with_read from_key show_then keep_then reply_then and_then rest_of_count key_sequence vi_command vi_counted command_table vi_insert insert_table insert_action common_action action_of motion_of
a_pasted_text_takes_some = refl

-- ---- insert mode

abbrev alt_d_then_d : Coming
alt_d_then_d = Pressed [] (key_with (Char 100) alt) (typed (codes "d"))

alt_begins_a_command : (read_by (in_mode Insert) None alt_d_then_d).answer ≡ Ok (Kill WholeLine)
unfolding answer_part rest_of_sequence memory_then with_read from_key show_then keep_then reply_then and_then rest_of_count key_sequence vi_command vi_counted command_table vi_insert insert_table insert_action common_action action_of motion_of
alt_begins_a_command = refl

alt_ends_inserting : (read_by (in_mode Insert) None alt_d_then_d).asks ≡ DoneInserting ∷ []
unfolding answer_part rest_of_sequence memory_then with_read from_key show_then keep_then reply_then and_then rest_of_count key_sequence vi_command vi_counted command_table vi_insert insert_table insert_action common_action action_of motion_of
alt_ends_inserting = refl

typed_characters_go_on_with_a_change : (read_by (record (in_mode Insert) { last = Replace WholeLine None }) None (typed (codes "a"))).input.last ≡ Replace WholeLine None
unfolding answer_part rest_of_sequence memory_then with_read from_key show_then keep_then reply_then and_then rest_of_count key_sequence vi_command vi_counted command_table vi_insert insert_table insert_action common_action action_of motion_of
typed_characters_go_on_with_a_change = refl

the_first_character_is_the_last_change : (read_by (in_mode Insert) None (typed (codes "a"))).input.last ≡ SelfInsert 1 97
unfolding answer_part rest_of_sequence memory_then with_read from_key show_then keep_then reply_then and_then rest_of_count key_sequence vi_command vi_counted command_table vi_insert insert_table insert_action common_action action_of motion_of
the_first_character_is_the_last_change = refl
