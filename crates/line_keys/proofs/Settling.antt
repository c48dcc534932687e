-- A phrase that gives a command leaves the session's own prompt: every count ends in a drawing of the line.
use Rattle.std.proofs.Common.{ℕ, zero, suc, Bool, true, false, List, [], ◌∷◌, ◌++◌, refl, sym, true≢false, if◌then◌else◌}
use Rattle.std.specs.Prelude.{Option, Some, None, ℤ}
use Rattle.std.specs.Option.{option_map_or}
use Rattle.line_config.specs.declared.errors.ReadlineError.TheVariants.{Handler}
use Rattle.line_config.specs.declared.settings.EditMode.{EditMode, TheVariants.Emacs, TheVariants.Vi}
use Rattle.line_keys.specs.declared.command.Cmd.{Cmd}
use Rattle.line_keys.specs.declared.command.Cmd.TheVariants.{Insert, Move, QuotedInsert, Noop, Unknown}
use Rattle.line_keys.specs.declared.key.KeyEvent.{KeyEvent}
use Rattle.line_keys.specs.CustomBindings.{Custom}
use Rattle.line_keys.specs.Commands.{holds_text, flags_of, anew}
use Rattle.line_keys.specs.declared.keymap.common.CommonAction.{CommonAction as CommonAction}
use Rattle.line_keys.specs.declared.keymap.common.CommonAction.TheVariants as commons
use Rattle.line_keys.specs.declared.keymap.emacs.EmacsAction.{EmacsAction as EmacsAction}
use Rattle.line_keys.specs.declared.keymap.emacs.EmacsAction.TheVariants as emacs_actions
use Rattle.line_keys.specs.declared.keymap.vi.motion.Motion.{Motion, TheVariants.Seek}
use Rattle.line_keys.specs.declared.keymap.vi.motion.Search.{Search}
use Rattle.line_keys.specs.declared.keymap.vi.table.ViAction.{ViAction as CommandAction}
use Rattle.line_keys.specs.declared.keymap.vi.table.ViAction.TheVariants as commands
use Rattle.line_keys.specs.declared.keymap.vi.table.InsertAction.{InsertAction, TheVariants.Leave, TheVariants.Command as CommandKey}
use Rattle.line_keys.specs.Common.{common, common_action, common_done, decision_of, terminal_command, is_paste_start, quote_of_paste, quote_of_key, quoted_command, quotes, quote_part}
use Rattle.line_keys.specs.Counts.{Counted, count_and_key, rest_of_count, rest_of_count_in, rest_of_count_by, count_from_key, count_with_key, how_often, is_plus, count_times, typed_count}
use Rattle.line_keys.specs.declared.keymap.custom.Followed.{Followed, TheVariants.Bound, TheVariants.Unbound}
use Rattle.line_keys.specs.CustomKeys.{Situation, rest_of_sequence, sequence_upto, key_sequence, sequence_or, sequence_answer, situation, custom_answer}
use Rattle.line_keys.specs.Emacs.{after_first_key, emacs_command, emacs_decided, emacs_action, emacs_done, emacs_phrase, move_to_char, second_command}
use Rattle.line_keys.specs.KeyFeeds.{InputItem, InputOf, Key, Paste}
use Rattle.script.specs.Scripts.{Ends, Asks}
use Rattle.line_keys.specs.InputStates.{phrase, phrase_from}
use Rattle.line_keys.specs.PhraseScripts.{Input, KeyScript, PhrasePart, Shows, steps, answer_part, needs_if, memory_then, with_read, from_key, show_then, keep_then, error_script, reply_script, reply_then, input_after_ask, shown_after_ask, after, and_then, anew_or, own_by, Settles, takes_commands}
use Rattle.line_keys.specs.Refreshing.{Shown, Ask}
use Rattle.line_keys.specs.Replies.{Reply}
use Rattle.line_buffer.specs.declared.types.Movement.TheVariants.{WholeLine}
use Rattle.line_keys.specs.declared.command.InputMode.TheVariants.{Command}
use Rattle.line_keys.specs.declared.key.KeyCode.TheVariants.{Char}
use Rattle.line_keys.specs.Keys.{key_with, none, char_with, same_key}
use Rattle.line_keys.specs.Vi.{changes, command_of, in_mode, key_replacement, is_new, remember_if, with_last, command_done, command_table, insert_done, insert_table, vi_counted, vi_command, vi_insert, change_part, insert_part, insert_mode_if}
use Rattle.line_keys.specs.ViMotions.{motion_done, motion_after, motion_by, vi_motion, search_part, search_of, search_of_next_key}
use Rattle.line_keys.specs.ViTables.{action_of, insert_action, motion_of}

-- ---- whatever an option or a test is

by_option : {X Y : Type 0} (P : Y → Type 0) (f : X → Y) (y : Y) → ((x : X) → P (f x)) → P y → (o : Option X) → P (option_map_or f o y)
by_option P f y each other (Some x) = each x
by_option P f y each other None = other

by_test : {Y : Type 0} (P : Y → Type 0) (x y : Y) → P x → P y → (b : Bool) → P (if b then x else y)
by_test P x y one other true = one
by_test P x y one other false = other

-- ---- parts

abbrev Settled : {X : Type 0} → PhrasePart X → Type 0
Settled p = (n : ℕ) → Settles true (steps p n)

after_settles : {X Y : Type 0} (next : X → Input → Shown → KeyScript Y) → ((x : X) (i : Input) (w : Shown) → Settles true (next x i w))
    → (own : Bool) (s : KeyScript X) (i : Input) (w : Shown) → Settles own s → Settles own (after next i w s)
after_settles next h true (Ends x) i w is = h x i w
after_settles next h false (Ends x) i w is = absurd (true≢false (sym is))
after_settles next h own (Asks ask later) i w is = λ x. after_settles next h (own_by own ask) (later x) (input_after_ask ask i) (shown_after_ask ask x w) (is x)

pub then_settles : {X Y : Type 0} (next : X → Input → Shown → PhrasePart Y) → ((x : X) (i : Input) (w : Shown) → Settled (next x i w)) → (p : PhrasePart X) (i : Input) (w : Shown) → Settled p → Settled (and_then i w p next)
unfolding and_then
then_settles next h p i w is n = after_settles (λ x j v. steps (next x j v) n) (λ x j v. h x j v n) true (steps p n) i w (is n)

answered_settles : {X : Type 0} (x : X) → Settled (answer_part x)
unfolding answer_part
answered_settles x n = refl

read_settles : {Y : Type 0} (item : InputItem) (next : InputOf item → PhrasePart Y) → ((x : InputOf item) → Settled (next x)) → Settled (with_read item next)
unfolding with_read
read_settles item next h zero = λ none. absurd none
read_settles item next h (suc n) = λ x. h x n

key_settles : {X : Type 0} (f : KeyEvent → X) → Settled (from_key f)
unfolding from_key
key_settles f = read_settles Key (λ k. answer_part (f k)) (λ k. answered_settles (f k))

needs_settles : {X : Type 0} (b : Bool) (s : KeyScript X) → Settles true s → Settles true (needs_if b s)
needs_settles true s is = λ none. is
needs_settles false s is = is

needing_settles : {X : Type 0} (b : Bool) (p : PhrasePart X) → Settled p → Settled (memory_then b p)
unfolding memory_then
needing_settles b p is n = needs_settles b (steps p n) (is n)

becoming_settles : {X : Type 0} (i : Input) (p : PhrasePart X) → Settled p → Settled (keep_then i p)
unfolding keep_then
becoming_settles i p is n = λ none. is n

shown_settles : {X : Type 0} (ask : Ask) (next : Shown → PhrasePart X) → ((w : Shown) (n : ℕ) → Settles (own_by true (Shows ask)) (steps (next w) n))
    → Settled (show_then ask next)
unfolding show_then
shown_settles ask next h n = λ w. h w n

reply_settles : {X Y : Type 0} (next : X → KeyScript Y) → ((x : X) → Settles true (next x)) → (reply : Reply X) → Settles true (reply_script next reply)
reply_settles next h reply = needs_settles reply.takes (option_map_or next reply.answer (error_script Handler))
    (by_option (λ s. Settles true s) next (error_script Handler) h (λ none. absurd none) reply.answer)

decided_settles : {X Y : Type 0} (next : X → PhrasePart Y) → ((x : X) → Settled (next x)) → (reply : Reply X) → Settled (reply_then next reply)
unfolding reply_then
decided_settles next h reply n = reply_settles (λ x. steps (next x) n) (λ x. h x n) reply

anew_settles : (other cmd : Cmd) (new : Option ℕ) (shown : Shown) → Settled (anew_or other new shown cmd)
anew_settles other cmd new shown =
    let made = anew other new shown cmd in needing_settles (holds_text made) (answer_part made) (answered_settles made)

-- ---- counts and sequences

counted_settles : (more : ℤ → KeyScript Counted) (n : ℤ) (k : KeyEvent) (o : Option ℤ) → ((d : ℤ) → Settles false (more d)) → Settles false (rest_of_count_by more n k o)
counted_settles more n k (Some d) h = h d
counted_settles more n k None h = λ shown. refl

count_read_settles : (on : ℤ → KeyEvent → Option ℤ) (c : ℤ) (n : ℕ) → Settles false (rest_of_count_in on c n)
count_read_settles on c zero = λ none. absurd none
count_read_settles on c (suc n) = λ k. counted_settles _ c k (on c k) (λ d none shown. count_read_settles on d n)

counting_settles : (on : ℤ → KeyEvent → Option ℤ) (c : ℤ) → Settled (rest_of_count on c)
unfolding rest_of_count
counting_settles on c n = λ none shown. count_read_settles on c n

key_counted_settles : (mode : EditMode) (k : KeyEvent) → Settled (count_and_key mode k)
key_counted_settles mode k = by_option (λ p. Settled p) (rest_of_count (count_with_key mode)) (answer_part (None, k))
    (counting_settles (count_with_key mode)) (answered_settles (None, k)) (count_from_key mode k)

bound_settles : (more : KeyScript Followed) (o : Option Cmd) → Settles true more → Settles true (sequence_or more o)
bound_settles more (Some cmd) h = refl
bound_settles more None h = h

following_settles : (s : Situation) (keys : List KeyEvent) (n : ℕ) → Settles true (sequence_upto s keys n)
following_settles s keys zero = by_test (λ p. Settles true p) _ _ (λ none. absurd none) refl (s.custom.begins keys)
following_settles s keys (suc n) = by_test (λ p. Settles true p) _ _
    (λ k. reply_settles _ (λ o. bound_settles _ o (following_settles s (keys ++ k ∷ []) n)) (sequence_answer s (keys ++ k ∷ []))) refl (s.custom.begins keys)

followed_settles : (s : Situation) (k : KeyEvent) → Settled (key_sequence s k)
unfolding key_sequence rest_of_sequence
followed_settles s k = needing_settles (s.custom.begins (k ∷ [])) (rest_of_sequence s (k ∷ [])) (following_settles s (k ∷ []))

-- ---- both modes

pasted_settles : Settled quote_of_paste
pasted_settles = read_settles Paste (λ text. answer_part (Insert 1 text)) (λ text. answered_settles (Insert 1 text))

quoting_settles : (i : Input) → Settled (quote_part i)
quoting_settles i = by_test (λ p. Settled p) (with_read Key quote_of_key) (answer_part QuotedInsert)
    (read_settles Key quote_of_key (λ k. by_test (λ p. Settled p) quote_of_paste (answer_part (quoted_command k))
    pasted_settles (answered_settles (quoted_command k)) (is_paste_start k)))
    (answered_settles QuotedInsert) (quotes i)

common_done_settles : (s : Situation) (k : KeyEvent) (o : Option CommonAction) → Settled (common_done s k o)
common_done_settles s k (Some (commons.Give cmd)) = answered_settles cmd
common_done_settles s k (Some commons.Paste) = pasted_settles
common_done_settles s k (Some commons.Quote) = quoting_settles s.input
common_done_settles s k None = then_settles _ (λ f i w. answered_settles _) (key_sequence s k) s.input s.shown (followed_settles s k)

common_settles : (s : Situation) (k : KeyEvent) → Settled (common s k)
common_settles s k = common_done_settles s k (common_action s.input.mode s.shown s.n s.positive k)

key_decided_settles : (new : Option ℕ) (s : Situation) (k : KeyEvent) (table : PhrasePart Cmd) → Settled table → Settled (decision_of new s k table)
key_decided_settles new s k table h =
    let other = option_map_or answer_part (terminal_command s.shown k) table in
    let unbound : Settled other = by_option (λ p. Settled p) answer_part table answered_settles h (terminal_command s.shown k) in
    decided_settles (λ bound. option_map_or (λ cmd. anew_or cmd new s.shown cmd) bound other)
    (by_option (λ p. Settled p) (λ cmd. anew_or cmd new s.shown cmd) other (λ cmd. anew_settles cmd cmd new s.shown) unbound) (custom_answer s k)

-- ---- Emacs

after_first_settles : (n : ℕ) (positive : Bool) (f : Followed) → Settled (after_first_key n positive f)
after_first_settles n positive (Bound cmd) = answered_settles cmd
after_first_settles n positive (Unbound (Some k)) = answered_settles (second_command n positive k)
after_first_settles n positive (Unbound None) = key_settles (second_command n positive)

emacs_done_settles : (s : Situation) (k : KeyEvent) (o : Option EmacsAction) → Settled (emacs_done s k o)
emacs_done_settles s k (Some (emacs_actions.Give cmd)) = answered_settles cmd
emacs_done_settles s k (Some (emacs_actions.Seek search)) = key_settles (λ next. move_to_char s.n (search_of search) (char_with none next))
emacs_done_settles s k (Some emacs_actions.LeadOn) =
    then_settles (λ f input shown. after_first_key s.n s.positive f) (λ f i w. after_first_settles s.n s.positive f) (key_sequence s k) s.input s.shown (followed_settles s k)
emacs_done_settles s k None = common_settles s k

emacs_decided_settles : (s : Situation) (k : KeyEvent) → Settled (emacs_decided s k)
emacs_decided_settles s k = key_decided_settles (Some s.n) s k (emacs_command s k) (emacs_done_settles s k (emacs_action s.shown s.n s.positive k))

emacs_settles : (custom : Custom) (i : Input) (w : Shown) (k : KeyEvent) → Settled (emacs_phrase custom i w k)
emacs_settles custom i w k =
    then_settles (λ f j v. emacs_decided (situation custom j v (how_often f.0) (is_plus f.0)) f.1) (λ f j v. emacs_decided_settles (situation custom j v (how_often f.0) (is_plus f.0)) f.1) (count_and_key i.mode k) i w (key_counted_settles i.mode k)

-- ---- Vi

found_settles : (search : Search) (n : ℕ) (i : Input) (o : Option ℕ) → Settled (search_part search n i o)
found_settles search n i (Some char) = becoming_settles _ _ (answered_settles _)
found_settles search n i None = answered_settles None

sought_settles : (search : Search) (n : ℕ) (i : Input) → Settled (search_of_next_key search n i)
sought_settles search n i = read_settles Key (λ k. search_part search n i (char_with none k)) (λ k. found_settles search n i (char_with none k))

motion_settles : (n : ℕ) (i : Input) (o : Option Motion) → Settled (motion_done n i o)
motion_settles n i (Some (Seek search)) = sought_settles search n i
motion_settles n i o = answered_settles _

motion_key_settles : (operator : KeyEvent) (n : ℕ) (i : Input) (w : Shown) (k : KeyEvent) → Settled (motion_after operator n i w k)
motion_key_settles operator n i w k =
    by_test (λ p. Settled p) (answer_part (Some WholeLine)) (and_then i w (count_and_key i.mode k) (λ f j v. motion_by operator (count_times n f.0) j f.1)) (answered_settles (Some WholeLine))
    (then_settles (λ f j v. motion_by operator (count_times n f.0) j f.1)
    (λ f j v. motion_settles (count_times n f.0) j (motion_of (same_key operator (key_with (Char 0x63) none)) (count_times n f.0) f.1)) (count_and_key i.mode k) i w (key_counted_settles i.mode k))
    (same_key k operator)

vi_motion_settles : (operator : KeyEvent) (n : ℕ) (i : Input) (w : Shown) → Settled (vi_motion operator n i w)
vi_motion_settles operator n i w = read_settles Key (motion_after operator n i w) (motion_key_settles operator n i w)

command_done_settles : (new : Option ℕ) (s : Situation) (k : KeyEvent) (o : Option CommandAction) → Settled (command_done new s k o)
command_done_settles new s k (Some (commands.Insert cmd)) = becoming_settles _ _ (shown_settles _ _ (λ w. answered_settles cmd))
command_done_settles new s k (Some (commands.Turn mode cmd)) = becoming_settles _ _ (answered_settles cmd)
command_done_settles new s k (Some (commands.Operate o)) = becoming_settles _ _
    (then_settles (λ m j v. answer_part (option_map_or (command_of o) m Unknown)) (λ m j v. answered_settles (option_map_or (command_of o) m Unknown)) (vi_motion k s.n (insert_mode_if (changes o) s.input) s.shown) (insert_mode_if (changes o) s.input) s.shown
    (vi_motion_settles k s.n (insert_mode_if (changes o) s.input) s.shown))
command_done_settles new s k (Some (commands.Search search)) =
    then_settles (λ m j v. answer_part (option_map_or Move m Unknown)) (λ m j v. answered_settles (option_map_or Move m Unknown)) (search_of_next_key search s.n s.input) s.input s.shown (sought_settles search s.n s.input)
command_done_settles new s k (Some commands.Repeat) = anew_settles Noop s.input.last new s.shown
command_done_settles new s k (Some commands.Replace) = key_settles (key_replacement s.n)
command_done_settles new s k None = common_settles s k
command_done_settles new s k o = answered_settles _

remembering_settles : (is : Bool) (cmd : Cmd) (i : Input) → Settled (remember_if is cmd i)
remembering_settles true cmd i = needing_settles (holds_text cmd) _ (becoming_settles (with_last cmd i) (answer_part cmd) (answered_settles cmd))
remembering_settles false cmd i = answered_settles cmd

counted_command_settles : (custom : Custom) (f : Counted) (i : Input) (w : Shown) → Settled (vi_counted custom f i w)
unfolding vi_counted command_table
counted_command_settles custom f i w =
    let s = situation custom i w (how_often f.0) true in
    key_decided_settles (typed_count f.0) s f.1 (and_then i w (command_table (typed_count f.0) s f.1) change_part)
    (then_settles change_part (λ cmd j v. remembering_settles (flags_of cmd).is_change cmd j) (command_table (typed_count f.0) s f.1) i w
    (command_done_settles (typed_count f.0) s f.1 (action_of i.modal_commands s.n f.1)))

vi_command_settles : (custom : Custom) (k : KeyEvent) (i : Input) (w : Shown) → Settled (vi_command custom k i w)
unfolding vi_command
vi_command_settles custom k i w = then_settles (vi_counted custom) (counted_command_settles custom) (count_and_key i.mode k) i w (key_counted_settles i.mode k)

insert_done_settles : (custom : Custom) (i : Input) (w : Shown) (k : KeyEvent) (o : Option InsertAction) → Settled (insert_done custom i w k o)
insert_done_settles custom i w k (Some (Leave cmd)) = becoming_settles _ _ (shown_settles _ _ (λ v. answered_settles cmd))
insert_done_settles custom i w k (Some (CommandKey char)) = becoming_settles _ _ (shown_settles _ _ (vi_command_settles custom (key_with (Char char) none) (in_mode Command i)))
insert_done_settles custom i w k None = common_settles (situation custom i w 1 true) k
insert_done_settles custom i w k o = answered_settles _

insert_settles : (custom : Custom) (k : KeyEvent) (i : Input) (w : Shown) → Settled (vi_insert custom k i w)
unfolding vi_insert insert_table
insert_settles custom k i w =
    key_decided_settles None (situation custom i w 0 true) k (and_then i w (insert_table custom i w k) insert_part)
    (then_settles insert_part (λ cmd j v. remembering_settles (is_new cmd j) cmd j) (insert_table custom i w k) i w
    (insert_done_settles custom i w k (insert_action i.modal_commands w k)))

-- ---- a phrase

from_settles : (mode : EditMode) (custom : Custom) (i : Input) (w : Shown) (k : KeyEvent) → Settled (phrase_from mode custom i w k)
from_settles Emacs custom i w k = emacs_settles custom i w k
from_settles Vi custom i w k = by_test (λ p. Settled p) (vi_command custom k i w) (vi_insert custom k i w) (vi_command_settles custom k i w) (insert_settles custom k i w) (takes_commands i.input_mode)

pub phrase_settles : (custom : Custom) (i : Input) (w : Shown) → Settled (phrase custom i w)
phrase_settles custom i w = read_settles Key (phrase_from i.mode custom i w) (from_settles i.mode custom i w)
