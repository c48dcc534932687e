-- A pasted text as a phrase: it goes in at the cursor, and with Enter it is accepted.
use Rattle.std.proofs.Common.{◌≡◌, ◌≢◌, ℕ, suc, ◌==◌, Bool, true, false, List, [], ◌∷◌, ◌++◌, Option, None, Some, option_map, Ok, refl, ap, ◌∙◌, ne_eqb, not, length, Result, sym, append-nil, arith, subst, codes}
use Rattle.line_buffer.specs.declared.types.CharSearch.{CharSearch}
use Rattle.line_config.specs.declared.device.Last.{Last, TheVariants.End}
use Rattle.line_config.specs.declared.settings.EditMode.{EditMode, TheVariants.Emacs, TheVariants.Vi}
use Rattle.line_keys.specs.declared.command.Cmd.{Cmd, TheVariants.Insert, TheVariants.AcceptOrInsertLine, TheVariants.Noop}
use Rattle.line_keys.specs.declared.command.InputMode.{InputMode}
use Rattle.line_keys.specs.declared.command.InputMode.TheVariants.{Command, Insert as Inserting, Replace as Overwriting}
use Rattle.line_keys.specs.declared.key.KeyEvent.{KeyEvent}
use Rattle.line_keys.specs.CustomBindings.{Custom, answer_by}
use Rattle.script.specs.Played.{Played, play_with_first_ask}
use Rattle.script.specs.Scripts.{Ends, Asks}
use Rattle.line_config.specs.declared.errors.ReadlineError.{ReadlineError}
use Rattle.std.specs.Option.{option_map_or}
use Rattle.line_keys.specs.Common.{common_action, decision_of, terminal_command}
use Rattle.line_keys.specs.CustomKeys.{Situation, situation, handler_arguments_for, or_any, custom_answer}
use Rattle.line_keys.specs.Emacs.{emacs_action}
use Rattle.line_keys.specs.Events.{single}
use Rattle.line_keys.specs.KeyFeeds.{Key, Paste, Coming, Pressed, Pasted, Ends as NoMore, End as AtItsEnd}
use Rattle.line_keys.specs.Keys.{none, key_with}
use Rattle.line_keys.specs.PhraseScripts.{Input, KeyScript, PhrasePart, steps, Needs, Reads, Becomes, after, answer_part, memory_then, with_read, from_key, show_then, keep_then, reply_then, and_then, anew_or}
use Rattle.line_keys.specs.Refreshing.{Shown}
use Rattle.line_keys.specs.Replies.{gives_at_once, with_memory}
use Rattle.line_keys.specs.Vi.{with_last, command_table, vi_counted, vi_command, insert_table, vi_insert}
use Rattle.line_keys.specs.ViTables.{insert_action, action_of}
use Rattle.line_editor.specs.Drawing.{shown_in, refresh_effect}
use Rattle.line_editor.specs.LineScripts.{turn_start, Keys, LineState, LineAsk, line_state, script_of_keys, phrase_script, played_from, Obeys, left_at, line_plan, line_script, meet_script, turn_script, line_script_after, turns_script}
use Rattle.line_editor.specs.NextCommand.{with_group_begun, ring_after_reset}
use Rattle.line_editor.specs.Values.{Setting, Value, empty_at, first_value, at_line, then_do, memory_effect}
use Rattle.line_screen.specs.KeyGrammar.{coming_of, marker, paste_start, with_newlines}
use Rattle.line_screen.proofs.Pasting.{pasted_text_is_before_its_mark}
use Rattle.keyline.specs.Pasting.{paste_bytes, IsPasteable, IsUnbound, PastedLinesAreAccepted, PastesAreAccepted, PastesGoIn, line_with_paste}
use Rattle.keyline.specs.Sessions.{coming_from, setting_in}
use Rattle.std.proofs.Math.Seq.{take-nil, drop-nil}
use Rattle.std.proofs.lemmas.Bool.Decides.{nat_tests}
use Rattle.line_buffer.specs.Insertions.{with_text_at_cursor}
use Rattle.line_buffer.specs.Line.{Line}
use Rattle.line_buffer.specs.declared.types.Anchor.TheVariants.{Before}
use Rattle.line_buffer.specs.declared.layout.GraphemeClusterMode.TheVariants.{Unicode}
use Rattle.line_config.specs.Config.{default_config}
use Rattle.line_keys.specs.declared.command.CmdKind.{CmdKind, TheVariants.ForcedRefresh}
use Rattle.line_keys.specs.declared.events.Event.TheVariants.{Any}
use Rattle.line_keys.specs.declared.key.KeyCode.TheVariants.{Char, Enter}
use Rattle.line_keys.specs.InputStates.{new_input, phrase_from}
use Rattle.line_record.specs.Ring.{new_ring}
use Rattle.line_editor.specs.Accepting.{accept_or_insert}
use Rattle.line_editor.specs.Commands.{in_vi_command, means_of}
use Rattle.line_editor.specs.Moving.{cursor_moved_if}
use Rattle.line_editor.specs.Modal.{is_at_rest, modal_first}
use Rattle.line_editor.specs.Yanking.{behind_yank, yank_text}
use Rattle.line_editor.specs.declared.commands.Status.{Status, TheVariants.Proceed, TheVariants.Submit}
use Rattle.line_editor.proofs.PastLemmas.{begins_modal, first_rests, plays_past}
use Rattle.line_editor.proofs.ToldLemmas.{follows, joined, joined_on, played_then}
use Rattle.keyline.specs.Program.{nothing_bound}
use Rattle.keyline.specs.declared.session.TheConstants.{KILL_RING_SIZE}

-- ---- what no binding answers, the tables do

-- no binding is for this key
pub record IsFree (custom : Custom) (k : KeyEvent) : Type 0 where
  pub own : custom.answers (single k) ≡ None
  pub any : custom.answers Any ≡ None

unbound_answer : (s : Situation) (k : KeyEvent) → IsFree s.custom k → custom_answer s k ≡ gives_at_once None
unbound_answer s k free =
    ap (λ bound. answer_by (or_any s.custom bound) (handler_arguments_for s (single k))) free.own
    ∙ ap (λ bound. answer_by (option_map (λ meaning s. with_memory (meaning s)) bound) (handler_arguments_for s (single k))) free.any

pub by_the_table : (new : Option ℕ) (s : Situation) (k : KeyEvent) (table : PhrasePart Cmd) (n : ℕ) → IsFree s.custom k → terminal_command s.shown k ≡ None
    → steps (decision_of new s k table) n ≡ steps table n
unfolding reply_then
by_the_table new s k table n free none =
    ap (λ reply. steps (reply_then (λ bound. option_map_or (λ cmd. anew_or cmd new s.shown cmd) bound
    (option_map_or answer_part (terminal_command s.shown k) table)) reply) n) (unbound_answer s k free)
    ∙ ap (λ command. steps (option_map_or answer_part command table) n) none

abbrev pub with_rest : LineState → Coming → LineState
with_rest k c = record k { coming = c }

abbrev pub input_with : EditMode → InputMode → Cmd → Option CharSearch → Bool → Input
input_with mode input_mode last search modal =
    record { mode = mode; input_mode = input_mode; last = last; search = search; modal_commands = modal }

-- ---- a paste

-- in Vi mode it is the last change
abbrev pub kept_after : EditMode → List ℕ → Input → Input
kept_after Emacs text input = input
kept_after Vi text input = with_last (Insert 1 text) input

abbrev pub keeping : EditMode → Input → List ℕ → KeyScript Cmd
keeping Emacs input text = Ends (Insert 1 text)
keeping Vi input text = Asks Needs (λ none. Asks (Becomes (with_last (Insert 1 text) input)) (λ also. Ends (Insert 1 text)))

abbrev pub pasting : EditMode → Input → KeyScript Cmd
pasting mode input = Asks (Reads Paste) (keeping mode input)

pub pastes : (mode : EditMode) (input_mode : InputMode) (custom : Custom) (last : Cmd) (search : Option CharSearch) (modal : Bool) (shown : Shown) (n : ℕ) → IsFree custom paste_start
    → steps (phrase_from mode custom (input_with mode input_mode last search modal) shown paste_start) (suc n) ≡ pasting mode (input_with mode input_mode last search modal)
unfolding answer_part memory_then with_read from_key show_then keep_then reply_then and_then emacs_action common_action action_of insert_action command_table vi_counted vi_command insert_table vi_insert
pastes Emacs input_mode custom last search modal shown n free =
    by_the_table (Some 1) (situation custom (input_with Emacs input_mode last search modal) shown 1 true) paste_start _ (suc n) free refl
pastes Vi Command custom last search modal shown n free =
    by_the_table None (situation custom (input_with Vi Command last search modal) shown 1 true) paste_start _ (suc n) free refl
pastes Vi input_mode custom last search modal shown n free =
    by_the_table None (situation custom (input_with Vi input_mode last search modal) shown 0 true) paste_start _ (suc n) free refl

-- ---- the phrases, played

abbrev pub kept_asks : EditMode → List ℕ → Input → List LineAsk
kept_asks Emacs text input = []
kept_asks Vi text input = Keys Needs ∷ Keys (Becomes (with_last (Insert 1 text) input)) ∷ []

abbrev pub paste_kept : EditMode → List ℕ → LineState → Coming → LineState
paste_kept mode text k rest = line_state k.value (kept_after mode text k.input) k.ring k.modal rest

-- behind its first key
abbrev pub paste_played : EditMode → List ℕ → LineState → Coming → Played LineAsk LineState ReadlineError Cmd
paste_played mode text k rest =
    record { answer = Ok (Insert 1 text); asks = Keys (Reads Paste) ∷ kept_asks mode text k.input; rest = paste_kept mode text k rest }

abbrev pub grouped : ℕ → Cmd → Input → Shown → KeyScript Cmd
grouped n cmd input shown = steps (with_group_begun cmd input shown) n

module _ (s : Setting) where
  abbrev pub behind_key : ℕ → LineState → Coming → KeyScript Cmd → Played LineAsk LineState ReadlineError Cmd
  behind_key n k rest script = play_with_first_ask (Keys (Reads Key)) (played_from s (script_of_keys (after (grouped n) k.input (shown_in k.value) script)) (with_rest k rest))

  plays_keeping : (n : ℕ) (mode : EditMode) (text : List ℕ) (k : LineState) (rest : Coming)
      → (bytes : List ℕ) → behind_key n k (Pasted bytes text rest) (pasting mode k.input) ≡ play_with_first_ask (Keys (Reads Key)) (paste_played mode text k rest)
  unfolding answer_part
  plays_keeping n Emacs text k rest bytes = refl
  plays_keeping n Vi text k rest bytes = refl

  pub plays_paste : (custom : Custom) → IsFree custom paste_start → (n : ℕ) (k : LineState) (before bytes text : List ℕ) (rest : Coming)
      → (let on = with_rest k (Pressed before paste_start (Pasted bytes text rest)) in played_from s (phrase_script (suc (suc n)) custom (turn_start k)) on ≡ play_with_first_ask (Keys (Reads Key)) (paste_played k.input.mode text k rest))
  unfolding and_then with_read
  plays_paste custom free n k before bytes text rest =
      let input = k.input in
      ap (behind_key (suc (suc n)) k (Pasted bytes text rest)) (pastes input.mode input.input_mode custom input.last input.search input.modal_commands (shown_in k.value) n free)
      ∙ plays_keeping (suc (suc n)) input.mode text k rest bytes

-- ---- what the bytes read as

plain_byte : (b : ℕ) (bytes : List ℕ) → (b == 0x0D) ≡ false → with_newlines (b ∷ bytes) ≡ b ∷ with_newlines bytes
plain_byte b bytes is = rw is (rw is refl)

stays : (bytes : List ℕ) → ((before after : List ℕ) → bytes ≢ before ++ 0x0D ∷ after) → with_newlines bytes ≡ bytes
stays [] plain = refl
stays (b ∷ bytes) plain =
    plain_byte b bytes (ne_eqb b 0x0D (λ is. plain [] bytes (ap (λ x. x ∷ bytes) is)))
    ∙ ap (λ t. b ∷ t) (stays bytes (λ before after is. plain (b ∷ before) after (ap (λ t. b ∷ t) is)))

-- the bytes after the mark that begins the paste
abbrev pub behind_start : List ℕ → List ℕ → List ℕ
behind_start text more = text ++ marker ++ more

pub reads_as : (mode : EditMode) (text more : List ℕ) (last : Last) → IsPasteable text
    → coming_from mode (paste_bytes text ++ more) last ≡ Pressed (paste_bytes text ++ more) paste_start (Pasted (behind_start text more) text (coming_from mode more last))
reads_as mode text more last paste =
    ap (coming_of (paste_bytes text ++ more)) (pasted_text_is_before_its_mark mode text more last paste.utf8 paste.no_marker)
    ∙ ap (λ t. Pressed (paste_bytes text ++ more) paste_start (Pasted (behind_start text more) t (coming_from mode more last))) (stays text paste.no_return)

-- ---- Enter

abbrev enter : KeyEvent
enter = key_with Enter none

free_key : (custom : Custom) (k : KeyEvent) → IsUnbound custom → IsFree custom k
free_key custom k free = record { own = free (single k); any = free Any }

enters : (mode : EditMode) (input_mode : InputMode) (custom : Custom) (last : Cmd) (search : Option CharSearch) (modal : Bool) (shown : Shown) (n : ℕ) → IsFree custom enter
    → steps (phrase_from mode custom (input_with mode input_mode last search modal) shown enter) n ≡ Ends (AcceptOrInsertLine true)
unfolding answer_part memory_then with_read from_key show_then keep_then reply_then and_then emacs_action common_action action_of insert_action command_table vi_counted vi_command insert_table vi_insert
enters Emacs input_mode custom last search modal shown n free =
    by_the_table (Some 1) (situation custom (input_with Emacs input_mode last search modal) shown 1 true) enter _ n free refl
enters Vi Command custom last search modal shown n free =
    by_the_table None (situation custom (input_with Vi Command last search modal) shown 1 true) enter _ n free refl
enters Vi input_mode custom last search modal shown n free =
    by_the_table None (situation custom (input_with Vi input_mode last search modal) shown 0 true) enter _ n free refl

-- ---- the text at the cursor

pasted_line : (vi : Bool) (text : List ℕ) (s : Setting) (v : Value) → v.line.growth ≡ true → (yank_text vi text Before 1 s v).value.line ≡ line_with_paste vi text v.line
pasted_line vi [] s v grows = refl
pasted_line vi (x ∷ xs) s v grows =
    let some : (length (x ∷ xs) == 0) ≡ false = grind (arith, nat_tests) in
    let l : Line = record v.line { growth = true } in
    rw (some, grows) (ap (λ added. behind_yank vi (with_text_at_cursor added l)) (append-nil (x ∷ xs)))

-- the step back moves the cursor alone
stepped_text : (vi : Bool) (l : Line) → (behind_yank vi l).text ≡ l.text
stepped_text true l = refl
stepped_text false l = refl

put_into_empty : (vi : Bool) (text : List ℕ) (l : Line) → l.text ≡ [] → (line_with_paste vi text l).text ≡ text
put_into_empty vi [] l empty = empty
put_into_empty vi (x ∷ xs) l empty = stepped_text vi (with_text_at_cursor (x ∷ xs) l) ∙ simp (empty, take-nil, drop-nil, append-nil)

-- the last change has no part in the mode
same_mode : (mode : EditMode) (text : List ℕ) (input : Input) (k : LineState)
    → in_vi_command (means_of (kept_after mode text input) (ring_after_reset (Insert 1 text) k.ring)) ≡ in_vi_command (means_of input k.ring)
same_mode Emacs text input k = refl
same_mode Vi text input k = refl

-- ---- a turn, and the turns after it

-- what is played without its requests
abbrev ending : {X : Type 0} → Played LineAsk LineState ReadlineError X → Result X ReadlineError × LineState
ending p = (p.answer, p.rest)

goes_on : {X Y : Type 0} (next : X → LineState → Played LineAsk LineState ReadlineError Y) (p : Played LineAsk LineState ReadlineError X) (x : X) (k : LineState) → ending p ≡ (Ok x, k)
    → ending (joined next p) ≡ ending (next x k)
goes_on {X} next p x k is = ap (λ (e : Result X ReadlineError × LineState). ending (joined_on next p.asks e.1 e.0)) is

module _ (s : Setting) (custom : Custom) where
  -- its command begins nothing
  turn_ends : (n : ℕ) (k j : LineState) (cmd : Cmd) → is_at_rest j.modal.standing ≡ true → begins_modal cmd ≡ false
      → ending (played_from s (phrase_script (suc n) custom (turn_start k)) k) ≡ (Ok cmd, j)
      → ending (played_from s (turn_script (suc n) custom) k) ≡ ending (played_from s (Asks (Obeys cmd) (λ status. Ends status)) j)
  unfolding turn_script
  turn_ends n k j cmd rests none is =
      ap ending (played_then (line_plan s) meet_script (phrase_script (suc n) custom (turn_start k)) k)
      ∙ goes_on (follows (line_plan s) meet_script) (played_from s (phrase_script (suc n) custom (turn_start k)) k) cmd j is
      ∙ ap ending (plays_past s cmd j rests none)

  turns_end : (n : ℕ) (k j : LineState) (status : Status) → ending (played_from s (turn_script (suc n) custom) k) ≡ (Ok status, j)
      → ending (played_from s (turns_script (suc n) custom) k) ≡ ending (played_from s (line_script_after (turns_script n custom) status) j)
  unfolding turns_script
  turns_end n k j status is =
      let after = line_script_after (turns_script n custom) in
      ap ending (played_then (line_plan s) after (turn_script (suc n) custom) k)
      ∙ goes_on (follows (line_plan s) after) (played_from s (turn_script (suc n) custom) k) status j is

  paste_turn : (n : ℕ) (k : LineState) (text more : List ℕ) (last : Last) → IsFree custom paste_start → is_at_rest k.modal.standing ≡ true → IsPasteable text
      → k.coming ≡ coming_from k.input.mode (paste_bytes text ++ more) last
      → ending (played_from s (turn_script (suc (suc n)) custom) k) ≡ (Ok Proceed, left_at s (paste_kept k.input.mode text k (coming_from k.input.mode more last)) (Obeys (Insert 1 text)))
  paste_turn n k text more last free rests paste comes =
      let left = coming_from k.input.mode more last in
      turn_ends (suc n) k (paste_kept k.input.mode text k left) (Insert 1 text) rests refl
      (ap ending (ap (λ c. played_from s (phrase_script (suc (suc n)) custom (turn_start k)) (with_rest k c)) (comes ∙ reads_as k.input.mode text more last paste)
      ∙ plays_paste s custom free n k (paste_bytes text ++ more) (behind_start text more) text left))

  enter_phrase : (n : ℕ) (k : LineState) (bytes : List ℕ) (rest : Coming) → IsFree custom enter
      → ending (played_from s (phrase_script (suc n) custom (turn_start k)) (with_rest k (Pressed bytes enter rest))) ≡ (Ok (AcceptOrInsertLine true), with_rest k rest)
  unfolding and_then with_read answer_part
  enter_phrase n k bytes rest free =
      let input = k.input in
      ap (λ script. ending (behind_key s (suc n) k rest script)) (enters input.mode input.input_mode custom input.last input.search input.modal_commands (shown_in k.value) n free)

pub pastes_go_in : PastesGoIn
pastes_go_in n s custom k text more last own any grows rests paste comes =
    let is = paste_turn s custom n k text more last (record { own = own; any = any }) rests paste comes in (
      ap (λ e. e.0) is,
      ap (λ e. e.1.coming) is,
      ap (λ e. e.1.value.line) is ∙ pasted_line _ text s k.value grows ∙ ap (λ b. line_with_paste b text k.value.line) (same_mode k.input.mode text k.input k),
    )

-- ---- a whole line

-- the text is accepted, and this remains of the input
abbrev Accepts : Played LineAsk LineState ReadlineError (List ℕ) → List ℕ → Coming → Type 0
Accepts p text rest = (p.answer ≡ Ok text) × (p.rest.coming ≡ rest)

moved_text : (b : Bool) (kind : CmdKind) (l : Line) (s : Setting) (v : Value) → l.text ≡ v.line.text → (cursor_moved_if kind b l s v).value.line.text ≡ v.line.text
moved_text true kind l s v is = is
moved_text false kind l s v is = refl

accepted : (n : ℕ) (s : Setting) (custom : Custom) (k : LineState) (text more : List ℕ) (last : Last) → IsUnbound custom → k.value.line.text ≡ [] → k.value.line.growth ≡ true → is_at_rest k.modal.standing ≡ true → IsPasteable text
    → k.coming ≡ coming_from k.input.mode (paste_bytes text ++ 0x0D ∷ more) last
    → Accepts (played_from (record s { hooks = None }) (turns_script (suc (suc n)) custom) k) text (coming_from k.input.mode more last)
accepted n s custom k text more last free empty grows rests paste comes =
    let bare : Setting = record s { hooks = None } in
    let left = coming_from k.input.mode more last in
    let j = left_at bare (paste_kept k.input.mode text k (coming_from k.input.mode (0x0D ∷ more) last)) (Obeys (Insert 1 text)) in
    let w : Value = (accept_or_insert true bare j.value).value in
    let pastes = paste_turn bare custom n k text (0x0D ∷ more) last (free_key custom paste_start free) rests paste comes in
    let enters = turn_ends bare custom n j (with_rest j left) (AcceptOrInsertLine true) rests refl (enter_phrase bare custom n j (0x0D ∷ more) left (free_key custom enter free)) in
    let is = turns_end bare custom (suc n) k j Proceed pastes ∙ turns_end bare custom n j (left_at bare (with_rest j left) (Obeys (AcceptOrInsertLine true))) Submit enters in (
      ap (λ e. e.0) is ∙ ap Ok (moved_text (not (length w.line.text == w.line.place)) ForcedRefresh (record w.line { place = length w.line.text }) bare w refl
          ∙ ap (λ l. l.text) (pasted_line _ text bare k.value grows)
          ∙ put_into_empty _ text k.value.line empty),
      ap (λ e. e.1.coming) is,
    )

pub pastes_are_accepted : PastesAreAccepted
pastes_are_accepted n s custom k text more last none free empty grows rests paste comes =
    subst (λ hooks. Accepts (played_from (record s { hooks = hooks }) (turns_script (suc (suc n)) custom) k) text (coming_from k.input.mode more last)) (sym none) (accepted n s custom k text more last free empty grows rests paste comes)

pub pasted_lines_are_accepted : PastedLinesAreAccepted
unfolding line_script
pasted_lines_are_accepted n g x text more last none free paste is =
    let s : Setting = setting_in g x.history.kept.entries in
    let e = (then_do memory_effect refresh_effect) s (first_value s) in
    let k = line_state e.value (new_input g.config) x.ring (modal_first g.config x.query) x.coming in
    pastes_are_accepted n s g.custom k text more last none free refl refl (first_rests g.config.modal_commands) paste is

-- ---- worked rows

bytes_of_a_paste : paste_bytes (codes "a") ≡ 0x1B ∷ codes "[200~a" ++ 0x1B ∷ codes "[201~"
bytes_of_a_paste = refl

line_at : List ℕ → ℕ → Line
line_at text place = record { text = text; place = place; growth = true; limit = 4096 }

put_row : line_with_paste false (codes "xy") (line_at (codes "abcd") 2) ≡ line_at (codes "abxycd") 4
unfolding line_at
put_row = refl

nothing_row : line_with_paste true [] (line_at (codes "abcd") 2) ≡ line_at (codes "abcd") 2
unfolding line_at
nothing_row = refl

plain_setting : Setting
plain_setting = record { prompt = []; column = 0; mode = Unicode; tabs = None; hooks = None; marks = None; entries = []; config = default_config }

-- with modal commands or without
before_keys : Bool → Line → InputMode → List ℕ → LineState
before_keys modal line input_mode bytes =
    line_state (at_line line (empty_at 0)) (input_with Vi input_mode Noop None modal) (new_ring KILL_RING_SIZE) (modal_first (record default_config { modal_commands = modal }) []) (coming_from Vi bytes End)

later : Coming
later = Pressed (codes "b") (key_with (Char 0x62) none) (NoMore [] AtItsEnd [])

-- `xy` pasted into ab|cd, with `b` typed after it
turn_row : Played LineAsk LineState ReadlineError Status
turn_row = played_from plain_setting (turn_script 2 nothing_bound) (before_keys true (line_at (codes "abcd") 2) Inserting (paste_bytes (codes "xy") ++ codes "b"))

goes_in_row : (turn_row.answer ≡ Ok Proceed) × (turn_row.rest.coming ≡ later) × (turn_row.rest.value.line ≡ line_at (codes "abxycd") 4)
unfolding turn_script answer_part memory_then with_read from_key show_then keep_then reply_then and_then common_action insert_action insert_table vi_insert line_at plain_setting before_keys turn_row later lib.Utf8.encode
goes_in_row = (refl, refl, refl)

pasted_in : InputMode → List ℕ → Played LineAsk LineState ReadlineError (List ℕ)
pasted_in input_mode text = played_from plain_setting (turns_script 2 nothing_bound) (before_keys false (line_at [] 0) input_mode (paste_bytes text ++ 0x0D ∷ codes "b"))

pasted_row : Accepts (pasted_in Inserting (codes "a")) (codes "a") later
unfolding turns_script turn_script answer_part memory_then with_read from_key show_then keep_then reply_then and_then common_action insert_action insert_table vi_insert pasted_in line_at plain_setting before_keys later lib.Utf8.encode
pasted_row = (refl, refl)

empty_row : Accepts (pasted_in Command []) [] later
unfolding turns_script turn_script answer_part memory_then with_read from_key show_then keep_then reply_then and_then common_action action_of command_table vi_counted vi_command pasted_in line_at plain_setting before_keys later lib.Utf8.encode
empty_row = (refl, refl)

-- a CR is a newline
return_row : Accepts (pasted_in Overwriting (0x0D ∷ [])) (0x0A ∷ []) later
unfolding turns_script turn_script answer_part memory_then with_read from_key show_then keep_then reply_then and_then common_action insert_action insert_table vi_insert pasted_in line_at plain_setting before_keys later lib.Utf8.encode
return_row = (refl, refl)
