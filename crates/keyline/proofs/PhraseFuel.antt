-- Scripts that play alike on an input with so many keys and pastes, whatever fuel above that they have: each phrase
-- does.
use Rattle.std.proofs.Common.{◌≡◌, ℕ, zero, suc, ◌≤◌, Bool, true, false, refl, sym, ap, subst, arith, ◌<◌, Option, None, Some, cond, List, [], ◌∷◌, ◌++◌}
use Rattle.script.specs.Scripts.{Script, Ends, Asks, then}
use Rattle.line_keys.specs.KeyFeeds.{InputItem, InputOf, Key}
use Rattle.line_keys.specs.PhraseScripts.{Input, KeyAsk, Reads, KeyScript, PhrasePart, steps, answer_part, needs_if, memory_then, read_upto, with_read, from_key, show_then, keep_then, error_script, reply_script, reply_then, after, input_after_ask, shown_after_ask, and_then, Shows}
use Rattle.line_keys.specs.Refreshing.{Shown, Ask, Prompted}
use Rattle.line_keys.specs.Replies.{Reply}
use Rattle.line_keys.specs.declared.key.KeyEvent.{KeyEvent}
use Rattle.std.specs.Prelude.{ℤ, ⊤}
use Rattle.std.specs.Option.{option_map_or}
use Rattle.line_config.specs.declared.errors.ReadlineError.TheVariants.{Handler}
use Rattle.line_config.specs.declared.settings.EditMode.{EditMode, TheVariants.Emacs, TheVariants.Vi}
use Rattle.line_keys.specs.CustomBindings.{Custom}
use Rattle.line_keys.specs.Common.{common_done}
use Rattle.line_keys.specs.Counts.{count_with_key, rest_of_count, rest_of_count_by, rest_of_count_in, prompt_for, prompting, Counted}
use Rattle.line_keys.specs.declared.keymap.custom.Followed.{Followed, TheVariants.Unbound}
use Rattle.line_keys.specs.CustomKeys.{Situation, sequence_or, key_sequence, rest_of_sequence, sequence_upto, in_vain, sequence_answer}
use Rattle.line_keys.specs.Emacs.{after_first_key, emacs_done}
use Rattle.line_keys.specs.declared.command.Cmd.{Cmd}
use Rattle.line_keys.specs.Keys.{none}
use Rattle.line_keys.specs.declared.keymap.common.CommonAction.{CommonAction, TheVariants.Quote}
use Rattle.line_keys.specs.declared.keymap.emacs.EmacsAction.{EmacsAction, TheVariants.LeadOn}
use Rattle.line_keys.specs.InputStates.{phrase_from}
use Rattle.line_keys.specs.Vi.{command_done, command_table, insert_done, insert_table, remember_if, vi_command, vi_counted, vi_insert}
use Rattle.line_keys.specs.ViMotions.{motion_done, vi_motion, search_part}
use Rattle.line_keys.specs.declared.keymap.vi.motion.Motion.{Motion, TheVariants.Seek}
use Rattle.line_keys.specs.declared.keymap.vi.motion.Search.{Search}
use Rattle.line_keys.specs.declared.keymap.vi.table.ViAction.{ViAction, TheVariants.Operate, TheVariants.Search as Sought}
use Rattle.line_keys.specs.declared.keymap.vi.table.InsertAction.{InsertAction, TheVariants.Command as Leads}
use Rattle.line_editor.specs.NextCommand.{with_group_begun}

-- what follows an ask, by whether it reads: of no item nothing follows
abbrev pub Next : Bool → ℕ → (ℕ → Type 0) → Type 0
Next true zero P = ⊤
Next true (suc j) P = P j
Next false k P = P k

abbrev pub Alike : {A : Type 0} {R : A → Type 0} {X : Type 0} → (A → Bool) → ℕ → Script A R X → Script A R X → Type 0
Alike reads k (Ends x) t = t ≡ Ends x
Alike {A} {R} {X} reads k (Asks ask f) t = (g : R ask → Script A R X) × (t ≡ Asks ask g) × ((x : R ask) → Next (reads ask) k (λ j. Alike reads j (f x) (g x)))

-- a read takes one from the keys and pastes that come
pub next_read : (P : ℕ → Type 0) (k n m : ℕ) → k < suc n → k < suc m → ((j : ℕ) → j < n → j < m → P j) → Next true k P
next_read P zero n m low low' h = tt
next_read P (suc j) n m low low' h = h j (omega arith) (omega arith)

pub next_all : (b : Bool) (k : ℕ) (P : ℕ → Type 0) → ((j : ℕ) → P j) → Next b k P
next_all true zero P h = tt
next_all true (suc j) P h = h j
next_all false k P h = h k

pub next_map : (b : Bool) (k : ℕ) (P Q : ℕ → Type 0) → ((j : ℕ) → j ≤ k → P j → Q j) → Next b k P → Next b k Q
next_map true zero P Q h p = tt
next_map true (suc j) P Q h p = h j (omega arith) p
next_map false k P Q h p = h k (omega arith) p

pub alike_itself : {A : Type 0} {R : A → Type 0} {X : Type 0} (reads : A → Bool) (k : ℕ) (s : Script A R X) → Alike reads k s s
alike_itself reads k (Ends x) = refl
alike_itself {A} {R} {X} reads k (Asks ask f) = (f, refl, λ x. next_all (reads ask) k (λ j. Alike reads j (f x) (f x)) (λ j. alike_itself reads j (f x)))

pub then_alike : {A : Type 0} {R : A → Type 0} {X Y : Type 0} (reads : A → Bool) (k : ℕ) (s t : Script A R X) (next next' : X → Script A R Y)
    → Alike reads k s t → ((j : ℕ) → j ≤ k → (x : X) → Alike reads j (next x) (next' x)) → Alike reads k (then s next) (then t next')
then_alike {A} {R} {X} {Y} reads k (Ends x) t next next' is h = subst (λ (u : Script A R X). Alike reads k (next x) (then u next')) (sym is) (h k (omega arith) x)
then_alike {A} {R} {X} {Y} reads k (Asks ask f) t next next' (g, is, a) h = (
  (λ x. then (g x) next'),
  ap (λ (u : Script A R X). then u next') is,
  λ x. next_map (reads ask) k _ _ (λ j less b. then_alike reads j (f x) (g x) next next' b (λ i low. h i (omega arith))) (a x),
)

-- ---- parts of phrases

abbrev pub is_key_read : KeyAsk → Bool
is_key_read (Reads item) = true
is_key_read ask = false

abbrev pub Plays : {X : Type 0} → ℕ → KeyScript X → KeyScript X → Type 0
Plays = Alike is_key_read

-- its steps play alike by any two amounts of fuel above the keys and pastes to come
pub record Steady {X : Type 0} (p : PhrasePart X) : Type 0 where
  pub plays : (k n m : ℕ) → k < n → k < m → Plays k (steps p n) (steps p m)

s_answered : {X : Type 0} (x : X) → Steady (answer_part x)
unfolding answer_part
s_answered x = record { plays = λ k n m a b. refl }

s_if : {X : Type 0} {p q : PhrasePart X} (b : Bool) → Steady p → Steady q → Steady (cond b p q)
s_if true h g = h
s_if false h g = g

s_option : {X Y : Type 0} {next : X → PhrasePart Y} {other : PhrasePart Y} (o : Option X) → ((x : X) → Steady (next x))
    → Steady other → Steady (option_map_or next o other)
s_option (Some x) h g = h x
s_option None h g = g

needs_alike : {X : Type 0} (b : Bool) (k : ℕ) (s t : KeyScript X) → Plays k s t → Plays k (needs_if b s) (needs_if b t)
needs_alike true k s t h = ((λ none. t), refl, λ x. h)
needs_alike false k s t h = h

s_needing : {X : Type 0} (b : Bool) {p : PhrasePart X} → Steady p → Steady (memory_then b p)
unfolding memory_then
s_needing b {p} h = record { plays = λ k n m low low'. needs_alike b k (steps p n) (steps p m) (h.plays k n m low low') }

reads_alike : {Y : Type 0} (item : InputItem) (next : InputOf item → PhrasePart Y) → ((x : InputOf item) → Steady (next x)) → (k n m : ℕ) → k < n → k < m
    → Plays k (read_upto item next n) (read_upto item next m)
reads_alike item next h k (suc n) (suc m) low low' =
    ((λ x. steps (next x) m), refl, λ x. next_read (λ j. Plays j (steps (next x) n) (steps (next x) m)) k n m low low' (λ j. (h x).plays j n m))
reads_alike item next h k _ _ low low' = absurd (omega arith)

s_with_read : {Y : Type 0} (item : InputItem) {next : InputOf item → PhrasePart Y} → ((x : InputOf item) → Steady (next x)) → Steady (with_read item next)
unfolding with_read
s_with_read item {next} h = record { plays = reads_alike item next h }

s_from_key : {X : Type 0} (f : KeyEvent → X) → Steady (from_key f)
unfolding from_key
s_from_key f = s_with_read Key (λ k. s_answered (f k))

s_asking : {X : Type 0} (ask : Ask) {next : Shown → PhrasePart X} → ((seen : Shown) → Steady (next seen)) → Steady (show_then ask next)
unfolding show_then
s_asking ask {next} h = record { plays = λ k n m low low'. ((λ seen. steps (next seen) m), refl, λ seen. (h seen).plays k n m low low') }

s_becoming : {X : Type 0} (input : Input) {p : PhrasePart X} → Steady p → Steady (keep_then input p)
unfolding keep_then
s_becoming input {p} h = record { plays = λ k n m low low'. ((λ none. steps p m), refl, λ none. h.plays k n m low low') }

decided_alike : {X Y : Type 0} (k : ℕ) (next next' : X → KeyScript Y) (o : Option X) → ((x : X) → Plays k (next x) (next' x)) → Plays k (option_map_or next o (error_script Handler)) (option_map_or next' o (error_script Handler))
decided_alike k next next' (Some x) h = h x
decided_alike k next next' None h = alike_itself is_key_read k (option_map_or next None (error_script Handler))

replied_alike : {X Y : Type 0} (k : ℕ) (next next' : X → KeyScript Y) (reply : Reply X) → ((x : X) → Plays k (next x) (next' x)) → Plays k (reply_script next reply) (reply_script next' reply)
replied_alike k next next' reply h = needs_alike reply.takes k (option_map_or next reply.answer (error_script Handler)) (option_map_or next' reply.answer (error_script Handler)) (decided_alike k next next' reply.answer h)

s_deciding : {X Y : Type 0} {next : X → PhrasePart Y} (reply : Reply X) → ((x : X) → Steady (next x)) → Steady (reply_then next reply)
unfolding reply_then
s_deciding {next} reply h = record { plays = λ k n m low low'. replied_alike k (λ x. steps (next x) n) (λ x. steps (next x) m) reply (λ x. (h x).plays k n m low low') }

pub after_alike : {X Y : Type 0} (k : ℕ) (next next' : X → Input → Shown → KeyScript Y) (input : Input) (shown : Shown) (s t : KeyScript X) → Plays k s t
    → ((j : ℕ) → j ≤ k → (x : X) (i : Input) (seen : Shown) → Plays j (next x i seen) (next' x i seen)) → Plays k (after next input shown s) (after next' input shown t)
after_alike {X} {Y} k next next' input shown (Ends x) t is h = subst (λ (u : KeyScript X). Plays k (next x input shown) (after next' input shown u)) (sym is) (h k (omega arith) x input shown)
after_alike {X} {Y} k next next' input shown (Asks ask f) t (g, is, a) h = (
  (λ x. after next' (input_after_ask ask input) (shown_after_ask ask x shown) (g x)),
  ap (λ (u : KeyScript X). after next' input shown u) is,
  λ x. next_map (is_key_read ask) k _ _
      (λ j less b. after_alike j next next' (input_after_ask ask input) (shown_after_ask ask x shown) (f x) (g x) b (λ i low. h i (omega arith))) (a x),
)

s_and_then : {X Y : Type 0} (input : Input) (shown : Shown) {p : PhrasePart X} {next : X → Input → Shown → PhrasePart Y} → Steady p
    → ((x : X) (i : Input) (seen : Shown) → Steady (next x i seen)) → Steady (and_then input shown p next)
unfolding and_then
s_and_then input shown {p} {next} h g = record {
  plays = λ k n m low low'. after_alike k (λ x i seen. steps (next x i seen) n) (λ x i seen. steps (next x i seen) m) input shown (steps p n) (steps p m) (h.plays k n m low low')
      (λ j less x i seen. (g x i seen).plays j n m (omega arith) (omega arith));
}

-- ---- counts and sequences

abbrev CountingAlike : (ℤ → KeyEvent → Option ℤ) → ℕ → ℕ → Type 0
CountingAlike on n m = (c : ℤ) (j : ℕ) → j < n → j < m → Plays j (rest_of_count_in on c n) (rest_of_count_in on c m)

counted_by : (on : ℤ → KeyEvent → Option ℤ) (n m : ℕ) → CountingAlike on n m → (c : ℤ) (key : KeyEvent) (o : Option ℤ) (j : ℕ) → j < n → j < m
    → Plays j (rest_of_count_by (λ d. prompting d (rest_of_count_in on d n)) c key o) (rest_of_count_by (λ d. prompting d (rest_of_count_in on d m)) c key o)
counted_by on n m h c key (Some d) j low low' = ((λ none. Asks (Shows (Prompted (prompt_for d))) (λ shown. rest_of_count_in on d m)), refl, λ none. ((λ shown. rest_of_count_in on d m), refl, λ shown. h d j low low'))
counted_by on n m h c key None j low low' = alike_itself is_key_read j (rest_of_count_by (λ d. prompting d (rest_of_count_in on d m)) c key None)

counting_alike : (on : ℤ → KeyEvent → Option ℤ) (n m : ℕ) → CountingAlike on n m
counting_alike on (suc n) (suc m) c k low low' =
    let next : ℕ → KeyEvent → KeyScript Counted = λ n key. rest_of_count_by (λ d. prompting d (rest_of_count_in on d n)) c key (on c key) in
    (next m, refl, λ key. next_read (λ j. Plays j (next n key) (next m key)) k n m low low' (counted_by on n m (counting_alike on n m) c key (on c key)))
counting_alike on _ _ c k low low' = absurd (omega arith)

s_counting : (mode : EditMode) (c : ℤ) → Steady (rest_of_count (count_with_key mode) c)
unfolding rest_of_count
s_counting mode c = record {
  plays = λ k n m low low'.
      let on = count_with_key mode in
      ((λ none. Asks (Shows (Prompted (prompt_for c))) (λ shown. rest_of_count_in on c m)), refl, λ none. ((λ shown. rest_of_count_in on c m), refl, λ shown. counting_alike on n m c k low low'));
}

abbrev more_keys : Situation → List KeyEvent → ℕ → KeyEvent → KeyScript Followed
more_keys s keys n key = reply_script (sequence_or (sequence_upto s (keys ++ key ∷ []) n)) (sequence_answer s (keys ++ key ∷ []))

abbrev FollowingAlike : Situation → ℕ → ℕ → Type 0
FollowingAlike s n m = (keys : List KeyEvent) (j : ℕ) → j < n → j < m → Plays j (sequence_upto s keys n) (sequence_upto s keys m)

on_bound : (s : Situation) (n m : ℕ) → FollowingAlike s n m → (keys : List KeyEvent) (j : ℕ) → j < n → j < m → (o : Option Cmd)
    → Plays j (sequence_or (sequence_upto s keys n) o) (sequence_or (sequence_upto s keys m) o)
on_bound s n m h keys j low low' (Some cmd) = refl
on_bound s n m h keys j low low' None = h keys j low low'

read_on : (s : Situation) (n m : ℕ) → FollowingAlike s n m → (keys : List KeyEvent) (k : ℕ) → k < suc n → k < suc m → (b : Bool)
    → Plays k (cond b (Asks (Reads Key) (more_keys s keys n)) (in_vain keys)) (cond b (Asks (Reads Key) (more_keys s keys m)) (in_vain keys))
read_on s n m h keys k low low' true =
    let on = λ (key : KeyEvent) (j : ℕ) (less : j < n) (less' : j < m).
    (let more = keys ++ key ∷ [] in replied_alike j (sequence_or (sequence_upto s more n)) (sequence_or (sequence_upto s more m)) (sequence_answer s more) (on_bound s n m h more j less less')) in
    (more_keys s keys m, refl, λ key. next_read (λ j. Plays j (more_keys s keys n key) (more_keys s keys m key)) k n m low low' (on key))
read_on s n m h keys k low low' false = refl

following_alike : (s : Situation) (n m : ℕ) → FollowingAlike s n m
following_alike s (suc n) (suc m) keys k low low' = read_on s n m (following_alike s n m) keys k low low' (s.custom.begins keys)
following_alike s _ _ keys k low low' = absurd (omega arith)

s_followed : (s : Situation) (key : KeyEvent) → Steady (key_sequence s key)
unfolding key_sequence rest_of_sequence
s_followed s key = s_needing (s.custom.begins (key ∷ [])) (record { plays = λ k n m. following_alike s n m (key ∷ []) k })

-- ---- both modes

ruleset steady = (s_answered, s_if, s_option, s_needing, s_with_read, s_from_key, s_asking, s_becoming, s_deciding, s_and_then, s_counting, s_followed)

s_common_done : (s : Situation) (key : KeyEvent) (a : Option CommonAction) → Steady (common_done s key a)
s_common_done s key (Some Quote) = search steady
s_common_done s key _ = search steady

-- ---- Emacs

s_after_first_key : (n : ℕ) (positive : Bool) (f : Followed) → Steady (after_first_key n positive f)
s_after_first_key n positive (Unbound None) = search steady
s_after_first_key n positive _ = search steady

s_emacs_done : (s : Situation) (key : KeyEvent) (a : Option EmacsAction) → Steady (emacs_done s key a)
s_emacs_done s key (Some LeadOn) = search (steady, s_after_first_key)
s_emacs_done s key None = search (steady, s_common_done)
s_emacs_done s key _ = search steady

-- ---- Vi

s_found : (way : Search) (n : ℕ) (input : Input) (o : Option ℕ) → Steady (search_part way n input o)
s_found way n input None = search steady
s_found way n input _ = search steady

s_motion_done : (n : ℕ) (input : Input) (m : Option Motion) → Steady (motion_done n input m)
s_motion_done n input (Some (Seek way)) = search (steady, s_found)
s_motion_done n input _ = search steady

s_vi_motion : (operator : KeyEvent) (n : ℕ) (input : Input) (shown : Shown) → Steady (vi_motion operator n input shown)
s_vi_motion operator n input shown = search (steady, s_motion_done) depth 7

s_remembering : (b : Bool) (cmd : Cmd) (input : Input) → Steady (remember_if b cmd input)
s_remembering true cmd input = search steady
s_remembering false cmd input = search steady

s_command_done : (new : Option ℕ) (s : Situation) (k : KeyEvent) (a : Option ViAction) → Steady (command_done new s k a)
s_command_done new s k (Some (Operate o)) = search (steady, s_vi_motion)
s_command_done new s k (Some (Sought way)) = search (steady, s_found)
s_command_done new s k None = search (steady, s_common_done)
s_command_done new s k _ = search steady

s_vi_command : (custom : Custom) (k : KeyEvent) (input : Input) (shown : Shown) → Steady (vi_command custom k input shown)
unfolding vi_command vi_counted command_table
s_vi_command custom k input shown = search (steady, s_command_done, s_remembering) depth 8

s_insert_done : (custom : Custom) (input : Input) (shown : Shown) (k : KeyEvent) (a : Option InsertAction) → Steady (insert_done custom input shown k a)
s_insert_done custom input shown k (Some (Leads c)) = search (steady, s_vi_command)
s_insert_done custom input shown k None = search (steady, s_common_done)
s_insert_done custom input shown k _ = search steady

s_vi_insert : (custom : Custom) (k : KeyEvent) (input : Input) (shown : Shown) → Steady (vi_insert custom k input shown)
unfolding vi_insert insert_table
s_vi_insert custom k input shown = search (steady, s_insert_done, s_remembering) depth 7

pub s_phrase_from : (mode : EditMode) (custom : Custom) (input : Input) (shown : Shown) (k : KeyEvent) → Steady (phrase_from mode custom input shown k)
s_phrase_from Emacs custom input shown k = search (steady, s_emacs_done) depth 8
s_phrase_from Vi custom input shown k = search (steady, s_vi_command, s_vi_insert)

pub s_with_group : (cmd : Cmd) (input : Input) (shown : Shown) → Steady (with_group_begun cmd input shown)
s_with_group cmd input shown = search steady
