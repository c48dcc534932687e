-- Calls that make the steps of their definitions: one step in front, one part after another, and where a fault cuts them.
use Rattle.std.proofs.Common.{◌≡◌, ◌<◌, ℕ, zero, suc, arith, inl, inr, Bool, true, false, refl, sym, ap, subst, ◌∙◌, true≢false, IsTrue, le_refl, le_trans}
use Rattle.std.specs.Option.{option_map_or}
use Rattle.std.specs.Prelude.{⊤, ◌⊎◌, Option, Some, None, option_map, Result, Ok, Err, IfErr, IsErrAnd, is_none}
use Rattle.line_config.specs.declared.errors.ReadlineError.{ReadlineError}
use Rattle.line_config.specs.declared.errors.ReadlineError.TheVariants.{Handler, Memory}
use Rattle.line_keys.specs.declared.command.Cmd.{Cmd}
use Rattle.line_keys.specs.declared.key.KeyEvent.{KeyEvent}
use Rattle.line_keys.specs.declared.events.Event.TheVariants.{Any}
use Rattle.line_keys.specs.CustomBindings.{Custom, BindingAnswers, HandlerFails, IsRefusalOf, answer_by, Meaning}
use Rattle.script.specs.Scripts.{Ends, Asks, Goes}
use Rattle.line_keys.specs.Commands.{holds_text, Copied}
use Rattle.line_keys.specs.CustomKeys.{Situation, custom_answer, or_any, handler_arguments_for}
use Rattle.line_keys.specs.Events.{single}
use Rattle.line_keys.specs.KeyFeeds.{IsReaderRefusal, KeyFeed, InputItem, InputOf, Key, item_at, behind, ReadAs, ReadsBy, Coming, key_at, from_key_at, answer_map}
use Rattle.line_keys.specs.Refreshing.{Shown, Ask, KnownDisplay, Draws, IsDrawFault}
use Rattle.line_keys.specs.PhraseScripts.{Input, KeyAsk, Answer, KeyScript, PhrasePart, Needs, Shows, Reads, Becomes, Refuses, Upto, steps, answer_part, memory_then, with_read, from_key, show_then, keep_then, error_script, reply_then, input_after_ask, shown_after_ask, after, and_then}
use Rattle.script.proofs.ScriptLaws.{ok_not_err, value_or, fault_or, err_in}
use Rattle.line_keys.specs.Replies.{Reply, fails, with_memory}
use Rattle.line_keys.specs.InputStates.{Stage, stage, KeyMade, key_world, Happens, Follows, Because, silent}

err_same : {X Y : Type 0} (e f : ReadlineError) → err_in X e ≡ Err f → err_in Y e ≡ Err f
err_same {X} e f is = ap (λ (r : Result X ReadlineError). Err (fault_or Memory r)) is

-- ---- the reason by what failed

because : {S : Type 0} (d : KnownDisplay S) (custom : Custom) (w : S) (f : KeyFeed) (e : ReadlineError)
    → (IsReaderRefusal e × f.reason e) ⊎ (IsDrawFault e × (before : S) × (ask : Ask) × d.refused before ask e w) → Because d custom w f e
because d custom w f Handler (inl why) = absurd why.0
because d custom w f Handler (inr why) = absurd why.0
because d custom w f Memory why = tt
because d custom w f e why = why

reader_because : {S X : Type 0} (d : KnownDisplay S) (custom : Custom) (w : S) (f : KeyFeed) (r : Result X ReadlineError)
    → IfErr r IsReaderRefusal → IfErr r (λ e. f.reason e) → IfErr r (λ e. Because d custom w f e)
reader_because d custom w f (Ok x) is why = tt
reader_because d custom w f (Err e) is why = because d custom w f e (inl (is, why))

silent_because : {S X : Type 0} (d : KnownDisplay S) (custom : Custom) (w : S) (f : KeyFeed) (r : Result X ReadlineError)
    → IfErr r (λ e. Because silent custom tt f e) → IfErr r (λ e. Because d custom w f e)
silent_because d custom w f (Ok x) why = tt
silent_because d custom w f (Err Handler) why = why
silent_because d custom w f (Err Memory) why = tt
silent_because d custom w f (Err e) why = elim why [
  | inl read ↦ inl read
  | inr drawn ↦ absurd drawn.3
]

-- ---- steps by how often they may read

abbrev Goes_by : {S X : Type 0} → KnownDisplay S → KeyScript X → Stage S → Result X ReadlineError → Stage S → Type 0
Goes_by d p s r t = Goes (key_world d) p s r t

-- ---- one part after another

module _ {S : Type 0} (d : KnownDisplay S) where
  -- what is tracked of a stage is what it has
  tracked : (ask : KeyAsk) (x : Answer ask) (s t : Stage S) → KeyMade d s ask x t → (input_after_ask ask s.input ≡ t.input) × (shown_after_ask ask x (d.shown s.wrt) ≡ d.shown t.wrt)
  tracked (Shows ask) x s t made = (ap (λ (u : Stage S). u.input) (sym made.2), made.1)
  tracked (Refuses why) x s t made = absurd made
  tracked ask x s t made = (cc, cc)

  goes_ok : {X Y : Type 0} (next : X → Input → Shown → KeyScript Y) (p : KeyScript X) (x : X) (r : Result Y ReadlineError) (s t u : Stage S)
      → Goes_by d p s (Ok x) t → Goes_by d (next x t.input (d.shown t.wrt)) t r u → Goes_by d (after next s.input (d.shown s.wrt) p) s r u
  goes_ok next (Ends y) x r s t u is later = rw (ap (value_or x) is.0, is.1) at later
  goes_ok next (Asks ask more) x r s t u (inl (y, v, made, goes)) later =
      let is = tracked ask y s v made in
      inl (y, v, made, rw (is.0, is.1) (goes_ok next (more y) x r v t u goes later))
  goes_ok next (Asks ask more) x r s t u (inr (e, cut, is)) later = ok_not_err x e is

  goes_err : {X Y : Type 0} (next : X → Input → Shown → KeyScript Y) (p : KeyScript X) (e : ReadlineError) (i : Input) (a : Shown) (s t : Stage S)
      → Goes_by d p s (Err e) t → Goes_by d (after next i a p) s (Err e) t
  goes_err next (Ends y) e i a s t is = ok_not_err y e (sym is.0)
  goes_err next (Asks ask more) e i a s t (inl (y, v, made, goes)) = inl (y, v, made, goes_err next (more y) e (input_after_ask ask i) (shown_after_ask ask y a) v t goes)
  goes_err next (Asks ask more) e i a s t (inr (f, cut, is)) = inr (f, cut, err_same e f is)

module _ {S X Y : Type 0} (d : KnownDisplay S) (custom : Custom) where
  pub then_stops : (s : PhrasePart X) (next : X → Input → Shown → PhrasePart Y) (w w' : S) (i i' : Input) (f f' : KeyFeed) (e : ReadlineError) → Follows d custom s w i w' i' f f' (Err e)
      → Follows d custom (and_then i (d.shown w) s next) w i w' i' f f' (Err e)
  unfolding Happens and_then
  then_stops s next w w' i i' f f' e follows = record {
    goes = λ told n more.
        goes_err d (λ x j b. steps (next x j b) n) (steps s n) e i (d.shown w) (stage w i f.coming) (stage w' i' f'.coming) (follows.goes told n more);
    told = follows.told;
    keeps = follows.keeps;
    mode = follows.mode;
    reason = follows.reason;
  }

  pub then_follows : (s : PhrasePart X) (next : X → Input → Shown → PhrasePart Y) (x : X) (w w1 w2 : S) (i i1 i2 : Input) (f f1 f2 : KeyFeed) (r : Result Y ReadlineError) → Follows d custom s w i w1 i1 f f1 (Ok x)
      → Follows d custom (next x i1 (d.shown w1)) w1 i1 w2 i2 f1 f2 r → Follows d custom (and_then i (d.shown w) s next) w i w2 i2 f f2 r
  unfolding Happens and_then
  then_follows s next x w w1 w2 i i1 i2 f f1 f2 r first second = record {
    goes = λ told n more.
        goes_ok d (λ x j b. steps (next x j b) n) (steps s n) x r (stage w i f.coming) (stage w1 i1 f1.coming) (stage w2 i2 f2.coming)
        (first.goes (second.told told) n more) (second.goes told n (omega (arith, first.keeps)));
    told = λ told. first.told (second.told told);
    keeps = le_trans second.keeps first.keeps;
    mode = second.mode ∙ first.mode;
    reason = second.reason;
  }

-- ---- steps

module _ {S X : Type 0} {d : KnownDisplay S} {custom : Custom} where
  -- nothing is read
  unread : {s : PhrasePart X} {w w' : S} {i : Input} {f : KeyFeed} {r : Result X ReadlineError}
      → ((n : ℕ) → Goes_by d (steps s n) (stage w i f.coming) r (stage w' i f.coming)) → IfErr r (λ e. Because d custom w' f e) → Follows d custom s w i w' i f f r
  unfolding Happens
  unread goes why = record { goes = λ told n more. goes n; told = λ told. told; keeps = le_refl _; mode = refl; reason = why }

  -- the steps of a part, behind others that read nothing and never change between Emacs and Vi
  behind_steps : {s t : PhrasePart X} {w w1 w' : S} {i j i' : Input} {f f' : KeyFeed} {r : Result X ReadlineError}
      → Follows d custom t w1 j w' i' f f' r → j.mode ≡ i.mode
      → ((n : ℕ) → Goes_by d (steps t n) (stage w1 j f.coming) r (stage w' i' f'.coming) → Goes_by d (steps s n) (stage w i f.coming) r (stage w' i' f'.coming))
      → Follows d custom s w i w' i' f f' r
  unfolding Happens
  behind_steps follows same goes = record {
    goes = λ told n more. goes n (follows.goes told n more);
    told = follows.told;
    keeps = follows.keeps;
    mode = follows.mode ∙ same;
    reason = follows.reason;
  }

  -- memory that is taken on a condition
  pub needing_follows : (b : Bool) {s : PhrasePart X} {w w' : S} {i i' : Input} {f f' : KeyFeed} {r : Result X ReadlineError} → Follows d custom s w i w' i' f f' r
      → Follows d custom (memory_then b s) w i w' i' f f' r
  unfolding memory_then
  needing_follows true follows = behind_steps follows refl (λ n goes. inl (tt, _, refl, goes))
  needing_follows false follows = behind_steps follows refl (λ n goes. goes)

  pub needed_follows : (b : Bool) (s : PhrasePart X) {w : S} {i : Input} {f : KeyFeed} {e : ReadlineError} → e ≡ Memory → IsTrue b → Follows d custom (memory_then b s) w i w i f f (Err e)
  unfolding memory_then
  needed_follows true s is taken = rw is (unread (λ n. inr (Memory, (refl, refl), refl)) tt)
  needed_follows false s is taken = absurd (true≢false (sym taken))

  -- what is kept changes, but never between Emacs and Vi
  pub becomes_follows : {s : PhrasePart X} {w w' : S} {i j i' : Input} {f f' : KeyFeed} {r : Result X ReadlineError} → j.mode ≡ i.mode → Follows d custom s w j w' i' f f' r
      → Follows d custom (keep_then j s) w i w' i' f f' r
  unfolding keep_then
  becomes_follows same follows = behind_steps follows same (λ n goes. inl (tt, _, refl, goes))

module _ {S X : Type 0} (d : KnownDisplay S) (custom : Custom) where
  pub ends_follow : (s : PhrasePart X) (w : S) (i : Input) (f : KeyFeed) (x : X) → s ≡ answer_part x → Follows d custom s w i w i f f (Ok x)
  unfolding answer_part
  ends_follow s w i f x is = rw is (unread (λ n. (refl, refl)) tt)

  pub as_follows : (s t : PhrasePart X) (w w' : S) (i i' : Input) (f f' : KeyFeed) (r : Result X ReadlineError) → Follows d custom t w i w' i' f f' r → s ≡ t → Follows d custom s w i w' i' f f' r
  as_follows s t w w' i i' f f' r follows is = rw is follows

-- an exit by `?` gives the error of the call before it
pub raised : {X : Type 0} (r : Result X ReadlineError) (e : ReadlineError) → IsErrAnd r (λ y. y ≡ e) → r ≡ Err e
raised (Ok x) e is = absurd is
raised (Err y) e is = ap Err is

pub raised_follows : {S X : Type 0} {d : KnownDisplay S} {custom : Custom} {s : PhrasePart X} {w w' : S} {i i' : Input} {f f' : KeyFeed}
    {r : Result X ReadlineError} {e : ReadlineError} → IsErrAnd r (λ y. y ≡ e) → Follows d custom s w i w' i' f f' (Err e) → Follows d custom s w i w' i' f f' r
raised_follows {r = r} {e = e} is follows = rw (raised r e is) follows

-- a part that no display is asked of
module _ {S : Type 0} (d : KnownDisplay S) (w : S) where
  abbrev drawn_on : Stage ⊤ → Stage S
  drawn_on s = stage w s.input s.coming

  silent_goes : {X : Type 0} (p : KeyScript X) (s t : Stage ⊤) (r : Result X ReadlineError) → Goes_by silent p s r t → Goes_by d p (drawn_on s) r (drawn_on t)
  silent_goes (Ends answer) s t r is = (is.0, ap drawn_on is.1)
  silent_goes (Asks Needs more) s t r (inl (x, u, made, goes)) = inl (x, drawn_on u, ap drawn_on made, silent_goes (more x) u t r goes)
  silent_goes (Asks Needs more) s t r (inr (e, cut, is)) = inr (e, (cut.0, ap drawn_on cut.1), is)
  silent_goes (Asks (Shows ask) more) s t r (inl (x, u, made, goes)) = elim made.0 [ ]
  silent_goes (Asks (Shows ask) more) s t r (inr (e, cut, is)) = elim cut.1 [ ]
  silent_goes (Asks (Reads item) more) s t r (inl (x, u, made, goes)) = inl (x, drawn_on u, (made.0, ap drawn_on made.1), silent_goes (more x) u t r goes)
  silent_goes (Asks (Reads item) more) s t r (inr (e, inl cut, is)) = inr (e, inl (cut.0, ap drawn_on cut.1), is)
  silent_goes (Asks (Reads item) more) s t r (inr (e, inr (left, fault, cut), is)) = inr (e, inr (left, fault, ap drawn_on cut), is)
  silent_goes (Asks (Becomes kept) more) s t r (inl (x, u, made, goes)) = inl (x, drawn_on u, ap drawn_on made, silent_goes (more x) u t r goes)
  silent_goes (Asks (Becomes kept) more) s t r (inr (e, cut, is)) = elim cut [ ]
  silent_goes (Asks (Refuses why) more) s t r (inl (x, u, made, goes)) = elim made [ ]
  silent_goes (Asks (Refuses why) more) s t r (inr (e, cut, is)) = inr (e, (cut.0, ap drawn_on cut.1), is)

pub silent_follows : {S X : Type 0} {d : KnownDisplay S} {custom : Custom} {s : PhrasePart X} {w : S} {i i' : Input} {f f' : KeyFeed} {r : Result X ReadlineError}
    → Follows silent custom s tt i tt i' f f' r → Follows d custom s w i w i' f f' r
unfolding Happens
silent_follows {d = d} {custom = custom} {s = s} {w = w} {i = i} {i' = i'} {f = f} {f' = f'} {r = r} quiet = record {
  goes = λ told n more. silent_goes d w (steps s n) (stage tt i f.coming) (stage tt i' f'.coming) r (quiet.goes told n more);
  told = quiet.told;
  keeps = quiet.keeps;
  mode = quiet.mode;
  reason = silent_because d custom w f' r quiet.reason;
}

-- ---- reads

module _ {S Y : Type 0} (d : KnownDisplay S) (item : InputItem) (next : InputOf item → PhrasePart Y) where
  stops_by : (b : ℕ) (w : S) (i : Input) (c c' : Coming) (e : ReadlineError) → ReadAs item (item_at item c) (behind item c) (Err e) c' → (n : ℕ) → b < n
      → Goes_by d (steps (with_read item next) n) (stage w i c) (Err e) (stage w i c')
  unfolding with_read
  stops_by b w i c c' e read zero more = absurd (omega arith)
  stops_by b w i c c' e (inl is) (suc n) more = inr (e, inl (sym is.0, ap (stage w i) is.1), refl)
  stops_by b w i c c' e (inr (f, left, fault, is, rest)) (suc n) more = inr (f, inr (left, fault, ap (stage w i) rest), err_same e f is)

  on_by : (b b1 : ℕ) (w : S) (i : Input) (c c1 : Coming) (t : Stage S) (x : InputOf item) (r : Result Y ReadlineError)
      → ReadAs item (item_at item c) (behind item c) (Ok x) c1 → b1 < b → ((n : ℕ) → b1 < n → Goes_by d (steps (next x) n) (stage w i c1) r t) → (n : ℕ) → b < n
      → Goes_by d (steps (with_read item next) n) (stage w i c) r t
  unfolding with_read
  on_by b b1 w i c c1 t x r read falls later zero more = absurd (omega arith)
  on_by b b1 w i c c1 t x r (inl is) falls later (suc n) more = inl (x, stage w i c1, (sym is.0, ap (stage w i) is.1), later n (omega arith))
  on_by b b1 w i c c1 t x r (inr (f, left, fault, is, rest)) falls later (suc n) more = ok_not_err x f is

module _ {S Y : Type 0} {d : KnownDisplay S} {item : InputItem} (next : InputOf item → PhrasePart Y) where
  pub read_stops : {custom : Custom} {w : S} {i : Input} {f f' : KeyFeed} {e : ReadlineError} → ReadsBy item (item_at item) f f' (Err e) → Follows d custom (with_read item next) w i w i f f' (Err e)
  unfolding Happens
  read_stops {custom} {w} {i} {f} {f'} {e} reads = record {
    goes = λ told. stops_by d item next f.bound w i f.coming f'.coming e (reads.taken told);
    told = reads.some.told;
    keeps = reads.some.keeps;
    mode = refl;
    reason = because d custom w f' e (inl (reads.some.refused, reads.some.reason));
  }

  pub read_follows : {custom : Custom} {x : InputOf item} {w w' : S} {i i' : Input} {f f1 f2 : KeyFeed} {r : Result Y ReadlineError} → ReadsBy item (item_at item) f f1 (Ok x)
      → Follows d custom (next x) w i w' i' f1 f2 r → Follows d custom (with_read item next) w i w' i' f f2 r
  unfolding Happens
  read_follows {x = x} {w = w} {w' = w'} {i = i} {i' = i'} {f = f} {f1 = f1} {f2 = f2} {r = r} first second = record {
    goes = λ told. on_by d item next f.bound f1.bound w i f.coming f1.coming (stage w' i' f2.coming) x r (first.taken (second.told told)) first.some.falls (second.goes told);
    told = λ told. first.some.told (second.told told);
    keeps = le_trans second.keeps first.some.keeps;
    mode = second.mode;
    reason = second.reason;
  }

-- a read that is the whole part
module _ {S X : Type 0} (d : KnownDisplay S) (g : KeyEvent → X) where
  made_by : (q : Result KeyEvent ReadlineError) (w : S) (i : Input) (c c' : Coming) (r : Result X ReadlineError) (n : ℕ) → key_at c ≡ q → r ≡ answer_map g q → c' ≡ behind Key c
      → Goes_by d (steps (from_key g) (suc n)) (stage w i c) r (stage w i c')
  unfolding from_key with_read answer_part
  made_by (Ok k) w i c c' r n is made rest = inl (k, stage w i c', (is, ap (stage w i) rest), (made, refl))
  made_by (Err e) w i c c' r n is made rest = inr (e, inl (is, ap (stage w i) rest), made)

  whole_by : (b : ℕ) (w : S) (i : Input) (c c' : Coming) (r : Result X ReadlineError) → ReadAs Key (from_key_at g c) (behind Key c) r c' → (n : ℕ) → b < n
      → Goes_by d (steps (from_key g) n) (stage w i c) r (stage w i c')
  unfolding from_key with_read
  whole_by b w i c c' r read zero more = absurd (omega arith)
  whole_by b w i c c' r (inl is) (suc n) more = made_by (key_at c) w i c c' r n refl is.0 is.1
  whole_by b w i c c' r (inr (f, left, fault, is, rest)) (suc n) more = inr (f, inr (left, fault, ap (stage w i) rest), is)

pub whole_read : {S X : Type 0} {d : KnownDisplay S} (g : KeyEvent → X) {custom : Custom} {w : S} {i : Input} {f f' : KeyFeed} {r : Result X ReadlineError}
    → ReadsBy Key (from_key_at g) f f' r → Follows d custom (from_key g) w i w i f f' r
unfolding Happens
whole_read {d = d} g {custom} {w} {i} {f} {f'} {r} reads = record {
  goes = λ told. whole_by d g f.bound w i f.coming f'.coming r (reads.taken told);
  told = reads.some.told;
  keeps = reads.some.keeps;
  mode = refl;
  reason = reader_because d custom w f' r reads.some.refused reads.some.reason;
}

-- ---- asks

module _ {S A Y : Type 0} (d : KnownDisplay S) (custom : Custom) (ask : Ask) (next : Shown → PhrasePart Y) where
  pub ask_stops : (w w' : S) (i : Input) (f : KeyFeed) (e : ReadlineError) → Draws {A = A} d ask w w' (Err e) → Follows d custom (show_then ask next) w i w' i f f (Err e)
  unfolding show_then
  ask_stops w w' i f e draws =
      unread (λ n. inr (e, (draws.err.0, draws.err.1, refl), refl)) (because d custom w' f e (inr (draws.err.0, w, ask, draws.err.1)))

  pub ask_follows : (u : A) (w w1 w2 : S) (i i2 : Input) (f f2 : KeyFeed) (r : Result Y ReadlineError) → Draws d ask w w1 (Ok u) → Follows d custom (next (d.shown w1)) w1 i w2 i2 f f2 r
      → Follows d custom (show_then ask next) w i w2 i2 f f2 r
  unfolding show_then
  ask_follows u w w1 w2 i i2 f f2 r first second = behind_steps second refl (λ n goes. inl (d.shown w1, stage w1 i f.coming, (first.ok, refl, refl), goes))

-- ---- what a binding answers

abbrev pub decided : {X Y : Type 0} → (X → PhrasePart Y) → Option X → PhrasePart Y
decided next o = Upto (λ n. option_map_or (λ x. steps (next x) n) o (error_script Handler))

module _ {S X Y : Type 0} {d : KnownDisplay S} {custom : Custom} (next : X → PhrasePart Y) where
  failing : (o : Option X) {w : S} {i : Input} {f : KeyFeed} → IsTrue (is_none o) → HandlerFails custom → Follows d custom (decided next o) w i w i f f (Err Handler)
  failing None is why = unread (λ n. inr (Handler, (refl, refl), refl)) why
  failing (Some x) is why = absurd (true≢false (sym is))

  pub decides_stop : (reply : Reply X) {w : S} {i : Input} {f : KeyFeed} (e : ReadlineError) → (IsTrue (fails reply) → HandlerFails custom) → IsRefusalOf reply e
      → Follows d custom (reply_then next reply) w i w i f f (Err e)
  unfolding memory_then reply_then
  decides_stop reply Handler why is = needing_follows reply.takes (failing reply.answer is (why is))
  decides_stop reply Memory why is = needed_follows reply.takes (decided next reply.answer) refl is
  decides_stop reply _ why is = absurd is

  pub decides_follow : {reply : Reply X} {x : X} {w w' : S} {i i' : Input} {f f' : KeyFeed} {r : Result Y ReadlineError} → BindingAnswers reply (Ok x)
      → Follows d custom (next x) w i w' i' f f' r → Follows d custom (reply_then next reply) w i w' i' f f' r
  unfolding memory_then reply_then
  decides_follow {reply = reply} decides later = rw decides.answer (needing_follows reply.takes later)

-- whose failure it is: of the key's own binding, or of that of any key
fails_any : (s : Situation) (k : KeyEvent) (any : Option Meaning) → s.custom.answers Any ≡ any → IsTrue (fails (answer_by (option_map (λ meaning t. with_memory (meaning t)) any) (handler_arguments_for s (single k)))) → HandlerFails s.custom
fails_any s k (Some meaning) is why = (Any, handler_arguments_for s (single k), subst (λ o. IsTrue (fails (answer_by o (handler_arguments_for s (single k))))) (sym is) why)
fails_any s k None is why = absurd (true≢false (sym why))

fails_by : (s : Situation) (k : KeyEvent) (own : Option Meaning) → s.custom.answers (single k) ≡ own → IsTrue (fails (answer_by (or_any s.custom own) (handler_arguments_for s (single k)))) → HandlerFails s.custom
fails_by s k (Some meaning) is why = (single k, handler_arguments_for s (single k), subst (λ o. IsTrue (fails (answer_by o (handler_arguments_for s (single k))))) (sym is) why)
fails_by s k None is why = fails_any s k (s.custom.answers Any) refl why

pub key_stops : {S Y : Type 0} {d : KnownDisplay S} (s : Situation) (k : KeyEvent) (next : Option Cmd → PhrasePart Y) {w : S} {i : Input} {f : KeyFeed} {e : ReadlineError}
    → BindingAnswers (custom_answer s k) (Err e) → Follows d s.custom (reply_then next (custom_answer s k)) w i w i f f (Err e)
key_stops s k next {e = e} decides = decides_stop next (custom_answer s k) e (fails_by s k (s.custom.answers (single k)) refl) decides.refusal

-- ---- a command that is made of another one

pub granted_follows : {S : Type 0} {d : KnownDisplay S} {custom : Custom} (cmd : Cmd) {w : S} {i : Input} {f : KeyFeed} (r : Result Cmd ReadlineError) → Copied cmd r
    → Follows d custom (memory_then (holds_text cmd) (answer_part cmd)) w i w i f f r
granted_follows cmd (Ok c) copied = needing_follows (holds_text cmd) (ends_follow _ _ _ _ _ _ _ (ap (λ (y : Cmd). answer_part y) (sym copied.ok)))
granted_follows cmd (Err e) copied = needed_follows (holds_text cmd) (answer_part cmd) copied.err.0 copied.err.1
