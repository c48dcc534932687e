-- Reads with something made of the key that they give.
use Rattle.std.proofs.Common.{◌≡◌, inl, inr, refl, ap, ◌∙◌}
use Rattle.std.specs.Prelude.{Result, Ok, Err}
use Rattle.line_config.specs.declared.errors.ReadlineError.{ReadlineError}
use Rattle.line_keys.specs.declared.key.KeyEvent.{KeyEvent}
use Rattle.line_keys.specs.declared.tty.Event.{Event, TheVariants.KeyPress}
use Rattle.line_keys.specs.KeyFeeds.{KeyFeed, InputItem, Key, behind, ReadAs, ReadsBy, SomeRead, Coming, key_at, from_key_at, answer_map}

abbrev of_press : Result Event ReadlineError → Result KeyEvent ReadlineError
of_press (Ok (KeyPress k)) = Ok k
of_press (Err e) = Err e

press_of : (r : Result KeyEvent ReadlineError) → of_press (answer_map KeyPress r) ≡ r
press_of (Ok k) = refl
press_of (Err e) = refl

made_as : {X Y : Type 0} (g : X → Y) (item : InputItem) (given result : Result X ReadlineError) (rest c : Coming)
    → ReadAs item given rest result c → ReadAs item (answer_map g given) rest (answer_map g result) c
made_as g item given result rest c (inl is) = inl (ap (answer_map g) is.0, is.1)
made_as g item given result rest c (inr (e, left, fault, is, final)) = inr (e, left, fault, ap (answer_map g) is, final)

press_as : (given : Result KeyEvent ReadlineError) (result : Result Event ReadlineError) (rest c : Coming)
    → ReadAs Key (answer_map KeyPress given) rest result c → ReadAs Key given rest (of_press result) c
press_as given result rest c (inl is) = inl (ap of_press is.0 ∙ press_of given, is.1)
press_as given result rest c (inr (e, left, fault, is, final)) = inr (e, left, fault, ap of_press is, final)

module _ {X Y : Type 0} {f f' : KeyFeed} where
  given_some : (x : X) (y : Y) → SomeRead f f' (Ok x) → SomeRead f f' (Ok y)
  given_some x y some = record { told = some.told; keeps = some.keeps; falls = some.falls; refused = tt; reason = tt }

  refused_some : (e : ReadlineError) → SomeRead {X = X} f f' (Err e) → SomeRead {X = Y} f f' (Err e)
  refused_some e some = record { told = some.told; keeps = some.keeps; falls = tt; refused = some.refused; reason = some.reason }

-- a read with another answer, from the same front of the input
remade : {X Y : Type 0} {at : Coming → Result X ReadlineError} {at' : Coming → Result Y ReadlineError} (f f' : KeyFeed)
    (r : Result X ReadlineError) (r' : Result Y ReadlineError) → SomeRead f f' r'
    → (ReadAs Key (at f.coming) (behind Key f.coming) r f'.coming → ReadAs Key (at' f.coming) (behind Key f.coming) r' f'.coming)
    → ReadsBy Key at f f' r → ReadsBy Key at' f f' r'
remade f f' r r' some again reads = record { some = some; taken = λ told. again (reads.taken told) }

module _ {X : Type 0} (g : KeyEvent → X) (f f' : KeyFeed) where
  pub made_of_read : (k : KeyEvent) → ReadsBy Key key_at f f' (Ok k) → ReadsBy Key (from_key_at g) f f' (Ok (g k))
  made_of_read k reads = remade f f' (Ok k) (Ok (g k)) (given_some k (g k) reads.some) (made_as g Key (key_at f.coming) (Ok k) (behind Key f.coming) f'.coming) reads

  pub not_made : (e : ReadlineError) → ReadsBy Key key_at f f' (Err e) → ReadsBy Key (from_key_at g) f f' (Err e)
  not_made e reads = remade f f' (Err e) (Err e) (refused_some e reads.some) (made_as g Key (key_at f.coming) (Err e) (behind Key f.coming) f'.coming) reads

module _ (f f' : KeyFeed) where
  pub key_of_press : (k : KeyEvent) → ReadsBy Key (from_key_at KeyPress) f f' (Ok (KeyPress k)) → ReadsBy Key key_at f f' (Ok k)
  key_of_press k reads =
      remade f f' (Ok (KeyPress k)) (Ok k) (given_some (KeyPress k) k reads.some) (press_as (key_at f.coming) (Ok (KeyPress k)) (behind Key f.coming) f'.coming) reads

  pub no_press : (e : ReadlineError) → ReadsBy Key (from_key_at KeyPress) f f' (Err e) → ReadsBy Key key_at f f' (Err e)
  no_press e reads = remade f f' (Err e) (Err e) (refused_some e reads.some) (press_as (key_at f.coming) (Err e) (behind Key f.coming) f'.coming) reads
