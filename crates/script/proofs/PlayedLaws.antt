-- What goes in a world that answers as its input says is what is played on it, or the first of it.
use Rattle.std.proofs.Common.{◌≡◌, inl, inr, List, [], ◌∷◌, refl, sym, ap, subst, ◌∙◌}
use Rattle.std.specs.Prelude.{Result, Ok, Err}
use Rattle.script.specs.Scripts.{Script, Ends, Asks, World, Goes}
use Rattle.script.specs.Played.{Plan, Played, play_after_answer, play_of, Plays, Whole, Cut}
use Rattle.script.proofs.ScriptLaws.{ok_not_err, value_or, fault_or}

-- an ask comes first, whether the input answers it or fails it
some_follow : {A B C E X : Type 0} (next : B → Played A C E X) (ask : A) (c : C) (r : Result B E) → (others : List A) × ((play_after_answer next ask c r).asks ≡ ask ∷ others)
some_follow next ask c (Ok x) = ((next x).asks, refl)
some_follow next ask c (Err e) = ([], refl)

module _ {A : Type 0} {R : A → Type 0} {S C E F : Type 0} (plan : Plan A R C E) (coming : S → C) (w : World A R S F) (plays : Plays plan coming w) where
  -- what follows an ask that was made
  onward : {X : Type 0} (ask : A) (later : R ask → Script A R X) (x : R ask) (s u : S) → w.made s ask x u
      → (let p = play_of plan (later x) (coming u) in record p { asks = ask ∷ p.asks }) ≡ play_of plan (Asks ask later) (coming s)
  onward {X} ask later x s u made =
      let left : coming u ≡ plan.left (coming s) ask = plays.leaves s u ask x made in
      let next : R ask → Played A C E X = λ y. play_of plan (later y) (plan.left (coming s) ask) in
      ap (λ c. let p = play_of plan (later x) c in record p { asks = ask ∷ p.asks }) left
      ∙ ap (play_after_answer next ask (plan.left (coming s) ask)) (sym (plays.answers s u ask x made))

  pub whole : {X : Type 0} (p : Script A R X) (x : X) (s t : S) → Goes w p s (Ok x) t → Whole coming w (play_of plan p (coming s)) x s t
  whole (Ends y) x s t is = record { answer_is = ap Ok (sym (ap (value_or x) is.0)); rest_is = ap coming is.1; made = is.1 }
  whole {X} (Asks ask later) x s t (inl (y, u, made, goes)) =
      let rest = whole (later y) x u t goes in
      subst (λ (q : Played A C E X). Whole coming w q x s t) (onward ask later y s u made)
      (record { answer_is = rest.answer_is; rest_is = rest.rest_is; made = (y, u, made, rest.made) })
  whole (Asks ask later) x s t (inr (e, cut, is)) = ok_not_err x e is

  pub cut_first : {X : Type 0} (p : Script A R X) (e : F) (s t : S) → Goes w p s (Err e) t → Cut w (play_of plan p (coming s)) e s t
  cut_first (Ends y) e s t is = ok_not_err y e (sym is.0)
  cut_first {X} (Asks ask later) e s t (inl (y, u, made, goes)) =
      let rest = cut_first (later y) e u t goes in
      subst (λ (q : Played A C E X). Cut w q e s t) (onward ask later y s u made) (record {
        done = ask ∷ rest.done;
        ask = rest.ask;
        others = rest.others;
        at = rest.at;
        first = ap (λ (l : List A). ask ∷ l) rest.first;
        made = (y, u, made, rest.made);
        cut = rest.cut;
      })
  cut_first {X} (Asks ask later) e s t (inr (f, cut, is)) =
      let left = plan.left (coming s) ask in
      let follow = some_follow (λ x. play_of plan (later x) left) ask left (plan.answer (coming s) ask) in
      record {
        done = [];
        ask = ask;
        others = follow.0;
        at = s;
        first = follow.1;
        made = refl;
        cut = subst (λ (g : F). w.cut s ask g t) (sym (ap (fault_or e) is)) cut;
      }
