-- Several changes undone or redone, one after the other.
use Rattle.std.proofs.Common.{◌≡◌, ℕ, zero, suc, ◌+◌, ◌<◌, List, [], ◌∷◌, ◌++◌, length, take, drop, map, reverse, refl, sym, ap, subst, ◌∙◌, arith, get_or, add-one, append_assoc, drop-cons}
use Rattle.std.proofs.Math.Seq.{take-append_seam, drop-append_seam, take-suc}
use Rattle.std.proofs.lemmas.List.{reverse-append, take-append-drop, drop-map, map-append, length-map, get_or-map}
use Rattle.std.proofs.lemmas.Grind.{fold-append}
use Rattle.line_buffer.specs.Line.{Line}
use Rattle.line_record.specs.Change.{Change, all_taken_back, all_made_anew, AllStandIn, AllFitIn, StandsIn, FitsIn, newest_of}
use Rattle.line_record.specs.Held.{HeldItem, step_of, change_of, join_of, join_of_steps, HeldItem.Stepped}
use Rattle.line_record.specs.Items.{Items, lines_back, lines_ahead, line_after_undo, line_after_redo}
use Rattle.line_record.specs.Items.Item.{Open}
use Rattle.line_buffer.specs.Event.{ChangeEvent}
use Rattle.std.specs.Prelude.{◌-◌, Option, Some, None, true, option_map, unwrap_or}
use Rattle.std.specs.Option.{option_map_or}

-- the record of texts after an event of a change, and of one that may have none
abbrev pub steps_with_change : ChangeEvent → Change → List ℕ → List HeldItem → List HeldItem
steps_with_change e c text held = unwrap_or (join_of_steps e held) (step_of c text ∷ held)

abbrev pub steps_with_change_if : ChangeEvent → Option Change → List ℕ → List HeldItem → List HeldItem
steps_with_change_if e o text held = option_map_or (λ c. steps_with_change e c text held) o held

-- what holds of the record after an event: the event tells of no change, it adds a step, or its change is joined to the newest step
module _ (e : ChangeEvent) (text : List ℕ) (P : List HeldItem → Type 0) where
  joined_by : (o : Option Change) (held : List HeldItem) (f : Change → List HeldItem) → P held → ((j : Change) → P (f j)) → P (unwrap_or (option_map f o) held)
  joined_by None held f added joined = added
  joined_by (Some j) held f added joined = joined j

  stepped_by : (c : Change) (held : List HeldItem) → P (step_of c text ∷ held)
      → ((j d : Change) (earlier : List ℕ) (place : ℕ) (older : List HeldItem) → held ≡ Stepped earlier place d true ∷ older → P (step_of j earlier ∷ older))
      → P (steps_with_change e c text held)
  stepped_by c (Stepped earlier place d true ∷ older) added joined =
      joined_by (join_of e d) (step_of c text ∷ (Stepped earlier place d true ∷ older)) (λ j. step_of j earlier ∷ older) added
      (λ j. joined j d earlier place older refl)
  stepped_by c _ added joined = added

  pub recorded_by : (o : Option Change) (held : List HeldItem) → change_of e ≡ o → (change_of e ≡ None → P held) → ((c : Change) → P (step_of c text ∷ held))
      → ((j d : Change) (earlier : List ℕ) (place : ℕ) (older : List HeldItem) → held ≡ Stepped earlier place d true ∷ older → P (step_of j earlier ∷ older))
      → P (steps_with_change_if e o text held)
  recorded_by None held is none added joined = none is
  recorded_by (Some c) held is none added joined = stepped_by c held (added c) joined

-- a mark set, and the first items kept
abbrev pub items_with_mark : Items → Items
items_with_mark s = record { done = Open ∷ s.done; undone = [] }

abbrev pub first_items : ℕ → Items → Items
first_items n s = record { done = drop (length s.done - n) s.done; undone = [] }

-- one item more of the first, from the last one on
pub reverse_more : {A : Type 0} (xs : List A) (i : ℕ) (d : A) → i < length xs → reverse (take (suc i) xs) ≡ get_or xs i d ∷ reverse (take i xs)
reverse_more xs i d h = ap reverse (take-suc xs i d h) ∙ reverse-append (take i xs) (get_or xs i d ∷ [])

pub newest_of-append : (g c : Change) (gs cs : List Change) → newest_of g (gs ++ (c ∷ cs)) ≡ newest_of c cs
newest_of-append g c gs cs = fold-append (λ d newer. newer) g gs (c ∷ cs)

pub lines_back_text : (cs : List Change) (l : Line) → (lines_back cs l).text ≡ all_taken_back cs l.text
lines_back_text [] l = refl
lines_back_text (c ∷ cs) l = ap (λ t. (line_after_undo c (record l { text = t })).text) (lines_back_text cs l)

pub lines_ahead_text : (cs : List Change) (l : Line) → (lines_ahead cs l).text ≡ all_made_anew cs l.text
lines_ahead_text [] l = refl
lines_ahead_text (c ∷ cs) l = lines_ahead_text cs (line_after_redo c l)

-- of a line except its place
pub lines_back_but_place : (cs : List Change) (l : Line) (p : ℕ) → record (lines_back cs l) { place = p } ≡ record l { text = all_taken_back cs l.text; place = p }
lines_back_but_place [] l p = refl
lines_back_but_place (c ∷ cs) l p = ap (λ m. record (line_after_undo c m) { place = p }) (lines_back_but_place cs l p)

pub AllStandIn-drop : (n : ℕ) (cs : List Change) (text : List ℕ) → AllStandIn cs text → AllStandIn (drop n cs) text
AllStandIn-drop zero cs text h = h
AllStandIn-drop (suc n) [] text h = h
AllStandIn-drop (suc n) (c ∷ cs) text h = AllStandIn-drop n cs text h.1

-- the newest of the changes that are left is undone
pub record BackTurn {A : Type 0} (f : A → Change) (xs earlier : List A) (x : A) (first l : Line) : Type 0 where
  pub stands : StandsIn (f x) l.text
  pub left : earlier ≡ take (length earlier) xs
  pub line : line_after_undo (f x) l ≡ lines_back (drop (length earlier) (map f xs)) first

pub back_turn : {A : Type 0} (f : A → Change) (xs left earlier : List A) (x : A) (first l : Line) → left ≡ take (length left) xs → left ≡ earlier ++ (x ∷ [])
    → l ≡ lines_back (drop (length left) (map f xs)) first → AllStandIn (map f xs) first.text → BackTurn f xs earlier x first l
back_turn f xs left earlier x first l is cases line stand =
    let rest = drop (length left) xs in
    let whole : xs ≡ earlier ++ (x ∷ rest) =
    sym (take-append-drop (length left) xs) ∙ ap (λ ys. ys ++ rest) (sym is ∙ cases) ∙ append_assoc earlier (x ∷ []) rest in
    let mapped : map f xs ≡ map f earlier ++ (f x ∷ map f rest) = ap (map f) whole ∙ map-append f earlier (x ∷ rest) in
    let behind : drop (length left) (map f xs) ≡ map f rest = drop-map f (length left) xs in
    let from : drop (length earlier) (map f xs) ≡ f x ∷ map f rest =
    ap (λ k. drop k (map f xs)) (sym (length-map earlier f)) ∙ ap (drop (length (map f earlier))) mapped ∙ drop-append_seam (map f earlier) (f x ∷ map f rest) in
    let here : l ≡ lines_back (map f rest) first = line ∙ ap (λ cs. lines_back cs first) behind in
    record {
      stands = subst (StandsIn (f x)) (sym (ap (λ m. m.text) here ∙ lines_back_text (map f rest) first))
          (subst (λ cs. AllStandIn cs first.text) from (AllStandIn-drop (length earlier) (map f xs) first.text stand)).0;
      left = sym (ap (take (length earlier)) whole ∙ take-append_seam earlier (x ∷ rest));
      line = ap (line_after_undo (f x)) here ∙ sym (ap (λ cs. lines_back cs first) from);
    }

-- the oldest of the changes that are left is redone
pub record AheadTurn {A : Type 0} (f : A → Change) (xs : List A) (i : ℕ) (x : A) (first l : Line) : Type 0 where
  pub fits : FitsIn (f x) l.text
  pub line : line_after_redo (f x) l ≡ lines_ahead (take (i + 1) (map f xs)) first
  pub fit : (after : Line) → after ≡ line_after_redo (f x) l → AllFitIn (drop (i + 1) (map f xs)) after.text

pub ahead_turn : {A : Type 0} (f : A → Change) (xs : List A) (i : ℕ) (x : A) (first l : Line) → i < length xs → x ≡ get_or xs i x
    → l ≡ lines_ahead (take i (map f xs)) first → AllFitIn (drop i (map f xs)) l.text → AheadTurn f xs i x first l
ahead_turn f xs i x first l inside is line fit =
    let within : i < length (map f xs) = omega (arith, length-map xs f) in
    let item : get_or (map f xs) i (f x) ≡ f x = get_or-map f xs i x (f x) inside ∙ ap f (sym is) in
    let from : drop i (map f xs) ≡ f x ∷ drop (i + 1) (map f xs) =
    drop-cons (map f xs) i (f x) within ∙ ap (λ y. y ∷ drop (suc i) (map f xs)) item ∙ ap (λ k. f x ∷ drop k (map f xs)) (sym (add-one i)) in
    let upto : take (i + 1) (map f xs) ≡ take i (map f xs) ++ (f x ∷ []) =
    ap (λ k. take k (map f xs)) (add-one i) ∙ take-suc (map f xs) i (f x) within ∙ ap (λ y. take i (map f xs) ++ (y ∷ [])) item in
    let both = subst (λ cs. AllFitIn cs l.text) from fit in
    record {
      fits = both.0;
      line = ap (line_after_redo (f x)) line ∙ sym (fold-append (λ m c. line_after_redo c m) first (take i (map f xs)) (f x ∷ []))
          ∙ sym (ap (λ cs. lines_ahead cs first) upto);
      fit = λ after e. subst (λ (m : Line). AllFitIn (drop (i + 1) (map f xs)) m.text) (sym e) both.1;
    }
