-- What a log holds where changes are cut off, and one more is put in.
use Rattle.std.proofs.Common.{◌≡◌, ℕ, zero, suc, ◌+◌, ◌-◌, ◌<◌, ◌≤◌, List, [], ◌∷◌, ◌++◌, length, take, drop, map, refl, sym, ap, ap₂, subst, ◌∙◌, arith, get_or, append_assoc, Bool, true, false, if◌then◌else◌, All, Option, Some, None, option_map, slice_range, IsUtf8, IsCharBoundary}
use Rattle.std.proofs.Math.Seq.{take-length}
use Rattle.std.proofs.lemmas.List.{take-take, take_at, drop_at, take-map, drop-map, get_or-map, get_or_push, get_or_default, length_push, length-map, length-append, length-take, length-take-le}
use Rattle.std.proofs.lemmas.List.Elements.{All-take, All-drop}
use Rattle.std.proofs.lemmas.Str.{IsUtf8-append, IsUtf8-between, IsCharBoundary-from_take}
use Rattle.unicode_segmentation.proofs.TextLemmas.{take_split, length-slice_range}
use Rattle.line_buffer.specs.Event.{ChangeEvent}
use Rattle.line_record.specs.declared.entry.LoggedChange.{LoggedChange}
use Rattle.line_record.specs.declared.entry.Kind.{Kind, TheVariants.Insertion, TheVariants.Deletion, TheVariants.Replacement}
use Rattle.line_record.specs.Change.{Change, old_text_of, new_text_of, AllFitIn}
use Rattle.line_record.specs.Held.{join_of}
use Rattle.line_buffer.specs.Line.{Line}
use Rattle.line_record.specs.Items.{lines_ahead}
use Rattle.line_record.proofs.StepLemmas.{ahead_turn, AheadTurn}
use Rattle.line_record.specs.Log.{edit_from, edit_in, edits_in, Spelt, IsLog, old_text_with, change_with_text, join_at, change_told}
use Rattle.line_record.proofs.SpanLemmas.{take_lower, slice_same, adjoin_at, place_le, place_fits, SpansAre, spans_cut, span_pushed, place_of_span}

abbrev from_of : LoggedChange → ℕ
from_of x = x.start

abbrev to_of : LoggedChange → ℕ
to_of x = x.end

pub spelt_kept : (x : LoggedChange) (xs ys : List ℕ) → x.start ≤ x.end → take x.end xs ≡ take x.end ys → Spelt xs x → Spelt ys x
spelt_kept x xs ys le e h = record {
  removed = h.removed;
  added = h.added;
  inside = omega (arith, length-take-le x.end xs h.inside, ap length e, length-take x.end ys);
  before = subst IsUtf8 (take_lower x.start x.end xs ys le e) h.before;
  between = subst IsUtf8 (take_lower x.middle x.end xs ys h.added e) h.between;
  after = subst IsUtf8 e h.after;
}

pub edit_kept : (x : LoggedChange) (xs ys : List ℕ) → x.start ≤ x.end → take x.end xs ≡ take x.end ys → Spelt xs x → edit_in ys x ≡ edit_in xs x
edit_kept x xs ys le e h =
    ap (λ r. edit_from x.kind x.at r (slice_range ys x.middle x.end)) (sym (slice_same x.start x.middle xs ys h.removed (take_lower x.middle x.end xs ys h.added e)))
    ∙ ap (λ a. edit_from x.kind x.at (slice_range xs x.start x.middle) a) (sym (slice_same x.middle x.end xs ys h.added e))

pub utf8_upto : (text : List ℕ) (entries : List LoggedChange) (n : ℕ) → IsUtf8 text → IsLog text entries → IsUtf8 (take (place_of_span from_of entries n (length text)) text)
utf8_upto text entries n u h =
    place_fits from_of to_of Spelt (λ k. IsUtf8 (take k text)) text (λ s f. f.before) n entries 0 (length text) (subst IsUtf8 (sym (take-length text)) u) h

pub place_between : (text : List ℕ) (entries : List LoggedChange) (n place : ℕ) → IsUtf8 text → IsLog text entries → place ≡ place_of_span from_of entries n (length text) → IsCharBoundary text place
place_between text entries n place u h is =
    subst (IsCharBoundary text) (sym is)
    (IsCharBoundary-from_take text (place_of_span from_of entries n (length text)) u (place_le from_of to_of Spelt n text entries 0 (length text) h) (utf8_upto text entries n u h))

-- entries of a text, and the changes that they are
abbrev pub LogIs : List ℕ → List LoggedChange → List Change → Type 0
LogIs text entries edits = SpansAre from_of to_of Spelt edit_in text entries (length text) edits

-- cut off
pub log_cut : (text after : List ℕ) (entries left : List LoggedChange) (n place : ℕ) → IsLog text entries → place ≡ place_of_span from_of entries n (length text) → after ≡ take place text → left ≡ take n entries
    → LogIs after left (take n (edits_in text entries))
log_cut text after entries left n place h is = spans_cut from_of to_of Spelt edit_in spelt_kept edit_kept text after entries n place h is left

-- an entry by the texts that stand there
pub record Placed (text removed added : List ℕ) (x : LoggedChange) : Type 0 where
  pub spelt : Spelt text x
  pub edit : edit_in text x ≡ edit_from x.kind x.at removed added

pub placed : (text front removed added : List ℕ) (x : LoggedChange) → text ≡ front ++ (removed ++ added) → x.start ≡ length front → x.middle ≡ length front + length removed → x.end ≡ length text
    → IsUtf8 front → IsUtf8 removed → IsUtf8 added → Placed text removed added x
placed text front removed added x whole start middle end f r a =
    let joined : text ≡ (front ++ removed) ++ added = whole ∙ sym (append_assoc front removed added) in
    let count : length (front ++ removed) ≡ x.middle = length-append front removed ∙ sym middle in
    let all : length text ≡ length front + (length removed + length added) = ap length whole ∙ length-append front (removed ++ added) ∙ ap (λ k. length front + k) (length-append removed added) in
    let first : take x.start text ≡ front = ap (take x.start) whole ∙ take_at front (removed ++ added) x.start (sym start) in
    let second : take x.middle text ≡ front ++ removed = ap (take x.middle) joined ∙ take_at (front ++ removed) added x.middle count in
    let third : take x.end text ≡ text = ap (λ k. take k text) end ∙ take-length text in
    let old : slice_range text x.start x.middle ≡ removed =
    ap (λ t. take (x.middle - x.start) t) (ap (drop x.start) whole ∙ drop_at front (removed ++ added) x.start (sym start)) ∙ take_at removed added (x.middle - x.start) (omega (arith, start, middle)) in
    let new : slice_range text x.middle x.end ≡ added =
    ap (λ t. take (x.end - x.middle) t) (ap (drop x.middle) joined ∙ drop_at (front ++ removed) added x.middle count)
    ∙ ap (λ k. take k added) (omega (arith, middle, end, all)) ∙ take-length added in
    record {
      spelt = record {
        removed = omega (arith, start, middle);
        added = omega (arith, middle, end, all);
        inside = omega (arith, end);
        before = subst IsUtf8 (sym first) f;
        between = subst IsUtf8 (sym second) (IsUtf8-append front removed f r);
        after = subst IsUtf8 (sym third) (subst IsUtf8 (sym joined) (IsUtf8-append (front ++ removed) added (IsUtf8-append front removed f r) a));
      };
      edit = ap (λ t. edit_from x.kind x.at t (slice_range text x.middle x.end)) old ∙ ap (edit_from x.kind x.at removed) new;
    }

-- one more by the texts that are put in after the first n
pub log_put : (text after removed added : List ℕ) (entries entries_after : List LoggedChange) (n : ℕ) (x : LoggedChange) → IsLog text entries → IsUtf8 text
    → x.start ≡ place_of_span from_of entries n (length text) → after ≡ take x.start text ++ (removed ++ added) → x.middle ≡ x.start + length removed → x.end ≡ length after
    → IsUtf8 removed → IsUtf8 added → entries_after ≡ take n entries ++ (x ∷ []) → LogIs after entries_after (take n (edits_in text entries) ++ (edit_from x.kind x.at removed added ∷ []))
log_put text after removed added entries entries_after n x h u is whole middle end r a new =
    let inside : x.start ≤ length text = omega (arith, is, place_le from_of to_of Spelt n text entries 0 (length text) h) in
    let count : length (take x.start text) ≡ x.start = length-take-le x.start text inside in
    let front : IsUtf8 (take x.start text) = subst (λ k. IsUtf8 (take k text)) (sym is) (utf8_upto text entries n u h) in
    let p = placed after (take x.start text) removed added x whole (sym count) (middle ∙ ap (λ k. k + length removed) (sym count)) end front r a in
    let same : take x.start text ≡ take x.start after = sym (ap (take x.start) whole ∙ take_at (take x.start text) (removed ++ added) x.start count) in
    span_pushed from_of to_of Spelt edit_in spelt_kept edit_kept text after entries n x.start h is x entries_after (edit_from x.kind x.at removed added) refl same
    (omega (arith, p.spelt.removed, p.spelt.added)) p.spelt end p.edit new

-- the entry of an index
pub record EntryAt (text : List ℕ) (entries : List LoggedChange) (n : ℕ) (x : LoggedChange) : Type 0 where
  pub spelt : Spelt text x
  pub place : x.start ≡ place_of_span from_of entries n (length text)
  pub edit : (d : Change) → get_or (edits_in text entries) n d ≡ edit_in text x

pub entry_at : (text : List ℕ) (entries : List LoggedChange) (edits : List Change) (n : ℕ) (x : LoggedChange) → IsLog text entries
    → edits_in text entries ≡ edits → n < length edits → x ≡ get_or entries n x
    → EntryAt text entries n x
entry_at text entries edits n x h view inside is =
    let within : n < length entries = omega (arith, inside, ap length view, length-map entries (edit_in text)) in
    let s = adjoin_at from_of to_of Spelt n text entries 0 (length text) x h within in
    record {
      spelt = subst (Spelt text) (sym is) s.fits;
      place = sym (s.place ∙ ap from_of (sym is));
      edit = λ d. get_or-map (edit_in text) entries n x d within ∙ ap (edit_in text) (sym is);
    }

-- where the texts of an entry begin and end
pub record CutsAt (text : List ℕ) (x : LoggedChange) : Type 0 where
  pub start : IsCharBoundary text x.start
  pub middle : IsCharBoundary text x.middle
  pub end : IsCharBoundary text x.end

pub cuts_at : (text : List ℕ) (x : LoggedChange) → IsUtf8 text → Spelt text x → CutsAt text x
cuts_at text x u s = record {
  start = IsCharBoundary-from_take text x.start u (omega (arith, s.removed, s.added, s.inside)) s.before;
  middle = IsCharBoundary-from_take text x.middle u (omega (arith, s.added, s.inside)) s.between;
  end = IsCharBoundary-from_take text x.end u s.inside s.after;
}

pub grown_from : (at place : ℕ) (before : Bool) (kind : Kind) (r d o a : List ℕ) → edit_from kind at (old_text_with before r o) (a ++ d) ≡ change_with_text at before r d (edit_from kind place o a)
grown_from at place before Insertion r d o a = refl
grown_from at place before Deletion r d o a = refl
grown_from at place before Replacement r d o a = refl

-- a text put in before or after the old one, and one after all
grown : (before : Bool) (f o a r d all : List ℕ) (place : ℕ) → all ≡ (f ++ o) ++ a → place ≡ (if before then length f else length (f ++ o))
    → ((take place all ++ r) ++ drop place all) ++ d ≡ f ++ (old_text_with before r o ++ (a ++ d))
grown true f o a r d all place whole is =
    rw (whole ∙ append_assoc f o a, take_at f (o ++ a) place (sym is), drop_at f (o ++ a) place (sym is)) (simp append_assoc)
grown false f o a r d all place whole is = rw (whole, take_at (f ++ o) a place (sym is), drop_at (f ++ o) a place (sym is)) (simp append_assoc)

grown_text : (before : Bool) (text : List ℕ) (x : LoggedChange) (r d : List ℕ) (place : ℕ) → Spelt text x → place ≡ (if before then x.start else x.middle)
    → ((take place (take x.end text) ++ r) ++ drop place (take x.end text)) ++ d
    ≡ take x.start text ++ (old_text_with before r (slice_range text x.start x.middle) ++ (slice_range text x.middle x.end ++ d))
grown_text before text x r d place s is =
    let upto : take x.middle text ≡ take x.start text ++ slice_range text x.start x.middle = take_split text x.start x.middle s.removed in
    let first : length (take x.start text) ≡ x.start = length-take-le x.start text (omega (arith, s.removed, s.added, s.inside)) in
    let second : length (take x.start text ++ slice_range text x.start x.middle) ≡ x.middle =
    ap length (sym upto) ∙ length-take-le x.middle text (omega (arith, s.added, s.inside)) in
    grown before (take x.start text) (slice_range text x.start x.middle) (slice_range text x.middle x.end) r d (take x.end text) place
    (take_split text x.middle x.end s.added ∙ ap (λ t. t ++ slice_range text x.middle x.end) upto)
    (is ∙ ap₂ (λ i j. if before then i else j) (sym first) (sym second))

old_utf8 : (before : Bool) (r o : List ℕ) → IsUtf8 r → IsUtf8 o → IsUtf8 (old_text_with before r o)
old_utf8 true r o u v = IsUtf8-append r o u v
old_utf8 false r o u v = IsUtf8-append o r v u

old_length : (before : Bool) (r o : List ℕ) → length (old_text_with before r o) ≡ length o + length r
old_length true r o = omega (arith, length-append r o)
old_length false r o = length-append o r

-- the entry of an index takes more in
pub log_grown : (text after r d : List ℕ) (entries entries_after : List LoggedChange) (n at place middle end : ℕ) (before : Bool) (x : LoggedChange) → IsLog text entries → IsUtf8 text
    → EntryAt text entries n x → place ≡ (if before then x.start else x.middle) → after ≡ ((take place (take x.end text) ++ r) ++ drop place (take x.end text)) ++ d
    → middle ≡ x.middle + length r → end ≡ length after → IsUtf8 r → IsUtf8 d
    → entries_after ≡ take n entries ++ ((record { kind = x.kind; at = at; start = x.start; middle = middle; end = end }) ∷ [])
    → LogIs after entries_after (take n (edits_in text entries) ++ (change_with_text at before r d (edit_in text x) ∷ []))
log_grown text after r d entries entries_after n at place middle end before x h u e is whole mid long ru du new =
    let y : LoggedChange = record { kind = x.kind; at = at; start = x.start; middle = middle; end = end } in
    let o = slice_range text x.start x.middle in
    let a = slice_range text x.middle x.end in
    let c = cuts_at text x u e.spelt in
    let count : length o ≡ x.middle - x.start = length-slice_range text x.start x.middle (omega (arith, e.spelt.added, e.spelt.inside)) in
    let old : middle ≡ x.start + length (old_text_with before r o) = omega (arith, mid, count, old_length before r o, e.spelt.removed) in
    let p = log_put text after (old_text_with before r o) (a ++ d) entries entries_after n y h u e.place (whole ∙ grown_text before text x r d place e.spelt is) old long
    (old_utf8 before r o ru (IsUtf8-between text x.start x.middle u e.spelt.removed c.start c.middle))
    (IsUtf8-append a d (IsUtf8-between text x.middle x.end u e.spelt.added c.middle c.end) du) new in
    subst (λ g. LogIs after entries_after (take n (edits_in text entries) ++ (g ∷ []))) (grown_from at x.at before x.kind r d o a) p

pub mapped_twice : {A B C : Type 0} (f : A → B) (g : B → C) (o : Option A) → option_map g (option_map f o) ≡ option_map (λ x. g (f x)) o
mapped_twice f g None = refl
mapped_twice f g (Some x) = refl

-- a join by its index
pub joined_at_is : (e : ChangeEvent) (n : ℕ) (edits : List Change) (d : Change) → n < length edits → join_at e n edits ≡ option_map (λ j. take n edits ++ (j ∷ [])) (join_of e (get_or edits n d))
joined_at_is e n [] d h = absurd (omega (arith, h))
joined_at_is e zero (c ∷ edits) d h = refl
joined_at_is e (suc n) (c ∷ edits) d h = ap (option_map (λ es. c ∷ es)) (joined_at_is e n edits d (omega (arith, h))) ∙ mapped_twice (λ j. take n edits ++ (j ∷ [])) (λ es. c ∷ es) (join_of e (get_or edits n d))

pub all_before : {A : Type 0} (P : A → Type 0) (all earlier : List A) (x : A) → all ≡ earlier ++ (x ∷ []) → All P all → All P earlier
all_before P all earlier x is h =
    subst (All P) (take_at earlier (x ∷ []) (length earlier) refl) (All-take P (length earlier) (earlier ++ (x ∷ [])) (subst (All P) is h))

pub all_last : {A : Type 0} (P : A → Type 0) (all earlier : List A) (x : A) → all ≡ earlier ++ (x ∷ []) → All P all → P x
all_last P all earlier x is h =
    subst P (get_or_push earlier x x (length earlier) refl) (subst (All P) is h (length earlier) x (omega (arith, length_push earlier x)))

-- several entries
pub range_spelt : (text : List ℕ) (entries : List LoggedChange) (first last : ℕ) → IsLog text entries → All (Spelt text) (slice_range entries first last)
range_spelt text entries first last h =
    All-take (Spelt text) (last - first) (drop first entries)
    (All-drop (Spelt text) first entries (λ k d l. (adjoin_at from_of to_of Spelt k text entries 0 (length text) d h l).fits))

pub range_edits : (text : List ℕ) (entries : List LoggedChange) (first last : ℕ) → edits_in text (slice_range entries first last) ≡ slice_range (edits_in text entries) first last
range_edits text entries first last =
    sym (take-map (edit_in text) (last - first) (drop first entries)) ∙ ap (take (last - first)) (sym (drop-map (edit_in text) first entries))

pub range_seen : (text seen_text : List ℕ) (entries seen : List LoggedChange) (edits : List Change) (first last : ℕ) → seen_text ≡ text → seen ≡ entries → edits_in text entries ≡ edits
    → edits_in seen_text (slice_range seen first last) ≡ slice_range edits first last
range_seen text seen_text entries seen edits first last t e is =
    ap (λ (u : List ℕ). edits_in u (slice_range seen first last)) t ∙ ap (λ (es : List LoggedChange). edits_in text (slice_range es first last)) e
    ∙ range_edits text entries first last ∙ ap (λ (es : List Change). slice_range es first last) is

-- a turn of making anew, where the change is read from its list
pub ahead_entry : {A : Type 0} (f : A → Change) (xs : List A) (i : ℕ) (d : A) (first l : Line) → i < length xs → l ≡ lines_ahead (take i (map f xs)) first → AllFitIn (drop i (map f xs)) l.text
    → AheadTurn f xs i (get_or xs i d) first l
ahead_entry f xs i d first l inside line fit = ahead_turn f xs i (get_or xs i d) first l inside (get_or_default xs i d (get_or xs i d) inside) line fit

-- a join, as it was found
pub record Read (e : ChangeEvent) (text : List ℕ) (entries : List LoggedChange) (edits : List Change) (n : ℕ) (x : LoggedChange) (o : Option (ℕ × Bool)) : Type 0 where
  pub here : EntryAt text entries n x
  pub view : edits_in text entries ≡ edits
  pub inside : n < length edits
  pub joins : join_of e (edit_in text x) ≡ option_map (λ j. change_with_text j.0 j.1 (old_text_of (change_told e)) (new_text_of (change_told e)) (edit_in text x)) o

pub read : (e : ChangeEvent) (text : List ℕ) (entries : List LoggedChange) (edits : List Change) (n : ℕ) (x : LoggedChange) (o : Option (ℕ × Bool)) → IsLog text entries → edits_in text entries ≡ edits → n < length edits
    → x ≡ get_or entries n x
    → ((r a : List ℕ) → length a ≡ x.end - x.middle → join_of e (edit_from x.kind x.at r a) ≡ option_map (λ j. change_with_text j.0 j.1 (old_text_of (change_told e)) (new_text_of (change_told e)) (edit_from x.kind x.at r a)) o)
    → Read e text entries edits n x o
read e text entries edits n x o h view inside is joins =
    let here = entry_at text entries edits n x h view inside is in
    record {
      here = here;
      view = view;
      inside = inside;
      joins = joins (slice_range text x.start x.middle) (slice_range text x.middle x.end) (length-slice_range text x.middle x.end here.spelt.inside);
    }

pub was_read : (e : ChangeEvent) (text : List ℕ) (entries : List LoggedChange) (edits : List Change) (n : ℕ) (x : LoggedChange) (o : Option (ℕ × Bool)) → Read e text entries edits n x o
    → join_at e n edits ≡ option_map (λ j. take n edits ++ (change_with_text j.0 j.1 (old_text_of (change_told e)) (new_text_of (change_told e)) (edit_in text x) ∷ [])) o
was_read e text entries edits n x o r =
    let d = edit_in text x in
    joined_at_is e n edits d r.inside
    ∙ ap (λ y. option_map (λ j. take n edits ++ (j ∷ [])) (join_of e y)) (ap (λ es. get_or es n d) (sym r.view) ∙ r.here.edit d)
    ∙ ap (option_map (λ j. take n edits ++ (j ∷ []))) r.joins ∙ mapped_twice (λ (j : ℕ × Bool). change_with_text j.0 j.1 (old_text_of (change_told e)) (new_text_of (change_told e)) d) (λ j. take n edits ++ (j ∷ [])) o

pub join_none : (e : ChangeEvent) (text : List ℕ) (entries : List LoggedChange) (edits : List Change) (n : ℕ) (x : LoggedChange) (o : Option (ℕ × Bool)) → Read e text entries edits n x o → o ≡ None → join_at e n edits ≡ None
join_none e text entries edits n x o r is = was_read e text entries edits n x o r ∙ ap (option_map (λ j. take n edits ++ (change_with_text j.0 j.1 (old_text_of (change_told e)) (new_text_of (change_told e)) (edit_in text x) ∷ []))) is

pub join_made : (e : ChangeEvent) (text : List ℕ) (entries : List LoggedChange) (edits after : List Change) (n : ℕ) (x : LoggedChange) (o : Option (ℕ × Bool)) (at : ℕ) (before : Bool) (removed added : List ℕ)
    → Read e text entries edits n x o → o ≡ Some (at, before) → ((d : Change) → after ≡ take n edits ++ (change_with_text at before removed added (get_or edits n d) ∷ []))
    → removed ≡ old_text_of (change_told e) → added ≡ new_text_of (change_told e) → join_at e n edits ≡ Some after
join_made e text entries edits after n x o at before removed added r is new re ad =
    let d = edit_in text x in
    let now : get_or edits n d ≡ d = ap (λ es. get_or es n d) (sym r.view) ∙ r.here.edit d in
    was_read e text entries edits n x o r ∙ ap (option_map (λ j. take n edits ++ (change_with_text j.0 j.1 (old_text_of (change_told e)) (new_text_of (change_told e)) d ∷ []))) is
    ∙ sym (ap Some (new d ∙ ap (λ y. take n edits ++ (change_with_text at before removed added y ∷ [])) now ∙ ap (λ t. take n edits ++ (change_with_text at before t added d ∷ [])) re
    ∙ ap (λ t. take n edits ++ (change_with_text at before (old_text_of (change_told e)) t d ∷ [])) ad))

-- where a text is put in
pub place_in_cut : (text : List ℕ) (x : LoggedChange) (before : Bool) (place : ℕ) → IsUtf8 text → Spelt text x → place ≡ (if before then x.start else x.middle) → IsCharBoundary (take x.end text) place
place_in_cut text x true place u s is =
    subst (IsCharBoundary (take x.end text)) (sym is)
    (IsCharBoundary-from_take (take x.end text) x.start s.after (omega (arith, length-take-le x.end text s.inside, s.removed, s.added))
    (subst IsUtf8 (sym (take-take x.start x.end text (omega (arith, s.removed, s.added)))) s.before))
place_in_cut text x false place u s is =
    subst (IsCharBoundary (take x.end text)) (sym is)
    (IsCharBoundary-from_take (take x.end text) x.middle s.after (omega (arith, length-take-le x.end text s.inside, s.added))
    (subst IsUtf8 (sym (take-take x.middle x.end text s.added)) s.between))
