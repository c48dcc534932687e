-- A change of a text, and how it is undone and redone.
use Rattle.std.specs.Prelude.{ℕ, ◌+◌, List, [], ◌∷◌, length}
use Rattle.std.specs.List.{replace_range, fold}
use Rattle.line_buffer.specs.Event.{StandsAt}

pub data Change : Type 0 where
  Inserted : (at : ℕ) (text : List ℕ) → Change
  Deleted : (at : ℕ) (text : List ℕ) → Change
  Replaced : (at : ℕ) (before after : List ℕ) → Change

abbrev pub place_of : Change → ℕ
place_of (Inserted at text) = at
place_of (Deleted at text) = at
place_of (Replaced at before after) = at

-- the old text at its place
abbrev pub old_text_of : Change → List ℕ
old_text_of (Inserted at text) = []
old_text_of (Deleted at text) = text
old_text_of (Replaced at before after) = before

-- the new text at its place
abbrev pub new_text_of : Change → List ℕ
new_text_of (Inserted at text) = text
new_text_of (Deleted at text) = []
new_text_of (Replaced at before after) = after

-- a text at a place replaced by another
abbrev pub text_with_exchange : ℕ → List ℕ → List ℕ → List ℕ → List ℕ
text_with_exchange at from to text = replace_range text at (at + length from) to

abbrev pub text_after_undo : Change → List ℕ → List ℕ
text_after_undo c text = text_with_exchange (place_of c) (new_text_of c) (old_text_of c) text

abbrev pub text_after_redo : Change → List ℕ → List ℕ
text_after_redo c text = text_with_exchange (place_of c) (old_text_of c) (new_text_of c) text

-- the cursor after the restored text, or at the place of an insertion
abbrev pub undo_place : Change → ℕ
undo_place c = place_of c + length (old_text_of c)

-- the cursor after the text that was inserted again, or at the place of a deletion
abbrev pub redo_place : Change → ℕ
redo_place c = place_of c + length (new_text_of c)

-- the change can be undone on the text
abbrev pub StandsIn : Change → List ℕ → Type 0
StandsIn c text = StandsAt (place_of c) (new_text_of c) (old_text_of c) text

-- the change can be redone on the text
abbrev pub FitsIn : Change → List ℕ → Type 0
FitsIn c text = StandsAt (place_of c) (old_text_of c) (new_text_of c) text

-- the text before several changes, given in the order in which they were made
abbrev pub all_taken_back : List Change → List ℕ → List ℕ
all_taken_back [] text = text
all_taken_back (c ∷ cs) text = text_after_undo c (all_taken_back cs text)

abbrev pub AllStandIn : List Change → List ℕ → Type 0
AllStandIn [] text = Unit {0}
AllStandIn (c ∷ cs) text = StandsIn c (all_taken_back cs text) × AllStandIn cs text

-- the text after several changes
abbrev pub all_made_anew : List Change → List ℕ → List ℕ
all_made_anew cs text = fold (λ t c. text_after_redo c t) text cs

-- P holds of each of several parts, on the text to which those before it lead
abbrev pub AllAlong : {A : Type 0} → (A → List ℕ → Type 0) → (A → List ℕ → List ℕ) → List A
    → List ℕ → Type 0
AllAlong P lead [] text = Unit {0}
AllAlong P lead (x ∷ xs) text = P x text × AllAlong P lead xs (lead x text)

abbrev pub AllFitIn : List Change → List ℕ → Type 0
AllFitIn cs text = AllAlong FitsIn text_after_redo cs text

-- the newest of several changes
abbrev pub newest_of : Change → List Change → Change
newest_of c cs = fold (λ d newer. newer) c cs
