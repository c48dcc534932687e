-- A path that is written behind a folder and a slash.
use Rattle.std.proofs.Common.{◌≡◌, ◌∙◌, ◌==◌, ◌++◌, ◌∷◌, ℕ, Bool, false, List, [], Option, Some, ap, slice_index, subst, sym, take}
use Rattle.std.specs.Bool.{MatchBool}
use Rattle.std.specs.Str.Pattern.{RFindsChar}
use Rattle.keyline_files.specs.Paths.{SeenFrom, folder_before}

pub behind_folder : (other path folder seen : List ℕ) (starts : Bool) (start end : ℕ)
    → starts ≡ (slice_index path 0 == 47) → starts ≡ false → RFindsChar 47 other (Some (start, end)) → folder ≡ take start other
    → seen ≡ (folder ++ 47 ∷ []) ++ path → SeenFrom other path seen
behind_folder other path folder seen starts start end byte not_absolute last is bytes =
    subst (λ b. MatchBool b (seen ≡ path) ((at : Option (ℕ × ℕ)) × RFindsChar 47 other at × (seen ≡ folder_before other at ++ path)))
    (sym not_absolute ∙ byte)
    (Some (start, end), last, bytes ∙ ap (λ f. (f ++ 47 ∷ []) ++ path) is)
