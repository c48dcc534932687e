-- Paths: names of files, with slashes between the folders.
use Rattle.std.specs.Prelude.{◌≡◌, ◌==◌, ◌++◌, ◌∷◌, ℕ, List, [], Option, Some, None, slice_index, take}
use Rattle.std.specs.Bool.{MatchBool}
use Rattle.std.specs.Str.Pattern.{RFindsChar}

-- the folder before the last slash of a path, with that slash; nothing of a path without one
abbrev pub folder_before : List ℕ → Option (ℕ × ℕ) → List ℕ
folder_before path None = []
folder_before path (Some (start, end)) = take start path ++ 47 ∷ []

-- a path, as it is seen from the folder of another: one that begins with a slash is itself
abbrev pub SeenFrom : List ℕ → List ℕ → List ℕ → Type 0
SeenFrom other path seen = MatchBool (slice_index path 0 == 47) (seen ≡ path)
    ((last : Option (ℕ × ℕ)) × RFindsChar 47 other last × (seen ≡ folder_before other last ++ path))
