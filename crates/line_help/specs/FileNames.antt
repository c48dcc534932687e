-- Names of files and folders for a partly typed path.
use Rattle.std.specs.Prelude.{ℕ, ◌+◌, ◌-◌, ◌==◌, ◌||◌, Bool, not, List, [], ◌∷◌, ◌++◌, length, take, drop, map, filter, nat_eq, Option, Some, is_some, option_map, if◌then◌else◌}
use Rattle.std.specs.List.{after_last, starts_with, suffix_len}
use Rattle.std.specs.Option.{option_map_or}
use Rattle.std.specs.Ordering.{is_lt, nat_cmp}
use Rattle.std.specs.Cmp.Lexicographic.{slice_cmp}
use Rattle.line_help.specs.Completion.{Offered, Completion, word_start, break_characters, double_quote_characters, is_among}
use Rattle.line_keys.specs.Replies.{Reply}
use Rattle.line_help.specs.Quotes.{text_without_escapes, text_with_escapes, unclosed_quote, escapes_at}
use Rattle.line_help.specs.declared.completion.quotes.Quote.{Quote}
use Rattle.line_help.specs.declared.completion.quotes.Quote.TheVariants.{Double, None as Unquoted}

-- before the first element that isn't less
abbrev pub insert_in_order_by : {X : Type 0} → (X → X → Bool) → X → List X → List X
insert_in_order_by lt x [] = x ∷ []
insert_in_order_by lt x (y ∷ ys) = if lt y x then y ∷ insert_in_order_by lt x ys else x ∷ (y ∷ ys)

abbrev pub list_in_order_by : {X : Type 0} → (X → X → Bool) → List X → List X
list_in_order_by lt [] = []
list_in_order_by lt (x ∷ xs) = insert_in_order_by lt x (list_in_order_by lt xs)

-- an item of a folder: its name, and whether it is a folder
pub record Named : Type 0 where
  pub name : List ℕ
  pub is_dir : Bool

-- a partly typed path: where it starts in the line, its text, and the quote before it
pub record Typed : Type 0 where
  pub start : ℕ
  pub path : List ℕ
  pub quote : Quote

-- the characters before which a name needs an escape
abbrev pub is_special : Quote → ℕ → Bool
is_special Double c = is_among double_quote_characters c
is_special quote c = is_among break_characters c

-- after an open quote the path is the rest; otherwise it is the last word
abbrev pub typed_path : List ℕ → Typed
typed_path text =
    let quoted : Option (ℕ × Quote) = unclosed_quote text in
    let word : ℕ = word_start (Some 92) (is_among break_characters) text in
    let start : ℕ = option_map_or (λ it. it.0 + 1) quoted word in
    let path : List ℕ = drop start text in record {
      start = start;
      path = if escapes_at quoted then text_without_escapes path (Some 92) else path;
      quote = option_map_or (λ it. it.1) quoted Unquoted;
    }

-- a path is a folder, up to the last slash, and a name
abbrev pub folder_of : List ℕ → List ℕ
folder_of path = take (length path - suffix_len (λ b. not (b == 47)) path) path

-- a name, with its folder and with escapes; a slash after a folder
abbrev pub offered_name : Quote → List ℕ → Named → Offered
offered_name quote folder named =
    let path : List ℕ = (folder ++ named.name) ++ (if named.is_dir then 47 ∷ [] else []) in
    let shown : List ℕ = text_with_escapes path (Some 92) (is_special quote) quote in
    record { display = named.name; replacement = shown; alone = shown }

-- each listed name that begins with the typed one, in the order of the list
abbrev pub offered_names : Quote → List ℕ → List ℕ → List Named → List Offered
offered_names quote folder name all =
    map (offered_name quote folder) (filter (λ named. starts_with nat_eq named.name name) all)

-- by what is displayed; items that are displayed alike keep their order
abbrev pub is_displayed_before : Offered → Offered → Bool
is_displayed_before x y = is_lt (slice_cmp nat_cmp x.display y.display)

-- the candidates for a text, from a list of what folders contain: none if the folder can't be
-- listed. Memory is taken for the path without its escapes, by the list, and for the candidates
abbrev pub unsorted_completion : (List ℕ → Reply (List Named)) → List ℕ → Reply Completion
unsorted_completion list text =
    let typed : Typed = typed_path text in
    let folder : List ℕ = folder_of typed.path in
    let listed : Reply (List Named) = list folder in record {
      answer = option_map (λ all. record {
        start = typed.start;
        candidates = offered_names typed.quote folder (after_last (λ b. b == 47) typed.path) all;
      }) listed.answer;
      takes = escapes_at (unclosed_quote text) || (listed.takes || is_some listed.answer);
    }

abbrev pub path_completion : (List ℕ → Reply (List Named)) → List ℕ → Reply Completion
path_completion list text =
    let in_order : Completion → Completion =
    λ found. record found { candidates = list_in_order_by is_displayed_before found.candidates } in
    let reply : Reply Completion = unsorted_completion list text in
    record reply { answer = option_map in_order reply.answer }
