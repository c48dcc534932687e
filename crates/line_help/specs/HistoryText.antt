-- Texts of rows: what is saved of a history, and which entries or words a text gives.
use Rattle.std.specs.Prelude.{◌≡◌, ◌≢◌, map, String, string_bytes, ℕ, zero, suc, ◌==◌, ◌&&◌, Bool, true, false, if◌then◌else◌, List, [], ◌∷◌, ◌++◌, flat_map, bytes_eq, codes, not, Option, Some, None, option_map, unwrap_or, Result, Ok, Err, is_ok, IsTrue, ⊤, IfOk, IfErr, OnOk, OnErr, ◌⊎◌, ◌<◌, ◌≤◌, length, take, slice_get}
use Rattle.std.specs.Global.{Global, Vec}
use Rattle.std.specs.List.{list_any}
use Rattle.std.specs.Option.{option_map_or}
use Rattle.std.specs.Result.{result_map_both}
use Rattle.std.specs.Str.{is_utf8}
use Rattle.line_config.specs.Feed.{Feed, GivesByte, GivesBytes, device_failed}
use Rattle.line_config.specs.declared.device.Last.{Last}
use Rattle.line_config.specs.declared.device.Last.TheVariants.{End, Failed}
use Rattle.line_config.specs.declared.errors.ReadlineError.{ReadlineError}
use Rattle.line_config.specs.declared.errors.ReadlineError.TheVariants.{Reader, HistoryText, Memory, NotUtf8}
use Rattle.line_help.specs.History.{Filed, newest, history_with_lines, takes_all, all_saved}
use Rattle.line_config.specs.Sending.{TakesBytes, TakesSome, Sends}

-- the first row of a saved text: a text without it has no escapes
abbrev pub header : List ℕ
header = codes "#V2"

-- a newline is saved as `\n`, a backslash as two
abbrev pub escaped_byte : ℕ → List ℕ
escaped_byte b = if b == 10 then 92 ∷ 110 ∷ [] else if b == 92 then 92 ∷ 92 ∷ [] else b ∷ []

abbrev pub escaped_entry : List ℕ → List ℕ
escaped_entry text = flat_map escaped_byte text

-- each entry is a row, which ends in a newline
abbrev pub row_of : List ℕ → List ℕ
row_of entry = escaped_entry entry ++ 10 ∷ []

abbrev pub rows_text : List (List ℕ) → List ℕ
rows_text entries = flat_map row_of entries

abbrev pub saved_text : List (List ℕ) → List ℕ
saved_text entries = header ++ (10 ∷ rows_text entries)

-- what `save_to` and `append_to` write: nothing if no entry is new
abbrev pub text_to_save : Filed → List ℕ
text_to_save filed = if filed.unsaved == 0 then [] else saved_text filed.kept.entries

abbrev pub text_to_append : Filed → List ℕ
text_to_append filed =
    if filed.unsaved == 0 then [] else rows_text (newest filed.unsaved filed.kept.entries)

-- the text of a row with escapes; none if a backslash precedes anything else
abbrev pub unescaped_row : List ℕ → Option (List ℕ)
unescaped_row [] = Some []
unescaped_row (b ∷ []) = if b == 92 then None else Some (b ∷ [])
unescaped_row (b ∷ (c ∷ bs)) = if b == 92
    then (if c == 110 then option_map (λ text. 10 ∷ text) (unescaped_row bs)
    else if c == 92 then option_map (λ text. 92 ∷ text) (unescaped_row bs) else None)
    else option_map (λ text. b ∷ text) (unescaped_row (c ∷ bs))

-- the entry of a row: the row as it is if it has no escapes, or a wrong one
abbrev pub entry_of : Bool → List ℕ → List ℕ
entry_of false row = row
entry_of true row = unwrap_or (unescaped_row row) row

-- a byte before the rows of the following text; a failure drops a last row without a newline
abbrev pub onto : List (List ℕ) → Last → ℕ → List (List ℕ)
onto (row ∷ rows) last b = (b ∷ row) ∷ rows
onto [] End b = (b ∷ []) ∷ []
onto [] Failed b = []

-- the rows of a text that this follows; a carriage return right before a newline is in no row
abbrev pub text_rows : Last → List ℕ → List (List ℕ)
text_rows last [] = []
text_rows last (b ∷ bs) = if b == 10 then [] ∷ text_rows last bs
    else if b == 13 && option_map_or (λ c. c == 10) (slice_get bs 0) false then text_rows last bs
    else onto (text_rows last bs) last b

-- the text after the first row of a text: after its newline, or empty
abbrev pub behind_row : List ℕ → List ℕ
behind_row [] = []
behind_row (b ∷ bs) = if b == 10 then bs else behind_row bs

-- the text after the first n rows
abbrev pub behind_rows : ℕ → List ℕ → List ℕ
behind_rows zero text = text
behind_rows (suc n) text = behind_rows n (behind_row text)

-- the rows before the first one that isn't UTF-8
abbrev pub good_rows : List (List ℕ) → List (List ℕ)
good_rows [] = []
good_rows (row ∷ rows) = if is_utf8 row then row ∷ good_rows rows else []

-- the entries of rows: empty rows give none
abbrev pub entries_of : Bool → List (List ℕ) → List (List ℕ)
entries_of escapes [] = []
entries_of escapes ([] ∷ rows) = entries_of escapes rows
entries_of escapes ((b ∷ bs) ∷ rows) = entry_of escapes (b ∷ bs) ∷ entries_of escapes rows

-- the texts that loading these rows adds, in order
abbrev pub texts_of : List (List ℕ) → List (List ℕ)
texts_of [] = []
texts_of (row ∷ rows) =
    if bytes_eq row header then entries_of true rows else entries_of false (row ∷ rows)

-- buffered bytes of a row were taken, up to a newline
pub record TakesPiece (old new : Feed) (before after : List ℕ) : Type 0 where
  pub piece : List ℕ
  pub given : GivesBytes old new piece
  pub row : after ≡ before ++ piece
  pub inside : list_any (λ b. b == 10) piece ≡ false

-- at most a row of a text was read, and this remains
pub record LosesRow (text coming : List ℕ) : Type 0 where
  pub lost : List ℕ
  pub split : text ≡ lost ++ coming
  pub row : behind_row lost ≡ []

-- if a text's end was met, its source hasn't failed, and nothing remains
abbrev pub EndIsMet : Bool → Feed → Type 0
EndIsMet met feed = IsTrue met → (feed.failed ≡ false)
    × (IsTrue feed.told → (feed.coming ≡ []) × (feed.last ≡ End))

-- whether a row isn't UTF-8
abbrev pub has_bad_row : List (List ℕ) → Bool
has_bad_row rows = list_any (λ row. not (is_utf8 row)) rows

-- each whole row that was read from a text is UTF-8, and this remains
pub record ReadsGood (text coming : List ℕ) : Type 0 where
  pub read : List ℕ
  pub split : text ≡ read ++ coming
  pub good : has_bad_row (text_rows Failed read) ≡ false

-- whether a result says that the source failed
abbrev pub says_reader : {A : Type 0} → Result A ReadlineError → Bool
says_reader (Err Reader) = true
says_reader result = false

-- the result of reading rows: a row that isn't UTF-8 comes before the failure of the source
abbrev pub rows_answer : Last → List (List ℕ) → Bool → Result Bool ReadlineError
rows_answer End rows whole = if has_bad_row rows then Err HistoryText else Ok whole
rows_answer Failed rows whole = if has_bad_row rows then Err HistoryText else Err Reader

-- the answer of a load: whether the header was there and no row was ignored
abbrev pub load_answer : Last → List (List ℕ) → Filed → Result Bool ReadlineError
load_answer last rows filed =
    let headed : Bool = option_map_or (λ row. bytes_eq row header) (slice_get rows 0) false in
    rows_answer last rows (headed && takes_all filed (texts_of (good_rows rows)))

-- the history after it: with all rows before an error, and with no new entry if there is none
abbrev pub load_leaves : Last → List (List ℕ) → Filed → Filed
load_leaves last rows filed =
    let after : Filed = history_with_lines filed (texts_of (good_rows rows)) in
    if is_ok (load_answer last rows filed) then all_saved after else after

-- a row without the carriage return at its end
abbrev pub without_return : List ℕ → List ℕ
without_return [] = []
without_return (b ∷ []) = if b == 13 then [] else b ∷ []
without_return (b ∷ (c ∷ bs)) = b ∷ without_return (c ∷ bs)

-- ---- the effect of saving and appending on a history and on the sink of its text

-- a text is sent, and the sink's failure has its own error
pub record SendsText {D : Type 0} (held : D → List ℕ) (failed : D → Bool) (text : List ℕ)
    (sink left : D) (result : Result ⊤ ReadlineError) : Type 0 where
  pub sends : Sends held failed text sink left result
  pub fault : IfErr result (λ e. e ≡ HistoryText)

-- the first bytes of an entry are sent, one at least if there are any; if the sink fails, it has
-- taken a prefix of the entry's text
pub record SendsRun {D : Type 0} (held : D → List ℕ) (failed : D → Bool) (bytes : List ℕ)
    (sink left : D) (result : Result ℕ ReadlineError) : Type 0 where
  pub count : IfOk result (λ n. (n ≤ length bytes) × (0 < length bytes → 0 < n))
  pub sent : IfOk result (λ n. TakesBytes held sink left (escaped_entry (take n bytes)))
  pub works : OnOk result (failed left ≡ failed sink)
  pub err : OnErr result (IsTrue (failed left))
  pub begins : OnErr result (TakesSome held sink left (escaped_entry bytes))
  pub fault : IfErr result (λ e. e ≡ HistoryText)

-- if an entry is new, a text is sent, and then none is new; if the sink fails, the history stays as
-- it is. If no entry is new, nothing is done, whether the sink has failed or not
pub record SavesNew {D : Type 0} (held : D → List ℕ) (failed : D → Bool) (text : List ℕ)
    (before after : Filed) (sink left : D) (result : Result ⊤ ReadlineError) : Type 0 where
  pub nothing : before.unsaved ≡ 0 → (result ≡ Ok tt) × (left ≡ sink)
  pub sends : Sends held failed text sink left result
  pub saved : OnOk result (after ≡ all_saved before)
  pub kept : OnErr result (after ≡ before)
  pub fault : IfErr result (λ e. e ≡ HistoryText)

-- ---- the effect of loading on a history and on the source of its text

-- one byte is requested of a source, whose failure is the error Reader
pub record ReadsTextByte (old new : Feed) (result : Result (Option ℕ) ReadlineError) : Type 0 where
  pub gives : GivesByte old new (result_map_both (λ b. b) (λ e. device_failed) result)
  pub fault : IfErr result (λ e. e ≡ Reader)

-- a row is read, or the text's end is met and remembered; a source that fails gave no whole row
pub record ReadsRow (old new : Feed) (bytes : List ℕ) (met : Bool)
    (result : Result Bool ReadlineError) : Type 0 where
  pub row : IsTrue new.told → IfOk result (λ is_row. text_rows old.last old.coming
      ≡ (if is_row then bytes ∷ text_rows old.last new.coming else []))
  pub behind : IsTrue new.told → result ≡ Ok true → new.coming ≡ behind_row old.coming
  pub end : IsTrue new.told → result ≡ Ok false → (old.last ≡ End) × (new.coming ≡ [])
  pub cut : IsTrue new.told → result ≡ Err Reader
      → (old.last ≡ Failed) × (new.coming ≡ []) × (text_rows old.last old.coming ≡ [])
  pub lost : IsTrue new.told → LosesRow old.coming new.coming
  pub good : IsTrue new.told → result ≡ Ok true → is_utf8 bytes ≡ true
      → (later : List ℕ) → ReadsGood new.coming later → ReadsGood old.coming later
  pub memory : IsTrue new.told → result ≡ Err Memory → ReadsGood old.coming new.coming
  pub ended : EndIsMet met new
  pub fault : IfErr result (λ e. (e ≡ Memory) ⊎ (e ≡ Reader))
  pub failure : new.failed ≡ says_reader result
  pub told : IsTrue new.told → IsTrue old.told
  pub last : new.last ≡ old.last
  pub falls : result ≡ Ok true → new.bound < old.bound
  pub keeps : new.bound ≤ old.bound

-- what a load leaves of a text: nothing, or the text after the first row that isn't UTF-8
abbrev pub rest_after_load : Last → List ℕ → List ℕ
rest_after_load last text =
    let rows = text_rows last text in
    if has_bad_row rows then behind_rows (suc (length (good_rows rows))) text else []

-- a load that failed: these rows' texts were added, what was read of the next is lost, this remains
pub record LoadsSome (texts : List (List ℕ) → List (List ℕ)) (last : Last) (text coming : List ℕ)
    (before after : Filed) : Type 0 where
  pub loaded : List (List ℕ)
  pub later : List (List ℕ)
  pub split : text_rows last text ≡ loaded ++ later
  pub good : has_bad_row loaded ≡ false
  pub added : after ≡ history_with_lines before (texts loaded)
  pub left : LosesRow (behind_rows (length loaded) text) coming

-- unless memory ran out, answer, history and remaining text are these; each error says of how much
-- of the text the entries were added. All this holds if the source agrees with the assumption
pub record LoadsAs (wanted : Result Bool ReadlineError) (filed : Filed)
    (texts : List (List ℕ) → List (List ℕ)) (old new : Feed) (before after : Filed)
    (result : Result Bool ReadlineError) : Type 0 where
  pub answer : IsTrue new.told → result ≢ Err Memory → result ≡ wanted
  pub history : IsTrue new.told → result ≢ Err Memory → after ≡ filed
  pub left : IsTrue new.told → result ≢ Err Memory
      → new.coming ≡ rest_after_load old.last old.coming
  pub part : IsTrue new.told
      → OnErr result (LoadsSome texts old.last old.coming new.coming before after)
  pub memory : IsTrue new.told → result ≡ Err Memory → ReadsGood old.coming new.coming
  pub fault : IfErr result (λ e. (e ≡ Memory) ⊎ ((e ≡ HistoryText) ⊎ (e ≡ Reader)))
  pub failure : new.failed ≡ says_reader result
  pub told : IsTrue new.told → IsTrue old.told
  pub last : new.last ≡ old.last
  pub keeps : new.bound ≤ old.bound

-- the text of a history is loaded
abbrev pub Loads : (old new : Feed) → (before after : Filed) → Result Bool ReadlineError → Type 0
Loads old new before after result =
    let rows = text_rows old.last old.coming in
    LoadsAs (load_answer old.last rows before) (load_leaves old.last rows before) texts_of
    old new before after result

-- the rows behind the first one are loaded
abbrev pub LoadsRows : (escapes : Bool) → (old new : Feed) → (before after : Filed)
    → Result Bool ReadlineError → Type 0
LoadsRows escapes old new before after result =
    let rows = text_rows old.last old.coming in
    let entries = entries_of escapes (good_rows rows) in
    LoadsAs (rows_answer old.last rows (takes_all before entries))
    (history_with_lines before entries) (entries_of escapes) old new before after result

-- a row is added, with this answer and this history after it; if it isn't UTF-8 or memory runs out,
-- the history stays. An empty row is always added
pub record AddsRow (row : List ℕ) (took : Bool) (wanted before after : Filed)
    (result : Result Bool ReadlineError) : Type 0 where
  pub answer : IfOk result (λ b. b ≡ took)
  pub added : OnOk result (after ≡ wanted)
  pub text : OnOk result (is_utf8 row ≡ true)
  pub kept : OnErr result (after ≡ before)
  pub fault : IfErr result
      (λ e. (e ≡ (if is_utf8 row then Memory else HistoryText)) × (0 < length row))

-- the words of a text are its rows, split like a history's, but no empty ones; the text says what
-- remains, unless memory ran out. All this holds if the source agrees with the assumption
pub record LoadsWords (old new : Feed) (result : Result (Vec (String Global)) ReadlineError)
    : Type 0 where
  pub words : IsTrue new.told → IfOk result
      (λ words. map string_bytes words.items ≡ entries_of false (text_rows old.last old.coming))
  pub ends : IsTrue new.told → IfOk result (λ words. old.last ≡ End)
  pub broken : IsTrue new.told → result ≡ Err NotUtf8
      → has_bad_row (text_rows old.last old.coming) ≡ true
  pub cut : IsTrue new.told → result ≡ Err Reader
      → (old.last ≡ Failed) × (has_bad_row (text_rows old.last old.coming) ≡ false)
  pub memory : IsTrue new.told → result ≡ Err Memory → ReadsGood old.coming new.coming
  pub left : IsTrue new.told → result ≢ Err Memory
      → new.coming ≡ rest_after_load old.last old.coming
  pub refused : IfErr result (λ e. (e ≡ Memory) ⊎ ((e ≡ NotUtf8) ⊎ (e ≡ Reader)))
  pub failure : new.failed ≡ says_reader result
  pub told : IsTrue new.told → IsTrue old.told
  pub last : new.last ≡ old.last
  pub keeps : new.bound ≤ old.bound
