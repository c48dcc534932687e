-- The calls of a device of files with their answers, the newest first.
use Rattle.std.specs.Prelude.{◌≡◌, ◌≢◌, ◌⊎◌, ⊤, ℕ, ◌==◌, if◌then◌else◌, List, [], ◌∷◌, ◌++◌, length, take, Result, Ok, Err}
use Rattle.std.specs.List.{All}
use Rattle.std.specs.declared.io.ErrorKind.{ErrorKind}
use Rattle.std.specs.declared.io.ErrorKind.TheVariants.{InvalidData, OutOfMemory, ResourceBusy, WriteZero}
use Rattle.keyline_files.specs.declared.device.Request.{Request}
use Rattle.keyline_files.specs.declared.device.Request.TheVariants.{Opens, Locks, Names, Measures, HasHeader, LastByte, Appends, CutsBack}

-- what was asked, with a path or the bytes of a write, and the answer
pub data FileCall : Type 0 where
  Did : (what : Request) → (bytes : List ℕ) → (answer : Result ℕ ErrorKind) → FileCall

-- a call that changes no file
abbrev pub IsQuiet : FileCall → Type 0
IsQuiet (Did Appends bytes answer) = ⊥
IsQuiet (Did CutsBack bytes answer) = ⊥
IsQuiet call = ⊤

-- calls were made that change no file
pub record Quietly (old new : List FileCall) : Type 0 where
  pub others : List FileCall
  pub quiet : All IsQuiet others
  pub noted : new ≡ others ++ old

-- the last calls: the path was opened, the file locked, and then the path still named it. Nothing was written before
pub record LocksNamed (path : List ℕ) (old new : List FileCall) : Type 0 where
  pub before : List FileCall
  pub opened : ℕ
  pub locked : ℕ
  pub quiet : Quietly old before
  pub noted : new ≡ Did Names path (Ok 1) ∷ Did Locks [] (Ok locked) ∷ Did Opens path (Ok opened) ∷ before

-- what stands before an appended row: the first row of a new file, or the end of a row that was cut off
abbrev pub before_row : ℕ → ℕ → List ℕ
before_row len last = if len == 0 then 35 ∷ 86 ∷ 50 ∷ 10 ∷ [] else if last == 10 then [] else 10 ∷ []

-- the length was asked for, and of a file with bytes whether it begins with `#V2`, as it does, and
-- the last byte
abbrev pub looks : ℕ → ℕ → List FileCall
looks len last = if len == 0 then Did Measures [] (Ok len) ∷ []
    else Did LastByte [] (Ok last) ∷ (Did HasHeader [] (Ok 1) ∷ (Did Measures [] (Ok len) ∷ []))

-- under the lock of the file that the path names, one write took the whole row, with what was missing before it; and no other write
-- was made
pub record AppendsRow (path row : List ℕ) (old new : List FileCall) : Type 0 where
  pub before : List FileCall
  pub len : ℕ
  pub last : ℕ
  pub locked : LocksNamed path old before
  pub noted : let text = before_row len last ++ row in
      new ≡ Did Appends text (Ok (length text)) ∷ (looks len last ++ before)

-- a write that wasn't whole, and then the file was cut back to what it had
pub record CutsBackAfter (old new : List FileCall) : Type 0 where
  pub before : List FileCall
  pub text : List ℕ
  pub answer : Result ℕ ErrorKind
  pub undone : Result ℕ ErrorKind
  pub quiet : Quietly old before
  pub refused : answer ≡ Ok (length text) → ⊥
  pub noted : new ≡ Did CutsBack [] undone ∷ Did Appends text answer ∷ before

-- no row was appended: nothing was written, or the file was then cut back
abbrev pub LeavesFile : List FileCall → List FileCall → Type 0
LeavesFile old new = Quietly old new ⊎ CutsBackAfter old new

-- the last call failed with this error
pub record FailsLast (e : ErrorKind) (new : List FileCall) : Type 0 where
  pub what : Request
  pub bytes : List ℕ
  pub before : List FileCall
  pub noted : new ≡ Did what bytes (Err e) ∷ before

-- a write failed with this error, or wasn't whole, and then the file was cut back
pub record WriteFails (e : ErrorKind) (new : List FileCall) : Type 0 where
  pub text : List ℕ
  pub answer : Result ℕ ErrorKind
  pub undone : Result ℕ ErrorKind
  pub before : List FileCall
  pub noted : new ≡ Did CutsBack [] undone ∷ Did Appends text answer ∷ before
  pub why : (answer ≡ Err e) ⊎ (e ≡ WriteZero)

-- the file has bytes, and doesn't begin with `#V2`: its rows have no escapes
pub record LacksHeader (e : ErrorKind) (new : List FileCall) : Type 0 where
  pub answer : ℕ
  pub before : List FileCall
  pub noted : new ≡ Did HasHeader [] (Ok answer) ∷ before
  pub lacks : answer ≢ 1
  pub why : e ≡ InvalidData

-- an error is the answer of a call, or the file lacks its header, or it was replaced at each turn,
-- or memory ran out
abbrev pub IsCause : ErrorKind → List FileCall → Type 0
IsCause e new = FailsLast e new ⊎ (WriteFails e new ⊎ (LacksHeader e new
    ⊎ ((e ≡ ResourceBusy) ⊎ (e ≡ OutOfMemory))))

-- what the file has after these calls, if it began with these bytes, nobody else wrote, and each call did what it answered; a file
-- is cut back to the length that is answered
unfoldable pub file_after : List ℕ → List FileCall → List ℕ
file_after start [] = start
file_after start (Did Appends bytes (Ok n) ∷ earlier) = file_after start earlier ++ take n bytes
file_after start (Did CutsBack bytes (Ok len) ∷ earlier) = take len (file_after start earlier)
file_after start (call ∷ earlier) = file_after start earlier

-- If each request does what it answers, and nobody else writes, an append leaves the bytes that the
-- file had, what was missing behind them, and the row.
abbrev pub RowsAreAppended : Type 0
RowsAreAppended = (path row : List ℕ) (old new : List FileCall) (start : List ℕ)
    (done : AppendsRow path row old new)
    → file_after start new ≡ file_after start old ++ (before_row done.len done.last ++ row)
