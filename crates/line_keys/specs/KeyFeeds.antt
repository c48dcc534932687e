-- Feeds of keys: the remaining input, by its bytes and by what they are read as, and what is known
-- of a reader and of each read.
use Rattle.std.specs.Prelude.{◌≡◌, ℕ, List, ◌<◌, ◌≤◌, ◌⊎◌, ⊤, Bool, Result, Ok, Err, IsTrue, IfErr, OnOk}
use Rattle.line_config.specs.declared.errors.ReadlineError.{ReadlineError}
use Rattle.line_config.specs.declared.errors.ReadlineError.TheVariants.{Memory, Eof, NotUtf8, PasteOutOfPlace, Reader}
use Rattle.line_keys.specs.declared.key.KeyEvent.{KeyEvent}

-- what follows the last key: the end of the input, bytes that are no character, or a failed source
pub data LastItem : Type 0 where
  End : LastItem
  Bad : LastItem
  Failed : LastItem

-- the remaining bytes, and what they are read as. `left` are the bytes that remain after the read
-- that fails
pub data Coming : Type 0 where
  -- a key
  Pressed : (bytes : List ℕ) → (pressed : KeyEvent) → (rest : Coming) → Coming
  -- a pasted text, announced by the key before it
  Pasted : (bytes : List ℕ) → (text : List ℕ) → (rest : Coming) → Coming
  -- a pasted text was announced, and the input ends before its end
  CutOff : (bytes : List ℕ) → (last : LastItem) → (left : List ℕ) → Coming
  -- no key is left
  Ends : (bytes : List ℕ) → (last : LastItem) → (left : List ℕ) → Coming
  -- a call failed with this error, as every later call does
  Refused : (bytes : List ℕ) → (why : ReadlineError) → Coming

abbrev pub bytes_to_come : Coming → List ℕ
bytes_to_come (Pressed bytes k rest) = bytes
bytes_to_come (Pasted bytes text rest) = bytes
bytes_to_come (CutOff bytes last left) = bytes
bytes_to_come (Ends bytes last left) = bytes
bytes_to_come (Refused bytes why) = bytes

abbrev pub refusal_of : LastItem → ReadlineError
refusal_of End = Eof
refusal_of Bad = NotUtf8
refusal_of Failed = Reader

-- what is requested
pub data InputItem : Type 0 where
  Key : InputItem
  Paste : InputItem

abbrev pub InputOf : InputItem → Type 0
InputOf Key = KeyEvent
InputOf Paste = List ℕ

-- the answer to a request
abbrev pub item_at : (item : InputItem) → Coming → Result (InputOf item) ReadlineError
item_at Key (Pressed bytes k rest) = Ok k
item_at Key (Ends bytes last left) = Err (refusal_of last)
item_at Paste (Pasted bytes text rest) = Ok text
item_at Paste (CutOff bytes last left) = Err (refusal_of last)
item_at item (Refused bytes why) = Err why
item_at item c = Err PasteOutOfPlace

abbrev pub key_at : Coming → Result KeyEvent ReadlineError
key_at = item_at Key

abbrev pub paste_at : Coming → Result (List ℕ) ReadlineError
paste_at = item_at Paste

abbrev pub answer_map : {X Y : Type 0} → (X → Y) → Result X ReadlineError → Result Y ReadlineError
answer_map f (Ok x) = Ok (f x)
answer_map f (Err e) = Err e

-- the answer if a key is requested, with a function of the key
abbrev pub from_key_at : {X : Type 0} → (KeyEvent → X) → Coming → Result X ReadlineError
from_key_at f c = answer_map f (key_at c)

-- what an error leaves of the input, of which these bytes remain: the end stays the end, and any
-- other error is final
abbrev pub coming_after_error : ReadlineError → List ℕ → Coming
coming_after_error Eof left = Ends left End left
coming_after_error why left = Refused left why

-- what remains after a request, whether it is answered or fails
abbrev pub behind : InputItem → Coming → Coming
behind Key (Pressed bytes k rest) = rest
behind Key (Ends bytes last left) = coming_after_error (refusal_of last) left
behind Paste (Pasted bytes text rest) = rest
behind Paste (CutOff bytes last left) = coming_after_error (refusal_of last) left
behind item (Refused bytes why) = coming_after_error why bytes
behind item c = coming_after_error PasteOutOfPlace (bytes_to_come c)

-- ---- readers

-- a reader's errors; running out of memory is one of a pasted text, and of every call after that
abbrev pub IsReaderRefusal : ReadlineError → Type 0
IsReaderRefusal Eof = ⊤
IsReaderRefusal NotUtf8 = ⊤
IsReaderRefusal PasteOutOfPlace = ⊤
IsReaderRefusal Reader = ⊤
IsReaderRefusal Memory = ⊤
IsReaderRefusal why = ⊥

pub record KeyFeed : Type 1 where
  -- the bytes given so far agree with those assumed, and this remains of them
  pub told : Bool
  pub coming : Coming
  -- it falls with each key and each paste
  pub bound : ℕ
  -- what has happened if a call fails
  pub reason : ReadlineError → Type 0

-- the faults of a read, which no input gives: a pasted text may run out of memory
abbrev pub IsReadFault : InputItem → ReadlineError → Type 0
IsReadFault Paste Memory = ⊤
IsReadFault item why = ⊥

-- a read is answered as the input says, or cut by a fault, which is final, with some bytes unread
abbrev pub ReadAs : {X : Type 0} → InputItem → Result X ReadlineError → Coming
    → Result X ReadlineError → Coming → Type 0
ReadAs item given rest result c' =
    ((result ≡ given) × (c' ≡ rest))
    ⊎ ((e : ReadlineError) × (left : List ℕ) × IsReadFault item e × (result ≡ Err e)
    × (c' ≡ coming_after_error e left))

-- a read whose answer isn't known
pub record SomeRead {X : Type 0} (feed feed' : KeyFeed)
    (result : Result X ReadlineError) : Type 0 where
  pub told : IsTrue feed'.told → IsTrue feed.told
  pub keeps : feed'.bound ≤ feed.bound
  pub falls : OnOk result (feed'.bound < feed.bound)
  pub refused : IfErr result IsReaderRefusal
  pub reason : IfErr result (λ e. feed'.reason e)

-- the effect of a reader's read on the remaining input: this answer, from the front of it
pub record ReadsBy {X : Type 0} (item : InputItem) (at : Coming → Result X ReadlineError)
    (feed feed' : KeyFeed) (result : Result X ReadlineError) : Type 0 where
  pub some : SomeRead feed feed' result
  pub taken : IsTrue feed'.told
      → ReadAs item (at feed.coming) (behind item feed.coming) result feed'.coming
