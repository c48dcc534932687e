-- What contracts read of the devices over std's readers and writers. `remaining` and `contents` are
-- std's ghost members of these.
use Rattle.std.specs.Prelude.{◌≡◌, ◌⊎◌, ◌∷◌, ℕ, ◌+◌, ◌-◌, ◌^◌, ◌<◌, List, [], ◌++◌, length, option_to_list, Option, Some, None, Bool, Result, Ok, Err, unwrap_or}
use Rattle.std.specs.Io.KnownBytes.{Consumes, IsAtEnd}
use Rattle.line_config.specs.Feed.{Feed}
use Rattle.line_config.specs.DeviceCalls.{DeviceCall, Moves, Tries, move_interrupted}
use Rattle.line_config.specs.Foretold.{is_failed}
use Rattle.line_config.specs.Parts.{bytes_in, calls_of, inner_of, piece_in, took}
use Rattle.line_config.specs.declared.adapters.ReadSource.{ReadSource}
use Rattle.line_config.specs.declared.adapters.WriteSink.{WriteSink}
use Rattle.line_config.specs.declared.device.DeviceFailed.{DeviceFailed}
use Rattle.line_config.specs.declared.device.Last.{Last}
use Rattle.line_config.specs.declared.device.Last.TheVariants.{End, Failed}

abbrev pub reader_of : {R K : Type 0} → ReadSource R K → R
reader_of s = inner_of s.reader

-- what was read and not given yet
abbrev pub bytes_not_given : {R K : Type 0} → ReadSource R K → List ℕ
bytes_not_given s = bytes_in s.unread

-- what its reads gave
abbrev pub gave : {R K : Type 0} → ReadSource R K → List ℕ
gave s = took s.reader

-- after an end or a failure nothing remains
abbrev pub to_come : Option Last → List ℕ → List ℕ
to_come None left = left
to_come (Some last) left = []

-- what is known of a source over this reader, by what is assumed of the reader. Its reads gave some
-- bytes, of which some are unread, and met this
abbrev pub feed_of : {R : Type 0} → (R → List ℕ → Option Last → Bool) → (R → List ℕ → List ℕ)
    → Last → R → List ℕ → List ℕ → Option Last → ℕ → Feed
feed_of told left last reader given unread met count = record {
  told = told reader given met;
  coming = unread ++ to_come met (left reader given);
  last = last;
  bound = 2 ^ 63 - count + length unread;
  failed = is_failed met;
}

abbrev pub source_feed : {R K : Type 0} → (R → List ℕ → Option Last → Bool)
    → (R → List ℕ → List ℕ) → Last → ReadSource R K → Feed
source_feed told left last s =
    feed_of told left last (inner_of s.reader) (took s.reader) (bytes_in s.unread) s.met s.count

-- a source over this reader, from which nothing was read yet
pub record IsUnread {R K : Type 0} (reader : R) (s : ReadSource R K) : Type 0 where
  pub reader_is : reader_of s ≡ reader
  pub unread : bytes_not_given s ≡ []
  pub none_given : gave s ≡ []
  pub not_called : calls_of s.reader ≡ []
  pub none_met : s.met ≡ None

-- the byte of a call of a source
abbrev pub byte_given_by : Result (Option ℕ) DeviceFailed → List ℕ
byte_given_by (Ok byte) = option_to_list byte
byte_given_by (Err e) = []

-- the end or the failure that a read met
abbrev pub end_met_by : DeviceCall → Option Last
end_met_by (Moves (Ok [])) = Some End
end_met_by (Moves (Ok (byte ∷ bytes))) = None
end_met_by (Moves (Err kind)) = Some Failed
end_met_by call = None

-- a source reads once, if nothing is unread and nothing was met; or not at all, and then it fails
-- anew only after so many bytes
abbrev pub ReadsOnce : {R K : Type 0} → ReadSource R K → ReadSource R K → Type 0
ReadsOnce old new = ((bytes_not_given old ≡ []) × (old.met ≡ None)
    × Tries move_interrupted (calls_of old.reader) (calls_of new.reader)
    (λ call. new.met ≡ end_met_by call))
    ⊎ ((new.reader ≡ old.reader) × ((new.met ≡ old.met)
    ⊎ ((new.met ≡ Some Failed) × (2 ^ 63 - 4096 < length (gave old)))))

-- a source gave these bytes, from the front of what its reads gave. What is noted more is what the
-- reader gave more, if the reader reports its bytes; at the end nothing of them was left. While
-- something is unread the reader isn't called, nor after the end or a failure; otherwise it gives
-- one piece
pub record AsksReader {R K : Type 0} (remaining : R → Option (List ℕ)) (bytes : List ℕ)
    (old new : ReadSource R K) : Type 0 where
  pub more : List ℕ
  pub noted : gave new ≡ gave old ++ more
  pub passed : bytes_not_given old ++ more ≡ bytes ++ bytes_not_given new
  pub reader : Consumes (remaining (reader_of old)) (remaining (reader_of new)) more
  pub lazy : 0 < length (bytes_not_given old) → (more ≡ []) × (new.reader ≡ old.reader)
  pub once : 0 < length more → more ≡ piece_in new.unread
  pub end : old.met ≡ None → new.met ≡ Some End → IsAtEnd (remaining (reader_of new))
  pub stays : (x : Last) → old.met ≡ Some x → (new.met ≡ Some x) × (new.reader ≡ old.reader)

abbrev pub writer_of : {W : Type 0} → WriteSink W → W
writer_of s = inner_of s.writer

-- what the writer had before, if that is known, and what its writes took
abbrev pub bytes_sent : {W : Type 0} → WriteSink W → List ℕ
bytes_sent s = took s.writer

-- what was taken and not sent yet
abbrev pub bytes_not_sent : {W : Type 0} → WriteSink W → List ℕ
bytes_not_sent s = bytes_in s.unsent

-- the same and what was not sent yet: all that the sink took
abbrev pub bytes_taken : {W : Type 0} → WriteSink W → List ℕ
bytes_taken s = bytes_sent s ++ bytes_not_sent s

-- a sink over this writer that took nothing yet, so it has what the writer had
pub record IsUnused {W : Type 0} (contents : W → Option (List ℕ)) (writer : W)
    (s : WriteSink W) : Type 0 where
  pub writer_is : writer_of s ≡ writer
  pub sent : bytes_sent s ≡ unwrap_or (contents writer) []
  pub unsent : bytes_not_sent s ≡ []
  pub not_called : calls_of s.writer ≡ []
