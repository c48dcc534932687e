-- What contracts read of an adapter's parts: its fixed array, and its reader or writer, whose calls
-- are noted.
use Rattle.std.specs.Prelude.{◌≡◌, ℕ, ◌-◌, List, ◌++◌, slice_range, take, Option}
use Rattle.std.specs.Io.KnownBytes.{Appends}
use Rattle.line_config.specs.DeviceCalls.{DeviceCall, MoreCalls}
use Rattle.line_config.specs.declared.buffer.Buffer.{Buffer}
use Rattle.line_config.specs.declared.recorded.Recorded.{Recorded}

-- the bytes that an array holds
abbrev pub bytes_in : {N : ℕ} → Buffer N → List ℕ
bytes_in w = slice_range w.bytes w.start w.end

-- all that it was filled with, given or not
abbrev pub piece_in : {N : ℕ} → Buffer N → List ℕ
piece_in w = take w.end w.bytes

-- how many more bytes fit
abbrev pub room_in : {N : ℕ} → Buffer N → ℕ
room_in {N} w = N - w.end

-- what its reads gave; or what a writer had before, if that is known, and then what its writes took
abbrev pub took : {D : Type 0} → Recorded D → List ℕ
took s = s.log.bytes

-- its calls, the newest first
abbrev pub calls_of : {D : Type 0} → Recorded D → List DeviceCall
calls_of s = s.log.calls

abbrev pub inner_of : {D : Type 0} → Recorded D → D
inner_of s = s.device

-- what is noted more is what the writer below took more, if that one reports its bytes; and no call
-- is forgotten
pub record Notes {W : Type 0} (contents : W → Option (List ℕ)) (old new : Recorded W) : Type 0 where
  pub more : List ℕ
  pub noted : took new ≡ took old ++ more
  pub writer : Appends (contents (inner_of old)) (contents (inner_of new)) more
  pub calls : MoreCalls (calls_of old) (calls_of new)
