-- A reader of which only the number of remaining items is known, and how they were requested.
use Rattle.std.specs.Prelude.{◌≡◌, ◌⊎◌, ⊤, Bool, false, true, [], ◌∷◌, ◌++◌, length}
use Rattle.line_keys.specs.KeyFeeds.{KeyFeed, Ends, End}
use Rattle.line_keys.specs.Requests.{Asked, NextKey, WaitForInput, NextChar, PastedText}
use Rattle.stand_ins.specs.declared.asked_keys.AskedKeys.{AskedKeys}
use Rattle.stand_ins.specs.declared.asked_keys.KeyRequest.{KeyRequest}

abbrev pub asked_keys_feed : AskedKeys → KeyFeed
asked_keys_feed r = record {
  told = false;
  coming = Ends [] End [];
  bound = length r.keys.now;
  reason = λ e. ⊤;
}

abbrev pub key_request : (report single_esc_abort : Bool) → KeyRequest
key_request report single_esc_abort =
    record { report = report; single_esc_abort = single_esc_abort }

-- a request is noted behind the others, unless it gives no key
abbrev pub Notes : KeyRequest → AskedKeys → AskedKeys → Type 0
Notes k s t = (t.requests.items ≡ s.requests.items ++ (k ∷ []))
    ⊎ (t.requests.items ≡ s.requests.items)

abbrev pub requests_noted : Asked AskedKeys
requests_noted s (NextKey flag) t = Notes (key_request false flag) s t
requests_noted s (WaitForInput flag) t = Notes (key_request true flag) s t
requests_noted s NextChar t = Notes (key_request false false) s t
requests_noted s PastedText t = t ≡ s
