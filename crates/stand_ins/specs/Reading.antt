-- The meaning of the tests' readers and lines.
use Rattle.std.specs.Prelude.{⊤, ◌≡◌, [], ◌∷◌, ◌++◌, false, true, None, Some, map, is_some, length}
use Rattle.line_config.specs.declared.errors.ReadlineError.{ReadlineError}
use Rattle.line_config.specs.declared.errors.ReadlineError.TheVariants.{Reader, Display, Memory}
use Rattle.line_keys.specs.KeyFeeds.{KeyFeed, Coming}
use Rattle.line_keys.specs.Refreshing.{Shown, Ask, KnownDisplay as Displays}
use Rattle.line_keys.specs.Refreshing as ask
use Rattle.stand_ins.specs.Typing.{coming_after, coming_unless}
use Rattle.stand_ins.specs.declared.readers.KeyList.{KeyList}
use Rattle.stand_ins.specs.declared.refreshers.Request.{Request}
use Rattle.stand_ins.specs.declared.refreshers.Request.TheVariants.{Line, Message, Prompt, DoingInsert, DoneInserting}
use Rattle.stand_ins.specs.declared.refreshers.PlainLine.{PlainLine}

abbrev pub key_list_coming : KeyList → Coming
key_list_coming r = coming_unless r.refused (coming_after r.typed.now r.cut r.after)

abbrev pub key_list_feed : KeyList → KeyFeed
key_list_feed r = record {
  told = true;
  coming = key_list_coming r;
  bound = length r.typed.now;
  reason = λ e. e ≡ Reader → r.refused ≡ Some Reader;
}

-- ---- lines

abbrev pub request_made : Request → Ask
request_made Line = ask.Line
request_made (Message text kind) = ask.Message text kind
request_made (Prompt prompt) = ask.Prompted prompt
request_made DoingInsert = ask.DoingInsert
request_made DoneInserting = ask.DoneInserting

abbrev pub shown_of : PlainLine → Shown
shown_of l = record {
  line = l.text;
  place = l.pos;
  hinted = is_some l.hint;
  completion = l.hint;
  last_insert = l.inserted;
}

-- one more request is recorded
abbrev pub MakesRequest : PlainLine → Ask → PlainLine → Type 0
MakesRequest before a after =
    map request_made after.requests.items
    ≡ map request_made before.requests.items ++ (a ∷ [])

-- a message replaces the hint
abbrev pub shown_after : Shown → Ask → Shown
shown_after s (ask.Message text kind) = record s { hinted = false; completion = None }
shown_after s a = s

-- memory may run out at any call; the display fails if no more requests succeed
abbrev pub HasReason : PlainLine → ReadlineError → Type 0
HasReason l Memory = ⊤
HasReason l Display = l.answered ≡ Some 0
HasReason l why = ⊥

abbrev pub plain_line_display : Displays PlainLine
plain_line_display = record {
  shown = shown_of;
  asked =
      λ before a after.
      MakesRequest before a after × (shown_of after ≡ shown_after (shown_of before) a);
  refused = λ before a e after. HasReason after e;
}
