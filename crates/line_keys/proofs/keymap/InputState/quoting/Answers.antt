use Rattle.std.proofs.Common.{◌≡◌, true, false, arith, refl}
use Rattle.line_keys.specs.declared.command.Cmd.TheVariants.{Insert}
use Rattle.line_keys.specs.InputStates.{input_of}
use Rattle.line_keys.specs.PhraseScripts.{answer_part}
use Rattle.line_keys.specs.Common.{is_paste_start, quotes}
use Rattle.line_keys.proofs.Asking.{key_asked, key_then, text_asked}
use Rattle.line_keys.proofs.Following.{ends_follow, raised_follows, read_stops, read_follows}
use Rattle.line_keys.specs.KeyFeeds.{Paste}
use Rattle.line_keys.proofs.keymap.InputState.quoting.Goals as goal

pub returns-then-not-self-clause-phrase : goal.returns-then-not-self-clause-phrase
returns-then-not-self-clause-phrase g c =
    let off : quotes (input_of c.args.self.now) ≡ false = grind arith in
    rw off (ends_follow _ _ _ _ _ _ _ refl)

pub returns-in_err-key-clause-phrase : goal.returns-in_err-key-clause-phrase
returns-in_err-key-clause-phrase g c =
    let on : quotes (input_of c.args.self.now) ≡ true = grind arith in
    rw on (raised_follows c.from_residual.ensures.1 (read_stops _ c.in_err-key.ensures.reads))

pub returns-in_err-key-clause-asks : goal.returns-in_err-key-clause-asks
returns-in_err-key-clause-asks g c = key_asked _ _ _ _ c.in_err-key.ensures.asks

pub returns-in_err-text-clause-phrase : goal.returns-in_err-text-clause-phrase
returns-in_err-text-clause-phrase g c =
    let on : quotes (input_of c.args.self.now) ≡ true = grind arith in
    let start : is_paste_start c.in_ok-key.key ≡ true = grind arith in
    rw on (raised_follows c.from_residual-in_err-text.ensures.1 (read_follows _ c.in_ok-key.ensures.reads
    (rw start (read_stops {item = Paste} (λ text. answer_part (Insert 1 text)) c.in_err-text.ensures.reads))))

pub returns-in_err-text-clause-asks : goal.returns-in_err-text-clause-asks
returns-in_err-text-clause-asks g c = key_then _ _ _ _ _ c.in_ok-key.ensures.asks (text_asked _ _ _ c.in_err-text.ensures.asks)

pub returns-then-is_paste_start-clause-phrase : goal.returns-then-is_paste_start-clause-phrase
returns-then-is_paste_start-clause-phrase g c =
    let on : quotes (input_of c.args.self.now) ≡ true = grind arith in
    let start : is_paste_start c.in_ok-key.key ≡ true = grind arith in
    rw on (read_follows _ c.in_ok-key.ensures.reads
    (rw start (read_follows {item = Paste} (λ text. answer_part (Insert 1 text)) c.in_ok-text.ensures.reads (ends_follow _ _ _ _ _ _ _ refl))))

pub returns-then-is_paste_start-clause-asks : goal.returns-then-is_paste_start-clause-asks
returns-then-is_paste_start-clause-asks g c = key_then _ _ _ _ _ c.in_ok-key.ensures.asks (text_asked _ _ _ c.in_ok-text.ensures.asks)

pub returns-clause-phrase : goal.returns-clause-phrase
returns-clause-phrase g c =
    let on : quotes (input_of c.args.self.now) ≡ true = grind arith in
    let other : is_paste_start c.in_ok-key.key ≡ false = grind arith in
    rw on (read_follows _ c.in_ok-key.ensures.reads (rw other (ends_follow _ _ _ _ _ _ _ (grind arith))))

pub returns-clause-asks : goal.returns-clause-asks
returns-clause-asks g c = key_asked _ _ _ _ c.in_ok-key.ensures.asks
