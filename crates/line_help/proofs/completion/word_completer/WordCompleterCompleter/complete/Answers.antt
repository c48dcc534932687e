use Rattle.std.proofs.Common.{◌≡◌, ◌∙◌, ap, map, rules}
use Rattle.std.specs.Prelude.{string_bytes, take}
use Rattle.std.specs.Char.{is_whitespace}
use Rattle.line_help.specs.Completion.{words_for}
use Rattle.line_help.proofs.WordLemmas.{completed}
use Rattle.line_help.proofs.completion.word_completer.WordCompleterCompleter.complete.Goals as goal

pub returns : goal.returns
returns g c =
    let text = take c.args.pos c.args.line.now in
    let start = c.extract_word-start.ensures.start is_whitespace (λ c answer scalar says. search rules) in
    let words : map string_bytes c.deref.result.now ≡ c.args.self.now = ap (map string_bytes) c.deref.ensures.value ∙ c.self.view_is in
    let found = c.in_ok-found.ensures.words ∙ ap (words_for c.extract_word-start.result.1.now) words ∙ ap (λ w. words_for w c.args.self.now) c.extract_word-start.ensures.word in
    record {
      answer = completed string_bytes c.args.self.now text c.extract_word-start.result.0 c.in_ok-found.found.items start found;
      fault = search rules;
    }
