use Rattle.line_editor.proofs.GivesBackLemmas.{gives_word_back}
use Rattle.line_editor.proofs.laws.give_word_back.Goals as goal

pub returns : goal.returns
returns c = gives_word_back
