use Rattle.std.proofs.Common.{rules}
use Rattle.line_editor.specs.Drawing.{refresh_effect_behind}
use Rattle.line_editor.specs.Modal.{modal_of}
use Rattle.line_editor.specs.Searching.{search_prompt}
use Rattle.line_editor.proofs.MeetLemmas.{unmade, search_shown}
use Rattle.line_editor.proofs.state.State.show_search.Goals as goal

pub returns-in_err-prompt : goal.returns-in_err-prompt
returns-in_err-prompt g c = record { does = unmade (refresh_effect_behind (search_prompt (modal_of c.args.modal.now))) _ _ (search rules) }

pub returns : goal.returns
returns g c = record {
  does = search_shown (modal_of c.args.modal.now) c.as_str.result.now _ _ _ (search rules) c.refresh_behind.ensures.does;
}
