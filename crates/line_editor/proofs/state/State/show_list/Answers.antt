use Rattle.std.proofs.Common.{rules, map}
use Rattle.std.specs.Prelude.{Some}
use Rattle.line_keys.specs.declared.command.CmdKind.TheVariants.{Other}
use Rattle.line_editor.specs.Candidates.{list_text}
use Rattle.line_editor.specs.Drawing.{message_effect}
use Rattle.line_editor.proofs.CandidateLemmas.{list_drawn}
use Rattle.line_editor.proofs.MeetLemmas.{unmade}
use Rattle.line_editor.proofs.state.State.show_list.Goals as goal

pub returns-in_err-text : goal.returns-in_err-text
returns-in_err-text g c = unmade (message_effect (Some (list_text c.args.limit (map g.H.Candidate.Candidate.offers c.args.candidates.now))) Other) _ _ (search rules)

pub returns : goal.returns
returns g c = list_drawn c.args.limit (map g.H.Candidate.Candidate.offers c.args.candidates.now) c.as_str.result.now _ _ _ (search rules) c.tell.ensures.does
