use Rattle.std.proofs.Common.{◌≡◌, ◌∙◌, [], subst}
use Rattle.std.proofs.lemmas.Result.{MatchResult-at_ok}
use Rattle.line_help.specs.History.{Filed}
use Rattle.keyline.specs.Keeping.{KeepsRows}
use Rattle.keyline.proofs.OpenedLemmas.{edited, none_bound}
use Rattle.keyline.proofs.program.edit_with.Goals as goal

pub returns-clause-edits : goal.returns-clause-edits
returns-clause-edits g c =
    let session = c.in-Ok.session in
    let opened = c.in-Ok.ensures in
    edited g.F.Source.feed _ _ _ c.args.saves c.args.config c.args.options.now _ c.args.history c.args.source c.args.display c.args.lines c.args.text session.text c.run_to_end.result
    session.desk session.config _ _ c.helper_of-helper.result
    opened.desk c.run_to_end.ensures.runs
    opened.given.config_is (opened.given.prompt_is ∙ c.as_str.ensures.value) c.helper_of-helper.ensures opened.given.text_is
    (none_bound session.bindings _ (opened.given.bindings_are ∙ MatchResult-at_ok (λ b. b ≡ []) (λ _. ⊥) c.unwrap.result c.unwrap.ensures c.new.ensures))

pub returns-clause-kept : goal.returns-clause-kept
returns-clause-kept g c always =
    subst (λ (h : Filed). KeepsRows g.K.Sink.held g.K.Sink.has_failed h c.run_to_end.result.history c.args.keeper.now c.run_to_end.new.keeper)
    (c.in-Ok.ensures.desk.loaded.history_is always) c.run_to_end.ensures.kept
