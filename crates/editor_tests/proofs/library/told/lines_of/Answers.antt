-- What is assumed of the keys holds if the source didn't fail.
use Rattle.std.proofs.Common.{[], None, refl, ◌∙◌, sym}
use Rattle.line_config.specs.Foretold.{own_left}
use Rattle.line_config.specs.declared.device.Last.TheVariants.{End}
use Rattle.keyline.proofs.PlayedLemmas.{fresh_coming, played}
use Rattle.keyline.specs.Program.{config_of}
use Rattle.editor_tests.proofs.ToldLines.{lines_by, works_where}
use Rattle.editor_tests.proofs.library.told.lines_of.Goals as goal

pub returns-in-Eof : goal.returns-in-Eof
returns-in-Eof g c = λ n low.
    let fresh = c.foretold-source.ensures.reader in
    let told = works_where c.in-Ok.played.source.met (sym c.failed.ensures ∙ c.if-failed.false) in
    let all = played _ _ _ _ _ (config_of c.args.options.now) c.args.options.now None [] [] c.args.old.now (g.R.ReportsBytes.bytes c.args.keys) End
    c.new.result c.foretold-source.result c.new-2.result c.new-3.result c.new-4.result c.in-Ok.played c.in-Ok.played.display c.in-Ok.played.lines
    c.in-Ok.ensures.edits (λ s. refl) c.new.ensures
    (fresh_coming (own_left g.R.ReportsBytes.bytes) c.args.keys _ _ _ _ fresh.reader_is fresh.unread fresh.none_given fresh.none_met) refl c.foretold-source.ensures.bound
    c.new-2.ensures.empty c.new-3.ensures.empty c.new-4.ensures.empty refl (λ f. f) refl (λ f. f) told in
    c.into_bytes.ensures ∙ lines_by _ _ _ _ _ _ _ _ _ all c.in-Eof.is n low
