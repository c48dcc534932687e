-- The session that was opened and run, and what its devices hold.
use Rattle.std.proofs.Common.{refl, sym, ap, ◌∙◌}
use Rattle.line_keys.specs.CustomBindings.{custom_of}
use Rattle.keyline.specs.Program.{word_texts}
use Rattle.keyline.proofs.TranscriptLemmas.{transcribed}
use Rattle.keyline.proofs.over_memory.transcribe.Goals as goal

pub returns-clause-session : goal.returns-clause-session
returns-clause-session g c =
    let session = c.in_ok-session.session in
    let opened = c.in_ok-session.ensures in
    let decides = g.B.Decides.decides in
    transcribed _ _ _ _ c.args.config session.config (word_texts c.args.words) c.helper_by.result (custom_of c.args.bindings decides) (custom_of session.bindings decides)
    c.args.prompt.now _ c.args.columns c.args.history.now c.args.keys.now c.new.result c.new-2.result c.new-3.result c.new-4.result c.new-5.result session.text
    session.desk c.run-ended.result _ opened.desk c.run-ended.ensures c.helper_by.ensures
    opened.given.config_is (ap (λ b. custom_of b decides) opened.given.bindings_are) opened.given.prompt_is opened.given.text_is
    (λ s. refl) (λ s. refl) c.new.ensures c.new-2.ensures c.new-3.ensures.empty c.new-4.ensures.empty c.new-5.ensures.empty
    (sym c.is_cut.ensures ∙ c.if-is_cut.false) (sym c.failed.ensures ∙ c.if-failed.false)
    c.into_bytes.ensures c.into_bytes-2.ensures c.into_bytes-3.ensures refl c.in_ok-unread.ensures
