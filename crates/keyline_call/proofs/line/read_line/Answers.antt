-- What `run` leaves of the keys, by the options.
use Rattle.std.proofs.Common.{refl, ◌∙◌, ap, length}
use Rattle.std.specs.Prelude.{string_bytes}
use Rattle.line_config.specs.Feed.{Feed}
use Rattle.line_config.specs.contracts.memory.SliceSourceSource.TheImpl as slice_source
use Rattle.line_config.specs.contracts.memory.VecSinkSink.TheImpl as vec_sink
use Rattle.line_config.specs.declared.memory.SliceSource.{SliceSource}
use Rattle.keyline.specs.Program.{word_texts}
use Rattle.keyline.specs.Sessions.{coming_from}
use Rattle.keyline_call.specs.Lines.{last_of}
use Rattle.keyline_call.proofs.LineLemmas.{bound_at, line_read}
use Rattle.keyline_call.proofs.line.read_line.Goals as goal

pub returns : goal.returns
returns c =
    line_read _ _ _ c.args.config.now c.args.options.now (word_texts c.args.words) c.args.keys.now (last_of c.args.ended) _ _ c.as_str-prompt.result.now c.helper_of-helper.result
    c.renderer_over-out.result _ c.args.ring _ (string_bytes c.new-last_query.result) _ c.args.history _ _ _ c.run-out.result slice_source.ghosts.feed c.run-out.new.reader _
    c.run-out.ensures refl c.in_ok-end_line.ensures.ends (ap vec_sink.ghosts.held c.renderer_over-out.ensures.sink ∙ c.new.ensures.empty)
    c.requires.adds refl c.as_str-prompt.ensures.value c.helper_of-helper.ensures c.renderer_over-out.ensures.screen
    (c.new-reader.ensures.coming (ap (λ (f : Feed). f.failed) c.source_of.ensures) ∙ ap (λ (f : Feed). coming_from c.args.options.now.mode f.coming f.last) c.source_of.ensures)
    (bound_at _ _ _ c.new-reader.ensures.kept
    (ap (λ (s : SliceSource). length s.bytes.now) c.new-reader.ensures.source ∙ ap (λ (f : Feed). f.bound) c.source_of.ensures))
    c.new-last_query.ensures.bytes refl refl c.into_sink.ensures refl refl c.count_rest.ensures refl
