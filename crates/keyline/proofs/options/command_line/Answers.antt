use Rattle.std.proofs.Common.{◌∙◌, ap₂}
use Rattle.std.proofs.lemmas.Result.{IfOk-weaker}
use Rattle.clap.specs.Words.{with_rule}
use Rattle.keyline.specs.Options.{command_line}
use Rattle.keyline.proofs.options.command_line.Goals as goal

pub returns : goal.returns
unfolding command_line
returns c =
    let mode = c.in_ok-arg.ensures.shape c.defaulted.ensures.local ∙ ap₂ with_rule c.in_ok-described.ensures c.defaulted.ensures.rule in
    let columns = c.in_ok-arg-2.ensures.shape c.defaulted-2.ensures.local ∙ ap₂ with_rule mode c.defaulted-2.ensures.rule in
    let prompt = c.in_ok-arg-3.ensures.shape c.defaulted-3.ensures.local ∙ ap₂ with_rule columns c.defaulted-3.ensures.rule in
    let history = c.in_ok-arg-4.ensures.shape c.text_option.ensures.local ∙ ap₂ with_rule prompt c.text_option.ensures.rule in
    let size = c.in_ok-arg-5.ensures.shape c.text_option-2.ensures.local ∙ ap₂ with_rule history c.text_option-2.ensures.rule in
    let words = c.in_ok-arg-6.ensures.shape c.text_option-3.ensures.local ∙ ap₂ with_rule size c.text_option-3.ensures.rule in
    IfOk-weaker c.arg-7.result _ _ (λ command adds. adds.shape c.flag.ensures.local ∙ ap₂ with_rule words c.flag.ensures.rule) c.arg-7.ensures
