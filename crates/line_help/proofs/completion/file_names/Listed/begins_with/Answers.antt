use Rattle.std.proofs.Common.{◌≡◌, ◌∙◌, ap, nat_eq, rules}
use Rattle.std.specs.List.{starts_with}
use Rattle.std.proofs.lemmas.Str.Pattern.{starts_text}
use Rattle.line_help.proofs.completion.file_names.Listed.begins_with.Goals as goal

pub returns : goal.returns
returns c =
    let text : c.as_str.result.now ≡ c.args.self.now.name = search rules in
    starts_text c.starts_with.result c.args.name.now c.as_str.result.now c.starts_with.ensures.cases
    ∙ ap (λ name. starts_with nat_eq name c.args.name.now) text
