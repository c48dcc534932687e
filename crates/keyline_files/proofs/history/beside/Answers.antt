use Rattle.std.proofs.Common.{◌≡◌, ◌∙◌, ◌++◌, ◌∷◌, [], ap, ap₂, arith, lit<, string_bytes}
use Rattle.keyline_files.proofs.PathLemmas.{behind_folder}
use Rattle.keyline_files.proofs.history.beside.Goals as goal

pub returns-in_ok-push_str-in-Some : goal.returns-in_ok-push_str-in-Some
returns-in_ok-push_str-in-Some c =
    let split = c.in-Some.ensures.cases in
    let relative = c.if-not-starts_with.true in
    let folder : string_bytes c.push.new.self ≡ c.in-Some.folder.now ++ 47 ∷ [] =
    c.in_ok-push-in-Some.ensures.bytes ∙ ap₂ (λ s t. s ++ t) c.in_ok-seen-in-Some.ensures.ok (c.push.ensures.ascii (lit< tt)) in
    behind_folder c.args.other.now c.args.path.now _ _ c.starts_with.result split.0 split.1
    (c.starts_with.ensures.byte (lit< tt) (lit< tt) (λ w o h. h)) (grind (arith, relative)) split.2 split.3
    (c.in_ok-push_str-in-Some.ensures.bytes ∙ ap (λ s. s ++ c.args.path.now) folder)
