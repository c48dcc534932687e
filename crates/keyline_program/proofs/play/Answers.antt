-- The session is that of the reader that std gave, by the invocation's settings or without colours.
use Rattle.std.proofs.Common.{Result, Ok, Err, subst}
use Rattle.std.proofs.lemmas.Result.{IfErr-weaker}
use Rattle.std.specs.Prelude.{IfOk}
use Rattle.line_config.specs.declared.config.Config.{Config}
use Rattle.keyline.specs.Program.{IsByEnvironment, invoked_config}
use Rattle.keyline.proofs.EnvironmentLemmas.{load_refused}
use Rattle.keyline_program.proofs.play.Goals as goal

of_keys : {A E K : Type 0} (r : Result A E) (P : K → Config → A → Type 0) (keys : K) (invoked config : Config) → IsByEnvironment invoked config
    → IfOk r (P keys config) → IfOk r (λ played. (k : K) × (c : Config) × IsByEnvironment invoked c × P k c played)
of_keys (Ok played) P keys invoked config is h = (keys, config, is, h)
of_keys (Err e) P keys invoked config is h = tt

pub returns-clause-plays : goal.returns-clause-plays
returns-clause-plays g c =
    let invoked = invoked_config c.args.invocation.now in
    of_keys c.play_with.result _ c.stdin.result invoked c.by_environment.result
    (subst (λ (x : Config). IsByEnvironment x c.by_environment.result) c.invoked_config.ensures c.by_environment.ensures) c.play_with.ensures.plays

pub returns-clause-refused : goal.returns-clause-refused
returns-clause-refused g c =
    let invoked = invoked_config c.args.invocation.now in
    let by = subst (λ (x : Config). IsByEnvironment x c.by_environment.result) c.invoked_config.ensures c.by_environment.ensures in
    IfErr-weaker c.play_with.result _ _ (λ unopened u. load_refused invoked c.by_environment.result _ _ _ by u.fault) c.play_with.ensures.refused
