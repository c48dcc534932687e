use Rattle.std.proofs.Common.{sym, subst, true, ◌≡◌}
use Rattle.line_config.specs.declared.config.Config.{Config}
use Rattle.keyline_call.proofs.LineLemmas.{adds_lines, keys_read}
use Rattle.keyline_call.proofs.export.play.Goals as goal

pub read_line-requires-clause-adds : goal.read_line-requires-clause-adds
read_line-requires-clause-adds c = subst (λ (x : Config). x.auto_add_history ≡ true) (sym c.settings_by-config.ensures) (adds_lines c.args.options.now c.in_ok-chosen.chosen)

pub returns : goal.returns
returns c =
    let v = c.in-Some.ensures in
    keys_read c.args.options.now c.args.handed.now.prompt.now c.args.handed.now.words.now c.args.handed.now.history.now c.args.handed.now.kills.now c.args.handed.now.ends.now v.0 _ c.args.handed.now.keys.now c.args.handed.now.asks.now c.in_ok-read_line.field-0
    c.in_ok-chosen.chosen c.settings_by-config.result c.in_ok-bindings.bindings c.in_ok-ring.ring _ _ c.in-Some.prompt.now v.2 c.in_ok-chosen.ensures c.settings_by-config.ensures c.in_ok-ring.ensures c.in_ok-words.ensures
    c.in_ok-history.ensures c.in_ok-bindings.ensures c.in_ok-read_line.ensures
