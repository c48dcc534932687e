use Rattle.line_editor.proofs.KnownLemmas.{known_at}
use Rattle.line_editor.proofs.state.State.draw_from.Goals as goal

pub layout_from-layout-requires : goal.layout_from-layout-requires
layout_from-layout-requires g c =
    let s = c.args.self.now in
    record { known = known_at (g.Out.Renderer.canvas.ruler s.out).measure s.layout.prompt_size s.recorded.line.text c.args.from c.position_at-at.result c.requires.boundary.0 c.position_at-at.ensures }
