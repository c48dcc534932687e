-- What the session begins with; or the display has no box, and nothing was read.
use Rattle.std.proofs.Common.{◌∙◌, refl, subst, sym}
use Rattle.line_help.proofs.RowLemmas.{none_read}
use Rattle.line_screen.specs.ScreenCalls.{screen_of, sink_of}
use Rattle.keyline.specs.SessionCalls.{Unopens}
use Rattle.keyline.specs.Sessions.{coming_from}
use Rattle.keyline.proofs.LinesLemmas.{along}
use Rattle.keyline.proofs.session.Session.open.Goals as goal

pub returns-clause-desk : goal.returns-clause-desk
returns-clause-desk g c =
    let feed = g.S.Source.feed in
    let begun = c.in-Ok-begin.ensures.history in
    record {
      loaded = record { whole = λ always. begun.whole (always c.begin.new.source); history_is = λ always. begun.history_is (always c.begin.new.source) };
      ring = c.in-Ok-begin.ensures.ring;
      query = c.new-4.ensures.bytes;
      coming = c.new-2.ensures.coming c.requires.source ∙ along c.edit_mode.ensures (λ m. coming_from m (feed c.args.source).coming (feed c.args.source).last);
      source_is = c.new-2.ensures.source;
      kept = c.new-2.ensures.kept;
      screen = along c.new-3.ensures screen_of ∙ c.renderer_over.ensures.screen;
      display_is = along c.new-3.ensures sink_of ∙ c.renderer_over.ensures.sink ∙ c.in-Ok.ensures.ok;
      helper_is = refl;
      lines_are = refl;
    }

pub returns-in-Err-clause-refused : goal.returns-in-Err-clause-refused
returns-in-Err-clause-refused g c =
    subst (Unopens g.F.Source.feed c.args.config c.args.history c.args.source c.args.display c.args.lines c.args.text) (sym c.new-in-Err.ensures)
    (record {
      fault = (c.requires.history, λ t. none_read _);
      remains = record { told = λ t. t; last = refl };
      source_is = refl;
      display_is = c.in-Err.ensures.back;
      lines_are = refl;
      text_is = refl;
    })
