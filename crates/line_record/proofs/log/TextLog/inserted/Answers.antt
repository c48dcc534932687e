use Rattle.std.proofs.Common.{List, ℕ, string_bytes, sym, ap, subst, ◌∙◌, get_or}
use Rattle.line_record.specs.Change.{Change}
use Rattle.line_record.specs.Held.{text_inserted_by}
use Rattle.line_record.specs.Log.{edit_in, Spelt}
use Rattle.line_record.proofs.LogLemmas.{entry_at, EntryAt}
use Rattle.line_record.proofs.log.TextLog.inserted.Goals as goal

here : (c : goal.After-deref) → EntryAt (string_bytes c.self.inside.text) c.self.inside.entries.items c.args.index c.index.result.now
here c =
    entry_at (string_bytes c.self.inside.text) c.self.inside.entries.items c.args.self.now c.args.index c.index.result.now c.self.invariant c.self.view_is
    c.requires c.index.ensures

pub inserted-requires : goal.inserted-requires
inserted-requires c = subst (λ (t : List ℕ). Spelt t c.index.result.now) (sym c.deref.ensures) (here c).spelt

pub returns : goal.returns
returns c = λ d.
    c.inserted.ensures ∙ ap (λ (t : List ℕ). text_inserted_by (edit_in t c.index.result.now)) c.deref.ensures ∙ sym (ap text_inserted_by ((here c.before).edit d))
    ∙ ap (λ (es : List Change). text_inserted_by (get_or es c.args.index d)) c.self.view_is
