use Rattle.std.proofs.Common.{◌≡◌, ℕ, List, false, None, refl, sym, ap, ◌∙◌}
use Rattle.std.specs.List.{last_or}
use denote.Enum.Bare.{sameb}
use Rattle.line_buffer.specs.contracts.types.At as At
use Rattle.line_buffer.specs.contracts.types.Word as Word
use Rattle.line_buffer.specs.declared.types.At.TheVariants.{Start, BeforeEnd, AfterEnd}
use Rattle.line_buffer.specs.declared.types.Word.TheVariants.{Emacs}
use Rattle.line_buffer.specs.declared.types.At as AtType
use Rattle.line_buffer.specs.declared.types.Word as WordType
use Rattle.line_buffer.specs.Clusters.{clusters}
use Rattle.line_buffer.specs.Words.{last_stop}
use Rattle.line_buffer.proofs.StopLemmas.{later_last-read, later_last}
use Rattle.line_buffer.proofs.words.last_stop.Goals as goal

no_end : (at : AtType.At) (word : WordType.Word) (text : List ℕ) → false ≡ sameb At.the_type at AfterEnd → false ≡ sameb Word.the_type word Emacs → last_stop at word text ≡ later_last (clusters text)
no_end Start Emacs text a w = absurd (cc)
no_end BeforeEnd Emacs text a w = absurd (cc)
no_end AfterEnd word text a w = absurd (cc)
no_end _ _ text a w = refl

pub returns-in-Some : goal.returns-in-Some
returns-in-Some c =
    sym (ap (last_or None) (no_end c.args.at c.args.word c.args.text.now c.if-eq.ensures c.if-eq-2.ensures ∙ ap later_last (sym c.grapheme_indices-clusters.ensures.left)
    ∙ later_last-read (λ x. (x.0, x.1.now)) c.next.result _ _ _ (c.in-Some.i, c.in-Some.field-0-1.now) c.next.ensures.steps c.in-Some.ensures.steps))
