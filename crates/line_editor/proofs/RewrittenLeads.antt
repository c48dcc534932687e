-- Characters that are replaced by as many lead from what is to be seen of the value before to the same of the value after.
use Rattle.std.proofs.Common.{◌≡◌, ℕ, ◌+◌, ◌-◌, nat_le, true, ◌&&◌, List, [], ◌∷◌, ◌++◌, take, drop, length, refl, sym, ap, ◌∙◌, append_assoc, arith}
use Rattle.std.specs.Prelude.{slice_range}
use Rattle.std.specs.List.{list_all, replace_range}
use Rattle.std.proofs.lemmas.Bool.{and_parts, leb-true, cond-false, cond_both}
use Rattle.std.proofs.lemmas.List.{take-append-drop, length-take-le}
use Rattle.std.proofs.lemmas.List.Folds.{drop_split}
use Rattle.unicode_segmentation.proofs.TextLemmas.{length-slice_range}
use Rattle.line_buffer.specs.Line.{Line}
use Rattle.line_buffer.specs.Printable.{is_printable, is_plain}
use Rattle.line_buffer.specs.Transpositions.{transposes_chars, transpose_chars as transposed_in}
use Rattle.line_edits.specs.Edits.{transpose_chars_group, by}
use Rattle.line_edits.specs.WriteSteps.{with_answer}
use Rattle.line_editor.specs.Drawing.{ask_anew_effect, effect_if}
use Rattle.line_editor.specs.Inserting.{is_bare}
use Rattle.line_editor.specs.Leads.{Leads}
use Rattle.line_editor.specs.Redraws.Redraw.{Rewritten}
use Rattle.line_editor.specs.Transforms.{has_letters, may_be_rewritten, show_rewritten_effect, refresh_over_effect, pair_end, transpose_chars_effect}
use Rattle.line_editor.specs.Values.{Value, Setting, no_effect, hint_reply, value_with_edit}
use Rattle.line_editor.specs.Values.EditStep.{Draws}
use Rattle.line_editor.proofs.LeadLemmas.{either, bare_styles, edit_leads, help_leads, rest_leads, whole_leads}
use Rattle.line_editor.proofs.TransposedLemmas.{exchanged}
use Rattle.line_editor.specs.Sights.{Replaces, sight_of}
use Rattle.line_editor.specs.Redraws.{Redraw}

-- letters in a part of the text, replaced by as many
module _ (s : Setting) (v w : Value) (from upto : ℕ) (letters : List ℕ) (text : w.line.text ≡ replace_range v.line.text from upto letters) (size : upto ≡ from + length letters)
    (printable : list_all is_printable (slice_range v.line.text from upto) ≡ true → list_all is_printable letters ≡ true) where
  rewritten_leads : may_be_rewritten s from upto v ≡ true → has_letters from upto w ≡ true → Leads s v (record { value = w; steps = Draws w s.marks (Rewritten s.prompt from upto w.line.text w.line.place) ∷ [] })
  rewritten_leads may has info =
      let old = v.line.text in
      let gone = slice_range old from upto in
      let a = and_parts s.config.partial_redraw (has_letters from upto v) may in
      let b = and_parts (is_bare v) (is_plain old && (nat_le upto (length old) && list_all is_printable gone)) a.1 in
      let d = and_parts (is_plain old) (nat_le upto (length old) && list_all is_printable gone) b.1 in
      let e = and_parts (nat_le upto (length old)) (list_all is_printable gone) d.1 in
      let low = leb-true upto (length old) e.0 in
      let front : length (take from old) ≡ from = length-take-le from old (omega arith) in
      let count : length gone ≡ upto - from = length-slice_range old from upto low in
      let seen : Replaces (sight_of s v info) from gone letters w.line.text = record {
        before = take from old;
        rest = drop upto old;
        whole = sym (take-append-drop from old) ∙ ap (λ x. take from old ++ x) (drop_split old from upto (omega arith));
        text_is = text ∙ append_assoc (take from old) letters (drop upto old);
        from_is = sym front;
        plain = d.0;
        gone_printable = e.1;
        printable = printable e.1;
      } in
      record { fits = ((bare_styles s v w info b.0 (and_parts (is_bare w) _ has).0, (gone, letters, seen, omega arith, omega arith)), tt); leads = refl }

-- the transposed characters
module _ (s : Setting) (v w : Value) (line : w.line ≡ (transposed_in v.line).line) (done : transposes_chars v.line ≡ true) where
  abbrev end : ℕ
  end = pair_end v.line

  abbrev from : ℕ
  from = end - 2

  letters_lead : may_be_rewritten s from end v ≡ true → has_letters from end w ≡ true → Leads s v (record { value = w; steps = Draws w s.marks (Rewritten s.prompt from end w.line.text w.line.place) ∷ [] })
  letters_lead may has =
      let old = v.line.text in
      let gone = slice_range old from end in
      let b = and_parts (is_bare v) (is_plain old && (nat_le end (length old) && list_all is_printable gone)) (and_parts s.config.partial_redraw (has_letters from end v) may).1 in
      let d = and_parts (is_plain old) (nat_le end (length old) && list_all is_printable gone) b.1 in
      let low = leb-true end (length old) (and_parts (nat_le end (length old)) (list_all is_printable gone) d.1).0 in
      let x = exchanged v.line d.0 done low in
      rewritten_leads s v w from end x.letters (ap (λ (l : Line). l.text) (line ∙ x.line)) x.size x.printable may has

  shown_leads : Leads s v (show_rewritten_effect (may_be_rewritten s from end v) from end s w)
  shown_leads =
      let drawn : Redraw → Type 0 = λ x. Leads s v (record { value = w; steps = Draws w s.marks x ∷ [] }) in
      cond_both (may_be_rewritten s from end v && has_letters from end w) _ _ drawn
      (λ e. let parts = and_parts (may_be_rewritten s from end v) (has_letters from end w) e in letters_lead parts.0 parts.1) (λ e. whole_leads s v w)

pub chars_lead : (s : Setting) (v : Value) → Leads s v (transpose_chars_effect s v)
chars_lead s v =
    let w = value_with_edit (by transpose_chars_group) v in
    let end = pair_end v.line in
    let over = may_be_rewritten s (end - 2) end v in
    edit_leads (with_answer tt (transpose_chars_group v.line)) s v v (effect_if (transposes_chars v.line) (refresh_over_effect over (end - 2) end) s w)
    (either s v (transposes_chars v.line) (refresh_over_effect over (end - 2) end s w) (no_effect s w)
    (λ e. help_leads w (hint_reply s w) s v (show_rewritten_effect over (end - 2) end s (ask_anew_effect s w).value) (shown_leads s v (ask_anew_effect s w).value refl e))
    (λ e. rest_leads s v w (cond-false (transposes_chars v.line) _ v.line e, refl, refl)))
