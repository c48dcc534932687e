-- The walk over the rows that are moved: what was told so far, and what is left to tell.
use Rattle.std.proofs.Common.{◌≡◌, ℕ, ◌+◌, ◌-◌, ◌<◌, ◌≤◌, Bool, true, false, List, [], ◌∷◌, ◌++◌, inl, inr, length, get_or, take, drop, refl, sym, ap, ◌∙◌, subst, arith, append_assoc, IsUtf8, IsCharBoundary, slice_range}
use Rattle.std.specs.List.{prefix_len}
use Rattle.std.proofs.lemmas.List.{length-drop, drop-drop, drop-take, take-take, take_all, get_or-take, get_or-drop}
use Rattle.std.proofs.lemmas.List.Edits.{length-between}
use Rattle.std.proofs.lemmas.Str.{IsCharBoundary-from_drop, IsCharBoundary-after_ascii, IsUtf8-drop}
use Rattle.line_buffer.specs.declared.types.Movement.{Movement}
use Rattle.line_buffer.specs.Edit.{StopsAt, SameSettings}
use Rattle.line_buffer.specs.Event.{ChangeEvent, Replays, Reports, TellsOfChange, wants_or, line_after_event, line_after_events}
use Rattle.line_buffer.specs.Indent.{rows_covered, spaces, indent, rows_of, row_event, row_len, row_events}
use Rattle.line_buffer.specs.Line.{Line}
use Rattle.line_buffer.specs.Rows.{is_in_row, row_start, row_end}
use Rattle.line_buffer.proofs.IndentLemmas.{rows_last, rows_more}
use Rattle.line_buffer.proofs.LeftLemmas.{carried_all-append, stopped_as, stopped_first, stopped_later}
use Rattle.line_buffer.proofs.ReplayLemmas.{reports_one, reports_then, reports_nothing}
use Rattle.line_buffer.proofs.RowLemmas.{prefix_len-stops}

-- there is a first row in any text
pub row_events-some : (margin : List ℕ) (dedent : Bool) (at : ℕ) (text : List ℕ)
    → (never : List ChangeEvent) × (row_events margin dedent at (rows_of text) ≡ row_event margin dedent at (take (prefix_len is_in_row text) text) ∷ never)
unfolding row_events
row_events-some margin dedent at text = elim (prefix_len-stops text) [
  | inl e ↦ (
    [],
    ap (row_events margin dedent at) (rows_last text e)
        ∙ ap (λ x. row_event margin dedent at x ∷ []) (sym (take_all (prefix_len is_in_row text) text (omega (arith, e)))),
  )
  | inr h ↦ (_, ap (row_events margin dedent at) (rows_more text h.0))
]

pub row_event_tells : (margin : List ℕ) (dedent : Bool) (at : ℕ) (row : List ℕ) → TellsOfChange (row_event margin dedent at row)
row_event_tells margin true at row = tt
row_event_tells margin false at row = tt

-- events, the first of which tells of a change
pub record SomeChange (all : List ChangeEvent) : Type 0 where
  pub first : ChangeEvent
  pub never : List ChangeEvent
  pub tells : TellsOfChange first
  pub events : all ≡ first ∷ never

pub indent_events-some : (movement : Movement) (amount : ℕ) (dedent : Bool) (l : Line) → SomeChange (indent movement amount dedent l).events
indent_events-some movement amount dedent l =
    let first = row_start l.text (rows_covered movement l).0 in
    let text = slice_range l.text first (row_end l.text (rows_covered movement l).1) in
    let some = row_events-some (spaces amount) dedent first text in
    record {
      first = row_event (spaces amount) dedent first (take (prefix_len is_in_row text) text);
      never = some.0;
      tells = row_event_tells (spaces amount) dedent first (take (prefix_len is_in_row text) text);
      events = some.1;
    }

-- of the events `all` those before the row at a place were told, and led from one line to the other
pub record RowsTold {S : Type 0} (takes : S → ChangeEvent → S → Type 0) (margin : List ℕ) (dedent : Bool) (all : List ChangeEvent) (s t : S) (l m : Line) (at last : ℕ) : Type 0 where
  pub done : List ChangeEvent
  pub split : all ≡ done ++ row_events margin dedent at (rows_of (slice_range m.text at last))
  pub reported : Reports takes done s t l.text m.text
  pub line : m ≡ line_after_events done l
  pub order : at ≤ last
  pub start : IsCharBoundary m.text at
  pub end : IsCharBoundary m.text last
  pub settings : SameSettings l m

pub rows_told_init : {S : Type 0} (takes : S → ChangeEvent → S → Type 0) (margin : List ℕ) (dedent : Bool) (s : S) (l : Line) (at last : ℕ) → at ≤ last → IsCharBoundary l.text at → IsCharBoundary l.text last
    → RowsTold takes margin dedent (row_events margin dedent at (rows_of (slice_range l.text at last))) s s l l at last
unfolding line_after_events
rows_told_init takes margin dedent s l at last o b e = record {
  done = [];
  split = refl;
  reported = reports_nothing takes s l.text;
  line = refl;
  order = o;
  start = b;
  end = e;
  settings = record { growth = refl; limit = refl };
}

module _ {S : Type 0} (takes refuses : S → ChangeEvent → S → Type 0) (margin : List ℕ) (dedent : Bool) (all : List ChangeEvent) (s t : S) (l m : Line) (at last : ℕ)
    (w : RowsTold takes margin dedent all s t l m at last) (end : ℕ) (ends : end ≡ at + prefix_len is_in_row (slice_range m.text at last)) where
  abbrev rows : List ℕ
  rows = slice_range m.text at last

  abbrev width : ℕ
  width = prefix_len is_in_row rows

  abbrev row : List ℕ
  row = slice_range m.text at end

  size : length rows ≡ last - at
  size = length-between m.text at last w.end.0

  short : width ≤ length rows
  short = elim (prefix_len-stops rows) [ inl e ↦ omega (arith, e) | inr h ↦ omega (arith, h.0) ]

  row_is : take width rows ≡ row
  row_is = take-take width (last - at) (drop at m.text) (omega (arith, short, size)) ∙ ap (λ k. take k (drop at m.text)) (let k : width ≡ end - at = omega (arith, ends) in k)

  -- the row failed, or no memory was found for it: the line is what those before it made
  pub row_stops : (u : S) (n : Line) → wants_or refuses t (row_event margin dedent at row) u → n ≡ m → StopsAt takes (wants_or refuses) [] all s u l n
  row_stops u n h same =
      let first = row_events-some margin dedent at rows in
      let here : row_events margin dedent at (rows_of rows) ≡ row_event margin dedent at row ∷ first.0 = first.1 ∙ ap (λ x. row_event margin dedent at x ∷ first.0) row_is in
      stopped_as (sym w.split) refl
      (stopped_later w.reported w.line (stopped_first takes (wants_or refuses) _ first.0 (row_event margin dedent at row) t u m n here (row_event_tells margin dedent at row) h same))

  module _ (u : S) (n : Line) (changed : ℕ) (told : takes t (row_event margin dedent at row) u) (replays : Replays (row_event margin dedent at row) m.text n.text)
      (line : n ≡ line_after_event (row_event margin dedent at row) m) (answer : changed ≡ at + row_len margin dedent row) where
    abbrev more : List ChangeEvent
    more = w.done ++ (row_event margin dedent at row ∷ [])

    reports_more : Reports takes more s u l.text n.text
    reports_more = reports_then w.reported (reports_one takes (row_event margin dedent at row) t u m.text n.text told replays)

    line_more : n ≡ line_after_events more l
    unfolding line_after_events
    line_more =
        line ∙ ap (line_after_event (row_event margin dedent at row)) w.line ∙ sym (carried_all-append w.done (row_event margin dedent at row ∷ []) l)

    pub settings_more : SameSettings l n
    settings_more = record { growth = ap (λ x. x.growth) line ∙ w.settings.growth; limit = ap (λ x. x.limit) line ∙ w.settings.limit }

    -- it was the last one
    pub rows_told_all : end ≡ last → Reports takes all s u l.text n.text × (n ≡ line_after_events all l)
    unfolding row_events
    rows_told_all e = (subst (λ es. Reports takes es s u l.text n.text) (sym whole) reports_more, line_more ∙ ap (λ es. line_after_events es l) (sym whole))
      where
        none_after : width ≡ length rows
        none_after = omega (arith, e, ends, size, w.order)

        whole : all ≡ more
        whole =
            w.split ∙ ap (λ rs. w.done ++ row_events margin dedent at rs) (rows_last rows none_after)
            ∙ ap (λ r. w.done ++ (row_event margin dedent at r ∷ [])) (sym (take_all width rows (omega (arith, none_after))) ∙ row_is)

    -- more rows follow
    pub rows_told_more : end < last → IsUtf8 m.text → changed ≤ length n.text → drop changed n.text ≡ drop end m.text
        → RowsTold takes margin dedent all s u l n (changed + 1) ((last - end) + changed)
    unfolding row_events
    rows_told_more less utf8 inside rest = record {
      done = more;
      split = split;
      reported = reports_more;
      line = line_more;
      order = omega (arith, less);
      start = IsCharBoundary-from_drop n.text (changed + 1) (omega (arith, longer, less, w.end.0, inside)) (subst IsUtf8 (sym behind_next) (IsUtf8-drop m.text (end + 1) utf8 next));
      end = IsCharBoundary-from_drop n.text ((last - end) + changed) (omega (arith, longer, less, w.end.0, inside)) (subst IsUtf8 (sym behind_last) (IsUtf8-drop m.text last utf8 w.end));
      settings = settings_more;
    }
      where
        longer : length n.text - changed ≡ length m.text - end
        longer = sym (length-drop changed n.text) ∙ ap length rest ∙ length-drop end m.text

        newline : get_or m.text end 0 ≡ 10
        newline = elim (prefix_len-stops rows) [
          | inl e ↦ absurd (omega (arith, e, ends, size, less, w.order))
          | inr h ↦ rw ends (sym (get_or-drop at m.text width 0) ∙ sym (get_or-take (last - at) (drop at m.text) width 0 (omega (arith, h.0, size))) ∙ h.1)
        ]

        next : IsCharBoundary m.text (end + 1)
        next = IsCharBoundary-after_ascii m.text end utf8 (omega (arith, less, w.end.0)) (omega (arith, newline))

        behind_next : drop (changed + 1) n.text ≡ drop (end + 1) m.text
        behind_next = sym (drop-drop 1 changed n.text) ∙ ap (drop 1) rest ∙ drop-drop 1 end m.text

        behind_last : drop ((last - end) + changed) n.text ≡ drop last m.text
        behind_last =
            ap (λ k. drop k n.text) (let k : (last - end) + changed ≡ changed + (last - end) = omega arith in k) ∙ sym (drop-drop (last - end) changed n.text) ∙ ap (drop (last - end)) rest
            ∙ drop-drop (last - end) end m.text ∙ ap (λ k. drop k m.text) (let k : end + (last - end) ≡ last = omega (arith, less) in k)

        remaining : drop (width + 1) rows ≡ slice_range n.text (changed + 1) ((last - end) + changed)
        remaining =
            ap (λ k. drop (width + 1) (take k (drop at m.text))) (let k : last - at ≡ (width + 1) + (last - (end + 1)) = omega (arith, ends, less, w.order) in k)
            ∙ drop-take (width + 1) (last - (end + 1)) (drop at m.text) ∙ ap (take (last - (end + 1))) (drop-drop (width + 1) at m.text ∙ ap (λ k. drop k m.text) (let k : at + (width + 1) ≡ end + 1 = omega (arith, ends) in k))
            ∙ ap (take (last - (end + 1))) (sym behind_next) ∙ ap (λ k. take k (drop (changed + 1) n.text)) (let k : last - (end + 1) ≡ ((last - end) + changed) - (changed + 1) = omega (arith, less) in k)

        split : all ≡ more ++ row_events margin dedent (changed + 1) (rows_of (slice_range n.text (changed + 1) ((last - end) + changed)))
        split =
            w.split ∙ ap (λ rs. w.done ++ row_events margin dedent at rs) (rows_more rows (omega (arith, ends, size, less)))
            ∙ ap (λ r. w.done ++ (row_event margin dedent at r ∷ row_events margin dedent (at + row_len margin dedent r + 1) (rows_of (drop (width + 1) rows)))) row_is
            ∙ ap (λ k. w.done ++ (row_event margin dedent at row ∷ row_events margin dedent (k + 1) (rows_of (drop (width + 1) rows)))) (sym answer)
            ∙ ap (λ xs. w.done ++ (row_event margin dedent at row ∷ row_events margin dedent (changed + 1) (rows_of xs))) remaining
            ∙ sym (append_assoc w.done (row_event margin dedent at row ∷ []) _)
