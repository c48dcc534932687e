-- Clusters replaced by characters, if a step fails.
use Rattle.std.specs.Prelude.{Ok, ⊤}
use Rattle.std.proofs.Common.{◌≡◌, ℕ, subst}
use Rattle.line_buffer.specs.Insertions.{insert}
use Rattle.line_buffer.specs.Clusters.{place_backward}
use Rattle.line_buffer.specs.Line.{Line, with_cursor_at}
use Rattle.line_buffer.specs.Range.{delete}
use Rattle.line_record.specs.Items.{Items}
use Rattle.line_edits.specs.Edits.{char_steps, delete_steps, exchange_steps}
use Rattle.line_edits.specs.WriteSteps.{CutAlong, Leaves, WriteSteps, effect_of_steps, in_turn, single_step, Written, Writes, line_and_record}
use Rattle.line_edits.proofs.StepLemmas.{along_before, along_behind, written_is}

-- the cursor goes one cluster back
abbrev back_steps : Line → WriteSteps ⊤
back_steps l = single_step (Leaves (with_cursor_at (place_backward 1 l) l)) tt

-- the clusters stay if that fails
pub deletion_stopped : (c n count : ℕ) (l : Line) (w v : Written) → CutAlong (delete_steps n l).steps w v → CutAlong (exchange_steps c n count l).steps w v
deletion_stopped c n count l w v stops =
    let bare = (delete n l).line in
    along_before (delete_steps n l).steps (in_turn (char_steps c count bare) (back_steps (insert c count bare).line)).steps w v stops

-- the characters failed, and the clusters are deleted
pub exchange_stopped : {E : Type 0} (c n count k : ℕ) (l m after : Line) (old mid new : Items) → k ≡ count → Writes {E = E} (effect_of_steps (delete_steps n l).steps) (tt {0}) l m old mid (Ok (tt {0}))
    → CutAlong (char_steps c k m).steps (line_and_record m mid) (line_and_record after new) → CutAlong (exchange_steps c n count l).steps (line_and_record l old) (line_and_record after new)
exchange_stopped c n count k l m after old mid new is out stops =
    let bare = (delete n l).line in
    let back = back_steps (insert c count bare).line in
    along_behind (delete_steps n l).steps (in_turn (char_steps c count bare) back).steps (line_and_record l old) (line_and_record after new)
    (along_before (char_steps c count bare).steps back.steps _ _
    (subst (λ w. CutAlong (char_steps c count bare).steps w (line_and_record after new)) (written_is out)
    (subst (λ x. CutAlong (char_steps c count x).steps (line_and_record m mid) (line_and_record after new)) out.line
    (subst (λ x. CutAlong (char_steps c x m).steps (line_and_record m mid) (line_and_record after new)) is stops))))
