-- The kill ring, computed at some runs.
use Rattle.std.proofs.Common.{◌≡◌, ℕ, List, [], ◌∷◌, Option, Some, None, refl, codes, slice_get}
use Rattle.line_buffer.specs.declared.types.Mode.TheVariants.{Append, Prepend}
use Rattle.line_record.specs.declared.kill_ring.Action.TheVariants.{Other}
use Rattle.line_buffer.specs.Event.ChangeEvent.{StartKilling, StopKilling, Delete, InsertChar}
use Rattle.line_buffer.specs.declared.types.Direction.TheVariants.{Forward, Backward}
use Rattle.line_record.specs.Ring.{RingCall, no_kills, Ring, new_ring, ring_with_kill, ring_after_yank, ring_after_turn, yank_exchange, kills_after, ring_after}
use Rattle.line_record.specs.Ring.RingCall.{Taken, Heard, Ended, Lent}
use Rattle.std.specs.List.{fold}
use Rattle.std.specs.Prelude.{suc, take, drop, reverse, ◌++◌}

abbrev ended_run : Ring → Ring
ended_run r = record r { last = Other }

abbrev lent : Ring → Option (List ℕ)
lent r = slice_get r.slots r.place

abbrev newest_first : Ring → List (List ℕ)
newest_first r = reverse (take (suc r.place) r.slots) ++ reverse (drop (suc r.place) r.slots)

abbrev two_kills : Ring
two_kills = ring_after_yank (ring_with_kill (codes "c") Append (ended_run (ring_with_kill (codes "ab") Append (new_ring 2))))

-- the newest is yanked, then comes the older, then the ring comes round
yanked_in_turn :
    (lent two_kills ≡ Some (codes "c"))
    × (yank_exchange two_kills ≡ Some (1, codes "ab"))
    × (yank_exchange (ring_after_turn two_kills) ≡ Some (2, codes "c"))
yanked_in_turn = (refl, refl, refl)

kills_in_a_row_join : lent (ring_with_kill (codes "c") Append (ring_with_kill (codes "a") Prepend (ring_with_kill (codes "b") Append (new_ring 3)))) ≡ Some (codes "abc")
kills_in_a_row_join = refl

a_ring_of_none_keeps_nothing : lent (ring_with_kill (codes "a") Append (new_ring 0)) ≡ None
a_ring_of_none_keeps_nothing = refl

a_full_ring_forgets_the_oldest : (ring_with_kill (codes "c") Append (ended_run (ring_with_kill (codes "b") Append (ended_run (ring_with_kill (codes "a") Append (new_ring 2)))))).slots
    ≡ codes "c" ∷ (codes "b" ∷ [])
a_full_ring_forgets_the_oldest = refl

nothing_turns_without_a_yank : yank_exchange (ring_with_kill (codes "a") Append (new_ring 2)) ≡ None
nothing_turns_without_a_yank = refl

-- a run of two kills, a kill by itself, and a run of a deletion on and a deletion back between the marks of killing, with a letter
-- typed between them
three_runs : List RingCall
three_runs = Taken (codes "b") Append ∷ (Taken (codes "a") Prepend ∷ (Ended ∷ (Taken (codes "c") Append ∷ (Lent ∷ (Heard (Delete 0 (codes "x") Forward)
    ∷ (Heard StartKilling ∷ (Heard (Delete 0 (codes "e") Forward) ∷ (Heard (InsertChar 0 102) ∷ (Heard (Delete 0 (codes "d") Backward) ∷ (Heard StopKilling ∷ []))))))))))

-- the runs are three: a ring of two holds the last two, a larger one all
runs_held :
    ((fold kills_after no_kills three_runs).runs ≡ codes "de" ∷ (codes "c" ∷ (codes "ab" ∷ [])))
    × (newest_first (fold ring_after (new_ring 2) three_runs) ≡ codes "de" ∷ (codes "c" ∷ []))
    × (newest_first (fold ring_after (new_ring 5) three_runs) ≡ codes "de" ∷ (codes "c" ∷ (codes "ab" ∷ [])))
unfolding three_runs
runs_held = (refl, refl, refl)
