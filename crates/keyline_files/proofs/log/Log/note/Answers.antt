use Rattle.std.proofs.Common.{[], ◌++◌}
use base.Fml.{Lft}
use contract.BorrowLft.{◌⊑◌, ⊑_meet, ⊑_static}
use Rattle.keyline_files.proofs.log.Log.note.Goals as goal

with_ref : (κ k more : Lft) → κ ⊑ k → κ ⊑ more → κ ⊑ (k ++ []) ++ more
with_ref κ k more within later = ⊑_meet κ (k ++ []) more (⊑_meet κ k [] within (⊑_static κ)) later

-- what is handed in outlives the call
pub noted-requires : goal.noted-requires
noted-requires c κs within =
    let all = with_ref κs.1.0 _ _ within.0 (with_ref κs.1.0 _ _ within.1.0 (with_ref κs.1.0 _ _ within.1.1.0 (with_ref κs.1.0 _ _ within.1.1.1.0 (⊑_static κs.1.0)))) in
    ⊑_meet κs.1.0 _ _ all all
