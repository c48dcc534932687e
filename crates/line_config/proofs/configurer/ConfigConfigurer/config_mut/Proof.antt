-- The settings themselves are lent, so what is written is what they are.
use Rattle.std.proofs.Common.{[], ◌∷◌, refl}
use Rattle.std.proofs.raw_atomic.Walks.{proved}
use base.Fml.{ftrue, flft}
use mir.Syntax.{named}
use mir.Val.{vptr}
use types.ByLocal.{alloc_all, pass_all, free_all, look_at, through, sets}
use types.Kit.{‵, ◌⊛◌, ◌$◌, ◌∵◌, !, qed, done, move, keep, use0, split, join, group, frame, suffices}
use types.Run.{enter, addr, stop, returns}
use denote.Builtin.{RefMutOf}
use denote.Exit.{no}
use denote.Follow.{follows}
use denote.Ref.{MutRef, mut_vals, mut_Tells}
use denote.Signature.{plain}
use denote.Steps.{nothing}
use denote.Triple.Walked.{Stays, walk_of, says, stay_dropped, Goes-spent_ref, ends_at}
use Rattle.line_config.proofs.Lent.{follows_same}
use Rattle.line_config.specs.contracts.config.Config.{the_row as R}
use Rattle.line_config.specs.contracts.configurer.ConfigConfigurer.config_mut as f
use Rattle.line_config.proofs.configurer.ConfigConfigurer.config_mut.Statement.{statement}
use Rattle.line_config.proofs.configurer.ConfigConfigurer.config_mut.Code as code

abbrev stayed : Stays f.ended.signature.params f.ended.kept
stayed = (stay_dropped (RefMutOf (0 ∷ []) tt (plain (λ _. R)) (λ _. tt)) no, tt)

pub config_mut_spec : {M : Type 1} → statement M
config_mut_spec 𝓤 𝓛 𝓜 𝓡 wired =
    let c = f.clauses 𝓛 𝓜.mem 𝓡.returns in let W = walk_of 𝓛 f.ended stayed c in
    proved 𝓛 f.ended stayed c 𝓜 𝓡 (Goes-spent_ref 𝓛 1 (0 ∷ []) tt (plain (λ _. R)), tt)
    f.Key.name code.function (code.unfolded 𝓤 𝓛.H 𝓜 𝓡 wired)
    (λ κs. (mut_vals, tt)) (λ κs. (mut_Tells (named 0) κs.0 R, tt)) (λ κs qs bounds a _ are.
    let b = a.0.ref_ptr.0 in let o = a.0.ref_ptr.1 in let vs = mut_vals a.0 in
    let y : W.Ghost = ((κs, qs, bounds, a, (vs, tt)), tt) in
    qed 𝓛 (((‵ (flft κs.0 qs.0) ⊛ ‵ ftrue) ⊛ ‵ ((MutRef (named 0) κs.0 R).own_val a.0 vs) ⊛ ‵ ftrue) ∷ ‵ ftrue ∷ []) ∵
    split ! $ split ! $ move ! (2 ∷ []) $ split ! $ keep ! (0 ∷ 2 ∷ []) $
    -- [self; the token]
    enter ! _ _ _ _ _ $ alloc_all ! (λ l. pass_all ! refl ((tt, tt), tt) $
    sets ! (addr ! (through ! refl (stop !))) refl (tt, tt) $
    returns ! (look_at ! 0 refl) $ free_all ! refl $
    suffices ! _ (ends_at 𝓛 f.ended stayed c y (vptr b o) a.0 (tt, tt) (tt, tt)) $
    use0 𝓛 (‵ (follows R R a.0.ghost_name a.0.ghost_name (λ w. w))) (follows_same 𝓛 R a.0.ghost_name) $ move ! (1 ∷ []) $
    nothing ! $ nothing ! $ join ! $ nothing ! $ move ! (4 ∷ 0 ∷ []) $ join ! $ group ! 3 $ frame ! $ says ! refl $ done !))
