-- A `&mut` that a function hands on as it came: what it points to last is what its lender has last.
use mathlib.Core.Path.{refl}
use mathlib.Core.List.{[]}
use seplogic.Ra.Ura.{Ura}
use base.Logic.{ent, emp, wand}
use base.Fml.{Fml, GName, fauth, feq, fres, fsep}
use types.Kit.{‵, ◌$◌, ◌∵◌, !, qed, done, each, assume, feq_i, fjoin, fpack}
use types.Logic.{Logic, sem}
use denote.Follow.{follows}
use denote.RattleType.{RattleType}

pub follows_same : {M : Type 1} {𝓤 : Ura M} (𝓛 : Logic 𝓤) (R : RattleType) (γ : GName) → ent 𝓤 (emp 𝓤) (sem 𝓛 (follows R R γ γ (λ w. w)))
follows_same {𝓤 = 𝓤} 𝓛 R γ =
    let A = 𝓛.A in
    let Last : R.Denot → R.Denot → Fml = λ z w. fsep (feq R.Denot z w) (fauth γ (R.coded.code w)) in
    let said = qed 𝓛 [] ∵ each ! (λ (w : R.Denot). wand 𝓤 (A.res γ (R.coded.code w)) (A.res γ (R.coded.code w)))
    (λ w. assume ! (‵ (fres γ (R.coded.code w))) $ done !) in
    let back = qed 𝓛 [] ∵ each ! (λ (z : R.Denot). wand 𝓤 (A.auth γ (R.coded.code z)) (sem 𝓛 (base.Fml.fex R.Denot (Last z))))
    (λ z. assume ! (‵ (fauth γ (R.coded.code z))) $ feq_i ! R.Denot z z refl $ fjoin ! $ fpack ! R.Denot (Last z) z $ done !) in
    record { apply = λ a p. (said.apply a p, back.apply a p) }
