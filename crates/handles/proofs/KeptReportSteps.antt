-- The machine values of a `KeptReport`. Assumes `Logic`.
use Rattle.handles.proofs.Common.{◌≡◌, Option, List, [], ◌∷◌, ◌++◌, refl, subst, held_value}
use Rattle.handles.proofs.KeptSteps.{word}
use Rattle.handles.specs.declared.report.Report.{Report}
use seplogic.Ra.Ura.{Ura}
use mir.Val.{Val, vstruct, of_list}
use types.Logic.{Logic}
use types.Kit.{Item, Goal, Seq, Step, step, ‵, ◌$◌, drop, fsplit, fjoin, fpick, fpack, feq_i, feq_l}
use denote.RattleType.{Valss}
use denote.Builtin.{RawPtr}
use denote.RawPtr.{Ptr, ptr_val}
use denote.Steps.{nothing}
use denote.Struct.Struct.{within}
use denote.Struct.Owning.{shape}
use Rattle.handles.specs.contracts.report.Report as report
use Rattle.handles.specs.contracts.report_handle.KeptReport as kept

module _ {M : Type 1} {𝓤 : Ura M} {𝓛 : Logic 𝓤} {K : Type 0} {Γ : List (Item 𝓤)} {G : Goal 𝓤 𝓛.H} where
  pub kept_out : K → (d : kept.the_row.Denot) (vs : List Val)
      → (vs ≡ word d.at ∷ [] → Seq K 𝓛 (‵ (held_value report.the_row d.at d.report) ∷ Γ) G)
      → Seq K 𝓛 (‵ (kept.the_row.own_val d vs) ∷ Γ) G
  kept_out t d vs k = fsplit t $ fpick t (λ vss. fsplit t $ feq_l t (λ ev. fsplit t $ feq_l t (λ ep. drop t $
      k (subst (λ (ps : List Val). vs ≡ vstruct (of_list (ps ++ [])) ∷ []) ep ev))))

  pub kept_in : K → (p : Ptr) (m : Option Report)
      → Step K 𝓛 (‵ (kept.the_row.own_val (record { at = p; report = m }) (word p ∷ [])) ∷ Γ) G
      (‵ (held_value report.the_row p m) ∷ Γ) G
  kept_in t p m = step (λ s. nothing t $ feq_i t (List Val) (ptr_val p ∷ []) (ptr_val p ∷ []) refl $ fjoin t $ feq_i t
      (List Val) (word p ∷ []) (word p ∷ []) refl $ fjoin t $
      fpack t (Valss (RawPtr ∷ [])) (within (shape kept.the_type) (p, tt) (word p ∷ [])) (
        ptr_val p ∷ [],
        tt,
      ) $ fjoin t $ s)
