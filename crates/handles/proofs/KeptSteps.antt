-- The machine values of a `Kept`. Assumes `Logic`.
use Rattle.handles.proofs.Common.{◌≡◌, ℕ, Option, Some, None, List, [], ◌∷◌, ◌++◌, refl, sym, subst, true≢false, IsSome}
use Rattle.handles.proofs.Common.{box_owns, Session, frees, held_value}
use seplogic.Ra.Ura.{Ura}
use mir.Raw.{raw as bare}
use mir.Val.{Val, vstruct, vcons, vnil, of_list}
use base.Logic.{never, fst∗}
use types.Logic.{Logic, sem}
use types.Kit.{Item, Goal, Seq, Step, step, ‵, ◌$◌, drop, fsplit, fjoin, fpick, fpack, feq_i, feq_l}
use denote.RattleType.{RattleType, Valss}
use denote.Builtin.{RawPtr}
use denote.Memory.{lone}
use denote.RawPtr.{Ptr, block_ptr, null_ptr, ptr_val, in_a_block}
use denote.Steps.{nothing}
use denote.Struct.Struct.{within}
use denote.Struct.Owning.{shape}
use Rattle.handles.specs.contracts.session.Session as session
use Rattle.handles.specs.contracts.handle.Kept as kept

abbrev pub word : Ptr → Val
word p = vstruct (vcons (ptr_val p) vnil)

module _ {M : Type 1} {𝓤 : Ura M} {𝓛 : Logic 𝓤} {K : Type 0} {Γ : List (Item 𝓤)} {G : Goal 𝓤 𝓛.H} where
  pub held_some : K → (R : RattleType) (p : Ptr) (m : Option R.Denot) → IsSome m
      → ((b o : ℕ) (x : R.Denot) → p ≡ block_ptr b o → m ≡ Some x →
      Seq K 𝓛 (‵ (box_owns frees R (block_ptr b o) x) ∷ Γ) G)
      → Seq K 𝓛 (‵ (held_value R p m) ∷ Γ) G
  held_some t R p None is k = absurd (true≢false (sym is))
  held_some t R p (Some x) is k = in_a_block t p (λ q. box_owns frees R q x)
      (fst∗ 𝓤 (never 𝓤) (sem 𝓛 (frees (bare (lone R.mir)) null_ptr))) (λ b o e. k b o x e refl)

  pub kept_out : K → (d : kept.the_row.Denot) (vs : List Val)
      → (vs ≡ word d.at ∷ [] → Seq K 𝓛 (‵ (held_value session.the_row d.at d.session) ∷ Γ) G)
      → Seq K 𝓛 (‵ (kept.the_row.own_val d vs) ∷ Γ) G
  kept_out t d vs k = fsplit t $ fpick t (λ vss. fsplit t $ feq_l t (λ ev. fsplit t $ feq_l t (λ ep. drop t $
      k (subst (λ (ps : List Val). vs ≡ vstruct (of_list (ps ++ [])) ∷ []) ep ev))))

  pub kept_in : K → (p : Ptr) (m : Option Session)
      → Step K 𝓛 (‵ (kept.the_row.own_val (record { at = p; session = m }) (word p ∷ [])) ∷ Γ) G
      (‵ (held_value session.the_row p m) ∷ Γ) G
  kept_in t p m = step (λ s. nothing t $ feq_i t (List Val) (ptr_val p ∷ []) (ptr_val p ∷ []) refl $ fjoin t $ feq_i t
      (List Val) (word p ∷ []) (word p ∷ []) refl $ fjoin t $
      fpack t (Valss (RawPtr ∷ [])) (within (shape kept.the_type) (p, tt) (word p ∷ [])) (
        ptr_val p ∷ [],
        tt,
      ) $ fjoin t $ s)
