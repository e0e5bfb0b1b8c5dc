-- Two nodes never lie at one place. Assumes `Logic`.
use Rattle.raw_nodes.proofs.Common.{◌≢◌, ◌⊎◌, inl, inr, eqb_tells, τ, el_room, node_owns, nodes_own, NotIn, Node}
use mathlib.Core.List.{List, [], ◌∷◌, ◌++◌}
use mathlib.Core.Path.{◌≡◌, refl, sym, ap, subst}
use lib.ListN.{length}
use seplogic.Ra.Ura.{Ura}
use base.Logic.{ent, sep, emp, via, never, never_e, id⊢}
use native.Mathlib.Omega.{arith}
use prog.Model.{Model}
use contract.Monad.{fact, fact_i, fact_use}
use types.Logic.{Logic, sem}
use types.Kit.{◌∵◌, ‵, raw, ◌$◌, !, qed, keep, move, drop, use1, use2, fsplit, fpick, done, rewrite, use0}
use denote.Memory.{lone}
use mir.Raw.{raw as bare}
use Rattle.std.proofs.GlobalToken.{dealloc_token_start}
use Rattle.raw_nodes.specs.contracts.nodes.Node.{the_row as R}
use denote.RawPtr.{Ptr, block_ptr, null_ptr, block_of, count_of, InBlock}
use Rattle.raw_nodes.proofs.AsBox.{E}
use Rattle.raw_nodes.proofs.HeapSteps.{last_in}

module _ {M : Type 1} {𝓤 : Ura M} (𝓛 : Logic 𝓤) (𝓜 : Model 𝓤 𝓛.H) where
  open 𝓛 use {H}

  pub apart : (p : Ptr) (x y : Node) → ent 𝓤 (sep 𝓤 (sem 𝓛 (node_owns p x)) (sem 𝓛 (node_owns p y))) (never 𝓤)
  apart null_ptr x y = qed 𝓛 (‵ (node_owns null_ptr x) ∷ ‵ (node_owns null_ptr y) ∷ []) {P = never 𝓤}
      (fsplit ! $ use1 𝓛 (raw (never 𝓤)) (id⊢ 𝓤 (never 𝓤)) $ keep ! (0 ∷ []) $ done !)
  apart (block_ptr b o) x y =
      qed 𝓛 (‵ (node_owns (block_ptr b o) x) ∷ ‵ (node_owns (block_ptr b o) y) ∷ []) {P = never 𝓤} (
      fsplit ! $ move ! (1 ∷ []) $ drop ! $ move ! (1 ∷ []) $ fsplit ! $ move ! (1 ∷ []) $ drop ! $
      use1 𝓛 (raw (H.room (τ E) b o)) (el_room E 𝓛 y b o) $ move ! (1 ∷ []) $ use1 𝓛 (raw (H.room (τ E) b o))
      (el_room E 𝓛 x b o) $
      use2 𝓛 (raw (never 𝓤)) (𝓜.room-room (τ E) (τ E) b o o o (omega arith, omega arith) (omega arith, omega arith)) $
      done !)

same_or_apart : (p q : Ptr) → (p ≡ q) ⊎ (p ≢ q)
same_or_apart null_ptr null_ptr = inl refl
same_or_apart null_ptr (block_ptr b o) = inr (λ e. subst InBlock (sym e) tt)
same_or_apart (block_ptr b o) null_ptr = inr (λ e. subst InBlock e tt)
same_or_apart (block_ptr b o) (block_ptr c r) = elim (eqb_tells b c) [
  | inl s ↦ elim (eqb_tells o r) [
    | inl t ↦ inl (λ i. block_ptr (s.1 i) (t.1 i))
    | inr n ↦ inr (λ e. n.1 (ap count_of e))
  ]
  | inr n ↦ inr (λ e. n.1 (ap block_of e))
]

module _ {M : Type 1} {𝓤 : Ura M} (𝓛 : Logic 𝓤) (𝓜 : Model 𝓤 𝓛.H) where
  pub not_in : (ps : List Ptr) (p : Ptr) (xs : List Node) (x : Node) → length ps ≡ length xs →
      ent 𝓤 (sep 𝓤 (sem 𝓛 (node_owns p x)) (sem 𝓛 (nodes_own ps xs))) (fact 𝓤 (NotIn ps p))
  not_in [] p xs x e = fact_i 𝓤 _ _ tt
  not_in (q ∷ ps) p [] x e = absurd (omega arith)
  not_in (q ∷ ps) p (y ∷ xs) x e =
      let Γ = sep 𝓤 (sem 𝓛 (node_owns p x)) (sem 𝓛 (nodes_own (q ∷ ps) (y ∷ xs))) in
      let rest : ent 𝓤 Γ (fact 𝓤 (NotIn ps p)) = qed 𝓛 (‵ (node_owns p x) ∷ ‵ (nodes_own (q ∷ ps) (y ∷ xs)) ∷ []) ∵ move
      ! (1 ∷ []) $ fsplit ! $ move ! (2 ∷ 1 ∷ []) $
      use2 𝓛 (raw (fact 𝓤 (NotIn ps p))) (not_in ps p xs x (omega arith)) $ keep ! (0 ∷ []) $ done ! in
      let never_same : q ≡ p → ent 𝓤 Γ (never 𝓤) = λ s.
      qed 𝓛 (‵ (node_owns p x) ∷ ‵ (nodes_own (q ∷ ps) (y ∷ xs)) ∷ []) ∵ move ! (1 ∷ []) $ fsplit ! $
      rewrite ! 0 (λ (r : Ptr). ‵ (node_owns r y)) s refl $ move ! (2 ∷ 0 ∷ []) $ use2 𝓛 (raw (never 𝓤))
      (apart 𝓛 𝓜 p x y) $ keep ! (0 ∷ []) $ done ! in
      elim (same_or_apart q p) [
        | inl s ↦ via 𝓤 (never 𝓤) (never_same s) (never_e 𝓤 _)
        | inr n ↦ fact_use 𝓤 (NotIn ps p) rest (λ f. fact_i 𝓤 _ _ (n, f))
      ]

  at_start : (ps : List Ptr) (p : Ptr) (xs : List Node) (x : Node) →
      ent 𝓤 (sep 𝓤 (sem 𝓛 (node_owns p x)) (sem 𝓛 (nodes_own ps xs))) (fact 𝓤 (count_of p ≡ 0))
  at_start ps p xs x =
      qed 𝓛 (‵ (node_owns p x) ∷ ‵ (nodes_own ps xs) ∷ []) ∵ fsplit ! $ move ! (1 ∷ []) $ fpick ! (λ alloc.
      use1 𝓛 (raw (fact 𝓤 (count_of p ≡ 0))) (dealloc_token_start 𝓛 alloc (bare (lone R.mir)) p) $ keep ! (0 ∷ []) $
      done !)

  pub last_in_fresh : (ps : List Ptr) (p : Ptr) (xs : List Node) (x : Node) → length ps ≡ length xs
      → ent 𝓤 (sep 𝓤 (sem 𝓛 (node_owns p x)) (sem 𝓛 (nodes_own ps xs)))
      (sep 𝓤 (fact 𝓤 (NotIn ps p × (count_of p ≡ 0))) (sem 𝓛 (nodes_own (ps ++ p ∷ []) (xs ++ x ∷ []))))
  last_in_fresh ps p xs x e = fact_use 𝓤 (NotIn ps p) (not_in ps p xs x e) (λ f.
      fact_use 𝓤 (count_of p ≡ 0) (at_start ps p xs x) (λ s. qed 𝓛 (‵ (node_owns p x) ∷ ‵ (nodes_own ps xs) ∷ []) ∵
      use2 𝓛 (‵ (nodes_own (ps ++ p ∷ []) (xs ++ x ∷ []))) (last_in 𝓛 ps p xs x e) $ use0 𝓛
      (raw (fact 𝓤 (NotIn ps p × (count_of p ≡ 0)))) (fact_i 𝓤 _ (emp 𝓤) (f, s)) $ done !))
