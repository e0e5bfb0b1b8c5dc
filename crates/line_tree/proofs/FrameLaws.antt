-- A tree stands where its records stay, but for the links of its top.
use Rattle.line_tree.proofs.Common.{◌≡◌, ℕ, zero, suc, inl, inr, List, [], ◌∷◌, refl, sym, ◌∙◌, subst, IsSome, Option}
use Rattle.line_tree.proofs.Common.{Some, AllByRecursion, Among, Distinct, Holds, Links, NodePtr, Record, Records, Tree}
use Rattle.line_tree.proofs.Common.{inner, names, tops, names_of}
use Rattle.line_tree.proofs.AmongLaws.{among-cases, among-left, among-right}
use Rattle.line_tree.proofs.DistinctLaws.{distinct-apart, distinct-left, distinct-right}
use Rattle.line_tree.proofs.TreeLaws.{named-held}
use Rattle.std.specs.FinMap as finite

-- the record stays, but for the parent and the slot
pub record HasBody (o : Option Record) (r : Record) : Type 0 where
  pub found : Record
  pub is : o ≡ Some found
  pub children : found.children ≡ r.children
  pub sum : found.sum ≡ r.sum
  pub line : found.line ≡ r.line

abbrev pub SameBody : Option Record → Option Record → Type 0
SameBody o n = (r : Record) → o ≡ Some r → HasBody n r

pub body-same : (o n : Option Record) → n ≡ o → SameBody o n
body-same o n e r is = record { found = r; is = e ∙ is; children = refl; sum = refl; line = refl }

pub body-trans : (o n u : Option Record) → SameBody o n → SameBody n u → SameBody o u
body-trans o n u a b r is = let x = a r is in let y = b x.found x.is in
    record {
      found = y.found;
      is = y.is;
      children = y.children ∙ x.children;
      sum = y.sum ∙ x.sum;
      line = y.line ∙ x.line;
    }

pub links-same : (m n : Records) (p : NodePtr) (i : ℕ) (cs : List NodePtr) → Links m p i cs →
    ((q : NodePtr) → Among q cs → finite.get n q ≡ finite.get m q) → Links n p i cs
links-same m n p i [] links same = tt
links-same m n p i (c ∷ cs) links same = let l = links.0 in (
  record { found = l.found; is = same c (inl refl) ∙ l.is; parent = l.parent; slot = l.slot },
  links-same m n p (suc i) cs links.1 (λ q a. same q (inr a)),
)

pub tops-among : (h : ℕ) (ts : List (Tree h)) (q : NodePtr) → Among q (tops h ts) → Among q (names_of h ts)
tops-among h [] q a = a
tops-among h (t ∷ ts) q a =
    elim a [ inl e ↦ inl e | inr b ↦ inr (among-right q (inner h t) (names_of h ts) (tops-among h ts q b)) ]

all-moved : (m n : Records) (h : ℕ) → ((t : Tree h) → Holds m h t →
    ((q : NodePtr) → Among q (names h t) → finite.get n q ≡ finite.get m q) → Holds n h t)
    → (ts : List (Tree h)) → AllByRecursion (Holds m h) ts →
    ((q : NodePtr) → Among q (names_of h ts) → finite.get n q ≡ finite.get m q) → AllByRecursion (Holds n h) ts
all-moved m n h one [] all same = tt
all-moved m n h one (t ∷ ts) all same = (
  one t all.0 (λ q a. same q (among-left q (names h t) (names_of h ts) a)),
  all-moved m n h one ts all.1 (λ q a. same q (among-right q (names h t) (names_of h ts) a)),
)

pub holds-moved : (m n : Records) (h : ℕ) (t : Tree h) → Holds m h t → SameBody (finite.get m t.0) (finite.get n t.0) →
    ((q : NodePtr) → Among q (inner h t) → finite.get n q ≡ finite.get m q) → Holds n h t
holds-moved m n zero t holds top same = let b = top holds.found holds.is in
    record { found = b.found; is = b.is; line = b.line ∙ holds.line; some = holds.some; sum = b.sum ∙ holds.sum }
holds-moved m n (suc h) t holds top same = let node = holds.0 in let b = top node.found node.is in (
  record {
    found = b.found;
    is = b.is;
    children = b.children ∙ node.children;
    few = node.few;
    sum = b.sum ∙ node.sum;
    inner = b.line ∙ node.inner;
  },
  links-same m n t.0 0 (tops h t.1) holds.1 (λ q a. same q (tops-among h t.1 q a)),
  all-moved m n h (λ u hu keep. holds-moved m n h u hu
      (body-same (finite.get m u.0) (finite.get n u.0) (keep u.0 (inl refl))) (λ q a. keep q (inr a))) t.1 holds.2 same,
)

pub holds-same : (m n : Records) (h : ℕ) (t : Tree h) → Holds m h t →
    ((q : NodePtr) → Among q (names h t) → finite.get n q ≡ finite.get m q) → Holds n h t
holds-same m n h t holds same = holds-moved m n h t holds
    (body-same (finite.get m t.0) (finite.get n t.0) (same t.0 (inl refl))) (λ q a. same q (inr a))

pub all-same : (m n : Records) (h : ℕ) (ts : List (Tree h)) → AllByRecursion (Holds m h) ts →
    ((q : NodePtr) → Among q (names_of h ts) → finite.get n q ≡ finite.get m q) → AllByRecursion (Holds n h) ts
all-same m n h = all-moved m n h (holds-same m n h)

-- ---- each name of a tree has a record
all-named : (m : Records) (h : ℕ) → ((t : Tree h) → Holds m h t → (q : NodePtr) → Among q (names h t) →
    IsSome (finite.get m q))
    → (ts : List (Tree h)) → AllByRecursion (Holds m h) ts → (q : NodePtr) → Among q (names_of h ts) →
    IsSome (finite.get m q)
all-named m h one [] all q a = absurd a
all-named m h one (t ∷ ts) all q a = elim (among-cases q (names h t) (names_of h ts) a)
    [ inl b ↦ one t all.0 q b | inr b ↦ all-named m h one ts all.1 q b ]

pub names-held : (m : Records) (h : ℕ) (t : Tree h) → Holds m h t → (q : NodePtr) → Among q (names h t) →
    IsSome (finite.get m q)
names-held m zero t holds q a =
    elim a [ inl e ↦ subst (λ z. IsSome (finite.get m z)) (sym e) (named-held m zero t holds) | inr b ↦ absurd b ]
names-held m (suc h) t holds q a = elim a [
  | inl e ↦ subst (λ z. IsSome (finite.get m z)) (sym e) (named-held m (suc h) t holds)
  | inr b ↦ all-named m h (names-held m h) t.1 holds.2 q b
]

pub names-all-held : (m : Records) (h : ℕ) (ts : List (Tree h)) → AllByRecursion (Holds m h) ts → (q : NodePtr) →
    Among q (names_of h ts) → IsSome (finite.get m q)
names-all-held m h = all-named m h (names-held m h)

-- ---- what stands below one tree is the top of none
no-top-more : (h : ℕ) (t : Tree h) (ts : List (Tree h)) →
    ((q : NodePtr) → Among q (names h t) → Among q (names_of h ts) → ⊥) → (us : List (Tree h))
    → AllByRecursion (λ u. (q : NodePtr) → Among q (inner h u) → Among q (tops h ts) → ⊥) us →
    ((q : NodePtr) → Among q (names_of h us) → Among q (names_of h ts))
    → AllByRecursion (λ u. (q : NodePtr) → Among q (inner h u) → Among q (tops h (t ∷ ts)) → ⊥) us
no-top-more h t ts apart [] all inside = tt
no-top-more h t ts apart (u ∷ us) all inside = (
  (λ q a b. elim b [
    | inl e ↦ apart t.0 (inl refl)
        (subst (λ z. Among z (names_of h ts)) e (inside q (inr (among-left q (inner h u) (names_of h us) a))))
    | inr c ↦
        all.0 q a c
  ]),
  no-top-more h t ts apart us all.1 (λ q a. inside q (among-right q (names h u) (names_of h us) a)),
)

pub inner-no-top : (h : ℕ) (ts : List (Tree h)) → Distinct (names_of h ts) →
    AllByRecursion (λ t. (q : NodePtr) → Among q (inner h t) → Among q (tops h ts) → ⊥) ts
inner-no-top h [] d = tt
inner-no-top h (t ∷ ts) d =
    let apart = distinct-apart (names h t) (names_of h ts) d in
    let rest = distinct-right (names h t) (names_of h ts) d in
    let own = distinct-left (names h t) (names_of h ts) d in (
      (λ q a b. elim b [
        | inl e ↦ own.0 (subst (λ z. Among z (inner h t)) e a)
        | inr c ↦ apart q (inr a)
            (tops-among h ts q c)
      ]),
      no-top-more h t ts apart ts (inner-no-top h ts rest) (λ q a. a),
    )
