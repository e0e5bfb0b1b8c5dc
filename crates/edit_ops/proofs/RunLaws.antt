-- The longest runs of offsets that lie in some spans.
use Rattle.edit_ops.proofs.Common.{◌≡◌, ℕ, zero, suc, ◌+◌, ◌-◌, ◌<◌, ◌≤◌, ◌==◌, ◌&&◌, ◌||◌, Bool, true, false, inl, inr}
use Rattle.edit_ops.proofs.Common.{List, [], ◌∷◌, ◌++◌, length, get_or, set, take, refl, sym, ap, ap₂, ◌∙◌, arith}
use Rattle.edit_ops.proofs.Common.{subst, eq-eqb, ne_eqb, length-append, not, nat_le, nat_lt, min, IsSome}
use Rattle.edit_ops.proofs.Common.{if◌then◌else◌, All, remove, false≢true, le-leb, lt-leb, lt-ltb, le-ltb, cases_eq}
use Rattle.edit_ops.proofs.Common.{cases_lt, nat_tests, take_more, list_any-append, get_or-append, get_or-append_seam}
use Rattle.edit_ops.proofs.Common.{is_newline, Span, in_spans, run_start, delete_set, onto_runs, runs_below, AreApart}
use Rattle.edit_ops.proofs.Common.{Option, Some, None}
use mathlib.Core.Bool.{and-false, and-true, or-false, or-true}
use Rattle.std.specs.List.Sorted.{IsNonDecreasingBy}

abbrev pub inside : Span → ℕ → Bool
inside span offset = nat_le span.from offset && nat_lt offset span.to

pub in-append : (spans : List Span) (span : Span) (offset : ℕ) →
    in_spans (spans ++ span ∷ []) offset ≡ (in_spans spans offset || inside span offset)
in-append spans span offset =
    list_any-append (λ (s : Span). nat_le s.from offset && nat_lt offset s.to) spans (span ∷ [])
    ∙ ap (λ b. in_spans spans offset || b) (or-false (inside span offset))

pub inside-before : (span : Span) (offset : ℕ) → offset < span.from → inside span offset ≡ false
inside-before span offset before = ap (λ b. b && nat_lt offset span.to) (lt-leb span.from offset before)

pub inside-behind : (span : Span) (offset : ℕ) → span.to ≤ offset → inside span offset ≡ false
inside-behind span offset behind =
    ap (λ b. nat_le span.from offset && b) (le-ltb offset span.to behind) ∙ and-false (nat_le span.from offset)

pub inside-is : (span : Span) (offset : ℕ) → span.from ≤ offset → offset < span.to → inside span offset ≡ true
inside-is span offset from to = ap₂ (λ a b. a && b) (le-leb span.from offset from) (lt-ltb offset span.to to)

inside-none : (span : Span) (offset : ℕ) → span.to ≤ span.from → inside span offset ≡ false
inside-none span offset none = elim (cases_lt offset span.from) [
  | inl before ↦ inside-before span offset before
  | inr behind ↦ inside-behind span offset (omega arith)
]

-- the first of the spans, without those that are empty
pub in-more : (spans kept : List Span) (i : ℕ) (d : Span) (offset : ℕ) → i < length spans →
    in_spans kept offset ≡ in_spans (take i spans) offset
    → in_spans (kept ++ get_or spans i d ∷ []) offset ≡ in_spans (take (i + 1) spans) offset
in-more spans kept i d offset within same =
    in-append kept (get_or spans i d) offset ∙ ap (λ b. b || inside (get_or spans i d) offset) same
    ∙ sym (ap (λ xs. in_spans xs offset) (take_more spans i d within)
    ∙ in-append (take i spans) (get_or spans i d) offset)

pub in-more-none : (spans kept : List Span) (i : ℕ) (d : Span) (offset : ℕ) → i < length spans →
    (get_or spans i d).to ≤ (get_or spans i d).from
    → in_spans kept offset ≡ in_spans (take i spans) offset →
    in_spans kept offset ≡ in_spans (take (i + 1) spans) offset
in-more-none spans kept i d offset within none same =
    same ∙ sym (ap (λ xs. in_spans xs offset) (take_more spans i d within)
    ∙ in-append (take i spans) (get_or spans i d) offset
    ∙ ap (λ b. in_spans (take i spans) offset || b) (inside-none (get_or spans i d) offset none)
    ∙ or-false (in_spans (take i spans) offset))

pub all-init : (P : Span → Type 0) (spans : List Span) (span : Span) → All P (spans ++ span ∷ []) → All P spans × P span
all-init P spans span all = (
  λ k d within. subst P (get_or-append spans (span ∷ []) d k within)
      (all k d (rw (length-append spans (span ∷ [])) (omega arith))),
  subst P (get_or-append_seam spans span [] span)
      (all (length spans) span (rw (length-append spans (span ∷ [])) (omega arith))),
)

-- ---- runs that are put together of spans, the last first

or-swap : (a b c : Bool) → (a || (b || c)) ≡ ((a || c) || b)
or-swap true b c = refl
or-swap false true true = refl
or-swap false true false = refl
or-swap false false true = refl
or-swap false false false = refl

or-join : (r a b c : Bool) → ((r || a) || (b || c)) ≡ ((r || (a || c)) || b)
or-join true a b c = refl
or-join false a b c = or-swap a b c

apart-joined : (border : ℕ) (runs : List Span) (run : Span) (from : ℕ) → AreApart border (runs ++ run ∷ []) →
    from ≤ run.from
    → AreApart border (runs ++ record run { from = from } ∷ [])
apart-joined border [] run from apart below = let h = apart.0 in (omega (arith, h, below), apart.1, tt)
apart-joined border (first ∷ runs) run from apart below =
    (apart.0, apart.1, apart-joined first.from runs run from apart.2 below)

apart-more : (border : ℕ) (runs : List Span) (run span : Span) → AreApart border (runs ++ run ∷ []) →
    span.from < span.to → span.to < run.from
    → AreApart border ((runs ++ run ∷ []) ++ span ∷ [])
apart-more border [] run span apart some below = (apart.0, apart.1, (some, below, tt))
apart-more border (first ∷ runs) run span apart some below =
    (apart.0, apart.1, apart-more first.from runs run span apart.2 some below)

inside-joined : (run span : Span) (from offset : ℕ) → run.from ≤ span.to → span.to ≤ run.to → span.from < span.to →
    from ≡ min run.from span.from
    → inside (record run { from = from }) offset ≡ (inside run offset || inside span offset)
inside-joined run span from offset touches ends some is = rw is (grind (arith, nat_tests))

-- what was put together, and what is left
pub record Merging (spans left runs : List Span) (run : Span) : Type 0 where
  pub apart : (border : ℕ) × AreApart border (runs ++ run ∷ [])
  pub filled : All (λ (span : Span). span.from < span.to) left
  pub ordered : IsNonDecreasingBy (λ (span : Span). span.to) left
  pub ends : All (λ (span : Span). span.to ≤ run.to) left
  pub covers : (offset : ℕ) → in_spans spans offset
      ≡ ((in_spans runs offset || inside run offset) || in_spans left offset)

ordered-init : (spans : List Span) (span : Span) → IsNonDecreasingBy (λ (s : Span). s.to) (spans ++ span ∷ [])
    → IsNonDecreasingBy (λ (s : Span). s.to) spans × All (λ (s : Span). s.to ≤ span.to) spans
ordered-init spans span ordered =
    let long = length-append spans (span ∷ []) in (
      λ i j d below within.
          subst (λ (s : Span). s.to ≤ (get_or spans j d).to) (get_or-append spans (span ∷ []) d i (omega arith))
          (subst (λ (s : Span). (get_or (spans ++ span ∷ []) i d).to
          ≤ s.to) (get_or-append spans (span ∷ []) d j within) (ordered i j d below (omega (arith, long)))),
      λ k d within.
          subst (λ (s : Span). s.to ≤ span.to) (get_or-append spans (span ∷ []) d k within)
          (subst (λ (s : Span). (get_or (spans ++ span ∷ []) k d).to
          ≤ s.to) (get_or-append_seam spans span [] d)
          (ordered k (length spans) d (omega arith) (omega (arith, long)))),
    )

pub merging-first : (spans kept left : List Span) (run : Span) → kept ≡ left ++ run ∷ [] →
    All (λ (span : Span). span.from < span.to) kept
    → IsNonDecreasingBy (λ (span : Span). span.to) kept →
    ((offset : ℕ) → in_spans kept offset ≡ in_spans spans offset) → Merging spans left [] run
merging-first spans kept left run is filled ordered covers =
    let some = all-init (λ (s : Span). s.from < s.to) left run (subst (All (λ (s : Span). s.from < s.to)) is filled) in
    let order = ordered-init left run (subst (IsNonDecreasingBy (λ (s : Span). s.to)) is ordered) in
    record {
      apart = (run.to + 1, (some.1, (let h : run.to < run.to + 1 = omega arith in h), tt));
      filled = some.0;
      ordered = order.0;
      ends = order.1;
      covers = λ offset. sym (covers offset) ∙ ap (λ xs. in_spans xs offset) is ∙ in-append left run offset
          ∙ or-swap false (in_spans left offset) (inside run offset);
    }

module _ {spans before runs : List Span} {run : Span} (left : List Span) (span : Span)
    (so_far : Merging spans before runs run) (is : before ≡ left ++ span ∷ []) where
  filled : All (λ (s : Span). s.from < s.to) left × (span.from < span.to)
  filled = all-init (λ (s : Span). s.from < s.to) left span (subst (All (λ (s : Span). s.from < s.to)) is so_far.filled)

  order : IsNonDecreasingBy (λ (s : Span). s.to) left × All (λ (s : Span). s.to ≤ span.to) left
  order = ordered-init left span (subst (IsNonDecreasingBy (λ (s : Span). s.to)) is so_far.ordered)

  covered : (offset : ℕ) → in_spans spans offset
      ≡ ((in_spans runs offset || inside run offset) || (in_spans left offset || inside span offset))
  covered offset = so_far.covers offset
      ∙ ap (λ xs. (in_spans runs offset || inside run offset) || in_spans xs offset) is
      ∙ ap (λ b. (in_spans runs offset || inside run offset) || b) (in-append left span offset)

  pub merging-joined : (from : ℕ) → run.from ≤ span.to → from ≡ min run.from span.from
      → Merging spans left runs (record run { from = from })
  merging-joined from touches from_is =
      let ends = all-init (λ (s : Span). s.to ≤ run.to) left span
      (subst (All (λ (s : Span). s.to ≤ run.to)) is so_far.ends) in
      record {
        apart = (so_far.apart.0, apart-joined so_far.apart.0 runs run from so_far.apart.1 (omega (arith, from_is)));
        filled = filled.0;
        ordered = order.0;
        ends = ends.0;
        covers = λ offset. covered offset
            ∙ or-join (in_spans runs offset) (inside run offset) (in_spans left offset) (inside span offset)
            ∙ ap (λ b. (in_spans runs offset || b) || in_spans left offset)
            (sym (inside-joined run span from offset touches ends.1 filled.1 from_is));
      }

  pub merging-next : span.to < run.from → Merging spans left (runs ++ run ∷ []) span
  merging-next apart = record {
    apart = (so_far.apart.0, apart-more so_far.apart.0 runs run span so_far.apart.1 filled.1 apart);
    filled = filled.0;
    ordered = order.0;
    ends = order.1;
    covers = λ offset. covered offset
        ∙ or-swap (in_spans runs offset || inside run offset) (in_spans left offset) (inside span offset)
        ∙ ap (λ b. (b || inside span offset) || in_spans left offset) (sym (in-append runs run offset));
  }

-- runs of offsets that all lie below an end
pub apart-below : (border end : ℕ) (runs : List Span) → AreApart border runs →
    ((offset : ℕ) → in_spans runs offset ≡ true → offset < end) → AreApart (end + 1) runs
apart-below border end [] apart below = tt
apart-below border end (run ∷ runs) apart below =
    let some = apart.0 in
    let last : in_spans (run ∷ runs) (run.to - 1)
    ≡ true = ap (λ b. b || in_spans runs (run.to - 1))
    (inside-is run (run.to - 1) (omega (arith, some)) (omega (arith, some))) in
    let h = below (run.to - 1) last in
    (some, omega (arith, some, h), apart.2)

-- one run at most is apart
pub few-apart : (runs : List Span) → length runs < 2 → All (λ (span : Span). span.from < span.to) runs →
    (border : ℕ) × AreApart border runs
few-apart [] few filled = (0, tt)
few-apart (run ∷ []) few filled = (run.to + 1, (filled 0 run (omega arith), omega arith, tt))
few-apart (run ∷ next ∷ runs) few filled = absurd (omega (arith, few))

-- spans that end by a place hold no offset behind it
pub in-within : (spans : List Span) (end offset : ℕ) → All (λ (span : Span). span.to ≤ end) spans →
    in_spans spans offset ≡ true → offset < end
in-within [] end offset within is = absurd (let h : false ≡ true = is in cc)
in-within (span ∷ spans) end offset within is =
    elim (cases_lt offset end) [
      | inl below ↦ below
      | inr above ↦
          let first : span.to ≤ end = within 0 span (omega arith) in
          in-within spans end offset (λ k d inside'. within (suc k) d (omega (arith, inside')))
          (sym (ap (λ b. b || in_spans spans offset) (inside-behind span offset (omega (arith, first, above)))) ∙ is)
    ]

-- runs below a border don't hold an offset at it, nor the one before it
pub apart-none : (border offset : ℕ) (runs : List Span) → AreApart border runs → border ≤ offset + 1 →
    in_spans runs offset ≡ false
apart-none border offset [] apart above = refl
apart-none border offset (run ∷ runs) apart above =
    let some = apart.0 in let below = apart.1 in
    ap₂ (λ a b. a || b) (inside-behind run offset (omega (arith, below, above)))
    (apart-none run.from offset runs apart.2 (omega (arith, some, below, above)))

-- ---- the runs of a set are determined

onto-gap : (n : ℕ) (run : Span) (runs : List Span) → AreApart n runs → run.from ≡ n → run.to ≡ n + 1 →
    onto_runs n runs ≡ run ∷ runs
onto-gap n run [] apart from to = ap₂ (λ a b. record { from = a; to = b } ∷ []) (sym from) (sym to)
onto-gap n run (next ∷ runs) apart from to =
    let below = apart.1 in
    ap (λ b. if b then record next { to = n + 1 } ∷ runs
    else record { from = n; to = n + 1 } ∷ next ∷ runs) (ne_eqb next.to n (λ same. omega (arith, same, below)))
    ∙ ap₂ (λ a b. record { from = a; to = b } ∷ next ∷ runs) (sym from) (sym to)

onto-run : (n : ℕ) (run : Span) (runs : List Span) → run.to ≡ n + 1 →
    onto_runs n (record run { to = n } ∷ runs) ≡ run ∷ runs
onto-run n run runs to =
    ap (λ b. if b then record run { to = n + 1 } ∷ runs
    else record { from = n; to = n + 1 } ∷ record run { to = n } ∷ runs) (eq-eqb n n refl)
    ∙ ap (λ b. record run { to = b } ∷ runs) (sym to)

pub apart-wider : (border wider : ℕ) (runs : List Span) → AreApart border runs → border ≤ wider → AreApart wider runs
apart-wider border wider [] apart below = tt
apart-wider border wider (run ∷ runs) apart below = let h = apart.1 in (apart.0, omega (arith, h, below), apart.2)

in-rest : (run : Span) (runs : List Span) (offset : ℕ) → offset < run.from →
    in_spans (run ∷ runs) offset ≡ in_spans runs offset
in-rest run runs offset before = ap (λ b. b || in_spans runs offset) (inside-before run offset before)

in-shorter : (run : Span) (runs : List Span) (n offset : ℕ) → run.to ≡ n + 1 → offset < n →
    in_spans (run ∷ runs) offset ≡ in_spans (record run { to = n } ∷ runs) offset
in-shorter run runs n offset to below =
    ap (λ b. (nat_le run.from offset && b) || in_spans runs offset) (lt-ltb offset run.to (omega (arith, to, below))
    ∙ sym (lt-ltb offset n below))

pub runs-are : (n : ℕ) (set : ℕ → Bool) (runs : List Span) → AreApart (n + 1) runs →
    ((offset : ℕ) → offset < n → set offset ≡ in_spans runs offset) → runs_below n set ≡ runs
runs-are zero set [] apart is = refl
runs-are zero set (run ∷ runs) apart is = let some = apart.0 in let below = apart.1 in
    absurd (omega (arith, some, below))
runs-are (suc n) set [] apart is =
    ap (λ b. if b then onto_runs n (runs_below n set) else runs_below n set) (is n (omega arith))
    ∙ runs-are n set [] tt (λ offset below. is offset (omega (arith, below)))
runs-are (suc n) set (run ∷ runs) apart is =
    let some = apart.0 in let below = apart.1 in let rest = apart.2 in
    elim (cases_lt run.to (n + 1)) [
      | inl short ↦
          let none : set n ≡ false = is n (omega arith)
          ∙ apart-none (n + 1) n (run ∷ runs) (some, short, rest) (omega arith) in
          ap (λ b. if b then onto_runs n (runs_below n set) else runs_below n set) none
          ∙ runs-are n set (run ∷ runs) (some, short, rest) (λ offset inside'. is offset (omega (arith, inside')))
      | inr long ↦
          let to : run.to ≡ n + 1 = omega (arith, long, below) in
          let there : set n ≡ true = is n (omega arith)
          ∙ ap (λ b. b || in_spans runs n) (inside-is run n (omega (arith, some, to)) (omega (arith, to))) in
          ap (λ b. if b then onto_runs n (runs_below n set) else runs_below n set) there
          ∙ elim (cases_lt run.from n) [
            | inl longer ↦
                ap (onto_runs n) (runs-are n set (record run { to = n } ∷ runs) (
                  longer,
                  (let h : n < n + 1 = omega arith in h),
                  rest,
                )
                (λ offset inside'. is offset (omega (arith, inside')) ∙ in-shorter run runs n offset to inside'))
                ∙ onto-run n run runs to
            | inr one ↦
                let from : run.from ≡ n = omega (arith, one, some, to) in
                let apart_rest : AreApart n runs = subst (λ k. AreApart k runs) from rest in
                ap (onto_runs n) (runs-are n set runs (apart-wider n (n + 1) runs apart_rest (omega arith))
                (λ offset inside'. is offset (omega (arith, inside'))
                ∙ in-rest run runs offset (omega (arith, inside', from))))
                ∙ onto-gap n run runs apart_rest from to
          ]
    ]

-- where a run of a set begins
pub run-start-is : (set : ℕ → Bool) (from offset : ℕ) → from ≤ offset →
    ((x : ℕ) → from ≤ x → x < offset → set x ≡ true) → ((x : ℕ) → x + 1 ≡ from → set x ≡ false)
    → run_start set offset ≡ from
run-start-is set from zero below there none = omega (arith, below)
run-start-is set from (suc offset) below there none =
    elim (cases_lt offset from) [
      | inl at ↦
          let same : from ≡ suc offset = omega (arith, at, below) in
          ap (λ b. if b then run_start set offset else suc offset) (none offset (omega (arith, same))) ∙ sym same
      | inr inner ↦
          ap (λ b. if b then run_start set offset else suc offset) (there offset inner (omega arith))
          ∙ run-start-is set from offset inner (λ x from_x x_below. there x from_x (omega (arith, x_below))) none
    ]

pub run-begins : (border last : ℕ) (set : ℕ → Bool) (run : Span) (runs : List Span) → AreApart border (run ∷ runs) →
    run.to ≡ last + 1
    → ((offset : ℕ) → in_spans (run ∷ runs) offset ≡ set offset) → run_start set last ≡ run.from
run-begins border last set run runs apart to is =
    let some = apart.0 in
    run-start-is set run.from last (omega (arith, some, to))
    (λ x from_x x_below. sym (is x) ∙ ap (λ b. b || in_spans runs x)
    (inside-is run x from_x (omega (arith, x_below, to))))
    (λ x next. sym (is x) ∙ in-rest run runs x (omega (arith, next))
    ∙ apart-none run.from x runs apart.2 (omega (arith, next)))

-- all was put together
pub merged-in : (spans left runs : List Span) (run : Span) → Merging spans left runs run → left ≡ [] → (offset : ℕ) →
    in_spans (runs ++ run ∷ []) offset ≡ in_spans spans offset
merged-in spans left runs run done none offset =
    in-append runs run offset ∙ sym (done.covers offset
    ∙ ap (λ xs. (in_spans runs offset || inside run offset) || in_spans xs offset) none
    ∙ or-false (in_spans runs offset || inside run offset))

pub some_is : {A : Type 0} (found : Option A) → IsSome found → (x : A) × (found ≡ Some x)
some_is None is = absurd (false≢true is)
some_is (Some x) is = (x, refl)

-- ---- the last offset is taken out of the runs that hold it

-- an offset of the first run, which goes on to the last offset
spared-first : (from last offset : ℕ) (rest : Bool) → (offset ≡ last → rest ≡ false)
    → ((nat_le from offset && nat_lt offset last) || rest)
    ≡ ((((nat_le from offset && nat_lt offset (last + 1)) || rest) && not (offset == last)) || false)
spared-first from last offset rest none =
    elim (cases_eq offset last) [
      | inl same ↦
          ap₂ (λ a b. (nat_le from offset && a) || b) (le-ltb offset last (omega (arith, same))) (none same)
          ∙ or-false (nat_le from offset && false) ∙ and-false (nat_le from offset)
          ∙ sym (ap (λ a. (((nat_le from offset && nat_lt offset (last + 1)) || rest) && not a)
          || false) (eq-eqb offset last same)
          ∙ or-false (((nat_le from offset && nat_lt offset (last + 1)) || rest) && false)
          ∙ and-false ((nat_le from offset && nat_lt offset (last + 1)) || rest))
      | inr other ↦
          let before : nat_lt offset last ≡ nat_lt offset (last + 1) = elim (cases_lt offset last) [
            | inl below ↦ lt-ltb offset last below ∙ sym (lt-ltb offset (last + 1) (omega (arith, below)))
            | inr above ↦ le-ltb offset last above
                ∙ sym (le-ltb offset (last + 1) (let h : offset ≡ last → ⊥ = other in
                elim (cases_lt last offset) [
                  | inl past ↦ omega (
                    arith,
                    past,
                  )
                  | inr at ↦ absurd (other (omega (arith, at, above)))
                ]))
          ] in
          ap (λ a. (nat_le from offset && a) || rest) before
          ∙ sym (ap (λ a. (((nat_le from offset && nat_lt offset (last + 1)) || rest) && not a)
          || false) (ne_eqb offset last other)
          ∙ or-false (((nat_le from offset && nat_lt offset (last + 1)) || rest) && true)
          ∙ and-true ((nat_le from offset && nat_lt offset (last + 1)) || rest))
    ]

none-last : (border last offset : ℕ) (runs : List Span) → AreApart border runs → border ≤ last + 1 → offset ≡ last →
    in_spans runs offset ≡ false
none-last border last offset runs apart above same = apart-none border offset runs apart (omega (arith, above, same))

to-is : (run : Span) (rest : Bool) (last offset : ℕ) → run.to ≡ last + 1
    → (((nat_le run.from offset && nat_lt offset (last + 1)) || rest) && not (offset == last))
    ≡ ((inside run offset || rest) && not (offset == last))
to-is run rest last offset to =
    ap (λ n. ((nat_le run.from offset && nat_lt offset n) || rest) && not (offset == last)) (sym to)

spared-alone : (run : Span) (runs : List Span) (border last offset : ℕ) → AreApart border (run ∷ runs) →
    run.to ≡ last + 1
    → in_spans (record { from = run.from; to = last } ∷ runs) offset
    ≡ ((in_spans (run ∷ runs) offset && not (offset == last)) || false)
spared-alone run runs border last offset apart to =
    let some = apart.0 in
    spared-first run.from last offset (in_spans runs offset)
    (none-last run.from last offset runs apart.2 (omega (arith, some, to)))
    ∙ ap (λ b. b || false) (to-is run (in_spans runs offset) last offset to)

-- the offset before the first run joins it
joined-first : (run : Span) (rest : Bool) (last offset : ℕ) → (offset ≡ last → rest ≡ false) → run.to ≡ last + 1 →
    0 < run.from → run.from < run.to
    → ((nat_le (run.from - 1) offset && nat_lt offset last) || rest)
    ≡ (((inside run offset || rest) && not (offset == last)) || (offset + 1 == run.from))
joined-first run rest last offset none to before some =
    elim (cases_eq (offset + 1) run.from) [
      | inl here ↦
          ap (λ b. b || rest) (inside-is (record { from = run.from - 1; to = last }) offset (omega (arith, here))
          (omega (arith, here, to, some)))
          ∙ sym (ap (λ b. ((inside run offset || rest) && not (offset == last))
          || b) (eq-eqb (offset + 1) run.from here) ∙ or-true ((inside run offset || rest) && not (offset == last)))
      | inr other ↦
          let first : nat_le (run.from - 1) offset ≡ nat_le run.from offset = elim (cases_lt offset run.from) [
            | inl below ↦ lt-leb (run.from - 1) offset
                (elim (cases_lt (offset + 1) run.from)
                [ inl less ↦ omega (arith, less) | inr at ↦ absurd (other (omega (arith, at, below))) ])
                ∙ sym (lt-leb run.from offset below)
            | inr above ↦ le-leb (run.from - 1) offset (omega (arith, above)) ∙ sym (le-leb run.from offset above)
          ] in
          ap (λ b. (b && nat_lt offset last) || rest) first
          ∙ spared-first run.from last offset rest none
          ∙ ap₂ (λ a b. a || b) (to-is run rest last offset to) (sym (ne_eqb (offset + 1) run.from other))
    ]

spared-joined : (run : Span) (runs : List Span) (border last offset : ℕ) → AreApart border (run ∷ runs) →
    run.to ≡ last + 1 → 0 < run.from
    → in_spans (record { from = run.from - 1; to = last } ∷ runs) offset
    ≡ ((in_spans (run ∷ runs) offset && not (offset == last)) || (offset + 1 == run.from))
spared-joined run runs border last offset apart to before =
    let some = apart.0 in
    joined-first run (in_spans runs offset) last offset
    (none-last run.from last offset runs apart.2 (omega (arith, some, to))) to before some

-- and so does the run before that
both-runs : (run next : Span) (rest : Bool) (offset : ℕ) → next.to + 1 ≡ run.from → next.from < next.to →
    run.from < run.to → (offset + 1 ≡ run.from → ⊥)
    → ((nat_le next.from offset && nat_lt offset run.to) || rest) ≡ (inside run offset || (inside next offset || rest))
both-runs run next rest offset touch some long other =
    elim (cases_lt offset next.to) [
      | inl before ↦
          ap (λ b. (nat_le next.from offset && b) || rest) (lt-ltb offset run.to (omega (arith, before, touch, long))
          ∙ sym (lt-ltb offset next.to before))
          ∙ ap (λ b. b || (inside next offset || rest)) (sym (inside-before run offset (omega (arith, before, touch))))
      | inr behind ↦
          let above : run.from ≤ offset = elim (cases_lt next.to offset)
          [ inl past ↦ omega (arith, past, touch) | inr at ↦ absurd (other (omega (arith, at, behind, touch))) ] in
          ap (λ b. (b && nat_lt offset run.to) || rest) (le-leb next.from offset (omega (arith, some, behind))
          ∙ sym (le-leb run.from offset above))
          ∙ ap (λ b. inside run offset || (b || rest)) (sym (inside-behind next offset behind))
    ]

spared-both : (run next : Span) (runs : List Span) (border last offset : ℕ) → AreApart border (run ∷ next ∷ runs) →
    run.to ≡ last + 1 → next.to + 1 ≡ run.from
    → in_spans (record { from = next.from; to = last } ∷ runs) offset
    ≡ ((in_spans (run ∷ next ∷ runs) offset && not (offset == last)) || (offset + 1 == run.from))
spared-both run next runs border last offset apart to touch =
    let long = apart.0 in let some = apart.2.0 in
    let rest = in_spans runs offset in
    elim (cases_eq (offset + 1) run.from) [
      | inl here ↦
          ap (λ b. b || rest) (inside-is (record { from = next.from; to = last }) offset
          (omega (arith, here, touch, some)) (omega (arith, here, to, long)))
          ∙ sym (ap (λ b. ((inside run offset || (inside next offset || rest)) && not (offset == last))
          || b) (eq-eqb (offset + 1) run.from here)
          ∙ or-true ((inside run offset || (inside next offset || rest)) && not (offset == last)))
      | inr other ↦
          spared-first next.from last offset rest
          (none-last next.from last offset runs apart.2.2 (omega (arith, some, touch, long, to)))
          ∙ ap₂ (λ a b. (a && not (offset == last)) || b)
          (ap (λ n. (nat_le next.from offset && nat_lt offset n) || rest) (sym to)
          ∙ both-runs run next rest offset touch some long other)
          (sym (ne_eqb (offset + 1) run.from other))
    ]

-- the same, over a row of runs
pub spare-alone : (runs : List Span) (border last from : ℕ) (joins : Bool) (d e : Span) → 0 < length runs →
    AreApart border runs → (get_or runs 0 d).to ≡ last + 1 → joins ≡ false → from ≡ (get_or runs 0 d).from
    → (offset : ℕ) → in_spans (set runs 0 (record { from = from; to = last })) offset
    ≡ ((in_spans runs offset && not (offset == last)) || (joins && (offset + 1 == (get_or runs 0 e).from)))
spare-alone [] border last from joins d e some apart to alone from_is offset = absurd (omega (arith, some))
spare-alone (run ∷ runs) border last from joins d e some apart to alone from_is offset =
    ap (λ n. in_spans (record { from = n; to = last } ∷ runs) offset) from_is
    ∙ spared-alone run runs border last offset apart to
    ∙ ap (λ b. (in_spans (run ∷ runs) offset && not (offset == last)) || (b && (offset + 1 == run.from))) (sym alone)

-- the first of the runs, where it is empty
pub empty-first : (runs : List Span) (from to offset : ℕ) → to ≤ from
    → in_spans (remove runs 0) offset ≡ in_spans (set runs 0 (record { from = from; to = to })) offset
empty-first [] from to offset none = refl
empty-first (run ∷ runs) from to offset none =
    ap (λ b. b || in_spans runs offset) (sym (inside-none (record { from = from; to = to }) offset none))

pub spare-joined : (runs : List Span) (border last from : ℕ) (joins : Bool) (d e : Span) → 0 < length runs →
    AreApart border runs → (get_or runs 0 d).to ≡ last + 1 → joins ≡ true
    → 0 < (get_or runs 0 d).from → from ≡ (get_or runs 0 d).from - 1
    → (offset : ℕ) → in_spans (set runs 0 (record { from = from; to = last })) offset
    ≡ ((in_spans runs offset && not (offset == last)) || (joins && (offset + 1 == (get_or runs 0 e).from)))
spare-joined [] border last from joins d e some apart to joined before from_is offset = absurd (omega (arith, some))
spare-joined (run ∷ runs) border last from joins d e some apart to joined before from_is offset =
    ap (λ n. in_spans (record { from = n; to = last } ∷ runs) offset) from_is
    ∙ spared-joined run runs border last offset apart to before
    ∙ ap (λ b. (in_spans (run ∷ runs) offset && not (offset == last)) || (b && (offset + 1 == run.from))) (sym joined)

pub spare-both : (runs : List Span) (border last from : ℕ) (joins : Bool) (d e f : Span) → 1 < length runs →
    AreApart border runs → (get_or runs 0 d).to ≡ last + 1 → joins ≡ true
    → 0 < (get_or runs 0 d).from → (get_or runs 1 f).to ≡ (get_or runs 0 d).from - 1 → from ≡ (get_or runs 1 f).from
    → (offset : ℕ) → in_spans (set (remove runs 1) 0 (record { from = from; to = last })) offset
    ≡ ((in_spans runs offset && not (offset == last)) || (joins && (offset + 1 == (get_or runs 0 e).from)))
spare-both [] border last from joins d e f some apart to joined before touch from_is offset =
    absurd (omega (arith, some))
spare-both (run ∷ []) border last from joins d e f some apart to joined before touch from_is offset =
    absurd (omega (arith, some))
spare-both (run ∷ next ∷ runs) border last from joins d e f some apart to joined before touch from_is offset =
    ap (λ n. in_spans (record { from = n; to = last } ∷ runs) offset) from_is
    ∙ spared-both run next runs border last offset apart to (omega (arith, touch, before))
    ∙ ap (λ b. (in_spans (run ∷ next ∷ runs) offset && not (offset == last))
    || (b && (offset + 1 == run.from))) (sym joined)

-- ---- what goes of the runs that are to be deleted

pub apart-short : (end : ℕ) (runs : List Span) (d : Span) → AreApart (end + 1) runs →
    (0 < length runs → (get_or runs 0 d).to < end) → AreApart end runs
apart-short end [] d apart short = tt
apart-short end (run ∷ runs) d apart short = (apart.0, short (omega arith), apart.2)

pub last-out : (end : ℕ) (runs : List Span) → 0 < end → AreApart end runs → in_spans runs (end - 1) ≡ false
last-out end runs some apart = apart-none end (end - 1) runs apart (omega (arith, some))

pub none-spared : (text : List ℕ) (start end : ℕ) (runs : List Span) → 0 < end → AreApart end runs → (offset : ℕ) →
    in_spans runs offset ≡ delete_set text start end (in_spans runs) offset
none-spared text start end runs some apart offset =
    sym (ap (λ b. if b then (in_spans runs offset && not (offset == end - 1)
    || (offset + 1 == run_start (in_spans runs) (end - 1) && nat_le start offset && is_newline (get_or text offset 0)))
    else in_spans runs offset) (last-out end runs some apart))

joins-as : (text : List ℕ) (start offset from : ℕ) (joins : Bool) →
    joins ≡ (nat_lt start from && is_newline (get_or text (from - 1) 0))
    → (joins && (offset + 1 == from)) ≡ (offset + 1 == from && nat_le start offset && is_newline (get_or text offset 0))
joins-as text start offset from joins is =
    elim (cases_eq (offset + 1) from) [
      | inl same ↦
          let test = eq-eqb (offset + 1) from same in
          let before : nat_lt start from ≡ nat_le start offset = elim (cases_lt start from) [
            | inl below ↦ lt-ltb start from below ∙ sym (le-leb start offset (omega (arith, below, same)))
            | inr above ↦ le-ltb start from above ∙ sym (lt-leb start offset (omega (arith, above, same)))
          ] in
          ap (λ b. joins && b) test ∙ and-true joins ∙ is
          ∙ ap₂ (λ a n. a && is_newline (get_or text n 0)) before (let e : from - 1 ≡ offset = omega (arith, same) in e)
          ∙ sym (ap (λ b. b && nat_le start offset && is_newline (get_or text offset 0)) test)
      | inr other ↦
          let test = ne_eqb (offset + 1) from other in
          ap (λ b. joins && b) test ∙ and-false joins
          ∙ sym (ap (λ b. b && nat_le start offset && is_newline (get_or text offset 0)) test)
    ]

pub spared-is : (text : List ℕ) (start end : ℕ) (runs new : List Span) (joins : Bool) (d : Span) → 0 < end →
    0 < length runs → AreApart (end + 1) runs → end ≤ (get_or runs 0 d).to
    → joins ≡ (nat_lt start (get_or runs 0 d).from && is_newline (get_or text ((get_or runs 0 d).from - 1) 0))
    → ((offset : ℕ) → in_spans new offset ≡ (in_spans runs offset && not (offset == end - 1)
    || (joins && (offset + 1 == (get_or runs 0 d).from))))
    → (offset : ℕ) → in_spans new offset ≡ delete_set text start end (in_spans runs) offset
spared-is text start end [] new joins d some there apart held is covers offset = absurd (omega (arith, there))
spared-is text start end (run ∷ runs) new joins d some there apart held is covers offset =
    let long = apart.0 in let below = apart.1 in
    let set = in_spans (run ∷ runs) in
    let last : set (end - 1) ≡ true = ap (λ b. b || in_spans runs (end - 1))
    (inside-is run (end - 1) (omega (arith, long, below, held)) (omega (arith, held, some))) in
    let begins : run_start set (end - 1) ≡ run.from = run-begins (end + 1) (end - 1) set run runs apart
    (omega (arith, held, below, some)) (λ x. refl) in
    covers offset
    ∙ ap (λ b. set offset && not (offset == end - 1) || b)
    (joins-as text start offset run.from joins is
    ∙ ap (λ n. offset + 1 == n && nat_le start offset && is_newline (get_or text offset 0)) (sym begins))
    ∙ sym (ap (λ b. if b then (set offset && not (offset == end - 1)
    || (offset + 1 == run_start set (end - 1) && nat_le start offset && is_newline (get_or text offset 0)))
    else set offset) last)
