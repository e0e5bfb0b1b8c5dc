-- Changes of tags, one after the other, and what puts keys on characters that have none or takes all keys off.
use Rattle.reports.proofs.Common.{◌≡◌, ℕ, ◌+◌, ◌-◌, ◌≤◌, Bool, true, false, cond, ◌||◌, List, [], ◌∷◌, ◌++◌, map}
use Rattle.reports.proofs.Common.{length, take, drop, refl, sym, ap, ◌∙◌, arith, subst, append_assoc, true≢false}
use Rattle.reports.proofs.Common.{slice_range, All, eq_by_cmp, length-append, length-drop, length-map, length-take-le}
use Rattle.reports.proofs.Common.{drop_at, drop-drop, take_at, changed, Cell, changed-same, map-changed, length-changed}
use Rattle.reports.proofs.Common.{AreBareRuns, SlotRun, KeyedCell, characters, bare, with_key, Key, Keys, key_cmp}
use Rattle.reports.proofs.Common.{set_key, TellsTags, TagChange}
use Rattle.reports.proofs.BridgeLaws.{contains-set_key, key_tied, keys_same}
use Rattle.std.specs.FinSet as set

-- ---- changes one after the other

pub tells-then : (changes more : List TagChange) (a b c : List KeyedCell) → TellsTags changes a b → TellsTags more b c →
    TellsTags (changes ++ more) a c
tells-then [] more a b c first then_more = subst (λ cells. TellsTags more cells c) first then_more
tells-then (change ∷ changes) more a b c first then_more =
    (first.0, tells-then changes more _ b c first.1 then_more)

pub told-characters : (changes : List TagChange) (a b : List KeyedCell) → TellsTags changes a b →
    characters b ≡ characters a
told-characters [] a b told = ap characters told
told-characters (change ∷ changes) a b told =
    told-characters changes _ b told.1
    ∙ map-changed (λ (cell : KeyedCell). cell.character) (with_key change.key change.on) (λ c. c) (λ cell. refl)
    change.from change.to a
    ∙ changed-same change.from change.to (characters a) (let some = told.0.some in omega (arith, some))

-- ---- a part of a list

pub part-is : {A : Type 0} (front middle back : List A) (from to : ℕ) → from ≡ length front →
    to ≡ length front + length middle → slice_range (front ++ middle ++ back) from to ≡ middle
part-is front middle back from to start end =
    ap (λ xs. take (to - from) (drop from xs)) (append_assoc front middle back)
    ∙ ap (take (to - from)) (drop_at front (middle ++ back) from (sym start))
    ∙ take_at middle back (to - from) (omega (arith, start, end))

pub part-changed : {A : Type 0} (f : A → A) (front middle back : List A) (from to : ℕ) → from ≡ length front →
    to ≡ length front + length middle
    → changed f from to (front ++ middle ++ back) ≡ front ++ map f middle ++ back
part-changed f front middle back from to start end =
    let first : take from (front ++ middle ++ back) ≡ front =
    ap (take from) (append_assoc front middle back) ∙ take_at front (middle ++ back) from (sym start) in
    let last : drop to (front ++ middle ++ back) ≡ back =
    drop_at (front ++ middle) back to (length-append front middle ∙ sym end) in
    λ i. first i ++ map f (part-is front middle back from to start end i) ++ last i

-- ---- keys that are put on, or taken off, one after the other

pub either_cond : (a b on had : Bool) → cond b on (cond a on had) ≡ cond (a || b) on had
either_cond true true on had = refl
either_cond true false on had = refl
either_cond false b on had = refl

pub both-false : (a b : Bool) → (a || b) ≡ false → (a ≡ false) × (b ≡ false)
both-false true b none = absurd (true≢false none)
both-false false b none = (refl, none)

-- keys with one of them put on that they have, or taken off that they haven't
pub set_again : (key : Key) (on : Bool) (keys : Keys) → set.contains keys key ≡ on → set_key key on keys ≡ keys
set_again key on keys is = keys_same (λ other.
    contains-set_key key on keys other
    ∙ elim (eq_by_cmp key_cmp other key) as (λ b. eq_by_cmp key_cmp other key ≡ b →
    cond b on (set.contains keys other) ≡ set.contains keys other) [
      | true ↦ λ same. sym (ap (set.contains keys) (key_tied other key same) ∙ is)
      | false ↦ λ _. refl
    ] refl)

-- ---- characters behind a change

-- what stands behind a change stays as it is
pub drop-changed : {A : Type 0} (f : A → A) (from to : ℕ) (xs : List A) (n : ℕ) → from ≤ to → to ≤ length xs → to ≤ n →
    drop n (changed f from to xs) ≡ drop n xs
drop-changed f from to xs n ordered within behind =
    let front = take from xs ++ map f (slice_range xs from to) in
    let long : length front ≡ to = omega (
      arith,
      length-append (take from xs) (map f (slice_range xs from to)),
      length-map (slice_range xs from to) f,
      length-take-le from xs (omega arith),
      length-take-le (to - from) (drop from xs) (omega (arith, length-drop from xs)),
    ) in
    let here : n ≡ to + (n - to) = omega arith in
    ap (λ k. drop k (changed f from to xs)) here
    ∙ sym (drop-drop (n - to) to (changed f from to xs))
    ∙ ap (drop (n - to)) (drop_at front (drop to xs) to long)
    ∙ drop-drop (n - to) to xs ∙ ap (λ k. drop k xs) (sym here)

pub bare-behind : (f : Cell → Cell) (from to at : ℕ) (runs : List SlotRun) (cells : List Cell) → from ≤ to →
    to ≤ length cells → to ≤ at → AreBareRuns at runs cells → AreBareRuns at runs (changed f from to cells)
bare-behind f from to at [] cells ordered within behind runs = runs
bare-behind f from to at (run ∷ rest) cells ordered within behind runs =
    let above = runs.0 in let is = runs.1 in let some = is.some in (
      above,
      record {
        some = some;
        within = rw (length-changed f from to cells ordered within) is.within;
        bare = subst (λ xs. All (λ (cell : Cell). cell.tags ≡ set.empty) (take (run.to - run.from) xs))
            (sym (drop-changed f from to cells run.from ordered within (omega (arith, above)))) is.bare;
      },
      bare-behind f from to run.to rest cells ordered within (omega (arith, above, some)) runs.2,
    )
