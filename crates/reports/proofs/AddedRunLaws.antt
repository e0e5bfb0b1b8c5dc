-- Changes of one key that are added run by run leave gaps.
use Rattle.reports.proofs.Common.{◌≡◌, ℕ, ◌+◌, ◌<◌, ◌≤◌, Bool, true, false, not, List, [], ◌∷◌, ◌++◌, length, drop}
use Rattle.reports.proofs.Common.{get_or, refl, sym, ap, ◌∙◌, arith, subst, inl, inr, true≢false, append-nil}
use Rattle.reports.proofs.Common.{append_assoc, Some, slice_get, get_or_from_slice_get, drop_more, All, All-append}
use Rattle.reports.proofs.Common.{All-cons, All-nil, All-push, All-weaker, is_alike, flag_at, next_change, Span, Key}
use Rattle.reports.proofs.Common.{AddsRuns, AreGapped, LeavesGap, LiesIn, TagChange, next-other}
use Rattle.edit_ops.specs.Deletions.{AreApart}
use mathlib.Core.Bool.{beq}
use Rattle.reports.proofs.TagRunLaws.{gapped-append}

lie-wider : (key : Key) (from to lower upper : ℕ) (changes : List TagChange) → lower ≤ from → to ≤ upper →
    All (LiesIn key from to) changes → All (LiesIn key lower upper) changes
lie-wider key from to lower upper changes below above all =
    All-weaker (LiesIn key from to) (LiesIn key lower upper) (λ change lies.
    (let first = lies.above in let last = lies.below in record {
      same = lies.same;
      above = omega (arith, first, below);
      some = lies.some;
      below = omega (arith, last, above);
    })) changes all

pub adds-none : (key : Key) (from to : ℕ) (told : List TagChange) → AddsRuns key from to told told
adds-none key from to told = record {
  added = [];
  is = sym (append-nil told);
  lie = All-nil (LiesIn key from to);
  gapped = tt;
}

-- one change
pub adds-one : (key : Key) (from to : ℕ) (on : Bool) (told now : List TagChange) → from < to →
    now ≡ told ++ record { key = key; from = from; to = to; on = on } ∷ [] → AddsRuns key from to told now
adds-one key from to on told now some is =
    let change : TagChange = record { key = key; from = from; to = to; on = on } in
    record {
      added = change ∷ [];
      is = is;
      lie = All-cons (LiesIn key from to) change []
          (record { same = refl; above = omega arith; some = some; below = omega arith }) (All-nil (LiesIn key from to));
      gapped = (All-nil (LeavesGap change), tt);
    }

-- ---- the runs of a span, from its beginning on

-- what is added up to an offset; the character there goes on with none of it
pub record AddsUpTo (key : Key) (on : Bool) (flags : List Bool) (from at end : ℕ) (told now : List TagChange) : Type 0
  where
    pub runs : AddsRuns key from at told now
    pub gap : at < end → flag_at flags at ≡ not on → All (λ (change : TagChange). change.to < at) runs.added

pub upto-none : (key : Key) (on : Bool) (flags : List Bool) (from end : ℕ) (told : List TagChange) →
    AddsUpTo key on flags from from end told told
unfolding adds-none
upto-none key on flags from end told = record {
  runs = adds-none key from from told;
  gap = λ _ _. All-nil (λ (change : TagChange). change.to < from);
}

module _ (key : Key) (on has : Bool) (flags : List Bool) (from at next end : ℕ) (told before : List TagChange)
    (above : from ≤ at) (some : at < next) (here : slice_get flags at ≡ Some has)
    (so_far : AddsUpTo key on flags from at end told before) where
  flag : flag_at flags at ≡ has
  flag = get_or_from_slice_get flags at has false here

  -- a run that is otherwise
  pub upto-told : not (beq has on) ≡ true → at < end → end ≤ length flags →
      (next < end → next ≡ next_change flags at) → (now : List TagChange)
      → now ≡ before ++ record { key = key; from = at; to = next; on = on } ∷ []
      → AddsUpTo key on flags from next end told now
  upto-told test inner within cut now is =
      let change : TagChange = record { key = key; from = at; to = next; on = on } in
      let runs = so_far.runs in
      let other : has ≡ not on = otherwise has on test in
      record {
        runs = record {
          added = runs.added ++ change ∷ [];
          is = is ∙ ap (λ changes. changes ++ change ∷ []) runs.is ∙ append_assoc told runs.added (change ∷ []);
          lie = All-push (LiesIn key from next) runs.added change
              (lie-wider key from at from next runs.added (omega arith) (omega (arith, some)) runs.lie)
              (record { same = refl; above = above; some = some; below = omega arith });
          gapped = gapped-append runs.added (change ∷ []) runs.gapped (All-nil (LeavesGap change), tt) (λ k d there.
              All-cons (LeavesGap (get_or runs.added k d)) change []
              (λ _. inl (so_far.gap inner (flag ∙ other) k d there)) (All-nil (LeavesGap (get_or runs.added k d))));
        };
        gap = λ more same.
            let stop : next ≡ next_change flags at = cut more in
            absurd (true≢false (sym (alike (flag_at flags at) (flag_at flags next) (flag ∙ other ∙ sym same))
            ∙ ap (λ n. is_alike (flag_at flags at) (flag_at flags n)) stop
            ∙ next-other flags at (omega (arith, stop, more, within))));
      }
    where
      otherwise : (has on : Bool) → not (beq has on) ≡ true → has ≡ not on
      otherwise true true is = sym is
      otherwise true false is = refl
      otherwise false true is = refl
      otherwise false false is = is

      alike : (a b : Bool) → a ≡ b → is_alike a b ≡ true
      alike true b same = sym same
      alike false b same = ap not (sym same)

  -- or one that is so already
  pub upto-passed : AddsUpTo key on flags from next end told before
  upto-passed =
      let runs = so_far.runs in
      record {
        runs = record {
          added = runs.added;
          is = runs.is;
          lie = lie-wider key from at from next runs.added (omega arith) (omega (arith, some)) runs.lie;
          gapped = runs.gapped;
        };
        gap = λ _ _. All-weaker (LiesIn key from at) (λ (change : TagChange). change.to < next) (λ change lies.
            (let last = lies.below in omega (arith, last, some))) runs.added runs.lie;
      }

-- ---- the runs of spans, of which the last comes first

-- what is added by some spans, and the spans that are left end before it
pub record AddsDownTo (key : Key) (len : ℕ) (rest : List Span) (told now : List TagChange) : Type 0 where
  pub low : ℕ
  pub within : low ≤ len + 1
  pub runs : AddsRuns key low len told now
  pub apart : AreApart low rest

pub down-none : (key : Key) (len : ℕ) (spans : List Span) (told : List TagChange) → AreApart (len + 1) spans →
    AddsDownTo key len spans told told
down-none key len spans told apart = record {
  low = len + 1;
  within = omega arith;
  runs = adds-none key (len + 1) len told;
  apart = apart;
}

pub down-more : (key : Key) (len : ℕ) (spans : List Span) (at : ℕ) (d : Span) (told before now : List TagChange) →
    at < length spans → AddsDownTo key len (drop at spans) told before
    → (let span = get_or spans at d in (span.from < span.to → AddsRuns key span.from span.to before now))
    → AddsDownTo key len (drop (at + 1) spans) told now
down-more key len spans at d told before now inside so_far adds =
    let span = get_or spans at d in
    let apart : AreApart so_far.low (span ∷ drop (at + 1) spans) =
    subst (AreApart so_far.low) (drop_more spans at d inside) so_far.apart in
    let some = apart.0 in let below = apart.1 in
    let within = so_far.within in
    let first = so_far.runs in
    let second = adds some in
    record {
      low = span.from;
      within = omega (arith, some, below, within);
      runs = record {
        added = first.added ++ second.added;
        is = second.is ∙ ap (λ changes. changes ++ second.added) first.is
            ∙ append_assoc told first.added second.added;
        lie = All-append (LiesIn key span.from len) first.added second.added
            (lie-wider key so_far.low len span.from len first.added (omega (arith, some, below)) (omega arith) first.lie)
            (lie-wider key span.from span.to span.from len second.added (omega arith) (omega (arith, below, within))
            second.lie);
        gapped = gapped-append first.added second.added first.gapped second.gapped (λ k d within j e inner _.
            let one = first.lie k d within in
            let other = second.lie j e inner in
            let above = one.above in let last = other.below in
            inr (omega (arith, above, last, below)));
      };
      apart = apart.2;
    }

pub down-all : (key : Key) (len : ℕ) (rest : List Span) (told now : List TagChange) → AddsDownTo key len rest told now →
    AddsRuns key 0 len told now
down-all key len rest told now down =
    let runs = down.runs in
    record {
      added = runs.added;
      is = runs.is;
      lie = lie-wider key down.low len 0 len runs.added (omega arith) (omega arith) runs.lie;
      gapped = runs.gapped;
    }

-- from no changes on
pub gapped-alone : (key : Key) (from to : ℕ) (told now : List TagChange) → told ≡ [] → AddsRuns key from to told now →
    AreGapped now
gapped-alone key from to told now none runs =
    subst AreGapped (sym (runs.is ∙ ap (λ changes. changes ++ runs.added) none)) runs.gapped
