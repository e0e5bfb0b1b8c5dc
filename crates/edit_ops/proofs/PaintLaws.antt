-- Spans of a list that are changed by a function, one after the other. Where the function does no more the second time,
-- what comes of it depends on the offsets that lie in the spans alone.
use Rattle.edit_ops.proofs.Common.{◌≡◌, ℕ, ◌+◌, ◌≤◌, ◌||◌, Bool, true, false, List, [], ◌∷◌, ◌++◌, inl, inr, map}
use Rattle.edit_ops.proofs.Common.{length, take, drop, get_or, refl, sym, ap, ◌∙◌, arith, subst, slice_range}
use Rattle.edit_ops.proofs.Common.{if◌then◌else◌, All, cases_lt, take-append-le, take-take, All-cons, All-head, All-nil}
use Rattle.edit_ops.proofs.Common.{All-tail, changed, get_or-changed_before, get_or-changed_behind}
use Rattle.edit_ops.proofs.Common.{get_or-changed_within, length-changed, AreApart, in_spans, SpanFits, Span}
use Rattle.edit_ops.proofs.Common.{length-append, length-take, same_lists}
use Rattle.edit_ops.proofs.RunLaws.{inside, inside-before, inside-behind, inside-is}

-- spans that don't touch, of which the last comes first, fit a text that this one fits
pub apart-fit : (border len : ℕ) (runs : List Span) → border ≤ len + 1 → AreApart border runs → All (SpanFits len) runs
apart-fit border len [] low apart = All-nil (SpanFits len)
apart-fit border len (run ∷ runs) low apart =
    let some = apart.0 in let below = apart.1 in
    All-cons (SpanFits len) run runs (record { ordered = omega (arith, some); within = omega (arith, below, low) })
    (apart-fit run.from len runs (omega (arith, some, below, low)) apart.2)

take-changed : {A : Type 0} (f : A → A) (n from to : ℕ) (xs : List A) → n ≤ from → n ≤ length xs →
    take n (changed f from to xs) ≡ take n xs
take-changed f n from to xs before within =
    let middle = map f (slice_range xs from to) in
    let long : n ≤ length (take from xs) = omega (arith, length-take from xs, before, within) in
    take-append-le n (take from xs ++ middle) (drop to xs)
    (omega (arith, length-append (take from xs) middle, long))
    ∙ take-append-le n (take from xs) middle long ∙ take-take n from xs before

module _ {A : Type 0} (f : A → A) where
  abbrev pub painted : List Span → List A → List A
  painted [] xs = xs
  painted (span ∷ spans) xs = painted spans (changed f span.from span.to xs)

  pub painted-push : (spans : List Span) (span : Span) (xs : List A) →
      painted (spans ++ span ∷ []) xs ≡ changed f span.from span.to (painted spans xs)
  painted-push [] span xs = refl
  painted-push (first ∷ spans) span xs = painted-push spans span (changed f first.from first.to xs)

  one-long : (span : Span) (xs : List A) → SpanFits (length xs) span → length (changed f span.from span.to xs) ≡ length xs
  one-long span xs fits = length-changed f span.from span.to xs fits.ordered fits.within

  rest-fits : (span : Span) (spans : List Span) (xs : List A) → All (SpanFits (length xs)) (span ∷ spans) →
      All (SpanFits (length (changed f span.from span.to xs))) spans
  rest-fits span spans xs fits = subst (λ n. All (SpanFits n) spans)
      (sym (one-long span xs (All-head (SpanFits (length xs)) span spans fits)))
      (All-tail (SpanFits (length xs)) span spans fits)

  pub painted-long : (spans : List Span) (xs : List A) → All (SpanFits (length xs)) spans →
      length (painted spans xs) ≡ length xs
  painted-long [] xs fits = refl
  painted-long (span ∷ spans) xs fits =
      painted-long spans (changed f span.from span.to xs) (rest-fits span spans xs fits)
      ∙ one-long span xs (All-head (SpanFits (length xs)) span spans fits)

  -- what stands before all of them stays
  pub painted-front : (n : ℕ) (spans : List Span) (xs : List A) → n ≤ length xs → All (SpanFits (length xs)) spans →
      All (λ (span : Span). n ≤ span.from) spans → take n (painted spans xs) ≡ take n xs
  painted-front n [] xs within fits before = refl
  painted-front n (span ∷ spans) xs within fits before =
      let long = one-long span xs (All-head (SpanFits (length xs)) span spans fits) in
      painted-front n spans (changed f span.from span.to xs) (omega (arith, long, within)) (rest-fits span spans xs fits)
      (All-tail (λ (s : Span). n ≤ s.from) span spans before)
      ∙ take-changed f n span.from span.to xs (All-head (λ (s : Span). n ≤ s.from) span spans before) within

  -- where each element stays as it is
  pub painted-idle : (spans : List Span) (xs : List A) → ((span : Span) → SpanFits (length xs) span →
      changed f span.from span.to xs ≡ xs) → All (SpanFits (length xs)) spans → painted spans xs ≡ xs
  painted-idle [] xs idle fits = refl
  painted-idle (span ∷ spans) xs idle fits =
      ap (painted spans) (idle span (All-head (SpanFits (length xs)) span spans fits))
      ∙ painted-idle spans xs idle (All-tail (SpanFits (length xs)) span spans fits)

  module _ (twice : (x : A) → f (f x) ≡ f x) where
    abbrev touched : Bool → A → A
    touched here x = if here then f x else x

    touched-twice : (a b : Bool) (x : A) → touched b (touched a x) ≡ touched (a || b) x
    touched-twice true true x = twice x
    touched-twice true false x = refl
    touched-twice false b x = refl

    one-at : (span : Span) (xs : List A) (k : ℕ) (d : A) → SpanFits (length xs) span →
        get_or (changed f span.from span.to xs) k d ≡ touched (inside span k) (get_or xs k d)
    one-at span xs k d fits = elim (cases_lt k span.from) [
      | inl before ↦
          get_or-changed_before f span.from span.to xs k d
          (let a = fits.ordered in let b = fits.within in omega (arith, a, b)) before
          ∙ sym (ap (λ here. touched here (get_or xs k d)) (inside-before span k before))
      | inr above ↦ elim (cases_lt k span.to) [
        | inl below ↦
            get_or-changed_within f span.from span.to xs k d fits.within (omega (arith, above)) below
            ∙ sym (ap (λ here. touched here (get_or xs k d)) (inside-is span k (omega (arith, above)) below))
        | inr behind ↦
            get_or-changed_behind f span.from span.to xs k d fits.ordered fits.within (omega (arith, behind))
            ∙ sym (ap (λ here. touched here (get_or xs k d)) (inside-behind span k (omega (arith, behind))))
      ]
    ]

    painted-at : (spans : List Span) (xs : List A) (k : ℕ) (d : A) → All (SpanFits (length xs)) spans →
        get_or (painted spans xs) k d ≡ touched (in_spans spans k) (get_or xs k d)
    painted-at [] xs k d fits = refl
    painted-at (span ∷ spans) xs k d fits =
        painted-at spans (changed f span.from span.to xs) k d (rest-fits span spans xs fits)
        ∙ ap (touched (in_spans spans k)) (one-at span xs k d (All-head (SpanFits (length xs)) span spans fits))
        ∙ touched-twice (inside span k) (in_spans spans k) (get_or xs k d)

    -- spans in which the same offsets lie are changed alike
    pub painted-same : (spans others : List Span) (xs : List A) → All (SpanFits (length xs)) spans →
        All (SpanFits (length xs)) others → ((offset : ℕ) → in_spans spans offset ≡ in_spans others offset)
        → painted spans xs ≡ painted others xs
    painted-same spans others xs fits others_fit same =
        same_lists _ _ (painted-long spans xs fits ∙ sym (painted-long others xs others_fit)) (λ k d within.
        painted-at spans xs k d fits ∙ ap (λ here. touched here (get_or xs k d)) (same k)
        ∙ sym (painted-at others xs k d others_fit))
