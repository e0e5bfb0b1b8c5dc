-- Steps in another order that make the same.
use Rattle.std.specs.Prelude.{ℕ, ◌≡◌, ◌+◌, ◌<◌, ◌≤◌, List, [], ◌∷◌, ◌++◌, ⊤, map, IfSome}
use Rattle.text_model.specs.declared.edits.Step.{Step}
use Rattle.text_model.specs.declared.edits.Step.TheVariants.{Remove, Insert, SetTag, ClearTags, ClearSlot, PutMark}
use Rattle.text_model.specs.declared.edits.Step.TheVariants.{TakeMark}
use Rattle.text_model.specs.Content.{Content}
use Rattle.text_model.specs.Steps.{Fits, after}
use Rattle.edit_ops.specs.declared.orders.Reach.{Reach}
use Rattle.edit_ops.specs.declared.orders.Watched.{Watched}
use Rattle.edit_ops.specs.declared.spans.Span.{Span}

-- what some steps make of each content that they fit, others make too
abbrev pub AreAlike : List Step → List Step → Type 0
AreAlike steps others =
    (content : Content) → Fits steps content → Fits others content × (after others content ≡ after steps content)

-- a step at other offsets
abbrev pub at_span : Step → Span → Step
at_span (Remove from to) span = Remove span.from span.to
at_span (Insert at text slots) span = Insert span.from text slots
at_span (SetTag from to slot on) span = SetTag from to slot on
at_span (ClearTags at) span = ClearTags at
at_span (ClearSlot slot) span = ClearSlot slot
at_span (PutMark number place) span = PutMark number place
at_span (TakeMark number) span = TakeMark number

-- an offset before steps is that of the same character as one after them, behind which they change nothing
abbrev pub IsBefore : Reach → ℕ → ℕ → Type 0
IsBefore reach offset before = (before + reach.added ≡ offset + reach.taken) × (reach.top < before)

-- where a step acts before other steps, if it acts strictly above all of them after them
abbrev pub IsLowered : Reach → Step → Span → Type 0
IsLowered reach (Remove from to) span =
    (from ≤ to) × IsBefore reach from span.from × IsBefore reach to span.to
IsLowered reach (Insert at text slots) span = IsBefore reach at span.from
IsLowered reach (SetTag from to slot on) span = ⊥
IsLowered reach (ClearTags at) span = ⊥
IsLowered reach (ClearSlot slot) span = ⊥
IsLowered reach (PutMark number place) span = ⊥
IsLowered reach (TakeMark number) span = ⊥

-- a step above a reach may be made before these steps
abbrev pub LetsPass : List Step → Reach → Type 0
LetsPass steps reach =
    (step : Step) (span : Span) → IsLowered reach step span
    → AreAlike (steps ++ step ∷ []) (at_span step span ∷ steps)

abbrev pub steps_in : List Watched → List Step
steps_in watched = map (λ (one : Watched). one.step) watched

-- the reach beside each step, if there is one, is that of this step and those behind it
abbrev pub AreWatched : List Watched → Type 0
AreWatched [] = ⊤
AreWatched (one ∷ rest) = IfSome one.reach (LetsPass (one.step ∷ steps_in rest)) × AreWatched rest

-- the first of the steps that are made behind others may be made before them, where it acts at other offsets
abbrev pub Passes : Span → List Step → List Step → Type 0
Passes span steps [] = ⊥
Passes span steps (step ∷ rest) = AreAlike (steps ++ step ∷ rest) (at_span step span ∷ steps ++ rest)
