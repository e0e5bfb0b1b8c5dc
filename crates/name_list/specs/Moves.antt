-- What moves within a list, by tests of its elements.
pub use Rattle.indexmap.specs.IndexMap.{move_index}
use Rattle.std.specs.Prelude.{Bool, List, [], ◌∷◌, if◌then◌else◌}

-- the list without the first element that passes
abbrev pub without : {A : Type 0} → (A → Bool) → List A → List A
without test [] = []
without test (x ∷ xs) = if test x then xs else x ∷ without test xs

-- the list with a new element right behind the first that passes, or last if none does
abbrev pub put_behind : {A : Type 0} → (A → Bool) → A → List A → List A
put_behind test new [] = new ∷ []
put_behind test new (x ∷ xs) = if test x then x ∷ new ∷ xs else x ∷ put_behind test new xs

-- the list with a new element right before the first that passes, or last if none does
abbrev pub put_before : {A : Type 0} → (A → Bool) → A → List A → List A
put_before test new [] = new ∷ []
put_before test new (x ∷ xs) = if test x then new ∷ x ∷ xs else x ∷ put_before test new xs
