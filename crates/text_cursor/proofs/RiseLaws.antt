-- The parts of a text on the way stand in the order of the old one.
use Rattle.text_cursor.proofs.Common.{◌≡◌, ℕ, ◌<◌, ◌≤◌, List, [], ◌∷◌, ◌++◌, Option, Some, None, refl, sym, ap, ◌∙◌}
use Rattle.text_cursor.proofs.Common.{arith, subst, append_assoc, reverse, reverse-append, reverse-reverse, Slots, Part}
use Rattle.text_cursor.proofs.Common.{old_place, Rise}

-- ---- an earlier border does as well

-- the parts behind a border, with one before them
abbrev Over : Option Slots → ℕ → ℕ → ℕ → ℕ → List Part → Type 0
Over slots from to border len parts =
    (border ≤ old_place slots from border) × Rise (old_place slots to border) len parts

lower-over : (slots : Option Slots) (from to low border len : ℕ) (parts : List Part) → low ≤ border
    → (Rise border len parts → Rise low len parts) → Over slots from to border len parts →
    Over slots from to low len parts
lower-over None from to low border len parts below lower rise =
    let first : border ≤ from = rise.0 in (omega (arith, below, first), rise.1)
lower-over (Some slots) from to low border len parts below lower rise = (omega arith, lower rise.1)

pub rise-lower : (low border len : ℕ) (parts : List Part) → low ≤ border → Rise border len parts → Rise low len parts
rise-lower low border len [] below rise = let last : border ≤ len = rise in omega (arith, below, last)
rise-lower low border len (part ∷ parts) below rise =
    lower-over part.slots part.from part.to low border len parts below (rise-lower low border len parts below) rise

-- ---- what stands behind others changes

pub rise-behind : (len : ℕ) (front parts now : List Part) → ((border : ℕ) → Rise border len parts → Rise border len now)
    → (border : ℕ) → Rise border len (front ++ parts) → Rise border len (front ++ now)
rise-behind len [] parts now goes border rise = goes border rise
rise-behind len (part ∷ front) parts now goes border rise =
    (rise.0, rise-behind len front parts now goes (old_place part.slots part.to border) rise.1)

-- a part is dropped
over-dropped : (slots : Option Slots) (from to border len : ℕ) (parts : List Part) → from < to →
    Over slots from to border len parts → Rise border len parts
over-dropped None from to border len parts some rise =
    let first : border ≤ from = rise.0 in rise-lower border to len parts (omega (arith, some, first)) rise.1
over-dropped (Some slots) from to border len parts some rise = rise.1

-- or begins later
over-trimmed : (slots : Option Slots) (from middle to border len : ℕ) (parts : List Part) → from ≤ middle →
    Over slots from to border len parts → Over slots middle to border len parts
over-trimmed None from middle to border len parts above rise =
    let first : border ≤ from = rise.0 in (omega (arith, above, first), rise.1)
over-trimmed (Some slots) from middle to border len parts above rise = rise

-- or is cut in two
over-cut : (slots : Option Slots) (from middle to border len : ℕ) (parts : List Part) →
    Over slots from to border len parts
    → (border ≤ old_place slots from border) × Over slots middle to (old_place slots middle border) len parts
over-cut None from middle to border len parts rise = (rise.0, (omega arith, rise.1))
over-cut (Some slots) from middle to border len parts rise = (rise.0, rise)

-- ---- the parts on both sides of a place

-- the nearest part behind it
parts-behind : (front behind : List Part) (part : Part) →
    front ++ reverse (behind ++ part ∷ []) ≡ front ++ part ∷ reverse behind
parts-behind front behind part = ap (λ parts. front ++ parts) (reverse-append behind (part ∷ []))

-- the nearest part before it
parts-ahead : (front behind : List Part) (part : Part) →
    (front ++ part ∷ []) ++ reverse behind ≡ front ++ part ∷ reverse behind
parts-ahead front behind part = append_assoc front (part ∷ []) (reverse behind)

-- parts go from one side to the other, turned
pub parts-across : (front behind parts : List Part) →
    (front ++ parts) ++ reverse behind ≡ front ++ reverse (behind ++ reverse parts)
parts-across front behind parts =
    append_assoc front parts (reverse behind)
    ∙ ap (λ ps. front ++ ps) (ap (λ ps. ps ++ reverse behind) (sym (reverse-reverse parts))
    ∙ sym (reverse-append behind (reverse parts)))

-- the same parts, or others that rise as well
pub rises : (old_len len : ℕ) (old all : List Part) → len ≡ old_len → all ≡ old → Rise 0 old_len old → Rise 0 len all
rises old_len len old all same is rise = subst (λ n. Rise 0 n all) (sym same) (subst (Rise 0 old_len) (sym is) rise)

pub rise-across : (old_len len : ℕ) (front behind parts wide deep : List Part) → len ≡ old_len
    → wide ≡ front ++ parts → deep ≡ behind ++ reverse parts → Rise 0 old_len (wide ++ reverse behind)
    → Rise 0 len (front ++ reverse deep)
rise-across old_len len front behind parts wide deep same wide_is deep_is =
    rises old_len len (wide ++ reverse behind) (front ++ reverse deep) same
    (ap (λ ps. front ++ reverse ps) deep_is ∙ sym (parts-across front behind parts)
    ∙ ap (λ ps. ps ++ reverse behind) (sym wide_is))

pub rise-along : (old_len len : ℕ) (front behind parts wide deep : List Part) → len ≡ old_len
    → wide ≡ front ++ parts → deep ≡ behind ++ reverse parts → Rise 0 old_len (front ++ reverse deep)
    → Rise 0 len (wide ++ reverse behind)
rise-along old_len len front behind parts wide deep same wide_is deep_is =
    rises old_len len (front ++ reverse deep) (wide ++ reverse behind) same
    (ap (λ ps. ps ++ reverse behind) wide_is ∙ parts-across front behind parts
    ∙ ap (λ ps. front ++ reverse ps) (sym deep_is))

-- the nearest part behind the place is cut in two
pub rise-cut : (old_len len : ℕ) (front rest : List Part) (part : Part) (middle : ℕ) (old wide deep : List Part) →
    len ≡ old_len → old ≡ rest ++ part ∷ [] → wide ≡ front ++ record part { to = middle } ∷ []
    → deep ≡ rest ++ record part { from = middle } ∷ [] → Rise 0 old_len (front ++ reverse old)
    → Rise 0 len (wide ++ reverse deep)
rise-cut old_len len front rest part middle old wide deep same old_is wide_is deep_is rise =
    let first : Part = record part { to = middle } in
    let last : Part = record part { from = middle } in
    let parts = reverse rest in
    let before : Rise 0 old_len (front ++ part ∷ parts) =
    rises old_len old_len (front ++ reverse old) (front ++ part ∷ parts) refl
    (sym (ap (λ ps. front ++ reverse ps) old_is ∙ parts-behind front rest part)) rise in
    rises old_len len (front ++ first ∷ last ∷ parts) (wide ++ reverse deep) same
    (ap (λ ps. ps ++ reverse deep) wide_is ∙ parts-ahead front deep first
    ∙ ap (λ ps. front ++ first ∷ ps) (ap reverse deep_is ∙ reverse-append rest (last ∷ [])))
    (rise-behind old_len front (part ∷ parts) (first ∷ last ∷ parts)
    (λ border. over-cut part.slots part.from middle part.to border old_len parts) 0 before)

-- the nearest part behind the place begins later
pub rise-trimmed : (old_len len : ℕ) (front rest : List Part) (part : Part) (middle : ℕ)
    (old same_front deep : List Part) → len ≡ old_len → part.from ≤ middle → old ≡ rest ++ part ∷ [] → same_front ≡ front
    → deep ≡ rest ++ record part { from = middle } ∷ [] → Rise 0 old_len (front ++ reverse old)
    → Rise 0 len (same_front ++ reverse deep)
rise-trimmed old_len len front rest part middle old same_front deep same above old_is front_is deep_is rise =
    let last : Part = record part { from = middle } in
    let parts = reverse rest in
    let before : Rise 0 old_len (front ++ part ∷ parts) =
    rises old_len old_len (front ++ reverse old) (front ++ part ∷ parts) refl
    (sym (ap (λ ps. front ++ reverse ps) old_is ∙ parts-behind front rest part)) rise in
    rises old_len len (front ++ last ∷ parts) (same_front ++ reverse deep) same
    (ap (λ ps. ps ++ reverse deep) front_is ∙ ap (λ ps. front ++ ps) (ap reverse deep_is
    ∙ reverse-append rest (last ∷ [])))
    (rise-behind old_len front (part ∷ parts) (last ∷ parts)
    (λ border. over-trimmed part.slots part.from middle part.to border old_len parts above) 0 before)

-- or is dropped
pub rise-dropped : (old_len len : ℕ) (front rest : List Part) (part : Part) (old same_front : List Part) →
    len ≡ old_len → part.from < part.to → old ≡ rest ++ part ∷ [] → same_front ≡ front
    → Rise 0 old_len (front ++ reverse old) → Rise 0 len (same_front ++ reverse rest)
rise-dropped old_len len front rest part old same_front same some old_is front_is rise =
    let parts = reverse rest in
    let before : Rise 0 old_len (front ++ part ∷ parts) =
    rises old_len old_len (front ++ reverse old) (front ++ part ∷ parts) refl
    (sym (ap (λ ps. front ++ reverse ps) old_is ∙ parts-behind front rest part)) rise in
    rises old_len len (front ++ parts) (same_front ++ parts) same (ap (λ ps. ps ++ parts) front_is)
    (rise-behind old_len front (part ∷ parts) parts
    (λ border. over-dropped part.slots part.from part.to border old_len parts some) 0 before)

-- a new text is put in before the place
pub rise-put : (old_len len : ℕ) (front behind : List Part) (from to : ℕ) (slots : Slots) (wide deep : List Part) →
    len ≡ old_len → wide ≡ front ++ record { from = from; to = to; slots = Some slots } ∷ [] → deep ≡ behind
    → Rise 0 old_len (front ++ reverse behind) → Rise 0 len (wide ++ reverse deep)
rise-put old_len len front behind from to slots wide deep same wide_is deep_is rise =
    let part : Part = record { from = from; to = to; slots = Some slots } in
    let parts = reverse behind in
    rises old_len len (front ++ part ∷ parts) (wide ++ reverse deep) same
    (ap (λ ps. ps ++ reverse deep) wide_is ∙ parts-ahead front deep part
    ∙ ap (λ ps. front ++ part ∷ reverse ps) deep_is)
    (rise-behind old_len front parts (part ∷ parts) (λ border rise. (omega arith, rise)) 0 rise)
