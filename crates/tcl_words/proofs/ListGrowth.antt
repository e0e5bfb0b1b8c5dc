-- A list that grows at its end.
use Rattle.tcl_words.proofs.Common.{◌≡◌, ℕ, ◌+◌, ◌<◌, List, [], ◌∷◌, ◌++◌, sym, ap, subst, ◌∙◌, map-append, take_more}
use Rattle.tcl_words.proofs.Common.{Goes, list_text, encode_utf8_all, get_or, length, map, take, append_assoc}
use Rattle.tcl_words.proofs.Common.{append-nil}

pub goes_nowhere : (bytes : List ℕ) → Goes bytes bytes []
goes_nowhere bytes list is = is ∙ ap (λ xs. encode_utf8_all (list_text xs)) (sym (append-nil list))

pub goes_on : (old between new : List ℕ) (some more : List (List ℕ)) → Goes old between some → Goes between new more →
    Goes old new (some ++ more)
goes_on old between new some more first second list is =
    second (list ++ some) (first list is) ∙ ap (λ xs. encode_utf8_all (list_text xs)) (append_assoc list some more)

-- an element more of a list that is made of another one
pub goes_mapped : {A : Type 0} (f : A → List ℕ) (old between new : List ℕ) (xs : List A) (at : ℕ) (x : A) →
    at < length xs → x ≡ get_or xs at x
    → Goes old between (map f (take at xs)) → Goes between new (f x ∷ []) → Goes old new (map f (take (at + 1) xs))
goes_mapped f old between new xs at x within is first second =
    let more : map f (take (at + 1) xs) ≡ map f (take at xs) ++ f x ∷ [] =
    ap (map f) (take_more xs at x within ∙ ap (λ y. take at xs ++ y ∷ []) (sym is))
    ∙ map-append f (take at xs) (x ∷ []) in
    subst (Goes old new) (sym more) (goes_on old between new (map f (take at xs)) (f x ∷ []) first second)

-- a list that begins with no element
pub goes_all : (old new : List ℕ) (more : List (List ℕ)) → old ≡ [] → Goes old new more →
    new ≡ encode_utf8_all (list_text more)
goes_all old new more is goes = goes [] is
