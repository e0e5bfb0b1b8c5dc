-- What is written spells its list.
use Rattle.tcl_words.proofs.Common.{◌≡◌, ℕ, zero, suc, ◌==◌, ◌||◌, ◌⊎◌, inl, inr, ⊎_elim, Bool, true, false, cond, Some}
use Rattle.tcl_words.proofs.Common.{List, [], ◌∷◌, ◌++◌, refl, sym, ap, ◌∙◌, arith, subst, append_assoc, append-nil}
use Rattle.tcl_words.proofs.Common.{true≢false, nat_tests, Gives, escape, is_white, is_special, has_special}
use Rattle.tcl_words.proofs.Common.{needs_quotes, less, balances, white_letter, backslashed, with_backslashes}
use Rattle.tcl_words.proofs.Common.{element_text, list_text, Spot, AtElement, InElement, Closed, onto_element}
use Rattle.tcl_words.proofs.Common.{end_element, escaped_element, close_element, ReadsList, cond-false}
use Rattle.tcl_words.specs.ListText.{InBraces, read_list}
use Rattle.tcl_words.proofs.Stages.{same_char}
use Rattle.tcl_words.proofs.ListStages.{Found}

-- tests

or_false : (x y : Bool) → (x || y) ≡ false → (x ≡ false) × (y ≡ false)
or_false true y h = absurd (true≢false h)
or_false false y h = (refl, h)

or_true : (x y : Bool) → (x || y) ≡ true → (x ≡ true) ⊎ (y ≡ true)
or_true true y h = inl refl
or_true false y h = inr h

-- a character that is neither white space nor special
record IsPlain (c : ℕ) : Type 0 where
  white : is_white c ≡ false
  open_brace : (c == 123) ≡ false
  close_brace : (c == 125) ≡ false
  quote : (c == 34) ≡ false
  backslash : (c == 92) ≡ false

plain_of : (c : ℕ) → (is_white c || is_special c) ≡ false → IsPlain c
plain_of c h =
    let both = or_false (is_white c) (is_special c) h in
    let special = both.1 in
    record {
      white = both.0;
      open_brace = grind (arith, nat_tests);
      close_brace = grind (arith, nat_tests);
      quote = grind (arith, nat_tests);
      backslash = grind (arith, nat_tests);
    }

-- the escape of each such character gives it

abbrev GivesBack : ℕ → Type 0
GivesBack c = (cs : List ℕ) → escape true (white_letter c ∷ cs) ≡ Gives c 1

at : (c d : ℕ) → GivesBack d → (c == d) ≡ true → GivesBack c
at c d h e = subst GivesBack (sym (same_char c d e)) h

or_at : (c d : ℕ) (x : Bool) → (x ≡ true → GivesBack c) → GivesBack d → (x || c == d) ≡ true → GivesBack c
or_at c d x f g h = ⊎_elim f (at c d g) (or_true x (c == d) h)

white_gives : (c : ℕ) → is_white c ≡ true → GivesBack c
white_gives c = or_at c 12 _
    (or_at c 11 _ (or_at c 13 _ (or_at c 10 _ (or_at c 9 _ (at c 32 (λ cs. refl)) (λ cs. refl)) (λ cs. refl)) (λ cs.
    refl)) (λ cs. refl)) (λ cs. refl)

special_gives : (c : ℕ) → is_special c ≡ true → GivesBack c
special_gives c =
    or_at c 92 _
    (or_at c 59 _
    (or_at c 34 _
    (or_at c 36 _ (or_at c 93 _ (or_at c 91 _ (or_at c 125 _ (at c 123 (λ cs. refl)) (λ cs. refl)) (λ cs. refl))
    (λ cs. refl)) (λ cs. refl)) (λ cs. refl)) (λ cs. refl)) (λ cs. refl)

gives_back : (c : ℕ) → (is_white c || is_special c) ≡ true → GivesBack c
gives_back c h = ⊎_elim (white_gives c) (special_gives c) (or_true (is_white c) (is_special c) h)

-- characters go onto the first element
abbrev onto_all : List ℕ → Found → Found
onto_all [] found = found
onto_all (c ∷ cs) found = onto_element c (onto_all cs found)

all_onto : (cs x : List ℕ) (xs : List (List ℕ)) → onto_all cs (Some (x ∷ xs)) ≡ Some ((cs ++ x) ∷ xs)
all_onto [] x xs = refl
all_onto (c ∷ cs) x xs = ap (onto_element c) (all_onto cs x xs)

one_element : (cs : List ℕ) (xs : List (List ℕ)) → onto_all cs (end_element (Some xs)) ≡ Some (cs ∷ xs)
one_element cs xs = all_onto cs [] xs ∙ ap (λ l. Some (l ∷ xs)) (append-nil cs)

-- What follows an element: the end, or a space and more elements.
record IsTail (tail : List ℕ) (found : Found) : Type 0 where
  bare : read_list tail 0 InElement ≡ end_element found
  closed : read_list tail 0 Closed ≡ found

ends : IsTail [] (Some [])
unfolding read_list
ends = record { bare = refl; closed = refl }

goes_on : (more : List ℕ) → IsTail (32 ∷ more) (read_list more 0 AtElement)
unfolding read_list
goes_on more = record { bare = refl; closed = refl }

-- a bare element

plain_inside : (c : ℕ) (cs : List ℕ) → IsPlain c → read_list (c ∷ cs) 0 InElement
    ≡ onto_element c (read_list cs 0 InElement)
unfolding read_list
plain_inside c cs p = cond-false (is_white c) _ _ p.white ∙ cond-false (c == 92) _ _ p.backslash

plain_begins : (c : ℕ) (cs : List ℕ) → IsPlain c → read_list (c ∷ cs) 0 AtElement
    ≡ onto_element c (read_list cs 0 InElement)
unfolding read_list
plain_begins c cs p = cond-false (is_white c) _ _ p.white ∙ cond-false (c == 123) _ _ p.open_brace ∙ cond-false (c == 34) _ _ p.quote
    ∙ cond-false (c == 92) _ _ p.backslash

some_if : (test rest : Bool) → cond test true rest ≡ false → (test ≡ false) × (rest ≡ false)
some_if true rest h = absurd (true≢false h)
some_if false rest h = (refl, h)

reads_inside : (cs tail : List ℕ) (found : Found) → IsTail tail found → has_special cs ≡ false →
    read_list (cs ++ tail) 0 InElement ≡ onto_all cs (end_element found)
reads_inside [] tail found t h = t.bare
reads_inside (c ∷ cs) tail found t h =
    let k = some_if (is_white c || is_special c) (has_special cs) h in
    plain_inside c (cs ++ tail) (plain_of c k.0) ∙ ap (onto_element c) (reads_inside cs tail found t k.1)

reads_bare : (cs tail : List ℕ) (found : Found) → IsTail tail found → needs_quotes cs ≡ false →
    read_list (cs ++ tail) 0 AtElement ≡ onto_all cs (end_element found)
reads_bare [] tail found t h = absurd (true≢false h)
reads_bare (c ∷ cs) tail found t h =
    let k = some_if (is_white c || is_special c) (has_special cs) (some_if (c == 35) (has_special (c ∷ cs)) h).1 in
    plain_begins c (cs ++ tail) (plain_of c k.0) ∙ ap (onto_element c) (reads_inside cs tail found t k.1)

-- a braced element

abbrev BracedBy : List ℕ → List ℕ → Found → ℕ → Type 0
BracedBy cs tail found depth = read_list (cs ++ 125 ∷ tail) 0 (InBraces depth) ≡ onto_all cs (end_element found)

closes : (tail : List ℕ) (found : Found) (depth : ℕ) → IsTail tail found → (depth == 0) ≡ true →
    BracedBy [] tail found depth
unfolding read_list
closes tail found zero t h = ap end_element t.closed
closes tail found (suc depth) t h = absurd (let e : suc depth ≡ 0 = same_char (suc depth) 0 h in omega arith)

one_less : (depth c : ℕ) (cs tail : List ℕ) (found : Found) (balanced : ℕ → Bool) →
    ((n : ℕ) → balanced n ≡ true → BracedBy cs tail found n) → less depth balanced ≡ true
    → close_element depth c (read_list (cs ++ 125 ∷ tail)) ≡ onto_all (c ∷ cs) (end_element found)
one_less zero c cs tail found balanced rest h = absurd (true≢false (sym h))
one_less (suc depth) c cs tail found balanced rest h = ap (onto_element c) (rest depth h)

braced_tests : (back opens close : Bool) (more same : Bool) (fewer : Bool) (x y z w found : Found)
    → cond back false (cond opens more (cond close fewer same)) ≡ true → (opens ≡ true → close ≡ false)
    → (fewer ≡ true → x ≡ found) → (more ≡ true → y ≡ found) → (same ≡ true → w ≡ found)
    → cond close x (cond opens y (cond back z w)) ≡ found
braced_tests true opens close more same fewer x y z w found h other p q r = absurd (true≢false (sym h))
braced_tests false true true more same fewer x y z w found h other p q r = absurd (true≢false (other refl))
braced_tests false true false more same fewer x y z w found h other p q r = q h
braced_tests false false true more same fewer x y z w found h other p q r = p h
braced_tests false false false more same fewer x y z w found h other p q r = r h

reads_braced : (cs tail : List ℕ) (found : Found) (depth : ℕ) → IsTail tail found → balances cs depth ≡ true →
    BracedBy cs tail found depth
unfolding read_list
reads_braced [] tail found depth t h = closes tail found depth t h
reads_braced (c ∷ cs) tail found depth t h =
    braced_tests (c == 92) (c == 123) (c == 125) (balances cs (suc depth)) (balances cs depth)
    (less depth (balances cs)) _ _ _ _ _ h (λ is. grind (arith, nat_tests))
    (one_less depth c cs tail found (balances cs) (λ n k. reads_braced cs tail found n t k))
    (λ k. ap (onto_element c) (reads_braced cs tail found (suc depth) t k))
    (λ k. ap (onto_element c) (reads_braced cs tail found depth t k))

-- an element with backslashes

escape_read : (c : ℕ) (rest tail : List ℕ) → GivesBack c →
    read_list (92 ∷ white_letter c ∷ rest) 0 InElement ≡ onto_element c (read_list rest 0 InElement)
unfolding read_list
escape_read c rest tail h = ap (escaped_element (λ n. read_list (white_letter c ∷ rest) n InElement)) (h rest)

escape_begins : (c : ℕ) (rest tail : List ℕ) → GivesBack c →
    read_list (92 ∷ white_letter c ∷ rest) 0 AtElement ≡ onto_element c (read_list rest 0 InElement)
unfolding read_list
escape_begins c rest tail h = ap (escaped_element (λ n. read_list (white_letter c ∷ rest) n InElement)) (h rest)

backslash_if : (test : Bool) (c : ℕ) (cs rest tail : List ℕ) (spot : Spot) (found : Found)
    → (test ≡ true → read_list (92 ∷ white_letter c ∷ (rest ++ tail)) 0 spot ≡ found) →
    (test ≡ false → read_list (c ∷ (rest ++ tail)) 0 spot ≡ found)
    → read_list (cond test (92 ∷ white_letter c ∷ rest) (c ∷ rest) ++ tail) 0 spot ≡ found
backslash_if true c cs rest tail spot found h k = h refl
backslash_if false c cs rest tail spot found h k = k refl

reads_backslashed : (cs tail : List ℕ) (found : Found) → IsTail tail found →
    read_list (backslashed cs ++ tail) 0 InElement ≡ onto_all cs (end_element found)
reads_backslashed [] tail found t = t.bare
reads_backslashed (c ∷ cs) tail found t =
    backslash_if (is_white c || is_special c) c cs (backslashed cs) tail InElement
    (onto_all (c ∷ cs) (end_element found))
    (λ h. escape_read c (backslashed cs ++ tail) tail (gives_back c h)
    ∙ ap (onto_element c) (reads_backslashed cs tail found t))
    (λ h. plain_inside c (backslashed cs ++ tail) (plain_of c h)
    ∙ ap (onto_element c) (reads_backslashed cs tail found t))

hash_if : (test : Bool) (c : ℕ) (front rest tail : List ℕ) (found : Found)
    → (test ≡ true → read_list (92 ∷ c ∷ (rest ++ tail)) 0 AtElement ≡ found) →
    read_list (front ++ tail) 0 AtElement ≡ found
    → read_list (cond test (92 ∷ c ∷ rest) front ++ tail) 0 AtElement ≡ found
hash_if true c front rest tail found h k = h refl
hash_if false c front rest tail found h k = k

hash_begins : (c : ℕ) (rest : List ℕ) → (c == 35) ≡ true →
    read_list (92 ∷ c ∷ rest) 0 AtElement ≡ onto_element c (read_list rest 0 InElement)
unfolding read_list
hash_begins c rest h = rw (same_char c 35 h) refl

reads_escaped : (cs tail : List ℕ) (found : Found) → IsTail tail found → balances cs 0 ≡ false →
    read_list (with_backslashes cs ++ tail) 0 AtElement ≡ onto_all cs (end_element found)
reads_escaped [] tail found t h = absurd (true≢false h)
reads_escaped (c ∷ cs) tail found t h =
    hash_if (c == 35) c (backslashed (c ∷ cs)) (backslashed cs) tail (onto_all (c ∷ cs) (end_element found))
    (λ k. hash_begins c (backslashed cs ++ tail) k ∙ ap (onto_element c) (reads_backslashed cs tail found t))
    (backslash_if (is_white c || is_special c) c cs (backslashed cs) tail AtElement
    (onto_all (c ∷ cs) (end_element found))
    (λ k. escape_begins c (backslashed cs ++ tail) tail (gives_back c k)
    ∙ ap (onto_element c) (reads_backslashed cs tail found t))
    (λ k. plain_begins c (backslashed cs ++ tail) (plain_of c k)
    ∙ ap (onto_element c) (reads_backslashed cs tail found t)))

-- an element, in the form that it is written in

form_if : (quoted balanced : Bool) (braced escaped bare tail : List ℕ) (found : Found)
    → (quoted ≡ true → balanced ≡ true → read_list (braced ++ tail) 0 AtElement ≡ found) →
    (quoted ≡ true → balanced ≡ false → read_list (escaped ++ tail) 0 AtElement ≡ found)
    → (quoted ≡ false → read_list (bare ++ tail) 0 AtElement ≡ found) →
    read_list (cond quoted (cond balanced braced escaped) bare ++ tail) 0 AtElement ≡ found
form_if true true braced escaped bare tail found p q r = p refl refl
form_if true false braced escaped bare tail found p q r = q refl refl
form_if false balanced braced escaped bare tail found p q r = r refl

opens_brace : (rest : List ℕ) → read_list (123 ∷ rest) 0 AtElement ≡ read_list rest 0 (InBraces 0)
unfolding read_list
opens_brace rest = refl

reads_element : (cs tail : List ℕ) (found : Found) → IsTail tail found →
    read_list (element_text cs ++ tail) 0 AtElement ≡ onto_all cs (end_element found)
reads_element cs tail found t =
    form_if (needs_quotes cs) (balances cs 0) (123 ∷ (cs ++ 125 ∷ [])) (with_backslashes cs) cs tail
    (onto_all cs (end_element found))
    (λ q b. opens_brace ((cs ++ 125 ∷ []) ++ tail)
    ∙ ap (λ l. read_list l 0 (InBraces 0)) (append_assoc cs (125 ∷ []) tail) ∙ reads_braced cs tail found 0 t b)
    (λ q b. reads_escaped cs tail found t b)
    (λ q. reads_bare cs tail found t q)

nothing_read : ReadsList [] []
unfolding read_list
nothing_read = refl

pub spelled_back : (xs : List (List ℕ)) → ReadsList (list_text xs) xs
spelled_back [] = nothing_read
spelled_back (x ∷ []) =
    ap (λ l. read_list l 0 AtElement) (sym (append-nil (element_text x))) ∙ reads_element x [] (Some []) ends
    ∙ one_element x []
spelled_back (x ∷ y ∷ xs) =
    reads_element x (32 ∷ list_text (y ∷ xs)) (read_list (list_text (y ∷ xs)) 0 AtElement)
    (goes_on (list_text (y ∷ xs)))
    ∙ ap (λ f. onto_all x (end_element f)) (spelled_back (y ∷ xs)) ∙ one_element x (y ∷ xs)

pub one_list : (text : List ℕ) (xs ys : List (List ℕ)) → ReadsList text xs → ReadsList text ys → xs ≡ ys
one_list text xs ys r s = let same = sym r ∙ s in cc
