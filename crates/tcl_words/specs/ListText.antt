-- Lists as text (Tcl(n); list(n), lindex(n)).
use Rattle.std.specs.Prelude.{◌≡◌, ℕ, zero, suc, Bool, true, false, ◌||◌, ◌==◌, if◌then◌else◌, List, [], ◌∷◌, ◌++◌}
use Rattle.std.specs.Prelude.{length, Option, Some, None}
use Rattle.tcl_words.specs.Escapes.{Escape, Gives, NoCharacter, Undecided, escape}

-- a space, tab, newline, carriage return, vertical tab or form feed
abbrev pub is_white : ℕ → Bool
is_white c = c == 32 || c == 9 || c == 10 || c == 13 || c == 11 || c == 12

-- Writing.

-- a brace, a bracket, a dollar sign, a quote, a semicolon or a backslash
abbrev pub is_special : ℕ → Bool
is_special c = c == 123 || c == 125 || c == 91 || c == 93 || c == 36 || c == 34 || c == 59 || c == 92

abbrev pub has_special : List ℕ → Bool
has_special [] = false
has_special (c ∷ cs) = if is_white c || is_special c then true else has_special cs

-- what can't stand as it is: nothing, a number sign at the front, white space or special characters
abbrev pub needs_quotes : List ℕ → Bool
needs_quotes [] = true
needs_quotes (c ∷ cs) = if c == 35 then true else has_special (c ∷ cs)

-- with one brace less
abbrev pub less : ℕ → (ℕ → Bool) → Bool
less zero balanced = false
less (suc depth) balanced = balanced depth

-- Behind so many open braces the braces balance, none is closed before it is opened, and no backslash is there.
abbrev pub balances : List ℕ → ℕ → Bool
balances [] depth = depth == 0
balances (c ∷ cs) depth =
    if c == 92 then false
    else (if c == 123 then balances cs (suc depth)
    else (if c == 125 then less depth (balances cs)
    else balances cs depth))

-- the letter that stands for a character of white space behind a backslash, or the character itself
abbrev pub white_letter : ℕ → ℕ
white_letter c =
    if c == 9 then 116
    else (if c == 10 then 110
    else (if c == 13 then 114
    else (if c == 11 then 118
    else (if c == 12 then 102
    else c))))

-- characters with a backslash before each that is white space or special
abbrev pub backslashed : List ℕ → List ℕ
backslashed [] = []
backslashed (c ∷ cs) = if is_white c || is_special c then 92 ∷ white_letter c ∷ backslashed cs else c ∷ backslashed cs

-- the same, and with one before a number sign at the front
abbrev pub with_backslashes : List ℕ → List ℕ
with_backslashes [] = []
with_backslashes (c ∷ cs) = if c == 35 then 92 ∷ c ∷ backslashed cs else backslashed (c ∷ cs)

-- an element: as it is, else in braces where they balance, else with backslashes
abbrev pub element_text : List ℕ → List ℕ
element_text cs =
    if needs_quotes cs then (if balances cs 0 then 123 ∷ (cs ++ 125 ∷ []) else with_backslashes cs)
    else cs

-- the elements, with a space between two
abbrev pub list_text : List (List ℕ) → List ℕ
list_text [] = []
list_text (x ∷ []) = element_text x
list_text (x ∷ y ∷ xs) = element_text x ++ 32 ∷ list_text (y ∷ xs)

-- what stands between the bytes of a list's text and one more element
abbrev pub space_behind : List ℕ → List ℕ
space_behind bytes = if length bytes == 0 then [] else 32 ∷ []

-- Reading.

-- Where the next character stands: where an element may begin, in a bare element, in quotes, in so many braces
-- beside the first, or behind an element that was closed.
pub data Spot : Type 0 where
  AtElement : Spot
  InElement : Spot
  InQuotes : Spot
  InBraces : ℕ → Spot
  Closed : Spot

-- the character goes onto the first element
abbrev pub onto_element : ℕ → Option (List (List ℕ)) → Option (List (List ℕ))
onto_element c None = None
onto_element c (Some []) = Some []
onto_element c (Some (x ∷ xs)) = Some ((c ∷ x) ∷ xs)

-- an element ends before those that follow
abbrev pub end_element : Option (List (List ℕ)) → Option (List (List ℕ))
end_element None = None
end_element (Some xs) = Some ([] ∷ xs)

-- what the end of the text gives there: it is no list in quotes or braces
abbrev pub at_list_end : Spot → Option (List (List ℕ))
at_list_end AtElement = Some []
at_list_end InElement = Some ([] ∷ [])
at_list_end InQuotes = None
at_list_end (InBraces depth) = None
at_list_end Closed = Some []

-- Each rule below says what stands at the front: the character c and those after it, cs. What `go n spot`
-- gives is read after n of the characters cs, at the spot.

abbrev pub escaped_element : (ℕ → Option (List (List ℕ))) → Escape → Option (List (List ℕ))
escaped_element go (Gives c n) = onto_element c (go n)
escaped_element go NoCharacter = None
escaped_element go Undecided = None

-- in a bare or a quoted element
abbrev pub element_rule : ℕ → List ℕ → (ℕ → Option (List (List ℕ))) → Option (List (List ℕ))
element_rule c cs go = if c == 92 then escaped_element go (escape true cs) else onto_element c (go 0)

-- a bare element goes to the next white space
abbrev pub bare_element : ℕ → List ℕ → (ℕ → Spot → Option (List (List ℕ))) → Option (List (List ℕ))
bare_element c cs go =
    if is_white c then end_element (go 0 AtElement) else element_rule c cs (λ n. go n InElement)

-- a quoted element goes to the next quote
abbrev pub quoted_element : ℕ → List ℕ → (ℕ → Spot → Option (List (List ℕ))) → Option (List (List ℕ))
quoted_element c cs go =
    if c == 34 then end_element (go 0 Closed) else element_rule c cs (λ n. go n InQuotes)

-- the brace that closes the element, or one within it
abbrev pub close_element : ℕ → ℕ → (ℕ → Spot → Option (List (List ℕ))) → Option (List (List ℕ))
close_element zero c go = end_element (go 0 Closed)
close_element (suc depth) c go = onto_element c (go 0 (InBraces depth))

-- a backslash is kept, with the character after it
abbrev pub kept_element : ℕ → List ℕ → (ℕ → Spot → Option (List (List ℕ))) → Option (List (List ℕ))
kept_element depth [] go = go 0 (InBraces depth)
kept_element depth (c ∷ cs) go = onto_element c (go 1 (InBraces depth))

-- a braced element goes to the brace that closes it
abbrev pub braced_element : ℕ → ℕ → List ℕ → (ℕ → Spot → Option (List (List ℕ))) → Option (List (List ℕ))
braced_element depth c cs go =
    if c == 125 then close_element depth c go
    else (if c == 123 then onto_element c (go 0 (InBraces (suc depth)))
    else (if c == 92 then onto_element c (kept_element depth cs go)
    else onto_element c (go 0 (InBraces depth))))

-- where an element may begin
abbrev pub begin_element : ℕ → List ℕ → (ℕ → Spot → Option (List (List ℕ))) → Option (List (List ℕ))
begin_element c cs go =
    if is_white c then go 0 AtElement
    else (if c == 123 then go 0 (InBraces 0)
    else (if c == 34 then go 0 InQuotes
    else element_rule c cs (λ n. go n InElement)))

abbrev pub list_rule : Spot → ℕ → List ℕ → (ℕ → Spot → Option (List (List ℕ))) → Option (List (List ℕ))
list_rule AtElement c cs go = begin_element c cs go
list_rule InElement c cs go = bare_element c cs go
list_rule InQuotes c cs go = quoted_element c cs go
list_rule (InBraces depth) c cs go = braced_element depth c cs go
list_rule Closed c cs go = if is_white c then go 0 AtElement else None

-- the elements that the characters spell, after so many that were read already, at a spot; None where they spell no
-- list
unfoldable pub read_list : List ℕ → ℕ → Spot → Option (List (List ℕ))
read_list [] n spot = at_list_end spot
read_list (c ∷ cs) (suc n) spot = read_list cs n spot
read_list (c ∷ cs) zero spot = list_rule spot c cs (read_list cs)

-- the text spells the list
abbrev pub ReadsList : List ℕ → List (List ℕ) → Type 0
ReadsList text xs = read_list text 0 AtElement ≡ Some xs
