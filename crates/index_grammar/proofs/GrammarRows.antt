-- What the grammar makes of words that were worked out by hand.
use Rattle.index_grammar.proofs.Common.{◌≡◌, ℕ, List, [], ◌∷◌, Option, Some, None, refl, codes, bytes_eq, index_of}
use Rattle.index_grammar.proofs.Common.{WholeIndex, if◌then◌else◌}
use Rattle.index_grammar.specs.Grammar.{tokens_from}
use Rattle.index_grammar.specs.declared.indices.Base.TheVariants as base
use Rattle.index_grammar.specs.declared.indices.Modifier.TheVariants as modifier
use Rattle.index_grammar.specs.declared.indices.Unit.TheVariants as unit

-- the shared marks `a` and `a+1c`, with the widget's own `insert`
abbrev marks : List ℕ → Option ℕ
marks name =
    if bytes_eq name (codes "a") then Some 128
    else (if bytes_eq name (codes "a+1c") then Some 129
    else (if bytes_eq name (codes "insert") then Some 0
    else None))

-- the tags `sel` and `x.first`
abbrev tags : List ℕ → Option ℕ
tags name =
    if bytes_eq name (codes "sel") then Some 0
    else (if bytes_eq name (codes "x.first") then Some 64
    else None)

abbrev read : List ℕ → Option WholeIndex
read word = index_of marks tags word

pub at : read (codes "3.14") ≡ Some (base.At 3 14, [])
unfolding tokens_from
at = refl

pub back_from_end : read (codes "end-1c") ≡ Some (base.End, modifier.Back unit.Characters 1 ∷ [])
unfolding tokens_from
back_from_end = refl

pub blanks_and_any : read (codes "1.end\t+ 3 any  li ") ≡ Some (base.LineEnd 1, modifier.Forward unit.Lines 3 ∷ [])
unfolding tokens_from
blanks_and_any = refl

pub without_blanks : read (codes "1.0+2i-1l") ≡ Some (
  base.At 1 0,
  modifier.Forward unit.Characters 2 ∷ modifier.Back unit.Lines 1 ∷ [],
)
unfolding tokens_from
without_blanks = refl

pub long_number : read (codes "1.0+100000000000000000000c")
    ≡ Some (base.At 1 0, modifier.Forward unit.Characters 100000000000000000000 ∷ [])
unfolding tokens_from
long_number = refl

pub keywords : read (codes "insert linest lineend words worde")
    ≡ Some (
      base.Mark (record { 0 = 0 }),
      modifier.LineStart ∷ modifier.LineEnd ∷ modifier.WordStart ∷ modifier.WordEnd
          ∷ [],
    )
unfolding tokens_from
keywords = refl

pub longest_mark : read (codes "a+1c-2l") ≡ Some (base.Mark (record { 0 = 129 }), modifier.Back unit.Lines 2 ∷ [])
unfolding tokens_from
longest_mark = refl

pub closed_mark : read (codes "a+1ch") ≡ Some (base.Mark (record { 0 = 128 }), modifier.Forward unit.Characters 1 ∷ [])
unfolding tokens_from
closed_mark = refl

pub longest_tag : read (codes "x.first.last linest") ≡ Some (base.Last (record { 0 = 64 }) 7, modifier.LineStart ∷ [])
unfolding tokens_from lib.Utf8.encode
longest_tag = refl

pub open_mark : read (codes "ab") ≡ None
unfolding tokens_from
open_mark = refl

pub place_before_mark : read (codes "end wordend") ≡ Some (base.End, modifier.WordEnd ∷ [])
unfolding tokens_from
place_before_mark = refl

pub never_another_base : read (codes "a+1c chars") ≡ None
unfolding tokens_from
never_another_base = refl

pub no_count : read (codes "1.0 +c") ≡ None
unfolding tokens_from
no_count = refl

pub no_unit : read (codes "1.0 + 3") ≡ None
unfolding tokens_from
no_unit = refl

pub any_without_blank : read (codes "1.0+3anychars") ≡ None
unfolding tokens_from
any_without_blank = refl

pub short_keyword : read (codes "1.0 line") ≡ None
unfolding tokens_from
short_keyword = refl

pub no_tag : read (codes "y.first") ≡ None
unfolding tokens_from
no_tag = refl

pub blank_in_front : read (codes " end") ≡ None
unfolding tokens_from
blank_in_front = refl
