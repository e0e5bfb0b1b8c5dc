-- The dumps that were worked out by hand.
use Rattle.search_dump.proofs.Common.{◌≡◌, ℕ, true, false, List, [], ◌∷◌, ◌++◌, refl, codes, Seen, Tagged, Marked}
use Rattle.search_dump.proofs.Common.{dump_elements, element, Listed}

abbrev everything : Listed
everything = record { tags = true; marks = true; text = true }

abbrev text_alone : Listed
text_alone = record { tags = false; marks = false; text = true }

abbrev tags_alone : Listed
tags_alone = record { tags = true; marks = false; text = false }

abbrev abc : List ℕ
abc = codes "abc\n"

abbrev tagged : List ℕ → ℕ → ℕ → Tagged
tagged name start end = record { name = name; ranges = record { start = start; end = end } ∷ [] }

abbrev mark : List ℕ → ℕ → Marked
mark name place = record { name = name; place = place }

-- a widget that has selected `b`, and one that hasn't
abbrev selecting : Seen
selecting = record {
  text = abc;
  tags = tagged (codes "sel") 1 2 ∷ [];
  marks = mark (codes "insert") 0 ∷ mark (codes "current") 0 ∷ [];
}

abbrev other : Seen
other = record {
  text = abc;
  tags = record { name = codes "sel"; ranges = [] } ∷ [];
  marks = mark (codes "insert") 3 ∷ mark (codes "current") 0 ∷ [];
}

other-text : dump_elements text_alone other 0 3 ≡ element (codes "text") abc 0 (codes "abc")
other-text = refl

selecting-text : dump_elements text_alone selecting 0 3
    ≡ element (codes "text") abc 0 (codes "a")
    ++ (element (codes "text") abc 1 (codes "b") ++ element (codes "text") abc 2 (codes "c"))
selecting-text = refl

selecting-everything : dump_elements everything selecting 0 4
    ≡ element (codes "mark") abc 0 (codes "insert")
    ++ (element (codes "mark") abc 0 (codes "current") ++ (element (codes "text") abc 0 (codes "a")
    ++ (element (codes "tagon") abc 1 (codes "sel") ++ (element (codes "text") abc 1 (codes "b")
    ++ (element (codes "tagoff") abc 2 (codes "sel") ++ element (codes "text") abc 2 (codes "c\n"))))))
selecting-everything = refl

-- two tags on the whole of an empty text, the lower first
abbrev lone : Seen
lone = record {
  text = codes "\n";
  tags = tagged (codes "d{") 0 1 ∷ record { name = codes "sel"; ranges = [] }
      ∷ tagged (codes "a") 0 1 ∷ [];
  marks = [];
}

lone-tags : dump_elements tags_alone lone 0 1
    ≡ element (codes "tagon") lone.text 0 (codes "d{") ++ (element (codes "tagon") lone.text 0 (codes "a")
    ++ (element (codes "tagoff") lone.text 1 (codes "d{") ++ element (codes "tagoff") lone.text 1 (codes "a")))
lone-tags = refl
