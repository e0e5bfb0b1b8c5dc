-- A script is read in one way.
use Rattle.tcl_words.proofs.Common.{◌≡◌, ◌≢◌, ℕ, zero, suc, ◌<◌, ◌≤◌, ◌⊎◌, inl, inr, ⊎_elim, Bool, true, false, List}
use Rattle.tcl_words.proofs.Common.{[], ◌∷◌, ◌++◌, length, take, drop, Option, Some, None, is_some, encode_utf8}
use Rattle.tcl_words.proofs.Common.{encode_utf8_all, IsUtf8, refl, sym, ap, ◌∙◌, arith, subst, append_assoc, append-nil}
use Rattle.tcl_words.proofs.Common.{true≢false, length-append, length-take, length-drop, take-append-drop, all_scalars}
use Rattle.tcl_words.proofs.Common.{StartsWithNoChar, IsValidUpTo, is_utf8, utf8_error_len, BeginsNoChar, BeginsOneChar}
use Rattle.tcl_words.proofs.Common.{encodes-append, IsUtf8-from_is_utf8, is_utf8-from_IsUtf8, IsUtf8-append}
use Rattle.tcl_words.proofs.Common.{IsUtf8-encode, IsUtf8-nil, length-le-encodes, leb_tells, take_at, Ending, Ends}
use Rattle.tcl_words.proofs.Common.{Breaks, Continues, First, Command, Nothing, Fault, Open, first, Follows, MeetsFault}
use Rattle.tcl_words.proofs.Common.{HoldsNothing, IsWholeCommand, IsCommandBefore, ReadsScript, ReadsFront, scanned}
use Rattle.tcl_words.proofs.Common.{pieces_from, last_step, ScriptFault, NotUtf8, BeforeCommand, Next, Go, End, Refuse}
use Rattle.tcl_words.proofs.Common.{Scan, EndsAt, Refused, Reaches}
use Rattle.tcl_words.proofs.Broken.{stays_broken}
use Rattle.tcl_words.proofs.Completion.{completed}
use Rattle.tcl_words.specs.ScriptGrammar.{read}
use Rattle.tcl_words.proofs.Verdicts.{at_last, Verdict, verdict}
use Rattle.tcl_words.proofs.Spelling.{one_goes_on, no_char_nil, scalars_split, encode_not_nil, encode_some}

-- what is found, with more characters after it
abbrev pub extended : First → List ℕ → First
extended (Command words rest) more = Command words (rest ++ more)
extended Nothing more = Nothing
extended (Fault fault) more = Fault fault
extended Open more = Open

extended_nil : (found : First) → extended found [] ≡ found
extended_nil (Command words rest) = ap (Command words) (append-nil rest)
extended_nil found = refl

stays_by : (scan : Scan) (cs more : List ℕ) (e : Ending) → Verdict scan BeforeCommand cs → first Continues cs ≢ Open
    → first e (cs ++ more) ≡ extended (first Continues cs) more
stays_by (EndsAt n) cs more e v decided =
    let cut = take-append-drop n cs in
    let found : first Continues cs ≡ Command (pieces_from (take n cs) BeforeCommand) (drop n cs) = ap (first Continues)
    (sym cut) ∙ v.2 Continues (drop n cs) in
    ap (λ l. first e (l ++ more)) (sym cut) ∙ ap (first e) (append_assoc (take n cs) (drop n cs) more)
    ∙ v.2 e (drop n cs ++ more)
    ∙ ap (λ x. extended x more) (sym found)
stays_by (Refused fault) cs more e v decided =
    v.1 e more ∙ ap (λ x. extended x more) (sym (ap (first Continues) (sym (append-nil cs)) ∙ v.1 Continues []))
stays_by (Reaches last) cs more e v decided = absurd (decided v.0)

-- What the characters decide stays, however they go on.
pub stays : (cs more : List ℕ) (e : Ending) → first Continues cs ≢ Open →
    first e (cs ++ more) ≡ extended (first Continues cs) more
stays cs more e decided = stays_by (scanned cs BeforeCommand) cs more e (verdict cs BeforeCommand) decided

stays_here : (cs : List ℕ) (e : Ending) → first Continues cs ≢ Open → first e cs ≡ first Continues cs
stays_here cs e decided = ap (first e) (sym (append-nil cs)) ∙ stays cs [] e decided ∙ extended_nil (first Continues cs)

-- what is found in bytes, where other bytes stand behind the characters
abbrev pub placed : First → List ℕ → First
placed (Command words rest) back = Command words (encode_utf8_all rest ++ back)
placed Nothing back = Nothing
placed (Fault fault) back = Fault fault
placed Open back = Open

placed_extended : (found : First) (more back : List ℕ) →
    placed (extended found more) back ≡ placed found (encode_utf8_all more ++ back)
placed_extended (Command words rest) more back =
    ap (Command words) (ap (λ l. l ++ back) (encodes-append rest more)
    ∙ append_assoc (encode_utf8_all rest) (encode_utf8_all more) back)
placed_extended found more back = refl

placed_decided : (found : First) (back : List ℕ) → placed found back ≢ Open → found ≢ Open
placed_decided found back h e = h (ap (λ x. placed x back) e)

same_here : (e other : Ending) (cs back : List ℕ) → Follows e back → Follows other back
    → placed (first e cs) back ≢ Open → placed (first other cs) back ≢ Open →
    placed (first e cs) back ≡ placed (first other cs) back
same_here Ends Ends cs back f g p q = refl
same_here Ends Breaks cs back f g p q = let some = g.0 in let none = ap length f in absurd (omega arith)
same_here Ends Continues cs back f g p q =
    ap (λ x. placed x back) (stays_here cs Ends (placed_decided (first Continues cs) back q))
same_here Breaks Ends cs back f g p q = let some = f.0 in let none = ap length g in absurd (omega arith)
same_here Breaks Breaks cs back f g p q = refl
same_here Breaks Continues cs back f g p q =
    ap (λ x. placed x back) (stays_here cs Breaks (placed_decided (first Continues cs) back q))
same_here Continues Ends cs back f g p q =
    ap (λ x. placed x back) (sym (stays_here cs Ends (placed_decided (first Continues cs) back p)))
same_here Continues Breaks cs back f g p q =
    ap (λ x. placed x back) (sym (stays_here cs Breaks (placed_decided (first Continues cs) back p)))
same_here Continues Continues cs back f g p q = refl

same_at : (e other : Ending) (cs ds back behind : List ℕ) → ds ≡ cs → back ≡ behind → Follows e back →
    Follows other behind
    → placed (first e cs) back ≢ Open → placed (first other ds) behind ≢ Open →
    placed (first e cs) back ≡ placed (first other ds) behind
same_at e other cs ds back behind h k f g p q =
    let there : placed (first other ds) behind
    ≡ placed (first other cs) back = ap (λ l. placed (first other l) behind) h
    ∙ ap (placed (first other cs)) (sym k) in
    same_here e other cs back f (subst (Follows other) (sym k) g) p (λ o. q (there ∙ o)) ∙ sym there

nil_front : (more back : List ℕ) → [] ≡ encode_utf8_all more ++ back → more ≡ []
nil_front [] back h = refl
nil_front (c ∷ more) back h = absurd (encode_not_nil c (encode_utf8_all more ++ back)
    (sym (append_assoc (encode_utf8 c) (encode_utf8_all more) back) ∙ sym h))

same_half : (e other : Ending) (cs ds back behind more : List ℕ) → ds ≡ cs ++ more →
    back ≡ encode_utf8_all more ++ behind → all_scalars more ≡ true
    → Follows e back → Follows other behind → placed (first e cs) back ≢ Open → placed (first other ds) behind ≢ Open
    → placed (first e cs) back ≡ placed (first other ds) behind
same_half Ends other cs ds back behind more h k s f g p q =
    let none = nil_front more behind (sym f ∙ k) in
    same_at Ends other cs ds back behind (h ∙ ap (λ l. cs ++ l) none ∙ append-nil cs) (k
    ∙ ap (λ l. encode_utf8_all l ++ behind) none) f g p q
same_half Breaks other cs ds back behind more h k s f g p q =
    let none = no_char_nil more behind s (subst StartsWithNoChar k f.1) in
    same_at Breaks other cs ds back behind (h ∙ ap (λ l. cs ++ l) none ∙ append-nil cs) (k
    ∙ ap (λ l. encode_utf8_all l ++ behind) none) f g p q
same_half Continues other cs ds back behind more h k s f g p q =
    ap (placed (first Continues cs)) k ∙ sym (placed_extended (first Continues cs) more behind)
    ∙ ap (λ x. placed x behind) (sym (stays cs more other (placed_decided (first Continues cs) back p)))
    ∙ ap (λ l. placed (first other l) behind) (sym h)

-- The bytes hold this first.
pub record Reads (bytes : List ℕ) (found : First) : Type 0 where
  pub characters : List ℕ
  pub back : List ℕ
  pub ending : Ending
  pub split : bytes ≡ encode_utf8_all characters ++ back
  pub scalars : all_scalars characters ≡ true
  pub follows : Follows ending back
  pub is : placed (first ending characters) back ≡ found
  pub decided : found ≢ Open

pub one_found : (bytes : List ℕ) (found other : First) → Reads bytes found → Reads bytes other → found ≡ other
one_found bytes found other r s = sym r.is ∙ ⊎_elim
    (λ g. same_half r.ending s.ending r.characters s.characters r.back s.back g.0 g.1 g.2
    (scalars_split r.characters g.0 (ap all_scalars (sym g.1) ∙ s.scalars)).1 r.follows s.follows (λ h.
    r.decided (sym r.is ∙ h)) (λ h. s.decided (sym s.is ∙ h)))
    (λ g. sym (same_half s.ending r.ending s.characters r.characters s.back r.back g.0 g.1 g.2
    (scalars_split s.characters g.0 (ap all_scalars (sym g.1) ∙ r.scalars)).1 s.follows r.follows (λ h.
    s.decided (sym s.is ∙ h)) (λ h. r.decided (sym r.is ∙ h))))
    (one_goes_on r.characters s.characters r.back s.back (sym r.split ∙ s.split))
    ∙ s.is

pub reads_whole : (bytes used rest : List ℕ) (words : List (List ℕ)) → bytes ≡ used ++ rest →
    IsWholeCommand words used → Reads bytes (Command words rest)
reads_whole bytes used rest words e w = record {
  characters = w.0;
  back = rest;
  ending = Continues;
  split = e ∙ ap (λ l. l ++ rest) (sym w.1.1);
  scalars = w.1.0;
  follows = tt;
  is = ap (λ x. placed x rest) w.2;
  decided = λ h. cc;
}

pub reads_before : (bytes used rest : List ℕ) (words : List (List ℕ)) → bytes ≡ used ++ rest →
    IsCommandBefore rest words used → Reads bytes (Command words rest)
reads_before bytes used rest words e (inl w) = reads_whole bytes used rest words e w
reads_before bytes used rest words e (inr l) = record {
  characters = l.1.0;
  back = [];
  ending = Ends;
  split = e ∙ ap (λ r. used ++ r) l.0 ∙ ap (λ u. u ++ []) (sym l.1.1.1);
  scalars = l.1.1.0;
  follows = refl;
  is = ap (λ x. placed x []) l.1.2 ∙ ap (Command words) (sym l.0);
  decided = λ h. cc;
}

pub reads_fault : (bytes : List ℕ) (fault : ScriptFault) → MeetsFault bytes fault → Reads bytes (Fault fault)
reads_fault bytes fault m = record {
  characters = m.2;
  back = m.1;
  ending = m.3;
  split = m.4 ∙ ap (λ l. l ++ m.1) (sym m.5.1);
  scalars = m.5.0;
  follows = m.6;
  is = ap (λ x. placed x m.1) m.7;
  decided = λ h. cc;
}

pub reads_nothing : (bytes : List ℕ) → HoldsNothing bytes → Reads bytes Nothing
reads_nothing bytes n = record {
  characters = n.0;
  back = [];
  ending = Ends;
  split = sym n.1.1 ∙ sym (append-nil (encode_utf8_all n.0));
  scalars = n.1.0;
  follows = refl;
  is = ap (λ x. placed x []) n.2;
  decided = λ h. cc;
}

pub one_script : (commands others : List (List (List ℕ))) (bytes : List ℕ) (fault other : Option ScriptFault)
    → ReadsScript bytes commands fault → ReadsScript bytes others other → (commands ≡ others) × (fault ≡ other)
one_script [] [] bytes None None r s = (refl, refl)
one_script [] [] bytes None (Some g) r s = let no = one_found bytes Nothing (Fault g) (reads_nothing bytes r)
    (reads_fault bytes g s) in cc
one_script [] [] bytes (Some f) None r s = let no = one_found bytes (Fault f) Nothing (reads_fault bytes f r)
    (reads_nothing bytes s) in cc
one_script [] [] bytes (Some f) (Some g) r s = let same = one_found bytes (Fault f) (Fault g) (reads_fault bytes f r)
    (reads_fault bytes g s) in (refl, cc)
one_script [] (w ∷ others) bytes None other r s = let no = one_found bytes Nothing (Command w s.1)
    (reads_nothing bytes r) (reads_before bytes s.0 s.1 w s.2 s.3) in cc
one_script [] (w ∷ others) bytes (Some f) other r s = let no = one_found bytes (Fault f) (Command w s.1)
    (reads_fault bytes f r) (reads_before bytes s.0 s.1 w s.2 s.3) in cc
one_script (v ∷ commands) [] bytes fault None r s = let no = one_found bytes (Command v r.1) Nothing
    (reads_before bytes r.0 r.1 v r.2 r.3) (reads_nothing bytes s) in cc
one_script (v ∷ commands) [] bytes fault (Some g) r s = let no = one_found bytes (Command v r.1) (Fault g)
    (reads_before bytes r.0 r.1 v r.2 r.3) (reads_fault bytes g s) in cc
one_script (v ∷ commands) (w ∷ others) bytes fault other r s =
    let same = one_found bytes (Command v r.1) (Command w s.1) (reads_before bytes r.0 r.1 v r.2 r.3)
    (reads_before bytes s.0 s.1 w s.2 s.3) in
    let rests : s.1 ≡ r.1 = cc in
    let after = one_script commands others r.1 fault other r.4 (subst (λ l. ReadsScript l others other) rests s.4) in
    let words : v ≡ w = cc in
    (ap (λ x. x ∷ commands) words ∙ ap (λ l. w ∷ l) after.0, after.1)

pub whole_first : (commands : List (List (List ℕ))) (words : List (List ℕ)) (used more : List ℕ)
    (fault : Option ScriptFault)
    → IsWholeCommand words used → ReadsScript (used ++ more) commands fault
    → (others : List (List (List ℕ))) × (commands ≡ words ∷ others) × ReadsScript more others fault
whole_first [] words used more None w r = let no = one_found (used ++ more) (Command words more) Nothing
    (reads_whole (used ++ more) used more words refl w) (reads_nothing (used ++ more) r) in absurd cc
whole_first [] words used more (Some f) w r = let no = one_found (used ++ more) (Command words more) (Fault f)
    (reads_whole (used ++ more) used more words refl w) (reads_fault (used ++ more) f r) in absurd cc
whole_first (v ∷ commands) words used more fault w r =
    let same = one_found (used ++ more) (Command words more) (Command v r.1)
    (reads_whole (used ++ more) used more words refl w) (reads_before (used ++ more) r.0 r.1 v r.2 r.3) in
    let rests : r.1 ≡ more = cc in
    let heads : v ≡ words = cc in
    (commands, ap (λ x. x ∷ commands) heads, subst (λ l. ReadsScript l commands fault) rests r.4)

pub front_first : (commands : List (List (List ℕ))) (front more : List ℕ) (all : List (List (List ℕ)))
    (fault : Option ScriptFault)
    → ReadsFront front commands None → ReadsScript (front ++ more) all fault →
    (others : List (List (List ℕ))) × (all ≡ commands ++ others)
front_first [] front more all fault f r = (all, refl)
front_first (words ∷ commands) front more all fault f r =
    let split : front ++ more ≡ f.0 ++ (f.1 ++ more) = ap (λ l. l ++ more) f.2 ∙ append_assoc f.0 f.1 more in
    let here = whole_first all words f.0 (f.1 ++ more) fault f.3 (subst (λ l. ReadsScript l all fault) split r) in
    let rest = front_first commands f.1 more here.0 fault f.4 here.2 in
    (rest.0, here.1 ∙ ap (λ l. words ∷ l) rest.1)

pub front_fault : (commands : List (List (List ℕ))) (front more : List ℕ) (all : List (List (List ℕ)))
    (met : ScriptFault) (fault : Option ScriptFault)
    → ReadsFront front commands (Some met) → ReadsScript (front ++ more) all fault →
    (all ≡ commands) × (fault ≡ Some met)
front_fault [] front more all met fault f r = one_script all [] (front ++ more) fault (Some met) r (f more)
front_fault (words ∷ commands) front more all met fault f r =
    let split : front ++ more ≡ f.0 ++ (f.1 ++ more) = ap (λ l. l ++ more) f.2 ∙ append_assoc f.0 f.1 more in
    let here = whole_first all words f.0 (f.1 ++ more) fault f.3 (subst (λ l. ReadsScript l all fault) split r) in
    let rest = front_fault commands f.1 more here.0 met fault f.4 here.2 in
    (here.1 ∙ ap (λ l. words ∷ l) rest.0, rest.1)

-- The longest front that is UTF-8.
pub record Longest (bytes : List ℕ) (most : ℕ) : Type 0 where
  pub len : ℕ
  pub within : len ≤ most
  pub text : IsUtf8 (take len bytes)
  pub longest : (k : ℕ) → len < k → k ≤ most → ¬ IsUtf8 (take k bytes)

longest_step : (bytes : List ℕ) (most : ℕ) (test : Bool) → is_utf8 (take (suc most) bytes) ≡ test → Longest bytes most →
    Longest bytes (suc most)
longest_step bytes most true h l = record {
  len = suc most;
  within = omega arith;
  text = IsUtf8-from_is_utf8 (take (suc most) bytes) h;
  longest = λ k p q. absurd (omega arith);
}
longest_step bytes most false h l = record {
  len = l.len;
  within = let w = l.within in omega arith;
  text = l.text;
  longest = λ k p q u. ⊎_elim (λ below. l.longest k p below.1 u)
      (λ above. let last : k ≡ suc most = omega arith in
      true≢false (sym (is_utf8-from_IsUtf8 (take (suc most) bytes) (subst (λ n. IsUtf8 (take n bytes)) last u)) ∙ h))
      (leb_tells k most);
}

pub longest_front : (bytes : List ℕ) (most : ℕ) → Longest bytes most
longest_front bytes zero = record {
  len = 0;
  within = omega arith;
  text = IsUtf8-nil;
  longest = λ k p q. absurd (omega arith);
}
longest_front bytes (suc most) =
    longest_step bytes most (is_utf8 (take (suc most) bytes)) refl (longest_front bytes most)

-- After the longest front begins no character.
pub no_char_after : (bytes : List ℕ) (n : ℕ) → n ≤ length bytes → IsUtf8 (take n bytes)
    → ((k : ℕ) → n < k → k ≤ length bytes → ¬ IsUtf8 (take k bytes)) → StartsWithNoChar (drop n bytes)
no_char_after bytes n within text longest c rest s h =
    let some = encode_some c [] in
    let split : bytes ≡ (take n bytes ++ encode_utf8 c) ++ rest = sym (take-append-drop n bytes)
    ∙ ap (λ l. take n bytes ++ l) h ∙ sym (append_assoc (take n bytes) (encode_utf8 c) rest) in
    let k = length (take n bytes ++ encode_utf8 c) in
    let cut : take k bytes ≡ take n bytes ++ encode_utf8 c = ap (take k) split
    ∙ take_at (take n bytes ++ encode_utf8 c) rest k refl in
    let long = ap length split ∙ length-append (take n bytes ++ encode_utf8 c) rest in
    longest k (omega (
      arith,
      length-append (take n bytes) (encode_utf8 c),
      length-append (encode_utf8 c) [],
      length-take n bytes,
    )) (omega arith)
    (subst IsUtf8 (sym cut) (IsUtf8-append (take n bytes) (encode_utf8 c) text (IsUtf8-encode c s)))

-- The characters at the front, and whether the bytes end with them.
pub record FrontOf (bytes : List ℕ) : Type 0 where
  pub characters : List ℕ
  pub back : List ℕ
  pub ending : Ending
  pub split : bytes ≡ encode_utf8_all characters ++ back
  pub scalars : all_scalars characters ≡ true
  pub follows : Follows ending back
  pub sure : (ending ≡ Ends) ⊎ (ending ≡ Breaks)

front_by : (bytes characters back : List ℕ) → bytes ≡ encode_utf8_all characters ++ back →
    all_scalars characters ≡ true → StartsWithNoChar back → FrontOf bytes
front_by bytes characters [] e s h = record {
  characters = characters;
  back = [];
  ending = Ends;
  split = e;
  scalars = s;
  follows = refl;
  sure = inl refl;
}
front_by bytes characters (b ∷ back) e s h = record {
  characters = characters;
  back = b ∷ back;
  ending = Breaks;
  split = e;
  scalars = s;
  follows = (omega arith, h);
  sure = inr refl;
}

pub front_of : (bytes : List ℕ) → FrontOf bytes
front_of bytes =
    let l = longest_front bytes (length bytes) in
    front_by bytes l.text.0 (drop l.len bytes) (sym (take-append-drop l.len bytes)
    ∙ ap (λ t. t ++ drop l.len bytes) (sym l.text.1.1)) l.text.1.0
    (no_char_after bytes l.len l.within l.text l.longest)

-- a command that the characters hold whole
pub whole_at : (n : ℕ) (cs : List ℕ) → all_scalars cs ≡ true → Verdict (EndsAt n) BeforeCommand cs
    → IsWholeCommand (pieces_from (take n cs) BeforeCommand) (encode_utf8_all (take n cs))
whole_at n cs s v = (
  take n cs,
  ((scalars_split (take n cs) (drop n cs) (ap all_scalars (take-append-drop n cs) ∙ s)).0, refl),
  ap (first Continues) (sym (append-nil (take n cs))) ∙ v.2 Continues [],
)

abbrev pub Reading : List ℕ → Type 0
Reading bytes = (commands : List (List (List ℕ))) × (fault : Option ScriptFault) × ReadsScript bytes commands fault

nothing_left : HoldsNothing []
unfolding read
nothing_left = ([], (refl, refl), refl)

reading_at_end : (next : Next) (bytes cs : List ℕ) (words : List (List ℕ)) → bytes ≡ encode_utf8_all cs →
    all_scalars cs ≡ true → first Ends cs ≡ at_last next words → Reading bytes
reading_at_end (Go stage) bytes cs words e s h = ([], None, (cs, (s, sym e), h))
reading_at_end End bytes cs words e s h =
    (words ∷ [], None, (bytes, [], sym (append-nil bytes), inr (refl, (cs, (s, sym e), h)), nothing_left))
reading_at_end (Refuse fault) bytes cs words e s h =
    ([], Some fault, (bytes, [], cs, Ends, sym (append-nil bytes), (s, sym e), refl, h))

reading_step : (scan : Scan) (bytes : List ℕ) (f : FrontOf bytes) → Verdict scan BeforeCommand f.characters
    → ((rest : List ℕ) → length rest < length bytes → Reading rest) → Reading bytes
reading_step (EndsAt n) bytes f v smaller =
    let used = encode_utf8_all (take n f.characters) in
    let rest = encode_utf8_all (drop n f.characters) ++ f.back in
    let split : bytes ≡ used ++ rest = f.split
    ∙ ap (λ l. encode_utf8_all l ++ f.back) (sym (take-append-drop n f.characters))
    ∙ ap (λ l. l ++ f.back) (encodes-append (take n f.characters) (drop n f.characters))
    ∙ append_assoc used (encode_utf8_all (drop n f.characters)) f.back in
    let some = v.1 in
    let long = v.0 in
    let after = smaller rest (omega (
      arith,
      ap length split,
      length-append used rest,
      length-le-encodes (take n f.characters),
      length-take n f.characters,
    )) in (
      pieces_from (take n f.characters) BeforeCommand ∷ after.0,
      after.1,
      (used, rest, split, inl (whole_at n f.characters f.scalars v), after.2),
    )
reading_step (Refused fault) bytes f v smaller = (
  [],
  Some fault,
  (
    encode_utf8_all f.characters,
    f.back,
    f.characters,
    f.ending,
    f.split,
    (f.scalars, refl),
    f.follows,
    ap (first f.ending) (sym (append-nil f.characters)) ∙ v.1 f.ending [],
  ),
)
reading_step (Reaches last) bytes f v smaller = ⊎_elim
    (λ ends.
    let none : f.back ≡ [] = subst (λ e. Follows e f.back) ends f.follows in
    reading_at_end (last_step last).next bytes f.characters (pieces_from f.characters BeforeCommand) (f.split
    ∙ ap (λ l. encode_utf8_all f.characters ++ l) none ∙ append-nil (encode_utf8_all f.characters)) f.scalars v.2)
    (λ breaks. (
      [],
      Some NotUtf8,
      (
        encode_utf8_all f.characters,
        f.back,
        f.characters,
        Breaks,
        f.split,
        (f.scalars, refl),
        subst (λ e. Follows e f.back) breaks f.follows,
        v.1,
      ),
    ))
    f.sure

reading_within : (most : ℕ) (bytes : List ℕ) → length bytes < most → Reading bytes
reading_within zero bytes h = absurd (omega arith)
reading_within (suc most) bytes h =
    let f = front_of bytes in
    reading_step (scanned f.characters BeforeCommand) bytes f (verdict f.characters BeforeCommand) (λ rest k.
    reading_within most rest (omega arith))

-- Each script has a reading.
pub a_reading : (bytes : List ℕ) → Reading bytes
a_reading bytes = reading_within (suc (length bytes)) bytes (omega arith)

-- where text stops short, bytes that begin no character follow
after_text : (bytes : List ℕ) (n : ℕ) → IsValidUpTo bytes n →
    (0 < length (drop n bytes)) × StartsWithNoChar (drop n bytes)
after_text bytes n v =
    let short = v.short in
    (omega (arith, length-drop n bytes), no_char_after bytes n (omega arith) v.front (λ k p q. v.longest k p))

-- they are at fault where that is known
pub after_fault : (bytes : List ℕ) (n : ℕ) (len : Option ℕ) → IsValidUpTo bytes n →
    len ≡ utf8_error_len (drop n bytes) → is_some len ≡ true → BeginsNoChar (drop n bytes)
after_fault bytes n None v e some = absurd (true≢false (sym some))
after_fault bytes n (Some k) v e some = let after = after_text bytes n v in
    (after.0, stays_broken (drop n bytes) k (sym e) after.1)

-- and else the front of a character
pub after_cut : (bytes : List ℕ) (n : ℕ) (len : Option ℕ) → IsValidUpTo bytes n → len ≡ utf8_error_len (drop n bytes) →
    is_some len ≡ false
    → (0 < length (drop n bytes)) × StartsWithNoChar (drop n bytes) × BeginsOneChar (drop n bytes)
after_cut bytes n None v e none = let after = after_text bytes n v in
    (after.0, after.1, completed (drop n bytes) after.0 (sym e) after.1)
after_cut bytes n (Some k) v e none = absurd (true≢false none)
