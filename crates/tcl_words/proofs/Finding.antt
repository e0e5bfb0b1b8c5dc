-- What the bytes not yet given hold next, by a scan of their text.
use Rattle.tcl_words.proofs.Common.{◌≡◌, ◌≢◌, IfOk, IfNone, Option, Some, None, encode_utf8, ℕ, zero, suc, ◌+◌, ◌-◌}
use Rattle.tcl_words.proofs.Common.{◌<◌, ◌≤◌, inl, inr, ⊎_elim, Bool, true, false, List, [], ◌∷◌, ◌++◌, length, take}
use Rattle.tcl_words.proofs.Common.{drop, chars, encode_utf8_all, IsUtf8, Ok, refl, sym, ap, ◌∙◌, arith, subst}
use Rattle.tcl_words.proofs.Common.{append_assoc, append-nil, length-append, length-take, length-drop, take-append-drop}
use Rattle.tcl_words.proofs.Common.{take-add, all_scalars, StartsWithNoChar, encodes-append, chars_from_encodes}
use Rattle.tcl_words.proofs.Common.{IsUtf8-append, IsUtf8-encode, length-le-encodes, take-take, drop-drop, take_at}
use Rattle.tcl_words.proofs.Common.{Ending, Ends, Breaks, Continues, Command, Nothing, Fault, Open, first, Follows}
use Rattle.tcl_words.proofs.Common.{MeetsFault, HoldsNoWhole, IsWholeCommand, scanned, later, pieces_from, last_step}
use Rattle.tcl_words.proofs.Common.{depth_of, StopsAs, BeginsNoChar, IsNextCommand, HasFault, HasNoFault, IsProgress}
use Rattle.tcl_words.proofs.Common.{IsCommandOf, IsNext, text_end, last_found, last_command, ScriptFault, NotUtf8}
use Rattle.tcl_words.proofs.Common.{Memory, Progress, Stage, BeforeCommand, Next, Go, End, Refuse, Scan, EndsAt}
use Rattle.tcl_words.proofs.Common.{Refused, Reaches}
use Rattle.tcl_words.specs.declared.encoding.TextStop.{TextStop}
use Rattle.tcl_words.specs.declared.encoding.TextStop.TheVariants.{AtEnd, WithinCharacter, Broken}
use Rattle.tcl_words.proofs.Verdicts.{IsMetAtEnd, met_at_end, at_last, Verdict, verdict, scanned-nil}
use Rattle.tcl_words.proofs.Spelling.{broken_byte, widened, scan_widened, one_goes_on, no_char_nil, scalars_split}
use Rattle.tcl_words.proofs.Spelling.{encode_not_nil}
use Rattle.tcl_words.proofs.Readings.{extended, stays, whole_at, one_found, reads_before, reads_fault, reads_nothing}
use Rattle.tcl_words.proofs.Scans.{scanned-append, depth_reached, pieces_cut}

-- a text whose first n bytes are a command
pub record WholeFront (text : List ℕ) (n : ℕ) : Type 0 where
  pub some : 0 < n
  pub within : n ≤ length text
  pub words : List (List ℕ)
  pub is : IsWholeCommand words (take n text)
  pub written : pieces_from (chars (take n text)) BeforeCommand ≡ words
  pub front : IsUtf8 (take n text)
  pub all : pieces_from (chars text) BeforeCommand ≡ words

-- by the characters of the text, in which the command ends after m
whole_front_by : (scan : Scan) (text cs : List ℕ) (n : ℕ) → all_scalars cs ≡ true → encode_utf8_all cs ≡ text →
    scanned cs BeforeCommand ≡ scan
    → Verdict scan BeforeCommand cs → EndsAt n ≡ widened scan cs → WholeFront text n
whole_front_by (EndsAt m) text cs n scalars is found v same =
    let long : n ≡ length (encode_utf8_all (take m cs)) = cc in
    let split : text ≡ encode_utf8_all (take m cs) ++ encode_utf8_all (drop m cs) =
    sym is ∙ ap encode_utf8_all (sym (take-append-drop m cs)) ∙ encodes-append (take m cs) (drop m cs) in
    let front : take n text ≡ encode_utf8_all (take m cs) = ap (take n) split
    ∙ take_at (encode_utf8_all (take m cs)) (encode_utf8_all (drop m cs)) n (sym long) in
    let both = scalars_split (take m cs) (drop m cs) (ap all_scalars (take-append-drop m cs) ∙ scalars) in
    let text_of : IsUtf8 (take n text) = (take m cs, (both.0, sym front)) in
    let some = v.1 in
    let within = v.0 in
    record {
      some = omega (arith, length-le-encodes (take m cs), length-take m cs);
      within =
          omega (arith, ap length split, length-append (encode_utf8_all (take m cs)) (encode_utf8_all (drop m cs)));
      words = pieces_from (take m cs) BeforeCommand;
      is = subst (IsWholeCommand (pieces_from (take m cs) BeforeCommand)) (sym front) (whole_at m cs scalars v);
      written = ap (λ l. pieces_from l BeforeCommand)
          (sym (chars_from_encodes (take m cs) (take n text) text_of (sym front)));
      front = text_of;
      all = ap (λ l. pieces_from l BeforeCommand) (sym (chars_from_encodes cs text (cs, (scalars, is)) is))
          ∙ sym (pieces_cut cs BeforeCommand m found);
    }
whole_front_by (Refused fault) text cs n scalars is found v same = absurd cc
whole_front_by (Reaches last) text cs n scalars is found v same = absurd cc

-- the scan of a text is that of its characters
text_scan : (text : List ℕ) (u : IsUtf8 text) → scanned text BeforeCommand ≡ widened (scanned u.0 BeforeCommand) u.0
text_scan text u = ap (λ l. scanned l BeforeCommand) (sym u.1.1) ∙ scan_widened u.0 BeforeCommand

pub whole_front : (text : List ℕ) (n : ℕ) → IsUtf8 text → scanned text BeforeCommand ≡ EndsAt n → WholeFront text n
whole_front text n u h = whole_front_by (scanned u.0 BeforeCommand) text u.0 n u.1.0 u.1.1 refl
    (verdict u.0 BeforeCommand) (sym h ∙ text_scan text u)

-- what the scan of a text says of its characters, where it doesn't end
same_scan : (scan found : Scan) (cs : List ℕ) → ((n : ℕ) → found ≢ EndsAt n) → found ≡ widened scan cs → found ≡ scan
same_scan (EndsAt m) found cs other same = absurd (other _ same)
same_scan (Refused fault) found cs other same = same
same_scan (Reaches last) found cs other same = same

text_says : (text : List ℕ) (found : Scan) (u : IsUtf8 text) → ((n : ℕ) → found ≢ EndsAt n) →
    scanned text BeforeCommand ≡ found → Verdict found BeforeCommand u.0
text_says text found u other h = subst (λ scan. Verdict scan BeforeCommand u.0)
    (sym (same_scan (scanned u.0 BeforeCommand) found u.0 other (sym h ∙ text_scan text u)))
    (verdict u.0 BeforeCommand)

text_refused : (text : List ℕ) (fault : ScriptFault) (u : IsUtf8 text) → scanned text BeforeCommand ≡ Refused fault →
    Verdict (Refused fault) BeforeCommand u.0
text_refused text fault u h = text_says text (Refused fault) u (λ n is. cc) h

text_reached : (text : List ℕ) (last : Stage) (u : IsUtf8 text) → scanned text BeforeCommand ≡ Reaches last →
    Verdict (Reaches last) BeforeCommand u.0
text_reached text last u h = text_says text (Reaches last) u (λ n is. cc) h

-- The text meets the fault, whatever follows.
pub refused_fault : (text back bytes : List ℕ) (fault : ScriptFault) → IsUtf8 text →
    scanned text BeforeCommand ≡ Refused fault → bytes ≡ text ++ back → MeetsFault bytes fault
refused_fault text back bytes fault u h split =
    let v = text_refused text fault u h in
    (text, back, u.0, Continues, split, u.1, tt, ap (first Continues) (sym (append-nil u.0)) ∙ v.1 Continues [])

-- Behind the text no character begins.
pub broken_fault : (text back bytes : List ℕ) (last : Stage) → IsUtf8 text → scanned text BeforeCommand ≡ Reaches last →
    bytes ≡ text ++ back → 0 < length back → StartsWithNoChar back
    → MeetsFault bytes NotUtf8
broken_fault text back bytes last u h split some none =
    (text, back, u.0, Breaks, split, u.1, (some, none), (text_reached text last u h).1)

-- No command is whole in the text.
pub no_whole : (text back bytes : List ℕ) (last : Stage) → IsUtf8 text → scanned text BeforeCommand ≡ Reaches last →
    bytes ≡ text ++ back → StartsWithNoChar back → HoldsNoWhole bytes
no_whole text back bytes last u h split none words used rest e w =
    let undecided : first Continues u.0 ≡ Open = (text_reached text last u h).0 in
    ⊎_elim
    (λ g.
    let nil = no_char_nil g.0 rest (scalars_split u.0 g.0 (ap all_scalars (sym g.1) ∙ w.1.0)).1
    (subst StartsWithNoChar g.2 none) in
    let same : w.0 ≡ u.0 = g.1 ∙ ap (λ l. u.0 ++ l) nil ∙ append-nil u.0 in
    let no : Command words [] ≡ Open = sym w.2 ∙ ap (first Continues) same ∙ undecided in absurd cc)
    (λ g.
    let decided : first Continues w.0 ≢ Open = λ o. (let no : Command words [] ≡ Open = sym w.2 ∙ o in cc) in
    let no : Command words g.0 ≡ Open = ap (λ x. extended x g.0) (sym w.2) ∙ sym (stays w.0 g.0 Continues decided)
    ∙ ap (first Continues) (sym g.1) ∙ undecided in absurd cc)
    (one_goes_on u.0 w.0 back rest (ap (λ l. l ++ back) u.1.1 ∙ sym split ∙ e ∙ ap (λ l. l ++ rest) (sym w.1.1)))

next_whole : (finished : Bool) (rest : List ℕ) (words : List (List ℕ)) (bytes : List ℕ) → IsWholeCommand words bytes →
    IsNextCommand finished rest words bytes
next_whole true rest words bytes w = inl w
next_whole false rest words bytes w = w

pub command_of : (finished : Bool) (rest : List ℕ) (valid n : ℕ) → valid ≤ length rest → IsUtf8 (take valid rest) →
    scanned (take valid rest) BeforeCommand ≡ EndsAt n → IsCommandOf finished rest n
command_of finished rest valid n within text h =
    let w = whole_front (take valid rest) n text h in
    let fits = w.within in
    let low : n ≤ valid = omega (arith, length-take valid rest) in
    let cut : take n (take valid rest) ≡ take n rest = take-take n valid rest low in
    record {
      some = w.some;
      within = omega arith;
      words = w.words;
      is = next_whole finished (drop n rest) w.words (take n rest) (subst (IsWholeCommand w.words) cut w.is);
      written = ap (λ l. pieces_from (chars l) BeforeCommand) (sym cut) ∙ w.written;
      text = subst IsUtf8 cut w.front;
    }

-- its words are those of the text
pub command_words : (finished : Bool) (rest : List ℕ) (valid n : ℕ) (within : valid
    ≤ length rest) (text : IsUtf8 (take valid rest)) (h : scanned (take valid rest) BeforeCommand ≡ EndsAt n)
    → pieces_from (chars (take valid rest)) BeforeCommand ≡ (command_of finished rest valid n within text h).words
unfolding command_of
command_words finished rest valid n within text h = (whole_front (take valid rest) n text h).all

split_at : (valid : ℕ) (rest more : List ℕ) → rest ++ more ≡ take valid rest ++ (drop valid rest ++ more)
split_at valid rest more =
    ap (λ l. l ++ more) (sym (take-append-drop valid rest)) ∙ append_assoc (take valid rest) (drop valid rest) more

pub refused_of : (finished : Bool) (rest : List ℕ) (valid : ℕ) (fault : ScriptFault) → IsUtf8 (take valid rest) →
    scanned (take valid rest) BeforeCommand ≡ Refused fault → HasFault finished rest fault
refused_of true rest valid fault text h =
    refused_fault (take valid rest) (drop valid rest) rest fault text h (sym (take-append-drop valid rest))
refused_of false rest valid fault text h = λ more.
    refused_fault (take valid rest) (drop valid rest ++ more) (rest ++ more) fault text h (split_at valid rest more)

pub refused_met : (text : List ℕ) (fault : ScriptFault) → IsUtf8 text → scanned text BeforeCommand ≡ Refused fault →
    fault ≢ Memory
refused_met text fault u h = (text_refused text fault u h).0.0

broken_of : (finished : Bool) (rest : List ℕ) (valid : ℕ) (last : Stage) → IsUtf8 (take valid rest) →
    scanned (take valid rest) BeforeCommand ≡ Reaches last → BeginsNoChar (drop valid rest)
    → HasFault finished rest NotUtf8
broken_of true rest valid last text h none =
    broken_fault (take valid rest) (drop valid rest) rest last text h (sym (take-append-drop valid rest)) none.0
    (subst StartsWithNoChar (append-nil (drop valid rest)) (none.1 []))
broken_of false rest valid last text h none = λ more.
    let some = none.0 in
    broken_fault (take valid rest) (drop valid rest ++ more) (rest ++ more) last text h (split_at valid rest more)
    (omega (arith, length-append (drop valid rest) more)) (none.1 more)

all_taken : (valid : ℕ) (rest : List ℕ) → drop valid rest ≡ [] → take valid rest ≡ rest
all_taken valid rest h =
    sym (append-nil (take valid rest)) ∙ ap (λ l. take valid rest ++ l) (sym h) ∙ take-append-drop valid rest

-- where nothing was read no command has begun
no_scan : (valid : ℕ) (rest : List ℕ) (last : Stage) → scanned (take valid rest) BeforeCommand ≡ Reaches last →
    (last_step last).next ≡ End → 0 < valid
no_scan zero rest last h ends =
    let e : BeforeCommand ≡ last = (let k = sym (scanned-nil BeforeCommand) ∙ h in cc) in
    let no : Go BeforeCommand ≡ End = ap (λ s. (last_step s).next) e ∙ ends in absurd cc
no_scan (suc valid) rest last h ends = omega arith

finished_by : (next : Next) (rest : List ℕ) (valid : ℕ) (last : Stage) → (last_step last).next ≡ next →
    valid ≤ length rest → (u : IsUtf8 (take valid rest)) → scanned (take valid rest) BeforeCommand ≡ Reaches last →
    drop valid rest ≡ []
    → first Ends u.0 ≡ at_last next (pieces_from u.0 BeforeCommand) → IsMetAtEnd next →
    IsNext true rest (last_found next valid)
finished_by (Go stage) rest valid last e within u h none found met =
    (u.0, (u.1.0, u.1.1 ∙ all_taken valid rest none), found)
finished_by End rest valid last e within u h none found met = record {
  some = no_scan valid rest last h e;
  within = within;
  words = pieces_from u.0 BeforeCommand;
  is = inr (none, (u.0, u.1, found));
  written = ap (λ l. pieces_from l BeforeCommand) (sym (chars_from_encodes u.0 (take valid rest) u u.1.1));
  text = u;
}
finished_by (Refuse fault) rest valid last e within u h none found met =
    (met.0, (take valid rest, drop valid rest, u.0, Ends, sym (take-append-drop valid rest), u.1, none, found))

finished_of : (rest : List ℕ) (valid : ℕ) (last : Stage) → valid ≤ length rest → IsUtf8 (take valid rest) →
    scanned (take valid rest) BeforeCommand ≡ Reaches last → drop valid rest ≡ []
    → IsNext true rest (last_command last valid)
finished_of rest valid last within u h none =
    finished_by (last_step last).next rest valid last refl within u h none (text_reached (take valid rest) last u h).2
    (met_at_end last)

pub reached_of : (stop : TextStop) (finished : Bool) (rest : List ℕ) (valid : ℕ) (last : Stage) → valid ≤ length rest →
    IsUtf8 (take valid rest) → scanned (take valid rest) BeforeCommand ≡ Reaches last
    → StopsAs stop (drop valid rest) → IsNext finished rest (text_end stop finished last valid)
reached_of AtEnd true rest valid last within text h stops = finished_of rest valid last within text h stops
reached_of AtEnd false rest valid last within text h stops =
    no_whole (take valid rest) (drop valid rest) rest last text h (sym (take-append-drop valid rest))
    (λ c more s e. encode_not_nil c more (sym e ∙ stops))
reached_of WithinCharacter true rest valid last within text h stops = (
  (λ e. cc),
  broken_fault (take valid rest) (drop valid rest) rest last text h (sym (take-append-drop valid rest))
      stops.0 stops.1,
)
reached_of WithinCharacter false rest valid last within text h stops =
    no_whole (take valid rest) (drop valid rest) rest last text h (sym (take-append-drop valid rest)) stops.1
reached_of Broken finished rest valid last within text h stops =
    ((λ e. cc), broken_of finished rest valid last text h stops)

-- where no fault is met

-- A text whose bytes are all at hand is no broken text.

broken_last : (next : Next) (words : List (List ℕ)) → IsMetAtEnd next → at_last next words ≡ Fault NotUtf8 → ⊥
broken_last (Go stage) words met h = cc
broken_last End words met h = cc
broken_last (Refuse fault) words met h = let same : fault ≡ NotUtf8 = cc in met.1 same

broken_in : (scan : Scan) (cs : List ℕ) (e : Ending) → Verdict scan BeforeCommand cs → e ≢ Breaks →
    first e cs ≡ Fault NotUtf8 → ⊥
broken_in (EndsAt n) cs e v whole h =
    let found : first e cs ≡ Command (pieces_from (take n cs) BeforeCommand) (drop n cs) = ap (first e)
    (sym (take-append-drop n cs)) ∙ v.2 e (drop n cs) in
    let no : Command (pieces_from (take n cs) BeforeCommand) (drop n cs) ≡ Fault NotUtf8 = sym found ∙ h in cc
broken_in (Refused fault) cs e v whole h =
    let found : Fault fault ≡ Fault NotUtf8 = sym (ap (first e) (sym (append-nil cs)) ∙ v.1 e []) ∙ h in
    let same : fault ≡ NotUtf8 = cc in v.0.1 same
broken_in (Reaches last) cs Ends v whole h =
    broken_last (last_step last).next (pieces_from cs BeforeCommand) (met_at_end last) (sym v.2 ∙ h)
broken_in (Reaches last) cs Breaks v whole h = whole refl
broken_in (Reaches last) cs Continues v whole h = let no : Open ≡ Fault NotUtf8 = sym v.0 ∙ h in cc

-- what bytes that aren't UTF-8 would follow in a text
cut_text : (cs ds back : List ℕ) → all_scalars ds ≡ true → encode_utf8_all cs ++ back ≡ encode_utf8_all ds →
    0 < length back → StartsWithNoChar back → ⊥
cut_text cs ds back scalars h some none = ⊎_elim
    (λ g.
    let nil = no_char_nil g.0 [] (scalars_split cs g.0 (ap all_scalars (sym g.1) ∙ scalars)).1
    (subst StartsWithNoChar g.2 none) in
    let empty : back ≡ [] = g.2 ∙ ap (λ l. encode_utf8_all l ++ []) nil in
    let long = ap length empty in omega arith)
    (λ g. let long = ap length g.2 in omega (arith, length-append (encode_utf8_all g.0) back))
    (one_goes_on cs ds back [] (h ∙ sym (append-nil (encode_utf8_all ds))))

not_broken_by : (e : Ending) (text : List ℕ) → IsUtf8 text → (front back cs : List ℕ) → text ≡ front ++ back →
    (all_scalars cs ≡ true) × (encode_utf8_all cs ≡ front) → Follows e back → first e cs ≡ Fault NotUtf8 → ⊥
not_broken_by Ends text u front back cs split spells follows h =
    broken_in (scanned cs BeforeCommand) cs Ends (verdict cs BeforeCommand) (λ e. cc) h
not_broken_by Breaks text u front back cs split spells follows h =
    cut_text cs u.0 back u.1.0 (ap (λ l. l ++ back) spells.1 ∙ sym split ∙ sym u.1.1) follows.0 follows.1
not_broken_by Continues text u front back cs split spells follows h =
    broken_in (scanned cs BeforeCommand) cs Continues (verdict cs BeforeCommand) (λ e. cc) h

-- A text never meets the fault of broken bytes.
text_not_broken : (text : List ℕ) → IsUtf8 text → ¬ MeetsFault text NotUtf8
text_not_broken text u m = not_broken_by m.3 text u m.0 m.1 m.2 m.4 m.5 m.6 m.7

one_fault : (bytes : List ℕ) (fault other : ScriptFault) → MeetsFault bytes fault → MeetsFault bytes other →
    fault ≡ other
one_fault bytes fault other m n = let same = one_found bytes (Fault fault) (Fault other) (reads_fault bytes fault m)
    (reads_fault bytes other n) in cc

-- What the end of the script ends is no fault.
clear_by : (bytes : List ℕ) (found : Option ℕ) → IsNext true bytes (Ok found) → (fault : ScriptFault) →
    ¬ MeetsFault bytes fault
clear_by bytes None none fault m =
    let no = one_found bytes Nothing (Fault fault) (reads_nothing bytes none) (reads_fault bytes fault m) in cc
clear_by bytes (Some n) k fault m =
    let no = one_found bytes (Command k.words (drop n bytes)) (Fault fault)
    (reads_before bytes (take n bytes) (drop n bytes) k.words (sym (take-append-drop n bytes)) k.is)
    (reads_fault bytes fault m) in cc

clear_at_end : (next : Next) (rest : List ℕ) (valid : ℕ) → IsNext true rest (last_found next valid) →
    IfOk (last_found next valid) (λ found. IfNone found (HasNoFault true rest))
clear_at_end (Go stage) rest valid h = clear_by rest None h
clear_at_end End rest valid h = tt
clear_at_end (Refuse fault) rest valid h = tt

-- A fault that comes however the bytes go on comes with each way to go on.
clear_before : (rest text back : List ℕ) (fault : ScriptFault) → MeetsFault (rest ++ back) NotUtf8 → (more : List ℕ) →
    rest ++ more ≡ text → IsUtf8 text
    → ((others : List ℕ) → MeetsFault (rest ++ others) fault) → ⊥
clear_before rest text back fault broken more whole u met =
    let same = one_fault (rest ++ back) fault NotUtf8 (met back) broken in
    text_not_broken text u (subst (λ l. MeetsFault l NotUtf8) whole (subst (MeetsFault (rest ++ more)) same (met more)))

pub no_fault_of : (stop : TextStop) (finished : Bool) (rest : List ℕ) (valid : ℕ) (last : Stage) → valid ≤ length rest →
    IsUtf8 (take valid rest) → scanned (take valid rest) BeforeCommand ≡ Reaches last
    → StopsAs stop (drop valid rest) →
    IfOk (text_end stop finished last valid) (λ found. IfNone found (HasNoFault finished rest))
no_fault_of AtEnd true rest valid last within text h stops =
    clear_at_end (last_step last).next rest valid (finished_of rest valid last within text h stops)
no_fault_of AtEnd false rest valid last within text h stops = λ fault met.
    let all = all_taken valid rest stops in
    clear_before rest (take valid rest) (128 ∷ []) fault
    (broken_fault (take valid rest) (128 ∷ []) (rest ++ 128 ∷ []) last text h (ap (λ l. l ++ 128 ∷ []) (sym all))
    (omega arith) broken_byte)
    [] (append-nil rest ∙ sym all) text met
no_fault_of WithinCharacter true rest valid last within text h stops = tt
no_fault_of WithinCharacter false rest valid last within text h stops = λ fault met.
    let c = stops.2.0 in
    let more = stops.2.1 in
    let whole : rest ++ more ≡ take valid rest ++ encode_utf8 c = split_at valid rest more
    ∙ ap (λ l. take valid rest ++ l) (sym stops.2.3) in
    clear_before rest (take valid rest ++ encode_utf8 c) [] fault
    (subst (λ l. MeetsFault l NotUtf8) (sym (append-nil rest))
    (broken_fault (take valid rest) (drop valid rest) rest last text h (sym (take-append-drop valid rest)) stops.0
    stops.1))
    more whole (IsUtf8-append (take valid rest) (encode_utf8 c) text (IsUtf8-encode c stops.2.2)) met
no_fault_of Broken finished rest valid last within text h stops = tt

-- the steps of the search for the next command

pub progress_more : {rest slice : List ℕ} {progress : Progress} (n : ℕ) → IsProgress rest progress →
    slice ≡ drop progress.valid rest → n ≤ length slice → IsUtf8 (take n slice)
    → IsProgress rest (record progress { valid = progress.valid + n })
progress_more {rest} {slice} {progress} n p is long text =
    let order = p.order in
    let within = p.within in
    record {
      order = omega arith;
      within = omega (arith, ap length is, length-drop progress.valid rest);
      text = subst IsUtf8 (sym (take-add progress.valid n rest)) (IsUtf8-append (take progress.valid rest)
          (take n (drop progress.valid rest)) p.text (subst (λ l. IsUtf8 (take n l)) is text));
      reached = p.reached;
    }

pub progress_scan : {rest : List ℕ} {progress : Progress} {scan : Scan} → IsProgress rest progress
    → scan ≡ scanned (take (progress.valid - progress.seen) (drop progress.seen rest)) progress.stage →
    scanned (take progress.valid rest) BeforeCommand ≡ later progress.seen scan
progress_scan {rest} {progress} p is =
    let seen = progress.seen in
    let more = take (progress.valid - seen) (drop seen rest) in
    let order = p.order in
    let within = p.within in
    let sum : seen + (progress.valid - seen) ≡ progress.valid = omega arith in
    let long : length (take seen rest) ≡ seen = omega (arith, length-take seen rest) in
    ap (λ n. scanned (take n rest) BeforeCommand) (sym sum)
    ∙ ap (λ l. scanned l BeforeCommand) (take-add seen (progress.valid - seen) rest)
    ∙ scanned-append (take seen rest) more BeforeCommand progress.stage p.reached
    ∙ ap (λ n. later n (scanned more progress.stage)) long
    ∙ ap (later seen) (sym is)

pub progress_reaches : {rest : List ℕ} {progress : Progress} (stage : Stage) → IsProgress rest progress →
    scanned (take progress.valid rest) BeforeCommand ≡ Reaches stage
    → IsProgress rest (record { valid = progress.valid; seen = progress.valid; stage = stage })
progress_reaches {progress = progress} stage p h = record {
  order = omega arith;
  within = p.within;
  text = p.text;
  reached = h;
}

pub stops_after : (rest : List ℕ) (valid n : ℕ) (stop : TextStop) {slice : List ℕ} → slice ≡ drop valid rest →
    StopsAs stop (drop n slice) → StopsAs stop (drop (valid + n) rest)
stops_after rest valid n stop is h = subst (StopsAs stop) (ap (drop n) is ∙ drop-drop n valid rest) h

-- no more braces are open than bytes were read
pub progress_depth : (rest : List ℕ) (progress : Progress) → IsProgress rest progress →
    depth_of progress.stage ≤ progress.seen
progress_depth rest progress p =
    let depth = depth_reached (take progress.seen rest) BeforeCommand progress.stage p.reached in
    omega (arith, length-take progress.seen rest)
