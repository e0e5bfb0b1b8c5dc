-- Where a dump ends.
use Rattle.search_dump.proofs.Common.{◌≡◌, ◌≢◌, ℕ, ◌-◌, ◌<◌, ◌≤◌, ◌&&◌, ◌==◌, List, [], ◌++◌, length, ap, ap₂, arith}
use Rattle.search_dump.proofs.Common.{subst, sym, ◌∙◌, if◌then◌else◌, flat_map, range_with_len, eq-eqb, le-leb, lt-leb}
use Rattle.search_dump.proofs.Common.{ne_eqb, append-nil, Goes, goes_nowhere, goes_on, Seen, dump_elements, elements_at}
use Rattle.search_dump.proofs.Common.{elements_at_end, if_listed, mark_elements, tagoff_elements, places, Listed}

-- nothing is listed where the second place stands before the first
pub turned-goes : (listed : Listed) (seen : Seen) (from to : ℕ) (bytes : List ℕ) → to < from →
    Goes bytes bytes (dump_elements listed seen from to)
turned-goes listed seen from to bytes turned =
    let end = if_listed listed.tags (tagoff_elements seen to) ++ if_listed listed.marks (mark_elements seen to) in
    let apart : to - from ≡ 0 = omega arith in
    let none : dump_elements listed seen from to ≡ [] =
    ap (λ n. flat_map (elements_at listed seen from to) (range_with_len from n) ++ elements_at_end listed seen from to)
    apart
    ∙ ap (λ b. if b && to == length seen.text then end else []) (lt-leb from to turned) in
    subst (Goes bytes bytes) (sym none) (goes_nowhere bytes)

-- before the end of the text its places alone are listed
pub within-goes : (listed : Listed) (seen : Seen) (from to : ℕ) (old new : List ℕ) → from ≤ to → to ≢ length seen.text →
    Goes old new (flat_map (elements_at listed seen from to) (places from to))
    → Goes old new (dump_elements listed seen from to)
within-goes listed seen from to old new ordered inside goes =
    let each = flat_map (elements_at listed seen from to) (places from to) in
    let end = if_listed listed.tags (tagoff_elements seen to) ++ if_listed listed.marks (mark_elements seen to) in
    let none : elements_at_end listed seen from to ≡ [] =
    ap₂ (λ a b. if a && b then end else []) (le-leb from to ordered) (ne_eqb to (length seen.text) inside) in
    subst (Goes old new) (sym (ap (λ more. each ++ more) none ∙ append-nil each)) goes

-- at the end of the text what stands there comes last
pub whole-goes : (listed : Listed) (seen : Seen) (from to : ℕ) (old between new : List ℕ) → from ≤ to →
    to ≡ length seen.text → Goes old between (flat_map (elements_at listed seen from to) (places from to))
    → Goes between new (if_listed listed.tags (tagoff_elements seen to)
    ++ if_listed listed.marks (mark_elements seen to)) → Goes old new (dump_elements listed seen from to)
whole-goes listed seen from to old between new ordered is first second =
    let each = flat_map (elements_at listed seen from to) (places from to) in
    let end = if_listed listed.tags (tagoff_elements seen to) ++ if_listed listed.marks (mark_elements seen to) in
    let all : elements_at_end listed seen from to ≡ end =
    ap₂ (λ a b. if a && b then end else []) (le-leb from to ordered) (eq-eqb to (length seen.text) is) in
    subst (Goes old new) (sym (ap (λ more. each ++ more) all)) (goes_on old between new each end first second)
