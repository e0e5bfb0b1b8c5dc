-- A new document.
use Rattle.documents.proofs.Common.{◌≡◌, ◌≢◌, ℕ, zero, suc, ◌+◌, ◌<◌, ◌≤◌, cond, List, [], ◌∷◌, refl, sym, ap, ◌∙◌}
use Rattle.documents.proofs.Common.{true≢false, arith, Some, None, option_map, nat_cmp, All-cons, All-nil, none-some}
use Rattle.documents.proofs.Common.{same_Some, bytes_eq-Decides, MOST_MARKS, MOST_TAGS, MOST_WIDGETS, new_content}
use Rattle.documents.proofs.Common.{MarksStand, AreLimits, LimitTable, IsDocument-new, AreTags, Tag, first_slot, sel}
use Rattle.documents.proofs.Common.{no_history, unmodified, AreAnchored, first_document_settings, Parts, document_of}
use Rattle.documents.proofs.Common.{AreMarked, HasKnownSlots, IsSound, IsWellFormedDocument, slice_get}
use Rattle.name_list.specs.Names.{AreApart}
use Rattle.documents.proofs.WellFormedLaws.{IsWellFormedDocument-kept}
use Rattle.std.specs.FinMap as finite
use Rattle.std.specs.FinSet as set

abbrev pub sel_alone : List Tag
sel_alone = record { name = sel; slot = 0 } ∷ []

-- one newline, no widgets and no shared marks
abbrev pub bare_parts : Parts
bare_parts = record {
  seats = record { entries = []; limit = MOST_WIDGETS };
  tags = record { tags = sel_alone; limit = MOST_TAGS };
  marks = record { marks = []; limit = MOST_MARKS };
  journal = record {
    settings = first_document_settings;
    disabled = [];
    anchors = [];
    log = record { history = no_history; modified = unmodified; most = 0 };
  };
  content = new_content;
}

stand-new : MarksStand new_content
stand-new number place is = absurd (let h : None ≡ Some place = sym (finite.get-empty nat_cmp number) ∙ is in cc)

apart_one : {A : Type 0} (x : A) → AreApart (x ∷ [])
apart_one x zero zero y is also = refl
apart_one x zero (suc j) y is also = absurd (none-some y also)
apart_one x (suc i) j y is also = absurd (none-some y is)

others_first : (at slot : ℕ) → slice_get (0 ∷ []) at ≡ Some slot → slot ≢ 0 →
    (first_slot ≤ slot) × (slot < first_slot + MOST_TAGS)
others_first zero slot is other = absurd (other (sym (same_Some 0 slot is)))
others_first (suc at) slot is other = absurd (none-some slot is)

sound-tags : AreTags bare_parts.tags
sound-tags = record {
  names_apart = apart_one sel;
  slots_apart = apart_one 0;
  selection = ap (λ b. option_map (λ (tag : Tag). tag.slot) (cond b (Some (record { name = sel; slot = 0 })) None))
      ((bytes_eq-Decides sel sel).1 refl);
  others = others_first;
  room = omega arith;
  limit = omega arith;
}

sound-marks : AreMarked bare_parts.marks new_content.marks
sound-marks = record {
  marks = record {
    names_apart = λ i j x is. absurd (none-some x is);
    numbers_apart = λ i j x is. absurd (none-some x is);
    numbers = λ at number is. absurd (none-some number is);
    room = omega arith;
    limit = omega arith;
  };
  roomy = refl;
  each = tt;
}

pub sound-bare : IsSound bare_parts
sound-bare = record {
  kept = record {
    seats = record {
      names_apart = λ i j x is. absurd (none-some x is);
      numbers_apart = λ i j x is. absurd (none-some x is);
      below = λ at number is. absurd (none-some number is);
    };
    slots = refl;
    named = tt;
    text = IsDocument-new;
    short = omega arith;
    marks = stand-new;
    own = tt;
    known = All-cons (HasKnownSlots [] sel_alone) _ [] (λ slot there.
        absurd (true≢false (sym there ∙ set.contains-empty nat_cmp slot))) (All-nil (HasKnownSlots [] sel_alone));
    tags = sound-tags;
    roomy = refl;
  };
  marked = sound-marks;
  orderly = record { most = refl; groups = λ _. refl; undone = λ _. refl };
  views = record { anchored = All-nil (AreAnchored (10 ∷ [])); seated = tt };
}

pub formed-bare : (limits : LimitTable) → AreLimits limits → IsWellFormedDocument limits (document_of bare_parts)
formed-bare limits are =
    let some = are.some in
    IsWellFormedDocument-kept limits bare_parts sound-bare
    (record { short = omega (arith, some); filled = tt; undone_filled = tt; reverts = refl; repeats = refl })
    (omega arith) (omega arith)
