-- The names that most proofs of this crate cite, passed on from one place. Declares nothing.
pub use Rattle.std.proofs.Common.{[], ap₂, if◌then◌else◌, ℕ, ◌%◌, ◌&&◌, ◌*◌, ◌++◌, ◌+◌, ◌-◌, ◌/◌, ◌<◌, ◌==◌, ◌^◌, ◌||◌}
pub use Rattle.std.proofs.Common.{◌∙◌, ◌∷◌, ◌≡◌, ◌≢◌, ◌≤◌, Bool, List, add-one, ap, arith, bit_and, bit_or, bit_xor}
pub use Rattle.std.proofs.Common.{cond, false, get_or-set_other, get_or-set_same, inl, inr, length, length-set, lt-ltb}
pub use Rattle.std.proofs.Common.{max, mod-eq_of_lt, nat_eq, nat_lt, not, refl, replicate, rules, slice_index}
pub use Rattle.std.proofs.Common.{slice_set, subst, suc, sym, take, true, w64, zero}
pub use Rattle.std.proofs.lemmas.Bool.{cases_eq, cases_lt}
pub use Rattle.std.proofs.lemmas.Bool.Decides.{nat_tests}
pub use Rattle.std.proofs.lemmas.List.{get_or-take, get_or_past, length-replicate}
pub use Rattle.std.proofs.lemmas.Nat.{and_or_self, or_lt, xor_lt}
pub use Rattle.std.proofs.lemmas.Slice.Eq.{bytes_eq-Decides}
pub use Rattle.std.specs.Cmp.{nat_cmp_total}
pub use Rattle.std.specs.Int.Bits.{or_zero_r, xor_zero_r}
pub use Rattle.std.specs.Ordering.{nat_cmp}
pub use Rattle.text_model.specs.Content.{Slots}
pub use Rattle.text_model.specs.OneWord.{alone, slots_in}
pub use Rattle.text_model.specs.OneWordLaws.{AreWords-alone, alone-other, alone-same}
pub use Rattle.text_model.specs.SlotSets.{differing}
pub use Rattle.text_model.specs.TagBits.{EndBy, has_bit}
pub use Rattle.text_model.specs.declared.tag_set.TheConstants.{WORDS}
pub use Rattle.toggle_sums.specs.CountLaws.{contains-differing, differing-associative, differing-empty, differing-self}
pub use Rattle.toggle_sums.specs.CountLaws.{either, empty-differing, empty-union, same_slots, union-associative}
pub use Rattle.toggle_sums.specs.CountLaws.{union-empty}
pub use Rattle.toggle_sums.specs.SlotWordLaws.{words_of-slots_of}
pub use Rattle.toggle_sums.specs.SlotWords.{AreUsed, AreWords, last_used, slots_of, words_of}
pub use Rattle.toggle_sums.specs.ToggleSets.{ToggleSets}
