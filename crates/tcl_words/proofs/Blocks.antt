-- Runs of ordinary bytes that are looked at by blocks, through the mask of those that end a run.
use Rattle.tcl_words.proofs.Common.{◌≡◌, ℕ, ◌+◌, ◌%◌, ◌<◌, ◌≤◌, Bool, true, false, List, [], ◌∷◌, map, ◌≢◌, length}
use Rattle.tcl_words.proofs.Common.{get_or, refl, sym, ap, ◌∙◌, subst, arith, ap₂, ◌^◌, not, Fits, w8, agree_below}
use Rattle.tcl_words.proofs.Common.{agree_below_at, not-false, not-true, length-map, length-chunk, map-map, mask_l-lt}
use Rattle.tcl_words.proofs.Common.{mask_l-mod, none_from_empty_mask, run_in_chunk_fails, run_in_chunk_stops}
use Rattle.tcl_words.proofs.Common.{trailing_mask_l, w16, AllOrdinary, IsRun}
use Rattle.std.proofs.lemmas.Nat.Bits.{bit_at-trailing_zeros}
use Rattle.std.specs.Int.Count.{count_trailing_zeros}
use Rattle.std.specs.Simd.Lanes.{Each1, chunk, mask_l}
use lib.Lanes.{top}

module _ (ordinary : ℕ → Bool) where
  abbrev ends : ℕ → Bool
  ends byte = not (ordinary byte)

  tops : (lane : ℕ → ℕ) (block : List ℕ) → agree_below (λ byte. top 7 (lane byte)) ends 256 ≡ true →
      Each1 (Fits w8) block → map (λ byte. top 7 (lane byte)) block ≡ map ends block
  tops lane [] same fits = refl
  tops lane (byte ∷ block) same fits =
      ap₂ (λ bit bits. bit ∷ bits)
      (agree_below_at (λ byte. top 7 (lane byte)) ends 256 byte same fits.0.fits) (tops lane block same fits.1)

  -- the mask of lanes that come of the bytes of a block, where it is right for each of the 256 bytes
  pub mask_is : (lane : ℕ → ℕ) (block lanes : List ℕ) → length block ≡ 16 → Each1 (Fits w8) block →
      lanes ≡ map lane block → agree_below (λ byte. top 7 (lane byte)) ends 256 ≡ true →
      mask_l (map (top 7) lanes) % 2 ^ 64 ≡ mask_l (map ends block)
  mask_is lane block lanes long fits made same =
      ap (λ bits. mask_l bits % 2 ^ 64)
      (ap (map (top 7)) made ∙ map-map (top 7) lane block ∙ tops lane block same fits)
      ∙ mask_l-mod (map ends block) 64 (omega (arith, length-map block ends, long))

  module _ (bytes : List ℕ) (start mask : ℕ) (room : start + 16 ≤ length bytes)
      (masked : mask ≡ mask_l (map ends (chunk start 16 bytes))) where
    plain : (to : ℕ) → ((k : ℕ) → start ≤ k → k < to → ends (get_or bytes k 0) ≡ false) →
        AllOrdinary ordinary bytes start to
    plain to here k from before = not-false (ordinary (get_or bytes k 0)) (here k from before)

    -- where no bit is set all of the block are ordinary
    pub whole_block : mask ≡ 0 → AllOrdinary ordinary bytes start (start + 16)
    whole_block none = plain (start + 16) (none_from_empty_mask ends bytes start 16 0 room (sym masked ∙ none))

    -- else those before the lowest are, and this one isn't
    pub first_end : mask ≢ 0 → let stop = start + count_trailing_zeros 64 mask in
        (stop < length bytes) × IsRun ordinary bytes start stop
    first_end some =
        let block = chunk start 16 bytes in
        let made = mask_l (map ends block) in
        let n = count_trailing_zeros 64 mask in
        let long : length block ≡ 16 = length-chunk start 16 bytes room in
        let set : 0 < made = omega (arith, some, masked) in
        let first = ap (count_trailing_zeros 64) masked ∙ trailing_mask_l ends 64 block (omega (arith, long)) set in
        let small : made < 2 ^ 16 =
        subst (λ n. made < 2 ^ n) (length-map block ends ∙ long) (mask_l-lt (map ends block)) in
        let same = trailing_mask_l ends 16 block (omega (arith, long)) set in
        let less : n < 16 = omega (arith, first, same, (bit_at-trailing_zeros w16 made set small).0) in
        let within : start + n < length bytes = omega arith in (
          within,
          (
            omega arith,
            plain (start + n) (run_in_chunk_fails ends bytes start 16 n 0 room first),
            λ _. not-true (ordinary (get_or bytes (start + n) 0))
                (run_in_chunk_stops ends bytes start 16 n 0 room first less),
          ),
        )
