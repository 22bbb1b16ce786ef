-- The sum of the amounts at the places of a list: entry by entry, within 64 bits, and its bound. Rests on `Sums` of `whole`.
use mathlib.Core.Path.{◌≡◌, sym, ◌∙◌}
use mathlib.Core.List.{List, [], ◌∷◌}
use Prim.Native.Nat.{ℕ, ◌+◌, ◌*◌, ◌≤◌, ◌<◌}
use native.Mathlib.Numerals.{add-one}
use lib.ListN.{length, get_or, take}
use lib.Seq.{take-suc}
use lib.IntN.{ℤ, pos, neg_ℤ, ◌+ℤ◌}
use lib.Signed.{◌≤ℤ◌}
use mir.Syntax.{w32, w64}
use mir.Facts.{to_z-of_z}
use mir.Val.{SFits, to_z, of_z}
use Rattle.whole.specs.Sums.{total}
use Rattle.whole.proofs.Machine.{widens}
use Rattle.whole.proofs.Sums.{total-append}
use Rattle.whole.proofs.Lin.{lin, plus, negs, fits_between}
use Rattle.paper.specs.Chains.{All}
use Rattle.loops.specs.declared.Arrow.{Arrow}
use Rattle.loops.specs.Arrows.{arrow_at}
use Rattle.needs.specs.Raising.{sum_at}

-- the sum after the first j entries, of which each changes it by at most 2 ^ 31
pub record Summed (arrows : List Arrow) (ring : List ℕ) (j : ℕ) (sum : ℤ) : Type 0 where
  pub is : sum ≡ sum_at arrows (take j ring)
  pub from : neg_ℤ (pos (j * 2147483648)) ≤ℤ sum
  pub to : sum ≤ℤ pos (j * 2147483648)

module _ (arrows : List Arrow) (ring : List ℕ) (few : length ring ≤ 256) (j : ℕ) (h : j < length ring) (sum : ℤ) (s : Summed arrows ring j sum) where
  module _ (w : ℤ) (is : (arrow_at arrows (get_or ring j 0)).amount ≡ w) (fits : SFits w32 w) where
    -- the amount at the next place is added
    added : Summed arrows ring (j + 1) (sum +ℤ w)
    added =
        let b = fits_between w32 w fits in
        let here = s.is in
        let from = s.from in
        let to = s.to in
        record {
          is =
              rw (add-one j, take-suc ring j 0 h, total-append _ (take j ring) (get_or ring j 0 ∷ []))
              (omega (lin, plus (arrow_at arrows (get_or ring j 0)).amount (pos 0)));
          from = omega (lin, negs (pos (j * 2147483648)), negs (pos ((j + 1) * 2147483648)));
          to = omega lin;
        }

    -- a sum of at most 256 entries fits 64 bits
    sum_fits : SFits w64 (sum +ℤ w)
    sum_fits =
        let b = fits_between w32 w fits in
        let from = s.from in
        let to = s.to in
        omega (lin, plus sum w, negs (pos (j * 2147483648)))

  -- the amount at the next place, e, is added, read back from machine words
  pub summed_more : (e : ℕ) (w : ℤ) → SFits w32 (arrow_at arrows e).amount → e ≡ get_or ring j 0 → w ≡ to_z w32 (of_z w32 (arrow_at arrows e).amount)
      → Summed arrows ring (j + 1) (to_z w64 (of_z w64 (sum +ℤ to_z w64 (of_z w64 w))))
  summed_more e w fits here read =
      let is = read ∙ to_z-of_z fits in
      let f : SFits w32 w = rw is fits in
      let at : (arrow_at arrows (get_or ring j 0)).amount ≡ w = rw (← here) (sym is) in
      rw (to_z-of_z (widens f), to_z-of_z (sum_fits w at f)) (added w at f)

-- amounts of at most 2 ^ 22 each add up to at most so many times as much
pub total_most : (f : ℕ → ℤ) (l : List ℕ) → All (λ e. f e ≤ℤ pos 4194304) l → total f l ≤ℤ pos (length l * 4194304)
total_most f [] h = omega lin
total_most f (e ∷ l) h =
    let first = h.0 in
    let rest = total_most f l h.1 in
    omega lin
