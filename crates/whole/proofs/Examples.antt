-- Examples of what `lin` closes, in the shapes that later proofs have. Rests on `Lin.antt`.
use mathlib.Core.Path.{◌≡◌}
use Prim.Native.Nat.{ℕ}
use mathlib.Core.List.{List, [], ◌∷◌}
use lib.IntN.{ℤ, pos, negsuc, ◌+ℤ◌, ◌-ℤ◌}
use lib.Signed.{lt_z, ◌≤ℤ◌, ◌<ℤ◌}
use mir.Syntax.{w32}
use mir.Val.{SFits, to_z, of_z}
use mathlib.Core.Bool.{false}
use Rattle.whole.proofs.Lin.{lin, plus, minus, negs}

-- transitivity with a sum
along : (a b c w v : ℤ) → (a +ℤ w) ≤ℤ b → (b +ℤ v) ≤ℤ c → (a +ℤ (w +ℤ v)) ≤ℤ c
along a b c w v p q = omega (lin, plus w v)

antisym : (a b : ℤ) → a ≤ℤ b → b ≤ℤ a → a ≡ b
antisym a b p q = omega lin

clash : (a b : ℤ) → a ≤ℤ b → b <ℤ a → ⊥
clash a b p q = omega lin

bound : (a : ℤ) → a ≤ℤ pos 1000000 → (a +ℤ pos 5) ≤ℤ pos 1000005
bound a p = omega lin

same : (a b c : ℤ) → (a +ℤ b) +ℤ c ≡ a +ℤ (b +ℤ c)
same a b c = omega (lin, plus a b, plus b c)

fits : (a b : ℤ) → a ≤ℤ pos 1000000 → negsuc 999999 ≤ℤ a → b ≤ℤ pos 1000000 → negsuc 999999 ≤ℤ b → SFits w32 (a +ℤ b)
fits a b h k p q = omega (lin, plus a b)

read : (a b : ℤ) → SFits w32 a → SFits w32 b → to_z w32 (of_z w32 a) ≤ℤ to_z w32 (of_z w32 b) → a ≤ℤ b
read a b h k p = omega lin

test : (a b : ℤ) → SFits w32 a → SFits w32 b → lt_z (to_z w32 (of_z w32 a)) (to_z w32 (of_z w32 b)) ≡ false → b ≤ℤ a
test a b h k p = omega lin

diff : (a b c : ℤ) → (a -ℤ b) ≤ℤ c → a ≤ℤ (b +ℤ c)
diff a b c p = omega (lin, negs b)

-- a telescoping sum along a list: the differences from each member to the next add up to the difference of the two ends
abbrev rises : (ℕ → ℤ) → ℕ → List ℕ → ℤ
rises x u [] = pos 0
rises x u (v ∷ l) = (x v -ℤ x u) +ℤ rises x v l

abbrev last : ℕ → List ℕ → ℕ
last u [] = u
last u (v ∷ l) = last v l

telescope : (x : ℕ → ℤ) (u : ℕ) (l : List ℕ) → x u +ℤ rises x u l ≡ x (last u l)
telescope x u [] = omega lin
telescope x u (v ∷ l) =
    let ih = telescope x v l in
    omega (lin, plus (x v -ℤ x u) (rises x v l), minus (x v) (x u))
