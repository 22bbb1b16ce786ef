-- What is read from an accepted file is small. Rests on the ranges of `network`.
use Prim.Native.Nat.{ℕ}
use lib.IntN.{ℤ, pos, negsuc, ◌-ℤ◌}
use lib.Signed.{◌≤ℤ◌}
use mir.Syntax.{w32}
use mir.Val.{SFits}
use Rattle.whole.proofs.Lin.{lin, minus}
use Rattle.paper.proofs.Legal.{Between}
use Rattle.network.specs.declared.Register.{Register}
use Rattle.network.specs.declared.Path.{Path}
use Rattle.network.proofs.Ranges.{RegisterRanges, PathRanges}
use Rattle.rules.specs.Amounts.{Small, SmallRegister, SmallEnds}

-- what lies in a range that is small
pub small_between : {a b z : ℤ} → negsuc 16777215 ≤ℤ a → b ≤ℤ pos 16777216 → Between a b z → Small z
small_between l m h = omega lin

-- the difference of two small numbers fits
pub small_less : {a b : ℤ} → Small a → Small b → SFits w32 (a -ℤ b)
small_less s t = omega (lin, minus)

-- a register that was read is small
pub small_register : {r : Register} → RegisterRanges r → SmallRegister r
small_register p = omega lin

-- so are a path and the register that it leads to
pub small_ends : {n : ℕ} {road : Path} {receiver : Register} → PathRanges n road → RegisterRanges receiver → SmallEnds road receiver
small_ends p r = omega lin
