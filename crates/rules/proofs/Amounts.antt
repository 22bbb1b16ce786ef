-- The amounts of an accepted network's rules, without a period and at one: in which range they lie. Rests on `Legal` of
-- `paper`.
use Prim.Native.Nat.{ℕ, ◌≤◌}
use lib.IntN.{ℤ, pos, negsuc, ◌-ℤ◌}
use Rattle.whole.proofs.Lin.{lin, plus, negs}
use Rattle.paper.specs.Network.{Network}
use Rattle.paper.specs.declared.Rule.{Rule}
use Rattle.paper.specs.declared.Rule.TheVariants.{Setup, Hold, Low, High}
use Rattle.paper.specs.Rules.{Exists, base, amount}
use Rattle.paper.proofs.Legal.{Between, Legal}
use Rattle.paper.proofs.ChargeLaws.{charged_between}
use Rattle.rules.specs.Amounts.{Small}
use Rattle.rules.proofs.Ranges.{small_between}

wider : {z : ℤ} → Between (negsuc 1099999) (pos 1110000) z → Between (negsuc 16777215) (pos 4194304) z
wider b = omega lin

less_modest : (z : ℤ) (P : ℕ) → Between (negsuc 1099999) (pos 1110000) z → P ≤ 10000000 → Between (negsuc 16777215) (pos 4194304) (z -ℤ pos P)
less_modest z P b q = omega (lin, negs (pos P))

module _ {N : Network} (legal : Legal N) where
  -- a rule without the period
  base_between : (r : Rule) → Exists N r → Between (negsuc 1099999) (pos 1110000) (base N r)
  base_between (Setup p) h =
      let s = legal.setup (N.to p) (legal.to p h) in
      let u = legal.uncertainty p h in
      let d = legal.dmin p h in
      let e = legal.dmax p h in
      omega (lin, plus)
  base_between (Hold p) h =
      let s = legal.hold (N.to p) (legal.to p h) in
      let u = charged_between legal p h in
      let d = legal.dmin p h in
      let e = legal.dmax p h in
      omega (lin, plus, negs (N.dmin p))
  base_between (Low i) h = let l = legal.low i h.1 in omega lin
  base_between (High i) h =
      let l = legal.low i h.1 in
      let k = legal.high i h.1 in
      omega (lin, negs (N.high i))

  -- every rule at a period up to the greatest that the paper allows: from -2 ^ 24 to 2 ^ 22
  pub amount_modest : (P : ℕ) (r : Rule) → P ≤ 10000000 → Exists N r → Between (negsuc 16777215) (pos 4194304) (amount N P r)
  amount_modest P (Setup p) q h = less_modest (base N (Setup p)) P (base_between (Setup p) h) q
  amount_modest P (Hold p) q h = wider (base_between (Hold p) h)
  amount_modest P (Low i) q h = wider (base_between (Low i) h)
  amount_modest P (High i) q h = wider (base_between (High i) h)

  -- so all are small
  pub base_small : (r : Rule) → Exists N r → Small (base N r)
  base_small r h = small_between (omega lin) (omega lin) (base_between r h)

  -- at a period too
  pub amount_small : (P : ℕ) (r : Rule) → P ≤ 10000000 → Exists N r → Small (amount N P r)
  amount_small P r q h = small_between (omega lin) (omega lin) (amount_modest P r q h)
