-- Where the rules stand in memory: the low rules, the high rules, the hold rules, and last the setup rules. So the rules that do not know
-- the period are a prefix, and only what follows it is filled again for another period. The crate `places` has these functions in code.
use Rattle.std.specs.Prelude.{cond, ℕ, ◌+◌, ◌-◌, ◌*◌, ◌<◌, ltb}
use Rattle.paper.specs.Network.{Network}
use Rattle.paper.specs.declared.Rule.{Rule}
use Rattle.paper.specs.declared.Rule.TheVariants.{Setup, Hold, Low, High}

-- the low rule of register i, from 1 up
abbrev pub low_place : ℕ → ℕ
low_place i = i - 1

-- of n registers and m paths: how many rules do not know the period, and how many there are
abbrev pub fixed_places : ℕ → ℕ → ℕ
fixed_places n m = 2 * (n - 1) + m

abbrev pub all_places : ℕ → ℕ → ℕ
all_places n m = 2 * (n - 1) + 2 * m

-- the high rule of register i, from 1 up; the hold rule and the setup rule of path p
abbrev pub high_place : ℕ → ℕ → ℕ
high_place n i = (n - 1) + (i - 1)

abbrev pub hold_place : ℕ → ℕ → ℕ
hold_place n p = 2 * (n - 1) + p

abbrev pub setup_place : ℕ → ℕ → ℕ → ℕ
setup_place n m p = fixed_places n m + p

module _ (N : Network) where
  -- how many registers have a window: all but the host
  abbrev pub windows : ℕ
  windows = N.registers - 1

  abbrev pub fixed_rule_count : ℕ
  fixed_rule_count = fixed_places N.registers N.paths

  abbrev pub rule_count : ℕ
  rule_count = all_places N.registers N.paths

  -- the rule at place e
  unfoldable pub rule_at : ℕ → Rule
  rule_at e =
      cond (ltb e windows) (Low (e + 1))
      (cond (ltb e (2 * windows)) (High (e - windows + 1))
      (cond (ltb e fixed_rule_count) (Hold (e - 2 * windows)) (Setup (e - fixed_rule_count))))

  -- the place of a rule
  abbrev pub place_of : Rule → ℕ
  place_of (Setup p) = setup_place N.registers N.paths p
  place_of (Hold p) = hold_place N.registers p
  place_of (Low i) = low_place i
  place_of (High i) = high_place N.registers i

-- there is a host, and every path joins two registers
pub record Joined (N : Network) : Type 0 where
  pub some : 0 < N.registers
  pub from : (p : ℕ) → p < N.paths → N.from p < N.registers
  pub to : (p : ℕ) → p < N.paths → N.to p < N.registers
