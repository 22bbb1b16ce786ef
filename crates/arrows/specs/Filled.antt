-- The caller's lists once they are filled: which rule stands at each place, its arrow's ends and its amount, and what the period adds.
use Rattle.std.specs.Prelude.{◌≡◌, List, ℕ, ◌+◌, ◌≤◌, ◌<◌, length, get_or, ℤ, pos, ◌-ℤ◌}
use Rattle.std.specs.Int.{w32}
use Rattle.std.proofs.Common.{SFits}
use Rattle.paper.specs.Network.{Network}
use Rattle.paper.specs.declared.Rule.{Rule}
use Rattle.paper.specs.declared.Rule.TheVariants.{Setup, Low}
use Rattle.paper.specs.Rules.{tail, head, base}
use Rattle.loops.specs.Family.{Enumerates, fixed_graph}
use Rattle.loops.specs.declared.Arrow.{Arrow}
use Rattle.loops.specs.Arrows.{arrow_at}
use Rattle.loops.specs.RuleFamily as family
use Rattle.loops.specs.Names.{named}
use Rattle.loops.specs.Layout.{low_place, all_places, fixed_rule_count, rule_count}

-- the lists are long enough for every rule
pub record Room (N : Network) (rules : List Rule) (arrows : List Arrow) (bases : List ℤ) : Type 0 where
  pub in_rules : rule_count N ≤ length rules
  pub in_arrows : rule_count N ≤ length arrows
  pub in_bases : N.paths ≤ length bases

-- Every rule has a place, and those that do not know the period have theirs before all others. Each place has its rule's ends, and before
-- the setup rules its amount; of a setup rule what its amount is without the period is kept. The setup rules stand in the order of their
-- paths, and the low rule of register v at `low_place v`.
pub record Filled (N : Network) (rules : List Rule) (arrows : List Arrow) (bases : List ℤ) : Type 0 where
  pub room : Room N rules arrows bases
  pub enumerates : Enumerates (family.graph_of N) (named rules) (rule_count N)
  pub fixed_enumerates : Enumerates (fixed_graph (family.rules N)) (named rules) (fixed_rule_count N)
  pub leaves : (e : ℕ) → e < rule_count N → (arrow_at arrows e).tail ≡ tail N (named rules e)
  pub reaches : (e : ℕ) → e < rule_count N → (arrow_at arrows e).head ≡ head N (named rules e)
  pub fixed : (e : ℕ) → e < fixed_rule_count N → (arrow_at arrows e).amount ≡ base N (named rules e)
  pub setups : (p : ℕ) → p < N.paths → named rules (fixed_rule_count N + p) ≡ Setup p
  pub based : (p : ℕ) → p < N.paths → get_or bases p (pos 0) ≡ base N (Setup p)
  pub lows : (v : ℕ) → 0 < v → v < N.registers → named rules (low_place v) ≡ Low v

-- ---- the setup rules' amounts at a period

-- the lists are long enough, and no difference leaves its width
pub record Weighable (n m : ℕ) (period : ℤ) (arrows : List Arrow) (bases : List ℤ) : Type 0 where
  pub in_arrows : all_places n m ≤ length arrows
  pub in_bases : m ≤ length bases
  pub fits : (p : ℕ) → p < m → SFits w32 (get_or bases p (pos 0) -ℤ period)

-- The m places from `fixed` on have their amounts at the period, of which the first k are written so far; every other place is as it was, and no
-- arrow has other ends.
pub record WeighedBelow (fixed m : ℕ) (period : ℤ) (bases : List ℤ) (before after : List Arrow) (k : ℕ) : Type 0 where
  pub long : length after ≡ length before
  pub same : (e : ℕ) → e < fixed → arrow_at after e ≡ arrow_at before e
  pub rest : (e : ℕ) → fixed + m ≤ e → arrow_at after e ≡ arrow_at before e
  pub tails : (e : ℕ) → (arrow_at after e).tail ≡ (arrow_at before e).tail
  pub heads : (e : ℕ) → (arrow_at after e).head ≡ (arrow_at before e).head
  pub new : (p : ℕ) → p < k → (arrow_at after (fixed + p)).amount ≡ get_or bases p (pos 0) -ℤ period

abbrev pub Weighed : ℕ → ℕ → ℤ → List ℤ → List Arrow → List Arrow → Type 0
Weighed fixed m period bases before after = WeighedBelow fixed m period bases before after m
