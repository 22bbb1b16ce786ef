-- What the climb knows of the network whose rules it is lent. The file is not lent: the contracts speak of every network that the lists hold.
use Rattle.std.specs.Prelude.{◌≡◌, List, ℕ, ℤ, pos}
use Rattle.paper.specs.Network.{Network}
use Rattle.paper.specs.File.{natural}
use Rattle.paper.specs.Legal.{Legal}
use Rattle.loops.specs.Webs.{Scheduled}
use Rattle.loops.specs.Family.{web_at}
use Rattle.loops.specs.Climbing.{Climbing}
use Rattle.loops.specs.RuleFamily as family
use Rattle.paper.specs.declared.Rule.{Rule}
use Rattle.loops.specs.declared.Arrow.{Arrow}
use Rattle.loops.specs.Names.{named}
use Rattle.loops.specs.Layout.{rule_count}
use Rattle.network.specs.declared.Header.{Header}
use Rattle.network.specs.Records.{IsHeader}
use Rattle.arrows.specs.Filled.{Filled}

module _ (N : Network) (h : Header) (rules : List Rule) where
  -- the lists hold the rules of N, whose fields lie in their ranges
  pub record Held (arrows : List Arrow) (bases : List ℤ) : Type 0 where
    pub legal : Legal N
    pub header : IsHeader N h
    pub filled : Filled N rules arrows bases

  -- and some period has a schedule
  pub record Known (arrows : List Arrow) (bases : List ℤ) : Type 0 where
    pub held : Held arrows bases
    pub some : (Q : ℕ) × Scheduled (web_at (family.rules N) Q)

-- the number in hand is a period of N that may be tried, and the places of `ring` are a loop that shows why no smaller one has a schedule
pub record Tries (N : Network) (rules : List Rule) (period : ℤ) (ring : List ℕ) : Type 0 where
  pub is : period ≡ pos (natural period)
  pub climbing : Climbing (family.rules N) (named rules) (rule_count N) N.floor N.ceiling (natural period) ring
