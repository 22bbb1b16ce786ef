-- Where the climb begins: at the floor, or where a guessed loop leads.
use Rattle.std.specs.Prelude.{◌≡◌, ◌⊎◌, List, [], ℕ, ◌<◌, length, ℤ, ◌≤ℤ◌, ◌<ℤ◌}
use Rattle.paper.specs.Network.{Network}
use Rattle.loops.specs.Layout.{fixed_places}
use Rattle.network.specs.declared.Header.{Header}
use Rattle.paper.specs.declared.Rule.{Rule}
use Rattle.loops.specs.declared.Arrow.{Arrow}
use Rattle.arrows.specs.Filled.{Weighed}
use Rattle.needs.specs.Raising.{Raised}
use Rattle.climb.specs.Known.{Known, Tries}

module _ (h : Header) (rules : List Rule) (arrows : List Arrow) where
  -- some network is held, and there is room for preds
  pub record Beginnings (bases : List ℤ) (preds : List ℕ) : Type 0 where
    pub network : Network
    pub known : Known network h rules arrows bases
    pub noted : length preds ≡ h.registers

  -- the amounts are those at the floor, and of every network that is held the climb may begin at the period
  pub record Begun (arrows' : List Arrow) (bases : List ℤ) (ring : List ℕ) (period : ℤ) : Type 0 where
    pub weighed : Weighed (fixed_places h.registers h.paths) h.paths h.floor bases arrows arrows'
    pub tries : (N : Network) → Known N h rules arrows bases → Tries N rules period ring

module _ (arrows : List Arrow) (rules : List Rule) (loop : List ℕ) (floor ceiling : ℤ) where
  -- the loop asks for the period `next`, and the ceiling lies above the floor: the lower of next and ceiling, with the loop
  pub record LeadsOn (period : ℤ) (ring : List ℕ) : Type 0 where
    pub next : ℤ
    pub some : 0 < length loop
    pub apart : floor <ℤ ceiling
    pub raised : Raised arrows rules floor loop next
    pub lower : ((next ≤ℤ ceiling) × (period ≡ next)) ⊎ ((ceiling <ℤ next) × (period ≡ ceiling))
    pub kept : ring ≡ loop

  -- the floor, with no loop; or where the loop leads
  abbrev pub Led : ℤ → List ℕ → Type 0
  Led period ring = ((period ≡ floor) × (ring ≡ [])) ⊎ LeadsOn period ring
