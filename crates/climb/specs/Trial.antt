-- One trial of a period, and the climb from trial to trial.
use Rattle.std.specs.Prelude.{◌≡◌, List, ℕ, ◌≤◌, length, take, ℤ}
use Rattle.paper.specs.Numbers.{Outcome}
use Rattle.paper.specs.Network.{Network}
use Rattle.paper.specs.declared.Rule.{Rule}
use Rattle.loops.specs.declared.Arrow.{Arrow}
use Rattle.loops.specs.Arrows.{among}
use Rattle.loops.specs.Layout.{fixed_places}
use Rattle.network.specs.declared.Header.{Header}
use Rattle.look.specs.Looking.{Resumable}
use Rattle.climb.specs.Known.{Known, Tries}
use Rattle.climb.specs.Solved.{Solved}
use Rattle.paper.specs.Limits.{room_for}

-- a row to go on from, rows and preds of one entry a register, and room for the output
pub record Lent (h : Header) (arrows : List Arrow) (kept_row : List ℤ) (kept_preds : List ℕ) (passed : ℕ) (a b : List ℤ) (preds out : List ℕ) : Type 0 where
  pub resumable : Resumable (among h.registers (take (fixed_places h.registers h.paths) arrows)) kept_row kept_preds passed
  pub here : length a ≡ h.registers
  pub there : length b ≡ h.registers
  pub noted : length preds ≡ h.registers
  pub output : room_for h.registers ≤ length out

module _ (h : Header) (rules : List Rule) (arrows : List Arrow) (bases : List ℤ) where
  -- the network N is held, and the period may be tried
  pub record Trial (period : ℤ) (ring : List ℕ) (N : Network) : Type 0 where
    pub known : Known N h rules arrows bases
    pub tries : Tries N rules period ring

  -- some network is held of which a period has a schedule, and there is memory for the climb
  pub record Climbable (kept_row : List ℤ) (kept_preds : List ℕ) (passed : ℕ) (a b : List ℤ) (preds out : List ℕ) : Type 0 where
    pub network : Network
    pub known : Known network h rules arrows bases
    pub lent : Lent h arrows kept_row kept_preds passed a b preds out

  -- of every network that is held and of which a period has a schedule, the search is solved
  abbrev pub Climbed : List ℕ → List ℕ → Outcome → Type 0
  Climbed before after o = (N : Network) → Known N h rules arrows bases → Solved N before o after
