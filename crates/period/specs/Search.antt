-- The search over rules that are lent: the look for refusal 8, then the climb.
use Rattle.std.specs.Prelude.{List, ℕ, ◌≤◌, length, ℤ}
use Rattle.paper.specs.Numbers.{Outcome}
use Rattle.paper.specs.Network.{Network}
use Rattle.paper.specs.declared.Rule.{Rule}
use Rattle.loops.specs.declared.Arrow.{Arrow}
use Rattle.network.specs.declared.Header.{Header}
use Rattle.climb.specs.Known.{Held}
use Rattle.climb.specs.Solved.{Solved}
use Rattle.paper.specs.Limits.{room_for}

module _ (h : Header) (rules : List Rule) (arrows : List Arrow) (bases : List ℤ) where
  -- the rules of some network are held, and there is room for the output
  pub record Searchable (out : List ℕ) : Type 0 where
    pub network : Network
    pub held : Held network h rules arrows bases
    pub output : room_for h.registers ≤ length out

  -- of every network that is held, the search is solved
  abbrev pub Searched : List ℕ → List ℕ → Outcome → Type 0
  Searched before after o = (N : Network) → Held N h rules arrows bases → Solved N before o after
