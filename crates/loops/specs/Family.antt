-- A family of arrows: the same arrows at every period P, with amounts that may depend on P. The paper's rules are one.
use Rattle.std.specs.Prelude.{◌≡◌, ◌⊎◌, List, [], ◌∷◌, ℕ, ◌-◌, ◌≤◌, ◌<◌, ℤ, ◌≤ℤ◌}
use Rattle.paper.specs.Chains.{All, Listed}
use Rattle.loops.specs.Arrows.{Arrows, tail, head, amount}
use Rattle.loops.specs.Webs.{Web, Schedule, Scheduled, Contradicts}

-- a web without its amounts
pub record Graph (E : Type 0) : Type 1 where
  pub registers : ℕ
  pub Here : E → Type 0
  pub leaves : E → ℕ
  pub reaches : E → ℕ

abbrev pub web_of : {E : Type 0} → Graph E → (E → ℤ) → Web E
web_of G w = record { registers = G.registers; Here = G.Here; leaves = G.leaves; reaches = G.reaches; asks = w }

pub record Family (E : Type 0) : Type 1 where
  pub graph : Graph E
  -- the arrows that do not know the period
  pub Fixed : E → Type 0
  -- what an arrow asks at a period
  pub weigh : ℕ → E → ℤ

-- all that is asked of a family's amounts
pub record Lawful {E : Type 0} (F : Family E) : Type 0 where
  -- no amount rises with the period
  pub falls : (P Q : ℕ) → P ≤ Q → (e : E) → F.weigh Q e ≤ℤ F.weigh P e
  -- that of a fixed arrow stays
  pub stays : (P Q : ℕ) (e : E) → F.Fixed e → F.weigh P e ≡ F.weigh Q e
  -- that of any other falls below every bound
  pub sinks : (e : E) → F.graph.Here e → F.Fixed e ⊎ ((b : ℤ) → (P : ℕ) × (F.weigh P e ≤ℤ b))

-- ---- a graph in memory

-- at the places below `count` stand arrows of the graph, each by its name, and every arrow of the graph stands at one of them
pub record Enumerates {E : Type 0} (G : Graph E) (name : ℕ → E) (count : ℕ) : Type 0 where
  pub here : (e : ℕ) → e < count → G.Here (name e)
  pub found : (r : E) → G.Here r → (e : ℕ) × (e < count) × (name e ≡ r)

-- the arrows in memory have the ends of the arrows that they are named after, and the amounts that w gives those
pub record Lays {E : Type 0} (G : Graph E) (name : ℕ → E) (w : E → ℤ) (Γ : Arrows) : Type 0 where
  pub registers : Γ.registers ≡ G.registers
  pub tails : (e : ℕ) → e < Γ.count → tail Γ e ≡ G.leaves (name e)
  pub heads : (e : ℕ) → e < Γ.count → head Γ e ≡ G.reaches (name e)
  pub amounts : (e : ℕ) → e < Γ.count → amount Γ e ≡ w (name e)

-- there is a host, every arrow joins two registers, and every register but the host has an arrow from the host and one back
pub record Framed {E : Type 0} (G : Graph E) : Type 0 where
  pub some : 0 < G.registers
  pub leaves_below : (e : E) → G.Here e → G.leaves e < G.registers
  pub reaches_below : (e : E) → G.Here e → G.reaches e < G.registers
  pub low : ℕ → E
  pub low_here : (v : ℕ) → 0 < v → v < G.registers → G.Here (low v)
  pub low_leaves : (v : ℕ) → 0 < v → v < G.registers → G.leaves (low v) ≡ 0
  pub low_reaches : (v : ℕ) → 0 < v → v < G.registers → G.reaches (low v) ≡ v
  pub high : ℕ → E
  pub high_here : (v : ℕ) → 0 < v → v < G.registers → G.Here (high v)
  pub high_leaves : (v : ℕ) → 0 < v → v < G.registers → G.leaves (high v) ≡ v
  pub high_reaches : (v : ℕ) → 0 < v → v < G.registers → G.reaches (high v) ≡ 0

module _ {E : Type 0} (F : Family E) where
  -- the arrows at a period
  abbrev pub web_at : ℕ → Web E
  web_at P = web_of F.graph (F.weigh P)

  -- the fixed arrows alone
  abbrev pub fixed_graph : Graph E
  fixed_graph = record {
    registers = F.graph.registers;
    Here = λ e. F.graph.Here e × F.Fixed e;
    leaves = F.graph.leaves;
    reaches = F.graph.reaches;
  }

  -- all arrows and the fixed ones alone are framed and have places; the two layouts need not know each other
  pub record LaidOut : Type 0 where
    pub framed : Framed F.graph
    pub fixed_framed : Framed fixed_graph
    pub name : ℕ → E
    pub count : ℕ
    pub enumerates : Enumerates F.graph name count
    pub fixed_name : ℕ → E
    pub fixed_count : ℕ
    pub fixed_enumerates : Enumerates fixed_graph fixed_name fixed_count

  -- ---- what a search for the smallest period may come to

  -- a loop that contradicts itself at P, listed from its lowest register
  pub record Refutes (P : ℕ) (l : List E) : Type 0 where
    pub contradicts : Contradicts (web_at P) l
    pub listed : Listed F.graph.leaves F.graph.reaches l

  -- a loop of fixed arrows that contradicts itself at every period
  pub record Always (l : List E) : Type 0 where
    pub fixed : All F.Fixed l
    pub refutes : (P : ℕ) → Refutes P l

  -- no period has a schedule
  abbrev pub Never : Type 0
  Never = (P : ℕ) → Scheduled (web_at P) → ⊥

  -- no period up to the ceiling has one
  abbrev pub NoneTo : ℕ → Type 0
  NoneTo ceiling = (P : ℕ) → P ≤ ceiling → Scheduled (web_at P) → ⊥

  -- the smallest period from floor to ceiling that has a schedule, with the smallest time of every register
  pub record Best (floor ceiling P : ℕ) (x : ℕ → ℤ) : Type 0 where
    pub from_floor : floor ≤ P
    pub to_ceiling : P ≤ ceiling
    pub schedule : Schedule (web_at P) x
    pub smallest : (Q : ℕ) → floor ≤ Q → Q < P → (y : ℕ → ℤ) → Schedule (web_at Q) y → ⊥
    pub least : (y : ℕ → ℤ) → Schedule (web_at P) y → (v : ℕ) → v < F.graph.registers → x v ≤ℤ y v

  -- why no smaller period from the floor on has a schedule: there is none smaller, or a loop contradicts itself at the period before
  abbrev pub ShownFrom : ℕ → ℕ → List E → Type 0
  ShownFrom floor P [] = P ≡ floor
  ShownFrom floor P (e ∷ l) = (floor < P) × Refutes (P - 1) (e ∷ l)
