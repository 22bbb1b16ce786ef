-- Arrows in memory: a list, read by place. They know neither a period nor a kind of rule. Schedules and loops of them are those of a
-- web whose arrows are places.
use Rattle.std.specs.Prelude.{◌≡◌, List, ℕ, ◌<◌, length, get_or, ℤ, pos, neg_ℤ, ◌≤ℤ◌}
use Rattle.loops.specs.declared.Arrow.{Arrow}
use Rattle.loops.specs.Webs.{Web}
use Rattle.loops.specs.Webs as webs

-- the registers are the numbers below `registers`, and register 0 is the host; the arrows are the places below `count`
pub record Arrows : Type 0 where
  pub registers : ℕ
  pub count : ℕ
  pub list : List Arrow

-- all arrows of a list, between so many registers
abbrev pub among : ℕ → List Arrow → Arrows
among registers list = record { registers = registers; count = length list; list = list }

-- the arrow at a place; past the list one that is never read
abbrev pub arrow_at : List Arrow → ℕ → Arrow
arrow_at list e = get_or list e (record { tail = 0; head = 0; amount = pos 0 })

-- the register that arrow e leaves
abbrev pub tail : Arrows → ℕ → ℕ
tail Γ e = (arrow_at Γ.list e).tail

-- the register that arrow e reaches
abbrev pub head : Arrows → ℕ → ℕ
head Γ e = (arrow_at Γ.list e).head

-- by how much the head's time is to lie above the tail's
abbrev pub amount : Arrows → ℕ → ℤ
amount Γ e = (arrow_at Γ.list e).amount

-- there is a host, and every arrow joins two registers
pub record Sound (Γ : Arrows) : Type 0 where
  pub some : 0 < Γ.registers
  pub leaves : (e : ℕ) → e < Γ.count → tail Γ e < Γ.registers
  pub reaches : (e : ℕ) → e < Γ.count → head Γ e < Γ.registers

-- the arrows as a web, an arrow being its place
abbrev pub web : Arrows → Web ℕ
web Γ = record { registers = Γ.registers; Here = λ e. e < Γ.count; leaves = tail Γ; reaches = head Γ; asks = amount Γ }

abbrev pub Schedule : Arrows → (ℕ → ℤ) → Type 0
Schedule Γ = webs.Schedule (web Γ)

abbrev pub Least : Arrows → (ℕ → ℤ) → Type 0
Least Γ = webs.Least (web Γ)

abbrev pub Contradicts : Arrows → List ℕ → Type 0
Contradicts Γ = webs.Contradicts (web Γ)

-- each register but the host has an arrow from the host, which stands at the place that `low` gives
pub record Lows (Γ : Arrows) (low : ℕ → ℕ) : Type 0 where
  pub exists : (v : ℕ) → 0 < v → v < Γ.registers → low v < Γ.count
  pub leaves : (v : ℕ) → 0 < v → v < Γ.registers → tail Γ (low v) ≡ 0
  pub reaches : (v : ℕ) → 0 < v → v < Γ.registers → head Γ (low v) ≡ v

-- an arrow from v back to the host that keeps v at or below H
pub record High (Γ : Arrows) (H v : ℕ) : Type 0 where
  pub place : ℕ
  pub exists : place < Γ.count
  pub leaves : tail Γ place ≡ v
  pub reaches : head Γ place ≡ 0
  pub most : neg_ℤ (pos H) ≤ℤ amount Γ place

-- every register but the host has one, wherever it stands
abbrev pub Highs : Arrows → ℕ → Type 0
Highs Γ H = (v : ℕ) → 0 < v → v < Γ.registers → High Γ H v
