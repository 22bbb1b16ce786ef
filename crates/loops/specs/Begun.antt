-- Arrows of which the first are known already: a row that meets them, and arrows that they begin with.
use Rattle.std.specs.Prelude.{◌≡◌, ℕ, ◌≤◌, ◌<◌, ℤ, ◌+ℤ◌, ◌≤ℤ◌}
use Rattle.loops.specs.Arrows.{Arrows, tail, head, amount}

-- every arrow below `from` is met by x
abbrev pub MetBelow : Arrows → (ℕ → ℤ) → ℕ → Type 0
MetBelow Γ x from = (e : ℕ) → e < from → (x (tail Γ e) +ℤ amount Γ e) ≤ℤ x (head Γ e)

-- the first arrows of Γ are those of Δ, between the same registers
pub record Extends (Γ Δ : Arrows) : Type 0 where
  pub registers : Γ.registers ≡ Δ.registers
  pub fewer : Δ.count ≤ Γ.count
  pub tails : (e : ℕ) → e < Δ.count → tail Γ e ≡ tail Δ e
  pub heads : (e : ℕ) → e < Δ.count → head Γ e ≡ head Δ e
  pub amounts : (e : ℕ) → e < Δ.count → amount Γ e ≡ amount Δ e
