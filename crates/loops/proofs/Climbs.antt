-- The climb over the periods of a family: where it may begin, and each way that a trial ends. Rests on `Laid` and `Families`.
use mathlib.Core.Path.{◌≡◌, refl}
use mathlib.Core.List.{List, [], ◌∷◌, map}
use Prim.Native.Nat.{ℕ, ◌-◌, ◌≤◌, ◌<◌}
use native.Mathlib.Omega.{arith}
use lib.ListN.{length}
use lib.IntN.{ℤ}
use Rattle.paper.specs.Chains.{All, Listed}
use Rattle.loops.specs.Arrows.{Arrows, Least, Contradicts, tail, head}
use Rattle.loops.specs.Webs.{Scheduled}
use Rattle.loops.specs.Family.{Family, Lawful, Enumerates, Lays, web_at, Refutes, Best, ShownFrom}
use Rattle.loops.specs.Climbing.{Raises, Climbing}
use Rattle.loops.proofs.Laid.{laid_least, laid_contradicts, laid_listed}
use Rattle.loops.proofs.Families.{climb_ends, refutes_sooner, always, always_never}

module _ {E : Type 0} (F : Family E) (law : Lawful F) where
  -- a loop that raises the period contradicts itself at every period below the next
  pub raised_refutes : (P Q R : ℕ) (l : List E) → Refutes F P l → Raises F P l Q → R < Q → Refutes F R l
  raised_refutes P Q R l r up below =
      refutes_sooner F law R (Q - 1) (omega arith) l
      (record { contradicts = record { loop = r.contradicts.loop; exist = r.contradicts.exist; above = up.over }; listed = r.listed })

  -- a loop has an arrow
  shows_loop : (floor Q : ℕ) (l : List E) → floor < Q → Refutes F (Q - 1) l → ShownFrom F floor Q l
  shows_loop floor Q [] h r = absurd r.contradicts.loop
  shows_loop floor Q (e ∷ l) h r = (h, r)

  module _ (name : ℕ → E) (count floor ceiling : ℕ) where
    pub climbing_floor : floor ≤ ceiling → Climbing F name count floor ceiling floor []
    climbing_floor h = record { from_floor = omega arith; to_ceiling = h; shown = refl; short = omega arith; exist = tt }

    -- any period above the floor may be tried at which just below a loop contradicts itself
    pub climbing_at : (Q : ℕ) (ring : List ℕ) → floor < Q → Q ≤ ceiling → length ring ≤ F.graph.registers → All (λ e. e < count) ring
        → Refutes F (Q - 1) (map name ring) → Climbing F name count floor ceiling Q ring
    climbing_at Q ring low to short exist r =
        record { from_floor = omega arith; to_ceiling = to; shown = shows_loop floor Q (map name ring) low r; short = short; exist = exist }

    module _ (P : ℕ) (Γ : Arrows) (whole : Γ.count ≡ count) (names : Enumerates F.graph name count) (lays : Lays F.graph name (F.weigh P) Γ) where
      placed : Enumerates F.graph name Γ.count
      placed = rw whole names

      -- the row rests: it is the answer
      pub climbing_answers : (ring : List ℕ) → Climbing F name count floor ceiling P ring → (x : ℕ → ℤ) → Least Γ x → Best F floor ceiling P x
      climbing_answers ring c x r =
          climb_ends F law floor ceiling P x (map name ring) c.from_floor c.to_ceiling (laid_least F.graph name (F.weigh P) Γ placed lays x r) c.shown

      -- a loop is found: it contradicts itself at P
      pub trial_refutes : (l : List ℕ) → Contradicts Γ l → Listed (tail Γ) (head Γ) l → Refutes F P (map name l)
      trial_refutes l c s = record {
        contradicts = laid_contradicts F.graph name (F.weigh P) Γ placed lays l c;
        listed = laid_listed F.graph name (F.weigh P) Γ placed lays l c s;
      }

  -- Some period has a schedule, so a loop of fixed arrows cannot contradict itself: not all arrows of a loop that does are fixed.
  pub refutes_unfixed : (Q : ℕ) × Scheduled (web_at F Q) → (P : ℕ) (l : List E) → Refutes F P l → All F.Fixed l → ⊥
  refutes_unfixed (Q, s) P l r fixed = always_never F law l (always F law P l r fixed) Q s
