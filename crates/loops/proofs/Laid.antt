-- A graph in memory: where each place holds an arrow of the graph and each arrow of the graph has a place, the schedules of the arrows in
-- memory are those of the graph, and their loops are loops of the graph. Rests on `Webs`.
use mathlib.Core.Path.{◌≡◌, refl, subst, ap}
use mathlib.Core.Logic.{◌↔◌}
use mathlib.Core.List.{List, map}
use Prim.Native.Nat.{ℕ, ◌<◌}
use native.Mathlib.Omega.{arith}
use lib.IntN.{ℤ, ◌+ℤ◌}
use lib.Signed.{◌≤ℤ◌}
use Rattle.whole.proofs.Lin.{lin}
use Rattle.paper.specs.Chains.{Listed}
use Rattle.loops.specs.Arrows.{Arrows, arrow_at, web, tail, head}
use Rattle.loops.specs.Webs.{Schedule, Least, Contradicts, Within}
use Rattle.loops.specs.Family.{Graph, Enumerates, Lays, web_of}
use Rattle.loops.specs.Model.{table}
use Rattle.loops.proofs.Table.{table_at}
use Rattle.loops.proofs.Webs.{within_schedule, within_contradicts, within_listed}

-- a graph's arrows written out place by place, with the amounts that w gives them
abbrev pub arrows_of : {E : Type 0} → Graph E → (ℕ → E) → ℕ → (E → ℤ) → Arrows
arrows_of G name count w =
    record {
      registers = G.registers;
      count = count;
      list = table (λ e. record { tail = G.leaves (name e); head = G.reaches (name e); amount = w (name e) }) 0 count;
    }

pub arrows_of_lays : {E : Type 0} (G : Graph E) (name : ℕ → E) (count : ℕ) (w : E → ℤ) → Lays G name w (arrows_of G name count w)
arrows_of_lays G name count w = record {
  registers = refl;
  tails = λ e h. ap (λ a. a.tail) (stands e h);
  heads = λ e h. ap (λ a. a.head) (stands e h);
  amounts = λ e h. ap (λ a. a.amount) (stands e h);
}
  where
    stands : (e : ℕ) → e < count → arrow_at (arrows_of G name count w).list e ≡ record { tail = G.leaves (name e); head = G.reaches (name e); amount = w (name e) }
    stands e h = table_at (λ e. record { tail = G.leaves (name e); head = G.reaches (name e); amount = w (name e) }) count e _ h

module _ {E : Type 0} (G : Graph E) (name : ℕ → E) (w : E → ℤ) (Γ : Arrows) (names : Enumerates G name Γ.count) (y : Lays G name w Γ) where
  laid_within : Within (web Γ) (web_of G w) name
  laid_within = record {
    here = names.here;
    tails = y.tails;
    heads = y.heads;
    asked = λ e h. let a = y.amounts e h in omega lin;
  }

  -- every arrow of the graph stands somewhere, so what meets all places meets it
  pub laid_schedule : (x : ℕ → ℤ) → Schedule (web Γ) x ↔ Schedule (web_of G w) x
  laid_schedule x = (λ s. record { host = s.host; meets = λ r h. meets s r h (names.found r h) }, within_schedule (web Γ) (web_of G w) name laid_within x)
    where
      meets : Schedule (web Γ) x → (r : E) → G.Here r → (e : ℕ) × (e < Γ.count) × (name e ≡ r) → (x (G.leaves r) +ℤ w r) ≤ℤ x (G.reaches r)
      meets s r h (e, b, is) =
          subst (λ q. (x (G.leaves q) +ℤ w q) ≤ℤ x (G.reaches q)) is (rw (y.tails e b, y.heads e b, y.amounts e b) at (s.meets e b))

  -- and the least one is the same
  pub laid_least : (x : ℕ → ℤ) → Least (web Γ) x → Least (web_of G w) x
  laid_least x s = record {
    schedule = (laid_schedule x).0 s.schedule;
    least = λ z t v b. s.least z ((laid_schedule z).1 t) v (omega (arith, y.registers));
  }

  pub laid_contradicts : (l : List ℕ) → Contradicts (web Γ) l → Contradicts (web_of G w) (map name l)
  laid_contradicts = within_contradicts (web Γ) (web_of G w) name laid_within

  pub laid_listed : (l : List ℕ) → Contradicts (web Γ) l → Listed (tail Γ) (head Γ) l → Listed G.leaves G.reaches (map name l)
  laid_listed l c = within_listed (web Γ) (web_of G w) name laid_within l c.exist
