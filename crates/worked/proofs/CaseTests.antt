-- A row of the worked networks meets the definitions where a test passes that computes. Rests on the laws of rules, loops and tables, and on
-- `Tests`.
use mathlib.Core.Path.{◌≡◌, refl}
use mathlib.Core.Logic.{inl, inr}
use mathlib.Core.List.{List, [], ◌∷◌}
use mathlib.Core.Bool.{Bool, true}
use Prim.Native.Nat.{ℕ, zero, suc, pred, ◌+◌, ◌-◌, ◌*◌, ◌≤◌, ◌<◌}
use native.Mathlib.Omega.{arith}
use lib.IntN.{ℤ, pos}
use lib.Signed.{◌≤ℤ◌}
use lib.ListN.{length, get_or}
use lib.Dec.{leb}
use borrow.Author.Tests.{le-leb}
use Rattle.whole.specs.Sums.{total}
use Rattle.whole.proofs.Lin.{lin}
use Rattle.paper.specs.Network.{Network}
use Rattle.paper.specs.declared.Rule.{Rule}
use Rattle.paper.specs.declared.Rule.TheVariants.{Setup, Hold, Low, High}
use Rattle.paper.specs.Rules.{Exists, Holds, tail, head, amount, slack}
use Rattle.paper.specs.Chains.{All, Chain, Once, Loop, Listed}
use Rattle.paper.specs.Schedule.{Schedule, Contradicts, setups, Answer, Refutes, Shown}
use Rattle.paper.specs.File.{headed, counted, sized, ranged, registers, paths, register_ok, path_ok, network_of}
use Rattle.paper.specs.Table.{Fails, Lowest, Given}
use Rattle.paper.specs.Refusals.{faults, refusals, schedule_rows, Accepted}
use Rattle.worked.specs.Cases.{Expected, answered, refused_8, refused_9, Case, Comes, number_of, Worked, file_of}
use Rattle.paper.proofs.Legal.{accepted_legal}
use Rattle.paper.proofs.RuleLaws.{met_is_rule}
use Rattle.paper.proofs.LoopLaws.{contradicts_always, chain_binds_schedule, no_schedule}
use Rattle.paper.proofs.TableLaws.{given_after, passed, all_passed}
use Rattle.worked.proofs.Tests.{Test, via, pair, nothing, never, is_true, less, at_most, same, differ, at_most_ℤ, less_ℤ, every, below}

-- ---- an accepted file

abbrev pub passing : (ok : Bool) → Test ((p : ℕ) → Fails ok p → ⊥)
passing ok = via (passed {ok = ok}) (is_true ok)

abbrev pub all_passing : (ok : ℕ → Bool) (n : ℕ) → Test ((p : ℕ) → Lowest ok n p → ⊥)
all_passing ok n = via (all_passed {ok = ok} {n = n}) (below (λ i. ok i ≡ true) (λ i. is_true (ok i)) n)

abbrev pub accepted_test : (f : List ℕ) → Test (Accepted f)
accepted_test f =
    pair (passing (headed f))
    (pair (passing (counted f))
    (pair (passing (sized f))
    (pair (passing (ranged f))
    (pair (all_passing (register_ok f) (registers f)) (pair (all_passing (path_ok f) (paths f)) nothing)))))

-- ---- loops and schedules of a network

module _ (N : Network) where
  abbrev pub exists_test : (r : Rule) → Test (Exists N r)
  exists_test (Setup p) = less p N.paths
  exists_test (Hold p) = less p N.paths
  exists_test (Low i) = pair (less 0 i) (less i N.registers)
  exists_test (High i) = pair (less 0 i) (less i N.registers)

  abbrev chain_test : (u : ℕ) (l : List Rule) (v : ℕ) → Test (Chain (tail N) (head N) u l v)
  chain_test u [] v = same u v
  chain_test u (r ∷ l) v = pair (same (tail N r) u) (chain_test (head N r) l v)

  abbrev once_test : (l : List Rule) → Test (Once (tail N) (head N) l)
  once_test [] = nothing
  once_test (r ∷ l) = pair (every _ (λ s. differ (tail N s) (tail N r)) l) (once_test l)

  abbrev loop_test : (l : List Rule) → Test (Loop (tail N) (head N) l)
  loop_test [] = never _
  loop_test (r ∷ l) = pair (chain_test (tail N r) (r ∷ l) (tail N r)) (once_test (r ∷ l))

  abbrev listed_test : (l : List Rule) → Test (Listed (tail N) (head N) l)
  listed_test [] = nothing
  listed_test (r ∷ l) = every _ (λ s. at_most (tail N r) (tail N s)) l

  -- what a loop is asked, of the paper's `Refutes`
  pub refutes : (P : ℕ) (l : List Rule) → (All (Exists N) l × Loop (tail N) (head N) l) × (Listed (tail N) (head N) l × Contradicts N P l) → Refutes N P l
  refutes P l h =
      record { is_loop = record { exist = h.0.0; loop = h.0.1 }; listed = h.1.0; contradicts = h.1.1 }

  abbrev pub refutes_test : (P : ℕ) (l : List Rule) → Test (Refutes N P l)
  refutes_test P l =
      via (refutes P l)
      (pair (pair (every _ exists_test l) (loop_test l)) (pair (listed_test l) (less_ℤ (pos 0) (total (amount N P) l))))

  -- every rule has a number of a path, or of a register from 1
  pub by_number : (A : Rule → Type 0)
      → ((p : ℕ) → p < N.paths → A (Setup p) × A (Hold p))
      × ((i : ℕ) → i < pred N.registers → A (Low (suc i)) × A (High (suc i)))
      → (r : Rule)
      → Exists N r → A r
  by_number A h (Setup p) e = (h.0 p e).0
  by_number A h (Hold p) e = (h.0 p e).1
  by_number A h (Low zero) e = absurd (omega (arith, e.0))
  by_number A h (Low (suc i)) e = (h.1 i (omega (arith, e.1))).0
  by_number A h (High zero) e = absurd (omega (arith, e.0))
  by_number A h (High (suc i)) e = (h.1 i (omega (arith, e.1))).1

  -- every rule that exists: the paths' setup and hold, the registers' low and high from 1
  abbrev every_rule : (A : Rule → Type 0) → ((r : Rule) → Test (A r)) → Test ((r : Rule) → Exists N r → A r)
  every_rule A t =
      via (by_number A)
      (pair (below (λ p. A (Setup p) × A (Hold p)) (λ p. pair (t (Setup p)) (t (Hold p))) N.paths)
      (below (λ i. A (Low (suc i)) × A (High (suc i))) (λ i. pair (t (Low (suc i))) (t (High (suc i)))) (pred N.registers)))

  -- a schedule is what meets every rule with the host at 0
  pub schedule : (P : ℕ) (x : ℕ → ℤ) → ((x 0 ≤ℤ pos 0) × (pos 0 ≤ℤ x 0)) × ((r : Rule) → Exists N r → Holds N P x r) → Schedule N P x
  schedule P x h = let a = h.0.0 in let b = h.0.1 in record { host = omega lin; meets = h.1 }

  abbrev pub schedule_test : (P : ℕ) (x : ℕ → ℤ) → Test (Schedule N P x)
  schedule_test P x =
      via (schedule P x)
      (pair (pair (at_most_ℤ (x 0) (pos 0)) (at_most_ℤ (pos 0) (x 0)))
      (every_rule (Holds N P x) (λ r. via (met_is_rule N P x r).0 (at_most_ℤ (pos 0) (slack N P r (x (tail N r)) (x (head N r)))))))

  -- ---- the answer

  -- a chain of rules from the host to register i whose amounts add up to at least z: no schedule at P has less than z there
  abbrev pub Climb : ℕ → ℤ → ℕ → List Rule → Type 0
  Climb P z i l = (All (Exists N) l × Chain (tail N) (head N) 0 l i) × (z ≤ℤ total (amount N P) l)

  abbrev climb_test : (P : ℕ) (z : ℤ) (i : ℕ) (l : List Rule) → Test (Climb P z i l)
  climb_test P z i l = pair (pair (every _ exists_test l) (chain_test 0 l i)) (at_most_ℤ z (total (amount N P) l))

  -- RULES 3.2: "The latency of a register is the smallest that it has in any schedule at this P."
  climbs_least : (P : ℕ) (z : ℤ) (i : ℕ) (l : List Rule) → Climb P z i l → (y : ℕ → ℤ) → Schedule N P y → z ≤ℤ y i
  climbs_least P z i l c y s =
      let up = chain_binds_schedule N P y s l 0 i c.0.0 c.0.1 in
      let enough = c.1 in
      let host = s.host in
      omega lin

  abbrev shown_test : (P : ℕ) (l : List Rule) → Test (Shown N P l)
  shown_test P [] = same P N.floor
  shown_test P (r ∷ l) = pair (less N.floor P) (refutes_test (P - 1) (r ∷ l))

  -- so RULES 3.2: "the smallest whole P from the floor to the ceiling": where a loop is shown, no period from the floor on below P has a
  -- schedule
  shown_smallest : (P : ℕ) (l : List Rule) → Shown N P l → (Q : ℕ) → N.floor ≤ Q → Q < P → (y : ℕ → ℤ) → Schedule N Q y → ⊥
  shown_smallest P [] e Q f h y s = omega arith
  shown_smallest P (r ∷ l) e Q f h y s = no_schedule N (P - 1) Q (r ∷ l) e.1 (omega arith) y s

-- ---- a row

-- What no reader needs: for each register a chain of rules, met with equality, that leads to it from the host; or, for a network that is
-- refused with 9, a period above the ceiling and its latencies.
pub record Witness : Type 0 where
  pub chains : List (List Rule)
  pub period : ℕ
  pub latencies : List ℤ

abbrev pub row_of : List ℤ → ℕ → ℤ
row_of latencies i = get_or latencies i (pos 0)

module _ (N : Network) (w : Witness) where
  abbrev Found : ℕ → List ℤ → List Rule → Type 0
  Found P l loop =
      ((length l ≡ N.registers) × ((N.floor ≤ P) × (P ≤ N.ceiling)))
      × (Schedule N P (row_of l)
      × (Shown N P loop × ((i : ℕ) → i < N.registers → Climb N P (row_of l i) i (get_or w.chains i []))))

  -- an answer: a schedule, a loop that shows it smallest, and a chain for each latency that shows it least
  pub found_comes : (P : ℕ) (l : List ℤ) (loop : List Rule) → Found P l loop → Comes N (answered P l loop)
  found_comes P l loop h = (
    h.0.0,
    record {
      from_floor = h.0.1.0;
      to_ceiling = h.0.1.1;
      schedule = h.1.0;
      smallest = shown_smallest N P loop h.1.1.0;
      least = λ y s i b. climbs_least N P (row_of l i) i (get_or w.chains i []) (h.1.1.1 i b) y s;
    },
    h.1.1.0,
  )

  -- number 8: a loop without setup rules that contradicts itself
  pub always_comes : (loop : List Rule) → (setups loop ≡ 0) × Refutes N 0 loop → Comes N (refused_8 loop)
  always_comes loop h = ((λ P f s. no_schedule N P P loop (at P) (omega arith) s.0 s.1), h.0, at)
    where
      at : (P : ℕ) → Refutes N P loop
      at P =
          record {
            is_loop = h.1.is_loop;
            listed = h.1.listed;
            contradicts = (contradicts_always N 0 P loop h.0).0 h.1.contradicts;
          }

  -- number 9: a loop that contradicts itself at the ceiling, and a schedule at a longer period
  pub ceiling_comes : (loop : List Rule) → Refutes N N.ceiling loop × ((1 ≤ w.period) × Schedule N w.period (row_of w.latencies)) → Comes N (refused_9 loop)
  ceiling_comes loop h = (
    record {
      some = (w.period, h.1.0, (row_of w.latencies, h.1.1));
      none = λ P f b s. no_schedule N N.ceiling P loop h.0 b s.0 s.1;
    },
    h.0,
  )

  abbrev comes_test : (e : Expected) → Test (Comes N e)
  comes_test (answered P l loop) =
      via (found_comes P l loop)
      (pair (pair (same (length l) N.registers) (pair (at_most N.floor P) (at_most P N.ceiling)))
      (pair (schedule_test N P (row_of l))
      (pair (shown_test N P loop)
      (below _ (λ i. climb_test N P (row_of l i) i (get_or w.chains i [])) N.registers))))
  comes_test (refused_8 loop) = via (always_comes loop) (pair (same (setups loop) 0) (refutes_test N 0 loop))
  comes_test (refused_9 loop) =
      via (ceiling_comes loop)
      (pair (refutes_test N N.ceiling loop) (pair (at_most 1 w.period) (schedule_test N w.period (row_of w.latencies))))

-- what comes of an accepted file fixes the number that is returned (RULES 6.3)
module _ (f : List ℕ) (a : Accepted f) (room : ℕ) (enough : 14 + 16 * (network_of f).registers ≤ room) where
  roomy : (p : ℕ) → Fails (leb (14 + 16 * (network_of f).registers) room) p → ⊥
  roomy = passed (le-leb _ _ enough)

  answer_given : (P : ℕ) (x : ℕ → ℤ) → Answer (network_of f) P x → Given (refusals f room) 0 0
  answer_given P x h =
      let from = (accepted_legal f a).floor_from in
      let on = h.from_floor in
      given_after (faults f) (schedule_rows (network_of f) room) 0 0 a
      (inr (
        roomy,
        inr (
          (λ p n. n.0 P (omega arith) (x, h.schedule)),
          inr ((λ p n. n.0.none P (omega arith) h.to_ceiling (x, h.schedule)), (refl, refl)),
        ),
      ))

  comes_given : (e : Expected) → Comes (network_of f) e → Given (refusals f room) (number_of e) 0
  comes_given (answered P l loop) h = answer_given P (row_of l) h.1
  comes_given (refused_8 loop) h = given_after (faults f) (schedule_rows (network_of f) room) 8 0 a (inr (roomy, inl (refl, (h.0, refl))))
  comes_given (refused_9 loop) h =
      given_after (faults f) (schedule_rows (network_of f) room) 9 0 a
      (inr (roomy, inr ((λ p n. let s = h.0.some in n.0 s.0 s.1 s.2), inl (refl, (h.0, refl)))))

-- a row is worked where its file is accepted and its result comes of it
pub worked : (c : Case) → Accepted (file_of c.network) × Comes (network_of (file_of c.network)) c.result → Worked c
worked c h =
    record {
      accepted = h.0;
      given = λ room enough. comes_given (file_of c.network) h.0 room enough c.result h.1;
      comes = h.1;
    }

-- a row with its witness
abbrev pub worked_test : (c : Case) → Witness → Test (Worked c)
worked_test c w =
    via (worked c) (pair (accepted_test (file_of c.network)) (comes_test (network_of (file_of c.network)) w c.result))

-- ---- witnesses: for an answer a chain to each register; for 8 none but the loop; for 9 a period above the ceiling

abbrev pub by_chains : List (List Rule) → Witness
by_chains l = record { chains = l; period = 0; latencies = [] }

abbrev pub by_loop : Witness
by_loop = record { chains = []; period = 0; latencies = [] }

abbrev pub by_later : ℕ → List ℤ → Witness
by_later P l = record { chains = []; period = P; latencies = l }
