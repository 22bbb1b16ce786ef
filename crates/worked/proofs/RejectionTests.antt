-- A row of what must be refused meets the definitions where a test passes that computes. Rests on the tests of the worked networks
-- (`CaseTests`), on those of statements that do not hold (`Refusing`), and on the laws of rules, loops and tables.
use mathlib.Core.Path.{◌≡◌, refl}
use mathlib.Core.Logic.{inl}
use mathlib.Core.List.{List, [], ◌∷◌}
use mathlib.Core.Bool.{Bool, true, false}
use Prim.Native.Nat.{ℕ, suc, pred, ◌-◌, ◌<◌}
use native.Mathlib.Omega.{arith}
use lib.IntN.{ℤ, pos}
use lib.Signed.{◌≤ℤ◌, ◌<ℤ◌}
use borrow.Author.Tests.{lt-leb}
use Rattle.whole.specs.Sums.{total}
use Rattle.whole.proofs.Lin.{lin, plus}
use Rattle.paper.specs.Network.{Network}
use Rattle.paper.specs.declared.Rule.{Rule}
use Rattle.paper.specs.declared.Rule.TheVariants.{Setup, Hold, Low, High}
use Rattle.paper.specs.Rules.{Exists, Holds, tail, head, amount, slack}
use Rattle.paper.specs.Chains.{All, Chain, Once, Loop, Listed}
use Rattle.paper.specs.Schedule.{Schedule, Contradicts, Answer, Refutes, Shown}
use Rattle.paper.specs.File.{headed, counted, sized, ranged, registers, paths, register_ok, path_ok, network_of}
use Rattle.paper.specs.Table.{Fails, Lowest}
use Rattle.paper.specs.Limits.{room_for}
use Rattle.paper.specs.Refusals.{faults, schedule_rows}
use Rattle.paper.specs.Question.{question_rows}
use Rattle.worked.specs.Cases.{Case, number_of, Worked, file_of}
use Rattle.worked.specs.Rejected.{Rejection, refused, edge, short, missing, no_loop, until, unshown, unmet, unanswered, not_least, Refused, Rejected, put_number}
use Rattle.paper.proofs.RuleLaws.{met_is_rule, amount_falls}
use Rattle.paper.proofs.LoopLaws.{no_schedule}
use Rattle.paper.proofs.TableLaws.{ByRow, given_before, given_after}
use Rattle.worked.proofs.Tests.{Test, via, pair, never, is_true, less, same, differ, at_most, less_ℤ, below}
use Rattle.worked.proofs.Refusing.{either, refuting, not_both, impossible, is_false, not_less, not_at_most, not_differ, not_at_most_ℤ, not_less_ℤ, not_every, not_below}
use Rattle.worked.proofs.CaseTests.{passing, all_passing, accepted_test, exists_test, refutes_test, schedule_test, row_of}

-- ---- a file that is refused

abbrev failing : (ok : Bool) (p : ℕ) → Test (Fails ok p)
failing ok p = pair (is_false ok) (same p 0)

pub lowest : {ok : ℕ → Bool} {n p : ℕ} → ((p < n) × (ok p ≡ false)) × ((q : ℕ) → q < p → ok q ≡ true) → Lowest ok n p
lowest h = (h.0.0, h.0.1, h.1)

abbrev lowest_test : (ok : ℕ → Bool) (n p : ℕ) → Test (Lowest ok n p)
lowest_test ok n p =
    via (lowest {ok = ok}) (pair (pair (less p n) (is_false (ok p))) (below (λ q. ok q ≡ true) (λ q. is_true (ok q)) p))

-- the first row of the faults that applies gives this number and place
module _ (f : List ℕ) (n p : ℕ) where
  abbrev fault_test : Test (ByRow (faults f) n p)
  fault_test =
      either (pair (same n 1) (failing (headed f) p))
      (pair (passing (headed f))
      (either (pair (same n 2) (failing (counted f) p))
      (pair (passing (counted f))
      (either (pair (same n 3) (failing (sized f) p))
      (pair (passing (sized f))
      (either (pair (same n 4) (failing (ranged f) p))
      (pair (passing (ranged f))
      (either (pair (same n 5) (lowest_test (register_ok f) (registers f) p))
      (pair (all_passing (register_ok f) (registers f))
      (either (pair (same n 6) (lowest_test (path_ok f) (paths f) p)) (pair (all_passing (path_ok f) (paths f)) (never _))))))))))))

  -- and so do both calls, whatever comes after the faults
  pub by_fault : ByRow (faults f) n p → Refused n p f
  by_fault b =
      record {
        scheduling = λ room. given_before (faults f) (schedule_rows (network_of f) room) n p b;
        asking = λ q. given_before (faults f) (question_rows (network_of f) q) n p b;
      }

  abbrev pub refused_test : Test (Refused n p f)
  refused_test = via by_fault fault_test

-- a worked network's row gives its number where there is room, and 7 where there is less by a byte or more
module _ (c : Case) (w : Worked c) (bytes : ℕ) where
  abbrev file : List ℕ
  file = file_of c.network

  pub short_by : suc bytes ≡ room_for (network_of file).registers → Rejected (short c.network bytes (number_of c.result))
  short_by e = (
    (λ room l. given_after (faults file) (schedule_rows (network_of file) room) 7 0 w.accepted (inl (refl, (lt-leb _ room (omega arith), refl)))),
    λ room l. w.given room (omega arith),
  )

  abbrev pub short_test : Test (Rejected (short c.network bytes (number_of c.result)))
  short_test = via short_by (same (suc bytes) (room_for (network_of file).registers))

-- ---- loops and schedules that are none

module _ (N : Network) where
  abbrev pub no_rule : (r : Rule) → Test (Exists N r → ⊥)
  no_rule (Setup p) = not_less p N.paths
  no_rule (Hold p) = not_less p N.paths
  no_rule (Low i) = not_both (not_less 0 i) (not_less i N.registers)
  no_rule (High i) = not_both (not_less 0 i) (not_less i N.registers)

  abbrev no_chain : (u : ℕ) (l : List Rule) (v : ℕ) → Test (Chain (tail N) (head N) u l v → ⊥)
  no_chain u [] v = differ u v
  no_chain u (r ∷ l) v = not_both (differ (tail N r) u) (no_chain (head N r) l v)

  abbrev not_once : (l : List Rule) → Test (Once (tail N) (head N) l → ⊥)
  not_once [] = never _
  not_once (r ∷ l) = not_both (not_every _ (λ s. not_differ (tail N s) (tail N r)) l) (not_once l)

  abbrev not_loop : (l : List Rule) → Test (Loop (tail N) (head N) l → ⊥)
  not_loop [] = impossible
  not_loop (r ∷ l) = not_both (no_chain (tail N r) (r ∷ l) (tail N r)) (not_once (r ∷ l))

  abbrev not_listed : (l : List Rule) → Test (Listed (tail N) (head N) l → ⊥)
  not_listed [] = never _
  not_listed (r ∷ l) = not_every _ (λ s. not_at_most (tail N r) (tail N s)) l

  pub refuted : (P : ℕ) (l : List Rule) → Refutes N P l → (All (Exists N) l × Loop (tail N) (head N) l) × (Listed (tail N) (head N) l × Contradicts N P l)
  refuted P l r = ((r.is_loop.exist, r.is_loop.loop), (r.listed, r.contradicts))

  abbrev refutes_not : (P : ℕ) (l : List Rule) → Test (Refutes N P l → ⊥)
  refutes_not P l =
      refuting (refuted P l)
      (not_both (not_both (not_every _ no_rule l) (not_loop l)) (not_both (not_listed l) (not_less_ℤ (pos 0) (total (amount N P) l))))

  -- no amount is larger than at period 0, so a loop that does not contradict itself there does so nowhere
  total_falls : (P : ℕ) (l : List Rule) → total (amount N P) l ≤ℤ total (amount N 0) l
  total_falls P [] = omega lin
  total_falls P (r ∷ l) =
      let rest = total_falls P l in
      let first = amount_falls N 0 P r (omega arith) in
      omega (lin, plus (amount N P r) (total (amount N P) l), plus (amount N 0 r) (total (amount N 0) l))

  pub from_zero : (P : ℕ) (l : List Rule) → Refutes N P l → Refutes N 0 l
  from_zero P l r =
      let over = r.contradicts in
      record { is_loop = r.is_loop; listed = r.listed; contradicts = omega (lin, total_falls P l) }

  abbrev refutes_never : (l : List Rule) → Test ((P : ℕ) → Refutes N P l → ⊥)
  refutes_never l = via (λ n P r. n (from_zero P l r)) (refutes_not 0 l)

  abbrev shown_not : (P : ℕ) (l : List Rule) → Test (Shown N P l → ⊥)
  shown_not P [] = differ P N.floor
  shown_not P (r ∷ l) = not_both (not_less N.floor P) (refutes_not (P - 1) (r ∷ l))

  -- what a schedule says of the host, and of each path and register by its number
  abbrev ByNumber : (Rule → Type 0) → Type 0
  ByNumber A =
      ((p : ℕ) → p < N.paths → A (Setup p) × A (Hold p)) × ((i : ℕ) → i < pred N.registers → A (Low (suc i)) × A (High (suc i)))

  pub scheduled : (P : ℕ) (x : ℕ → ℤ) → Schedule N P x → ((x 0 ≤ℤ pos 0) × (pos 0 ≤ℤ x 0)) × ByNumber (Holds N P x)
  scheduled P x s =
      let host = s.host in (
        (omega lin, omega lin),
        (
          (λ p l. (s.meets (Setup p) l, s.meets (Hold p) l)),
          λ i l. (s.meets (Low (suc i)) (omega arith, omega arith), s.meets (High (suc i)) (omega arith, omega arith)),
        ),
      )

  abbrev not_met : (P : ℕ) (x : ℕ → ℤ) (r : Rule) → Test (Holds N P x r → ⊥)
  not_met P x r = refuting (met_is_rule N P x r).1 (not_at_most_ℤ (pos 0) (slack N P r (x (tail N r)) (x (head N r))))

  abbrev schedule_not : (P : ℕ) (x : ℕ → ℤ) → Test (Schedule N P x → ⊥)
  schedule_not P x =
      refuting (scheduled P x)
      (not_both (not_both (not_at_most_ℤ (x 0) (pos 0)) (not_at_most_ℤ (pos 0) (x 0)))
      (not_both (not_below _ (λ p. not_both (not_met P x (Setup p)) (not_met P x (Hold p))) N.paths)
      (not_below _ (λ i. not_both (not_met P x (Low (suc i))) (not_met P x (High (suc i)))) (pred N.registers))))

  -- ---- answers that are none

  -- a period that is too short, by a loop
  abbrev pub by_that_loop : (P : ℕ) (l : List Rule) → Test ((x : ℕ → ℤ) → Answer N P x → ⊥)
  by_that_loop P l = via (λ r x a. no_schedule N P P l r (omega arith) x a.schedule) (refutes_test N P l)

  -- one that is too long, by a schedule at a shorter period from the floor on
  abbrev pub by_shorter : (P Q : ℕ) (l : List ℤ) → Test ((x : ℕ → ℤ) → Answer N P x → ⊥)
  by_shorter P Q l =
      via (λ h x a. a.smallest Q h.0 h.1.0 (row_of l) h.1.1)
      (pair (at_most N.floor Q) (pair (less Q P) (schedule_test N Q (row_of l))))

  -- one below the floor or above the ceiling
  abbrev pub by_floor : (P : ℕ) → Test ((x : ℕ → ℤ) → Answer N P x → ⊥)
  by_floor P = via (λ n x a. n a.from_floor) (not_at_most N.floor P)

  abbrev pub by_ceiling : (P : ℕ) → Test ((x : ℕ → ℤ) → Answer N P x → ⊥)
  by_ceiling P = via (λ n x a. n a.to_ceiling) (not_at_most P N.ceiling)

  -- latencies of which one is lower in another schedule at the period
  pub not_smallest : (P : ℕ) (x y : ℕ → ℤ) (i : ℕ) → Schedule N P y × ((i < N.registers) × (y i <ℤ x i)) → Answer N P x → ⊥
  not_smallest P x y i h a = let up = a.least y h.0 i h.1.0 in let down = h.1.1 in omega lin

  abbrev pub by_lower : (P : ℕ) (l m : List ℤ) (i : ℕ) → Test (Schedule N P (row_of l) × (Answer N P (row_of l) → ⊥))
  by_lower P l m i =
      pair (schedule_test N P (row_of l))
      (via (not_smallest P (row_of l) (row_of m) i)
      (pair (schedule_test N P (row_of m)) (pair (less i N.registers) (less_ℤ (row_of m i) (row_of l i)))))

-- ---- a row

-- A row whose test needs to be told nothing. Room and answers take one of the tests above.
abbrev pub rejected_test : (r : Rejection) → Test (Rejected r)
rejected_test (refused n p f) = refused_test f n p
rejected_test (edge n p f i outside inside) = pair (refused_test (put_number i outside f) n p) (accepted_test (put_number i inside f))
rejected_test (missing w r s) = pair (no_rule (network_of (file_of w)) r) (exists_test (network_of (file_of w)) s)
rejected_test (no_loop w l) = refutes_never (network_of (file_of w)) l
rejected_test (until w P l) = pair (refutes_test (network_of (file_of w)) P l) (refutes_not (network_of (file_of w)) (suc P) l)
rejected_test (unshown w P l) = shown_not (network_of (file_of w)) P l
rejected_test (unmet w P outside inside) =
    pair (schedule_not (network_of (file_of w)) P (row_of outside)) (schedule_test (network_of (file_of w)) P (row_of inside))
rejected_test (short w bytes n) = never _
rejected_test (unanswered w P) = never _
rejected_test (not_least w P l) = never _
