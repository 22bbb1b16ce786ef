-- What an accepted file says of its network: every field lies in its range. All that later proofs need of 'accepted' is here, once. Rests
-- on the definitions of the file alone.
use mathlib.Core.Path.{◌≡◌, refl, ap₂}
use mathlib.Core.List.{List}
use mathlib.Core.Bool.{Bool, true, false, ◌&&◌}
use Prim.Native.Nat.{ℕ, zero, suc, ◌+◌, ◌*◌, ◌≤◌, ◌<◌}
use native.Mathlib.Omega.{arith}
use native.Mathlib.Decide.{dec_lt}
use lib.IntN.{ℤ, pos, negsuc, ◌-ℤ◌}
use lib.Signed.{le_z, ◌≤ℤ◌}
use lib.ListN.{length}
use lib.Dec.{eqb}
use borrow.Author.Tests.{eqb-true}
use Rattle.whole.proofs.Lin.{lin, minus, le_goal, le_true, true_not_false}
use Rattle.whole.specs.Four.{number_at}
pub use Rattle.whole.specs.Between.{Between}
pub use Rattle.paper.specs.Legal.{Legal}
use Rattle.paper.specs.File.{natural, marked, within, windowed, counted, sized, ranged, registers, paths, register_place, path_place, register_ok, path_ok, network_of}
use Rattle.paper.specs.Table.{Fails, Lowest}
use Rattle.paper.specs.Refusals.{Accepted}

-- ---- tests that passed

-- two tests joined have both passed
pub both : (a b : Bool) → a && b ≡ true → (a ≡ true) × (b ≡ true)
both true b e = (refl, e)
both false b e = absurd (true_not_false e refl)

-- a number that passes the test lies between its ends
pub within_is : (low high z : ℤ) → within low high z ≡ true → Between low high z
unfolding within
within_is low high z e =
    let p = both (le_z low z) (le_z z high) e in
    let a = p.0 in
    let b = p.1 in
    record { from = omega lin; to = omega lin }

-- and a number between two others passes the test
pub is_within : (low high z : ℤ) → Between low high z → within low high z ≡ true
unfolding within
is_within low high z b =
    let f = b.from in
    let t = b.to in
    let p : le_z low z ≡ true = omega lin in
    let q : le_z z high ≡ true = omega lin in
    ap₂ (λ a c. a && c) p q

-- a number from 0 up is the natural number that it counts
pub natural_is : (z : ℤ) → pos 0 ≤ℤ z → pos (natural z) ≡ z
natural_is (pos n) h = refl
natural_is (negsuc n) h = absurd h.le

-- a test that does not fail passes
pub passes : (ok : Bool) → ((p : ℕ) → Fails ok p → ⊥) → ok ≡ true
passes true h = refl
passes false h = absurd (h 0 (refl, refl))

-- Where no record is the lowest of which the test fails, it passes of every record: by counting up, each record before it having passed.
module _ (ok : ℕ → Bool) (n : ℕ) (none : (p : ℕ) → Lowest ok n p → ⊥) where
  pass_at : (p : ℕ) → p < n → ((q : ℕ) → q < p → ok q ≡ true) → (t : Bool) → ok p ≡ t → ok p ≡ true
  pass_at p l before true e = e
  pass_at p l before false e = absurd (none p (l, e, before))

  pass_more : (k : ℕ) → k < n → ((q : ℕ) → q < k → ok q ≡ true) → (q : ℕ) → q < suc k → Dec (q < k) → ok q ≡ true
  pass_more k l before q g (yes h) = before q h
  pass_more k l before q g (no h) = let e : q ≡ k = omega arith in rw e (pass_at k l before (ok k) refl)

  pass_below : (k : ℕ) → k ≤ n → (q : ℕ) → q < k → ok q ≡ true
  pass_below zero l q g = absurd (omega arith)
  pass_below (suc k) l q g = pass_more k l (pass_below k (omega arith)) q g (dec_lt q k)

  -- where no record is the lowest faulty one, every record passes
  pub all_pass : (p : ℕ) → p < n → ok p ≡ true
  all_pass p l = pass_below n (omega arith) p l

-- ---- every field in its range

-- a natural number's bounds from those of the field that it is read from
natural_bounds : (a b : ℕ) (z : ℤ) → Between (pos a) (pos b) z → (a ≤ natural z) × (natural z ≤ b)
natural_bounds a b (pos n) h = let f = h.from in let t = h.to in (omega lin, omega lin)
natural_bounds a b (negsuc n) h = let f = h.from in (absurd f.le, absurd f.le)

natural_mono : (a b : ℤ) → a ≤ℤ b → natural a ≤ natural b
natural_mono (pos a) (pos b) h = omega lin
natural_mono (pos a) (negsuc b) h = absurd h.le
natural_mono (negsuc a) b h = omega arith

-- a register's window, whether or not it is the host's
window_case : (i : ℕ) (t : Bool) (low high : ℤ) → eqb i 0 ≡ t → windowed i low high ≡ true
    → Between (negsuc 999999) (pos 1000000) low × Between low (pos 1000000) high
unfolding windowed
window_case i true low high e w =
    let both_ends = rw e at w in
    let p = both (within (pos 0) (pos 0) low) (within (pos 0) (pos 0) high) both_ends in
    let l = within_is (pos 0) (pos 0) low p.0 in
    let h = within_is (pos 0) (pos 0) high p.1 in
    (record { from = omega lin; to = omega lin }, record { from = omega lin; to = omega lin })
window_case i false low high e w =
    let both_ends = rw e at w in
    let p = both (within (negsuc 999999) (pos 1000000) low) (within low (pos 1000000) high) both_ends in
    (within_is _ _ low p.0, within_is _ _ high p.1)

window_host : (low high : ℤ) → windowed 0 low high ≡ true → (low ≡ pos 0) × (high ≡ pos 0)
unfolding windowed
window_host low high w =
    let p = both (within (pos 0) (pos 0) low) (within (pos 0) (pos 0) high) w in
    let l = within_is (pos 0) (pos 0) low p.0 in
    let h = within_is (pos 0) (pos 0) high p.1 in
    (omega lin, omega lin)

-- the tests of one register record, and of one path record, each as facts about its fields
pub record RegisterPassed (f : List ℕ) (i : ℕ) : Type 0 where
  pub mark : marked f (register_place f i) 82 71 ≡ true
  pub in_setup : Between (negsuc 99999) (pos 100000) (number_at f (register_place f i + 2))
  pub in_hold : Between (negsuc 99999) (pos 100000) (number_at f (register_place f i + 6))
  pub window : windowed i (number_at f (register_place f i + 10)) (number_at f (register_place f i + 14)) ≡ true

-- a register record that passes
register_passed : (f : List ℕ) (i : ℕ) → register_ok f i ≡ true → RegisterPassed f i
unfolding register_ok
register_passed f i e =
    let p = both _ _ e in
    let q = both _ _ p.0 in
    let r = both _ _ q.0 in
    record { mark = r.0; in_setup = within_is _ _ _ r.1; in_hold = within_is _ _ _ q.1; window = p.1 }

pub record PathPassed (f : List ℕ) (p : ℕ) : Type 0 where
  pub mark : marked f (path_place f p) 80 84 ≡ true
  pub in_from : Between (pos 0) (pos (registers f) -ℤ pos 1) (number_at f (path_place f p + 2))
  pub in_to : Between (pos 0) (pos (registers f) -ℤ pos 1) (number_at f (path_place f p + 6))
  pub dmin_from : pos 0 ≤ℤ number_at f (path_place f p + 10)
  pub in_dmax : Between (number_at f (path_place f p + 10)) (pos 1000000) (number_at f (path_place f p + 14))

-- a path record that passes
pub path_passed : (f : List ℕ) (p : ℕ) → path_ok f p ≡ true → PathPassed f p
unfolding path_ok
path_passed f p e =
    let d = both _ _ e in
    let c = both _ _ d.0 in
    let b = both _ _ c.0 in
    let a = both _ _ b.0 in
    record {
      mark = a.0;
      in_from = within_is _ _ _ a.1;
      in_to = within_is _ _ _ b.1;
      dmin_from = le_goal _ _ (le_true (pos 0) (number_at f (path_place f p + 10)) c.1);
      in_dmax = within_is _ _ _ d.1;
    }

-- ---- the whole network

-- the two counts of a header that passes
pub header_passed : (f : List ℕ) → counted f ≡ true → Between (pos 1) (pos 256) (number_at f 2) × Between (pos 0) (pos 2048) (number_at f 6)
unfolding counted
header_passed f e = let p = both _ _ e in (within_is _ _ _ p.0, within_is _ _ _ p.1)

pub counts_to : (f : List ℕ) → counted f ≡ true → (registers f ≤ 256) × (paths f ≤ 2048)
counts_to f e = let p = header_passed f e in ((natural_bounds 1 256 _ p.0).1, (natural_bounds 0 2048 _ p.1).1)

pub record RangesPassed (f : List ℕ) : Type 0 where
  pub in_floor : Between (pos 1) (pos 10000000) (number_at f 10)
  pub in_ceiling : Between (number_at f 10) (pos 10000000) (number_at f 14)
  pub in_uncertainty : Between (pos 0) (pos 10000) (number_at f 18)

-- floor, ceiling and u of a header that passes
pub ranges_passed : (f : List ℕ) → ranged f ≡ true → RangesPassed f
unfolding ranged
ranges_passed f e =
    let q = both _ _ e in
    let p = both _ _ q.0 in
    record { in_floor = within_is _ _ _ p.0; in_ceiling = within_is _ _ _ p.1; in_uncertainty = within_is _ _ _ q.1 }

-- the file's length, by which every record lies within it
pub accepted_length : (f : List ℕ) → Accepted f → length f ≡ 22 + 18 * (registers f + paths f)
unfolding sized
accepted_length f a = eqb-true _ _ (passes (sized f) a.1.1.0)

-- an end of a path is a register
end_is : (n : ℕ) (z : ℤ) → 1 ≤ n → Between (pos 0) (pos n -ℤ pos 1) z → natural z < n
end_is n (pos k) h b = let t = b.to in omega (lin, minus (pos n) (pos 1))
end_is n (negsuc k) h b = omega arith

-- an accepted file has a legal network
pub accepted_legal : (f : List ℕ) → Accepted f → Legal (network_of f)
unfolding network_of
accepted_legal f a =
    let counts = header_passed f (passes (counted f) a.1.0) in
    let ranges = ranges_passed f (passes (ranged f) a.1.1.1.0) in
    let n = natural_bounds 1 256 (number_at f 2) counts.0 in
    let m = natural_bounds 0 2048 (number_at f 6) counts.1 in
    let fl = natural_bounds 1 10000000 (number_at f 10) ranges.in_floor in
    let register : (i : ℕ) → i < registers f → RegisterPassed f i = λ i l. register_passed f i (all_pass (register_ok f) (registers f) a.1.1.1.1.0 i l) in
    let path : (p : ℕ) → p < paths f → PathPassed f p = λ p l. path_passed f p (all_pass (path_ok f) (paths f) a.1.1.1.1.1.0 p l) in
    record {
      registers_from = n.0;
      registers_to = n.1;
      paths_to = m.1;
      floor_from = fl.0;
      ceiling_from = natural_mono _ _ ranges.in_ceiling.from;
      ceiling_to = natural_mono _ (pos 10000000) ranges.in_ceiling.to;
      setup = λ i l. (register i l).in_setup;
      hold = λ i l. (register i l).in_hold;
      low = λ i l. (window_case i (eqb i 0) _ _ refl (register i l).window).0;
      high = λ i l. (window_case i (eqb i 0) _ _ refl (register i l).window).1;
      host_low = (window_host _ _ (register 0 n.0).window).0;
      host_high = (window_host _ _ (register 0 n.0).window).1;
      from = λ p l. end_is (registers f) _ n.0 (path p l).in_from;
      to = λ p l. end_is (registers f) _ n.0 (path p l).in_to;
      dmin = λ p l. record { from = (path p l).dmin_from; to = (path p l).in_dmax.from };
      dmax = λ p l. (path p l).in_dmax;
      uncertainty = λ p l. ranges.in_uncertainty;
    }

-- RULES 5.5: "the length is 22 + 18(n + m) bytes, and the greatest file has 41,494"
pub accepted_most : (f : List ℕ) → Accepted f → length f ≤ 41494
unfolding network_of
accepted_most f a =
    let l = accepted_legal f a in
    let r : registers f ≤ 256 = l.registers_to in
    let p : paths f ≤ 2048 = l.paths_to in
    let e = accepted_length f a in
    omega arith
