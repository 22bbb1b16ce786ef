-- Where the rules stand: every place below the count holds a rule that exists, and every rule that exists stands at its place; those that
-- do not know the period stand in the prefix. So the paper's rules are a family that is laid out. Rests on nothing.
use mathlib.Core.Path.{◌≡◌, refl, ap, ◌∙◌}
use Prim.Native.Nat.{ℕ, ◌+◌, ◌-◌, ◌*◌, ◌≤◌, ◌<◌}
use native.Mathlib.Omega.{arith}
use native.Mathlib.Decide.{dec_lt}
use borrow.Author.Tests.{lt-ltb, le-ltb}
use Rattle.paper.specs.Network.{Network}
use Rattle.paper.specs.declared.Rule.{Rule}
use Rattle.paper.specs.declared.Rule.TheVariants.{Setup, Hold, Low, High}
use Rattle.paper.specs.Rules.{Exists, tail, head}
use Rattle.paper.proofs.Legal.{Legal}
use Rattle.loops.specs.Family.{Enumerates, Framed, LaidOut, fixed_graph}
use Rattle.loops.specs.RuleFamily.{IsFixed, graph_of, rules}
use Rattle.loops.specs.Layout.{windows, fixed_rule_count, rule_count, rule_at, place_of, Joined}

module _ (N : Network) where
  -- ---- the rule at each place

  rule_low : (e : ℕ) → e < windows N → rule_at N e ≡ Low (e + 1)
  unfolding rule_at
  rule_low e h = rw (lt-ltb e (windows N))

  rule_high : (e : ℕ) → windows N ≤ e → e < 2 * windows N → rule_at N e ≡ High (e - windows N + 1)
  unfolding rule_at
  rule_high e g h = rw (le-ltb e (windows N), lt-ltb e (2 * windows N))

  rule_hold : (e : ℕ) → 2 * windows N ≤ e → e < fixed_rule_count N → rule_at N e ≡ Hold (e - 2 * windows N)
  unfolding rule_at
  rule_hold e g h = rw (le-ltb e (windows N) (omega arith), le-ltb e (2 * windows N), lt-ltb e (fixed_rule_count N))

  rule_setup : (e : ℕ) → fixed_rule_count N ≤ e → rule_at N e ≡ Setup (e - fixed_rule_count N)
  unfolding rule_at
  rule_setup e g = rw (le-ltb e (windows N) (omega arith), le-ltb e (2 * windows N) (omega arith), le-ltb e (fixed_rule_count N))

  -- what holds of the four parts holds of every place
  pub rule_cases : (Q : Rule → Type 0) (e : ℕ)
      → (e < windows N → Q (Low (e + 1)))
      → (windows N ≤ e → e < 2 * windows N → Q (High (e - windows N + 1)))
      → (2 * windows N ≤ e → e < fixed_rule_count N → Q (Hold (e - 2 * windows N)))
      → (fixed_rule_count N ≤ e → Q (Setup (e - fixed_rule_count N)))
      → Q (rule_at N e)
  rule_cases Q e low high hold setup = go (dec_lt e (windows N)) (dec_lt e (2 * windows N)) (dec_lt e (fixed_rule_count N))
    where
      go : Dec (e < windows N) → Dec (e < 2 * windows N) → Dec (e < fixed_rule_count N) → Q (rule_at N e)
      go (yes h) b c = rw (rule_low e h) (low h)
      go (no g) (yes h) c = let l : windows N ≤ e = omega arith in rw (rule_high e l h) (high l h)
      go (no a) (no g) (yes h) = let l : 2 * windows N ≤ e = omega arith in rw (rule_hold e l h) (hold l h)
      go (no a) (no b) (no g) = let l : fixed_rule_count N ≤ e = omega arith in rw (rule_setup e l) (setup l)

  -- ---- places and rules are the same

  -- each of the four parts lies below the count and numbers a path, or a register above the host
  pub rule_exists : (e : ℕ) → e < rule_count N → Exists N (rule_at N e)
  rule_exists e b = rule_cases (Exists N) e (λ h. omega arith) (λ g h. omega arith) (λ g h. omega arith) (λ g. omega arith)

  -- the prefix holds no setup rule
  rule_fixed : (e : ℕ) → e < fixed_rule_count N → IsFixed (rule_at N e)
  rule_fixed e b = rule_cases IsFixed e (λ h. tt) (λ g h. tt) (λ g h. tt) (λ g. absurd (omega arith))

  -- a rule stands at its place
  pub place_rule : (r : Rule) → Exists N r → rule_at N (place_of N r) ≡ r
  place_rule (Setup p) h = rule_setup (place_of N (Setup p)) (omega arith) ∙ ap Setup (omega arith)
  place_rule (Hold p) h = rule_hold (place_of N (Hold p)) (omega arith) (omega arith) ∙ ap Hold (omega arith)
  place_rule (Low i) h = rule_low (place_of N (Low i)) (omega arith) ∙ ap Low (omega arith)
  place_rule (High i) h = rule_high (place_of N (High i)) (omega arith) (omega arith) ∙ ap High (omega arith)

  pub place_below : (r : Rule) → Exists N r → place_of N r < rule_count N
  place_below (Setup p) h = omega arith
  place_below (Hold p) h = omega arith
  place_below (Low i) h = omega arith
  place_below (High i) h = omega arith

  -- and in the prefix where it is no setup rule
  place_fixed : (r : Rule) → Exists N r → IsFixed r → place_of N r < fixed_rule_count N
  place_fixed (Setup p) h z = absurd z
  place_fixed (Hold p) h z = omega arith
  place_fixed (Low i) h z = omega arith
  place_fixed (High i) h z = omega arith

  -- ---- so each place has its rule, and each rule its place

  pub rules_enumerate : Enumerates (graph_of N) (rule_at N) (rule_count N)
  rules_enumerate = record { here = rule_exists; found = λ r h. (place_of N r, place_below r h, place_rule r h) }

  pub fixed_enumerates : Enumerates (fixed_graph (rules N)) (rule_at N) (fixed_rule_count N)
  fixed_enumerates = record {
    here = λ e h. (rule_exists e (omega arith), rule_fixed e h);
    found = λ r h. (place_of N r, place_fixed r h.0 h.1, place_rule r h.0);
  }

  -- ---- the rules' arrows are framed

  -- the arrow of a rule that exists joins two registers
  pub tail_below : Joined N → (r : Rule) → Exists N r → tail N r < N.registers
  tail_below j (Setup p) h = j.from p h
  tail_below j (Hold p) h = j.to p h
  tail_below j (Low i) h = j.some
  tail_below j (High i) h = h.1

  pub head_below : Joined N → (r : Rule) → Exists N r → head N r < N.registers
  head_below j (Setup p) h = j.to p h
  head_below j (Hold p) h = j.from p h
  head_below j (Low i) h = h.1
  head_below j (High i) h = j.some

  abbrev pub rules_framed : Joined N → Framed (graph_of N)
  rules_framed j = record {
    some = j.some;
    leaves_below = tail_below j;
    reaches_below = head_below j;
    low = Low;
    low_here = λ v z b. (z, b);
    low_leaves = λ v z b. refl;
    low_reaches = λ v z b. refl;
    high = High;
    high_here = λ v z b. (z, b);
    high_leaves = λ v z b. refl;
    high_reaches = λ v z b. refl;
  }

  abbrev pub fixed_framed : Joined N → Framed (fixed_graph (rules N))
  fixed_framed j = record {
    some = j.some;
    leaves_below = λ r h. tail_below j r h.0;
    reaches_below = λ r h. head_below j r h.0;
    low = Low;
    low_here = λ v z b. ((z, b), tt);
    low_leaves = λ v z b. refl;
    low_reaches = λ v z b. refl;
    high = High;
    high_here = λ v z b. ((z, b), tt);
    high_leaves = λ v z b. refl;
    high_reaches = λ v z b. refl;
  }

  pub rules_layout : Joined N → LaidOut (rules N)
  rules_layout j = record {
    framed = rules_framed j;
    fixed_framed = fixed_framed j;
    name = rule_at N;
    count = rule_count N;
    enumerates = rules_enumerate;
    fixed_name = rule_at N;
    fixed_count = fixed_rule_count N;
    fixed_enumerates = fixed_enumerates;
  }

-- an accepted network has a host, and its paths join registers
pub legal_joined : (N : Network) → Legal N → Joined N
legal_joined N l = record { some = l.registers_from; from = l.from; to = l.to }
