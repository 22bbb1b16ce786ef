-- What filled lists are to a caller: all rules laid out at the period whose amounts are in place, the rules that do not know it at every
-- period, and every amount in a range that leaves the sums of a relaxation room. Rests on `Places` and `Outcomes` of `loops`, and on the
-- ranges of `rules`.
use mathlib.Core.Path.{◌≡◌, refl, sym, ap, ◌∙◌}
use mathlib.Core.List.{List}
use Prim.Native.Nat.{ℕ, ◌+◌, ◌-◌, ◌≤◌, ◌<◌}
use native.Mathlib.Omega.{arith}
use native.Mathlib.Decide.{dec_lt}
use lib.ListN.{length, take}
use lib.Seq.{length-take-le, get_or-take}
use lib.IntN.{ℤ, pos, negsuc, neg_ℤ, ◌-ℤ◌}
use lib.Signed.{◌≤ℤ◌}
use Rattle.whole.proofs.Lin.{lin, below, negs}
use Rattle.paper.specs.Network.{Network}
use Rattle.paper.specs.declared.Rule.{Rule}
use Rattle.paper.specs.declared.Rule.TheVariants.{Setup, Hold, Low, High}
use Rattle.paper.specs.Rules.{base}
use Rattle.paper.specs.Rules.{amount as ruleAmount}
use Rattle.paper.proofs.Legal.{Legal}
use Rattle.loops.specs.declared.Arrow.{Arrow}
use Rattle.loops.specs.Arrows.{Lows, Highs, among, arrow_at}
use Rattle.loops.specs.Family.{Graph, Enumerates, Lays, fixed_graph}
use Rattle.loops.specs.RuleFamily as family
use Rattle.loops.specs.RuleFamily.{IsFixed}
use Rattle.loops.specs.Names.{named}
use Rattle.loops.specs.Layout.{low_place, fixed_places, fixed_rule_count, rule_count}
use Rattle.loops.specs.Shape.{Shape, Modest}
use Rattle.loops.specs.Begun.{Extends}
use Rattle.loops.proofs.Places.{legal_joined, rules_framed, fixed_framed}
use Rattle.loops.proofs.Outcomes.{framed_sound, framed_lows, framed_highs}
use Rattle.rules.proofs.Amounts.{base_small, amount_modest}
use Rattle.rules.proofs.Ranges.{small_less}
use Rattle.rules.specs.Amounts.{Small}
use Rattle.places.specs.Few.{Few}
use Rattle.arrows.specs.Filled.{Room, Filled, Weighable, Weighed}
use Rattle.paper.specs.Limits.{Period}

-- ---- the counts as a caller has them

-- few enough that two bytes hold a place
pub rules_few : (N : Network) → Legal N → rule_count N ≤ 4606
rules_few N l = omega (arith, l.registers_to, l.paths_to)

-- an accepted network's counts are few, as `places` asks
pub legal_few : (N : Network) → Legal N → (n m : ℕ) → n ≡ N.registers → m ≡ N.paths → Few n m
legal_few N l n m en em = let a = l.registers_from in let b = l.registers_to in let c = l.paths_to in record { some = omega arith; registers = omega arith; paths = omega arith }

fixed_amount : (N : Network) (P : ℕ) (r : Rule) → IsFixed r → base N r ≡ ruleAmount N P r
fixed_amount N P (Setup p) h = absurd h
fixed_amount N P (Hold p) h = refl
fixed_amount N P (Low i) h = refl
fixed_amount N P (High i) h = refl

-- ---- the first arrows of a list, as a graph

module _ (n k : ℕ) (arrows : List Arrow) (room : k ≤ length arrows) where
  pub first_count : (among n (take k arrows)).count ≡ k
  first_count = length-take-le k arrows room

  -- each stands where it stood
  pub first_at : (e : ℕ) → e < (among n (take k arrows)).count → arrow_at (take k arrows) e ≡ arrow_at arrows e
  first_at e h = let c = first_count in get_or-take k arrows e _ (omega arith)

  -- what enumerates the places below k enumerates them
  pub first_enumerates : {E : Type 0} {G : Graph E} {name : ℕ → E} → Enumerates G name k → Enumerates G name (among n (take k arrows)).count
  first_enumerates names = rw first_count names

  -- and they are laid out where the arrows at the places below k have their ends and amounts
  first_lays : {E : Type 0} {G : Graph E} {name : ℕ → E} {w : E → ℤ} → n ≡ G.registers → ((e : ℕ) → e < k → (arrow_at arrows e).tail ≡ G.leaves (name e))
      → ((e : ℕ) → e < k → (arrow_at arrows e).head ≡ G.reaches (name e)) → ((e : ℕ) → e < k → (arrow_at arrows e).amount ≡ w (name e))
      → Lays G name w (among n (take k arrows))
  first_lays same tails heads amounts =
      let c = first_count in
      record {
        registers = same;
        tails = λ e h. ap (λ a. a.tail) (first_at e h) ∙ tails e (omega arith);
        heads = λ e h. ap (λ a. a.head) (first_at e h) ∙ heads e (omega arith);
        amounts = λ e h. ap (λ a. a.amount) (first_at e h) ∙ amounts e (omega arith);
      }

module _ (N : Network) (rules : List Rule) (arrows : List Arrow) (bases : List ℤ) (f : Filled N rules arrows bases) where
  -- ---- the rules that do not know the period, at every period

  -- they are laid out, whatever the period is
  pub filled_fixed : (n P : ℕ) → n ≡ N.registers → Lays (fixed_graph (family.rules N)) (named rules) (ruleAmount N P) (among n (take (fixed_rule_count N) arrows))
  filled_fixed n P e =
      first_lays n (fixed_rule_count N) arrows (omega (arith, f.room.in_arrows)) e (λ k h. f.leaves k (omega arith)) (λ k h. f.reaches k (omega arith))
      (λ k h. f.fixed k h ∙ fixed_amount N P (named rules k) (f.fixed_enumerates.here k h).1)

  -- ---- another period

  -- a period that the paper allows may be put in
  pub filled_weighable : Legal N → (n m : ℕ) → n ≡ N.registers → m ≡ N.paths → (period : ℤ) → Period period → Weighable n m period arrows bases
  filled_weighable legal n m en em period q = record {
    in_arrows = omega (arith, f.room.in_arrows);
    in_bases = omega (arith, f.room.in_bases);
    fits = λ p h. rw (f.based p (omega arith)) (small_less (base_small legal (Setup p) (omega arith)) small);
  }
    where
      small : Small period
      small = record { from = omega lin; to = omega lin }

  module _ (n m : ℕ) (en : n ≡ N.registers) (em : m ≡ N.paths) (period : ℤ) (after : List Arrow) (w : Weighed (fixed_places n m) m period bases arrows after) where
    -- the lists are filled still
    pub weighed_filled : Filled N rules after bases
    weighed_filled = record {
      room = record {
        in_rules = f.room.in_rules;
        in_arrows = omega (arith, w.long, f.room.in_arrows);
        in_bases = f.room.in_bases;
      };
      enumerates = f.enumerates;
      fixed_enumerates = f.fixed_enumerates;
      leaves = λ e h. w.tails e ∙ f.leaves e h;
      reaches = λ e h. w.heads e ∙ f.reaches e h;
      fixed = λ e h. ap (λ a. a.amount) (w.same e (omega arith)) ∙ f.fixed e h;
      setups = f.setups;
      based = f.based;
      lows = f.lows;
    }

    -- All rules stand at the period: those before the setup rules have the amount that they have at every period, and a setup rule has what
    -- it is without the period, less the period.
    pub weighed_lays : (P : ℕ) → period ≡ pos P → Lays (family.graph_of N) (named rules) (ruleAmount N P) (among n (take (rule_count N) after))
    weighed_lays P e =
        first_lays n (rule_count N) after weighed_filled.room.in_arrows en weighed_filled.leaves weighed_filled.reaches
        (λ j h. at j h (dec_lt j (fixed_rule_count N)))
      where
        at : (j : ℕ) → j < rule_count N → Dec (j < fixed_rule_count N) → (arrow_at after j).amount ≡ ruleAmount N P (named rules j)
        at j h (yes b) = weighed_filled.fixed j b ∙ fixed_amount N P (named rules j) (f.fixed_enumerates.here j b).1
        at j h (no b) =
            let p = j - fixed_rule_count N in
            let place : fixed_rule_count N + (j - fixed_rule_count N) ≡ j = omega arith in
            let here : fixed_places n m + (j - fixed_rule_count N) ≡ j = omega arith in
            let value = w.new p (omega arith) in
            let is = f.setups p (omega arith) in
            ap (λ i. (arrow_at after i).amount) (sym here) ∙ value ∙ ap (λ z. z -ℤ period) (f.based p (omega arith)) ∙ ap (λ z. base N (Setup p) -ℤ z) e
            ∙ ap (ruleAmount N P) (sym is) ∙ ap (λ i. ruleAmount N P (named rules i)) place

    -- what stands before the setup rules is as it was
    pub weighed_extends : Extends (among n (take (rule_count N) after)) (among n (take (fixed_places n m) arrows))
    weighed_extends =
        let all = first_count n (rule_count N) after weighed_filled.room.in_arrows in
        let fixed = first_count n (fixed_places n m) arrows (omega (arith, f.room.in_arrows)) in
        record {
          registers = refl;
          fewer = omega arith;
          tails = λ e h. ap (λ a. a.tail) (same e h);
          heads = λ e h. ap (λ a. a.head) (same e h);
          amounts = λ e h. ap (λ a. a.amount) (same e h);
        }
      where
        same : (e : ℕ) → e < (among n (take (fixed_places n m) arrows)).count → arrow_at (take (rule_count N) after) e ≡ arrow_at (take (fixed_places n m) arrows) e
        same e h =
            let all = first_count n (rule_count N) after weighed_filled.room.in_arrows in
            let fixed = first_count n (fixed_places n m) arrows (omega (arith, f.room.in_arrows)) in
            first_at n (rule_count N) after weighed_filled.room.in_arrows e (omega arith) ∙ w.same e (omega arith)
            ∙ sym (first_at n (fixed_places n m) arrows (omega (arith, f.room.in_arrows)) e h)

-- ---- laid-out arrows are what a relaxation asks for

below_high : (z : ℤ) → z ≤ℤ pos 16777216 → below (neg_ℤ z) ≤ 16777216
below_high (pos n) h = omega (lin, negs (pos n))
below_high (negsuc n) h = omega (lin, negs (negsuc n))

module _ (N : Network) (legal : Legal N) (rules : List Rule) (arrows : List Arrow) (bases : List ℤ) (room : Room N rules arrows bases) (n P : ℕ) (small : P ≤ 10000000) where
  -- a high rule keeps its register at or below 2 ^ 24
  highest : (v : ℕ) → 0 < v → v < N.registers → below (ruleAmount N P (High v)) ≤ 16777216
  highest v z b =
      let h = legal.high v b in
      below_high (N.high v) (omega lin)

  modest : (r : Rule) → (family.graph_of N).Here r → Modest (ruleAmount N P r)
  modest r h = let b = amount_modest legal P r small h in record { from = b.from; to = b.to }

  module _ (names : Enumerates (family.graph_of N) (named rules) (rule_count N)) (y : Lays (family.graph_of N) (named rules) (ruleAmount N P) (among n (take (rule_count N) arrows))) where
    abbrev all_named : Enumerates (family.graph_of N) (named rules) (among n (take (rule_count N) arrows)).count
    all_named = first_enumerates n (rule_count N) arrows room.in_arrows names

    -- all rules are what a relaxation may be given
    pub laid_shape : Shape (among n (take (rule_count N) arrows))
    laid_shape =
        let few = legal.registers_to in
        let same = y.registers in
        let all = rules_few N legal in
        let count = first_count n (rule_count N) arrows room.in_arrows in
        record {
          sound = framed_sound (family.graph_of N) (rules_framed N (legal_joined N legal)) (named rules) (ruleAmount N P) _ all_named y;
          few = omega arith;
          named = omega arith;
          long = omega arith;
          modest = λ e h. rw (y.amounts e h) (modest (named rules e) (all_named.here e h));
        }

    -- and each register has a high rule that keeps it at or below 2 ^ 24
    pub laid_highs : Highs (among n (take (rule_count N) arrows)) 16777216
    laid_highs = framed_highs (family.graph_of N) (rules_framed N (legal_joined N legal)) (named rules) (ruleAmount N P) _ all_named y 16777216 highest

  module _ (f : Filled N rules arrows bases) (y : Lays (fixed_graph (family.rules N)) (named rules) (ruleAmount N P) (among n (take (fixed_rule_count N) arrows))) where
    abbrev fixed_count : (among n (take (fixed_rule_count N) arrows)).count ≡ fixed_rule_count N
    fixed_count = first_count n (fixed_rule_count N) arrows (omega (arith, room.in_arrows))

    abbrev fixed_named : Enumerates (fixed_graph (family.rules N)) (named rules) (among n (take (fixed_rule_count N) arrows)).count
    fixed_named = first_enumerates n (fixed_rule_count N) arrows (omega (arith, room.in_arrows)) f.fixed_enumerates

    -- so are the rules that do not know the period
    pub fixed_shape : Shape (among n (take (fixed_rule_count N) arrows))
    fixed_shape =
        let few = legal.registers_to in
        let same = y.registers in
        let all = rules_few N legal in
        let count = fixed_count in
        record {
          sound = framed_sound (fixed_graph (family.rules N)) (fixed_framed N (legal_joined N legal)) (named rules) (ruleAmount N P) _ fixed_named y;
          few = omega arith;
          named = omega arith;
          long = omega arith;
          modest = λ e h. rw (y.amounts e h) (modest (named rules e) (fixed_named.here e h).0);
        }

    -- and their high rules do the same
    pub fixed_highs : Highs (among n (take (fixed_rule_count N) arrows)) 16777216
    fixed_highs = framed_highs (fixed_graph (family.rules N)) (fixed_framed N (legal_joined N legal)) (named rules) (ruleAmount N P) _ fixed_named y 16777216 highest

    -- the low rule of register v stands at `low_place v`
    pub fixed_lows : Lows (among n (take (fixed_rule_count N) arrows)) low_place
    fixed_lows =
        let count = fixed_count in
        framed_lows (fixed_graph (family.rules N)) (fixed_framed N (legal_joined N legal)) (named rules) (ruleAmount N P) _ fixed_named y low_place
        (λ v z b. (omega arith, f.lows v z b))
