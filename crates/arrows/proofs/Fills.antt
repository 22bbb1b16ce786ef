-- Filling, register by register and then path by path: each turn writes its rules, and what stood before stands, since no two rules share a
-- place. At the end every place has its rule. Rests on the places of `loops`.
use native.Mathlib.Decide.{ℕ_discrete}
use Rattle.std.proofs.Common.{◌≡◌, ◌≢◌, refl, length-set, ℕ, ◌+◌, ◌≤◌, ◌<◌, List, length, set, ℤ, pos, arith, ◌∙◌}
use Rattle.std.proofs.lemmas.Grind.{get_or-set_at}
use Rattle.std.proofs.lemmas.List.{get_or-set_other}
use Rattle.paper.specs.Network.{Network}
use Rattle.paper.specs.declared.Rule.{Rule}
use Rattle.paper.specs.declared.Rule.TheVariants.{Setup, Hold, Low, High}
use Rattle.paper.specs.Rules.{Exists, tail, head, base}
use Rattle.loops.specs.declared.Arrow.{Arrow}
use Rattle.loops.specs.Arrows.{arrow_at}
use Rattle.loops.specs.Family.{Graph, Enumerates, fixed_graph}
use Rattle.loops.specs.RuleFamily as family
use Rattle.loops.specs.RuleFamily.{IsFixed}
use Rattle.loops.specs.Names.{named}
use Rattle.loops.specs.Layout.{low_place, high_place, hold_place, setup_place, fixed_rule_count, rule_count, rule_at, place_of}
use Rattle.loops.proofs.Places.{rule_cases, rule_exists, rules_enumerate, fixed_enumerates}
use Rattle.arrows.specs.Filled.{Filled}
use Rattle.arrows.specs.Filling.{Stands, HasBase, Windows, Paths}

-- a rule that does not know the period, with its arrow and its amount
abbrev Whole : Network → List Rule → List Arrow → Rule → Type 0
Whole N rules arrows r = Stands N rules arrows r × HasBase N arrows r

-- ---- two rules are written, r at place e and then s at place g, with their arrows

-- x at place e of a list, and then y at place g
abbrev written : {A : Type 0} → List A → ℕ → A → ℕ → A → List A
written l e x g y = set (set l e x) g y

module _ {N : Network} (rules : List Rule) (arrows : List Arrow) (e g : ℕ) (r s : Rule) (a b : Arrow) where
  -- a rule that has neither place stands where it stood
  stands_kept : (q : Rule) → place_of N q ≢ e → place_of N q ≢ g → Stands N rules arrows q → Stands N (written rules e r g s) (written arrows e a g b) q
  stands_kept q x y h = record {
    is = grind (arith, get_or-set_other, h.is);
    leaves = grind (arith, get_or-set_other, h.leaves);
    reaches = grind (arith, get_or-set_other, h.reaches);
  }

  whole_kept : (q : Rule) → place_of N q ≢ e → place_of N q ≢ g → Whole N rules arrows q → Whole N (written rules e r g s) (written arrows e a g b) q
  whole_kept q x y h = (stands_kept q x y h.0, grind (arith, get_or-set_other, h.1))

  module _ (apart : e ≢ g) (room : e < length rules) (arrows_room : e < length arrows) where
    -- the first stands where it was written
    whole_first : place_of N r ≡ e → a.tail ≡ tail N r → a.head ≡ head N r → a.amount ≡ base N r → Whole N (written rules e r g s) (written arrows e a g b) r
    whole_first place leaves reaches weighs =
        let rule : named (written rules e r g s) e ≡ r = grind (arith, get_or-set_at, get_or-set_other) in
        let arrow : arrow_at (written arrows e a g b) e ≡ a = grind (arith, get_or-set_at, get_or-set_other) in
        (record { is = cc; leaves = cc; reaches = cc }, cc)

  -- and so does the second
  module _ (room : g < length rules) (arrows_room : g < length arrows) where
    stands_second : place_of N s ≡ g → b.tail ≡ tail N s → b.head ≡ head N s → Stands N (written rules e r g s) (written arrows e a g b) s
    stands_second place leaves reaches =
        let rule : named (written rules e r g s) g ≡ s = grind (arith, get_or-set_at, length-set) in
        let arrow : arrow_at (written arrows e a g b) g ≡ b = grind (arith, get_or-set_at, length-set) in
        record { is = cc; leaves = cc; reaches = cc }

    whole_second : place_of N s ≡ g → b.tail ≡ tail N s → b.head ≡ head N s → b.amount ≡ base N s → Whole N (written rules e r g s) (written arrows e a g b) s
    whole_second place leaves reaches weighs =
        let arrow : arrow_at (written arrows e a g b) g ≡ b = grind (arith, get_or-set_at, length-set) in
        (stands_second place leaves reaches, cc)

-- ---- a turn

-- register i's two rules, one after the other
pub windows_more : {N : Network} {rules : List Rule} {arrows : List Arrow} {n i e g : ℕ} {x y : ℤ} → n ≡ N.registers → i < n → e ≡ low_place i → g ≡ high_place n i
    → x ≡ base N (Low i) → y ≡ base N (High i) → Windows N rules arrows i
    → Windows N (written rules e (Low i) g (High i)) (written arrows e (record { tail = 0; head = i; amount = x }) g (record { tail = i; head = 0; amount = y })) (i + 1)
windows_more {rules = rules} {arrows = arrows} {i = i} {e = e} {g = g} registers below at_low at_high of_low of_high w =
    let some = w.some in
    let r = w.wide in
    record {
      wide = record { in_rules = grind (arith, length-set, r); in_arrows = grind (arith, length-set, r) };
      some = omega arith;
      low = λ j z b.
          elim (ℕ_discrete j i) [
            | yes h ↦ rw h (whole_first rules arrows e g _ _ _ _ (omega arith) (omega arith) (omega arith) (omega arith) refl refl of_low)
            | no h ↦ whole_kept rules arrows e g _ _ _ _ (Low j) (omega arith) (omega arith) (w.low j z (omega arith))
          ];
      high = λ j z b.
          elim (ℕ_discrete j i) [
            | yes h ↦ rw h (whole_second rules arrows e g _ _ _ _ (omega arith) (omega arith) (omega arith) refl refl of_high)
            | no h ↦ whole_kept rules arrows e g _ _ _ _ (High j) (omega arith) (omega arith) (w.high j z (omega arith))
          ];
    }

-- path p's two rules, and what the setup rule's amount is without the period
pub paths_more : {N : Network} {rules : List Rule} {arrows : List Arrow} {bases : List ℤ} {n m p e g from to : ℕ} {x y : ℤ} → n ≡ N.registers → m ≡ N.paths → p < m
    → from ≡ N.from p → to ≡ N.to p → e ≡ hold_place n p → g ≡ setup_place n m p → x ≡ base N (Hold p) → y ≡ base N (Setup p) → Paths N rules arrows bases p
    → Paths N (written rules e (Hold p) g (Setup p))
    (written arrows e (record { tail = to; head = from; amount = x }) g (record { tail = from; head = to; amount = pos 0 })) (set bases p y) (p + 1)
paths_more {rules = rules} {arrows = arrows} {p = p} {e = e} {g = g} registers paths below leaves reaches at_hold at_setup of_hold of_setup w =
    let some = w.windows.some in
    let r = w.windows.wide in
    record {
      windows = record {
        wide = record { in_rules = grind (arith, length-set, r); in_arrows = grind (arith, length-set, r) };
        some = some;
        low = λ j z b. whole_kept rules arrows e g _ _ _ _ (Low j) (omega arith) (omega arith) (w.windows.low j z b);
        high = λ j z b. whole_kept rules arrows e g _ _ _ _ (High j) (omega arith) (omega arith) (w.windows.high j z b);
      };
      in_bases = let b = w.in_bases in grind (arith, length-set);
      hold = λ q b.
          elim (ℕ_discrete q p) [
            | yes h ↦ rw h (whole_first rules arrows e g _ _ _ _ (omega arith) (omega arith) (omega arith) (omega arith) reaches leaves of_hold)
            | no h ↦ whole_kept rules arrows e g _ _ _ _ (Hold q) (omega arith) (omega arith) (w.hold q (omega arith))
          ];
      setup = λ q b.
          elim (ℕ_discrete q p) [
            | yes h ↦ rw h (stands_second rules arrows e g _ _ _ _ (omega arith) (omega arith) (omega arith) leaves reaches)
            | no h ↦ stands_kept rules arrows e g _ _ _ _ (Setup q) (omega arith) (omega arith) (w.setup q (omega arith))
          ];
      based = λ q b. let r = w.in_bases in grind (arith, get_or-set_at, get_or-set_other, w.based q);
    }

-- ---- all rules

-- the rule at a place has that place
rule_place : (N : Network) (e : ℕ) → e < rule_count N → place_of N (rule_at N e) ≡ e
rule_place N e h = rule_cases N (λ r. place_of N r ≡ e) e (λ a. omega arith) (λ a b. omega arith) (λ a b. omega arith) (λ a. omega arith)

-- other names for the same arrows
enumerates_same : {E : Type 0} (G : Graph E) (old name : ℕ → E) (count : ℕ) → ((e : ℕ) → e < count → name e ≡ old e) → Enumerates G old count → Enumerates G name count
enumerates_same G old name count same names = record {
  here = λ e h. rw (same e h) (names.here e h);
  found = λ r h. let (e, b, is) = names.found r h in (e, b, same e b ∙ is);
}

module _ {N : Network} {rules : List Rule} {arrows : List Arrow} {bases : List ℤ} {k : ℕ} (all : N.paths ≤ k) (w : Paths N rules arrows bases k) where
  stands : (r : Rule) → Exists N r → Stands N rules arrows r
  stands (Setup p) h = w.setup p (omega arith)
  stands (Hold p) h = (w.hold p (omega arith)).0
  stands (Low i) h = (w.windows.low i h.0 h.1).0
  stands (High i) h = (w.windows.high i h.0 h.1).0

  weighs : (r : Rule) → Exists N r → IsFixed r → HasBase N arrows r
  weighs (Setup p) h z = absurd z
  weighs (Hold p) h z = (w.hold p (omega arith)).1
  weighs (Low i) h z = (w.windows.low i h.0 h.1).1
  weighs (High i) h z = (w.windows.high i h.0 h.1).1

  -- the rule at each place
  there : (e : ℕ) → e < rule_count N → Stands N rules arrows (rule_at N e)
  there e h = stands (rule_at N e) (rule_exists N e h)

  name_is : (e : ℕ) → e < rule_count N → named rules e ≡ rule_at N e
  name_is e h = let p = rule_place N e h in let s = there e h in cc

  -- once every path has its rules, the lists are filled
  pub paths_all : Filled N rules arrows bases
  paths_all = record {
    room = record { in_rules = w.windows.wide.in_rules; in_arrows = w.windows.wide.in_arrows; in_bases = w.in_bases };
    enumerates = enumerates_same (family.graph_of N) (rule_at N) (named rules) (rule_count N) name_is (rules_enumerate N);
    fixed_enumerates =
        enumerates_same (fixed_graph (family.rules N)) (rule_at N) (named rules) (fixed_rule_count N) (λ e h. name_is e (omega arith)) (fixed_enumerates N);
    leaves = λ e h. let p = rule_place N e h in let s = there e h in let n = name_is e h in cc;
    reaches = λ e h. let p = rule_place N e h in let s = there e h in let n = name_is e h in cc;
    fixed = λ e h.
        let p = rule_place N e (omega arith) in
        let f = (fixed_enumerates N).here e h in
        let s = weighs (rule_at N e) f.0 f.1 in
        let n = name_is e (omega arith) in
        cc;
    setups = λ p h. (w.setup p (omega arith)).is;
    based = λ p h. w.based p (omega arith);
    lows = λ v z b. (w.windows.low v z b).0.is;
  }
