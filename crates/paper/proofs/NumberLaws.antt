-- The cases from their numbers and places, which they have from one definition (RULES 14.5). A refusal is known from its number and place,
-- and has a number other than 0 and 7 to 9. That one law is all that is used of refusals here, and from it follow one outcome and one reply,
-- whatever the network and the table of numbers. Rests on `TableLaws`.
use mathlib.Core.Path.{◌≡◌, refl, sym, ap, ap₂, ◌∙◌}
use mathlib.Core.Logic.{inl, inr}
use mathlib.Core.List.{List, [], ◌∷◌}
use mathlib.Core.Bool.{cond}
use Prim.Native.Nat.{ℕ, ◌<◌}
use native.Mathlib.Omega.{arith}
use lib.ListN.{get_or}
use lib.Dec.{eqb}
use Rattle.whole.proofs.Lin.{lin}
use Rattle.paper.specs.declared.Fault.{Fault}
use Rattle.paper.specs.declared.Fault.TheVariants.{Header, Counts, Length, Ranges, Register, Path}
use Rattle.paper.specs.declared.Refusal.{Refusal}
use Rattle.paper.specs.declared.Refusal.TheVariants.{File, Question}
use Rattle.std.specs.Prelude.{Ok, Err}
use Rattle.paper.specs.declared.Unanswered.TheVariants as unanswered
use Rattle.paper.specs.declared.Delay.{Delay}
use Rattle.paper.specs.Network.{Network}
use Rattle.paper.specs.declared.Rule.{Rule}
use Rattle.paper.specs.declared.Rule.TheVariants.{Setup, Hold, Low, High}
use Rattle.paper.specs.Rules.{kind, number}
use Rattle.paper.specs.Table.{Row}
use Rattle.paper.specs.Refusals.{faults}
use Rattle.paper.specs.Numbers.{Outcome, Reply, fault_number, fault_place, refusal_number, refusal_place, outcome_number, outcome_place, reply_number, reply_place}
use Rattle.paper.specs.Outcome.{Result}
use Rattle.paper.specs.Question as asking
use Rattle.paper.proofs.TableLaws.{OnePlaces, ByRow, given_one}

-- ---- the one law of refusals

-- what a number and a place stand for: a refusal, or none
pub data Found : Type 0 where
  none : Found
  found : Refusal → Found

-- number n at place p
abbrev pub refusal_of : ℕ → ℕ → Found
refusal_of n p =
    get_or
    (none
    ∷ found (File Header)
    ∷ found (File Counts)
    ∷ found (File Length)
    ∷ found (File Ranges)
    ∷ found (File (Register p))
    ∷ found (File (Path p))
    ∷ none
    ∷ none
    ∷ none
    ∷ found Question
    ∷ [])
    n
    none

-- A refusal is found again from its number and place, and 0, 7, 8 and 9 are no refusal's: there `refusal_of` finds none.
pub refusal_back : (x : Refusal) → refusal_of (refusal_number x) (refusal_place x) ≡ found x
refusal_back (File Header) = refl
refusal_back (File Counts) = refl
refusal_back (File Length) = refl
refusal_back (File Ranges) = refl
refusal_back (File (Register i)) = refl
refusal_back (File (Path p)) = refl
refusal_back Question = refl

-- so a refusal is known from its number and place
pub refusal_known : (x y : Refusal) → refusal_number x ≡ refusal_number y → refusal_place x ≡ refusal_place y → x ≡ y
refusal_known x y n p =
    let a = refusal_back x in
    let b = refusal_back y in
    let c = ap₂ refusal_of n p in
    let e : found x ≡ found y = sym a ∙ c ∙ b in
    cc

-- and a number that finds none is not a refusal's
pub refusal_apart : (x : Refusal) (n : ℕ) → ((p : ℕ) → refusal_of n p ≡ none) → n ≡ refusal_number x → ⊥
refusal_apart x n h e =
    let b = refusal_back x in
    let k = h (refusal_place x) in
    let z : ◌≡◌ {A = ℕ} 0 1 = cc in
    omega arith

-- no refusal has number 0
pub refusal_above : (x : Refusal) → 0 < refusal_number x
refusal_above x = let h = refusal_apart x 0 (λ p. refl) in omega arith

-- ---- the rows of the file's faults

-- numbers 1 to 6 are the file's
pub fault_numbers : (x : Fault) → (0 < fault_number x) × (fault_number x < 7)
fault_numbers Header = omega arith
fault_numbers Counts = omega arith
fault_numbers Length = omega arith
fault_numbers Ranges = omega arith
fault_numbers (Register i) = omega arith
fault_numbers (Path p) = omega arith

-- what a row of the faults gives is the number and the place of a fault
pub fault_of_row : (f : List ℕ) (n p : ℕ) → ByRow (faults f) n p → (x : Fault) × (n ≡ fault_number x) × (p ≡ fault_place x)
fault_of_row f n p (inl g) = (Header, g.0, g.1.1)
fault_of_row f n p (inr (s, inl g)) = (Counts, g.0, g.1.1)
fault_of_row f n p (inr (s, inr (t, inl g))) = (Length, g.0, g.1.1)
fault_of_row f n p (inr (s, inr (t, inr (u, inl g)))) = (Ranges, g.0, g.1.1)
fault_of_row f n p (inr (s, inr (t, inr (u, inr (v, inl g))))) = (Register p, g.0, refl)
fault_of_row f n p (inr (s, inr (t, inr (u, inr (v, inr (w, inl g)))))) = (Path p, g.0, refl)
fault_of_row f n p (inr (s, inr (t, inr (u, inr (v, inr (w, inr g)))))) = absurd g.1

-- what a row of the table gives is the number and the place of a refusal
abbrev pub Refuses : List Row → Type 0
Refuses t = (n p : ℕ) → ByRow t n p → (x : Refusal) × (n ≡ refusal_number x) × (p ≡ refusal_place x)

-- every row of the faults gives a refusal
pub faults_refuse : (f : List ℕ) → Refuses (faults f)
faults_refuse f n p b = let x = fault_of_row f n p b in (File x.0, x.1, x.2)

-- ---- one outcome

-- the refusal that an outcome is, or none
abbrev pub refusal_in : Outcome → Found
refusal_in (Ok tt) = none
refusal_in (Err (unanswered.Refused x)) = found x
refusal_in (Err unanswered.Room) = none
refusal_in (Err unanswered.NoPeriod) = none
refusal_in (Err unanswered.NoneToCeiling) = none

-- an outcome is known from its number and place
pub outcome_known : (a b : Outcome) → outcome_number a ≡ outcome_number b → outcome_place a ≡ outcome_place b → a ≡ b
outcome_known a b n p = sym (back a) ∙ ap₂ (λ n p. outcome_of (refusal_of n p) n) n p ∙ back b
  where
    outcome_of : Found → ℕ → Outcome
    outcome_of none n = cond (eqb n 0) (Ok tt) (cond (eqb n 7) (Err unanswered.Room) (cond (eqb n 8) (Err unanswered.NoPeriod) (Err unanswered.NoneToCeiling)))
    outcome_of (found x) n = Err (unanswered.Refused x)

    back : (o : Outcome) → outcome_of (refusal_of (outcome_number o) (outcome_place o)) (outcome_number o) ≡ o
    back (Ok tt) = refl
    back (Err (unanswered.Refused x)) = ap (λ k. outcome_of k (refusal_number x)) (refusal_back x)
    back (Err unanswered.Room) = refl
    back (Err unanswered.NoPeriod) = refl
    back (Err unanswered.NoneToCeiling) = refl

-- one outcome, whatever is left in the output
pub outcome_one : {N : Network} {rows : List Row} {before after after' : List ℕ} {o o' : Outcome} → OnePlaces rows
    → Result N rows before o after → Result N rows before o' after' → o ≡ o'
outcome_one {rows = rows} {o = o} {o' = o'} one a b =
    let e = given_one rows one _ _ _ _ a.given b.given in
    outcome_known o o' e.0 e.1

-- ---- one reply

-- a rule is named by its kind and its number
pub rule_named : (r s : Rule) → kind r ≡ kind s → number r ≡ number s → r ≡ s
rule_named r s k n = sym (back r) ∙ ap₂ rule_of k n ∙ back s
  where
    rule_of : ℕ → ℕ → Rule
    rule_of k n = get_or (Setup n ∷ Hold n ∷ Low n ∷ []) k (High n)

    back : (r : Rule) → rule_of (kind r) (number r) ≡ r
    back (Setup p) = refl
    back (Hold p) = refl
    back (Low i) = refl
    back (High i) = refl

module _ (N : Network) (q : asking.Question) where
  -- a question asks for one rule
  pub asked_one : (r s : Rule) → asking.Asked N q r → asking.Asked N q s → r ≡ s
  asked_one r s a b =
      let k = a.of_kind in
      let l = b.of_kind in
      let m = a.of_number in
      let n = b.of_number in
      rule_named r s (omega lin) (omega lin)

  -- so two slacks that answer it are one
  one_slack : (d e : Delay) → asking.Says N q (Ok d) → asking.Says N q (Ok e) → ◌≡◌ {A = Reply} (Ok d) (Ok e)
  one_slack d e (r, a, k) (s, b, l) = ap asking.with_slack (k ∙ sym (rw (asked_one r s a b) l))

  -- a slack is known from the rule that is asked for, a refusal from its number and place, which no slack has
  said_one : (a b : Reply) → reply_number a ≡ reply_number b → reply_place a ≡ reply_place b → asking.Says N q a → asking.Says N q b → a ≡ b
  said_one (Ok d) (Ok e) n p s t = one_slack d e s t
  said_one (Ok d) (Err y) n p s t = absurd (refusal_apart y 0 (λ p. refl) n)
  said_one (Err x) (Ok e) n p s t = absurd (refusal_apart x 0 (λ p. refl) (sym n))
  said_one (Err x) (Err y) n p s t = ap Err (refusal_known x y n p)

-- RULES 15.1: "A rule question that is not refused answers one whole number": no two replies answer one question
pub reply_one : {N : Network} {rows : List Row} {q : asking.Question} {a b : Reply} → OnePlaces rows
    → asking.Answers N rows q a → asking.Answers N rows q b → a ≡ b
reply_one {N} {rows} {q} {a} {b} one h k =
    let e = given_one rows one _ _ _ _ h.given k.given in
    said_one N q a b e.0 e.1 h.says k.says
