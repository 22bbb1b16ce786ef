-- What a slack tells. A question's slack is at least 0 exactly when the rule's inequality holds. And the slacks around a loop: the latencies
-- cancel, so that what is left is the sum of the amounts with its sign turned, and a loop that contradicts itself at the period less 1 has
-- slacks at the period that add up to less than the number of its setup rules. Rests on `RuleLaws` and `LoopLaws`.
use mathlib.Core.Path.{◌≡◌, refl, ap₂, ◌∙◌}
use mathlib.Core.Logic.{◌↔◌}
use mathlib.Core.List.{List, [], ◌∷◌}
use Prim.Native.Nat.{ℕ, zero, suc, ◌-◌, ◌<◌}
use native.Mathlib.Omega.{arith}
use native.Mathlib.Nat.{mul-suc}
use lib.IntN.{ℤ, pos, negsuc, ◌+ℤ◌, ◌-ℤ◌}
use lib.Signed.{◌≤ℤ◌, ◌<ℤ◌}
use Rattle.whole.specs.Sums.{total}
use Rattle.whole.proofs.Lin.{lin, plus, minus}
use Rattle.paper.specs.declared.Delay.{Delay}
use Rattle.std.specs.Prelude.{Ok}
use Rattle.paper.specs.Network.{Network}
use Rattle.paper.specs.declared.Rule.{Rule}
use Rattle.paper.specs.declared.Rule.TheVariants.{Setup, Hold, Low, High}
use Rattle.paper.specs.Rules.{HoldsAs, ◌≥ℤ◌, tail, head, amount, slack_by}
use Rattle.paper.specs.Chains.{Chain, Loop}
use Rattle.paper.specs.Schedule.{Schedule, IsLoop, Contradicts, setups}
use Rattle.paper.specs.File.{natural}
use Rattle.paper.specs.Question.{Question, Asked, slack_asked, Says, Yes, No}
use Rattle.paper.proofs.RuleLaws.{slack_is, met_is_written}
use Rattle.paper.proofs.LoopLaws.{total_at, loop_binds_schedule}
use Rattle.paper.proofs.NumberLaws.{asked_one}

-- ---- yes and no

-- a number that is not from 0 up is below 0
not_from_zero : (z : ℤ) → (z ≥ℤ pos 0 → ⊥) → z <ℤ pos 0
not_from_zero (pos n) h = absurd (h (omega lin))
not_from_zero (negsuc n) h = omega lin

module _ (N : Network) (q : Question) (d : Delay) (says : Says N q (Ok d)) (r : Rule) (asked-for : Asked N q r) where
  -- a question asks for one rule, so the slack that is told is this one's
  pub slack_told : d.0 ≡ slack_asked N q r
  slack_told = says.2 ∙ rw (asked_one N q says.0 r says.1 asked-for)

  -- the rule's inequality, with the latencies that are given
  abbrev Written : Type 0
  Written = HoldsAs N (natural q.period) r q.tail_latency q.head_latency

  -- RULES 8.5: "the answer is yes exactly when the inequality of the rule holds, and else no"
  pub slack_yes : Yes (Ok d) ↔ Written
  slack_yes = rw slack_told (met_is_written N (natural q.period) r q.tail_latency q.head_latency)

  pub slack_no : No (Ok d) ↔ (Written → ⊥)
  slack_no = ((λ n h. let y = slack_yes.1 h in omega lin), (λ n. not_from_zero d.0 (λ y. n (slack_yes.0 y))))

-- ---- around a loop

-- what leaves a number as it was is 0
nothing_added : (a b : ℤ) → a +ℤ b ≡ a → b ≡ pos 0
nothing_added a b e = omega lin

-- of any kind of arrow: by how much the head's latency lies above the tail's plus the amount
module _ {E : Type 0} (tail head : E → ℕ) (amount : E → ℤ) (x : ℕ → ℤ) where
  abbrev spare : E → ℤ
  spare e = x (head e) -ℤ (x (tail e) +ℤ amount e)

  -- along a chain each register's latency is added where an arrow reaches it, and taken off where the next one leaves it
  chain_spares : (u : ℕ) (l : List E) (v : ℕ) → Chain tail head u l v → x u +ℤ (total spare l +ℤ total amount l) ≡ x v
  chain_spares u [] v c = rw c (omega lin)
  chain_spares u (e ∷ l) v c =
      let rest = chain_spares (head e) l v c.1 in
      let here : x u ≡ x (tail e) = rw c.0 in
      let s = total spare l in
      let a = total amount l in
      omega (
        lin,
        plus (x u) ((spare e +ℤ s) +ℤ (amount e +ℤ a)),
        plus (spare e +ℤ s) (amount e +ℤ a),
        plus (spare e) s,
        plus (amount e) a,
        plus (x (head e)) (s +ℤ a),
        plus s a,
        minus (x (head e)) (x (tail e) +ℤ amount e),
        plus (x (tail e)) (amount e),
      )

  -- so around a loop nothing is left of them
  pub loop_spares : (l : List E) → Loop tail head l → total spare l +ℤ total amount l ≡ pos 0
  loop_spares [] c = absurd c
  loop_spares (e ∷ l) c = nothing_added (x (tail e)) _ (chain_spares (tail e) (e ∷ l) (tail e) c.0)

module _ (N : Network) where
  -- with the host at 0, as a schedule has it, a rule's slack is that of its arrow
  slack_spare : (P : ℕ) (x : ℕ → ℤ) → x 0 ≡ pos 0 → (r : Rule) → slack_by N P x r ≡ spare (tail N) (head N) (amount N P) x r
  slack_spare P x host (Setup p) = slack_is N P (Setup p) (x (N.from p)) (x (N.to p))
  slack_spare P x host (Hold p) = slack_is N P (Hold p) (x (N.to p)) (x (N.from p))
  slack_spare P x host (Low i) = rw host (slack_is N P (Low i) (pos 0) (x i))
  slack_spare P x host (High i) = rw host (slack_is N P (High i) (x i) (pos 0))

  slacks_are : (P : ℕ) (x : ℕ → ℤ) → x 0 ≡ pos 0 → (l : List Rule) → total (slack_by N P x) l ≡ total (spare (tail N) (head N) (amount N P) x) l
  slacks_are P x host [] = refl
  slacks_are P x host (r ∷ l) = ap₂ ◌+ℤ◌ (slack_spare P x host r) (slacks_are P x host l)

  -- RULES 15.7: "the latencies cancel around the loop, so the sum of the slacks is that of the amounts with its sign turned"
  pub loop_slacks : (P : ℕ) (x : ℕ → ℤ) → x 0 ≡ pos 0 → (l : List Rule) → IsLoop N l → total (slack_by N P x) l +ℤ total (amount N P) l ≡ pos 0
  loop_slacks P x host l i = rw (slacks_are P x host l) (loop_spares (tail N) (head N) (amount N P) x l i.loop)

  -- RULES 15.7: "At the period less 1 .. each setup rule's amount is 1 more there than at the period."
  pub one_period_less : (P : ℕ) (l : List Rule) → 0 < P → total (amount N (P - 1)) l ≡ total (amount N P) l +ℤ pos (setups l)
  one_period_less zero l h = absurd (omega arith)
  one_period_less (suc P) l h =
      let less : suc P - 1 ≡ P = omega arith in
      rw less (omega (lin, total_at N P l, total_at N (suc P) l, mul-suc (setups l) P))

  -- So the slacks at the period add up to less than the number of setup rules exactly when the amounts at the period less 1 add up to at least 1.
  pub slacks_below : (P : ℕ) (x : ℕ → ℤ) → 0 < P → x 0 ≡ pos 0 → (l : List Rule) → IsLoop N l
      → (total (slack_by N P x) l <ℤ pos (setups l)) ↔ Contradicts N (P - 1) l
  slacks_below P x from host l i =
      let s = loop_slacks P x host l i in
      let a = one_period_less P l from in
      ((λ h. omega lin), (λ h. omega lin))

  -- RULES 15.7: "The sum is at least 0, since the answer meets every rule."
  pub slacks_from : (P : ℕ) (x : ℕ → ℤ) → Schedule N P x → (l : List Rule) → IsLoop N l → pos 0 ≤ℤ total (slack_by N P x) l
  slacks_from P x s l i = omega (lin, loop_slacks P x s.host l i, loop_binds_schedule N P x s l i)
