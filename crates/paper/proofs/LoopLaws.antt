-- What a loop asks of the period: with setup rules it contradicts itself exactly below its need; without any it contradicts itself at
-- every period or at none. And what it does to schedules: where it contradicts itself, there is none. Rests on `RuleLaws`, and on
-- rounding up (`whole`).
use mathlib.Core.Path.{◌≡◌, refl, sym, ap, ◌∙◌}
use mathlib.Core.Logic.{◌↔◌, ◌≢◌, ◌⊎◌, inl, inr}
use mathlib.Core.List.{List, [], ◌∷◌}
use Prim.Native.Nat.{ℕ, zero, suc, ◌+◌, ◌*◌, ◌≤◌, ◌<◌}
use native.Mathlib.Omega.{arith}
use native.Mathlib.Nat.{suc-mul, mul_comm, add-mul, lt_of_mul-lt-mul_right}
use lib.IntN.{ℤ, pos, negsuc, ◌+ℤ◌, ◌-ℤ◌, ◌*ℤ◌}
use lib.Signed.{◌≤ℤ◌, ◌<ℤ◌}
use lib.ListN.{length, get_or}
use Rattle.whole.specs.Sums.{total}
use Rattle.whole.specs.Rounding.{round_up}
use Rattle.whole.proofs.Lin.{lin, plus, minus, negs, above, below}
use Rattle.whole.proofs.Rounding.{times, up_enough, up_least, up_only}
use Rattle.paper.specs.Network.{Network}
use Rattle.paper.specs.declared.Rule.{Rule}
use Rattle.paper.specs.declared.Rule.TheVariants.{Setup, Hold, Low, High}
use Rattle.paper.specs.Rules.{Exists, tail, head, base, amount}
use Rattle.paper.specs.Chains.{All, Chain, Once, Loop}
use Rattle.paper.specs.Schedule.{Schedule, IsLoop, Contradicts, setups, need, Refutes}
use Rattle.paper.proofs.RuleLaws.{arrow_is_rule, schedule_stays}

-- what holds of every member holds of the one at each place
pub all_at : {E : Type 0} (P : E → Type 0) (l : List E) → All P l → (d : E) (j : ℕ) → j < length l → P (get_or l j d)
all_at P [] a d j h = absurd (omega arith)
all_at P (e ∷ l) a d zero h = a.0
all_at P (e ∷ l) a d (suc j) h = all_at P l a.1 d j (omega arith)

-- what holds of all that P holds of, holds of all members
pub all_map : {E : Type 0} {P Q : E → Type 0} → ((e : E) → P e → Q e) → (l : List E) → All P l → All Q l
all_map f [] h = tt
all_map f (e ∷ l) h = (f e h.0, all_map f l h.1)

-- RULES 2.3: "the latency at the arrow's head .. is at least the latency at its tail .. plus the amount": of any kind of arrow, added up
module _ {E : Type 0} (tail head : E → ℕ) (amount : E → ℤ) (x : ℕ → ℤ) where
  -- x meets arrow e
  abbrev pub Meets : E → Type 0
  Meets e = (x (tail e) +ℤ amount e) ≤ℤ x (head e)

  -- The first arrow lifts x u by its amount at most to its head, and the rest of the chain goes on from there.
  chain_binds : (u : ℕ) (l : List E) (v : ℕ) → All Meets l → Chain tail head u l v → (x u +ℤ total amount l) ≤ℤ x v
  chain_binds u [] v h c = rw c (omega lin)
  chain_binds u (e ∷ l) v h c =
      let first : (x u +ℤ amount e) ≤ℤ x (head e) = rw c.0 at h.0 in
      let rest = chain_binds (head e) l v h.1 c.1 in
      omega (lin, plus (amount e) (total amount l))

  -- Around a loop the chain comes back to where it started, so nothing is left for the amounts above 0.
  pub loop_binds : (l : List E) → All Meets l → Loop tail head l → total amount l ≤ℤ pos 0
  loop_binds [] h c = absurd c
  loop_binds (e ∷ l) h c =
      let once = chain_binds (tail e) (e ∷ l) (tail e) h c.0 in
      omega (lin, plus (amount e) (total amount l))

-- RULES 4.1: "It passes each register at most once.": at two places of a loop stand arrows that leave different registers
module _ {E : Type 0} (tail head : E → ℕ) where
  once_apart : (l : List E) → Once tail head l → (d : E) (i j : ℕ) → i < j → j < length l → tail (get_or l j d) ≢ tail (get_or l i d)
  once_apart [] o d i j h k = absurd (omega arith)
  once_apart (e ∷ l) o d i zero h k = absurd (omega arith)
  once_apart (e ∷ l) o d zero (suc j) h k = all_at (λ f. tail f ≢ tail e) l o.0 d j (omega arith)
  once_apart (e ∷ l) o d (suc i) (suc j) h k = once_apart l o.1 d i j (omega arith) (omega arith)

  pub loop_passes_once : (l : List E) → Loop tail head l → (d : E) (i j : ℕ) → i < j → j < length l → tail (get_or l j d) ≢ tail (get_or l i d)
  loop_passes_once [] o d i j h k = absurd o
  loop_passes_once (e ∷ l) o d i j h k = once_apart (e ∷ l) o.1 d i j h k

  -- an arrow that does not lead back to the register it leaves
  abbrev pub Apart : E → Type 0
  Apart e = tail e ≢ head e

  -- Along a chain that ends at t, where no arrow leaves t, none leads back: it reaches the register that the next one leaves, or t.
  chain_apart : (t : ℕ) (u : ℕ) (l : List E) → Chain tail head u l t → All (λ e. tail e ≢ t) l → Once tail head l → All Apart l
  chain_apart t u [] c a o = tt
  chain_apart t u (e ∷ []) c a o = ((λ self. a.0 (self ∙ c.1)), tt)
  chain_apart t u (e ∷ f ∷ l) c a o =
      ((λ self. o.0.0 (c.1.0 ∙ sym self)), chain_apart t (head e) (f ∷ l) c.1 a.1 o.1)

  -- So a loop is one arrow, or none of its arrows leads back: one that does is on no loop but the one it is by itself.
  pub alone_or_apart : (l : List E) → Loop tail head l → ((e : E) × (l ≡ e ∷ [])) ⊎ All Apart l
  alone_or_apart [] o = absurd o
  alone_or_apart (e ∷ []) o = inl (e, refl)
  alone_or_apart (e ∷ f ∷ l) o =
      let first : Apart e = λ self. o.1.0.0 (o.0.1.0 ∙ sym self) in
      inr (first, chain_apart (tail e) (head e) (f ∷ l) o.0.1 o.1.0 o.1.1)

-- Of a sum b that stands k · P above a: a is above 0 exactly where P is below b / k, rounded up. For k · P < b ≤ q · k puts P below q;
-- and where a is at most 0, b is at most P · k, so that P is enough.
module _ (a b : ℤ) (k P : ℕ) (some : 0 < k) (apart : a +ℤ pos (k * P) ≡ b) where
  over_below : (q : ℤ) → pos 0 <ℤ a → b ≤ℤ (q *ℤ pos k) → pos P <ℤ q
  over_below (pos n) h e = let l : P < n = lt_of_mul-lt-mul_right k (omega (lin, mul_comm k P)) in omega lin
  over_below (negsuc n) h e = absurd (omega (lin, negs (pos (suc n * k))))

below_over : (a b : ℤ) (k P : ℕ) → 0 < k → a +ℤ pos (k * P) ≡ b → pos P <ℤ round_up b k → pos 0 <ℤ a
below_over (pos zero) b k P some apart h = absurd (omega (lin, up_least b k (pos P) some (omega (lin, mul_comm k P))))
below_over (pos (suc n)) b k P some apart h = omega lin
below_over (negsuc n) b k P some apart h = absurd (omega (lin, up_least b k (pos P) some (omega (lin, mul_comm k P))))

-- q, which stands P above r, stands k · P above it when both are taken k times
shifted : (q r : ℤ) (P k : ℕ) → q ≡ pos P +ℤ r → q *ℤ pos k ≡ pos (k * P) +ℤ r *ℤ pos k
shifted q r P k e =
    let parts : above q + below r ≡ P + above r + below q = omega lin in
    let taken : (above q + below r) * k ≡ (P + above r + below q) * k = ap (λ n. n * k) parts in
    let sums = simp add-mul at taken in
    omega (lin, times q k, times r k, mul_comm k P)

-- so b / k, rounded up, stands P above a / k, rounded up
need_shifts : (a b : ℤ) (k P : ℕ) → 0 < k → a +ℤ pos (k * P) ≡ b → round_up b k ≡ pos P +ℤ round_up a k
need_shifts a b k P some apart =
    let e = shifted (pos P +ℤ round_up a k) (round_up a k) P k refl in
    sym (up_only b k (pos P +ℤ round_up a k) some (omega (lin, up_enough a k some)) least)
  where
    least : (s : ℤ) → b ≤ℤ (s *ℤ pos k) → (pos P +ℤ round_up a k) ≤ℤ s
    least s e =
        let f = shifted s (s -ℤ pos P) P k (omega (lin, minus s (pos P))) in
        let l = up_least a k (s -ℤ pos P) some (omega lin) in
        omega (lin, negs (pos P))

module _ (N : Network) where
  -- RULES 4.3: "the sum of its amounts without their P terms": each setup rule of a loop takes P off once
  pub total_at : (P : ℕ) (l : List Rule) → total (amount N P) l +ℤ pos (setups l * P) ≡ total (base N) l
  total_at P [] = omega lin
  total_at P (Setup p ∷ l) =
      let ih = total_at P l in
      omega (lin, suc-mul (setups l) P, minus (base N (Setup p)) (pos P), plus (base N (Setup p) -ℤ pos P) (total (amount N P) l))
  total_at P (Hold p ∷ l) = let ih = total_at P l in omega (lin, plus (base N (Hold p)) (total (amount N P) l))
  total_at P (Low i ∷ l) = let ih = total_at P l in omega (lin, plus (base N (Low i)) (total (amount N P) l))
  total_at P (High i ∷ l) = let ih = total_at P l in omega (lin, plus (base N (High i)) (total (amount N P) l))

  -- RULES 4.5: "A loop with setup rules contradicts itself at exactly the whole periods below its need."
  pub contradicts_below_need : (P : ℕ) (l : List Rule) → 0 < setups l → Contradicts N P l ↔ (pos P <ℤ need N l)
  contradicts_below_need P l h = (
    (λ c. over_below _ _ (setups l) P h (total_at P l) (need N l) c (up_enough (total (base N) l) (setups l) h)),
    below_over _ _ (setups l) P h (total_at P l),
  )

  -- RULES 4.5: "A loop without them contradicts itself at every period or at none."
  pub contradicts_always : (P Q : ℕ) (l : List Rule) → setups l ≡ 0 → Contradicts N P l ↔ Contradicts N Q l
  contradicts_always P Q l h = (at P Q, at Q P)
    where
      none : (P : ℕ) → setups l * P ≡ 0
      none P = rw h (omega arith)

      at : (P Q : ℕ) → Contradicts N P l → Contradicts N Q l
      at P Q c = omega (lin, total_at P l, total_at Q l, none P, none Q)

  -- RULES 4.3: "A loop that has k setup rules, k at least 1, needs a period": its need from its sum at any period P, of which only what is
  -- over P is rounded
  pub need_from : (P : ℕ) (l : List Rule) → 0 < setups l → need N l ≡ pos P +ℤ round_up (total (amount N P) l) (setups l)
  need_from P l h = need_shifts _ _ (setups l) P h (total_at P l)

  -- a schedule meets the arrow of every rule
  schedule_meets : (P : ℕ) (x : ℕ → ℤ) → Schedule N P x → (l : List Rule) → All (Exists N) l → All (Meets (tail N) (head N) (amount N P) x) l
  schedule_meets P x s = all_map (λ r e. (arrow_is_rule N P x r s.host).0 (s.meets r e))

  -- so along a chain, arrow after arrow
  pub chain_binds_schedule : (P : ℕ) (x : ℕ → ℤ) → Schedule N P x → (l : List Rule) (u v : ℕ)
      → All (Exists N) l → Chain (tail N) (head N) u l v → (x u +ℤ total (amount N P) l) ≤ℤ x v
  chain_binds_schedule P x s l u v e = chain_binds (tail N) (head N) (amount N P) x u l v (schedule_meets P x s l e)

  -- RULES 4.5: "at a period that has a schedule the amounts of every loop add up to at most 0"
  pub loop_binds_schedule : (P : ℕ) (x : ℕ → ℤ) → Schedule N P x → (l : List Rule) → IsLoop N l → total (amount N P) l ≤ℤ pos 0
  loop_binds_schedule P x s l i = loop_binds (tail N) (head N) (amount N P) x l (schedule_meets P x s l i.exist) i.loop

  -- a loop that contradicts itself at P leaves no schedule at P, nor at any shorter period
  pub no_schedule : (P Q : ℕ) (l : List Rule) → Refutes N P l → Q ≤ P → (x : ℕ → ℤ) → Schedule N Q x → ⊥
  no_schedule P Q l r h x s =
      let most = loop_binds_schedule P x (schedule_stays N Q P x h s) l r.is_loop in
      let over = r.contradicts in
      omega lin
