-- The numbers of a question: read back by the code as themselves, tested against their ranges, and small enough for the rule's sums; and what
-- was read of the file, which is small too. Rests on `Ranges` of `network`, and on `Ranges` and `Amounts` of `rules`.
use mathlib.Core.Path.{◌≡◌, refl, sym, ap₂, ◌∙◌}
use mathlib.Core.Bool.{true}
use mathlib.Core.List.{List}
use Prim.Native.Nat.{ℕ, ◌≤◌, ◌<◌}
use lib.IntN.{ℤ, pos, negsuc, ◌+ℤ◌, ◌-ℤ◌}
use mir.Syntax.{w32}
use mir.Val.{SFits, to_z, of_z}
use mir.Facts.{to_z-of_z}
use Rattle.whole.proofs.Lin.{lin}
use Rattle.paper.specs.declared.Rule.{Rule}
use Rattle.paper.specs.declared.Rule.TheVariants.{Setup, Hold, Low, High}
use Rattle.paper.specs.Network.{Network}
use Rattle.paper.specs.Rules.{base, amount}
use Rattle.paper.specs.File.{natural, within, network_of}
use Rattle.paper.specs.Refusals.{Accepted}
use Rattle.paper.specs.Limits.{most_registers, most_paths}
use Rattle.paper.specs.Question.{asked}
use Rattle.paper.proofs.Legal.{accepted_legal, both, within_is, natural_is}
use Rattle.paper.proofs.RuleLaws.{tail_read, head_read, slack_is}
use Rattle.network.specs.declared.Register.{Register}
use Rattle.network.specs.declared.Path.{Path}
use Rattle.network.specs.declared.Header.{Header}
use Rattle.network.specs.Records.{IsHeader, IsRegister, IsPath}
use Rattle.network.proofs.Ranges.{PathRanges, path_ranges, register_ranges}
use Rattle.rules.specs.Amounts.{Small, SmallRegister, SmallEnds, SmallArrow, OfPath}
use Rattle.rules.proofs.Ranges.{small_between, small_less, small_register, small_ends}
use Rattle.rules.proofs.Amounts.{base_small, amount_small}
use Rattle.skew.specs.Slack.{numbers_within, Askable, IsSlack}

-- ---- read back

-- a number as the code reads it back from a machine word
abbrev pub read : ℤ → ℤ
read z = to_z w32 (of_z w32 z)

-- a question that fits its words is read back as it is
pub asked_read : {period kind number tail head : ℤ}
    → SFits w32 period
    → SFits w32 kind
    → SFits w32 number
    → SFits w32 tail
    → SFits w32 head
    → asked (read period) (read kind) (read number) (read tail) (read head) ≡ asked period kind number tail head
asked_read p k n t h = rw (to_z-of_z p, to_z-of_z k, to_z-of_z n, to_z-of_z t, to_z-of_z h)

-- ---- tested

-- each of the three numbers lies in its range
pub record Numbers (period tail head : ℤ) : Type 0 where
  pub period_within : within (pos 1) (pos 10000000) period ≡ true
  pub tail_within : within (negsuc 999999) (pos 1000000) tail ≡ true
  pub head_within : within (negsuc 999999) (pos 1000000) head ≡ true

-- a passed test says so of each number
pub numbers_in : {period tail head : ℤ} → numbers_within period tail head ≡ true → Numbers period tail head
unfolding numbers_within
numbers_in e =
    let a = both _ _ e in
    let b = both _ _ a.0 in
    record { period_within = b.0; tail_within = b.1; head_within = a.1 }

-- and back
pub in_numbers : {period tail head : ℤ} → Numbers period tail head → numbers_within period tail head ≡ true
unfolding numbers_within
in_numbers n = rw (n.period_within, n.tail_within, n.head_within)

-- ---- a rule that is asked for

-- a period in its range is a count, and no greater than the paper allows
pub period_is : {z : ℤ} → within (pos 1) (pos 10000000) z ≡ true → z ≡ pos (natural z)
period_is {z} e = let b = within_is _ _ z e in sym (natural_is z (omega lin))

period_most : (z : ℤ) → within (pos 1) (pos 10000000) z ≡ true → natural z ≤ 10000000
period_most z e = let b = within_is _ _ z e in let i = period_is e in omega lin

small_period : {z : ℤ} → within (pos 1) (pos 10000000) z ≡ true → Small z
small_period e = small_between (omega lin) (omega lin) (within_is _ _ _ e)

small_latency : {z : ℤ} → within (negsuc 999999) (pos 1000000) z ≡ true → Small z
small_latency e = small_between (omega lin) (omega lin) (within_is _ _ _ e)

-- a small number as a rule reads it
small_tail : (r : Rule) {z : ℤ} → Small z → Small (tail_read r z)
small_tail (Setup p) s = s
small_tail (Hold p) s = s
small_tail (Low i) s = record { from = omega lin; to = omega lin }
small_tail (High i) s = s

small_head : (r : Rule) {z : ℤ} → Small z → Small (head_read r z)
small_head (Setup p) s = s
small_head (Hold p) s = s
small_head (Low i) s = s
small_head (High i) s = record { from = omega lin; to = omega lin }

module _ {f : List ℕ} {n : ℕ} {r : Rule} (there : Askable f n r) (period tail head : ℤ) (numbers : numbers_within period tail head ≡ true) where
  -- its arrow is small, with the latencies as the rule reads them
  pub arrow_small : {d : ℤ} → d ≡ amount (network_of f) (natural period) r → SmallArrow d (tail_read r tail) (head_read r head)
  arrow_small e =
      let b = numbers_in numbers in
      record {
        of_amount = rw e (amount_small (accepted_legal f there.accepted) (natural period) r (period_most period b.period_within) there.exists);
        at_tail = small_tail r (small_latency b.tail_within);
        at_head = small_head r (small_latency b.head_within);
      }

  -- an amount without the period has room for it
  pub period_fits : {d : ℤ} → d ≡ base (network_of f) r → SFits w32 (d -ℤ period)
  period_fits e =
      rw e (small_less (base_small (accepted_legal f there.accepted) r there.exists) (small_period (numbers_in numbers).period_within))

-- by how much the arrow is met is the rule's slack
pub arrow_slack : (N : Network) (period tail head : ℤ) {d z : ℤ} (r : Rule) → d ≡ amount N (natural period) r
    → z ≡ head_read r head -ℤ (tail_read r tail +ℤ d) → IsSlack N period r tail head z
arrow_slack N period tail head r e g = rw (slack_is N (natural period) r tail head) (rw e at g)

-- the number of a rule that may be asked for, as the code casts it
pub as_cast : {f : List ℕ} {n : ℕ} {r : Rule} → Askable f n r → (rule : ℕ → Rule) {p k : ℕ} → r ≡ rule p → k ≡ p → Askable f n (rule k)
as_cast there rule is cast = rw cast (rw is at there)

-- ---- what was read

-- the header's counts
pub counts_few : (f : List ℕ) {h : Header} → Accepted f → IsHeader (network_of f) h → (h.registers ≤ most_registers) × (h.paths ≤ most_paths)
counts_few f a h = let l = accepted_legal f a in rw (h.registers, h.paths) (l.registers_to, l.paths_to)

-- a register
pub register_small : (f : List ℕ) (i : ℕ) {r : Register} → Accepted f → i < (network_of f).registers → IsRegister (network_of f) i r → SmallRegister r
register_small f i a l e = small_register (register_ranges f i _ a l e)

-- a path, and the register that it leads to
module _ (f : List ℕ) (a : Accepted f) {p : ℕ} (exists : p < (network_of f).paths) {road : Path} (is_path : IsPath (network_of f) p road) where
  road_ranges : PathRanges (network_of f).registers road
  road_ranges = path_ranges f _ p road a refl exists is_path

  pub receiver_there : road.to < (network_of f).registers
  receiver_there = road_ranges.to

  module _ {receiver : Register} (is_receiver : IsRegister (network_of f) road.to receiver) where
    pub ends_small : SmallEnds road receiver
    ends_small = small_ends road_ranges (register_ranges f road.to receiver a receiver_there is_receiver)

    -- the amount of one of its rules, and of its setup rule at a period
    pub amount_of_path : (rule : ℕ → Rule) {d : ℤ} → OfPath rule road receiver d → d ≡ base (network_of f) (rule p)
    amount_of_path rule of = of (network_of f) p is_path (rw is_path.to at is_receiver)

    pub setup_amount : (period : ℤ) → within (pos 1) (pos 10000000) period ≡ true → {b d : ℤ} → OfPath Setup road receiver b → d ≡ b -ℤ period
        → d ≡ amount (network_of f) (natural period) (Setup p)
    setup_amount period e of d = d ∙ ap₂ ◌-ℤ◌ (amount_of_path Setup of) (period_is e)
