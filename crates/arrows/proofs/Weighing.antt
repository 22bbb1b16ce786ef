-- The setup rules' amounts at a period, path by path. Rests on what `set` changes of a list.
use Rattle.std.proofs.Common.{◌≡◌, ℕ, ◌+◌, ◌≤◌, ◌<◌, List, length, get_or, set, ℤ, pos, ◌-ℤ◌, arith}
use Rattle.std.proofs.lemmas.Grind.{common_steps}
use Rattle.loops.specs.declared.Arrow.{Arrow}
use Rattle.loops.specs.Arrows.{arrow_at}
use Rattle.arrows.specs.Filled.{WeighedBelow}

-- a turn: one more amount, and every other place as it was
pub weighed_more : {fixed m : ℕ} {period : ℤ} {bases : List ℤ} {before after : List Arrow} {k e : ℕ} {z : ℤ} → k < m → fixed + m ≤ length before → e ≡ fixed + k
    → z ≡ get_or bases k (pos 0) -ℤ period → WeighedBelow fixed m period bases before after k
    → WeighedBelow fixed m period bases before (set after e (record { tail = (arrow_at after e).tail; head = (arrow_at after e).head; amount = z })) (k + 1)
weighed_more l room here is w = record {
  long = grind (arith, common_steps);
  same = λ e h. grind (arith, common_steps, w.same e h);
  rest = λ e h. grind (arith, common_steps, w.rest e h);
  tails = λ e. grind (arith, common_steps, w.tails e);
  heads = λ e. grind (arith, common_steps, w.heads e);
  new = λ p h. grind (arith, common_steps, w.new p);
}
