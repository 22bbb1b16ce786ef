-- The answer's records: how long they are, what is read back from the first one, and that they hold nothing but their numbers. And bytes
-- stored from the start on stand at the front. Rests on the four bytes of a number (`whole`).
use mathlib.Core.Path.{◌≡◌, refl, ◌∙◌}
use mathlib.Core.List.{List, [], ◌∷◌, ◌++◌}
use Prim.Native.Nat.{ℕ, zero, suc, ◌*◌, ◌≤◌, ◌<◌}
use native.Mathlib.Omega.{arith}
use native.Mathlib.Nat.{zero-add}
use lib.IntN.{ℤ, pos}
use lib.ListN.{length, length-append}
use lib.Seq.{sets, sets-eq}
use Rattle.whole.specs.Four.{number_at, word_at, four, bytes_of}
use Rattle.whole.proofs.Four.{number_first, four-length}
use Rattle.paper.specs.declared.Rule.{Rule}
use Rattle.paper.specs.Output.{skew_record, latency_records, entry_records, Front}

-- ---- 14 bytes, 6 for each latency, 10 for each entry (RULES 7.2 to 7.4)

-- the first record has 14 bytes, a latency 6, an entry 10
pub skew_length : (P n k : ℕ) → length (skew_record P n k) ≡ 14
skew_length P n k = simp (length-append, four-length) refl

pub latencies-length : (x : ℕ → ℤ) (n : ℕ) → length (latency_records x n) ≡ 6 * n
latencies-length x zero = refl
latencies-length x (suc n) = simp (length-append, four-length, latencies-length x n) (omega arith)

pub entries-length : (l : List Rule) → length (entry_records l) ≡ 10 * length l
entries-length [] = refl
entries-length (r ∷ l) = simp (length-append, four-length, entries-length l) (omega arith)

-- ---- the period, the number of latencies and the number of loop entries (RULES 7.2): each is read where it stands, whatever follows

back : (n : ℕ) → n < 2147483648 → number_at (four (pos n)) 0 ≡ pos n
unfolding four bytes_of
back n h = number_first (pos n) [] (record { sfits = omega arith })

module _ (P n k : ℕ) (rest : List ℕ) where
  -- the three numbers of the first record are read back
  pub period_back : P < 2147483648 → number_at (skew_record P n k ++ rest) 2 ≡ pos P
  unfolding number_at word_at four bytes_of
  period_back h = back P h

  pub latencies_back : n < 2147483648 → number_at (skew_record P n k ++ rest) 6 ≡ pos n
  unfolding number_at word_at four bytes_of
  latencies_back h = back n h

  pub entries_back : k < 2147483648 → number_at (skew_record P n k ++ rest) 10 ≡ pos k
  unfolding number_at word_at four bytes_of
  entries_back h = back k h

-- ---- what they hold

-- latencies that agree for the first n registers have the same records
pub latencies_same : (x y : ℕ → ℤ) (n : ℕ) → ((i : ℕ) → i < n → x i ≡ y i) → latency_records x n ≡ latency_records y n
latencies_same x y zero e = refl
latencies_same x y (suc n) e =
    let rest = latencies_same x y n (λ i h. e i (omega arith)) in
    let last = e n (omega arith) in
    cc

-- ---- stored from the start on

-- bytes stored from the start on stand at the front
pub stored_front : (bytes before : List ℕ) → length bytes ≤ length before → Front bytes before (sets before 0 bytes)
stored_front bytes before h = sets-eq bytes before 0 (omega arith) ∙ rw zero-add refl
