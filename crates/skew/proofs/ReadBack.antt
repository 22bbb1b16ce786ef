-- The answer is read back from the bytes: the period, the number of latencies, and each register's latency stand in the output where the
-- paper puts them, as numbers of four bytes. Rests on the laws of four-byte numbers.
use Rattle.std.specs.Prelude.{Ok, Err}
use mathlib.Core.Path.{◌≡◌, refl, sym, ap, ◌∙◌}
use mathlib.Core.List.{List, [], ◌∷◌, ◌++◌, append_assoc, append-nil}
use Prim.Native.Nat.{ℕ, zero, suc, ◌+◌, ◌*◌, ◌≤◌, ◌<◌}
use native.Mathlib.Omega.{arith}
use native.Mathlib.Nat.{add-zero}
use native.Mathlib.Decide.{dec_lt}
use lib.IntN.{ℤ, pos}
use Rattle.whole.proofs.Lin.{lin}
use lib.ListN.{length, get_or, drop, length-append}
use mir.Syntax.{w32}
use mir.Val.{SFits}
use Rattle.whole.specs.Four.{number_at, four}
use Rattle.whole.proofs.Four.{number_past, number_first, four-length}
use Rattle.paper.specs.Numbers.{Outcome}
use Rattle.paper.specs.Network.{Network}
use Rattle.paper.specs.declared.Rule.{Rule}
use Rattle.paper.specs.declared.Rule.TheVariants.{Setup, Hold, Low, High}
use Rattle.paper.specs.Rules.{Exists, kind, number, tail, head}
use Rattle.paper.specs.declared.Unanswered.TheVariants as unanswered
use Rattle.paper.specs.Schedule.{Answer, IsLoop, Shown}
use Rattle.paper.specs.File.{network_of}
use Rattle.paper.specs.Outcome.{FileResult}
use Rattle.paper.specs.Output.{skew_record, latency_record, latency_records, entry_record, entry_records, LoopAlone}
use Rattle.paper.proofs.Legal.{Legal, accepted_legal}
use Rattle.paper.proofs.LoopLaws.{all_at, all_map}
use Rattle.paper.proofs.OutputLaws.{latencies-length, period_back, latencies_back, entries_back}
use Rattle.loops.proofs.Pigeonhole.{once_short}
use Rattle.loops.proofs.Places.{tail_below, legal_joined}
use Rattle.skew.proofs.Numbers.{accepted_beyond}
use Rattle.skew.proofs.Joined.{schedule_within}
use Rattle.skew.specs.Reads.{Reads, ReadsBack}
use Rattle.whole.specs.Between.{Between}
use Rattle.paper.specs.Limits.{most_registers, most_paths, most_period, least_latency, most_latency}

-- a number is read where its bytes stand
number_at_lem : (after a rest : List ℕ) (z : ℤ) (i : ℕ) → after ≡ a ++ (four z ++ rest) → length a ≡ i → SFits w32 z → number_at after i ≡ z
number_at_lem after a rest z i e n h = rw (e, ← n) (rw (← (add-zero (length a))) (number_past a (four z ++ rest) 0) ∙ number_first z rest h)

-- ---- the records, and where they stand

-- the record of register i, after those of the registers before it
latency_there : (x : ℕ → ℤ) (n i : ℕ) → i < n → (rest : List ℕ) × (latency_records x n ≡ latency_records x i ++ (latency_record (x i) ++ rest))
latency_there x zero i h = absurd (omega arith)
latency_there x (suc n) i h = go (dec_lt i n) (latency_there x n i)
  where
    go : Dec (i < n) → (i < n → (rest : List ℕ) × (latency_records x n ≡ latency_records x i ++ (latency_record (x i) ++ rest)))
        → (rest : List ℕ) × (latency_records x (suc n) ≡ latency_records x i ++ (latency_record (x i) ++ rest))
    go (yes l) before = let b = before l in (b.0 ++ latency_record (x n), rw b.1 (simp append_assoc))
    go (no l) before = let e : i ≡ n = omega arith in ([], rw e (ap (λ t. latency_records x n ++ t) (sym (append-nil (latency_record (x n))))))

-- the record of entry j, after those of the entries before it
record EntryThere (l : List Rule) (j : ℕ) : Type 0 where
  first : List ℕ
  rest : List ℕ
  size : length first ≡ 10 * j
  split : entry_records l ≡ first ++ (entry_record (get_or l j (Low 0)) ++ rest)

entry_there : (l : List Rule) (j : ℕ) → j < length l → EntryThere l j
entry_there [] j h = absurd (omega arith)
entry_there (r ∷ l) zero h = record { first = []; rest = entry_records l; size = refl; split = refl }
entry_there (r ∷ l) (suc j) h =
    let b = entry_there l j (omega arith) in
    record {
      first = entry_record r ++ b.first;
      rest = b.rest;
      size = simp length-append (omega (arith, b.size, four-length (pos (kind r)), four-length (pos (number r))));
      split = ap (λ t. entry_record r ++ t) b.split ∙ sym (append_assoc (entry_record r) b.first (entry_record (get_or l j (Low 0)) ++ b.rest));
    }

-- ---- every number of the output

-- the parts of the output, grouped about one number
module _ (h r q s t e p : List ℕ) where
  about_latency : (h ++ (r ++ ((76 ∷ 84 ∷ q) ++ t)) ++ e) ++ p ≡ (h ++ r ++ (76 ∷ 84 ∷ [])) ++ (q ++ (t ++ e ++ p))
  about_latency = simp append_assoc

  about_kind : (h ++ r ++ (e ++ ((69 ∷ 68 ∷ (q ++ s)) ++ t))) ++ p ≡ (h ++ r ++ e ++ (69 ∷ 68 ∷ [])) ++ (q ++ (s ++ t ++ p))
  about_kind = simp append_assoc

  about_number : (h ++ r ++ (e ++ ((69 ∷ 68 ∷ (q ++ s)) ++ t))) ++ p ≡ (h ++ r ++ e ++ (69 ∷ 68 ∷ q)) ++ (s ++ (t ++ p))
  about_number = simp append_assoc

-- every number fits four bytes
pub record FourByte (P n : ℕ) (x : ℕ → ℤ) (l : List Rule) : Type 0 where
  pub period : P ≤ most_period
  pub count : n ≤ most_registers
  pub latency : (i : ℕ) → i < n → Between least_latency most_latency (x i)
  pub entries : length l ≤ most_registers
  pub entry : (j : ℕ) → j < length l → (kind (get_or l j (Low 0)) ≤ 3) × (number (get_or l j (Low 0)) ≤ most_paths)

module _ (P n : ℕ) (x : ℕ → ℤ) (l : List Rule) (after past : List ℕ) (small : FourByte P n x l)
    (bytes : after ≡ (skew_record P n (length l) ++ latency_records x n ++ entry_records l) ++ past) where
  reads_latency : (i : ℕ) → i < n → number_at after (14 + 6 * i + 2) ≡ x i
  reads_latency i h =
      let t = latency_there x n i h in
      let b = small.latency i h in
      let low = b.from in
      let high = b.to in
      let here = rw t.1 at bytes in
      number_at_lem after (skew_record P n (length l) ++ latency_records x i ++ 76 ∷ 84 ∷ []) (t.0 ++ entry_records l ++ past) (x i) (14 + 6 * i + 2)
      (here ∙ about_latency (skew_record P n (length l)) (latency_records x i) (four (x i)) [] t.0 (entry_records l) past)
      (simp length-append (omega (arith, four-length (pos P), four-length (pos n), four-length (pos (length l)), latencies-length x i)))
      (omega lin)

  reads_entry : (j : ℕ) → j < length l
      → (number_at after (14 + 6 * n + 10 * j + 2) ≡ pos (kind (get_or l j (Low 0)))) × (number_at after (14 + 6 * n + 10 * j + 6) ≡ pos (number (get_or l j (Low 0))))
  reads_entry j h =
      let t = entry_there l j h in
      let b = small.entry j h in
      let k = b.0 in
      let m = b.1 in
      let here = rw t.split at bytes in
      let H : List ℕ = skew_record P n (length l) in
      let K : List ℕ = four (pos (kind (get_or l j (Low 0)))) in
      let M : List ℕ = four (pos (number (get_or l j (Low 0)))) in (
        number_at_lem after (H ++ latency_records x n ++ t.first ++ 69 ∷ 68 ∷ []) (M ++ t.rest ++ past) (pos (kind (get_or l j (Low 0)))) (14 + 6 * n + 10 * j + 2)
            (here ∙ about_kind H (latency_records x n) K M t.rest t.first past)
            (simp length-append (omega (arith, four-length (pos P), four-length (pos n), four-length (pos (length l)), latencies-length x n, t.size)))
            (omega lin),
        number_at_lem after (H ++ latency_records x n ++ t.first ++ 69 ∷ 68 ∷ K) (t.rest ++ past) (pos (number (get_or l j (Low 0)))) (14 + 6 * n + 10 * j + 6)
            (here ∙ about_number H (latency_records x n) K M t.rest t.first past)
            (simp length-append (omega (arith, four-length (pos P), four-length (pos n), four-length (pos (length l)), latencies-length x n, t.size, four-length (pos (kind (get_or l j (Low 0)))))))
            (omega lin),
      )

  first : after ≡ skew_record P n (length l) ++ (latency_records x n ++ entry_records l ++ past)
  first = bytes ∙ simp append_assoc

  reads : Reads after P n x l
  reads =
      record {
        period = rw first (period_back P n (length l) _ (omega (arith, small.period)));
        latencies = rw first (latencies_back P n (length l) _ (omega (arith, small.count)));
        entries = rw first (entries_back P n (length l) _ (omega (arith, small.entries)));
        latency = reads_latency;
        entry_kind = λ j h. (reads_entry j h).0;
        entry_number = λ j h. (reads_entry j h).1;
      }

-- RULES 7.6: "`SK` with 0, 0 and the number of entries; no latencies": the loop alone is an output with no latencies
no_records : (h e p after : List ℕ) → after ≡ (h ++ e) ++ p → after ≡ (h ++ [] ++ e) ++ p
no_records h e p after b = rw (append-nil h) b

reads_alone : (l : List Rule) (before after : List ℕ) → FourByte 0 0 (λ i. pos 0) l → LoopAlone l before after → Reads after 0 0 (λ i. pos 0) l
reads_alone l before after s b =
    let past : List ℕ = drop (length (skew_record 0 0 (length l) ++ entry_records l)) before in
    reads 0 0 (λ i. pos 0) l after past s (no_records (skew_record 0 0 (length l)) (entry_records l) past after b)

-- ---- the numbers fit

module _ (N : Network) (g : Legal N) where
  rule_small : (r : Rule) → Exists N r → (kind r ≤ 3) × (number r ≤ 2048)
  rule_small (Setup p) e = omega (arith, g.paths_to)
  rule_small (Hold p) e = omega (arith, g.paths_to)
  rule_small (Low i) e = omega (arith, g.registers_to)
  rule_small (High i) e = omega (arith, g.registers_to)

  -- RULES 7.1: "A loop passes each register at most once, so it has at most n arrows"
  loop_small : (l : List Rule) → IsLoop N l → length l ≤ N.registers
  loop_small [] i = absurd i.loop
  loop_small (r ∷ l) i =
      once_short (tail N) (head N) N.registers (r ∷ l) (all_map (tail_below N (legal_joined N g)) (r ∷ l) i.exist) i.loop.1

  loop_entries : (l : List Rule) → IsLoop N l → (j : ℕ) → j < length l → (kind (get_or l j (Low 0)) ≤ 3) × (number (get_or l j (Low 0)) ≤ 2048)
  loop_entries l i j h = all_at (λ r. (kind r ≤ 3) × (number r ≤ 2048)) l (all_map rule_small l i.exist) (Low 0) j h

  -- the numbers of an answer to a network whose fields lie in their ranges
  pub answer_small : (P : ℕ) (x : ℕ → ℤ) (l : List Rule) → Answer N P x → Shown N P l → FourByte P N.registers x l
  answer_small P x [] a s =
      record {
        period = omega (arith, a.to_ceiling, g.ceiling_to);
        count = g.registers_to;
        latency = schedule_within N g P x a.schedule;
        entries = omega arith;
        entry = λ j h. absurd (omega arith);
      }
  answer_small P x (r ∷ l) a s =
      record {
        period = omega (arith, a.to_ceiling, g.ceiling_to);
        count = g.registers_to;
        latency = schedule_within N g P x a.schedule;
        entries = omega (arith, loop_small (r ∷ l) s.1.is_loop, g.registers_to);
        entry = loop_entries (r ∷ l) s.1.is_loop;
      }

  -- the numbers of a loop alone
  pub alone_small : (l : List Rule) → IsLoop N l → FourByte 0 0 (λ i. pos 0) l
  alone_small l i =
      record {
        period = omega arith;
        count = omega arith;
        latency = λ i h. absurd (omega arith);
        entries = omega (arith, loop_small l i, g.registers_to);
        entry = loop_entries l i;
      }

-- Whatever is returned, each number of the answer and of the loop is read in the output at its place.
pub read_back : (f : List ℕ) {before after : List ℕ} (o : Outcome) (r : FileResult f before o after) → ReadsBack (network_of f) before o after r.output
read_back f {before} {after} (Ok tt) r =
    let N : Network = network_of f in
    let g = accepted_legal f (accepted_beyond f r refl) in
    reads r.output.period N.registers r.output.latency r.output.loop after _ (answer_small N g _ _ _ r.output.answer r.output.shown) r.output.bytes
read_back f (Err (unanswered.Refused x)) r = tt
read_back f (Err unanswered.Room) r = tt
read_back f {before} {after} (Err unanswered.NoPeriod) r =
    let g = accepted_legal f (accepted_beyond f r refl) in
    reads_alone r.output.loop before after (alone_small (network_of f) g r.output.loop (r.output.refutes 0).is_loop) r.output.bytes
read_back f {before} {after} (Err unanswered.NoneToCeiling) r =
    let g = accepted_legal f (accepted_beyond f r refl) in
    reads_alone r.output.loop before after (alone_small (network_of f) g r.output.loop r.output.refutes.is_loop) r.output.bytes
