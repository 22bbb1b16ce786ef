-- The text over the bytes of an answer is the text of the period, latencies and rules that are read there: line by line the two are one.
-- Rests on no other file.
use mathlib.Core.Path.{◌≡◌, refl, sym, ap, ap₂, ◌∙◌}
use mathlib.Core.List.{List, [], ◌∷◌, ◌++◌, append-nil, append_assoc}
use Prim.Native.Nat.{ℕ, zero, suc, ◌+◌, ◌*◌, ◌<◌}
use native.Mathlib.Omega.{arith}
use lib.IntN.{ℤ, pos}
use lib.ListN.{length, get_or}
use borrow.Author.Tests.{ne_eqb}
use Rattle.whole.specs.Four.{number_at}
use Rattle.paper.specs.Numbers.{Outcome}
use Rattle.paper.specs.Network.{Network}
use Rattle.paper.specs.File.{natural}
use Rattle.paper.specs.declared.Rule.{Rule}
use Rattle.paper.specs.declared.Rule.TheVariants.{Setup, Hold, Low, High}
use Rattle.paper.specs.Rules.{kind, number}
use Rattle.listing.specs.Text.{line, latency_line, latency_lines, entry_lines, kind_word, loop_word, refused, answered_text, looped_text}
use Rattle.listing.specs.ResultText.{rule_line, register_lines, rule_lines, answer_text, refused_text}

-- ---- the lines of the registers

-- where each latency is read at its place, the lines are the latencies'
latency_lines_lem : (answer : List ℕ) (x : ℕ → ℤ) (n : ℕ) → ((i : ℕ) → i < n → number_at answer (14 + 6 * i + 2) ≡ x i)
    → latency_lines answer n ≡ register_lines x n
unfolding latency_lines register_lines
latency_lines_lem answer x zero reads = refl
latency_lines_lem answer x (suc n) reads =
    ap₂ (λ (l : List ℕ) (z : ℤ). l ++ latency_line n z) (latency_lines_lem answer x n (λ i h. reads i (omega arith))) (reads n (omega arith))

-- ---- the lines of the entries

-- the line of the entry whose record begins at a place
abbrev entry_line : List ℕ → ℕ → List ℕ
entry_line answer place = line (kind_word (number_at answer (place + 2))) (number_at answer (place + 6))

-- `entry_lines` tells the last entry from those before it; here the first is told from the others, whose records begin 10 bytes on
entry_first : (answer : List ℕ) (start j : ℕ) → entry_lines answer start (suc j) ≡ entry_line answer start ++ entry_lines answer (start + 10) j
unfolding entry_lines
entry_first answer start zero = ap (entry_line answer) (omega arith) ∙ sym (append-nil (entry_line answer start))
entry_first answer start (suc j) =
    let next : start + 10 * suc j ≡ start + 10 + 10 * j = omega arith in
    ap₂ (λ (l m : List ℕ). l ++ m) (entry_first answer start j) (ap (entry_line answer) next)
    ∙ append_assoc (entry_line answer start) (entry_lines answer (start + 10) j) (entry_line answer (start + 10 + 10 * j))

-- a rule's line has the word of its kind
rule_line_lem : (r : Rule) → line (kind_word (pos (kind r))) (pos (number r)) ≡ rule_line r
unfolding kind_word
rule_line_lem (Setup p) = refl
rule_line_lem (Hold p) = refl
rule_line_lem (Low i) = refl
rule_line_lem (High i) = refl

-- at each entry's place its rule is read
pub record EntriesRead (answer : List ℕ) (start : ℕ) (l : List Rule) : Type 0 where
  pub kinds : (j : ℕ) → j < length l → number_at answer (start + 10 * j + 2) ≡ pos (kind (get_or l j (Low 0)))
  pub numbers : (j : ℕ) → j < length l → number_at answer (start + 10 * j + 6) ≡ pos (number (get_or l j (Low 0)))

-- so it is of the others, 10 bytes on
entries_on : (answer : List ℕ) (start : ℕ) (r : Rule) (l : List Rule) → EntriesRead answer start (r ∷ l) → EntriesRead answer (start + 10) l
entries_on answer start r l e =
    record {
      kinds = λ j h. ap (λ p. number_at answer (p + 2)) (next j) ∙ e.kinds (suc j) (omega arith);
      numbers = λ j h. ap (λ p. number_at answer (p + 6)) (next j) ∙ e.numbers (suc j) (omega arith);
    }
  where
    next : (j : ℕ) → start + 10 + 10 * j ≡ start + 10 * suc j
    next j = omega arith

-- where each entry is read at its place, the lines are the rules'
entry_lines_lem : (answer : List ℕ) (start : ℕ) (l : List Rule) → EntriesRead answer start l → entry_lines answer start (length l) ≡ rule_lines l
unfolding entry_lines rule_lines
entry_lines_lem answer start [] e = refl
entry_lines_lem answer start (r ∷ l) e =
    let place : start ≡ start + 10 * 0 = omega arith in
    let k : number_at answer (start + 2) ≡ pos (kind r) = ap (λ p. number_at answer (p + 2)) place ∙ e.kinds 0 (omega arith) in
    let n : number_at answer (start + 6) ≡ pos (number r) = ap (λ p. number_at answer (p + 6)) place ∙ e.numbers 0 (omega arith) in
    let first : entry_line answer start ≡ rule_line r = ap₂ (λ y z. line (kind_word y) z) k n ∙ rule_line_lem r in
    entry_first answer start (length l)
    ∙ ap₂ (λ (a b : List ℕ). a ++ b) first (entry_lines_lem answer (start + 10) l (entries_on answer start r l e))

-- ---- the whole texts

-- an answer's
pub answered_text_lem : (answer : List ℕ) (P n : ℕ) (x : ℕ → ℤ) (l : List Rule) → number_at answer 2 ≡ pos P → number_at answer 6 ≡ pos n
    → number_at answer 10 ≡ pos (length l) → ((i : ℕ) → i < n → number_at answer (14 + 6 * i + 2) ≡ x i)
    → EntriesRead answer (14 + 6 * n) l → answered_text answer ≡ answer_text P n x l
unfolding answered_text
answered_text_lem answer P n x [] period latencies entries latency e =
    rw (period, latencies, entries, latency_lines_lem answer x n latency) refl
answered_text_lem answer P n x (r ∷ l) period latencies entries latency e =
    let some : length (r ∷ l) ≡ 0 → ⊥ = λ h. omega arith in
    rw (period, latencies, entries, latency_lines_lem answer x n latency, ne_eqb (length (r ∷ l)) 0 some, entry_lines_lem answer (14 + 6 * n) (r ∷ l) e) refl

-- a refusal's that shows a loop
pub looped_text_lem : (answer : List ℕ) (N : Network) (o : Outcome) (l : List Rule) → number_at answer 10 ≡ pos (length l)
    → EntriesRead answer 14 l → looped_text (pos N.ceiling) o answer ≡ refused_text N o l
looped_text_lem answer N o l entries e =
    ap (λ (t : List ℕ). refused o ++ (line loop_word (pos N.ceiling) ++ t))
    (ap (λ z. entry_lines answer 14 (natural z)) entries ∙ entry_lines_lem answer 14 l e)
