-- Lines: what stands from the start on stands at the front; a line put together from its parts, lines one after the other, and the words of
-- the kinds. Rests on `Runs.antt` of `text` and on `OutputLaws.antt` of `paper`.
use Rattle.std.specs.Prelude.{Err}
use mathlib.Core.Path.{◌≡◌, refl, sym, ap, subst, ◌∙◌}
use mathlib.Core.Logic.{◌⊎◌, inl, inr}
use mathlib.Core.List.{List, [], ◌∷◌, ◌++◌, append-nil, append_assoc}
use Prim.Native.Nat.{ℕ, suc, ◌+◌, ◌*◌, ◌≤◌, ◌<◌}
use native.Mathlib.Omega.{arith}
use native.Mathlib.Numerals.{add-one}
use lib.IntN.{ℤ, pos, negsuc, ◌-ℤ◌}
use lib.ListN.{length, set, length-append}
use borrow.Author.Tests.{eq-eqb, ne_eqb}
use mir.Syntax.{w32}
use mir.Val.{SFits, to_z, of_z}
use mir.Facts.{to_z-of_z}
use Rattle.whole.specs.Four.{number_at}
use Rattle.whole.proofs.Lin.{lin, minus, fits_between}
use Rattle.paper.specs.declared.Refusal.{Refusal}
use Rattle.paper.specs.declared.Unanswered.{Unanswered}
use Rattle.paper.specs.declared.Unanswered.TheVariants as unanswered
use Rattle.paper.specs.Numbers.{Outcome}
use Rattle.paper.specs.File.{natural}
use Rattle.paper.specs.Limits.{most_registers}
use Rattle.paper.specs.Output.{Front}
use Rattle.paper.proofs.OutputLaws.{stored_front}
use Rattle.text.specs.Decimal.{decimal, whole}
use Rattle.text.specs.Written.{Ended, Written}
use Rattle.listing.specs.Text.{newline, line, latency_line, refused_line, latency_word, refused_word, latency_lines, entry_lines, loop_lines, kind_word, period_word, setup_word, hold_word}
use Rattle.listing.specs.Text.{low_word, high_word, refused, answered_text, looped_text, text_of}
use Rattle.text.proofs.Decimal.{decimal_few}
use Rattle.text.proofs.Runs.{and_then, and_byte, named, nothing, long}

-- what stands from the start on, with room for it, stands at the front
pub front : {before after bytes : List ℕ} {next end : ℕ} → Ended before 0 bytes after next end → end ≤ length before
    → (Front bytes before after) × (next ≡ length bytes)
front {before} {after} {bytes} {next} {end} w h =
    let p = w.written.place in
    let e = w.by in
    (w.written.text ∙ stored_front bytes before (omega arith), omega arith)

-- a word, a number and a newline
pub line_written : {l m k word : List ℕ} {at i j : ℕ} {z y : ℤ} → Written l at word m i → Written m i (whole y) k j → y ≡ z
    → Written l at (line word z) (set k j 10) (j + 1)
line_written w v e = and_byte (and_then w (named v (ap whole e))) 10

-- the place behind a word and a number from 0 up
pub counted_place : (word : List ℕ) (n : ℕ) {l m : List ℕ} {at i : ℕ} → Written l at (word ++ decimal n) m i → i ≡ at + length word + length (decimal n)
counted_place word n w = omega (arith, w.place, length-append word (decimal n))

-- a register's number has at most three digits, a refusal's number ten and its place twenty
pub three_digits : (n : ℕ) → n < most_registers → length (decimal n) ≤ 3
three_digits n h = decimal_few n 2 (omega (arith, h))

pub ten_digits : (n : ℕ) → n < 4294967296 → length (decimal n) ≤ 10
ten_digits n h = decimal_few n 9 (omega (arith, h))

pub twenty_digits : (n : ℕ) → n < 18446744073709551616 → length (decimal n) ≤ 20
twenty_digits n h = decimal_few n 19 (omega (arith, h))

-- so the number's word and digits, and then the place's, end before the last byte
pub refused_end : (n p : ℕ) {l m k : List ℕ} {i j : ℕ} → n < 4294967296 → p < 18446744073709551616
    → Written l 0 (refused_word ++ decimal n) m i → Written m i ((32 ∷ []) ++ decimal p) k j → j ≤ 39
refused_end n p f g w v =
    omega (arith, ten_digits n f, twenty_digits p g, counted_place refused_word n w, counted_place (32 ∷ []) p v)

-- a register's line by its two parts
pub latency_line_lem : (i : ℕ) {y z : ℤ} → y ≡ z → (latency_word ++ decimal i) ++ line (32 ∷ []) y ≡ latency_line i z
latency_line_lem i e = rw e (simp append_assoc)

-- a refusal's line by its parts
pub refused_line_lem : (n p : ℕ) → ((refused_word ++ decimal n) ++ ((32 ∷ []) ++ decimal p)) ++ newline ≡ refused_line n p
refused_line_lem n p = simp append_assoc

-- ---- lines one after the other, each of at most 24 bytes

-- the first i of n lines stand in the text
pub record Lines (lines : ℕ → List ℕ) (n : ℕ) (before : List ℕ) (at : ℕ) (after : List ℕ) (next i : ℕ) : Type 0 where
  pub within : i ≤ n
  pub few : next ≤ at + 24 * i
  pub same : length after ≡ length before
  pub written : Written before at (lines i) after next

module _ (lines : ℕ → List ℕ) (n : ℕ) (before : List ℕ) (at : ℕ) where
  -- at first none
  pub lines_none : lines 0 ≡ [] → Lines lines n before at before at 0
  lines_none e = record { within = omega arith; few = omega arith; same = refl; written = named (nothing before at) (sym e) }

  -- one more
  pub lines_more : (mid after b : List ℕ) (next end i : ℕ) → Lines lines n before at mid next i → i < n
      → lines (suc i) ≡ lines i ++ b → Ended mid next b after end (next + 24) → Lines lines n before at after end (i + 1)
  lines_more mid after b next end i s h e w =
      record {
        within = omega arith;
        few = let f = s.few in let g = w.by in omega arith;
        same = long w.written ∙ s.same;
        written = rw (add-one i, e) (and_then s.written w.written);
      }

-- ---- the words of the kinds

-- kind 0 is a setup rule
pub setup_kind : {z : ℤ} → z ≡ pos 0 → kind_word z ≡ setup_word
unfolding kind_word
setup_kind e = rw e

-- kind 1 is a hold rule
pub hold_kind : {z : ℤ} → z ≡ pos 1 → kind_word z ≡ hold_word
unfolding kind_word
hold_kind e = rw e

-- kind 2 is a low rule
pub low_kind : {z : ℤ} → z ≡ pos 2 → kind_word z ≡ low_word
unfolding kind_word
low_kind e = rw e

-- any other is taken for a high rule
pub high_kind : (z : ℤ) → (of_z w32 z ≡ 0 → ⊥) → (of_z w32 z ≡ 1 → ⊥) → (of_z w32 z ≡ 2 → ⊥) → kind_word z ≡ high_word
unfolding kind_word
high_kind (pos k) a b c =
    let bits : ℕ → ℕ = λ x. of_z w32 (pos x) in
    rw (ne_eqb k 0 (λ e. a (ap bits e)), ne_eqb k 1 (λ e. b (ap bits e)), ne_eqb k 2 (λ e. c (ap bits e)))
high_kind (negsuc k) a b c = refl

-- ---- the lines of the registers and of the entries

-- no register
pub latency_none : (answer : List ℕ) → latency_lines answer 0 ≡ []
unfolding latency_lines
latency_none answer = refl

-- one register more
pub latency_more : (answer : List ℕ) (i : ℕ) (z : ℤ) → z ≡ number_at answer (14 + 6 * i + 2)
    → latency_lines answer (suc i) ≡ latency_lines answer i ++ latency_line i z
unfolding latency_lines
latency_more answer i z e = ap (λ y. latency_lines answer i ++ latency_line i y) (sym e)

-- no entry
pub entry_none : (answer : List ℕ) (start : ℕ) → entry_lines answer start 0 ≡ []
unfolding entry_lines
entry_none answer start = refl

-- one entry more
pub entry_more : (answer : List ℕ) (start j : ℕ) (kind z : ℤ) → kind ≡ number_at answer (start + 10 * j + 2) → z ≡ number_at answer (start + 10 * j + 6)
    → entry_lines answer start (suc j) ≡ entry_lines answer start j ++ line (kind_word kind) z
unfolding entry_lines
entry_more answer start j kind z e f = rw (e, f) refl

-- ---- the whole listing of an answer, and of a refusal that shows a loop

module _ (answer before one two : List ℕ) (i j n k : ℕ) (period : ℤ)
    (some : pos n ≡ number_at answer 6) (counted : pos k ≡ number_at answer 10) (at-period : period ≡ number_at answer 2)
    (w : Written before 0 (line period_word period) one i) (v : Written one i (latency_lines answer n) two j) where
  -- where no loop is shown
  pub without_loop : k ≡ 0 → Written before 0 (answered_text answer) two j
  unfolding answered_text
  without_loop e =
      rw (← some, ← counted, ← at-period, eq-eqb k 0 e, append-nil (line period_word period ++ latency_lines answer n)) (and_then w v)

  -- where one is shown, with the period before
  pub with_loop : (k ≡ 0 → ⊥) → (last : ℤ) (three : List ℕ) (m : ℕ) → last ≡ period -ℤ pos 1
      → Written two j (loop_lines last answer (14 + 6 * n) k) three m → Written before 0 (answered_text answer) three m
  unfolding answered_text
  with_loop h last three m e u =
      rw (← some, ← counted, ← at-period, ne_eqb k 0 h, ← e) (and_then (and_then w v) u)

-- the line of a refusal and then its loop, at the ceiling
pub looped_written : (answer before one two : List ℕ) (o : Outcome) (i j k : ℕ) (period ceiling : ℤ)
    → pos k ≡ number_at answer 10 → period ≡ ceiling → Written before 0 (refused o) one i
    → Written one i (loop_lines period answer 14 k) two j → Written before 0 (looped_text ceiling o answer) two j
looped_written answer before one two o i j k period ceiling e f w v = rw (← e, ← f) (and_then w v)

-- what stands from the start on is the text that it is known to be, and stands at the front
pub told : {b t before after : List ℕ} {next end : ℕ} → b ≡ t → Ended before 0 b after next end → end ≤ length before
    → (Front t before after) × (next ≡ length t)
told {b} {t} {before} {after} {next} e w l = subst (λ (x : List ℕ). (Front x before after) × (next ≡ length x)) e (front w l)

-- the text of a refusal that shows no loop
pub refusal_text : (z : ℤ) (answer : List ℕ) {o : Outcome} {e : Unanswered} → o ≡ Err e → ((x : Refusal) × (e ≡ unanswered.Refused x)) ⊎ (e ≡ unanswered.Room)
    → refused (Err e) ≡ text_of z o answer
refusal_text z answer f (inl g) = rw (f, g.1) refl
refusal_text z answer f (inr g) = rw (f, g) refl

-- and of one that shows a loop
pub loop_text_is : (z : ℤ) (answer : List ℕ) {y : ℤ} {o : Outcome} {e : Unanswered} → y ≡ z → o ≡ Err e
    → (e ≡ unanswered.NoPeriod) ⊎ (e ≡ unanswered.NoneToCeiling) → looped_text y (Err e) answer ≡ text_of z o answer
loop_text_is z answer h f (inl g) = rw (f, g, h) refl
loop_text_is z answer h f (inr g) = rw (f, g, h) refl

-- ---- counts

-- what is read as a count is the count
pub same_count : (r n : ℕ) (z : ℤ) → pos r ≡ z → z ≡ pos n → r ≡ n
same_count r n z e f = ap natural (e ∙ f)

-- one less than a count, as the code reads the two
pub less_one : (n : ℕ) (z : ℤ) → SFits w32 z → z ≡ pos n
    → to_z w32 (of_z w32 (to_z w32 (of_z w32 z) -ℤ pos 1)) ≡ to_z w32 (of_z w32 z) -ℤ pos 1
less_one n z f e =
    let fits : SFits w32 (z -ℤ pos 1) = omega (lin, minus z (pos 1), fits_between w32 z f) in
    rw (to_z-of_z f) (to_z-of_z fits)
