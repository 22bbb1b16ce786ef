-- RULES 6.7: "a file that is too long for any network is refused by what its first bytes say, with 1, 2 or 3". So such a file and any part of
-- it from the start that is too long still are refused alike: whoever reads no further than that loses nothing. Rests on `Legal`.
use mathlib.Core.Path.{◌≡◌, refl, sym, ◌∙◌}
use mathlib.Core.Logic.{◌↔◌, inl, inr}
use mathlib.Core.List.{List, ◌++◌}
use mathlib.Core.Bool.{Bool, true, false}
use Prim.Native.Nat.{ℕ, ◌+◌, ◌*◌, ◌≤◌, ◌<◌}
use native.Mathlib.Omega.{arith}
use lib.ListN.{length, get_or, take}
use lib.Seq.{get_or-take, length-take-le}
use borrow.Author.Tests.{ne_eqb, le-leb}
use Rattle.whole.specs.Four.{number_at, word_at}
use Rattle.std.specs.Prelude.{Ok, Err}
use Rattle.paper.specs.declared.Unanswered.TheVariants as unanswered
use Rattle.paper.specs.Limits.{most_registers, most_paths}
use Rattle.paper.specs.Network.{Network}
use Rattle.paper.specs.File.{marked, headed, counted, sized, registers, paths, network_of}
use Rattle.paper.specs.Table.{Row, Fails, Given}
use Rattle.paper.specs.Refusals.{faults, schedule_rows}
use Rattle.paper.specs.Numbers.{Outcome, outcome_number, outcome_place}
use Rattle.paper.specs.Outcome.{Left, FileResult}
use Rattle.paper.proofs.Legal.{passes, counts_to}

-- RULES 5.5: "the length is 22 + 18(n + m) bytes, and the greatest file has 41,494": longer than that with the most registers and paths
abbrev pub TooLong : List ℕ → Type 0
TooLong f = 22 + 18 * (most_registers + most_paths) < length f

-- ---- one file

-- where its counts are in range, its length is not what they say
not_sized : (f : List ℕ) → TooLong f → counted f ≡ true → sized f ≡ false
unfolding sized
not_sized f long c =
    let n = counts_to f c in
    let other : length f ≡ 22 + 18 * (registers f + paths f) → ⊥ = λ e. omega (arith, n.0, n.1) in
    ne_eqb (length f) (22 + 18 * (registers f + paths f)) other

-- so one of the first three rows is the first that applies, whatever rows follow the file's faults
pub long_refused : (f : List ℕ) (more : List Row) (n p : ℕ) → TooLong f → Given (faults f ++ more) n p → (1 ≤ n) × (n ≤ 3)
long_refused f more n p long (inl a) = let e = a.0 in omega arith
long_refused f more n p long (inr (s, inl a)) = let e = a.0 in omega arith
long_refused f more n p long (inr (s, inr (c, inl a))) = let e = a.0 in omega arith
long_refused f more n p long (inr (s, inr (c, inr (l, rest)))) = absurd (l 0 (not_sized f long (passes (counted f) c), refl))

-- ---- two files with the same header

-- where a test has the same answer of both, its row applies of both or of neither
same_silent : {a b : Bool} → a ≡ b → ((p : ℕ) → Fails a p → ⊥) → (p : ℕ) → Fails b p → ⊥
same_silent e s p x = s p (e ∙ x.0, x.1)

-- both too long: what the one is given, the other is
same_given : (f g : List ℕ) (more others : List Row) (n p : ℕ) → headed f ≡ headed g → counted f ≡ counted g → TooLong f → TooLong g
    → Given (faults f ++ more) n p → Given (faults g ++ others) n p
same_given f g more others n p h c lf lg (inl a) = inl (a.0, (sym h ∙ a.1.0, a.1.1))
same_given f g more others n p h c lf lg (inr (s, inl a)) = inr (same_silent h s, inl (a.0, (sym c ∙ a.1.0, a.1.1)))
same_given f g more others n p h c lf lg (inr (s, inr (t, inl a))) =
    inr (same_silent h s, inr (same_silent c t, inl (a.0, (not_sized g lg (sym c ∙ passes (counted f) t), a.1.1))))
same_given f g more others n p h c lf lg (inr (s, inr (t, inr (l, rest)))) = absurd (l 0 (not_sized f lf (passes (counted f) t), refl))

-- 1, 2 and 3 leave the output untouched, whatever network the file would mean
same_left : (N M : Network) (o : Outcome) (before after : List ℕ) → 1 ≤ outcome_number o → outcome_number o ≤ 3
    → Left N o before after → Left M o before after
same_left N M (Ok tt) before after a b l = absurd (omega arith)
same_left N M (Err (unanswered.Refused x)) before after a b l = l
same_left N M (Err unanswered.Room) before after a b l = absurd (omega arith)
same_left N M (Err unanswered.NoPeriod) before after a b l = absurd (omega arith)
same_left N M (Err unanswered.NoneToCeiling) before after a b l = absurd (omega arith)

-- so results of the one are results of the other: the tests of the header alone decide
pub same_result : (f g : List ℕ) → headed f ≡ headed g → counted f ≡ counted g → TooLong f → TooLong g
    → (before after : List ℕ) (o : Outcome) → FileResult f before o after → FileResult g before o after
same_result f g h c lf lg before after o r =
    let rows : Network → List Row = λ N. schedule_rows N (length before) in
    let n = long_refused f (rows (network_of f)) (outcome_number o) (outcome_place o) lf r.given in
    record {
      given = same_given f g (rows (network_of f)) (rows (network_of g)) (outcome_number o) (outcome_place o) h c lf lg r.given;
      output = same_left (network_of f) (network_of g) o before after n.0 n.1 r.output;
    }

-- ---- a file and its first k bytes

module _ (f : List ℕ) (k : ℕ) (long : 22 + 18 * (most_registers + most_paths) < k) (within : k ≤ length f) where
  cut_length : length (take k f) ≡ k
  cut_length = length-take-le k f within

  -- the first bytes are those of the whole
  cut_byte : (i : ℕ) → i < 22 → get_or (take k f) i 0 ≡ get_or f i 0
  cut_byte i h = get_or-take k f i 0 (omega arith)

  cut_number : (i : ℕ) → i < 19 → number_at (take k f) i ≡ number_at f i
  unfolding number_at word_at
  cut_number i h =
      rw (cut_byte i (omega arith), cut_byte (i + 1) (omega arith), cut_byte (i + 2) (omega arith), cut_byte (i + 3) (omega arith)) refl

  -- the tests of the header have the same answers
  cut_headed : headed (take k f) ≡ headed f
  unfolding headed marked
  cut_headed =
      rw (cut_length, le-leb 22 k (omega arith), le-leb 22 (length f) (omega arith), cut_byte 0 (omega arith), cut_byte 1 (omega arith)) refl

  cut_counted : counted (take k f) ≡ counted f
  unfolding counted
  cut_counted = rw (cut_number 2 (omega arith), cut_number 6 (omega arith)) refl

  -- A file that is too long for any network and its first k bytes, which are too many too, have the same results.
  pub cut_refused : (before after : List ℕ) (o : Outcome) → FileResult (take k f) before o after ↔ FileResult f before o after
  cut_refused before after o =
      let cut : TooLong (take k f) = omega (arith, cut_length) in
      let whole : TooLong f = omega arith in (
        same_result (take k f) f cut_headed cut_counted cut whole before after o,
        same_result f (take k f) (sym cut_headed) (sym cut_counted) whole cut before after o,
      )
