-- For all counts of registers and paths that are allowed there is an accepted file, so there is one of the greatest length. Its registers are
-- all alike, and so are its paths, and every number is 0 but the counts, floor and ceiling. No test is run over the bytes of a long file: a
-- record is read behind whatever stands before it, and then it is one record. Rests on the four bytes of a number (`whole`), on `TableLaws`,
-- and on `Legal` for that no file is longer.
use mathlib.Core.Path.{◌≡◌, refl, sym, ap, ap₂, ◌∙◌}
use mathlib.Core.List.{List, [], ◌∷◌, ◌++◌, append_assoc}
use mathlib.Core.Bool.{Bool, true, false, ◌&&◌, cond}
use Prim.Native.Nat.{ℕ, zero, suc, ◌+◌, ◌*◌, ◌≤◌, ◌<◌}
use native.Mathlib.Omega.{arith}
use native.Mathlib.Nat.{add-zero}
use lib.IntN.{pos, ◌-ℤ◌}
use lib.Signed.{le_z}
use lib.ListN.{length, get_or, length-append, replicate}
use lib.Seq.{get_or-append-add}
use lib.Dec.{eqb}
use borrow.Author.Tests.{le-leb, eq-eqb}
use Rattle.whole.specs.Four.{number_at, word_at, signed_of, four, bytes_of, word_of}
use Rattle.whole.proofs.Four.{number_past, number_first, four-length}
use Rattle.whole.proofs.Lin.{lin, minus}
use Rattle.paper.specs.File.{natural, marked, within, windowed, headed, counted, sized, ranged, registers, paths, register_place, path_place, register_ok, path_ok}
use Rattle.paper.specs.Limits.{most_registers, most_paths}
use Rattle.paper.specs.Refusals.{Accepted}
use Rattle.paper.proofs.Legal.{is_within, accepted_most}
use Rattle.paper.proofs.TableLaws.{passed, all_passed}

-- ---- the files

-- RULES 5.2: "`NW` (bytes 78, 87), then the number n of registers, the number m of paths, floor, ceiling and u"
abbrev header : ℕ → ℕ → List ℕ
header n m = 78 ∷ 87 ∷ (four (pos n) ++ four (pos m) ++ four (pos 1) ++ four (pos 1) ++ four (pos 0))

-- a record with the mark a b and four times the number 0, 18 bytes
abbrev blank : ℕ → ℕ → List ℕ
blank a b = a ∷ b ∷ replicate 16 0

-- k of them
abbrev blanks : ℕ → ℕ → ℕ → List ℕ
blanks a b zero = []
blanks a b (suc k) = blank a b ++ blanks a b k

-- n registers, and m paths from the host to the host
unfoldable pub plain : ℕ → ℕ → List ℕ
plain n m = header n m ++ (blanks 82 71 n ++ blanks 80 84 m)

-- ---- how long they are

-- 18 bytes for each record
blanks_length : (a b k : ℕ) → length (blanks a b k) ≡ 18 * k
blanks_length a b zero = refl
blanks_length a b (suc k) = let e = blanks_length a b k in omega arith

-- RULES 5.5: "So the length is 22 + 18(n + m) bytes"
plain_length : (n m : ℕ) → length (plain n m) ≡ 22 + 18 * (n + m)
unfolding plain
plain_length n m = simp (length-append, four-length) (omega (arith, blanks_length 82 71 n, blanks_length 80 84 m))

-- ---- one record behind others

-- of k records, number i stands behind i others
blank_there : (a b k i : ℕ) → i < k → (rest : List ℕ) × (blanks a b k ≡ blanks a b i ++ (blank a b ++ rest))
blank_there a b zero i h = absurd (omega arith)
blank_there a b (suc k) zero h = (blanks a b k, refl)
blank_there a b (suc k) (suc i) h = let t = blank_there a b k i (omega arith) in (t.0, ap (λ s. blank a b ++ s) t.1)

-- what is read of such a record at place j
record Blank (f : List ℕ) (j a b : ℕ) : Type 0 where
  mark : marked f j a b ≡ true
  first : number_at f (j + 2) ≡ pos 0
  second : number_at f (j + 6) ≡ pos 0
  third : number_at f (j + 10) ≡ pos 0
  fourth : number_at f (j + 14) ≡ pos 0

-- a mark is read past what stands before it, as a number is
mark_past : (before s : List ℕ) (a b : ℕ) → marked (before ++ s) (length before) a b ≡ marked s 0 a b
unfolding marked
mark_past before s a b =
    ap₂ (λ x y. eqb x a && eqb y b) (ap (λ k. get_or (before ++ s) k 0) (sym (add-zero (length before))) ∙ get_or-append-add before s 0 0) (get_or-append-add before s 1 0)

-- behind a file's first j bytes such a record is read, whatever they are and whatever follows it
blank_at : (f before rest : List ℕ) (j a b : ℕ) → f ≡ before ++ (blank a b ++ rest) → length before ≡ j → Blank f j a b
unfolding number_at word_at signed_of marked
blank_at f before rest j a b e l =
    let s : List ℕ = blank a b ++ rest in
    rw (e, ← l)
    (record {
      mark = mark_past before s a b ∙ both_equal;
      first = number_past before s 2;
      second = number_past before s 6;
      third = number_past before s 10;
      fourth = number_past before s 14;
    })
  where
    both_equal : marked (blank a b ++ rest) 0 a b ≡ true
    both_equal = ap₂ (λ x y. x && y) (eq-eqb a a refl) (eq-eqb b b refl)

-- ---- every test passes

-- RULES 5.6: "1 to 256", "0 to 2,048"
count_passes : (low high n : ℕ) → low ≤ n → n ≤ high → within (pos low) (pos high) (pos n) ≡ true
count_passes low high n a b = is_within (pos low) (pos high) (pos n) (record { from = omega lin; to = omega lin })

-- a window of 0 and 0 is the host's too
window_passes : (i : ℕ) → windowed i (pos 0) (pos 0) ≡ true
unfolding windowed within
window_passes i = either (eqb i 0)
  where
    either : (t : Bool) → cond t true true ≡ true
    either true = refl
    either false = refl

-- a register record of zeros passes, whichever register's it is
register_passes : (f : List ℕ) (i : ℕ) → Blank f (register_place f i) 82 71 → register_ok f i ≡ true
unfolding register_ok within
register_passes f i b = rw (b.mark, b.first, b.second, b.third, b.fourth) (window_passes i)

-- RULES 5.6: "0 to n - 1": the host is an end that every network has
end_passes : (n : ℕ) → 1 ≤ n → within (pos 0) (pos n -ℤ pos 1) (pos 0) ≡ true
unfolding within
end_passes n h = let e : le_z (pos 0) (pos n -ℤ pos 1) ≡ true = omega (lin, minus (pos n) (pos 1)) in e

-- so a path record of zeros passes where there is a register
path_passes : (f : List ℕ) (p : ℕ) → 1 ≤ registers f → Blank f (path_place f p) 80 84 → path_ok f p ≡ true
unfolding path_ok within
path_passes f p n b = rw (b.mark, b.first, b.second, b.third, b.fourth, end_passes (registers f) n) refl

-- ---- so the files are accepted

-- n and m within their ranges
module _ (n m : ℕ) (from : 1 ≤ n) (to : n ≤ most_registers) (most : m ≤ most_paths) where
  -- the counts are read back from the header
  registers_read : number_at (plain n m) 2 ≡ pos n
  unfolding plain number_at word_at four bytes_of
  registers_read = number_first (pos n) [] (record { sfits = omega arith })

  paths_read : number_at (plain n m) 6 ≡ pos m
  unfolding plain number_at word_at four bytes_of
  paths_read = number_first (pos m) [] (record { sfits = omega arith })

  -- and each test of the table passes: of the header,
  headed_passes : headed (plain n m) ≡ true
  unfolding headed marked plain
  headed_passes = ap₂ (λ x y. x && y) (le-leb 22 (length (plain n m)) (omega (arith, plain_length n m))) refl

  counted_passes : counted (plain n m) ≡ true
  unfolding counted
  counted_passes = rw (registers_read, paths_read) (ap₂ (λ x y. x && y) (count_passes 1 most_registers n from to) (count_passes 0 most_paths m (omega arith) most))

  sized_passes : sized (plain n m) ≡ true
  unfolding sized
  sized_passes = rw (registers_read, paths_read) (eq-eqb _ _ (plain_length n m))

  ranged_passes : ranged (plain n m) ≡ true
  unfolding ranged plain number_at word_at signed_of word_of four bytes_of within
  ranged_passes = refl

  -- of each register, whose record stands behind the header and the registers before it,
  registers_pass : (i : ℕ) → i < registers (plain n m) → register_ok (plain n m) i ≡ true
  unfolding plain
  registers_pass i h =
      let t = blank_there 82 71 n i (rw registers_read at h) in
      register_passes (plain n m) i
      (blank_at (plain n m) (header n m ++ blanks 82 71 i) (t.0 ++ blanks 80 84 m) (22 + 18 * i) 82 71
      (ap (λ s. header n m ++ (s ++ blanks 80 84 m)) t.1 ∙ simp append_assoc)
      (simp (length-append, four-length) (omega (arith, blanks_length 82 71 i))))

  -- and of each path, whose record stands behind all registers and the paths before it
  paths_pass : (p : ℕ) → p < paths (plain n m) → path_ok (plain n m) p ≡ true
  unfolding plain
  paths_pass p h =
      let t = blank_there 80 84 m p (rw paths_read at h) in
      let e : registers (plain n m) ≡ n = ap natural registers_read in
      path_passes (plain n m) p (rw e from)
      (blank_at (plain n m) (header n m ++ (blanks 82 71 n ++ blanks 80 84 p)) t.0 (path_place (plain n m) p) 80 84
      (ap (λ s. header n m ++ (blanks 82 71 n ++ s)) t.1 ∙ simp append_assoc)
      (rw e (simp (length-append, four-length) (omega (arith, blanks_length 82 71 n, blanks_length 80 84 p)))))

  -- no refusal that stands before 7 applies
  plain_accepted : Accepted (plain n m)
  plain_accepted =
      (passed headed_passes, (passed counted_passes, (passed sized_passes, (passed ranged_passes, (all_passed registers_pass, (all_passed paths_pass, tt))))))

-- as many registers and paths as the counts allow
unfoldable pub greatest : List ℕ
greatest = plain most_registers most_paths

-- RULES 5.5: "the greatest file has 41,494": one of so many bytes is accepted,
pub greatest_accepted : Accepted greatest × (length greatest ≡ 41494)
unfolding greatest
greatest_accepted = (plain_accepted most_registers most_paths (omega arith) (omega arith) (omega arith), plain_length most_registers most_paths)

-- and none that is accepted is longer
pub greatest_most : (f : List ℕ) → Accepted f → length f ≤ length greatest
greatest_most f a = rw greatest_accepted.1 (accepted_most f a)
