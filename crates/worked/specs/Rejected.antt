-- What must be refused (RULES 13.3): a second table, beside the worked networks of `Cases`. Most rows of files put one other number or letter
-- into network A's file: the value just outside its range, and beside it the value just inside, so that each end of a range is held from both
-- sides. Limits stand here as numbers and not by their names in `Limits`, which the table holds to these numbers. `Rejected` says of a row
-- what the definitions must say, and `proofs/RejectedCases.antt` shows it for the whole table.
use Rattle.std.specs.Prelude.{List, [], ◌∷◌, ◌++◌, ℕ, suc, ◌+◌, ◌*◌, ◌≤◌, ◌<◌, ℤ, pos, neg_ℤ, length, get_or, take, drop}
use Rattle.whole.specs.Four.{four}
use Rattle.paper.specs.Network.{Network}
use Rattle.paper.specs.declared.Rule.{Rule}
use Rattle.paper.specs.declared.Rule.TheVariants.{Setup, Hold, Low, High}
use Rattle.paper.specs.Rules.{Exists}
use Rattle.paper.specs.Schedule.{Schedule, Answer, Refutes, Shown}
use Rattle.paper.specs.File.{network_of}
use Rattle.paper.specs.Table.{Given}
use Rattle.paper.specs.Refusals.{Accepted, refusals}
use Rattle.paper.specs.Question.{Question, question_refusals}
use Rattle.worked.specs.Cases.{Described, file_of, network_a, network_d, host_alone}

-- ---- a file with a slip in it

-- the file with these bytes from place i on, for those that stood there
abbrev pub put : ℕ → List ℕ → List ℕ → List ℕ
put i bytes f = take i f ++ bytes ++ drop (i + length bytes) f

-- the file with the number z at place i
abbrev pub put_number : ℕ → ℤ → List ℕ → List ℕ
put_number i z f = put i (four z) f

-- network A (RULES 11.1) and its file
abbrev pub A : Described
A = network_a 1 100 0

abbrev pub file_a : List ℕ
file_a = file_of A

-- a place in the file, from the offset in a record: that of register i begins at byte 22 + 18i, and that of path p at 22 + 18(n + p), where A
-- has n = 3 (RULES 5.6)
abbrev pub of_register : ℕ → ℕ → ℕ
of_register i offset = 22 + 18 * i + offset

abbrev pub of_path : ℕ → ℕ → ℕ
of_path p offset = 22 + 18 * (3 + p) + offset

abbrev pub minus : ℕ → ℤ
minus k = neg_ℤ (pos k)

-- ---- a row, and what must be so

pub data Rejection : Type 0 where
  -- the file is refused with this number and place
  refused : (number place : ℕ) (file : List ℕ) → Rejection
  -- with the number `outside` put at a byte of it the file is refused so; with `inside` it is accepted
  edge : (number place : ℕ) (file : List ℕ) (byte : ℕ) (outside inside : ℤ) → Rejection
  -- an output of at most so many bytes is too small for the network, and with more bytes this number is returned
  short : (network : Described) (bytes number : ℕ) → Rejection
  -- the network has no such rule, and has the one beside it
  missing : (network : Described) (rule beside : Rule) → Rejection
  -- the list may be shown for no period: it is no loop, is not listed from its lowest register, or does not contradict itself
  no_loop : (network : Described) (rules : List Rule) → Rejection
  -- the loop contradicts itself at this period, and no longer at the next
  until : (network : Described) (period : ℕ) (loop : List Rule) → Rejection
  -- the list may not be shown with an answer at this period
  unshown : (network : Described) (period : ℕ) (rules : List Rule) → Rejection
  -- the latencies `outside` are no schedule at this period, and `inside` are one
  unmet : (network : Described) (period : ℕ) (outside inside : List ℤ) → Rejection
  -- no latencies are an answer at this period
  unanswered : (network : Described) (period : ℕ) → Rejection
  -- the latencies are a schedule at this period, but no answer
  not_least : (network : Described) (period : ℕ) (latencies : List ℤ) → Rejection

-- a refused file: whatever the room, and whatever is asked (RULES 8.2)
pub record Refused (number place : ℕ) (file : List ℕ) : Type 0 where
  pub scheduling : (room : ℕ) → Given (refusals file room) number place
  pub asking : (q : Question) → Given (question_refusals file q) number place

abbrev network : Described → Network
network w = network_of (file_of w)

abbrev row : List ℤ → ℕ → ℤ
row latencies i = get_or latencies i (pos 0)

abbrev pub Rejected : Rejection → Type 0
Rejected (refused n p f) = Refused n p f
Rejected (edge n p f i outside inside) = Refused n p (put_number i outside f) × Accepted (put_number i inside f)
Rejected (short w bytes n) =
    ((room : ℕ) → room ≤ bytes → Given (refusals (file_of w) room) 7 0) × ((room : ℕ) → bytes < room → Given (refusals (file_of w) room) n 0)
Rejected (missing w r s) = (Exists (network w) r → ⊥) × Exists (network w) s
Rejected (no_loop w l) = (P : ℕ) → Refutes (network w) P l → ⊥
Rejected (until w P l) = Refutes (network w) P l × (Refutes (network w) (suc P) l → ⊥)
Rejected (unshown w P l) = Shown (network w) P l → ⊥
Rejected (unmet w P outside inside) = (Schedule (network w) P (row outside) → ⊥) × Schedule (network w) P (row inside)
Rejected (unanswered w P) = (x : ℕ → ℤ) → Answer (network w) P x → ⊥
Rejected (not_least w P l) = Schedule (network w) P (row l) × (Answer (network w) P (row l) → ⊥)

-- ---- files

-- RULES 6.2: "the file has fewer than 22 bytes, or its first two are not `NW`". With 22 bytes it is the length that is wrong.
abbrev pub heads : List Rejection
heads =
    refused 1 0 []
    ∷ refused 1 0 (take 21 file_a)
    ∷ refused 3 0 (take 22 file_a)
    ∷ refused 1 0 (put 0 (79 ∷ []) file_a)
    ∷ refused 1 0 (put 1 (86 ∷ []) file_a)
    ∷ refused 1 0 (put 0 (87 ∷ 78 ∷ []) file_a)
    ∷ []

-- RULES 6.2: "n or m is out of range": n is 1 to 256 at byte 2 and m is 0 to 2,048 at byte 6 (RULES 5.6). Within the range it is the length
-- that is wrong.
abbrev pub counts : List Rejection
counts =
    refused 2 0 (put_number 2 (pos 0) file_a)
    ∷ refused 3 0 (put_number 2 (pos 1) file_a)
    ∷ refused 3 0 (put_number 2 (pos 256) file_a)
    ∷ refused 2 0 (put_number 2 (pos 257) file_a)
    ∷ refused 2 0 (put_number 6 (minus 1) file_a)
    ∷ refused 3 0 (put_number 6 (pos 0) file_a)
    ∷ refused 3 0 (put_number 6 (pos 2048) file_a)
    ∷ refused 2 0 (put_number 6 (pos 2049) file_a)
    ∷ []

-- RULES 6.2: "the file's length is not 22 + 18(n + m)": a byte short, a byte long, a record long, and without its paths
abbrev pub lengths : List Rejection
lengths =
    refused 3 0 (take 129 file_a)
    ∷ refused 3 0 (file_a ++ 0 ∷ [])
    ∷ refused 3 0 (file_a ++ drop 112 file_a)
    ∷ refused 3 0 (take 76 file_a)
    ∷ []

-- RULES 6.2: "floor, ceiling or u is out of range". RULES 5.6: "1 to 10,000,000", "floor to 10,000,000", "0 to 10,000", at the bytes 10, 14
-- and 18
abbrev pub ranges : List Rejection
ranges =
    edge 4 0 file_a 10 (pos 0) (pos 1)
    ∷ edge 4 0 file_a 10 (pos 101) (pos 100)
    ∷ edge 4 0 (file_of (network_a 1 10000000 0)) 10 (pos 10000001) (pos 10000000)
    ∷ edge 4 0 file_a 14 (pos 0) (pos 1)
    ∷ edge 4 0 (file_of (network_a 9 100 0)) 14 (pos 8) (pos 9)
    ∷ edge 4 0 file_a 14 (pos 10000001) (pos 10000000)
    ∷ edge 4 0 file_a 18 (minus 1) (pos 0)
    ∷ edge 4 0 file_a 18 (pos 10001) (pos 10000)
    ∷ []

-- RULES 6.2: "a register record has a wrong mark, or a number out of range", "the lowest such register": first the letters `RG`; then, by
-- RULES 5.6, setup and hold, -100,000 to 100,000; low, -1,000,000 to 1,000,000; high, the same and not below low; both 0 for register 0; and
-- last where a later register is faulty too
abbrev pub register_rows : List Rejection
register_rows =
    refused 5 0 (put (of_register 0 0) (81 ∷ []) file_a)
    ∷ refused 5 2 (put (of_register 2 1) (72 ∷ []) file_a)
    ∷ refused 5 1 (put (of_register 1 0) (80 ∷ 84 ∷ []) file_a)
    ∷ edge 5 0 file_a (of_register 0 2) (minus 100001) (minus 100000)
    ∷ edge 5 1 file_a (of_register 1 2) (pos 100001) (pos 100000)
    ∷ edge 5 2 file_a (of_register 2 6) (minus 100001) (minus 100000)
    ∷ edge 5 0 file_a (of_register 0 6) (pos 100001) (pos 100000)
    ∷ edge 5 1 file_a (of_register 1 10) (minus 1000001) (minus 1000000)
    ∷ edge 5 2 file_a (of_register 2 10) (pos 11) (pos 10)
    ∷ edge 5 2 file_a (of_register 2 14) (minus 11) (minus 10)
    ∷ edge 5 1 (put_number (of_register 1 10) (minus 1000000) file_a) (of_register 1 14) (minus 1000001) (minus 1000000)
    ∷ edge 5 1 file_a (of_register 1 14) (pos 1000001) (pos 1000000)
    ∷ edge 5 1 (put_number (of_register 1 14) (pos 1000000) file_a) (of_register 1 10) (pos 1000001) (pos 1000000)
    ∷ edge 5 0 file_a (of_register 0 10) (pos 1) (pos 0)
    ∷ edge 5 0 file_a (of_register 0 10) (minus 1) (pos 0)
    ∷ edge 5 0 file_a (of_register 0 14) (pos 1) (pos 0)
    ∷ edge 5 0 file_a (of_register 0 14) (minus 1) (pos 0)
    ∷ refused 5 0 (put_number (of_register 0 10) (pos 1) (put_number (of_register 0 14) (pos 1) file_a))
    ∷ refused 5 1 (put_number (of_register 1 2) (pos 100001) (put_number (of_register 2 2) (pos 100001) file_a))
    ∷ refused 5 0 (put_number (of_register 0 10) (pos 1) (put (of_register 2 0) (0 ∷ 0 ∷ []) file_a))
    ∷ []

-- RULES 6.2: "a path record has a wrong mark, or a number out of range", "the lowest such path": first the letters `PT`; then, by RULES 5.6,
-- from and to, 0 to n - 1; dmin, 0 to dmax; dmax, dmin to 1,000,000; and last where a later path is faulty too
abbrev pub path_rows : List Rejection
path_rows =
    refused 6 0 (put (of_path 0 0) (81 ∷ []) file_a)
    ∷ refused 6 2 (put (of_path 2 1) (83 ∷ []) file_a)
    ∷ refused 6 1 (put (of_path 1 0) (82 ∷ 71 ∷ []) file_a)
    ∷ edge 6 0 file_a (of_path 0 2) (minus 1) (pos 0)
    ∷ edge 6 1 file_a (of_path 1 2) (pos 3) (pos 2)
    ∷ edge 6 2 file_a (of_path 2 6) (minus 1) (pos 0)
    ∷ edge 6 0 file_a (of_path 0 6) (pos 3) (pos 2)
    ∷ edge 6 1 file_a (of_path 1 10) (minus 1) (pos 0)
    ∷ edge 6 2 file_a (of_path 2 10) (pos 7) (pos 6)
    ∷ edge 6 2 file_a (of_path 2 14) (pos 1) (pos 2)
    ∷ edge 6 0 file_a (of_path 0 14) (pos 1000001) (pos 1000000)
    ∷ edge 6 1 (put_number (of_path 1 14) (pos 1000000) file_a) (of_path 1 10) (pos 1000001) (pos 1000000)
    ∷ refused 6 1 (put_number (of_path 1 2) (pos 3) (put_number (of_path 2 6) (pos 3) file_a))
    ∷ refused 6 0 (put_number (of_path 0 10) (minus 1) (put (of_path 2 0) (0 ∷ 0 ∷ []) file_a))
    ∷ []

-- RULES 6.3: "Of the numbers from 1 on that apply, the lowest is returned"
abbrev pub several : List Rejection
several =
    refused 1 0 (put 0 (79 ∷ []) (take 129 file_a))
    ∷ refused 1 0 (put 1 (86 ∷ []) (put_number 2 (pos 257) file_a))
    ∷ refused 2 0 (put_number 6 (minus 1) (put_number 10 (pos 0) file_a))
    ∷ refused 3 0 (put_number 10 (pos 0) file_a ++ 0 ∷ [])
    ∷ refused 4 0 (put_number 18 (minus 1) (put (of_register 0 0) (81 ∷ []) file_a))
    ∷ refused 4 0 (put_number 14 (pos 0) (put_number (of_path 0 2) (pos 3) file_a))
    ∷ refused 5 2 (put_number (of_register 2 2) (pos 100001) (put_number (of_path 0 2) (pos 3) file_a))
    ∷ []

-- RULES 6.2: "the output has fewer than 14 + 16n bytes": of the networks A, A4, A7, D and F
abbrev pub rooms : List Rejection
rooms =
    short A 61 0
    ∷ short (network_a 1 8 0) 61 9
    ∷ short (network_a 1 100 2) 61 8
    ∷ short (network_d (minus 10) (pos 10)) 45 0
    ∷ short (host_alone (pos 0) []) 29 0
    ∷ []

-- ---- rules, loops and answers

-- RULES 2.5: "every path has one setup rule and one hold rule, and every register from 1 up has one low rule and one high rule. The host has
-- no low rule and no high rule.": of A, and of the host alone with two paths
abbrev pub rules : List Rejection
rules =
    missing A (Setup 3) (Setup 2)
    ∷ missing A (Hold 3) (Hold 2)
    ∷ missing A (Low 0) (Low 1)
    ∷ missing A (Low 3) (Low 2)
    ∷ missing A (High 0) (High 1)
    ∷ missing A (High 3) (High 2)
    ∷ missing (host_alone (pos 0) ((pos 0, pos 0, pos 0, pos 5) ∷ (pos 0, pos 0, pos 0, pos 5) ∷ [])) (Setup 2) (Setup 1)
    ∷ missing (host_alone (pos 0) ((pos 0, pos 0, pos 0, pos 5) ∷ (pos 0, pos 0, pos 0, pos 5) ∷ [])) (Low 1) (Hold 1)
    ∷ []

-- RULES 7.9: "The first entry is the arrow that leaves the lowest-numbered register of the loop.": of two loops it is not. RULES 4.1: "A *loop*
-- is a closed chain of one or more arrows": the chain is not closed, it is broken, it passes registers 0 and 1, register 0 or register 1
-- twice, its path does not exist, there is no arrow. RULES 4.2: "A sum of exactly 0 is no contradiction.", which the hold rules of A6 add up to.
abbrev pub loops : List Rejection
loops =
    no_loop A (Hold 0 ∷ Setup 0 ∷ [])
    ∷ no_loop (network_a 1 100 2) (Hold 1 ∷ Hold 0 ∷ Hold 2 ∷ [])
    ∷ no_loop A (Setup 0 ∷ Setup 1 ∷ [])
    ∷ no_loop A (Setup 0 ∷ Setup 2 ∷ [])
    ∷ no_loop A (Setup 0 ∷ Hold 0 ∷ Setup 0 ∷ Hold 0 ∷ [])
    ∷ no_loop A (Setup 0 ∷ Hold 0 ∷ Hold 2 ∷ Setup 2 ∷ [])
    ∷ no_loop A (Setup 0 ∷ Setup 1 ∷ Hold 1 ∷ Hold 0 ∷ [])
    ∷ no_loop A (Setup 3 ∷ [])
    ∷ no_loop A (Hold 3 ∷ [])
    ∷ no_loop A []
    ∷ no_loop (network_a 1 100 1) (Hold 2 ∷ Hold 1 ∷ Hold 0 ∷ [])
    ∷ []

-- the sums of A, A6, D and E in RULES 11.6, and RULES 7.10: "An answer with a period above the floor shows a loop that contradicts itself at the period less
-- 1. An answer at the floor shows none"
abbrev pub shows : List Rejection
shows =
    until A 8 (Setup 0 ∷ Hold 0 ∷ [])
    ∷ until (network_a 1 100 1) 10 (Setup 0 ∷ Hold 0 ∷ [])
    ∷ until (network_d (minus 10) (pos 10)) 7 (Setup 0 ∷ Setup 1 ∷ [])
    ∷ until (network_d (pos 0) (pos 1)) 8 (Setup 0 ∷ High 1 ∷ [])
    ∷ unshown A 10 (Setup 0 ∷ Hold 0 ∷ [])
    ∷ unshown A 9 []
    ∷ unshown (network_a 9 100 0) 9 (Setup 0 ∷ Hold 0 ∷ [])
    ∷ []

-- RULES 3.1: "A *schedule at P* gives every register one whole latency, and the host 0, so that all rules are met.": all moved by 1; then of
-- A the setup of path 0, its hold, the hold of path 2, the hold of path 1 with the setup of path 2, and of E the low and the high rule, missed by 1
abbrev pub schedules : List Rejection
schedules =
    unmet A 9 (pos 1 ∷ pos 2 ∷ pos 0 ∷ []) (pos 0 ∷ pos 1 ∷ minus 1 ∷ [])
    ∷ unmet A 9 (pos 0 ∷ pos 0 ∷ minus 1 ∷ []) (pos 0 ∷ pos 1 ∷ minus 1 ∷ [])
    ∷ unmet A 9 (pos 0 ∷ pos 2 ∷ minus 1 ∷ []) (pos 0 ∷ pos 1 ∷ minus 1 ∷ [])
    ∷ unmet A 9 (pos 0 ∷ pos 1 ∷ minus 2 ∷ []) (pos 0 ∷ pos 1 ∷ minus 1 ∷ [])
    ∷ unmet A 9 (pos 0 ∷ pos 1 ∷ pos 3 ∷ []) (pos 0 ∷ pos 1 ∷ pos 2 ∷ [])
    ∷ unmet (network_d (pos 0) (pos 1)) 100 (pos 0 ∷ minus 1 ∷ []) (pos 0 ∷ pos 0 ∷ [])
    ∷ unmet (network_d (pos 0) (pos 1)) 100 (pos 0 ∷ pos 2 ∷ []) (pos 0 ∷ pos 1 ∷ [])
    ∷ []

-- RULES 3.2: "The period is the smallest whole P from the floor to the ceiling, both included, at which there is a schedule. The latency of
-- a register is the smallest that it has in any schedule at this P.": one too short, one too
-- long, below the floor, above the ceiling; and a latency that is larger than need be
abbrev pub answers : List Rejection
answers =
    unanswered A 8
    ∷ unanswered A 10
    ∷ unanswered (network_a 20 100 0) 9
    ∷ unanswered (network_a 1 8 0) 9
    ∷ not_least A 9 (pos 0 ∷ pos 1 ∷ pos 0 ∷ [])
    ∷ not_least (network_a 20 100 0) 20 (pos 0 ∷ pos 0 ∷ pos 0 ∷ [])
    ∷ []

-- ---- the table

abbrev pub groups : List (List Rejection)
groups =
    heads ∷ counts ∷ lengths ∷ ranges ∷ register_rows ∷ path_rows ∷ several ∷ rooms ∷ rules ∷ loops ∷ shows ∷ schedules ∷ answers ∷ []

abbrev pub joined : List (List Rejection) → List Rejection
joined [] = []
joined (g ∷ l) = g ++ joined l

unfoldable pub rejections : List Rejection
rejections = joined groups
