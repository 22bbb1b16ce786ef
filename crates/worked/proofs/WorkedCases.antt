-- The paper's eleven worked networks meet the definitions. Each row is a statement of its own, shown by computing its test, so that a row
-- that does not meet them is refused by name; the table is made of the rows. Rests on `CaseTests`.
use mathlib.Core.Path.{◌≡◌, refl}
use mathlib.Core.List.{[], ◌∷◌}
use lib.IntN.{pos, neg_ℤ}
use lib.ListN.{length}
use Rattle.whole.specs.Four.{word_at, signed_of, number_at, word_of, bytes_of, four}
use Rattle.paper.specs.declared.Rule.TheVariants.{Setup, Hold}
use Rattle.paper.specs.Chains.{All}
use Rattle.paper.specs.File.{marked, within, windowed, headed, counted, sized, ranged, register_ok, path_ok, network_of}
use Rattle.worked.specs.Cases.{Worked, file_of, network_a, cases, case_a, case_a2, case_a3, case_a4, case_a5, case_a6, case_a7, case_b, case_d, case_e, case_f}
use Rattle.worked.proofs.CaseTests.{worked_test, by_chains, by_loop, by_later}

pub row_a : Worked case_a
unfolding file_of network_of headed counted sized ranged register_ok path_ok marked within windowed number_at word_at signed_of four bytes_of word_of
row_a = (worked_test case_a (by_chains ([] ∷ (Setup 0 ∷ []) ∷ (Hold 2 ∷ []) ∷ []))).shows refl

row_a2 : Worked case_a2
unfolding file_of network_of headed counted sized ranged register_ok path_ok marked within windowed number_at word_at signed_of four bytes_of word_of
row_a2 = (worked_test case_a2 (by_chains ([] ∷ (Setup 0 ∷ []) ∷ (Hold 2 ∷ []) ∷ []))).shows refl

row_a3 : Worked case_a3
unfolding file_of network_of headed counted sized ranged register_ok path_ok marked within windowed number_at word_at signed_of four bytes_of word_of
row_a3 = (worked_test case_a3 (by_chains ([] ∷ (Hold 2 ∷ Hold 1 ∷ []) ∷ (Hold 2 ∷ []) ∷ []))).shows refl

pub row_a4 : Worked case_a4
unfolding file_of network_of headed counted sized ranged register_ok path_ok marked within windowed number_at word_at signed_of four bytes_of word_of
row_a4 = (worked_test case_a4 (by_later 9 (pos 0 ∷ pos 1 ∷ neg_ℤ (pos 1) ∷ []))).shows refl

row_a5 : Worked case_a5
unfolding file_of network_of headed counted sized ranged register_ok path_ok marked within windowed number_at word_at signed_of four bytes_of word_of
row_a5 = (worked_test case_a5 (by_chains ([] ∷ (Setup 0 ∷ []) ∷ (Hold 2 ∷ []) ∷ []))).shows refl

row_a6 : Worked case_a6
unfolding file_of network_of headed counted sized ranged register_ok path_ok marked within windowed number_at word_at signed_of four bytes_of word_of
row_a6 = (worked_test case_a6 (by_chains ([] ∷ (Setup 0 ∷ []) ∷ (Hold 2 ∷ []) ∷ []))).shows refl

pub row_a7 : Worked case_a7
unfolding file_of network_of headed counted sized ranged register_ok path_ok marked within windowed number_at word_at signed_of four bytes_of word_of
row_a7 = (worked_test case_a7 by_loop).shows refl

row_b : Worked case_b
unfolding file_of network_of headed counted sized ranged register_ok path_ok marked within windowed number_at word_at signed_of four bytes_of word_of
row_b = (worked_test case_b by_loop).shows refl

pub row_d : Worked case_d
unfolding file_of network_of headed counted sized ranged register_ok path_ok marked within windowed number_at word_at signed_of four bytes_of word_of
row_d = (worked_test case_d (by_chains ([] ∷ (Setup 0 ∷ []) ∷ []))).shows refl

row_e : Worked case_e
unfolding file_of network_of headed counted sized ranged register_ok path_ok marked within windowed number_at word_at signed_of four bytes_of word_of
row_e = (worked_test case_e (by_chains ([] ∷ (Setup 0 ∷ []) ∷ []))).shows refl

pub row_f : Worked case_f
unfolding file_of network_of headed counted sized ranged register_ok path_ok marked within windowed number_at word_at signed_of four bytes_of word_of
row_f = (worked_test case_f (by_chains ([] ∷ []))).shows refl

-- RULES 11.7: "The eleven are one table, and one statement is proved of the whole of it: the definitions say of each network what its row says."
pub worked_cases : All Worked cases
unfolding cases
worked_cases = (row_a, (row_a2, (row_a3, (row_a4, (row_a5, (row_a6, (row_a7, (row_b, (row_d, (row_e, (row_f, tt)))))))))))

-- RULES 11.5: "The eleven cases and what comes of each": none is left out
eleven : length cases ≡ 11
unfolding cases
eleven = refl

-- RULES 11.1: "Its file has 130 bytes." (`CaseBytes` has them)
file_of_a : length (file_of (network_a 1 100 0)) ≡ 130
unfolding file_of four bytes_of
file_of_a = refl
