-- Network A's listing: with room enough, the row's own result of A is listed as the rules list it, byte for byte. Rests on `Texts.antt`,
-- on `worked_results` of `skew` and on `Sample.antt` of `listing`.
use Rattle.std.specs.Prelude.{Ok}
use mathlib.Core.Path.{◌≡◌, sym, ap, ◌∙◌}
use mathlib.Core.List.{List, [], ◌++◌, append_assoc, append-nil}
use Prim.Native.Nat.{ℕ, ◌≤◌}
use lib.IntN.{pos, negsuc}
use lib.ListN.{length, drop}
use Rattle.paper.specs.File.{network_of}
use Rattle.paper.specs.Limits.{room_for}
use Rattle.paper.specs.declared.Rule.TheVariants.{Setup, Hold}
use Rattle.paper.specs.Output.{skew_record, latency_record, entry_record}
use Rattle.paper.specs.Outcome.{FileResult}
use Rattle.worked.specs.Cases.{case_a, cases, file_of}
use Rattle.skew.specs.Rows.{row_bytes}
use Rattle.skew.proofs.WorkedResults.{worked_results}
use Rattle.listing.specs.Text.{answered_text}
use Rattle.listing.specs.ResultText.{result_text}
use Rattle.listing.proofs.Sample.{answer_of_a, lines_of_a, listing_of_a}
use Rattle.skewlist.proofs.Texts.{result_text_lem}

-- a first record, three records and two, one after the other or grouped
grouped : (s a b c d e : List ℕ) → s ++ a ++ b ++ c ++ d ++ e ≡ s ++ (a ++ b ++ c) ++ (d ++ (e ++ []))
grouped s a b c d e = simp (append_assoc, append-nil)

-- the bytes of the sample are those of the table's row
pub sample_is_row : answer_of_a ≡ row_bytes case_a.result
unfolding answer_of_a
sample_is_row =
    grouped (skew_record 9 3 2) (latency_record (pos 0)) (latency_record (pos 1)) (latency_record (negsuc 0)) (entry_record (Setup 0))
    (entry_record (Hold 0))

-- network A's file, and what the row's result leaves in the output
abbrev file_a : List ℕ
file_a = file_of case_a.network

abbrev left_a : List ℕ → List ℕ
left_a before = row_bytes case_a.result ++ drop (length (row_bytes case_a.result)) before

-- RULES 11.2: whatever result leaves the row's bytes, its text is the seven lines
pub text_of_a : (before : List ℕ) (r : FileResult file_a before (Ok tt) (left_a before))
    → result_text (network_of file_a) before (Ok tt) (left_a before) r.output ≡ lines_of_a
text_of_a before r =
    let rest : List ℕ = drop (length (row_bytes case_a.result)) before in
    sym (result_text_lem file_a (Ok tt) r)
    ∙ ap (λ (l : List ℕ). answered_text (l ++ rest)) (sym sample_is_row)
    ∙ listing_of_a (pos (network_of file_a).ceiling) rest

-- and with room enough there is such a result
pub listed_a : (before : List ℕ) → room_for (network_of file_a).registers ≤ length before
    → (r : FileResult file_a before (Ok tt) (left_a before))
    × (result_text (network_of file_a) before (Ok tt) (left_a before) r.output ≡ lines_of_a)
unfolding cases
listed_a before enough = let r = worked_results.0.allowed before enough in (r, text_of_a before r)
