-- What is listed of the first bytes of a file that is too long for any network is the listing of the whole. Rests on `Cut.antt` of `paper`.
use Rattle.std.specs.Prelude.{Ok, Err}
use mathlib.Core.Path.{◌≡◌, refl, ap, subst, ◌∙◌}
use mathlib.Core.List.{List}
use Prim.Native.Nat.{ℕ, ◌+◌, ◌*◌, ◌≤◌, ◌<◌}
use native.Mathlib.Omega.{arith}
use lib.ListN.{length, take}
use Rattle.paper.specs.declared.Unanswered.TheVariants as unanswered
use Rattle.paper.specs.Network.{Network}
use Rattle.paper.specs.Limits.{most_registers, most_paths}
use Rattle.paper.specs.File.{network_of}
use Rattle.paper.specs.Refusals.{schedule_rows}
use Rattle.paper.specs.Numbers.{Outcome, outcome_number, outcome_place}
use Rattle.paper.specs.Output.{Front}
use Rattle.paper.specs.Outcome.{Left}
use Rattle.paper.proofs.Cut.{long_refused, cut_refused}
use Rattle.listing.specs.ResultText.{result_text}
use Rattle.skewlist.specs.Listing.{Listing}

-- the text of 1, 2 and 3 is the refused line alone, whatever network the file would mean
same_text : (N M : Network) (o : Outcome) (before after : List ℕ) → 1 ≤ outcome_number o → outcome_number o ≤ 3
    → (l : Left N o before after) (m : Left M o before after) → result_text N before o after l ≡ result_text M before o after m
same_text N M (Ok tt) before after a b l m = absurd (omega arith)
same_text N M (Err (unanswered.Refused x)) before after a b l m = refl
same_text N M (Err unanswered.Room) before after a b l m = absurd (omega arith)
same_text N M (Err unanswered.NoPeriod) before after a b l m = absurd (omega arith)
same_text N M (Err unanswered.NoneToCeiling) before after a b l m = absurd (omega arith)

-- A listing of the first k bytes, which are more than any network's file has, is a listing of the whole file.
pub cut_listed : (f : List ℕ) (k : ℕ) → 22 + 18 * (most_registers + most_paths) < k → k ≤ length f
    → {before answer blank text : List ℕ} {size : ℕ} → Listing (take k f) before answer blank text size → Listing f before answer blank text size
cut_listed f k long within {before} {answer} {blank} {text} {size} w =
    let o = w.outcome in
    let r = w.result in
    let whole = (cut_refused f k long within before answer o).0 r in
    let n = long_refused f (schedule_rows (network_of f) (length before)) (outcome_number o) (outcome_place o) (omega arith) whole.given in
    let same = same_text (network_of (take k f)) (network_of f) o before answer n.0 n.1 r.output whole.output in
    record {
      outcome = o;
      result = whole;
      front = subst (λ (l : List ℕ). Front l blank text) same w.front;
      size_is = w.size_is ∙ ap length same;
    }
