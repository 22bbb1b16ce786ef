-- Of every result of the scheduler's the text over its bytes is the text of its own period, latencies and rules: each number is read back as
-- the one that it stands for. Rests on `ReadBack.antt` of `skew` and on `Texts.antt` of `listing`.
use Rattle.std.specs.Prelude.{Ok, Err}
use mathlib.Core.Path.{◌≡◌, refl}
use mathlib.Core.List.{List}
use Prim.Native.Nat.{ℕ}
use Rattle.paper.specs.Numbers.{Outcome}
use Rattle.paper.specs.declared.Unanswered.TheVariants as unanswered
use Rattle.paper.specs.File.{network_of}
use Rattle.paper.specs.Outcome.{FileResult}
use Rattle.skew.proofs.ReadBack.{read_back}
use Rattle.listing.specs.ResultText.{result_text}
use Rattle.skewlist.specs.Listing.{file_text}
use Rattle.listing.proofs.Texts.{answered_text_lem, looped_text_lem}

-- RULES 9.2 and 9.3 of every result: the text over the bytes is the result's text
pub result_text_lem : (f : List ℕ) {before after : List ℕ} (o : Outcome) (r : FileResult f before o after)
    → file_text f o after ≡ result_text (network_of f) before o after r.output
result_text_lem f {before} {after} (Ok tt) r =
    let b = read_back f (Ok tt) r in
    answered_text_lem after r.output.period (network_of f).registers r.output.latency r.output.loop b.period b.latencies
    b.entries b.latency (record { kinds = b.entry_kind; numbers = b.entry_number })
result_text_lem f (Err (unanswered.Refused x)) r = refl
result_text_lem f (Err unanswered.Room) r = refl
result_text_lem f {before} {after} (Err unanswered.NoPeriod) r =
    let b = read_back f (Err unanswered.NoPeriod) r in
    looped_text_lem after (network_of f) (Err unanswered.NoPeriod) r.output.loop b.entries (record { kinds = b.entry_kind; numbers = b.entry_number })
result_text_lem f {before} {after} (Err unanswered.NoneToCeiling) r =
    let b = read_back f (Err unanswered.NoneToCeiling) r in
    looped_text_lem after (network_of f) (Err unanswered.NoneToCeiling) r.output.loop b.entries (record { kinds = b.entry_kind; numbers = b.entry_number })
