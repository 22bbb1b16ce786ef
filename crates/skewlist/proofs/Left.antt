-- Whatever the scheduler returns and leaves can be listed: what the answer's first record counts is small and stands in the answer.
-- And which ceiling its text has. Rests on `Texts.antt`, on `ReadBack.antt` of `skew` and on `Answers.antt` of `listing`.
use Rattle.std.specs.Prelude.{Ok, Err}
use mathlib.Core.Path.{◌≡◌, refl, sym, ap, subst, ◌∙◌}
use mathlib.Core.List.{List}
use Prim.Native.Nat.{ℕ, ◌≤◌}
use native.Mathlib.Omega.{arith}
use lib.IntN.{ℤ, pos}
use lib.ListN.{length, drop, length-append}
use lib.Seq.{length-take-le}
use Rattle.io.specs.Counts.{IsPrefixLen}
use Rattle.paper.specs.Numbers.{Outcome}
use Rattle.paper.specs.declared.Unanswered.TheVariants as unanswered
use Rattle.paper.specs.Network.{Network}
use Rattle.paper.specs.File.{network_of}
use Rattle.paper.specs.Output.{Front}
use Rattle.paper.specs.Outcome.{FileResult}
use Rattle.paper.proofs.Legal.{accepted_legal}
use Rattle.skew.proofs.Numbers.{accepted_beyond}
use Rattle.skew.proofs.ReadBack.{answer_small, alone_small}
use Rattle.listing.specs.Listable.{Counted}
use Rattle.listing.specs.Text.{text_of}
use Rattle.listing.specs.ResultText.{result_text}
use Rattle.skewlist.specs.Listing.{Listing, CeilingKnown, SameText}
use Rattle.listing.proofs.Answers.{answered_listable, loop_listable}
use Rattle.skewlist.proofs.Texts.{result_text_lem}

-- a listing can be made of every result
pub counted : (f : List ℕ) {before after : List ℕ} (o : Outcome) → FileResult f before o after → Counted o after
counted f {before} {after} (Ok tt) r =
    let N : Network = network_of f in
    let a = accepted_beyond f r refl in
    let g = accepted_legal f a in
    let s = answer_small N g r.output.period r.output.latency r.output.loop r.output.answer r.output.shown in
    answered_listable N before after r.output (omega (arith, s.period)) s.count s.entries
counted f (Err (unanswered.Refused x)) r = tt
counted f (Err unanswered.Room) r = tt
counted f {before} {after} (Err unanswered.NoPeriod) r =
    let a = accepted_beyond f r refl in
    let s = alone_small (network_of f) (accepted_legal f a) r.output.loop (r.output.refutes 0).is_loop in
    loop_listable r.output.loop before after r.output.bytes s.entries
counted f {before} {after} (Err unanswered.NoneToCeiling) r =
    let a = accepted_beyond f r refl in
    let s = alone_small (network_of f) (accepted_legal f a) r.output.loop r.output.refutes.is_loop in
    loop_listable r.output.loop before after r.output.bytes s.entries

-- a file of which a loop alone is shown was accepted
pub shown : (f : List ℕ) {before after : List ℕ} (o : Outcome) → FileResult f before o after → CeilingKnown f o
shown f (Ok tt) r = tt
shown f (Err (unanswered.Refused x)) r = tt
shown f (Err unanswered.Room) r = tt
shown f (Err unanswered.NoPeriod) r = accepted_beyond f r refl
shown f (Err unanswered.NoneToCeiling) r = accepted_beyond f r refl

-- where no text has a ceiling, any number leaves the text the file's
pub ceiling_none : (f : List ℕ) {o known : Outcome} → o ≡ known → ((x y : ℤ) (answer : List ℕ) → text_of x known answer ≡ text_of y known answer)
    → (z : ℤ) → SameText f o z
ceiling_none f e same z = subst (λ y. SameText f y z) (sym e) (same z _)

-- and the network's own ceiling always does
pub ceiling_shown : (f : List ℕ) (o : Outcome) {z : ℤ} → z ≡ pos (network_of f).ceiling → SameText f o z
ceiling_shown f o e answer = ap (λ x. text_of x o answer) e

-- what stands at the front is no longer than the whole
fits : (bytes before after : List ℕ) (n : ℕ) → Front bytes before after → n ≡ length bytes → IsPrefixLen n after
fits bytes before after n f e =
    let l = ap length f in
    let le : n ≤ length after = omega (arith, length-append bytes (drop (length bytes) before)) in
    (le, sym (length-take-le n after le))

-- the listing with a ceiling that leaves the text the file's: it is the result's own text
pub listed_as : (f : List ℕ) {before answer blank text : List ℕ} {n : ℕ} (o : Outcome) {y z : ℤ} → FileResult f before o answer
    → SameText f o z → y ≡ z → (Front (text_of y o answer) blank text) × (n ≡ length (text_of y o answer))
    → (Listing f before answer blank text n) × IsPrefixLen n text
listed_as f {before} {answer} {blank} {text} {n} o {y} {z} r same is e =
    let own : List ℕ = result_text (network_of f) before o answer r.output in
    let w : (Front own blank text) × (n ≡ length own) =
    subst (λ (l : List ℕ). (Front l blank text) × (n ≡ length l)) (ap (λ x. text_of x o answer) is ∙ same answer ∙ result_text_lem f o r) e in (
      record { outcome = o; result = r; front = w.0; size_is = w.1 },
      fits own blank text n w.0 w.1,
    )
