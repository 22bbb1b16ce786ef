-- What the program writes: the text of a result of the scheduler's, at the front of its room.
use Rattle.std.specs.Prelude.{◌≡◌, List, ℕ, ℤ, pos, length, Ok, Err}
use Rattle.paper.specs.Numbers.{Outcome}
use Rattle.paper.specs.declared.Unanswered.TheVariants as unanswered
use Rattle.paper.specs.File.{network_of}
use Rattle.paper.specs.Output.{Front}
use Rattle.paper.specs.Outcome.{FileResult}
use Rattle.paper.specs.Refusals.{Accepted}
use Rattle.listing.specs.Text.{text_of}
use Rattle.listing.specs.ResultText.{result_text}

-- Of a file, with `before` in the output and `answer` after it, and with `blank` in the text's room and `text` after it: the first `size` bytes
-- are the listing of a result, which is the text of the result's own period, latencies and rules (RULES 9.2, 9.3), and the others are as before.
pub record Listing (file before answer blank text : List ℕ) (size : ℕ) : Type 0 where
  pub outcome : Outcome
  pub result : FileResult file before outcome answer
  pub front : Front (result_text (network_of file) before outcome answer result.output) blank text
  pub size_is : size ≡ length (result_text (network_of file) before outcome answer result.output)

-- ---- the ceiling of a text

-- a file whose ceiling is shown is accepted
abbrev pub CeilingKnown : List ℕ → Outcome → Type 0
CeilingKnown file (Ok tt) = Unit {0}
CeilingKnown file (Err (unanswered.Refused x)) = Unit {0}
CeilingKnown file (Err unanswered.Room) = Unit {0}
CeilingKnown file (Err unanswered.NoPeriod) = Accepted file
CeilingKnown file (Err unanswered.NoneToCeiling) = Accepted file

-- the text over the bytes of an answer, with the ceiling of the file's own network where a text has one
abbrev pub file_text : List ℕ → Outcome → List ℕ → List ℕ
file_text file o answer = text_of (pos (network_of file).ceiling) o answer

-- with this number for the ceiling the text is the file's
abbrev pub SameText : List ℕ → Outcome → ℤ → Type 0
SameText file o z = (answer : List ℕ) → text_of z o answer ≡ file_text file o answer
