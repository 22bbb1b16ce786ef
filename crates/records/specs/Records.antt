-- A record as it stands in a file.
use Rattle.std.specs.Prelude.{◌≡◌, List, ℕ, ◌+◌, get_or}
use Rattle.whole.specs.Four.{number_at}
use Rattle.records.specs.declared.Record.{Record}

-- the record of 18 bytes at a place: its mark, the four numbers after it, and where the next record begins
pub record IsRecord (f : List ℕ) (at : ℕ) (r : Record) : Type 0 where
  pub initial : r.initial ≡ get_or f at 0
  pub last : r.last ≡ get_or f (at + 1) 0
  pub first : r.first ≡ number_at f (at + 2)
  pub second : r.second ≡ number_at f (at + 6)
  pub third : r.third ≡ number_at f (at + 10)
  pub fourth : r.fourth ≡ number_at f (at + 14)
  pub next : r.next ≡ at + 18
