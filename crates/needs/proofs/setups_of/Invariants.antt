-- `needs::setups_of` meets its contract. The loop's invariant: of the entries passed so many are those of setup rules.
use Rattle.std.proofs.Common.{◌≡◌, ◌≤◌, take}
use Rattle.needs.specs.Raising.{setups_at}
use Rattle.needs.proofs.setups_of.Given as goal

abbrev pub invariant-loop-e : goal.invariant-loop-e
invariant-loop-e l = record { most : l.count ≤ l.e-index; is : l.count ≡ setups_at l.rules (take l.e-index l.ring) }
