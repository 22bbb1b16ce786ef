-- `skew_c::skew_schedule` meets its contract: the place fits above the number. That what is packed is the outcome is found by search.
use native.Mathlib.Omega.{arith}
use Rattle.skew_c.proofs.Places.{outcome_below}
use Rattle.skew_c.proofs.skew_schedule.Goals as goal

pub pack-requires : goal.pack-requires
pack-requires c =
    let p = c.place.ensures in
    let h = outcome_below _ c.schedule-o.ensures in
    omega arith
