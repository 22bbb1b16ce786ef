-- A number of 32 bits is one of 64. Rests on no other file.
use lib.IntN.{ℤ}
use mir.Facts.{sfits_widen}
use mir.Syntax.{w32, w64}
use mir.Val.{SFits}

pub widens : {z : ℤ} → SFits w32 z → SFits w64 z
widens h = sfits_widen tt h
