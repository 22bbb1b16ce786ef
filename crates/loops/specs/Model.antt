-- One relaxation, as functions on lists that step in the order of the code's loops: a round over all arrows, settling the forest of preds,
-- the search for a circle among them, and the rounds one after another.
use Rattle.std.specs.Prelude.{Bool, true, false, List, [], ◌∷◌, ℕ, zero, suc, get_or, set, ℤ, pos, ◌+ℤ◌, ltb, eqb}
use Rattle.std.specs.Int.Signed.{lt_z}
use Rattle.loops.specs.Arrows.{Arrows, tail, head, amount}

-- the time that a row gives register v
abbrev pub at : List ℤ → ℕ → ℤ
at row v = get_or row v (pos 0)

-- the pred that is noted for register v: an arrow if it is below the count of arrows, and otherwise v has none
abbrev pub pred : List ℕ → ℕ → ℕ
pred p v = get_or p v 0

-- f i, f (i + 1), .., n of them
unfoldable pub table : {A : Type 0} → (ℕ → A) → ℕ → ℕ → List A
table f i zero = []
table f i (suc n) = f i ∷ table f (suc i) n

-- ---- a round

pub record Turn : Type 0 where
  pub row : List ℤ
  pub preds : List ℕ
  pub raised : Bool

-- what arrow e asks of its head, by the row that entered the round
abbrev pub offered : Arrows → List ℤ → ℕ → ℤ
offered Γ a e = at a (tail Γ e) +ℤ amount Γ e

-- the head is raised to what e asks, and e is noted as its pred
abbrev pub lift : Arrows → List ℤ → ℕ → Turn → Turn
lift Γ a e t = record { row = set t.row (head Γ e) (offered Γ a e); preds = set t.preds (head Γ e) e; raised = true }

-- one arrow: its head is raised where what it asks is higher
unfoldable pub step : Arrows → List ℤ → ℕ → Turn → Turn
step Γ a e t = elim (lt_z (at t.row (head Γ e)) (offered Γ a e)) [ true ↦ lift Γ a e t | false ↦ t ]

-- the first arrows, in their order
unfoldable pub pass : Arrows → List ℤ → ℕ → Turn → Turn
pass Γ a zero t = t
pass Γ a (suc e) t = step Γ a e (pass Γ a e t)

-- before the first arrow: a copy of the row that enters, and nothing raised
abbrev pub entered : List ℤ → List ℕ → Turn
entered a p = record { row = a; preds = p; raised = false }

-- all arrows
unfoldable pub round : Arrows → List ℤ → List ℕ → Turn
round Γ a p = pass Γ a Γ.count (entered a p)

-- the row that a round leaves, and the preds
abbrev pub row_after : Arrows → List ℤ → List ℕ → List ℤ
row_after Γ a p = (round Γ a p).row

abbrev pub preds_after : Arrows → List ℤ → List ℕ → List ℕ
preds_after Γ a p = (round Γ a p).preds

-- ---- the forest of preds

-- what the preds give register v, followed at most d steps: the amounts on the way from a register without a pred, which is at 0
unfoldable pub worth : Arrows → List ℕ → ℕ → ℕ → ℤ
worth Γ p zero v = pos 0
worth Γ p (suc d) v = elim (ltb (pred p v) Γ.count) [ true ↦ worth Γ p d (tail Γ (pred p v)) +ℤ amount Γ (pred p v) | false ↦ pos 0 ]

-- following preds from v, at most d steps, reaches a register without one
unfoldable pub rooted : Arrows → List ℕ → ℕ → ℕ → Bool
rooted Γ p zero v = elim (ltb (pred p v) Γ.count) [ true ↦ false | false ↦ true ]
rooted Γ p (suc d) v = elim (ltb (pred p v) Γ.count) [ true ↦ rooted Γ p d (tail Γ (pred p v)) | false ↦ true ]

-- the registers below n are rooted
unfoldable pub rooted_below : Arrows → List ℕ → ℕ → Bool
rooted_below Γ p zero = true
rooted_below Γ p (suc v) = elim (rooted_below Γ p v) [ true ↦ rooted Γ p Γ.registers v | false ↦ false ]

abbrev pub all_rooted : Arrows → List ℕ → Bool
all_rooted Γ p = rooted_below Γ p Γ.registers

-- the lowest-numbered register that is not rooted; n where all below n are
unfoldable pub stray_below : Arrows → List ℕ → ℕ → ℕ
stray_below Γ p zero = zero
stray_below Γ p (suc v) =
    elim (rooted_below Γ p v) [ true ↦ elim (rooted Γ p Γ.registers v) [ true ↦ suc v | false ↦ v ] | false ↦ stray_below Γ p v ]

abbrev pub stray : Arrows → List ℕ → ℕ
stray Γ p = stray_below Γ p Γ.registers

-- every register at what its preds give
unfoldable pub settled : Arrows → List ℕ → List ℤ
settled Γ p = table (worth Γ p Γ.registers) 0 Γ.registers

-- ---- circles

-- the register k steps back from v
unfoldable pub back : Arrows → List ℕ → ℕ → ℕ → ℕ
back Γ p zero v = v
back Γ p (suc k) v = tail Γ (pred p (back Γ p k v))

-- the arrows of those k steps, in the order of the arrows
unfoldable pub trail : Arrows → List ℕ → ℕ → ℕ → List ℕ
trail Γ p zero v = []
trail Γ p (suc k) v = pred p (back Γ p k v) ∷ trail Γ p k v

-- From v, which lies k steps back from s, go on back, at most m steps: how many steps it took in all until s came again, or 0 where it did
-- not come.
unfoldable pub around : Arrows → List ℕ → ℕ → ℕ → ℕ → ℕ → ℕ
around Γ p s zero k v = 0
around Γ p s (suc m) k v =
    elim (ltb (pred p v) Γ.count) [
      | false ↦ 0
      | true ↦ elim (eqb (tail Γ (pred p v)) s) [ true ↦ suc k | false ↦ around Γ p s m (suc k) (tail Γ (pred p v)) ]
    ]

-- the lowest of v and the registers on the k steps back from it
unfoldable pub lowest : Arrows → List ℕ → ℕ → ℕ → ℕ
lowest Γ p zero v = v
lowest Γ p (suc k) v = elim (ltb (back Γ p (suc k) v) (lowest Γ p k v)) [ true ↦ back Γ p (suc k) v | false ↦ lowest Γ p k v ]

-- a circle by the register that it starts from, and the steps that it takes; no steps: there is none
pub record Ring : Type 0 where
  pub start : ℕ
  pub steps : ℕ

-- the lowest register of the circle on which the walk back from s ends: as many steps as there are registers lead onto it, and as many more
-- meet all of it
abbrev pub circle_start : Arrows → List ℕ → ℕ → ℕ
circle_start Γ p s = lowest Γ p Γ.registers (back Γ p Γ.registers s)

-- and the circle, from that register
abbrev pub circle_from : Arrows → List ℕ → ℕ → Ring
circle_from Γ p s = record { start = circle_start Γ p s; steps = around Γ p (circle_start Γ p s) Γ.registers 0 (circle_start Γ p s) }

-- its arrows, in their order
abbrev pub circle_arrows : Arrows → List ℕ → ℕ → List ℕ
circle_arrows Γ p s = trail Γ p (circle_from Γ p s).steps (circle_from Γ p s).start

-- ---- rounds, one after another

-- the host at 0, and every other register at the amount of its low arrow, which stands at the place that `low` gives
unfoldable pub first_time : Arrows → (ℕ → ℕ) → ℕ → ℤ
first_time Γ low zero = pos 0
first_time Γ low (suc v) = amount Γ (low (suc v))

unfoldable pub first_row : Arrows → (ℕ → ℕ) → List ℤ
first_row Γ low = table (first_time Γ low) 0 Γ.registers

-- the host has no pred, and every other register has its low arrow
unfoldable pub first_pred : (ℕ → ℕ) → ℕ → ℕ → ℕ
first_pred low none zero = none
first_pred low none (suc v) = low (suc v)

unfoldable pub first_preds : Arrows → (ℕ → ℕ) → ℕ → List ℕ
first_preds Γ low none = table (first_pred low none) 0 Γ.registers

pub data Ending : Type 0 where
  -- no arrow raises the row
  Rested : List ℤ → Ending
  -- the arrows of a circle among the preds, from its lowest register
  Circled : List ℕ → Ending
  -- the fuel is spent
  Unended : Ending

unfoldable pub relax : Arrows → ℕ → List ℤ → List ℕ → Ending
relax Γ zero a p = Unended
relax Γ (suc fuel) a p =
    let t = round Γ a p in
    elim t.raised [
      | false ↦ Rested t.row
      | true ↦ elim (all_rooted Γ t.preds) [
        | true ↦ relax Γ fuel (settled Γ t.preds) t.preds
        | false ↦ Circled (circle_arrows Γ t.preds (stray Γ t.preds))
      ]
    ]
