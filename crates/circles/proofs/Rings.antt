-- The search among the preds turn by turn: where the model's search stands after so many steps, one law over plain lists for each arm of
-- the code; the trail listed from its end; and what the circle that is found is good for. Rests on `Grounded`, `Rooted`, `Circles`, `Search`
-- and `Trails` of `loops`.
use Rattle.std.proofs.Common.{◌≡◌, ◌≢◌, ◌↔◌, refl, sym, ap, ◌∙◌, Bool, true, false, List, [], ◌∷◌, ◌++◌, reverse, length, drop, ℕ, suc, ◌+◌, ◌-◌, ◌≤◌, ◌<◌, min, add-one, arith}
use Rattle.std.proofs.lemmas.List.{reverse-append, reverse-reverse, length-reverse}
use Rattle.std.specs.List.{refill}
use Rattle.std.proofs.Math.Seq.{take-append_seam}
use native.Mathlib.Decide.{dec_lt}
use borrow.Author.Tests.{lt-ltb, le-ltb, eq-eqb, ne_eqb}
use Rattle.std.specs.Prelude.{Option, None, Some, is_some, IsSome, not}
use Rattle.loops.specs.Arrows.{Arrows, Sound, tail}
use Rattle.loops.specs.Model.{pred, back, trail, rooted, around, lowest, circle_from}
use Rattle.loops.proofs.Grounded.{back_below}
use Rattle.loops.proofs.Rooted.{deep_rooted, rooted_next, unrooted_arrows}
use Rattle.loops.proofs.Circles.{unrooted_ends, returns_arrows}
use Rattle.loops.proofs.Search.{circle_found}
use Rattle.loops.proofs.Trails.{circle_short, trail-length}
use Rattle.circles.specs.Circle.{Unending, Astray, IsCircle, Listable, ShowsCircle}

-- a register of which no pred is told has none
pub none_root : (e count : ℕ) → (false ≡ true) ↔ (e < count) → count ≤ e
none_root e count w = go (dec_lt e count)
  where
    go : Dec (e < count) → count ≤ e
    go (yes h) = absurd (cc (w.1 h))
    go (no h) = omega arith

-- ---- the walk back from one register

-- the walk from s stands at v after k steps, and what the model's search answers is what it answers from there
pub record Circling (Γ : Arrows) (preds : List ℕ) (s k v : ℕ) : Type 0 where
  pub below : v < Γ.registers
  pub is_around : around Γ preds s Γ.registers 0 s ≡ around Γ preds s (Γ.registers - k) k v

module _ (Γ : Arrows) (preds : List ℕ) (s : ℕ) where
  -- a step is left
  ahead : (k v : ℕ) → k < Γ.registers → Circling Γ preds s k v → around Γ preds s Γ.registers 0 s ≡ around Γ preds s (suc (Γ.registers - suc k)) k v
  ahead k v h w =
      let one : Γ.registers - k ≡ suc (Γ.registers - suc k) = omega arith in
      w.is_around ∙ ap (λ i. around Γ preds s i k v) one

  -- v has no pred
  pub circling_root : (k v : ℕ) → k < Γ.registers → Γ.count ≤ pred preds v → Circling Γ preds s k v → 0 ≡ around Γ preds s Γ.registers 0 s
  unfolding around
  circling_root k v h root w = sym (ahead k v h w ∙ rw (le-ltb (pred preds v) Γ.count root, around))

  -- the next step comes to s
  pub circling_home : (k v : ℕ) → k < Γ.registers → pred preds v < Γ.count → tail Γ (pred preds v) ≡ s → Circling Γ preds s k v → k + 1 ≡ around Γ preds s Γ.registers 0 s
  unfolding around
  circling_home k v h a e w = sym (ahead k v h w ∙ rw (lt-ltb (pred preds v) Γ.count a, eq-eqb (tail Γ (pred preds v)) s e, around) (omega arith))

  -- the next step comes to another
  pub circling_more : (k v : ℕ) → Sound Γ → k < Γ.registers → pred preds v < Γ.count → tail Γ (pred preds v) ≢ s
      → Circling Γ preds s k v → Circling Γ preds s (k + 1) (tail Γ (pred preds v))
  unfolding around
  circling_more k v so h a other w =
      record {
        below = so.leaves (pred preds v) a;
        is_around = rw add-one (ahead k v h w ∙ rw (lt-ltb (pred preds v) Γ.count a, ne_eqb (tail Γ (pred preds v)) s other, around));
      }

  -- no step is left
  pub circling_all : (k v : ℕ) → Γ.registers ≤ k → Circling Γ preds s k v → 0 ≡ around Γ preds s Γ.registers 0 s
  unfolding around
  circling_all k v h w =
      let none : Γ.registers - k ≡ 0 = omega arith in
      sym (w.is_around ∙ ap (λ i. around Γ preds s i k v) none)

-- ---- whether the walk ends

-- the walk from s stands at v after k steps, and is rooted where it is from there
pub record Followed (Γ : Arrows) (preds : List ℕ) (s k v : ℕ) : Type 0 where
  pub below : v < Γ.registers
  pub is_rooted : rooted Γ preds Γ.registers s ≡ rooted Γ preds (Γ.registers - k) v

module _ (Γ : Arrows) (preds : List ℕ) (s : ℕ) where
  -- v has no pred: the walk ends
  pub followed_root : (k v : ℕ) → Γ.count ≤ pred preds v → Followed Γ preds s k v → true ≡ rooted Γ preds Γ.registers s
  followed_root k v root w = sym (w.is_rooted ∙ deep_rooted Γ preds 0 (Γ.registers - k) v root (omega arith))

  -- one step more, over a pred that is an arrow
  pub followed_more : (k v : ℕ) → Sound Γ → k < Γ.registers → pred preds v < Γ.count → Followed Γ preds s k v → Followed Γ preds s (k + 1) (tail Γ (pred preds v))
  followed_more k v so h a w =
      let one : Γ.registers - k ≡ suc (Γ.registers - (k + 1)) = omega arith in
      record {
        below = so.leaves (pred preds v) a;
        is_rooted = w.is_rooted ∙ ap (λ i. rooted Γ preds i v) one ∙ rooted_next Γ preds (Γ.registers - (k + 1)) v a;
      }

  -- no step is left, and the last register has a pred
  pub followed_all : (k v : ℕ) → Γ.registers ≤ k → pred preds v < Γ.count → Followed Γ preds s k v → false ≡ rooted Γ preds Γ.registers s
  unfolding rooted
  followed_all k v h a w =
      let none : Γ.registers - k ≡ 0 = omega arith in
      sym (w.is_rooted ∙ ap (λ i. rooted Γ preds i v) none ∙ rw (lt-ltb (pred preds v) Γ.count a, rooted))

  -- what is told of its pred decides
  pub followed_end : {A : Type 0} (k v : ℕ) → Γ.registers ≤ k → Followed Γ preds s k v → (next : Option A) (none : Bool) → is_some next ≡ not none
      → IsSome next ↔ (pred preds v < Γ.count) → none ≡ rooted Γ preds Γ.registers s
  followed_end k v h w None true e told = followed_root k v (none_root _ _ told) w
  followed_end k v h w None false e told = cc
  followed_end k v h w (Some arrow) true e told = cc
  followed_end k v h w (Some arrow) false e told = followed_all k v h (told.0 refl) w

-- ---- onto the circle, and to its lowest register

module _ (Γ : Arrows) (preds : List ℕ) where
  -- one step more, as the code takes it
  pub back_more : (k s : ℕ) → back Γ preds 1 (back Γ preds k s) ≡ back Γ preds (k + 1) s
  unfolding back
  back_more k s = rw add-one refl

  -- the lowest register on one step more
  pub lowest_more : (k s : ℕ) → min (lowest Γ preds k s) (back Γ preds (k + 1) s) ≡ lowest Γ preds (k + 1) s
  unfolding lowest
  lowest_more k s = rw add-one (go (dec_lt (back Γ preds (suc k) s) (lowest Γ preds k s)))
    where
      go : Dec (back Γ preds (suc k) s < lowest Γ preds k s) → min (lowest Γ preds k s) (back Γ preds (suc k) s) ≡ lowest Γ preds (suc k) s
      go (yes h) = rw (lt-ltb _ _ h, lowest) (omega arith)
      go (no h) = let q : lowest Γ preds k s ≤ back Γ preds (suc k) s = omega arith in rw (le-ltb _ _ q, lowest) (omega arith)

  -- as long as a step is left the walk stands at a register, ..
  pub unending_below : Sound Γ → (s k v : ℕ) → Unending Γ preds s → v ≡ back Γ preds k s → k < Γ.registers → v < Γ.registers
  unending_below so s k v u e h = rw e (back_below Γ preds so k s u.below (λ j q. u.arrows j (omega arith)))

-- ---- the trail, listed from its end

-- a list that is filled up to the length that it has
pub refill_whole : (n : ℕ) (old list : List ℕ) → length list ≡ n → refill n old list ≡ list
refill_whole n old list h = rw (← h) (take-append_seam list (drop (length list) old))

-- after k steps the walk stands at v, and the ring has the arrows of the steps so far, the first one first
pub record RingListing (Γ : Arrows) (preds : List ℕ) (start k v : ℕ) (ring : List ℕ) : Type 0 where
  pub below : v < Γ.registers
  pub stands : v ≡ back Γ preds k start
  pub listed : ring ≡ reverse (trail Γ preds k start)

module _ (Γ : Arrows) (preds : List ℕ) (start : ℕ) where
  -- no step yet
  pub listing_none : start < Γ.registers → RingListing Γ preds start 0 start []
  unfolding back trail
  listing_none h = record { below = h; stands = refl; listed = refl }

  -- one step more
  pub listing_more : Sound Γ → (steps k v : ℕ) (ring : List ℕ) → Listable Γ preds start steps → k < steps → RingListing Γ preds start k v ring
      → RingListing Γ preds start (k + 1) (back Γ preds 1 v) (ring ++ pred preds v ∷ [])
  unfolding back trail
  listing_more so steps k v ring l h w =
      let arrow : pred preds v < Γ.count = rw w.stands (l.arrows k h) in
      record {
        below = so.leaves (pred preds v) arrow;
        stands = rw w.stands (back_more Γ preds k start);
        listed = rw (add-one, w.stands, w.listed, trail) (sym (reverse-append (pred preds (back Γ preds k start) ∷ []) (trail Γ preds k start)));
      }

  -- as many arrows are listed as steps are taken
  pub listing_length : (k v : ℕ) (ring : List ℕ) → RingListing Γ preds start k v ring → length ring ≡ k
  listing_length k v ring w = rw w.listed (length-reverse (trail Γ preds k start) ∙ trail-length Γ preds k start)

  -- turned round, the arrows are those of the trail
  pub listing_turned : (k v : ℕ) (ring : List ℕ) → RingListing Γ preds start k v ring → reverse ring ≡ trail Γ preds k start
  listing_turned k v ring w = rw w.listed (reverse-reverse (trail Γ preds k start))

-- ---- the circle that is found

-- What the walks of the search ask, where s is not grounded: the steps onto the circle go over arrows, and so do those around it.
module _ (Γ : Arrows) (preds : List ℕ) (s : ℕ) (so : Sound Γ) (astray : Astray Γ preds s) where
  -- onto the circle
  pub astray_onto : Unending Γ preds s
  astray_onto = record { below = astray.below; arrows = λ j q. unrooted_arrows Γ preds Γ.registers s astray.stray j (omega arith) }

  -- around it
  pub astray_on : (v : ℕ) → v ≡ back Γ preds Γ.registers s → Unending Γ preds v
  astray_on v e =
      let w = unrooted_ends Γ preds so s astray.below astray.stray in
      rw e (record {
        below = back_below Γ preds so Γ.registers s astray.below astray_onto.arrows;
        arrows = λ j q. returns_arrows Γ preds w.steps (back Γ preds Γ.registers s) w.returns j;
      })

  -- and once more, from its lowest register
  pub astray_low : (v low : ℕ) → v ≡ back Γ preds Γ.registers s → low ≡ lowest Γ preds Γ.registers v → low < Γ.registers
  astray_low v low e f = rw (f, e) (circle_found Γ preds so s astray.below astray.stray).below

  -- Where s is not rooted the search finds a circle, and the registers on a circle are different, so it is short.
  pub circle_listable : (start steps : ℕ) → IsCircle Γ preds s start steps → Listable Γ preds start steps
  circle_listable start steps is =
      let f = circle_found Γ preds so s astray.below astray.stray in
      let c = circle_from Γ preds s in
      rw (is.from, is.long) (record {
        below = f.below;
        arrows = f.circle.returns.arrows;
        few = circle_short Γ preds so c.steps c.start f.below f.circle;
      })

  -- its trail is the arrows of the circle
  pub circle_shown : (start steps : ℕ) (ring : List ℕ) → IsCircle Γ preds s start steps → ring ≡ trail Γ preds steps start → ShowsCircle Γ preds s ring
  circle_shown start steps ring is listed =
      let long : length ring ≡ steps = rw listed (trail-length Γ preds steps start) in
      let some : 0 < steps = rw is.long (circle_found Γ preds so s astray.below astray.stray).circle.returns.some in
      let few : steps ≤ Γ.registers = (circle_listable start steps is).few in
      record { some = omega arith; short = omega arith; shows = listed ∙ rw (is.from, is.long) refl }
