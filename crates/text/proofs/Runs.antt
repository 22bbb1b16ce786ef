-- Parts of a text that follow one another are one part. Rests on `Stores.antt` of `whole`.
use mathlib.Core.Path.{◌≡◌, refl, sym, ap, ◌∙◌}
use mathlib.Core.List.{List, [], ◌∷◌, ◌++◌}
use Prim.Native.Nat.{ℕ, ◌+◌}
use native.Mathlib.Omega.{arith}
use native.Mathlib.Nat.{add-zero}
use lib.ListN.{length, set, length-append}
use lib.Seq.{length-sets}
use Rattle.whole.proofs.Stores.{stores_then}
use Rattle.text.specs.Written.{Written}

module _ {before mid : List ℕ} {at next : ℕ} {a : List ℕ} (w : Written before at a mid next) where
  -- the text is as long as before
  pub long : length mid ≡ length before
  long = ap length w.text ∙ length-sets before at a

  -- a part and then another
  pub and_then : {b after : List ℕ} {end : ℕ} → Written mid next b after end → Written before at (a ++ b) after end
  and_then {b} {after} {end} v =
      record {
        text = v.text ∙ rw w.text (stores_then a b before at next (sym w.place));
        place = let p = w.place in let q = v.place in rw (length-append a b) (omega arith);
      }

  -- a part and then one byte
  pub and_byte : (x : ℕ) → Written before at (a ++ (x ∷ [])) (set mid next x) (next + 1)
  and_byte x = and_then (record { text = refl; place = refl })

-- no bytes
pub nothing : (l : List ℕ) (at : ℕ) → Written l at [] l at
nothing l at = record { text = refl; place = sym (add-zero at) }

-- a part, of the same bytes under another name
pub named : {before after a b : List ℕ} {at end : ℕ} → Written before at a after end → a ≡ b → Written before at b after end
named {before} {after} {a} {b} {at} {end} w e = rw e at w
