-- The entries written one after the other: the loop's invariant and its law. Rests on `stores_then` of `whole`, `entries-length` of `paper`, and
-- on `Taken` of `loops`.
use mathlib.Core.Path.{◌≡◌, refl, sym, ap, ◌∙◌}
use mathlib.Core.List.{List, [], ◌∷◌, ◌++◌, map, append_assoc, append-nil}
use Prim.Native.Nat.{ℕ, ◌+◌, ◌*◌, ◌<◌}
use native.Mathlib.Omega.{arith}
use lib.IntN.{ℤ, pos}
use lib.ListN.{length, get_or, take}
use lib.Seq.{sets}
use Rattle.whole.proofs.Stores.{stores_then}
use Rattle.paper.specs.declared.Rule.{Rule}
use Rattle.paper.specs.Rules.{kind, number}
use Rattle.paper.specs.Output.{entry_record, entry_records}
use Rattle.paper.proofs.OutputLaws.{entries-length}
use Rattle.loops.specs.Names.{named}
use Rattle.loops.proofs.Taken.{map-length, map_more}
use Rattle.answer.specs.Records.{entry_bytes}

entries-append : (l k : List Rule) → entry_records (l ++ k) ≡ entry_records l ++ entry_records k
entries-append [] k = refl
entries-append (r ∷ l) k =
    ap (λ (bs : List ℕ). entry_record r ++ bs) (entries-append l k) ∙ sym (append_assoc (entry_record r) (entry_records l) (entry_records k))

module _ (rules : List Rule) (ring : List ℕ) where
  -- the rules that stand at the first places of the ring
  abbrev pub shown : ℕ → List Rule
  shown j = map (named rules) (take j ring)

  -- the records of the first j entries stand in the output from the place on, and nothing else changed
  abbrev pub Entered : ℕ → List ℕ → List ℕ → ℕ → Type 0
  Entered at before out j = out ≡ sets before at (entry_records (shown j))

  -- What is written after the first j records, each of 10 bytes, is the record of the rule at the next place.
  pub entered_more : (at : ℕ) (before out after : List ℕ) (j : ℕ) (k x : ℤ) → Entered at before out j → j < length ring
      → after ≡ sets out (at + 10 * j) (entry_bytes k x)
      → k ≡ pos (kind (named rules (get_or ring j 0))) → x ≡ pos (number (named rules (get_or ring j 0)))
      → Entered at before after (j + 1)
  entered_more at before out after j k x s h e kind_is number_is =
      let r : Rule = named rules (get_or ring j 0) in
      let room : at + length (entry_records (shown j)) ≡ at + 10 * j =
      omega (arith, entries-length (shown j), map-length (named rules) ring j (omega arith)) in
      e
      ∙ rw (s, kind_is, number_is)
      (stores_then (entry_records (shown j)) (entry_record r) before at (at + 10 * j) room
      ∙ rw (map_more (named rules) ring j h, entries-append (shown j) (r ∷ []), append-nil (entry_record r)) refl)
