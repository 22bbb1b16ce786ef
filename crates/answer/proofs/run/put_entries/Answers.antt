-- `answer::run::put_entries` meets its contract: a turn writes the record of the next entry's rule behind those that stand already.
use mathlib.Core.Path.{◌≡◌, refl, ap, ◌∙◌}
use lib.IntN.{pos}
use lib.ListN.{length, get_or}
use Prim.Native.Nat.{◌<◌}
use borrow.Author.Rules.{rules}
use mir.Facts.{to_z-of_z}
use mir.Syntax.{w32}
use mir.Val.{SFits}
use Rattle.std.proofs.lemmas.List.{get_or_read_under}
use Rattle.paper.specs.declared.Rule.TheVariants.{Setup}
use Rattle.paper.specs.Rules.{kind, number}
use Rattle.paper.proofs.LoopLaws.{all_at}
use Rattle.loops.specs.Names.{named}
use Rattle.answer.proofs.Entries.{entered_more}
use Rattle.answer.proofs.run.put_entries.Goals as goal

pub loop-j-preserved : goal.loop-j-preserved
loop-j-preserved c =
    let kind_fits : SFits w32 c.from-in-loop-j.result = search rules in
    let number_fits : SFits w32 c.from-in-loop-j-2.result = search rules in
    let there : get_or c.args.ring.now c.loop-j.j 0 < length c.args.rules.now = all_at _ _ c.requires.nameable.places 0 c.loop-j.j c.loop-j-test.true in
    let read : c.index-rules-from.result ≡ named c.args.rules.now (get_or c.args.ring.now c.loop-j.j 0) =
    rw c.from.ensures at (get_or_read_under c.args.rules.now c.from.result _ c.index-rules-from.result (Setup 0) c.index-rules-from.is (rw c.from.ensures there) refl) in
    entered_more _ _ _ _ _ _ _ _ _ c.loop-j.invariant c.loop-j-test.true c.put_entry.ensures
    (to_z-of_z kind_fits ∙ c.from-in-loop-j.ensures ∙ ap pos (c.kind.ensures ∙ ap kind read))
    (to_z-of_z number_fits ∙ c.from-in-loop-j-2.ensures ∙ ap pos (c.number.ensures ∙ ap number read))
