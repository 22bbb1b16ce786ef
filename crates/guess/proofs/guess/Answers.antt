-- `guess::guess` meets its contract: the preds that are chosen lead into their registers, so a circle among them is a loop.
use mathlib.Core.Path.{sym, ◌∙◌}
use lib.IntN.{pos}
use lib.Signed.{◌<ℤ◌}
use mir.Syntax.{w64}
use mir.Val.{SFits}
use borrow.Author.Rules.{rules}
use Rattle.whole.proofs.Lin.{lin}
use Rattle.loops.specs.Graphs.{of}
use Rattle.guess.proofs.Guesses.{last_below, guess_places, guess_shows}
use Rattle.guess.proofs.guess.Goals as goal

pub total_of-requires : goal.total_of-requires
total_of-requires c =
    let Γ = of c.args.graph in
    let shape = c.args.graph.shape in
    rw c.deref.ensures.0 (guess_places Γ shape _ _ (last_below Γ shape) (sym c.grounded.ensures ∙ c.if-grounded.false) _ c.show.ensures)

pub returns-else-total_of-le0 : goal.returns-else-total_of-le0
returns-else-total_of-le0 c =
    let f : SFits w64 c.total_of.result = search rules in
    let over : pos 0 <ℤ c.total_of.result = let t = c.if-total_of-le0.false in omega lin in
    let Γ = of c.args.graph in
    let shape = c.args.graph.shape in
    guess_shows Γ shape _ _ (last_below Γ shape) (sym c.grounded.ensures ∙ c.if-grounded.false) _ c.show.ensures c.choose.ensures
    (rw (c.total_of.ensures, c.deref.ensures.0) at over)
