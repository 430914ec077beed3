use Rattle.std.proofs.Common.{sym, ap, ◌∙◌}
use Rattle.scene_parts.specs.Parts.{Obstacle}
use Rattle.image_source.proofs.Walls.{none-absorbed, none-beside}
use Rattle.image_source.proofs.Passing.{none-struck}
use Rattle.image_source.proofs.reflecting.has_mirror.Goals as goal
use Rattle.image_source.proofs.reflecting.has_mirror.Goals.{then-o-eq0-via-then-o-eq0, then-o-eq0-via-else-o-eq0+then-not-on_one_side, then-o-eq0-via-else-o-eq0+else-not-on_one_side+then-passes_by}

pub returns-then-o-eq0-clause-value : goal.returns-then-o-eq0-clause-value
returns-then-o-eq0-clause-value c =
    let o = c.args.o.now in
    elim c.then-o-eq0.branch [
      | then-o-eq0-via-then-o-eq0 w ↦ none-absorbed o c.args.side c.args.ends (sym (ap (λ (o : Obstacle). o.rho) c.o.view_is) ∙ w.if-o-eq0.true)
      | then-o-eq0-via-else-o-eq0+then-not-on_one_side w ↦ none-beside o c.args.side c.args.ends (sym w.on_one_side.ensures ∙ w.if-not-on_one_side.true)
      | then-o-eq0-via-else-o-eq0+else-not-on_one_side+then-passes_by w ↦ none-struck o c.args.side c.args.ends (sym w.on_one_side.ensures ∙ w.if-not-on_one_side.false) (w.passes_by.ensures w.if-passes_by.true)
    ]
