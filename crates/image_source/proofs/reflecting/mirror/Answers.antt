use Rattle.std.proofs.Common.{sym, ◌∙◌}
use Rattle.scene_parts.specs.declared.screening.ends.Ends.{Ends}
use Rattle.image_source.proofs.Walls.{can-reflect}
use Rattle.image_source.proofs.reflecting.mirror.Goals as goal

pub of-requires : goal.of-requires
of-requires c =
    let ends : Ends = record { s = c.args.s; hs = c.args.hs; r = c.args.r; hr = c.args.hr } in
    can-reflect c.args.o.now c.args.i c.side_of-side.result ends c.has_mirror.ensures.kept c.side_of-side.ensures (sym c.has_mirror.ensures.value ∙ c.if-has_mirror.true)

pub returns-then-has_mirror-clause-fits : goal.returns-then-has_mirror-clause-fits
returns-then-has_mirror-clause-fits c =
    let ends : Ends = record { s = c.args.s; hs = c.args.hs; r = c.args.r; hr = c.args.hr } in
    rw c.side_of-side.ensures
    (can-reflect c.args.o.now c.args.i c.side_of-side.result ends c.has_mirror.ensures.kept c.side_of-side.ensures (sym c.has_mirror.ensures.value ∙ c.if-has_mirror.true))
