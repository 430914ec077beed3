use Rattle.std.proofs.Common.{◌∙◌, sym, ap, rules}
use Rattle.std.specs.Prelude.{not}
use Rattle.scene_geom.specs.Outline.{ring}
use Rattle.scene_geom.proofs.Windings.{clear_winding-is, meets-none, meets-some, bits-zero}
use Rattle.scene_geom.proofs.meetings.meeting.meets.Goals as goal
use mir.Syntax.{w128}
use mir.Val.{SFits}

pub returns-in-None : goal.returns-in-None
returns-in-None c =
    let clear = clear_winding-is (ring c.args.outline.now) c.args.from c.args.dir c.args.end in
    sym (meets-none _ _ _ (sym c.in-None.is ∙ c.clear_winding.ensures ∙ clear))

pub returns-in-Some : goal.returns-in-Some
returns-in-Some c =
    let clear = clear_winding-is (ring c.args.outline.now) c.args.from c.args.dir c.args.end in
    let fits : SFits w128 c.in-Some.winding = search rules in
    ap not (bits-zero c.in-Some.winding fits)
    ∙ sym (meets-some _ _ _ (sym c.in-Some.is ∙ c.clear_winding.ensures ∙ clear))
