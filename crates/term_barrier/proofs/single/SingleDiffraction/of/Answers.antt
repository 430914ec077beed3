use Rattle.std.proofs.Common.{◌≡◌, refl, Bool, true, false}
use Rattle.fix_interval.specs.Interval.{Interval}
use Rattle.fix_interval.specs.Tree.{Tree, Known, Add, Mul, enc}
use Rattle.scene_parts.specs.declared.screening.edge.Edge.{Edge}
use Rattle.path_shape.specs.declared.path.Path.{Path}
use Rattle.term_barrier.specs.Diffraction.{path_difference, k_met}
use Rattle.term_barrier.specs.Edges.{across, beside, rest, source_to_edge, edge_to_receiver, negated_below, single_difference, single_k}
use Rattle.term_barrier.proofs.Slants.{slant-is}
use Rattle.term_barrier.proofs.single.SingleDiffraction.of.Goals as goal

negated-known : (above : Bool) (z : Tree) → enc (negated_below above (Known (enc z))) ≡ enc (negated_below above z)
negated-known true z = refl
negated-known false z = refl

z-known : (path : Path) (edge : Edge) (d : Interval)
    → enc (negated_below edge.above (Known (enc (path_difference
    (Known (enc (Add (source_to_edge path (across edge) edge) (edge_to_receiver path (across edge) edge))))
    (Known (enc (Mul (beside edge) (beside edge)))) (Known d)))))
    ≡ enc (single_difference path edge (Known d))
unfolding single_difference path_difference
z-known path edge d =
    negated-known edge.above
    (path_difference (Add (source_to_edge path (across edge) edge) (edge_to_receiver path (across edge) edge)) (Mul (beside edge) (beside edge)) (Known d))

k-known : (path : Path) (edge : Edge) (d : Interval)
    → enc (k_met (Known (enc (source_to_edge path (across edge) edge))) (Known (enc (edge_to_receiver path (across edge) edge))) (Known d)
    (Known (enc (single_difference path edge (Known d)))))
    ≡ enc (single_k path edge (Known d))
unfolding single_k k_met
k-known path edge d = refl

pub returns : goal.returns
returns c =
    let path = c.args.path.now in
    let edge = c.args.edge.now in
    let d_sr : c.slant-d_sr.result ≡ enc (edge_to_receiver path (across edge) edge) =
    rw (c.slant-d_sr.ensures, c.mul.ensures, c.of-passage.ensures) (slant-is (Mul (rest edge) (across edge)) edge.h path.hr) in
    let z : c.negated_below-z.result ≡ enc (single_difference path edge (Known c.args.d)) =
    rw (c.negated_below-z.ensures, c.path_difference-over.ensures, c.add.ensures, d_sr, c.of-passage.ensures) (z-known path edge c.args.d) in
    let k : c.k_met-k.result ≡ enc (single_k path edge (Known c.args.d)) =
    rw (c.k_met-k.ensures, z, d_sr, c.of-passage.ensures) (k-known path edge c.args.d) in
    rw (k, z, c.of-passage.ensures) refl
