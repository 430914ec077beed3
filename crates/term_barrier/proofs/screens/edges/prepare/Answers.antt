use Rattle.std.proofs.Common.{◌≡◌, ℕ, ◌+◌, ◌<◌, List, [], ◌∷◌, ◌++◌, length, take, get_or, ap, sym, subst, ◌∙◌, refl}
use Rattle.std.proofs.lemmas.List.{map-append, take_more}
use Rattle.std.proofs.lemmas.List.Elements.{All-push, All-same, All-get_or}
use Rattle.scene_parts.specs.declared.screening.edge.Edge.{Edge}
use Rattle.term_barrier.specs.declared.single.SingleDiffraction.{SingleDiffraction}
use Rattle.term_barrier.specs.Edges.{FitsEdge}
use Rattle.term_barrier.specs.Screening.{edges_in}
use Rattle.term_barrier.specs.inner.Prepared.{IsSingle}
use Rattle.term_barrier.proofs.screens.edges.prepare.Goals as goal

-- one more
more : (singles new : List SingleDiffraction) (single : SingleDiffraction) (edges : List Edge) (i : ℕ) (edge : Edge) → edges_in singles ≡ take i edges → i < length edges
    → edge ≡ get_or edges i edge → single.passage.edge ≡ edge → new ≡ singles ++ single ∷ [] → edges_in new ≡ take (i + 1) edges
more singles new single edges i edge so_far below is e added =
    ap edges_in added ∙ map-append (λ (s : SingleDiffraction). s.passage.edge) singles (single ∷ [])
    ∙ rw (so_far, e) (ap (λ (x : Edge). take i edges ++ x ∷ []) is ∙ sym (take_more edges i edge below))

pub loop-edge-preserved : goal.loop-edge-preserved
loop-edge-preserved c =
    let edge = c.edge-item.result in
    let single = c.of.result in (
      more c.loop-edge.singles.items _ single c.args.edges.now c.loop-edge.edge-index edge c.loop-edge.invariant.0 c.loop-edge-test.true c.edge-item.is
          (rw c.of.ensures refl) c.in_ok-push.ensures.items,
      All-same (IsSingle c.args.path.now c.args.d) _ _ c.in_ok-push.ensures.items
          (All-push (IsSingle c.args.path.now c.args.d) c.loop-edge.singles.items single c.loop-edge.invariant.1
          (subst (IsSingle c.args.path.now c.args.d) (sym c.of.ensures)
          (record { is = refl; fits = subst FitsEdge (sym c.edge-item.is) (All-get_or FitsEdge c.args.edges.now c.loop-edge.edge-index edge c.loop-edge-test.true c.requires) }))),
    )
