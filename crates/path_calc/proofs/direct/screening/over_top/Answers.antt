use Rattle.std.proofs.Common.{◌∙◌, List, pos, refl, sym, subst}
use Rattle.std.specs.Prelude.{All}
use Rattle.std.proofs.lemmas.List.Elements.{All-map}
use Rattle.scene_parts.specs.declared.screening.edge.Edge.{Edge}
use Rattle.scene_parts.specs.declared.screening.crossing.Crossing.{Crossing}
use Rattle.term_barrier.specs.Edges.{FitsEdge}
use Rattle.fix_interval.specs.Tree.{Const, enc}
use Rattle.path_calc.specs.inner.Hearing.{is_asked}
use Rattle.path_calc.proofs.Stretching.{nothing-in}
use Rattle.path_calc.proofs.Uncrossed.{bars-are-zero}
use Rattle.path_calc.proofs.direct.screening.over_top.Goals as goal

pub returns-then-is_empty-clause-value : goal.returns-then-is_empty-clause-value
returns-then-is_empty-clause-value c =
    c.none.ensures
    ∙ bars-are-zero (enc (Const (pos 0) 1)) c.args.path.now c.args.distance c.args.ground.now c.args.crossings.now (is_asked c.args.asked.now) refl
    (nothing-in c.args.crossings.now _ c.is_empty.ensures c.if-is_empty.true)

pub of-requires : goal.of-requires
of-requires c =
    subst (λ (es : List Edge). All FitsEdge es) (sym (c.as_slice.ensures.value ∙ c.in_ok-list_edges.ensures))
    (All-map FitsEdge (λ (crossing : Crossing). crossing.edge) c.args.crossings.now c.requires.edges)
