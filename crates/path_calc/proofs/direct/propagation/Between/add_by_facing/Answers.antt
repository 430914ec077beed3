use Rattle.std.proofs.Common.{◌≡◌, ◌++◌, ◌∙◌, List, [], drop, get_or, map, ap, subst, sym, append-nil, arith}
use Rattle.std.specs.Prelude.{Some, None, slice_get}
use Rattle.std.specs.List.{filter_map}
use Rattle.std.proofs.lemmas.List.{drop_all}
use Rattle.std.proofs.lemmas.Option.{slice_get_within}
use Rattle.scene_parts.specs.Parts.{sides_of}
use Rattle.part_grid.specs.declared.owned.Owned.{Owned}
use Rattle.image_source.specs.Facing.{FacingSide}
use Rattle.path_calc.specs.ReflectedPaths.{ReflectedPath, reflected_in}
use Rattle.path_calc.specs.inner.Hearing.{reflected_of}
use Rattle.path_calc.proofs.Reflecting.{IsWall, way_of, wall-within, wall-is, wall-gives, wall-passed, wall-added, walls-give-all, few-found}
use Rattle.path_calc.proofs.direct.propagation.Between.add_by_facing.Goals as goal
use Rattle.path_calc.proofs.direct.propagation.Between.add_by_facing.Goals.{After-index-obstacles-wall, then-may_mirror+in_ok-add_side, else-may_mirror}

pub bounds-obstacles-wall : goal.bounds-obstacles-wall
bounds-obstacles-wall c =
    rw c.owned-wall.ensures
    (wall-within c.args.self.now.scene.now c.args.self.now.ends c.args.sides.now c.loop-facing.facing-index c.facing-item.result c.obstacles-obstacles.result.now
    c.requires.facing c.obstacles-obstacles.ensures.value c.loop-facing-test.true c.facing-item.is)

-- the wall of a listed side
wall-of : (c : After-index-obstacles-wall) → IsWall c.args.self.now.scene.now c.args.self.now.ends c.facing-item.result c.index-obstacles-wall.result
wall-of c =
    wall-is c.args.self.now.scene.now c.args.self.now.ends c.args.sides.now c.loop-facing.facing-index c.facing-item.result c.obstacles-obstacles.result.now c.index-obstacles-wall.result
    c.requires.facing c.obstacles-obstacles.ensures.value c.loop-facing-test.true c.facing-item.is
    (c.index-obstacles-wall.is ∙ ap (λ (w : Owned). get_or c.obstacles-obstacles.result.now w.obstacle c.index-obstacles-wall.result) c.owned-wall.ensures)

pub add_side-requires-clause-reflects : goal.add_side-requires-clause-reflects
add_side-requires-clause-reflects c = (wall-of (goal.at.add_side-requires-clause-reflects c).After-index-obstacles-wall).reflects

pub add_side-requires-clause-number : goal.add_side-requires-clause-number
add_side-requires-clause-number c =
    rw c.owned-wall.ensures
    (slice_get_within (sides_of c.index-obstacles-wall.result) c.facing-item.result.owned.index c.facing-item.result.owned.side (wall-of (goal.at.add_side-requires-clause-number c).After-index-obstacles-wall).is)

pub add_side-requires-clause-side : goal.add_side-requires-clause-side
add_side-requires-clause-side c =
    subst (λ (w : Owned). slice_get (sides_of c.index-obstacles-wall.result) w.index ≡ Some w.side) (sym c.owned-wall.ensures)
    (wall-of (goal.at.add_side-requires-clause-side c).After-index-obstacles-wall).is

pub loop-facing-preserved : goal.loop-facing-preserved
loop-facing-preserved c =
    let book = c.args.self.now.scene.now in
    let source = c.args.self.now.from.now in
    let ends = c.args.self.now.ends in
    let list = c.args.sides.now in
    let i = c.loop-facing.facing-index in
    let facing = c.facing-item.result in
    let found = c.loop-facing.found.items in
    elim c.if-may_mirror.branch [
      | then-may_mirror+in_ok-add_side w ↦
          let o = w.index-obstacles-wall.result in
          let wall = wall-is book ends list i facing c.obstacles-obstacles.result.now o c.requires.facing c.obstacles-obstacles.ensures.value c.loop-facing-test.true c.facing-item.is
          (w.index-obstacles-wall.is ∙ ap (λ (w : Owned). get_or c.obstacles-obstacles.result.now w.obstacle o) w.owned-wall.ensures) in
          wall-added book.globals source book ends list i facing (reflected_in book ends o w.owned-wall.result.side) found _ _ c.loop-facing-test.true c.facing-item.is
          (wall-gives book ends facing o wall ∙ ap (λ (w : Owned). reflected_in book ends o w.side) (sym w.owned-wall.ensures))
          (rw w.found-is w.in_ok-add_side.ensures) c.loop-facing.invariant
      | else-may_mirror w ↦
          wall-added book.globals source book ends list i facing None found _ _ c.loop-facing-test.true c.facing-item.is
          (wall-passed book ends list i facing c.requires.facing c.loop-facing-test.true c.facing-item.is (sym c.may_mirror.ensures ∙ w.if-may_mirror.false))
          (rw w.found-is (sym (append-nil found))) c.loop-facing.invariant
    ]

pub returns-clause-value : goal.returns-clause-value
returns-clause-value c =
    let book = c.args.self.now.scene.now in
    let ends = c.args.self.now.ends in
    let list = c.args.sides.now in
    let found = c.loop-facing.found.items in
    let made = reflected_of book.globals c.args.self.now.from.now ends in
    let none : drop c.loop-facing.facing-index list ≡ [] = drop_all c.loop-facing.facing-index list c.loop-facing-test.false in
    sym (append-nil found)
    ∙ ap (λ (fs : List FacingSide). found ++ map made (filter_map (way_of book ends) fs)) (sym none)
    ∙ c.loop-facing.invariant
    ∙ ap (λ (paths : List ReflectedPath). map made paths) (walls-give-all book ends list c.requires.facing)

pub returns-clause-few : goal.returns-clause-few
returns-clause-few c =
    let book = c.args.self.now.scene.now in
    let all = few-found book.globals c.args.self.now.from.now book c.args.self.now.ends c.loop-facing.found.items (returns-clause-value c) in
    omega (arith, all, c.obstacles-obstacles.ensures.within.sides)
