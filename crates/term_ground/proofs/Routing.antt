-- The lengths on both legs of a path.
use Rattle.std.proofs.Common.{◌≡◌, arith, refl, ap, subst, ◌∙◌, Bool, true, false, List}
use Rattle.std.specs.Prelude.{Option, Some, ◌||◌, if◌then◌else◌}
use Rattle.std.specs.Bool.{then_some}
use Rattle.fix_interval.specs.Tree.{Tree, Known, Add, Sub, Min, enc}
use Rattle.scene_geom.specs.declared.plan.Pt.{Pt}
use Rattle.scene_geom.specs.declared.directions.direction.Dir.{Dir}
use Rattle.scene_geom.specs.declared.fractions.fraction.Frac.{Frac}
use Rattle.scene_geom.specs.Fraction.{rest_of}
use Rattle.scene_geom.specs.Outline.{meets_of}
use Rattle.path_shape.specs.declared.legs.Legs.{Legs}
use Rattle.path_shape.specs.declared.legs.Legs.TheVariants.{One, Two}
use Rattle.path_shape.specs.declared.path.Path.{Path}
use Rattle.term_ground.specs.declared.legs.leg.Leg.{Leg}
use Rattle.term_ground.specs.declared.legs.leg.Route.{Route}
use Rattle.path_shape.specs.declared.stretch.Stretch.{Stretch}
use Rattle.term_ground.specs.declared.legs.stretch.Stretches.{Stretches}
use Rattle.path_shape.specs.Forms.{zero_form, one_form}
use Rattle.path_shape.specs.Outlines.{place_form, length_inside, length_on_legs, meets_legs}
use Rattle.path_shape.specs.inner.Stretches.{on_first_leg, on_second_leg}
use Rattle.term_ground.specs.inner.Walks.{of_stretches, each_stretch, IsLeg, HasLegs, IsRoute, lengths_on_leg, lengths_on_path, joined_lengths}
use Rattle.path_shape.proofs.Outlines.{same-length_inside}

leg-is : (outline : List Pt) (leg : Leg) (start : Pt) (dir : Dir) (end : Frac) (stretches : Stretches) → IsLeg leg start dir end stretches
    → lengths_on_leg outline leg
    ≡ then_some (meets_of outline start dir end) (of_stretches (λ stretch. enc (length_inside outline start dir (Known stretch.from) (Known stretch.to))) stretches)
leg-is outline leg start dir end stretches h = rw (h.start_is, h.dir_is, h.end_is, h.stretches_are) refl

-- what either leg gives, by whether it is met
joined-is : (m n : Bool) (a a' b b' : Stretch → Tree) (stretches : Stretches)
    → ((stretch : Stretch) → enc (a stretch) ≡ enc (a' stretch)) → ((stretch : Stretch) → enc (b stretch) ≡ enc (b' stretch))
    → joined_lengths (then_some m (of_stretches (λ stretch. enc (a stretch)) stretches)) (then_some n (of_stretches (λ stretch. enc (b stretch)) stretches))
    ≡ then_some (m || n) (of_stretches (λ stretch. enc (Add (if m then a' stretch else zero_form) (if n then b' stretch else zero_form))) stretches)
joined-is true true a a' b b' stretches e f =
    rw (e stretches.source, e stretches.middle, e stretches.receiver, f stretches.source, f stretches.middle, f stretches.receiver) refl
joined-is true false a a' b b' stretches e f = rw (e stretches.source, e stretches.middle, e stretches.receiver) refl
joined-is false true a a' b b' stretches e f = rw (f stretches.source, f stretches.middle, f stretches.receiver) refl
joined-is false false a a' b b' stretches e f = refl

both-legs : (outline : List Pt) (legs : Legs) (s r : Pt) (stretches : Stretches) (first second : Leg) → HasLegs legs s r stretches first (Some second)
    → joined_lengths (lengths_on_leg outline first) (lengths_on_leg outline second)
    ≡ then_some (meets_legs legs s r outline) (of_stretches (λ stretch. enc (length_on_legs legs s r outline (Known stretch.from) (Known stretch.to))) stretches)
both-legs outline (One dir) s r stretches first second (h, none) = absurd (grind arith)
both-legs outline (Two to_wall back p) s r stretches first second (h, k) =
    rw (leg-is outline first s to_wall p (each_stretch (on_first_leg p) stretches) h, leg-is outline second r back (rest_of p) (each_stretch (on_second_leg p) stretches) k)
    (joined-is (meets_of outline s to_wall p) (meets_of outline r back (rest_of p))
    (λ stretch. length_inside outline s to_wall (Known (on_first_leg p stretch).from) (Known (on_first_leg p stretch).to))
    (λ stretch. length_inside outline s to_wall (Known stretch.from) (Min (Known stretch.to) (place_form p)))
    (λ stretch. length_inside outline r back (Known (on_second_leg p stretch).from) (Known (on_second_leg p stretch).to))
    (λ stretch. length_inside outline r back (Sub one_form (Known stretch.to)) (Min (Sub one_form (Known stretch.from)) (place_form (rest_of p))))
    stretches
    (λ stretch. same-length_inside outline s to_wall _ _ _ _ refl refl)
    (λ stretch. same-length_inside outline r back _ _ _ _ refl refl))

pub route-lengths : (outline : List Pt) (route : Route) (path : Path) (second : Leg) → IsRoute route path → route.second ≡ Some second
    → joined_lengths (lengths_on_leg outline route.first) (lengths_on_leg outline second) ≡ lengths_on_path outline path
route-lengths outline route path second is e =
    let legs = subst (λ (leg : Option Leg). HasLegs path.legs path.s path.r route.stretches route.first leg) e is.legs_are in
    both-legs outline path.legs path.s path.r route.stretches route.first second legs
    ∙ ap (λ (stretches : Stretches). then_some (meets_legs path.legs path.s path.r outline) (of_stretches (λ stretch. enc (length_on_legs path.legs path.s path.r outline (Known stretch.from) (Known stretch.to))) stretches)) is.stretches_are
