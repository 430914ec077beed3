-- What the code asks of a part, in another order than the definitions.
use Rattle.std.proofs.Common.{◌≡◌, refl, sym, ap, ◌∙◌, Bool, true, false, ◌||◌, List}
use Rattle.std.specs.List.{list_any}
use Rattle.scene_geom.specs.declared.plan.Side.{Side}
use Rattle.scene_parts.specs.Parts.{Source, Receiver, Obstacle, sides_of}
use Rattle.scene_parts.specs.declared.parts.Part.{Part}
use Rattle.scene_parts.specs.declared.parts.Part.TheVariants as parts
use Rattle.scene_parts.specs.declared.screening.ends.Ends.{Ends}
use Rattle.image_source.specs.Mirrors.{has_mirror}
use Rattle.path_calc.specs.declared.bundles.segments.Seg.{Seg}
use Rattle.touch_test.specs.Crossings.{crosses_segment}
use Rattle.touch_test.specs.Touches.{TracedPath, obstacle_touches, outline_of, outline_touches, part_touches}
use Rattle.touch_test.proofs.Lists.{none-passes, any-or, exchanged}

-- ---- one test or another

pub first-of : (r p q whole : Bool) → r ≡ p → r ≡ true → (p || q) ≡ whole → r ≡ whole
first-of r true q whole e h is = h ∙ is
first-of r false q whole e h is = cc

pub second-of : (r s p q whole : Bool) → r ≡ p → r ≡ false → s ≡ q → (p || q) ≡ whole → s ≡ whole
second-of r s true q whole e h k is = cc
second-of r s false q whole e h k is = k ∙ is

-- ---- mirrors

-- an obstacle that is taken as absorbing mirrors nothing
pub absorbs : (o : Obstacle) (ends : Ends) → o.rho ≡ 0 → list_any (λ side. has_mirror o side ends) (sides_of o) ≡ false
absorbs o ends e = none-passes (λ side. has_mirror o side ends) (sides_of o) (λ side i. rw e refl)

-- ---- obstacles

pub by-segments : (ends : Ends) (trace : List Seg) (o : Obstacle)
    → (list_any (λ segment. list_any (λ side. crosses_segment side segment) (sides_of o)) trace
    || list_any (λ side. has_mirror o side ends) (sides_of o)) ≡ obstacle_touches ends trace o
by-segments ends trace o =
    ap (λ (b : Bool). b || list_any (λ (side : Side). has_mirror o side ends) (sides_of o))
    (exchanged (λ (segment : Seg) (side : Side). crosses_segment side segment) trace (sides_of o))
    ∙ sym (any-or (λ (side : Side). list_any (crosses_segment side) trace) (λ (side : Side). has_mirror o side ends) (sides_of o))

-- ---- all others

-- a part that is neither a source nor an obstacle nor a receiver touches by its outline
pub by-outline : (path : TracedPath) (part : Part) → ((s : Source) → part ≡ parts.Source s → ⊥)
    → ((o : Obstacle) → part ≡ parts.Obstacle o → ⊥) → ((r : Receiver) → part ≡ parts.Receiver r → ⊥)
    → outline_touches path.ends path.trace (outline_of part) ≡ part_touches path part
by-outline path (parts.Source s) no-source no-obstacle no-receiver = absurd (no-source s refl)
by-outline path (parts.Obstacle o) no-source no-obstacle no-receiver = absurd (no-obstacle o refl)
by-outline path (parts.Receiver r) no-source no-obstacle no-receiver = absurd (no-receiver r refl)
by-outline path part no-source no-obstacle no-receiver = refl
