use Rattle.std.proofs.Common.{◌≡◌, ◌∙◌, ap, sym, refl}
use Rattle.std.specs.Prelude.{Bool, true, false, ◌&&◌}
use Rattle.std.specs.Ordering.{int_eq}
use Rattle.std.proofs.lemmas.Bool.Decides.{Decides-int_eq}
use Rattle.scene_geom.specs.declared.plan.Pt.{Pt}
use Rattle.scene_geom.specs.Point.{Pt_eq}
use Rattle.scene_book.specs.Book.{Book}
use Rattle.image_source.specs.Facing.{facing_sides}
use Rattle.path_calc.proofs.indexed.IndexedScene.facing.Goals as goal

-- two tests that both hold
first : (a b : Bool) → (a && b) ≡ true → a ≡ true
first true b h = refl
first false b h = absurd (cc)

second : (a b : Bool) → (a && b) ≡ true → b ≡ true
second true b h = h
second false b h = absurd (cc)

point-same : (p q : Pt) → (int_eq p.x q.x && int_eq p.y q.y) ≡ true → p ≡ q
point-same p q h = Pt_eq p q ((Decides-int_eq p.x q.x).0 (first _ _ h)) ((Decides-int_eq p.y q.y).0 (second _ _ h))

pub returns-then-eq : goal.returns-then-eq
returns-then-eq c =
    let listed = rw c.in_ok-facing.was at c.self.invariant.1 in
    c.sides.ensures
    ∙ listed
    ∙ ap (λ (p : Pt). facing_sides p c.self.inside.scene.now.obstacles) (sym c.at.ensures ∙ point-same c.at.result c.args.at (sym c.eq.ensures ∙ c.if-eq.true))
    ∙ ap (λ (b : Book). facing_sides c.args.at b.obstacles) c.self.view_is
