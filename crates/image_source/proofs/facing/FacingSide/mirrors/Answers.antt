use Rattle.std.proofs.Common.{◌≡◌, ◌≤◌, ◌∙◌, ap, sym, subst, refl, arith}
use Rattle.std.specs.Prelude.{ℤ, pos, true, unsigned_abs}
use Rattle.std.proofs.lemmas.Int.{ints}
use Rattle.scene_geom.specs.Point.{along}
use Rattle.scene_geom.specs.Reflection.{are_on_one_side, have_one_sign}
use Rattle.scene_geom.proofs.Walls.{dot-abs}
use Rattle.image_source.specs.Facing.{FacingSide, may_mirror}
use Rattle.image_source.specs.inner.Facing.{strikes_by}
use Rattle.image_source.proofs.Even.{still-short}
use Rattle.image_source.proofs.Listing.{struck-is}
use Rattle.image_source.proofs.facing.FacingSide.mirrors.Goals as goal
use Rattle.image_source.proofs.facing.FacingSide.mirrors.Goals.{After-abs-2}

-- both places are on one side of the line
signs-same : (a b a' b' : ℤ) → a ≡ a' → b ≡ b' → have_one_sign a b ≡ have_one_sign a' b'
signs-same a b a' b' e f = rw (e, f) refl

on-one-side : (c : After-abs-2) → are_on_one_side c.self.inside.owned.side c.args.s c.self.inside.at ≡ true
on-one-side c =
    sym (c.one_sign.ensures ∙ signs-same _ _ _ _ (still-short c.off_line-off.result c.off_line-off.ensures.within ∙ c.off_line-off.ensures.value) (still-short c.self.inside.off c.self.invariant.off_within ∙ c.self.invariant.off_line))
    ∙ c.if-not-one_sign.false

-- distances from the line as the code has them
few : (x a : ℤ) → unsigned_abs a ≤ 128000000000000 → x ≡ pos (unsigned_abs a) → unsigned_abs x ≤ 128000000000000
few x a h e = omega (arith, ints)

strikes-same : (s b r h e s' b' r' h' e' : ℤ) → s ≡ s' → b ≡ b' → r ≡ r' → h ≡ h' → e ≡ e' → strikes_by s b r h e ≡ strikes_by s' b' r' h' e'
strikes-same s b r h e s' b' r' h' e' i j k l m = rw (i, j, k, l, m) refl

pub abs-requires-2 : goal.abs-requires-2
abs-requires-2 c = omega (arith, ints, still-short c.self.inside.off c.self.invariant.off_within, c.self.invariant.off_within)

behind-few : (c : After-abs-2) → unsigned_abs c.abs-2.result ≤ 128000000000000
behind-few c = few c.abs-2.result c.self.inside.off c.self.invariant.off_within (c.abs-2.ensures.value ∙ ap (λ (z : ℤ). pos (unsigned_abs z)) (still-short c.self.inside.off c.self.invariant.off_within))

before-few : (c : After-abs-2) → unsigned_abs c.abs.result ≤ 128000000000000
before-few c = few c.abs.result c.off_line-off.result c.off_line-off.ensures.within (c.abs.ensures.value ∙ ap (λ (z : ℤ). pos (unsigned_abs z)) (still-short c.off_line-off.result c.off_line-off.ensures.within))

pub strikes-requires-clause-behind : goal.strikes-requires-clause-behind
strikes-requires-clause-behind c = rw (still-short c.abs-2.result (behind-few (goal.at.strikes-requires-clause-behind c).After-abs-2)) (behind-few (goal.at.strikes-requires-clause-behind c).After-abs-2)

pub returns : goal.returns
returns c =
    let inside = c.self.inside in
    let inv = c.self.invariant in
    let at = (goal.at.returns c).After-abs-2 in
    let off = still-short c.off_line-off.result c.off_line-off.ensures.within in
    subst (λ (f : FacingSide). c.strikes.result ≡ may_mirror f.owned.side c.args.s f.at) c.self.view_is
    (c.strikes.ensures
    ∙ strikes-same _ _ _ _ _ _ _ _ _ _
    (still-short c.ahead.result c.ahead.ensures.within ∙ c.ahead.ensures.value)
    (still-short c.abs.result (before-few at) ∙ c.abs.ensures.value ∙ ap (λ (z : ℤ). pos (unsigned_abs z)) (off ∙ c.off_line-off.ensures.value))
    (still-short c.ahead-2.result c.ahead-2.ensures.within ∙ c.ahead-2.ensures.value)
    (still-short c.abs-2.result (behind-few at) ∙ c.abs-2.ensures.value ∙ ap (λ (z : ℤ). pos (unsigned_abs z)) (still-short inside.off inv.off_within ∙ inv.off_line))
    (still-short c.ahead-end.result c.ahead-end.ensures.within ∙ c.ahead-end.ensures.value ∙ dot-abs (along inside.owned.side))
    ∙ struck-is inside.owned.side c.args.s inside.at (on-one-side at))
