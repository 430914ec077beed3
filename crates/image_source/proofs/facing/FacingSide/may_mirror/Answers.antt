use Rattle.std.proofs.Common.{◌≡◌, ◌∙◌, sym, subst, refl, arith}
use Rattle.std.specs.Prelude.{ℕ, ℤ, false}
use Rattle.image_source.specs.Facing.{FacingSide, may_mirror}
use Rattle.image_source.specs.inner.Facing.{is_among}
use Rattle.image_source.proofs.Listing.{passed-none}
use Rattle.image_source.proofs.Reaching.{first-within, count-within, still-wide, reached}
use Rattle.image_source.proofs.facing.FacingSide.may_mirror.Goals as goal

pub is_among-requires-clause-first : goal.is_among-requires-clause-first
is_among-requires-clause-first c =
    let h = first-within _ _ _ _ _ _ _ c.self.invariant in
    rw (still-wide c.self.inside.first (omega (arith, h))) h

pub is_among-requires-clause-count : goal.is_among-requires-clause-count
is_among-requires-clause-count c = count-within _ _ _ _ _ _ _ c.self.invariant

among-same : (p f p' f' : ℤ) (n : ℕ) → p ≡ p' → f ≡ f' → is_among p f n ≡ is_among p' f' n
among-same p f p' f' n d e = rw (d, e) refl

pub returns-then-not-is_among : goal.returns-then-not-is_among
returns-then-not-is_among c =
    let inside = c.self.inside in
    let inv = c.self.invariant in
    let first = still-wide inside.first (omega (arith, first-within _ _ _ _ _ _ _ inv)) in
    let source = reached inside.owned.side c.args.s c.reach.result inside.dx inside.dy inv.across inv.upward c.reach.ensures.within c.reach.ensures.value in
    subst (λ (f : FacingSide). false ≡ may_mirror f.owned.side c.args.s f.at) c.self.view_is
    (passed-none inside.owned.side c.args.s inside.at inside.first inside.count inv.begins inv.ends
    (sym (c.is_among.ensures ∙ among-same _ _ _ _ inside.count source first) ∙ c.if-not-is_among.true))
