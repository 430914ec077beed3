use Rattle.std.proofs.Common.{◌≡◌, ◌∙◌, sym, refl, arith}
use Rattle.std.specs.Prelude.{ℤ}
use Rattle.std.proofs.lemmas.Int.{ints}
use Rattle.scene_geom.specs.Point.{along}
use Rattle.image_source.specs.inner.Facing.{least_reach, reach_end}
use Rattle.image_source.proofs.Even.{still-short, way-is}
use Rattle.image_source.proofs.Reaching.{IsBounded, bounded, still-wide, still-step, reached, count-fits, counted}
use Rattle.image_source.proofs.facing.FacingSide.of.Goals as goal
use Rattle.image_source.proofs.facing.FacingSide.of.Goals.{After-reach_end-end}
use mir.Syntax.{w32}
use mir.Val.{to_z, of_z}

-- the side's step
across : (c : After-reach_end-end) → to_z w32 (of_z w32 c.step-dx.result) ≡ (along c.args.owned.side).x
across c =
    let side = c.args.owned.side in
    still-step c.step-dx.result c.step-dx.ensures.within ∙ way-is c.step-dx.result side.from.x side.to.x side.from.x_in_plan side.to.x_in_plan c.step-dx.ensures.value

upward : (c : After-reach_end-end) → to_z w32 (of_z w32 c.step-dy.result) ≡ (along c.args.owned.side).y
upward c =
    let side = c.args.owned.side in
    still-step c.step-dy.result c.step-dy.ensures.within ∙ way-is c.step-dy.result side.from.y side.to.y side.from.y_in_plan side.to.y_in_plan c.step-dy.ensures.value

least-same : (s r s' r' : ℤ) → s ≡ s' → r ≡ r' → least_reach s r ≡ least_reach s' r'
least-same s r s' r' e f = rw (e, f) refl

end-same : (s r s' r' : ℤ) → s ≡ s' → r ≡ r' → reach_end s r ≡ reach_end s' r'
end-same s r s' r' e f = rw (e, f) refl

-- where its reaches begin and end
bounds : (c : After-reach_end-end) → IsBounded c.args.owned.side c.args.at c.least_reach-first.result c.reach_end-end.result
bounds c =
    let side = c.args.owned.side in
    let x = sym (still-step c.step-dx.result c.step-dx.ensures.within) ∙ across c in
    let y = sym (still-step c.step-dy.result c.step-dy.ensures.within) ∙ upward c in
    let receiver = reached side c.args.at c.reach-receiver.result c.step-dx.result c.step-dy.result x y c.reach-receiver.ensures.within c.reach-receiver.ensures.value in
    let start = reached side side.from c.reach.result c.step-dx.result c.step-dy.result x y c.reach.ensures.within c.reach.ensures.value in
    let finish = reached side side.to c.reach-2.result c.step-dx.result c.step-dy.result x y c.reach-2.ensures.within c.reach-2.ensures.value in
    bounded side c.args.at c.least_reach-first.result c.reach_end-end.result
    (c.least_reach-first.ensures ∙ least-same _ _ _ _ start receiver)
    (c.reach_end-end.ensures ∙ end-same _ _ _ _ finish receiver)
    c.requires.long

pub invariant_of-result : goal.invariant_of-result
invariant_of-result c =
    let b = bounds c in
    record {
      across = across c;
      upward = upward c;
      begins = still-wide c.least_reach-first.result (omega (arith, b.first_within)) ∙ b.begins;
      ends = counted c.least_reach-first.result c.reach_end-end.result b.first_within b.end_within b.in_order ∙ b.ends;
      off_line = still-short c.args.off c.requires.within ∙ c.requires.off_line;
      off_within = rw (still-short c.args.off c.requires.within) c.requires.within;
    }

pub overflow_sub-result : goal.overflow_sub-result
overflow_sub-result c = let b = bounds c in omega (arith, ints, b.first_within, b.end_within)

pub overflow_cast-result : goal.overflow_cast-result
overflow_cast-result c =
    let b = bounds c in
    count-fits c.least_reach-first.result c.reach_end-end.result b.first_within b.end_within b.in_order
