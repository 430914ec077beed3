use Rattle.std.proofs.Common.{◌≡◌, get_or, arith, ap, sym, subst, ◌∙◌, inl, inr}
use Rattle.std.proofs.lemmas.Bool.{cases_lt}
use Rattle.std.proofs.lemmas.List.{get_or_read}
use Rattle.std.proofs.lemmas.List.Sums.{fold_more}
use Rattle.scene_geom.specs.declared.plan.Side.{Side}
use Rattle.part_grid.specs.declared.cells.frame.Frame.{Frame}
use Rattle.part_grid.specs.declared.owned.Owned.{Owned}
use Rattle.part_grid.specs.inner.Index.{framed, no_frame, hull, Holds}
use Rattle.part_grid.proofs.cells.frame.frame_of.Goals as goal

-- what a frame holds, and the side that comes to it, are held
still : (frame : Frame) (owned : Owned) (side : Side) → Holds frame side → Holds (framed frame owned) side
still frame owned side h = record {
  columns = record { low = omega (arith, h.columns.low); high = omega (arith, h.columns.high) };
  rows = record { low = omega (arith, h.rows.low); high = omega (arith, h.rows.high) };
}

own : (frame : Frame) (owned : Owned) → Holds (framed frame owned) owned.side
own frame owned = record { columns = record { low = omega arith; high = omega arith }; rows = record { low = omega arith; high = omega arith } }

pub loop-owned-preserved : goal.loop-owned-preserved
loop-owned-preserved c =
    let frame = c.loop-owned.frame in let owned = c.owned-item.result in let i = c.loop-owned.owned-index in
    let columns = c.hull-frame.ensures ∙ ap (hull frame.columns) c.columns_between.ensures.value in
    let rows = c.hull-frame-in-loop-owned.ensures ∙ ap (hull frame.rows) c.rows_between.ensures.value in
    let new : Frame = record { columns = c.hull-frame.result; rows = c.hull-frame-in-loop-owned.result } in
    let is : new ≡ framed frame owned = ap (λ columns. record { columns = columns; rows = c.hull-frame-in-loop-owned.result }) columns ∙ ap (λ rows. record { columns = (framed frame owned).columns; rows = rows }) rows in
    record {
      value = is ∙ ap (λ f. framed f owned) c.loop-owned.invariant.value
          ∙ sym (fold_more framed no_frame c.args.sides.now i owned c.loop-owned-test.true ∙ ap (framed _) (sym c.owned-item.is));
      columns = omega (arith, ap (λ s. s.high) c.hull-frame.ensures, c.columns_between.ensures.within, c.loop-owned.invariant.columns);
      rows = omega (arith, ap (λ s. s.high) c.hull-frame-in-loop-owned.ensures, c.rows_between.ensures.within, c.loop-owned.invariant.rows);
      holds = λ k d below.
          subst (λ (f : Frame). Holds f (get_or c.args.sides.now k d).side) (sym is)
          (elim (cases_lt k i) [
            | inl before ↦ still frame owned (get_or c.args.sides.now k d).side (c.loop-owned.invariant.holds k d before)
            | inr last ↦
                (let here : owned ≡ get_or c.args.sides.now k d =
                get_or_read c.args.sides.now i owned c.loop-owned-test.true c.owned-item.is d ∙ ap (λ n. get_or c.args.sides.now n d) (let same : i ≡ k = omega arith in same) in
                subst (λ (o : Owned). Holds (framed frame owned) o.side) here (own frame owned))
          ]);
    }
